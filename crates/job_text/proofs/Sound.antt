-- What a text says holds together: a job may have each section, and no two sections have the same subject.
use Rattle.std.proofs.Common.{◌≡◌, ◌⊎◌, ℕ, ◌+◌, ◌-◌, ◌^◌, ◌<◌, ◌≤◌, Bool, true, false, eqb, ltb, cond, List, [], ◌∷◌, ◌++◌, Option, Some, None, length, codes, refl, ap, subst, ◌∙◌, ⊎_elim, inl, inr, arith, append_assoc, length-append, IfOk, IfSome}
use Rattle.std.specs.declared.result.Result.{Result}
use Rattle.std.specs.declared.result.Result.TheVariants.{Ok, Err}
use Rattle.std.specs.List.{AllByRecursion}
use Rattle.std.specs.Str.{bytes_eq}
use Rattle.std.proofs.lemmas.Bool.{cases_Bool, cond_both, ltb-true}
use Rattle.tn_base.specs.declared.shape.ShapeNumbers.{ShapeNumbers}
use Rattle.tn_text.specs.declared.numbers.Numeral.{Numeral}
use Rattle.tn_text.specs.declared.numbers.Numeral.TheVariants.{Value, TooLarge, NoNumber}
use Rattle.tn_text.specs.declared.stop.Fault.{Fault}
use Rattle.tn_text.specs.declared.stop.Stop.{Stop}
use Rattle.tn_text.specs.Content.{content_of, is_plain}
use Rattle.tn_text.specs.Gives.{Gives}
use Rattle.tn_text.specs.Hex.{hex_array_of, hex_word_of}
use Rattle.tn_text.specs.Lines.{lines_of, feed}
use Rattle.tn_text.specs.NumberLists.{numbers_in}
use Rattle.tn_text.specs.Numbers.{number_of}
use Rattle.tn_text.specs.Reading.{and_on}
use Rattle.tn_text.specs.Words.{words_of, one_of, two_of}
use Rattle.job_text.specs.declared.draft.Draft.{Draft}
use Rattle.job_text.specs.declared.draft.Place.{Place}
use Rattle.job_text.specs.declared.draft.Place.TheVariants.{AtHeader, AtShape, AtSettings, AtSections, Inside}
use Rattle.job_text.specs.declared.job.CodeSection.{CodeSection}
use Rattle.job_text.specs.declared.job.Job.{Job}
use Rattle.job_text.specs.declared.job.JobKind.{JobKind}
use Rattle.job_text.specs.declared.job.JobKind.TheVariants.{NoShape, BadLine, Twice, TooMany}
use Rattle.job_text.specs.declared.job.Section.{Section}
use Rattle.job_text.specs.declared.job.Section.TheVariants as section
use Rattle.job_text.specs.declared.job.TableSection.{TableSection}
use Rattle.job_text.specs.declared.job.TextSection.{TextSection}
use Rattle.job_text.specs.declared.keyword.Keyword.{Keyword}
use Rattle.job_text.specs.declared.keyword.Keyword.TheVariants.{Number, Code, Asm, Fill, Table, Host, Graph}
use Rattle.job_text.specs.declared.keyword.Setting.{Setting}
use Rattle.job_text.specs.declared.keyword.Setting.TheVariants.{Slots, Link, Mem, Fuel, Turn}
use Rattle.job_text.specs.declared.named.Named.{Named}
use Rattle.job_text.specs.declared.named.Subject.{Subject}
use Rattle.job_text.specs.declared.named.Subject.TheVariants.{AllCode, TileCode, BoardTable, TheGraph}
use Rattle.job_text.specs.Arguments.{◌>>=◌, number_by, number_in}
use Rattle.job_text.specs.Keyword.{keyword_of, setting_in, with_setting}
use Rattle.job_text.specs.Named.{is_named, nothing_named, section_named, subject_of}
use Rattle.job_text.specs.Numbered.{AreNumbered, HaveNumbers, IsNumbered}
use Rattle.job_text.specs.SectionLines.{is_whole, section_begun, word_added, word_by, word_line, beat_added, beat_by, beat_line, text_added, with_line}
use Rattle.job_text.specs.Sections.{job_sections, with_section}
use Rattle.job_text.specs.Text.{version_number, version_by, headed, header_line, shaped, shape_line, set_once, takes_settings, setting_line, closed, opened, opened_by, begun, going_on, inside_line, keyword_line, entry_line, content_line, bare, step, start, drafted, ended, job_by, job_of}
use Rattle.job_text.specs.WellFormed.{AreNumbers, IsBeat, IsCode, IsGraph, IsSection, IsTable, IsTextLine, IsWellFormed}
use Rattle.job_text.proofs.Begins.{AreSome, IsWithin, SectionIs, begins, bind_ok, goes_on}
use Rattle.job_text.proofs.Bytes.{array_fits, index_fits, numbers_in_fit, one_fits, word_fits}
use Rattle.job_text.proofs.Contents.{content_good, words_some}
use Rattle.job_text.proofs.Names.{counted, mark, named_more, named_once, one, one_most}
use Rattle.job_text.proofs.Sections.{IsFree, all_push, all_with, counted_with, each_asm, each_graph, graph_none}
use Rattle.job_text.proofs.WholeLines.{one_more, text_push}

-- The numbers of a job.
pub record HeadIs (v : ℕ) (n : ShapeNumbers) : Type 0 where
  pub version : (v ≡ 1) ⊎ (v ≡ 2)
  pub same : n.version ≡ v
  pub numbers : AreNumbers n

-- What is read behind so many lines: a job, what its sections have named, and the section that is open, if there is one.
pub record Sound (n : ℕ) (job : Job) (named : Named) (open_ones : List Section) : Type 0 where
  pub head : HeadIs job.version job.numbers
  pub sections : AllByRecursion (SectionIs n) (job_sections job)
  pub inside : AllByRecursion (SectionIs n) open_ones
  pub once : (k : Subject) → counted k (job_sections job) + counted k open_ones ≡ one (is_named k named)
  -- the line of the shape
  pub low : job.number_lines.version ≤ n

abbrev pub open_at : Place → List Section
open_at (Inside s) = s ∷ []
open_at _ = []

abbrev pub SoundAt : ℕ → Draft → Type 0
SoundAt n d = Sound n d.job d.named (open_at d.place)

pub ok_has : {A : Type 0} (P : A → Type 0) (x y : A) → P x → ◌≡◌ {A = Result A JobKind} (Ok x) (Ok y) → P y
ok_has P x y h e = let same : x ≡ y = cc in subst P same h

-- One line later.

within_later : (m n : ℕ) (s : Section) → m ≤ n → IsWithin m s → IsWithin n s
within_later m n (section.Asm s) le h = record { end = omega (arith, h.end, le) }
within_later m n (section.Graph s) le h = record { end = omega (arith, h.end, le) }
within_later m n _ le h = tt

later : (m n : ℕ) (ss : List Section) → m ≤ n → AllByRecursion (SectionIs m) ss → AllByRecursion (SectionIs n) ss
later m n [] le h = tt
later m n (s ∷ ss) le h = (record { good = h.0.good; within = within_later m n s le h.0.within }, later m n ss le h.1)

sound_later : (n : ℕ) (job : Job) (named : Named) (ss : List Section) → Sound n job named ss → Sound (n + 1) job named ss
sound_later n job named ss h = record {
  head = h.head;
  sections = later n (n + 1) (job_sections job) (omega arith) h.sections;
  inside = later n (n + 1) ss (omega arith) h.inside;
  once = h.once;
  low = omega (arith, h.low);
}

pub at_place : (n : ℕ) (d : Draft) (p : Place) → d.place ≡ p → SoundAt n d → Sound n d.job d.named (open_at p)
at_place n d p e h = subst (λ (q : Place). Sound n d.job d.named (open_at q)) e h

-- The header.

version_two : (w : List ℕ) (v : ℕ) → cond (bytes_eq w (codes "2")) (Some 2) None ≡ Some v → v ≡ 2
version_two w v h =
    ⊎_elim (λ e. let k : Some 2 ≡ Some v = rw e at h in cc) (λ e. let k : None ≡ Some v = rw e at h in cc) (cases_Bool (bytes_eq w (codes "2")))

version_one : (w : List ℕ) (v : ℕ) (b : Bool) → b ≡ bytes_eq w (codes "1") → cond b (Some 1) (cond (bytes_eq w (codes "2")) (Some 2) None) ≡ Some v → (v ≡ 1) ⊎ (v ≡ 2)
version_one w v true e h = let same : v ≡ 1 = cc in inl same
version_one w v false e h = inr (version_two w v h)

version_is : (w : List ℕ) (v : ℕ) → version_number w ≡ Some v → (v ≡ 1) ⊎ (v ≡ 2)
version_is w v h = version_one w v (bytes_eq w (codes "1")) refl h

version_by_is : (o : Option (List ℕ × List ℕ)) (v : ℕ) → version_by o ≡ Some v → (v ≡ 1) ⊎ (v ≡ 2)
version_by_is None v h = cc
version_by_is (Some ws) v h =
    ⊎_elim (λ e. let k : version_number ws.1 ≡ Some v = rw e at h in version_is ws.1 v k)
    (λ e. let k : None ≡ Some v = rw e at h in cc) (cases_Bool (bytes_eq ws.0 (codes "tinsel")))

take_headed : (d e : Draft) (n : ℕ) (o : Option ℕ) → ((v : ℕ) → o ≡ Some v → (v ≡ 1) ⊎ (v ≡ 2)) → Sound n d.job d.named [] → headed d n o ≡ Ok e → SoundAt n e
take_headed d e n None is h t = cc
take_headed d e n (Some v) is h t =
    let m = h.head.numbers in
    ok_has (SoundAt n) _ e (record {
      head = record { version = is v refl; same = refl; numbers = record { boards_x = m.boards_x; boards_y = m.boards_y; tiles_x = m.tiles_x; tiles_y = m.tiles_y; cores = m.cores; threads = m.threads; slots = m.slots; link = m.link; mem = m.mem; fuel = m.fuel; turn = m.turn } };
      sections = h.sections;
      inside = tt;
      once = h.once;
      low = h.low;
    }) t

take_header : (d e : Draft) (n : ℕ) (ws : List (List ℕ)) → SoundAt n d → Sound n d.job d.named [] → header_line d n ws ≡ Ok e → SoundAt n e
take_header d e n [] h c t = ok_has (SoundAt n) d e h t
take_header d e n (w ∷ ws) h c t = take_headed d e n (version_by (two_of (w ∷ ws))) (λ v. version_by_is (two_of (w ∷ ws)) v) c t

-- The shape.

take_shaped : (d e : Draft) (n : ℕ) (r : Numeral (List ℕ)) → ((ns : List ℕ) → r ≡ Value ns → AllByRecursion (λ k. k < 2 ^ 32) ns) → Sound n d.job d.named [] → shaped d n r ≡ Ok e → SoundAt n e
take_shaped d e n (Value ns) fit h t =
    let m = h.head.numbers in
    let fits = fit ns refl in
    ok_has (SoundAt n) _ e (record {
      head = record { version = h.head.version; same = h.head.same; numbers = record { boards_x = index_fits ns 0 fits; boards_y = index_fits ns 1 fits; tiles_x = index_fits ns 2 fits; tiles_y = index_fits ns 3 fits; cores = index_fits ns 4 fits; threads = index_fits ns 5 fits; slots = m.slots; link = m.link; mem = m.mem; fuel = m.fuel; turn = m.turn } };
      sections = h.sections;
      inside = tt;
      once = h.once;
      low = omega arith;
    }) t
take_shaped d e n TooLarge fit h t = cc
take_shaped d e n NoNumber fit h t = cc

take_shape : (d e : Draft) (n : ℕ) (ws : List (List ℕ)) → SoundAt n d → Sound n d.job d.named [] → shape_line d n ws ≡ Ok e → SoundAt n e
take_shape d e n [] h c t = ok_has (SoundAt n) d e h t
take_shape d e n (w ∷ ws) h c t =
    ⊎_elim (λ f. let k : shaped d n (numbers_in 6 ws) ≡ Ok e = rw f at t in take_shaped d e n (numbers_in 6 ws) (numbers_in_fit 6 ws) c k)
    (λ f. let k : Err NoShape ≡ Ok e = rw f at t in cc) (cases_Bool (bytes_eq w (codes "shape")))

-- Settings.

number_by_fits : (o : Option (List ℕ)) (n : ℕ) → number_by o ≡ Ok n → n < 2 ^ 32
number_by_fits None n h = cc
number_by_fits (Some w) n h = one_fits (number_of w) w n refl h

set_fits : (s : Setting) (v : ℕ) (n : ShapeNumbers) → AreNumbers n → v < 2 ^ 32 → AreNumbers (with_setting s v n)
set_fits Slots v n h fit = record { boards_x = h.boards_x; boards_y = h.boards_y; tiles_x = h.tiles_x; tiles_y = h.tiles_y; cores = h.cores; threads = h.threads; slots = fit; link = h.link; mem = h.mem; fuel = h.fuel; turn = h.turn }
set_fits Link v n h fit = record { boards_x = h.boards_x; boards_y = h.boards_y; tiles_x = h.tiles_x; tiles_y = h.tiles_y; cores = h.cores; threads = h.threads; slots = h.slots; link = fit; mem = h.mem; fuel = h.fuel; turn = h.turn }
set_fits Mem v n h fit = record { boards_x = h.boards_x; boards_y = h.boards_y; tiles_x = h.tiles_x; tiles_y = h.tiles_y; cores = h.cores; threads = h.threads; slots = h.slots; link = h.link; mem = fit; fuel = h.fuel; turn = h.turn }
set_fits Fuel v n h fit = record { boards_x = h.boards_x; boards_y = h.boards_y; tiles_x = h.tiles_x; tiles_y = h.tiles_y; cores = h.cores; threads = h.threads; slots = h.slots; link = h.link; mem = h.mem; fuel = fit; turn = h.turn }
set_fits Turn v n h fit = record { boards_x = h.boards_x; boards_y = h.boards_y; tiles_x = h.tiles_x; tiles_y = h.tiles_y; cores = h.cores; threads = h.threads; slots = h.slots; link = h.link; mem = h.mem; fuel = h.fuel; turn = fit }

pub set_version : (s : Setting) (v : ℕ) (n : ShapeNumbers) → (with_setting s v n).version ≡ n.version
set_version Slots v n = refl
set_version Link v n = refl
set_version Mem v n = refl
set_version Fuel v n = refl
set_version Turn v n = refl

take_once : (d e : Draft) (n : ℕ) (s : Setting) (v : ℕ) → SoundAt n d → v < 2 ^ 32 → set_once d n s v ≡ Ok e → SoundAt n e
take_once d e n s v h fit t =
    ⊎_elim (λ f.
    let k = rw f at t in
    ok_has (SoundAt n) _ e (record {
      head = record { version = h.head.version; same = set_version s v d.job.numbers ∙ h.head.same; numbers = set_fits s v d.job.numbers h.head.numbers fit };
      sections = h.sections;
      inside = h.inside;
      once = h.once;
      low = omega (arith, set_version s n d.job.number_lines, h.low);
    }) k)
    (λ f. let k : Err Twice ≡ Ok e = rw f at t in cc) (cases_Bool (eqb (setting_in s d.job.number_lines) d.job.number_lines.version))

take_setting : (d e : Draft) (n : ℕ) (s : Setting) (ws : List (List ℕ)) → SoundAt n d → setting_line d n s ws ≡ Ok e → SoundAt n e
take_setting d e n s ws h t =
    ⊎_elim (λ f.
    let k = rw f at t in
    let b = bind_ok (number_in ws) (set_once d n s) e k in take_once d e n s b.0 h (number_by_fits (one_of ws) b.0 b.1) b.2)
    (λ f. let k : Err BadLine ≡ Ok e = rw f at t in cc) (cases_Bool (takes_settings d.place))

-- Sections that begin and end.

head_with : (job : Job) (s : Section) → HeadIs job.version job.numbers → HeadIs (with_section job s).version (with_section job s).numbers
head_with job (section.Code s) h = h
head_with job (section.Asm s) h = h
head_with job (section.Fill f) h = h
head_with job (section.Table t) h = h
head_with job (section.Script l) h = h
head_with job (section.Graph s) h = h

pub is_free : (job : Job) (s : Section) (b : Bool) → counted TheGraph (job_sections job) + counted TheGraph (s ∷ []) ≡ one b → IsFree job s
is_free job (section.Graph s) b h = graph_none job (omega (arith, h, one_most b))
is_free job _ b h = tt

pub lines_with : (job : Job) (s : Section) → (with_section job s).number_lines ≡ job.number_lines
lines_with job (section.Code s) = refl
lines_with job (section.Asm s) = refl
lines_with job (section.Fill f) = refl
lines_with job (section.Table t) = refl
lines_with job (section.Script l) = refl
lines_with job (section.Graph s) = refl

closed_sound : (n : ℕ) (job : Job) (named : Named) (s : Section) → Sound n job named (s ∷ []) → SoundAt n (closed job named s)
closed_sound n job named s h =
    let free = is_free job s (is_named TheGraph named) (h.once TheGraph) in
    record {
      head = head_with job s h.head;
      sections = all_with (SectionIs n) job s free h.sections h.inside.0;
      inside = tt;
      once = λ k. omega (arith, h.once k, counted_with k job s free);
      low = let e = lines_with job s in rw e h.low;
    }

opened_sound : (n : ℕ) (job : Job) (named : Named) (s : Section) → Sound n job named (s ∷ []) → SoundAt n (opened job s named)
opened_sound n job named s h = cond_both (is_whole s) (closed job named s) (going_on job named s) (SoundAt n) (λ e. closed_sound n job named s h) (λ e. h)

take_opened : (n : ℕ) (job : Job) (named : Named) (s : Section) (o : Option Named) (e : Draft) → Sound n job named [] → SectionIs n s → section_named named s ≡ o → opened_by job s o ≡ Ok e → SoundAt n e
take_opened n job named s None e h is o t = cc
take_opened n job named s (Some m) e h is o t =
    ok_has (SoundAt n) (opened job s m) e (opened_sound n job m s (record {
      head = h.head;
      sections = h.sections;
      inside = (is, tt);
      once = λ k. omega (arith, h.once k, named_more s named m k o);
      low = h.low;
    })) t

take_begun : (n : ℕ) (job : Job) (named : Named) (s : Section) (e : Draft) → Sound n job named [] → SectionIs n s → begun job named s ≡ Ok e → SoundAt n e
take_begun n job named s e h is t = take_opened n job named s (section_named named s) e h is refl t

-- Lines outside sections.

take_section : (d e : Draft) (n : ℕ) (l w : List ℕ) (ws : List (List ℕ)) (key : Keyword) → keyword_of w ≡ Some key → words_of l ≡ w ∷ ws → AreSome ws → (keyword_of w ≡ Some Graph → IsTextLine l)
    → Sound n d.job d.named [] → (section_begun n l key ws >>= begun d.job d.named) ≡ Ok e → SoundAt n e
take_section d e n l w ws key is words some line h t =
    let b = bind_ok (section_begun n l key ws) (begun d.job d.named) e t in
    take_begun n d.job d.named b.0 e h (begins n l w ws key b.0 is words some line b.1) b.2

take_keyword : (d e : Draft) (n : ℕ) (l w : List ℕ) (ws : List (List ℕ)) (key : Option Keyword) → keyword_of w ≡ key → words_of l ≡ w ∷ ws → AreSome ws → (keyword_of w ≡ Some Graph → IsTextLine l)
    → SoundAt n d → Sound n d.job d.named [] → keyword_line d n l key ws ≡ Ok e → SoundAt n e
take_keyword d e n l w ws None is words some line h c t = cc
take_keyword d e n l w ws (Some (Number s)) is words some line h c t = take_setting d e n s ws h t
take_keyword d e n l w ws (Some Code) is words some line h c t = take_section d e n l w ws Code is words some line c t
take_keyword d e n l w ws (Some Asm) is words some line h c t = take_section d e n l w ws Asm is words some line c t
take_keyword d e n l w ws (Some Fill) is words some line h c t = take_section d e n l w ws Fill is words some line c t
take_keyword d e n l w ws (Some Table) is words some line h c t = take_section d e n l w ws Table is words some line c t
take_keyword d e n l w ws (Some Host) is words some line h c t = take_section d e n l w ws Host is words some line c t
take_keyword d e n l w ws (Some Graph) is words some line h c t = take_section d e n l w ws Graph is words some line c t

take_entry : (d e : Draft) (n : ℕ) (l : List ℕ) (ws : List (List ℕ)) → words_of l ≡ ws → AreSome ws → (bytes_eq l (codes "end") ≡ false → IsTextLine l) → SoundAt n d → Sound n d.job d.named [] → entry_line d n l ws ≡ Ok e → SoundAt n e
take_entry d e n l [] is some line h c t = ok_has (SoundAt n) d e h t
take_entry d e n l (w ∷ ws) is some line h c t = take_keyword d e n l w ws (keyword_of w) refl is some.1 (λ key. line (goes_on l w ws is key)) h c t

-- Lines inside sections.

-- a job may have the section with one more line, and its subject is the same
abbrev Onto : ℕ → Section → Section → Type 0
Onto n s t = SectionIs n t × (subject_of t ≡ subject_of s)

abbrev OntoCode : CodeSection → CodeSection → Type 0
OntoCode s t = IsCode t × (t.owner ≡ s.owner)

onto_added : (s t : CodeSection) (o : Option ℕ) → ((x : ℕ) → o ≡ Some x → x < 2 ^ 32) → IsCode s → word_added s o ≡ Ok t → OntoCode s t
onto_added s t None fit h e = cc
onto_added s t (Some x) fit h e =
    ⊎_elim (λ f.
    let k = rw f at e in
    let few = ltb-true (length s.words) 16384 f in
    ok_has (OntoCode s) _ t (record { owner = h.owner; words = all_push (λ w. w < 2 ^ 32) s.words x h.words (fit x refl); few = omega (arith, few, length-append s.words (x ∷ [])) }, refl) k)
    (λ f. let k : Err TooMany ≡ Ok t = rw f at e in cc) (cases_Bool (ltb (length s.words) 16384))

onto_word : (s t : CodeSection) (o : Option (List ℕ)) → IsCode s → word_by s o ≡ Ok t → OntoCode s t
onto_word s t None h e = cc
onto_word s t (Some w) h e = onto_added s t (hex_word_of w) (λ x. word_fits w x) h e

onto_words : (s t : CodeSection) (ws : List (List ℕ)) → IsCode s → word_line s ws ≡ Ok t → OntoCode s t
onto_words s t [] h e = ok_has (OntoCode s) s t (h, refl) e
onto_words s t (w ∷ ws) h e = onto_word s t (one_of (w ∷ ws)) h e

abbrev OntoTable : TableSection → TableSection → Type 0
OntoTable s t = IsTable t × (t.x ≡ s.x) × (t.y ≡ s.y)

onto_array : (s t : TableSection) (n : ℕ) (o : Option (List ℕ)) → ((bytes : List ℕ) → o ≡ Some bytes → IsBeat (record { line = n; bytes = bytes })) → IsTable s → beat_added s n o ≡ Ok t → OntoTable s t
onto_array s t n None fit h e = cc
onto_array s t n (Some bytes) fit h e =
    ⊎_elim (λ f.
    let k = rw f at e in
    let few = ltb-true (length s.beats) 65536 f in
    ok_has (OntoTable s) _ t
    (record { x = h.x; y = h.y; beats = all_push IsBeat s.beats (record { line = n; bytes = bytes }) h.beats (fit bytes refl); few = omega (arith, few, length-append s.beats (record { line = n; bytes = bytes } ∷ [])) }, refl, refl) k)
    (λ f. let k : Err TooMany ≡ Ok t = rw f at e in cc) (cases_Bool (ltb (length s.beats) 65536))

onto_beat : (s t : TableSection) (n : ℕ) (o : Option (List ℕ)) → IsTable s → beat_by s n o ≡ Ok t → OntoTable s t
onto_beat s t n None h e = cc
onto_beat s t n (Some w) h e =
    onto_array s t n (hex_array_of 32 w) (λ bytes is. let fit = array_fits w bytes is in record { bytes = fit.0; whole = fit.1 }) h e

onto_beats : (s t : TableSection) (n : ℕ) (ws : List (List ℕ)) → IsTable s → beat_line s n ws ≡ Ok t → OntoTable s t
onto_beats s t n [] h e = ok_has (OntoTable s) s t (h, refl, refl) e
onto_beats s t n (w ∷ ws) h e = onto_beat s t n (one_of (w ∷ ws)) h e

graph_push : (s : TextSection) (l : List ℕ) → IsGraph s → IsTextLine l → IsGraph (text_added s l)
graph_push s l g good =
    let is = g.4 in
    let same : s.text ++ l ++ feed ≡ g.0 ++ feed ++ (g.1 ++ l ++ feed) =
    ap (λ (t : List ℕ). t ++ l ++ feed) is.text ∙ ap (λ (t : List ℕ). t ++ feed) (append_assoc (g.0 ++ feed) g.1 l) ∙ append_assoc (g.0 ++ feed) (g.1 ++ l) feed in
    (g.0, g.1 ++ l ++ feed, g.2, g.3, record { owner = is.owner; text = same; line = is.line; words_are = is.words_are; numbers = is.numbers; lines = text_push g.1 l is.lines good })

onto_line : (m : ℕ) (l : List ℕ) (s t : Section) → IsTextLine l → SectionIs m s → with_line (m + 1) l s ≡ Ok t → Onto (m + 1) s t
onto_line m l (section.Code s) t line h e =
    let b = bind_ok (word_line s (words_of l)) (λ x. Ok (section.Code x)) t e in
    let o = onto_words s b.0 (words_of l) h.good b.1 in
    ok_has (Onto (m + 1) (section.Code s)) (section.Code b.0) t (record { good = o.0; within = tt }, ap (λ x. subject_of (section.Code (record s { owner = x }))) o.1) b.2
onto_line m l (section.Asm s) t line h e =
    let end : s.line + length (lines_of (s.text ++ l ++ feed)) ≤ m + 1 = omega (arith, h.within.end, one_more s.text l (length (lines_of s.text)) line (omega arith)) in
    ok_has (Onto (m + 1) (section.Asm s)) (section.Asm (text_added s l)) t
    (record { good = record { owner = h.good.owner; text = text_push s.text l h.good.text line }; within = record { end = end } }, refl) e
onto_line m l (section.Fill f) t line h e = cc
onto_line m l (section.Table s) t line h e =
    let b = bind_ok (beat_line s (m + 1) (words_of l)) (λ x. Ok (section.Table x)) t e in
    let o = onto_beats s b.0 (m + 1) (words_of l) h.good b.1 in
    let x = o.1 in
    let y = o.2 in
    ok_has (Onto (m + 1) (section.Table s)) (section.Table b.0) t (record { good = o.0; within = tt }, rw (x, y) refl) b.2
onto_line m l (section.Script s) t line h e = cc
onto_line m l (section.Graph s) t line h e =
    let end : s.line + length (lines_of (s.text ++ l ++ feed)) ≤ m + 1 + 1 = omega (arith, h.within.end, one_more s.text l (length (lines_of s.text)) line (omega arith)) in
    ok_has (Onto (m + 1) (section.Graph s)) (section.Graph (text_added s l)) t (record { good = graph_push s l h.good line; within = record { end = end } }, refl) e

same_mark : (k : Subject) (s t : Section) → subject_of t ≡ subject_of s → mark k t ≡ mark k s
same_mark k s t e = rw e refl

going_sound : (m : ℕ) (job : Job) (named : Named) (s t : Section) → Sound m job named (s ∷ []) → Onto (m + 1) s t → SoundAt (m + 1) (going_on job named t)
going_sound m job named s t h o = record {
  head = h.head;
  sections = later m (m + 1) (job_sections job) (omega arith) h.sections;
  inside = (o.0, tt);
  once = λ k. omega (arith, h.once k, same_mark k s t o.1);
  low = omega (arith, h.low);
}

take_inside : (m : ℕ) (job : Job) (named : Named) (s : Section) (l : List ℕ) (e : Draft) → (bytes_eq l (codes "end") ≡ false → IsTextLine l) → Sound m job named (s ∷ []) → inside_line job named s (m + 1) l ≡ Ok e → SoundAt (m + 1) e
take_inside m job named s l e line h t =
    ⊎_elim (λ f. let k = rw f at t in ok_has (SoundAt (m + 1)) (closed job named s) e (closed_sound (m + 1) job named s (sound_later m job named (s ∷ []) h)) k)
    (λ f.
    let k = rw f at t in
    let b = bind_ok (with_line (m + 1) l s) (λ x. Ok (going_on job named x)) e k in
    ok_has (SoundAt (m + 1)) (going_on job named b.0) e (going_sound m job named s b.0 h (onto_line m l s b.0 (line f) h.inside.0 b.1)) b.2)
    (cases_Bool (bytes_eq l (codes "end")))

-- Any line.

take_content : (p : Place) (d e : Draft) (m : ℕ) (l : List ℕ) → d.place ≡ p → (bytes_eq l (codes "end") ≡ false → IsTextLine l) → SoundAt m d → content_line p d (m + 1) l ≡ Ok e → SoundAt (m + 1) e
take_content AtHeader d e m l p line h t =
    take_header d e (m + 1) (words_of l) (sound_later m d.job d.named (open_at d.place) h) (sound_later m d.job d.named [] (at_place m d AtHeader p h)) t
take_content (AtShape k) d e m l p line h t =
    take_shape d e (m + 1) (words_of l) (sound_later m d.job d.named (open_at d.place) h) (sound_later m d.job d.named [] (at_place m d (AtShape k) p h)) t
take_content AtSettings d e m l p line h t =
    take_entry d e (m + 1) l (words_of l) refl (words_some l) line (sound_later m d.job d.named (open_at d.place) h) (sound_later m d.job d.named [] (at_place m d AtSettings p h)) t
take_content AtSections d e m l p line h t =
    take_entry d e (m + 1) l (words_of l) refl (words_some l) line (sound_later m d.job d.named (open_at d.place) h) (sound_later m d.job d.named [] (at_place m d AtSections p h)) t
take_content (Inside s) d e m l p line h t = take_inside m d.job d.named s l e line (at_place m d (Inside s) p h) t

pub take_line : (d e : Draft) (m : ℕ) (l : List ℕ) → SoundAt m d → step (m + 1) (bare l) d ≡ Ok e → SoundAt (m + 1) e
take_line d e m l h t =
    ⊎_elim (λ f. let k : content_line d.place d (m + 1) (content_of l) ≡ Ok e = rw f at t in take_content d.place d e m (content_of l) refl (content_good l f) h k)
    (λ f. let k = rw f at t in cc) (cases_Bool (is_plain l))

-- Whole texts.

pub on_ok : (n : ℕ) (r : Result Draft JobKind) (more : Draft → Result Draft (Fault JobKind)) (e : Draft) → and_on n r more ≡ Ok e → (x : Draft) × (r ≡ Ok x) × (more x ≡ Ok e)
on_ok n (Ok x) more e h = (x, refl, h)
on_ok n (Err kind) more e h = cc

all_sound : (ls : List (List ℕ)) (m k : ℕ) (d e : Draft) → m + length ls ≡ k → SoundAt m d → drafted (m + 1) ls d ≡ Ok e → SoundAt k e
all_sound [] m k d e is h t =
    let same : m ≡ k = omega (arith, is) in
    let drawn : d ≡ e = cc in
    subst (λ (x : Draft). SoundAt k x) drawn (subst (λ (n : ℕ). SoundAt n d) same h)
all_sound (l ∷ ls) m k d e is h t =
    let b = on_ok (m + 1) (step (m + 1) (bare l) d) (λ x. drafted (m + 1 + 1) ls x) e t in
    all_sound ls (m + 1) k b.0 e (omega (arith, is)) (take_line d b.0 m l h b.1) b.2

nothing : (k : Subject) → is_named k nothing_named ≡ false
nothing AllCode = refl
nothing (TileCode t) = refl
nothing (BoardTable x y) = refl
nothing TheGraph = refl

pub start_sound : SoundAt 0 start
start_sound = record {
  head = record {
    version = inl refl;
    same = refl;
    numbers = record { boards_x = omega arith; boards_y = omega arith; tiles_x = omega arith; tiles_y = omega arith; cores = omega arith; threads = omega arith; slots = omega arith; link = omega arith; mem = omega arith; fuel = omega arith; turn = omega arith };
  };
  sections = tt;
  inside = tt;
  once = λ k. omega (arith, ap one (nothing k));
  low = omega arith;
}

-- the line of the shape is one of the lines that were read
pub shape_low : (lines : List (List ℕ)) (d : Draft) → drafted 1 lines start ≡ Ok d → d.job.number_lines.version ≤ length lines
shape_low lines d e = (all_sound lines 0 (length lines) start d (omega arith) start_sound e).low

-- the job of a text that is read to its end
pub record JobIs (n : ℕ) (job : Job) : Type 0 where
  pub named : Named
  pub sound : Sound n job named []

ended_sound : (p : Place) (d : Draft) (n : ℕ) (job : Job) → d.place ≡ p → SoundAt n d → ended p d n ≡ Ok job → JobIs n job
ended_sound AtSettings d n job p h t =
    let same : d.job ≡ job = cc in
    subst (λ (j : Job). JobIs n j) same (record { named = d.named; sound = at_place n d AtSettings p h })
ended_sound AtSections d n job p h t =
    let same : d.job ≡ job = cc in
    subst (λ (j : Job). JobIs n j) same (record { named = d.named; sound = at_place n d AtSections p h })
ended_sound AtHeader d n job p h t = cc
ended_sound (AtShape line) d n job p h t = cc
ended_sound (Inside s) d n job p h t = cc

by_sound : (n : ℕ) (r : Result Draft (Fault JobKind)) (job : Job) → ((d : Draft) → r ≡ Ok d → SoundAt n d) → job_by n r ≡ Ok job → JobIs n job
by_sound n (Ok d) job h t = ended_sound d.place d n job refl (h d refl) t
by_sound n (Err fault) job h t = cc

job_sound : (lines : List (List ℕ)) (job : Job) → job_of lines ≡ Ok job → JobIs (length lines) job
job_sound lines job t =
    by_sound (length lines) (drafted 1 lines start) job (λ d e. all_sound lines 0 (length lines) start d (omega arith) start_sound e) t

each_good : (n : ℕ) (ss : List Section) → AllByRecursion (SectionIs n) ss → AllByRecursion IsSection ss
each_good n [] h = tt
each_good n (s ∷ ss) h = (h.0.good, each_good n ss h.1)

well_formed : (n : ℕ) (job : Job) → JobIs n job → IsWellFormed job
well_formed n job j =
    let h = j.sound in
    record {
      version = h.head.version;
      same_version = h.head.same;
      numbers = h.head.numbers;
      sections = each_good n (job_sections job) h.sections;
      once = named_once (job_sections job) nothing_named (λ k. omega (arith, h.once k, one_most (is_named k j.named), ap one (nothing k)));
    }

pub gives_well_formed : (r : Result Job (Stop (Fault JobKind))) (lines : List (List ℕ)) → Gives r (job_of lines) → IfOk r (λ job. IsWellFormed job)
gives_well_formed (Ok job) lines h = well_formed (length lines) job (job_sound lines job h)
gives_well_formed (Err stop) lines h = tt

numbered_by : (n : ℕ) (ss : List TextSection) → n < 2 ^ 32 - 1 → AllByRecursion (λ s. SectionIs n (section.Asm s)) ss → AllByRecursion IsNumbered ss
numbered_by n [] h all = tt
numbered_by n (s ∷ ss) h all = (record { fits = omega (arith, all.0.within.end) }, numbered_by n ss h all.1)

graph_by : (n : ℕ) (g : Option TextSection) → n < 2 ^ 32 - 1 → IfSome g (λ s. SectionIs n (section.Graph s)) → IfSome g (λ s. HaveNumbers s.line s.text)
graph_by n None h one = tt
graph_by n (Some s) h one = omega (arith, one.within.end)

pub gives_numbered : (r : Result Job (Stop (Fault JobKind))) (lines : List (List ℕ)) → length lines < 2 ^ 32 - 1 → Gives r (job_of lines) → IfOk r (λ job. AreNumbered job)
gives_numbered (Ok job) lines few h =
    let all = (job_sound lines job h).sound.sections in
    record {
      asms = numbered_by (length lines) job.asms few (each_asm (SectionIs (length lines)) job all);
      graph = graph_by (length lines) job.graph few (each_graph (SectionIs (length lines)) job all);
    }
gives_numbered (Err stop) lines few h = tt
