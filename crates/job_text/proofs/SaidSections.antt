-- Each section of a job is said by the lines of its text.
use Rattle.std.proofs.Common.{◌≡◌, ℕ, ◌+◌, Bool, true, false, cond, eqb, List, [], ◌∷◌, ◌++◌, Option, Some, None, IfOk, length, codes, refl, sym, ap, subst, ◌∙◌, ⊎_elim, arith, append_assoc, append-nil, length-append, nat_lt}
use Rattle.std.specs.declared.result.Result.{Result}
use Rattle.std.specs.declared.result.Result.TheVariants.{Ok, Err}
use Rattle.std.specs.List.{AllByRecursion}
use Rattle.std.specs.Str.{bytes_eq}
use Rattle.std.proofs.lemmas.Bool.{cases_Bool}
use Rattle.tn_text.specs.declared.numbers.Numeral.{Numeral}
use Rattle.tn_text.specs.declared.numbers.Numeral.TheVariants.{Value, TooLarge, NoNumber}
use Rattle.tn_text.specs.declared.stop.Fault.{Fault}
use Rattle.tn_text.specs.Content.{content_of, is_plain}
use Rattle.tn_text.specs.Hex.{hex_array_of, hex_bytes_of, hex_word_of}
use Rattle.tn_text.specs.Numbers.{number_of}
use Rattle.tn_text.specs.NumberLists.{numbers_in, numbers_of}
use Rattle.tn_text.specs.Words.{words_of, one_of, two_of, three_of}
use Rattle.job_text.specs.declared.draft.Draft.{Draft}
use Rattle.job_text.specs.declared.draft.Place.{Place}
use Rattle.job_text.specs.declared.draft.Place.TheVariants.{AtHeader, AtShape, AtSettings, AtSections, Inside}
use Rattle.job_text.specs.declared.job.CodeSection.{CodeSection}
use Rattle.job_text.specs.declared.job.Job.{Job}
use Rattle.job_text.specs.declared.job.JobKind.{JobKind}
use Rattle.job_text.specs.declared.job.JobKind.TheVariants.{NoShape, BadLine, Twice}
use Rattle.job_text.specs.declared.job.Section.{Section}
use Rattle.job_text.specs.declared.job.Section.TheVariants as section
use Rattle.job_text.specs.declared.job.TableSection.{TableSection}
use Rattle.job_text.specs.declared.keyword.Keyword.{Keyword}
use Rattle.job_text.specs.declared.keyword.Keyword.TheVariants.{Number, Code, Asm, Fill, Table, Host, Graph}
use Rattle.job_text.specs.declared.keyword.Setting.{Setting}
use Rattle.job_text.specs.declared.named.Named.{Named}
use Rattle.job_text.specs.declared.named.Subject.TheVariants.{TheGraph}
use Rattle.job_text.specs.Arguments.{◌>>=◌, given, number_in, owner_in, pair_in}
use Rattle.job_text.specs.Keyword.{keyword_of, setting_in, with_setting}
use Rattle.job_text.specs.Named.{is_named, section_named}
use Rattle.job_text.specs.SaidSections.{EndsAt, IsSaid, SectionsAreSaid, begun_by, begun_on, begun_with, is_end, line_in, with_inside}
use Rattle.job_text.specs.SectionLines.{beat_added, beat_by, beat_line, fill_by, fill_bytes, host_line, idle_line, is_whole, section_begun, send_by, send_bytes, with_line, word_added, word_by, word_line}
use Rattle.job_text.specs.Sections.{job_sections}
use Rattle.job_text.specs.Text.{bare, begun, closed, content_line, drafted, ended, entry_line, going_on, headed, header_line, inside_line, job_by, keyword_line, opened, opened_by, set_once, setting_line, shape_line, shaped, start, step, takes_settings, version_by}
use Rattle.job_text.proofs.Begins.{bind_ok}
use Rattle.job_text.proofs.Sections.{IsFree, all_with}
use Rattle.job_text.proofs.Sound.{SoundAt, at_place, is_free, ok_has, on_ok, start_sound, take_line}

-- What holds of what is read, if something is read.

if_bind : {A B : Type 0} (Q : A → Type 0) (P : B → Type 0) (r : Result A JobKind) (f : A → Result B JobKind) → IfOk r Q → ((a : A) → Q a → IfOk (f a) P) → IfOk (r >>= f) P
if_bind Q P (Ok a) f h k = k a h
if_bind Q P (Err kind) f h k = tt

any : {A B : Type 0} (P : B → Type 0) (r : Result A JobKind) (f : A → Result B JobKind) → ((a : A) → IfOk (f a) P) → IfOk (r >>= f) P
any P (Ok a) f k = k a
any P (Err kind) f k = tt

if_either : {A : Type 0} (P : A → Type 0) (b : Bool) (x y : Result A JobKind) → IfOk x P → IfOk y P → IfOk (cond b x y) P
if_either P true x y h k = h
if_either P false x y h k = k

it_holds : {A : Type 0} (P : A → Type 0) (r : Result A JobKind) (a : A) → r ≡ Ok a → IfOk r P → P a
it_holds P r a e h = subst (λ (x : Result _ JobKind). IfOk x P) e h

-- The number of a section is that of the line that it begins on.

abbrev At : ℕ → Section → Type 0
At n s = line_in s ≡ n

fill_at : (n : ℕ) (o : Option (List ℕ × List ℕ × List ℕ)) → IfOk (fill_by n o) (At n)
fill_at n None = tt
fill_at n (Some ws) =
    any (At n) (fill_bytes (hex_bytes_of ws.2)) _ (λ bytes. any (At n) (pair_in (given (numbers_of (ws.0 ∷ ws.1 ∷ [])))) _ (λ ns. refl))

send_at : (n : ℕ) (o : Option (List ℕ × List ℕ)) → IfOk (send_by n o) (At n)
send_at n None = tt
send_at n (Some ws) = any (At n) (send_bytes (hex_bytes_of ws.1)) _ (λ bytes. any (At n) (given (number_of ws.0)) _ (λ thread. refl))

idle_at : (n : ℕ) (ws : List (List ℕ)) → IfOk (idle_line n ws) (At n)
idle_at n [] = refl
idle_at n (w ∷ ws) = tt

host_at : (n : ℕ) (ws : List (List ℕ)) → IfOk (host_line n ws) (At n)
host_at n [] = tt
host_at n (w ∷ ws) =
    if_either (At n) (bytes_eq w (codes "idle")) (idle_line n ws) (cond (bytes_eq w (codes "send")) (send_by n (two_of ws)) (Err BadLine)) (idle_at n ws)
    (if_either (At n) (bytes_eq w (codes "send")) (send_by n (two_of ws)) (Err BadLine) (send_at n (two_of ws)) tt)

begun_at : (n : ℕ) (c : List ℕ) (key : Keyword) (ws : List (List ℕ)) → IfOk (section_begun n c key ws) (At n)
begun_at n c (Number s) ws = tt
begun_at n c Code ws = any (At n) (owner_in ws) _ (λ o. refl)
begun_at n c Asm ws = any (At n) (owner_in ws) _ (λ o. refl)
begun_at n c Fill ws = fill_at n (three_of ws)
begun_at n c Table ws = any (At n) (given (numbers_in 2 ws)) _ (λ ns. refl)
begun_at n c Host ws = host_at n ws
begun_at n c Graph ws = any (At n) (given (numbers_in 2 ws)) _ (λ ns. refl)

-- Lines inside leave it.

abbrev SameCode : CodeSection → CodeSection → Type 0
SameCode s t = t.line ≡ s.line

added_at : (s : CodeSection) (o : Option ℕ) → IfOk (word_added s o) (SameCode s)
added_at s None = tt
added_at s (Some w) = if_either (SameCode s) (nat_lt (length s.words) 16384) _ _ refl tt

word_at : (s : CodeSection) (o : Option (List ℕ)) → IfOk (word_by s o) (SameCode s)
word_at s None = tt
word_at s (Some w) = added_at s (hex_word_of w)

words_at : (s : CodeSection) (ws : List (List ℕ)) → IfOk (word_line s ws) (SameCode s)
words_at s [] = refl
words_at s (w ∷ ws) = word_at s (one_of (w ∷ ws))

abbrev SameTable : TableSection → TableSection → Type 0
SameTable s t = t.line ≡ s.line

array_at : (s : TableSection) (n : ℕ) (o : Option (List ℕ)) → IfOk (beat_added s n o) (SameTable s)
array_at s n None = tt
array_at s n (Some bytes) = if_either (SameTable s) (nat_lt (length s.beats) 65536) _ _ refl tt

beat_at : (s : TableSection) (n : ℕ) (o : Option (List ℕ)) → IfOk (beat_by s n o) (SameTable s)
beat_at s n None = tt
beat_at s n (Some w) = array_at s n (hex_array_of 32 w)

beats_at : (s : TableSection) (n : ℕ) (ws : List (List ℕ)) → IfOk (beat_line s n ws) (SameTable s)
beats_at s n [] = refl
beats_at s n (w ∷ ws) = beat_at s n (one_of (w ∷ ws))

line_at : (n : ℕ) (c : List ℕ) (s : Section) → IfOk (with_line n c s) (At (line_in s))
line_at n c (section.Code s) = if_bind (SameCode s) (At s.line) (word_line s (words_of c)) (λ t. Ok (section.Code t)) (words_at s (words_of c)) (λ t h. h)
line_at n c (section.Asm s) = refl
line_at n c (section.Fill f) = tt
line_at n c (section.Table s) = if_bind (SameTable s) (At s.line) (beat_line s n (words_of c)) (λ t. Ok (section.Table t)) (beats_at s n (words_of c)) (λ t h. h)
line_at n c (section.Script l) = tt
line_at n c (section.Graph s) = refl

-- A section with one more line inside.

one_inside : (k m : ℕ) (inside : List (List ℕ)) (l : List ℕ) (b s t : Section) → m ≡ k + length inside → with_inside k inside b ≡ Ok s → with_line m (content_of l) s ≡ Ok t
    → with_inside k (inside ++ l ∷ []) b ≡ Ok t
one_inside k m [] l b s t is g h =
    let same : b ≡ s = cc in
    let here : m ≡ k = omega (arith, is) in
    let e : with_line k (content_of l) b ≡ Ok t = subst (λ (x : ℕ). with_line x (content_of l) b ≡ Ok t) here (subst (λ (x : Section). with_line m (content_of l) x ≡ Ok t) (sym same) h) in
    ap (λ (r : Result Section JobKind). r >>= with_inside (k + 1) []) e
one_inside k m (i ∷ is_) l b s t is g h =
    let o = bind_ok (with_line k (content_of i) b) (with_inside (k + 1) is_) s g in
    ap (λ (r : Result Section JobKind). r >>= with_inside (k + 1) (is_ ++ l ∷ [])) o.1 ∙ one_inside (k + 1) m is_ l o.0 s t (omega (arith, is)) o.2 h

-- What is read so far.

-- a section that is open was said by the last lines
record Going (front : List (List ℕ)) (s : Section) : Type 0 where
  pub before : List (List ℕ)
  pub head : List ℕ
  pub inside : List (List ℕ)
  pub begun : Section
  pub lines_are : front ≡ before ++ head ∷ inside
  pub number : line_in s ≡ length before + 1
  pub begins : begun_on (line_in s) head ≡ Ok begun
  pub grows : with_inside (line_in s + 1) inside begun ≡ Ok s
  pub long : is_whole begun ≡ false
  pub goes : AllByRecursion (λ k. is_end k ≡ false) inside

abbrev OpenAt : List (List ℕ) → Place → Type 0
OpenAt front (Inside s) = Going front s
OpenAt front _ = Unit {0}

record Told (front : List (List ℕ)) (d : Draft) : Type 0 where
  pub sections : AllByRecursion (IsSaid front) (job_sections d.job)
  pub going : OpenAt front d.place

ends_later : (b : Bool) (inside after : List (List ℕ)) (l : List ℕ) → EndsAt b inside after → EndsAt b inside (after ++ l ∷ [])
ends_later true inside after l h = h
ends_later false inside [] l h = absurd h
ends_later false inside (x ∷ xs) l h = h

said_later : (front : List (List ℕ)) (l : List ℕ) (s : Section) → IsSaid front s → IsSaid (front ++ l ∷ []) s
said_later front l s h = record {
  before = h.before;
  head = h.head;
  inside = h.inside;
  after = h.after ++ l ∷ [];
  begun = h.begun;
  lines_are = ap (λ (ls : List (List ℕ)). ls ++ l ∷ []) h.lines_are ∙ append_assoc h.before (h.head ∷ (h.inside ++ h.after)) (l ∷ [])
      ∙ ap (λ (ls : List (List ℕ)). h.before ++ h.head ∷ ls) (append_assoc h.inside h.after (l ∷ []));
  number = h.number;
  begins = h.begins;
  grows = h.grows;
  ends = ends_later (is_whole h.begun) h.inside h.after l h.ends;
}

all_later : (front : List (List ℕ)) (l : List ℕ) (ss : List Section) → AllByRecursion (IsSaid front) ss → AllByRecursion (IsSaid (front ++ l ∷ [])) ss
all_later front l [] h = tt
all_later front l (s ∷ ss) h = (said_later front l s h.0, all_later front l ss h.1)

-- Lines that leave the sections.

abbrev IsOut : Place → Type 0
IsOut (Inside s) = ⊥
IsOut _ = Unit {0}

record Keeps (d e : Draft) : Type 0 where
  pub sections : job_sections d.job ≡ job_sections e.job
  pub out : IsOut e.place

no_going : (front : List (List ℕ)) (p : Place) → IsOut p → OpenAt front p
no_going front AtHeader h = tt
no_going front (AtShape line) h = tt
no_going front AtSettings h = tt
no_going front AtSections h = tt
no_going front (Inside s) h = absurd h

told_kept : (front : List (List ℕ)) (l : List ℕ) (d e : Draft) → Told front d → Keeps d e → Told (front ++ l ∷ []) e
told_kept front l d e h k = record {
  sections = subst (λ (ss : List Section). AllByRecursion (IsSaid (front ++ l ∷ [])) ss) k.sections (all_later front l (job_sections d.job) h.sections);
  going = no_going (front ++ l ∷ []) e.place k.out;
}

header_keeps : (d e : Draft) (n : ℕ) (o : Option ℕ) → headed d n o ≡ Ok e → Keeps d e
header_keeps d e n None t = cc
header_keeps d e n (Some v) t = ok_has (Keeps d) _ e (record { sections = refl; out = tt }) t

at_header : (d e : Draft) (n : ℕ) (ws : List (List ℕ)) → IsOut d.place → header_line d n ws ≡ Ok e → Keeps d e
at_header d e n [] out t = ok_has (Keeps d) d e (record { sections = refl; out = out }) t
at_header d e n (w ∷ ws) out t = header_keeps d e n (version_by (two_of (w ∷ ws))) t

shape_keeps : (d e : Draft) (n : ℕ) (r : Numeral (List ℕ)) → shaped d n r ≡ Ok e → Keeps d e
shape_keeps d e n (Value ns) t = ok_has (Keeps d) _ e (record { sections = refl; out = tt }) t
shape_keeps d e n TooLarge t = cc
shape_keeps d e n NoNumber t = cc

at_shape : (d e : Draft) (n : ℕ) (ws : List (List ℕ)) → IsOut d.place → shape_line d n ws ≡ Ok e → Keeps d e
at_shape d e n [] out t = ok_has (Keeps d) d e (record { sections = refl; out = out }) t
at_shape d e n (w ∷ ws) out t =
    ⊎_elim (λ f. let k : shaped d n (numbers_in 6 ws) ≡ Ok e = rw f at t in shape_keeps d e n (numbers_in 6 ws) k)
    (λ f. let k : Err NoShape ≡ Ok e = rw f at t in cc) (cases_Bool (bytes_eq w (codes "shape")))

set_keeps : (d : Draft) (n : ℕ) (s : Setting) (v : ℕ) → IsOut d.place → IfOk (set_once d n s v) (Keeps d)
set_keeps d n s v out =
    let set : Draft = record d { job = record d.job { numbers = with_setting s v d.job.numbers; number_lines = with_setting s n d.job.number_lines } } in
    let keeps : Keeps d set = record { sections = refl; out = out } in
    if_either (Keeps d) (eqb (setting_in s d.job.number_lines) d.job.number_lines.version) (Ok set) (Err Twice) keeps tt

setting_keeps : (d : Draft) (n : ℕ) (s : Setting) (ws : List (List ℕ)) → IsOut d.place → IfOk (setting_line d n s ws) (Keeps d)
setting_keeps d n s ws out =
    if_either (Keeps d) (takes_settings d.place) (number_in ws >>= set_once d n s) (Err BadLine) (any (Keeps d) (number_in ws) (set_once d n s) (λ v. set_keeps d n s v out)) tt

-- A section begins.

free_whole : (job : Job) (s : Section) → is_whole s ≡ true → IsFree job s
free_whole job (section.Graph s) h = cc
free_whole job (section.Code s) h = tt
free_whole job (section.Asm s) h = tt
free_whole job (section.Fill f) h = tt
free_whole job (section.Table t) h = tt
free_whole job (section.Script l) h = tt

opens : (front : List (List ℕ)) (l : List ℕ) (job : Job) (m : Named) (s : Section) (b : Bool) → is_whole s ≡ b → AllByRecursion (IsSaid front) (job_sections job)
    → line_in s ≡ length front + 1 → begun_on (length front + 1) l ≡ Ok s → Told (front ++ l ∷ []) (cond b (closed job m s) (going_on job m s))
opens front l job m s true w all n begins =
    let said : IsSaid (front ++ l ∷ []) s = record {
      before = front;
      head = l;
      inside = [];
      after = [];
      begun = s;
      lines_are = refl;
      number = n;
      begins = ap (λ (k : ℕ). begun_on k l) n ∙ begins;
      grows = refl;
      ends = rw w refl;
    } in
    record { sections = all_with (IsSaid (front ++ l ∷ [])) job s (free_whole job s w) (all_later front l (job_sections job) all) said; going = tt }
opens front l job m s false w all n begins = record {
  sections = all_later front l (job_sections job) all;
  going = record {
    before = front;
    head = l;
    inside = [];
    begun = s;
    lines_are = refl;
    number = n;
    begins = ap (λ (k : ℕ). begun_on k l) n ∙ begins;
    grows = refl;
    long = w;
    goes = tt;
  };
}

named_opens : (front : List (List ℕ)) (l : List ℕ) (job : Job) (s : Section) (o : Option Named) (e : Draft) → AllByRecursion (IsSaid front) (job_sections job)
    → line_in s ≡ length front + 1 → begun_on (length front + 1) l ≡ Ok s → opened_by job s o ≡ Ok e → Told (front ++ l ∷ []) e
named_opens front l job s None e all n begins t = cc
named_opens front l job s (Some m) e all n begins t = ok_has (Told (front ++ l ∷ [])) (opened job s m) e (opens front l job m s (is_whole s) refl all n begins) t

section_told : (front : List (List ℕ)) (l w : List ℕ) (ws : List (List ℕ)) (key : Keyword) (d e : Draft) → Told front d → words_of (content_of l) ≡ w ∷ ws → keyword_of w ≡ Some key
    → (section_begun (length front + 1) (content_of l) key ws >>= begun d.job d.named) ≡ Ok e → Told (front ++ l ∷ []) e
section_told front l w ws key d e h is named t =
    let n = length front + 1 in
    let b = bind_ok (section_begun n (content_of l) key ws) (begun d.job d.named) e t in
    let begins : begun_on n l ≡ Ok b.0 = ap (begun_with n (content_of l)) is ∙ ap (λ (o : Option Keyword). begun_by n (content_of l) o ws) named ∙ b.1 in
    let line = it_holds (At n) (section_begun n (content_of l) key ws) b.0 b.1 (begun_at n (content_of l) key ws) in
    named_opens front l d.job b.0 (section_named d.named b.0) e h.sections line begins b.2

keyword_told : (front : List (List ℕ)) (l w : List ℕ) (ws : List (List ℕ)) (key : Option Keyword) (d e : Draft) → Told front d → IsOut d.place → words_of (content_of l) ≡ w ∷ ws
    → keyword_of w ≡ key → keyword_line d (length front + 1) (content_of l) key ws ≡ Ok e → Told (front ++ l ∷ []) e
keyword_told front l w ws None d e h out is named t = cc
keyword_told front l w ws (Some (Number s)) d e h out is named t =
    told_kept front l d e h (it_holds (Keeps d) (setting_line d (length front + 1) s ws) e t (setting_keeps d (length front + 1) s ws out))
keyword_told front l w ws (Some Code) d e h out is named t = section_told front l w ws Code d e h is named t
keyword_told front l w ws (Some Asm) d e h out is named t = section_told front l w ws Asm d e h is named t
keyword_told front l w ws (Some Fill) d e h out is named t = section_told front l w ws Fill d e h is named t
keyword_told front l w ws (Some Table) d e h out is named t = section_told front l w ws Table d e h is named t
keyword_told front l w ws (Some Host) d e h out is named t = section_told front l w ws Host d e h is named t
keyword_told front l w ws (Some Graph) d e h out is named t = section_told front l w ws Graph d e h is named t

entry_told : (front : List (List ℕ)) (l : List ℕ) (ws : List (List ℕ)) (d e : Draft) → Told front d → IsOut d.place → words_of (content_of l) ≡ ws
    → entry_line d (length front + 1) (content_of l) ws ≡ Ok e → Told (front ++ l ∷ []) e
entry_told front l [] d e h out is t = told_kept front l d e h (ok_has (Keeps d) d e (record { sections = refl; out = out }) t)
entry_told front l (w ∷ ws) d e h out is t = keyword_told front l w ws (keyword_of w) d e h out is refl t

-- A line inside a section.

ends_here : (b : Bool) (inside : List (List ℕ)) (l : List ℕ) → b ≡ false → is_end l ≡ true → AllByRecursion (λ k. is_end k ≡ false) inside → EndsAt b inside (l ∷ [])
ends_here true inside l e h all = cc
ends_here false inside l e h all = (h, all)

all_more : (ls : List (List ℕ)) (l : List ℕ) → AllByRecursion (λ k. is_end k ≡ false) ls → is_end l ≡ false → AllByRecursion (λ k. is_end k ≡ false) (ls ++ l ∷ [])
all_more [] l h e = (e, tt)
all_more (k ∷ ks) l h e = (h.0, all_more ks l h.1 e)

closes : (front : List (List ℕ)) (l : List ℕ) (s : Section) → Going front s → is_end l ≡ true → IsSaid (front ++ l ∷ []) s
closes front l s g e = record {
  before = g.before;
  head = g.head;
  inside = g.inside;
  after = l ∷ [];
  begun = g.begun;
  lines_are = ap (λ (ls : List (List ℕ)). ls ++ l ∷ []) g.lines_are ∙ append_assoc g.before (g.head ∷ g.inside) (l ∷ []);
  number = g.number;
  begins = g.begins;
  grows = g.grows;
  ends = ends_here (is_whole g.begun) g.inside l g.long e g.goes;
}

goes_further : (front : List (List ℕ)) (l : List ℕ) (s t : Section) → Going front s → is_end l ≡ false → with_line (length front + 1) (content_of l) s ≡ Ok t → Going (front ++ l ∷ []) t
goes_further front l s t g e h =
    let same : line_in t ≡ line_in s = it_holds (At (line_in s)) (with_line (length front + 1) (content_of l) s) t h (line_at (length front + 1) (content_of l) s) in
    let count : length front + 1 ≡ line_in s + 1 + length g.inside = omega (arith, ap length g.lines_are, length-append g.before (g.head ∷ g.inside), g.number) in
    record {
      before = g.before;
      head = g.head;
      inside = g.inside ++ l ∷ [];
      begun = g.begun;
      lines_are = ap (λ (ls : List (List ℕ)). ls ++ l ∷ []) g.lines_are ∙ append_assoc g.before (g.head ∷ g.inside) (l ∷ []);
      number = same ∙ g.number;
      begins = ap (λ (k : ℕ). begun_on k g.head) same ∙ g.begins;
      grows = ap (λ (k : ℕ). with_inside (k + 1) (g.inside ++ l ∷ []) g.begun) same ∙ one_inside (line_in s + 1) (length front + 1) g.inside l g.begun s t count g.grows h;
      long = g.long;
      goes = all_more g.inside l g.goes e;
    }

inside_told : (front : List (List ℕ)) (l : List ℕ) (job : Job) (named : Named) (s : Section) (e : Draft) → AllByRecursion (IsSaid front) (job_sections job) → Going front s → IsFree job s
    → inside_line job named s (length front + 1) (content_of l) ≡ Ok e → Told (front ++ l ∷ []) e
inside_told front l job named s e all g free t =
    ⊎_elim (λ f.
    let k : Ok (closed job named s) ≡ Ok e = rw f at t in
    ok_has (Told (front ++ l ∷ [])) (closed job named s) e
    (record { sections = all_with (IsSaid (front ++ l ∷ [])) job s free (all_later front l (job_sections job) all) (closes front l s g f); going = tt }) k)
    (λ f.
    let k : (with_line (length front + 1) (content_of l) s >>= λ x. Ok (going_on job named x)) ≡ Ok e = rw f at t in
    let b = bind_ok (with_line (length front + 1) (content_of l) s) (λ x. Ok (going_on job named x)) e k in
    ok_has (Told (front ++ l ∷ [])) (going_on job named b.0) e (record { sections = all_later front l (job_sections job) all; going = goes_further front l s b.0 g f b.1 }) b.2)
    (cases_Bool (is_end l))

-- Any line.

content_told : (front : List (List ℕ)) (l : List ℕ) (p : Place) (d e : Draft) → d.place ≡ p → SoundAt (length front) d → Told front d
    → content_line p d (length front + 1) (content_of l) ≡ Ok e → Told (front ++ l ∷ []) e
content_told front l AtHeader d e at sound h t = told_kept front l d e h (at_header d e (length front + 1) (words_of (content_of l)) (subst IsOut (sym at) tt) t)
content_told front l (AtShape line) d e at sound h t = told_kept front l d e h (at_shape d e (length front + 1) (words_of (content_of l)) (subst IsOut (sym at) tt) t)
content_told front l AtSettings d e at sound h t = entry_told front l (words_of (content_of l)) d e h (subst IsOut (sym at) tt) refl t
content_told front l AtSections d e at sound h t = entry_told front l (words_of (content_of l)) d e h (subst IsOut (sym at) tt) refl t
content_told front l (Inside s) d e at sound h t =
    let good = at_place (length front) d (Inside s) at sound in
    inside_told front l d.job d.named s e h.sections (subst (OpenAt front) at h.going) (is_free d.job s (is_named TheGraph d.named) (good.once TheGraph)) t

line_told : (front : List (List ℕ)) (l : List ℕ) (d e : Draft) → SoundAt (length front) d → Told front d → step (length front + 1) (bare l) d ≡ Ok e → Told (front ++ l ∷ []) e
line_told front l d e sound h t =
    ⊎_elim (λ f. let k : content_line d.place d (length front + 1) (content_of l) ≡ Ok e = rw f at t in content_told front l d.place d e refl sound h k)
    (λ f. let k = rw f at t in cc) (cases_Bool (is_plain l))

all_told : (ls front : List (List ℕ)) (d e : Draft) → SoundAt (length front) d → Told front d → drafted (length front + 1) ls d ≡ Ok e → Told (front ++ ls) e
all_told [] front d e sound h t =
    let same : d ≡ e = cc in
    subst (λ (x : Draft). Told (front ++ []) x) same (subst (λ (ls : List (List ℕ)). Told ls d) (sym (append-nil front)) h)
all_told (l ∷ ls) front d e sound h t =
    let b = on_ok (length front + 1) (step (length front + 1) (bare l) d) (λ x. drafted (length front + 1 + 1) ls x) e t in
    let long : length (front ++ l ∷ []) ≡ length front + 1 = omega (arith, length-append front (l ∷ [])) in
    let good = subst (λ (k : ℕ). SoundAt k b.0) (sym long) (take_line d b.0 (length front) l sound b.1) in
    let rest : drafted (length (front ++ l ∷ []) + 1) ls b.0 ≡ Ok e = ap (λ (k : ℕ). drafted (k + 1) ls b.0) long ∙ b.2 in
    subst (λ (x : List (List ℕ)). Told x e) (append_assoc front (l ∷ []) ls) (all_told ls (front ++ l ∷ []) b.0 e good (line_told front l d b.0 sound h b.1) rest)

ended_told : (lines : List (List ℕ)) (p : Place) (d : Draft) (n : ℕ) (job : Job) → Told lines d → ended p d n ≡ Ok job → AllByRecursion (IsSaid lines) (job_sections job)
ended_told lines AtSettings d n job h t = let same : d.job ≡ job = cc in subst (λ (j : Job). AllByRecursion (IsSaid lines) (job_sections j)) same h.sections
ended_told lines AtSections d n job h t = let same : d.job ≡ job = cc in subst (λ (j : Job). AllByRecursion (IsSaid lines) (job_sections j)) same h.sections
ended_told lines AtHeader d n job h t = cc
ended_told lines (AtShape line) d n job h t = cc
ended_told lines (Inside s) d n job h t = cc

by_told : (lines : List (List ℕ)) (n : ℕ) (r : Result Draft (Fault JobKind)) (job : Job) → ((d : Draft) → r ≡ Ok d → Told lines d) → job_by n r ≡ Ok job → AllByRecursion (IsSaid lines) (job_sections job)
by_told lines n (Ok d) job h t = ended_told lines d.place d n job (h d refl) t
by_told lines n (Err fault) job h t = cc

pub sections_are_said : SectionsAreSaid
sections_are_said lines job t =
    by_told lines (length lines) (drafted 1 lines start) job (λ d e. all_told lines [] start d start_sound (record { sections = tt; going = tt }) e) t
