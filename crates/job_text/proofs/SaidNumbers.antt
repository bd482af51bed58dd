-- Each setting of a job is said by the lines of its text.
use Rattle.std.proofs.Common.{◌≡◌, ℕ, ◌+◌, ◌≤◌, Bool, true, false, cond, eqb, List, [], ◌∷◌, ◌++◌, Option, Some, None, length, codes, refl, sym, ap, subst, ◌∙◌, ⊎_elim, arith, append_assoc, append-nil, length-append}
use Rattle.std.specs.declared.result.Result.{Result}
use Rattle.std.specs.declared.result.Result.TheVariants.{Ok, Err}
use Rattle.std.specs.Str.{bytes_eq}
use Rattle.std.proofs.lemmas.Bool.{cases_Bool}
use Rattle.std.proofs.lemmas.Bool.Decides.{nat_tests}
use Rattle.tn_base.specs.declared.shape.ShapeNumbers.{ShapeNumbers}
use Rattle.tn_text.specs.declared.numbers.Numeral.{Numeral}
use Rattle.tn_text.specs.declared.numbers.Numeral.TheVariants.{Value, TooLarge, NoNumber}
use Rattle.tn_text.specs.declared.stop.Fault.{Fault}
use Rattle.tn_text.specs.Content.{content_of, is_plain}
use Rattle.tn_text.specs.NumberLists.{numbers_in}
use Rattle.tn_text.specs.Words.{words_of, two_of}
use Rattle.job_text.specs.declared.draft.Draft.{Draft}
use Rattle.job_text.specs.declared.draft.Place.{Place}
use Rattle.job_text.specs.declared.draft.Place.TheVariants.{AtHeader, AtShape, AtSettings, AtSections, Inside}
use Rattle.job_text.specs.declared.job.Job.{Job}
use Rattle.job_text.specs.declared.job.JobKind.{JobKind}
use Rattle.job_text.specs.declared.job.JobKind.TheVariants.{NoShape, BadLine, Twice}
use Rattle.job_text.specs.declared.job.Section.{Section}
use Rattle.job_text.specs.declared.job.Section.TheVariants as section
use Rattle.job_text.specs.declared.keyword.Keyword.{Keyword}
use Rattle.job_text.specs.declared.keyword.Keyword.TheVariants.{Number, Code, Asm, Fill, Table, Host, Graph}
use Rattle.job_text.specs.declared.keyword.Setting.{Setting}
use Rattle.job_text.specs.declared.keyword.Setting.TheVariants.{Slots, Link, Mem, Fuel, Turn}
use Rattle.job_text.specs.declared.named.Named.{Named}
use Rattle.job_text.specs.Arguments.{◌>>=◌, number_in}
use Rattle.job_text.specs.Exchanged.{IsSetting}
use Rattle.job_text.specs.Keyword.{keyword_of, setting_in, with_setting}
use Rattle.job_text.specs.Named.{section_named}
use Rattle.job_text.specs.SaidNumbers.{IsGiven, IsNumberSaid, SaidBy, SettingsAreSaid}
use Rattle.job_text.specs.SectionLines.{is_whole, section_begun, with_line}
use Rattle.job_text.specs.Sections.{with_section}
use Rattle.job_text.specs.Text.{all_at, bare, begun, closed, content_line, default_numbers, drafted, ended, entry_line, going_on, headed, header_line, inside_line, job_by, keyword_line, opened, opened_by, set_once, setting_line, shape_line, shape_with, shaped, start, step, takes_settings, version_by}
use Rattle.job_text.proofs.Begins.{bind_ok}
use Rattle.job_text.proofs.Exchanged.{Apart, apart, is_open, open_kept, open_own, own, set_to}
use Rattle.job_text.proofs.Sound.{SoundAt, lines_with, ok_has, on_ok, start_sound, take_line}

-- What is read so far.

abbrev all_default : ShapeNumbers → Type 0
all_default n = (s : Setting) → setting_in s n ≡ setting_in s default_numbers

-- before the shape no setting is given
abbrev NoneYet : Place → ShapeNumbers → Type 0
NoneYet AtHeader n = all_default n
NoneYet (AtShape line) n = all_default n
NoneYet _ n = Unit {0}

record Given (front : List (List ℕ)) (p : Place) (job : Job) : Type 0 where
  pub said : (s : Setting) → IsNumberSaid front job s
  pub none : NoneYet p job.numbers

abbrev GivenAt : List (List ℕ) → Draft → Type 0
GivenAt front d = Given front d.place d.job

by_later : (b : Bool) (front : List (List ℕ)) (l : List ℕ) (line : ℕ) (s : Setting) (value : ℕ) → SaidBy b front line s value → SaidBy b (front ++ l ∷ []) line s value
by_later true front l line s value h = h
by_later false front l line s value h = record {
  before = h.before;
  head = h.head;
  after = h.after ++ l ∷ [];
  lines_are = ap (λ (ls : List (List ℕ)). ls ++ l ∷ []) h.lines_are ∙ append_assoc h.before (h.head ∷ h.after) (l ∷ []);
  number = h.number;
  says = h.says;
  setting = h.setting;
  value_is = h.value_is;
}

later : (front : List (List ℕ)) (l : List ℕ) (job : Job) (s : Setting) → IsNumberSaid front job s → IsNumberSaid (front ++ l ∷ []) job s
later front l job s h = by_later (is_open s job.number_lines) front l (setting_in s job.number_lines) s (setting_in s job.numbers) h

given_later : (front : List (List ℕ)) (l : List ℕ) (p : Place) (job : Job) → Given front p job → Given (front ++ l ∷ []) p job
given_later front l p job h = record { said = λ s. later front l job s (h.said s); none = h.none }

-- The header and the shape.

headed_default : (s : Setting) (v : ℕ) (n : ShapeNumbers) → setting_in s (record n { version = v }) ≡ setting_in s n
headed_default Slots v n = refl
headed_default Link v n = refl
headed_default Mem v n = refl
headed_default Fuel v n = refl
headed_default Turn v n = refl

shape_default : (s : Setting) (n : ShapeNumbers) (ns : List ℕ) → setting_in s (shape_with n ns) ≡ setting_in s n
shape_default Slots n ns = refl
shape_default Link n ns = refl
shape_default Mem n ns = refl
shape_default Fuel n ns = refl
shape_default Turn n ns = refl

all_same : (s : Setting) (n : ℕ) → setting_in s (all_at n) ≡ n
all_same Slots n = refl
all_same Link n = refl
all_same Mem n = refl
all_same Fuel n = refl
all_same Turn n = refl

itself : (n : ℕ) → eqb n n ≡ true
itself n = grind (arith, nat_tests)

at_shape_line : (lines : List (List ℕ)) (s : Setting) (n line value : ℕ) → value ≡ setting_in s default_numbers → SaidBy (is_open s (all_at n)) lines line s value
at_shape_line lines s n line value h = let e = all_same s n in let t = itself n in rw (e, t) h

headed_given : (front : List (List ℕ)) (d e : Draft) (n : ℕ) (o : Option ℕ) → d.place ≡ AtHeader → GivenAt front d → headed d n o ≡ Ok e → GivenAt front e
headed_given front d e n None at h t = cc
headed_given front d e n (Some v) at h t =
    let none : all_default d.job.numbers = subst (λ (p : Place). NoneYet p d.job.numbers) at h.none in
    ok_has (GivenAt front) _ e (record {
      said = λ s. subst (λ (x : ℕ). SaidBy (is_open s d.job.number_lines) front (setting_in s d.job.number_lines) s x) (sym (headed_default s v d.job.numbers)) (h.said s);
      none = λ s. headed_default s v d.job.numbers ∙ none s;
    }) t

header_given : (front : List (List ℕ)) (d e : Draft) (n : ℕ) (ws : List (List ℕ)) → d.place ≡ AtHeader → GivenAt front d → header_line d n ws ≡ Ok e → GivenAt front e
header_given front d e n [] at h t = ok_has (GivenAt front) d e h t
header_given front d e n (w ∷ ws) at h t = headed_given front d e n (version_by (two_of (w ∷ ws))) at h t

shaped_given : (front : List (List ℕ)) (d e : Draft) (n : ℕ) (r : Numeral (List ℕ)) → all_default d.job.numbers → shaped d n r ≡ Ok e → GivenAt front e
shaped_given front d e n (Value ns) none t =
    ok_has (GivenAt front) _ e (record {
      said = λ s. at_shape_line front s n (setting_in s (all_at n)) (setting_in s (shape_with d.job.numbers ns)) (shape_default s d.job.numbers ns ∙ none s);
      none = tt;
    }) t
shaped_given front d e n TooLarge none t = cc
shaped_given front d e n NoNumber none t = cc

shape_given : (front : List (List ℕ)) (d e : Draft) (n k : ℕ) (ws : List (List ℕ)) → d.place ≡ AtShape k → GivenAt front d → shape_line d n ws ≡ Ok e → GivenAt front e
shape_given front d e n k [] at h t = ok_has (GivenAt front) d e h t
shape_given front d e n k (w ∷ ws) at h t =
    let none : all_default d.job.numbers = subst (λ (p : Place). NoneYet p d.job.numbers) at h.none in
    ⊎_elim (λ f. let g : shaped d n (numbers_in 6 ws) ≡ Ok e = rw f at t in shaped_given front d e n (numbers_in 6 ws) none g)
    (λ f. let g : Err NoShape ≡ Ok e = rw f at t in cc) (cases_Bool (bytes_eq w (codes "shape")))

-- A setting.

set_value : (front : List (List ℕ)) (l : List ℕ) (a : IsSetting l) (d : Draft) (v : ℕ) (t : Setting) → d.job.number_lines.version ≤ length front → GivenAt front d → number_in a.words ≡ Ok v
    → t ≡ a.setting → IsNumberSaid (front ++ l ∷ []) (set_to d (length front + 1) a.setting v).job t
set_value front l a d v t low h said is =
    let n = length front + 1 in
    let shut = open_own a.setting n d.job.number_lines (omega (arith, low)) in
    let line = own a.setting n d.job.number_lines in
    let value = own a.setting v d.job.numbers in
    let given : IsGiven (front ++ l ∷ []) n a.setting v = record { before = front; head = l; after = []; lines_are = refl; number = refl; says = a; setting = refl; value_is = said } in
    rw (is, shut, line, value) given

set_other : (front : List (List ℕ)) (l : List ℕ) (s : Setting) (d : Draft) (n v : ℕ) (t : Setting) → GivenAt front d → Apart t s → IsNumberSaid (front ++ l ∷ []) (set_to d n s v).job t
set_other front l s d n v t h a =
    let same = open_kept t s n d.job.number_lines (a.kept n d.job.number_lines) in
    let line = a.kept n d.job.number_lines in
    let value = a.kept v d.job.numbers in
    rw (same, line, value) (later front l d.job t (h.said t))

none_set : (p : Place) (n : ShapeNumbers) → takes_settings p ≡ true → NoneYet p n
none_set AtSettings n h = tt
none_set AtHeader n h = cc
none_set (AtShape line) n h = cc
none_set AtSections n h = tt
none_set (Inside s) n h = tt

set_given : (front : List (List ℕ)) (l : List ℕ) (a : IsSetting l) (d : Draft) (v : ℕ) → d.job.number_lines.version ≤ length front → GivenAt front d → number_in a.words ≡ Ok v
    → takes_settings d.place ≡ true → GivenAt (front ++ l ∷ []) (set_to d (length front + 1) a.setting v)
set_given front l a d v low h said takes = record {
  said = λ t. ⊎_elim (λ e. set_value front l a d v t low h said e) (λ (p : Apart t a.setting). set_other front l a.setting d (length front + 1) v t h p) (apart t a.setting);
  none = none_set d.place (with_setting a.setting v d.job.numbers) takes;
}

setting_given : (front : List (List ℕ)) (l : List ℕ) (a : IsSetting l) (d e : Draft) → d.job.number_lines.version ≤ length front → GivenAt front d
    → setting_line d (length front + 1) a.setting a.words ≡ Ok e → GivenAt (front ++ l ∷ []) e
setting_given front l a d e low h t =
    let n = length front + 1 in
    ⊎_elim (λ f.
    let k : (number_in a.words >>= set_once d n a.setting) ≡ Ok e = rw f at t in
    let b = bind_ok (number_in a.words) (set_once d n a.setting) e k in
    ⊎_elim (λ g.
    let o : Ok (set_to d n a.setting b.0) ≡ Ok e = rw g at b.2 in
    ok_has (GivenAt (front ++ l ∷ [])) (set_to d n a.setting b.0) e (set_given front l a d b.0 low h b.1 f) o)
    (λ g. let o : Err Twice ≡ Ok e = rw g at b.2 in cc) (cases_Bool (is_open a.setting d.job.number_lines)))
    (λ f. let k : Err BadLine ≡ Ok e = rw f at t in cc) (cases_Bool (takes_settings d.place))

-- Sections leave the numbers.

numbers_with : (job : Job) (s : Section) → (with_section job s).numbers ≡ job.numbers
numbers_with job (section.Code s) = refl
numbers_with job (section.Asm s) = refl
numbers_with job (section.Fill f) = refl
numbers_with job (section.Table t) = refl
numbers_with job (section.Script l) = refl
numbers_with job (section.Graph s) = refl

closed_given : (front : List (List ℕ)) (p : Place) (job : Job) (m : Named) (s : Section) → Given front p job → GivenAt front (closed job m s)
closed_given front p job m s h = record {
  said = λ t. let a = lines_with job s in let b = numbers_with job s in rw (a, b) (h.said t);
  none = tt;
}

open_given : (front : List (List ℕ)) (p : Place) (job : Job) (m : Named) (s : Section) → Given front p job → GivenAt front (going_on job m s)
open_given front p job m s h = record { said = h.said; none = tt }

opened_given : (front : List (List ℕ)) (p : Place) (job : Job) (m : Named) (s : Section) (b : Bool) → Given front p job → GivenAt front (cond b (closed job m s) (going_on job m s))
opened_given front p job m s true h = closed_given front p job m s h
opened_given front p job m s false h = open_given front p job m s h

named_given : (front : List (List ℕ)) (p : Place) (job : Job) (s : Section) (o : Option Named) (e : Draft) → Given front p job → opened_by job s o ≡ Ok e → GivenAt front e
named_given front p job s None e h t = cc
named_given front p job s (Some m) e h t = ok_has (GivenAt front) (opened job s m) e (opened_given front p job m s (is_whole s) h) t

section_given : (front : List (List ℕ)) (n : ℕ) (c : List ℕ) (ws : List (List ℕ)) (key : Keyword) (d e : Draft) → GivenAt front d → (section_begun n c key ws >>= begun d.job d.named) ≡ Ok e → GivenAt front e
section_given front n c ws key d e h t =
    let b = bind_ok (section_begun n c key ws) (begun d.job d.named) e t in
    named_given front d.place d.job b.0 (section_named d.named b.0) e h b.2

keyword_given : (front : List (List ℕ)) (l w : List ℕ) (ws : List (List ℕ)) (key : Option Keyword) (d e : Draft) → is_plain l ≡ true → d.job.number_lines.version ≤ length front → GivenAt front d
    → words_of (content_of l) ≡ w ∷ ws → keyword_of w ≡ key → keyword_line d (length front + 1) (content_of l) key ws ≡ Ok e → GivenAt (front ++ l ∷ []) e
keyword_given front l w ws None d e plain low h is named t = cc
keyword_given front l w ws (Some (Number s)) d e plain low h is named t =
    setting_given front l (record { name = w; words = ws; setting = s; plain = plain; words_are = is; named = named }) d e low h t
keyword_given front l w ws (Some Code) d e plain low h is named t = section_given (front ++ l ∷ []) (length front + 1) (content_of l) ws Code d e (given_later front l d.place d.job h) t
keyword_given front l w ws (Some Asm) d e plain low h is named t = section_given (front ++ l ∷ []) (length front + 1) (content_of l) ws Asm d e (given_later front l d.place d.job h) t
keyword_given front l w ws (Some Fill) d e plain low h is named t = section_given (front ++ l ∷ []) (length front + 1) (content_of l) ws Fill d e (given_later front l d.place d.job h) t
keyword_given front l w ws (Some Table) d e plain low h is named t = section_given (front ++ l ∷ []) (length front + 1) (content_of l) ws Table d e (given_later front l d.place d.job h) t
keyword_given front l w ws (Some Host) d e plain low h is named t = section_given (front ++ l ∷ []) (length front + 1) (content_of l) ws Host d e (given_later front l d.place d.job h) t
keyword_given front l w ws (Some Graph) d e plain low h is named t = section_given (front ++ l ∷ []) (length front + 1) (content_of l) ws Graph d e (given_later front l d.place d.job h) t

entry_given : (front : List (List ℕ)) (l : List ℕ) (ws : List (List ℕ)) (d e : Draft) → is_plain l ≡ true → d.job.number_lines.version ≤ length front → GivenAt front d
    → words_of (content_of l) ≡ ws → entry_line d (length front + 1) (content_of l) ws ≡ Ok e → GivenAt (front ++ l ∷ []) e
entry_given front l [] d e plain low h is t = ok_has (GivenAt (front ++ l ∷ [])) d e (given_later front l d.place d.job h) t
entry_given front l (w ∷ ws) d e plain low h is t = keyword_given front l w ws (keyword_of w) d e plain low h is refl t

inside_given : (front : List (List ℕ)) (d e : Draft) (s : Section) (n : ℕ) (c : List ℕ) → GivenAt front d → inside_line d.job d.named s n c ≡ Ok e → GivenAt front e
inside_given front d e s n c h t =
    ⊎_elim (λ f. let k : Ok (closed d.job d.named s) ≡ Ok e = rw f at t in ok_has (GivenAt front) (closed d.job d.named s) e (closed_given front d.place d.job d.named s h) k)
    (λ f.
    let k : (with_line n c s >>= λ x. Ok (going_on d.job d.named x)) ≡ Ok e = rw f at t in
    let b = bind_ok (with_line n c s) (λ x. Ok (going_on d.job d.named x)) e k in
    ok_has (GivenAt front) (going_on d.job d.named b.0) e (open_given front d.place d.job d.named b.0 h) b.2)
    (cases_Bool (bytes_eq c (codes "end")))

-- Any line.

content_given : (front : List (List ℕ)) (l : List ℕ) (p : Place) (d e : Draft) → d.place ≡ p → is_plain l ≡ true → d.job.number_lines.version ≤ length front → GivenAt front d
    → content_line p d (length front + 1) (content_of l) ≡ Ok e → GivenAt (front ++ l ∷ []) e
content_given front l AtHeader d e at plain low h t =
    header_given (front ++ l ∷ []) d e (length front + 1) (words_of (content_of l)) at (given_later front l d.place d.job h) t
content_given front l (AtShape k) d e at plain low h t =
    shape_given (front ++ l ∷ []) d e (length front + 1) k (words_of (content_of l)) at (given_later front l d.place d.job h) t
content_given front l AtSettings d e at plain low h t = entry_given front l (words_of (content_of l)) d e plain low h refl t
content_given front l AtSections d e at plain low h t = entry_given front l (words_of (content_of l)) d e plain low h refl t
content_given front l (Inside s) d e at plain low h t = inside_given (front ++ l ∷ []) d e s (length front + 1) (content_of l) (given_later front l d.place d.job h) t

line_given : (front : List (List ℕ)) (l : List ℕ) (d e : Draft) → d.job.number_lines.version ≤ length front → GivenAt front d → step (length front + 1) (bare l) d ≡ Ok e → GivenAt (front ++ l ∷ []) e
line_given front l d e low h t =
    ⊎_elim (λ f. let k : content_line d.place d (length front + 1) (content_of l) ≡ Ok e = rw f at t in content_given front l d.place d e refl f low h k)
    (λ f. let k = rw f at t in cc) (cases_Bool (is_plain l))

all_given : (ls front : List (List ℕ)) (d e : Draft) → SoundAt (length front) d → GivenAt front d → drafted (length front + 1) ls d ≡ Ok e → GivenAt (front ++ ls) e
all_given [] front d e sound h t =
    let same : d ≡ e = cc in
    subst (λ (x : Draft). GivenAt (front ++ []) x) same (subst (λ (ls : List (List ℕ)). GivenAt ls d) (sym (append-nil front)) h)
all_given (l ∷ ls) front d e sound h t =
    let b = on_ok (length front + 1) (step (length front + 1) (bare l) d) (λ x. drafted (length front + 1 + 1) ls x) e t in
    let long : length (front ++ l ∷ []) ≡ length front + 1 = omega (arith, length-append front (l ∷ [])) in
    let good = subst (λ (k : ℕ). SoundAt k b.0) (sym long) (take_line d b.0 (length front) l sound b.1) in
    let rest : drafted (length (front ++ l ∷ []) + 1) ls b.0 ≡ Ok e = ap (λ (k : ℕ). drafted (k + 1) ls b.0) long ∙ b.2 in
    subst (λ (x : List (List ℕ)). GivenAt x e) (append_assoc front (l ∷ []) ls) (all_given ls (front ++ l ∷ []) b.0 e good (line_given front l d b.0 sound.low h b.1) rest)

ended_given : (lines : List (List ℕ)) (p : Place) (d : Draft) (n : ℕ) (job : Job) → GivenAt lines d → ended p d n ≡ Ok job → (s : Setting) → IsNumberSaid lines job s
ended_given lines AtSettings d n job h t s = let same : d.job ≡ job = cc in subst (λ (j : Job). IsNumberSaid lines j s) same (h.said s)
ended_given lines AtSections d n job h t s = let same : d.job ≡ job = cc in subst (λ (j : Job). IsNumberSaid lines j s) same (h.said s)
ended_given lines AtHeader d n job h t s = cc
ended_given lines (AtShape line) d n job h t s = cc
ended_given lines (Inside x) d n job h t s = cc

by_given : (lines : List (List ℕ)) (n : ℕ) (r : Result Draft (Fault JobKind)) (job : Job) → ((d : Draft) → r ≡ Ok d → GivenAt lines d) → job_by n r ≡ Ok job → (s : Setting) → IsNumberSaid lines job s
by_given lines n (Ok d) job h t s = ended_given lines d.place d n job (h d refl) t s
by_given lines n (Err fault) job h t s = cc

start_given : GivenAt [] start
start_given = record { said = λ s. at_shape_line [] s 0 (setting_in s (all_at 0)) (setting_in s default_numbers) refl; none = λ s. refl }

pub settings_are_said : SettingsAreSaid
settings_are_said lines job t s =
    by_given lines (length lines) (drafted 1 lines start) job (λ d e. all_given lines [] start d start_sound start_given e) t s
