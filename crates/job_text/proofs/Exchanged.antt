-- Settings on neighbouring lines may change places.
use Rattle.std.proofs.Common.{◌≡◌, ◌⊎◌, ℕ, ◌+◌, ◌<◌, Bool, true, false, eqb, cond, List, [], ◌∷◌, ◌++◌, Option, Some, None, length, codes, refl, sym, ap, subst, ◌∙◌, ⊎_elim, inl, inr, arith, length-append}
use Rattle.std.specs.declared.result.Result.{Result}
use Rattle.std.specs.declared.result.Result.TheVariants.{Ok, Err}
use Rattle.std.specs.Str.{bytes_eq}
use Rattle.std.proofs.lemmas.Bool.{cases_Bool}
use Rattle.std.proofs.lemmas.Bool.Decides.{nat_tests}
use Rattle.tn_base.specs.declared.shape.ShapeNumbers.{ShapeNumbers}
use Rattle.tn_text.specs.declared.numbers.Numeral.{Numeral}
use Rattle.tn_text.specs.declared.numbers.Numeral.TheVariants.{Value, TooLarge, NoNumber}
use Rattle.tn_text.specs.declared.stop.Fault.{Fault}
use Rattle.tn_text.specs.Gives.{fault_on}
use Rattle.tn_text.specs.NumberLists.{numbers_in}
use Rattle.tn_text.specs.Reading.{and_on}
use Rattle.tn_text.specs.Words.{words_of, two_of}
use Rattle.job_text.specs.declared.draft.Draft.{Draft}
use Rattle.job_text.specs.declared.draft.Place.{Place}
use Rattle.job_text.specs.declared.draft.Place.TheVariants.{AtHeader, AtShape, AtSettings, AtSections, Inside}
use Rattle.job_text.specs.declared.job.Job.{Job}
use Rattle.job_text.specs.declared.job.JobKind.{JobKind}
use Rattle.job_text.specs.declared.job.JobKind.TheVariants.{Header, NoShape, BadLine, Twice, NoEnd}
use Rattle.job_text.specs.declared.job.Section.{Section}
use Rattle.job_text.specs.declared.job.Section.TheVariants as section
use Rattle.job_text.specs.declared.keyword.Keyword.{Keyword}
use Rattle.job_text.specs.declared.keyword.Keyword.TheVariants.{Number, Code, Asm, Fill, Table, Host, Graph}
use Rattle.job_text.specs.declared.keyword.Setting.{Setting}
use Rattle.job_text.specs.declared.keyword.Setting.TheVariants.{Slots, Link, Mem, Fuel, Turn}
use Rattle.job_text.specs.declared.named.Named.{Named}
use Rattle.job_text.specs.Arguments.{◌>>=◌, number_in}
use Rattle.job_text.specs.Exchanged.{AreAlike, AreWhole, IsSetting, SettingsCommute}
use Rattle.job_text.specs.Keyword.{keyword_of, setting_in, with_setting}
use Rattle.job_text.specs.Named.{section_named}
use Rattle.job_text.specs.SectionLines.{section_begun, with_line}
use Rattle.job_text.specs.Text.{all_at, bare, begun, closed, content_line, drafted, ended, entry_line, going_on, headed, header_line, inside_line, job_by, job_of, keyword_line, opened, opened_by, set_once, setting_line, shape_line, shaped, start, step, takes_settings, version_by}
use Rattle.job_text.proofs.Begins.{bind_ok, same_bytes}
use Rattle.job_text.proofs.Sound.{on_ok, set_version, shape_low}

-- One setting beside another.

pub record Apart (s t : Setting) : Type 0 where
  pub kept : (n : ℕ) (l : ShapeNumbers) → setting_in s (with_setting t n l) ≡ setting_in s l
  pub back : (n : ℕ) (l : ShapeNumbers) → setting_in t (with_setting s n l) ≡ setting_in t l
  pub swapped : (a b : ℕ) (l : ShapeNumbers) → with_setting s a (with_setting t b l) ≡ with_setting t b (with_setting s a l)

pub apart : (s t : Setting) → (s ≡ t) ⊎ Apart s t
apart Slots Slots = inl refl
apart Slots Link = inr (record { kept = λ n l. refl; back = λ n l. refl; swapped = λ a b l. refl })
apart Slots Mem = inr (record { kept = λ n l. refl; back = λ n l. refl; swapped = λ a b l. refl })
apart Slots Fuel = inr (record { kept = λ n l. refl; back = λ n l. refl; swapped = λ a b l. refl })
apart Slots Turn = inr (record { kept = λ n l. refl; back = λ n l. refl; swapped = λ a b l. refl })
apart Link Slots = inr (record { kept = λ n l. refl; back = λ n l. refl; swapped = λ a b l. refl })
apart Link Link = inl refl
apart Link Mem = inr (record { kept = λ n l. refl; back = λ n l. refl; swapped = λ a b l. refl })
apart Link Fuel = inr (record { kept = λ n l. refl; back = λ n l. refl; swapped = λ a b l. refl })
apart Link Turn = inr (record { kept = λ n l. refl; back = λ n l. refl; swapped = λ a b l. refl })
apart Mem Slots = inr (record { kept = λ n l. refl; back = λ n l. refl; swapped = λ a b l. refl })
apart Mem Link = inr (record { kept = λ n l. refl; back = λ n l. refl; swapped = λ a b l. refl })
apart Mem Mem = inl refl
apart Mem Fuel = inr (record { kept = λ n l. refl; back = λ n l. refl; swapped = λ a b l. refl })
apart Mem Turn = inr (record { kept = λ n l. refl; back = λ n l. refl; swapped = λ a b l. refl })
apart Fuel Slots = inr (record { kept = λ n l. refl; back = λ n l. refl; swapped = λ a b l. refl })
apart Fuel Link = inr (record { kept = λ n l. refl; back = λ n l. refl; swapped = λ a b l. refl })
apart Fuel Mem = inr (record { kept = λ n l. refl; back = λ n l. refl; swapped = λ a b l. refl })
apart Fuel Fuel = inl refl
apart Fuel Turn = inr (record { kept = λ n l. refl; back = λ n l. refl; swapped = λ a b l. refl })
apart Turn Slots = inr (record { kept = λ n l. refl; back = λ n l. refl; swapped = λ a b l. refl })
apart Turn Link = inr (record { kept = λ n l. refl; back = λ n l. refl; swapped = λ a b l. refl })
apart Turn Mem = inr (record { kept = λ n l. refl; back = λ n l. refl; swapped = λ a b l. refl })
apart Turn Fuel = inr (record { kept = λ n l. refl; back = λ n l. refl; swapped = λ a b l. refl })
apart Turn Turn = inl refl

pub own : (s : Setting) (n : ℕ) (l : ShapeNumbers) → setting_in s (with_setting s n l) ≡ n
own Slots n l = refl
own Link n l = refl
own Mem n l = refl
own Fuel n l = refl
own Turn n l = refl

-- the setting is not given yet: its line is that of the shape
abbrev pub is_open : Setting → ShapeNumbers → Bool
is_open s l = eqb (setting_in s l) l.version

not_equal : (n m : ℕ) → m < n → eqb n m ≡ false
not_equal n m h = grind (arith, nat_tests)

pub open_kept : (s t : Setting) (n : ℕ) (l : ShapeNumbers) → setting_in s (with_setting t n l) ≡ setting_in s l → is_open s (with_setting t n l) ≡ is_open s l
open_kept s t n l e = let v = set_version t n l in rw (e, v) refl

pub open_own : (s : Setting) (n : ℕ) (l : ShapeNumbers) → l.version < n → is_open s (with_setting s n l) ≡ false
open_own s n l h = let e = own s n l in let v = set_version s n l in rw (e, v) (not_equal n l.version h)

-- Drafts that differ in the numbers of lines alone.

-- the same settings are given
record SameSet (l m : ShapeNumbers) : Type 0 where
  pub version : l.version ≡ m.version
  pub set : (s : Setting) → is_open s l ≡ is_open s m

same_set : (l : ShapeNumbers) → SameSet l l
same_set l = record { version = refl; set = λ s. refl }

open_new : (t s : Setting) (n : ℕ) (l m : ShapeNumbers) → t ≡ s → SameSet l m → is_open t (with_setting s n l) ≡ is_open t (with_setting s n m)
open_new t s n l m e h =
    let a = own s n l in let b = own s n m in let v = set_version s n l in let w = set_version s n m in let u = h.version in
    rw (e, a, b, v, w, u) refl

set_more : (s : Setting) (n : ℕ) (l m : ShapeNumbers) → SameSet l m → SameSet (with_setting s n l) (with_setting s n m)
set_more s n l m h = record {
  version = set_version s n l ∙ h.version ∙ sym (set_version s n m);
  set = λ t. ⊎_elim (λ e. open_new t s n l m e h)
      (λ (a : Apart t s). open_kept t s n l (a.kept n l) ∙ h.set t ∙ sym (open_kept t s n m (a.kept n m))) (apart t s);
}

abbrev relined : Draft → ShapeNumbers → Draft
relined d m = record d { job = record d.job { number_lines = m } }

record Relined (e f : Draft) : Type 0 where
  pub lines : ShapeNumbers
  pub same : SameSet e.job.number_lines lines
  pub is : f ≡ relined e lines

abbrev Alike : Result Draft JobKind → Result Draft JobKind → Type 0
Alike (Ok e) (Ok f) = Relined e f
Alike (Ok e) (Err kind) = ⊥
Alike (Err kind) (Ok f) = ⊥
Alike (Err kind) (Err other) = Unit {0}

alike_if : (b : Bool) (x y u v : Result Draft JobKind) → Alike x u → Alike y v → Alike (cond b x y) (cond b u v)
alike_if true x y u v h k = h
alike_if false x y u v h k = k

alike_bind : {A : Type 0} (r : Result A JobKind) (f g : A → Result Draft JobKind) → ((a : A) → Alike (f a) (g a)) → Alike (r >>= f) (r >>= g)
alike_bind (Ok a) f g h = h a
alike_bind (Err kind) f g h = tt

-- One line makes drafts of them that differ in the numbers of lines alone.

headed_alike : (d : Draft) (m : ShapeNumbers) (n : ℕ) (o : Option ℕ) → SameSet d.job.number_lines m → Alike (headed d n o) (headed (relined d m) n o)
headed_alike d m n None h = tt
headed_alike d m n (Some v) h = record { lines = m; same = h; is = refl }

header_alike : (d : Draft) (m : ShapeNumbers) (n : ℕ) (ws : List (List ℕ)) → SameSet d.job.number_lines m → Alike (header_line d n ws) (header_line (relined d m) n ws)
header_alike d m n [] h = record { lines = m; same = h; is = refl }
header_alike d m n (w ∷ ws) h = headed_alike d m n (version_by (two_of (w ∷ ws))) h

shaped_alike : (d : Draft) (m : ShapeNumbers) (n : ℕ) (r : Numeral (List ℕ)) → SameSet d.job.number_lines m → Alike (shaped d n r) (shaped (relined d m) n r)
shaped_alike d m n (Value ns) h = record { lines = all_at n; same = same_set (all_at n); is = refl }
shaped_alike d m n TooLarge h = tt
shaped_alike d m n NoNumber h = tt

shape_alike : (d : Draft) (m : ShapeNumbers) (n : ℕ) (ws : List (List ℕ)) → SameSet d.job.number_lines m → Alike (shape_line d n ws) (shape_line (relined d m) n ws)
shape_alike d m n [] h = record { lines = m; same = h; is = refl }
shape_alike d m n (w ∷ ws) h =
    alike_if (bytes_eq w (codes "shape")) (shaped d n (numbers_in 6 ws)) (Err NoShape) (shaped (relined d m) n (numbers_in 6 ws)) (Err NoShape)
    (shaped_alike d m n (numbers_in 6 ws) h) tt

abbrev pub set_to : Draft → ℕ → Setting → ℕ → Draft
set_to d n s v = record d { job = record d.job { numbers = with_setting s v d.job.numbers; number_lines = with_setting s n d.job.number_lines } }

once_alike : (d : Draft) (m : ShapeNumbers) (n : ℕ) (s : Setting) (v : ℕ) → SameSet d.job.number_lines m → Alike (set_once d n s v) (set_once (relined d m) n s v)
once_alike d m n s v h =
    subst (λ (b : Bool). Alike (set_once d n s v) (cond b (Ok (set_to (relined d m) n s v)) (Err Twice))) (h.set s)
    (alike_if (is_open s d.job.number_lines) (Ok (set_to d n s v)) (Err Twice) (Ok (set_to (relined d m) n s v)) (Err Twice)
    (record { lines = with_setting s n m; same = set_more s n d.job.number_lines m h; is = refl }) tt)

setting_alike : (d : Draft) (m : ShapeNumbers) (n : ℕ) (s : Setting) (ws : List (List ℕ)) → SameSet d.job.number_lines m → Alike (setting_line d n s ws) (setting_line (relined d m) n s ws)
setting_alike d m n s ws h =
    alike_if (takes_settings d.place) (number_in ws >>= set_once d n s) (Err BadLine) (number_in ws >>= set_once (relined d m) n s) (Err BadLine)
    (alike_bind (number_in ws) (set_once d n s) (set_once (relined d m) n s) (λ v. once_alike d m n s v h)) tt

abbrev with_lines : Job → ShapeNumbers → Job
with_lines job m = record job { number_lines = m }

closed_alike : (job : Job) (m : ShapeNumbers) (named : Named) (s : Section) → SameSet job.number_lines m → Relined (closed job named s) (closed (with_lines job m) named s)
closed_alike job m named (section.Code s) h = record { lines = m; same = h; is = refl }
closed_alike job m named (section.Asm s) h = record { lines = m; same = h; is = refl }
closed_alike job m named (section.Fill s) h = record { lines = m; same = h; is = refl }
closed_alike job m named (section.Table s) h = record { lines = m; same = h; is = refl }
closed_alike job m named (section.Script s) h = record { lines = m; same = h; is = refl }
closed_alike job m named (section.Graph s) h = record { lines = m; same = h; is = refl }

opened_alike : (job : Job) (m : ShapeNumbers) (named : Named) (s : Section) → SameSet job.number_lines m → Relined (opened job s named) (opened (with_lines job m) s named)
opened_alike job m named (section.Code s) h = record { lines = m; same = h; is = refl }
opened_alike job m named (section.Asm s) h = record { lines = m; same = h; is = refl }
opened_alike job m named (section.Fill s) h = record { lines = m; same = h; is = refl }
opened_alike job m named (section.Table s) h = record { lines = m; same = h; is = refl }
opened_alike job m named (section.Script s) h = record { lines = m; same = h; is = refl }
opened_alike job m named (section.Graph s) h = record { lines = m; same = h; is = refl }

opened_by_alike : (job : Job) (m : ShapeNumbers) (o : Option Named) (s : Section) → SameSet job.number_lines m → Alike (opened_by job s o) (opened_by (with_lines job m) s o)
opened_by_alike job m None s h = tt
opened_by_alike job m (Some named) s h = opened_alike job m named s h

section_alike : (d : Draft) (m : ShapeNumbers) (n : ℕ) (c : List ℕ) (key : Keyword) (ws : List (List ℕ)) → SameSet d.job.number_lines m
    → Alike (section_begun n c key ws >>= begun d.job d.named) (section_begun n c key ws >>= begun (with_lines d.job m) d.named)
section_alike d m n c key ws h =
    alike_bind (section_begun n c key ws) (begun d.job d.named) (begun (with_lines d.job m) d.named) (λ s. opened_by_alike d.job m (section_named d.named s) s h)

keyword_alike : (d : Draft) (m : ShapeNumbers) (n : ℕ) (c : List ℕ) (key : Option Keyword) (ws : List (List ℕ)) → SameSet d.job.number_lines m
    → Alike (keyword_line d n c key ws) (keyword_line (relined d m) n c key ws)
keyword_alike d m n c None ws h = tt
keyword_alike d m n c (Some (Number s)) ws h = setting_alike d m n s ws h
keyword_alike d m n c (Some Code) ws h = section_alike d m n c Code ws h
keyword_alike d m n c (Some Asm) ws h = section_alike d m n c Asm ws h
keyword_alike d m n c (Some Fill) ws h = section_alike d m n c Fill ws h
keyword_alike d m n c (Some Table) ws h = section_alike d m n c Table ws h
keyword_alike d m n c (Some Host) ws h = section_alike d m n c Host ws h
keyword_alike d m n c (Some Graph) ws h = section_alike d m n c Graph ws h

entry_alike : (d : Draft) (m : ShapeNumbers) (n : ℕ) (c : List ℕ) (ws : List (List ℕ)) → SameSet d.job.number_lines m → Alike (entry_line d n c ws) (entry_line (relined d m) n c ws)
entry_alike d m n c [] h = record { lines = m; same = h; is = refl }
entry_alike d m n c (w ∷ ws) h = keyword_alike d m n c (keyword_of w) ws h

inside_alike : (job : Job) (m : ShapeNumbers) (named : Named) (s : Section) (n : ℕ) (c : List ℕ) → SameSet job.number_lines m
    → Alike (inside_line job named s n c) (inside_line (with_lines job m) named s n c)
inside_alike job m named s n c h =
    alike_if (bytes_eq c (codes "end")) (Ok (closed job named s)) (with_line n c s >>= λ t. Ok (going_on job named t))
    (Ok (closed (with_lines job m) named s)) (with_line n c s >>= λ t. Ok (going_on (with_lines job m) named t)) (closed_alike job m named s h)
    (alike_bind (with_line n c s) (λ t. Ok (going_on job named t)) (λ t. Ok (going_on (with_lines job m) named t)) (λ t. record { lines = m; same = h; is = refl }))

content_alike : (p : Place) (d : Draft) (m : ShapeNumbers) (n : ℕ) (c : List ℕ) → SameSet d.job.number_lines m → Alike (content_line p d n c) (content_line p (relined d m) n c)
content_alike AtHeader d m n c h = header_alike d m n (words_of c) h
content_alike (AtShape line) d m n c h = shape_alike d m n (words_of c) h
content_alike AtSettings d m n c h = entry_alike d m n c (words_of c) h
content_alike AtSections d m n c h = entry_alike d m n c (words_of c) h
content_alike (Inside s) d m n c h = inside_alike d.job m d.named s n c h

step_alike : (n : ℕ) (o : Option (List ℕ)) (d : Draft) (m : ShapeNumbers) → SameSet d.job.number_lines m → Alike (step n o d) (step n o (relined d m))
step_alike n None d m h = tt
step_alike n (Some c) d m h = content_alike d.place d m n c h

-- So do all lines.

ended_alike : (p : Place) (d : Draft) (m : ShapeNumbers) (k : ℕ) → AreAlike (ended p d k) (ended p (relined d m) k)
ended_alike AtHeader d m k = tt
ended_alike (AtShape line) d m k = tt
ended_alike AtSettings d m k = refl
ended_alike AtSections d m k = refl
ended_alike (Inside s) d m k = tt

abbrev MoreAlike : List (List ℕ) → ℕ → ℕ → Type 0
MoreAlike ls n k = (d : Draft) (m : ShapeNumbers) → SameSet d.job.number_lines m → AreAlike (job_by k (drafted n ls d)) (job_by k (drafted n ls (relined d m)))

on_alike : (ls : List (List ℕ)) (n k : ℕ) (r q : Result Draft JobKind) → Alike r q → MoreAlike ls (n + 1) k
    → AreAlike (job_by k (and_on n r (λ t. drafted (n + 1) ls t))) (job_by k (and_on n q (λ t. drafted (n + 1) ls t)))
on_alike ls n k (Ok e) (Ok f) h more =
    subst (λ (x : Draft). AreAlike (job_by k (drafted (n + 1) ls e)) (job_by k (drafted (n + 1) ls x))) (sym h.is) (more e h.lines h.same)
on_alike ls n k (Ok e) (Err kind) h more = absurd h
on_alike ls n k (Err kind) (Ok f) h more = absurd h
on_alike ls n k (Err kind) (Err other) h more = tt

all_alike : (ls : List (List ℕ)) (n k : ℕ) → MoreAlike ls n k
all_alike [] n k d m h = ended_alike d.place d m k
all_alike (l ∷ ls) n k d m h = on_alike ls n k (step n (bare l) d) (step n (bare l) (relined d m)) (step_alike n (bare l) d m h) (all_alike ls (n + 1) k)

-- Two settings where settings are taken.

reads_setting : (l : List ℕ) (n : ℕ) (d : Draft) (a : IsSetting l) → d.place ≡ AtSettings → step n (bare l) d ≡ (number_in a.words >>= set_once d n a.setting)
reads_setting l n d a at =
    let plain = a.plain in let words = a.words_are in let named = a.named in
    rw (plain, at, words, named) refl

-- what a setting's line tells, if no fault is there
record Sets (l : List ℕ) (a : IsSetting l) (n : ℕ) (d e : Draft) : Type 0 where
  pub value : ℕ
  pub said : number_in a.words ≡ Ok value
  pub fresh : is_open a.setting d.job.number_lines ≡ true
  pub is : e ≡ set_to d n a.setting value

once_sets : (d e : Draft) (n : ℕ) (s : Setting) (v : ℕ) → set_once d n s v ≡ Ok e → (is_open s d.job.number_lines ≡ true) × (e ≡ set_to d n s v)
once_sets d e n s v h =
    ⊎_elim (λ t. let k : Ok (set_to d n s v) ≡ Ok e = rw t at h in let same : e ≡ set_to d n s v = cc in (t, same))
    (λ t. let k : Err Twice ≡ Ok e = rw t at h in cc) (cases_Bool (is_open s d.job.number_lines))

sets : (l : List ℕ) (a : IsSetting l) (n : ℕ) (d e : Draft) → d.place ≡ AtSettings → step n (bare l) d ≡ Ok e → Sets l a n d e
sets l a n d e at h =
    let b = bind_ok (number_in a.words) (set_once d n a.setting) e (sym (reads_setting l n d a at) ∙ h) in
    let o = once_sets d e n a.setting b.0 b.2 in
    record { value = b.0; said = b.1; fresh = o.0; is = o.1 }

can_set : (l : List ℕ) (a : IsSetting l) (n : ℕ) (d : Draft) (v : ℕ) → d.place ≡ AtSettings → number_in a.words ≡ Ok v → is_open a.setting d.job.number_lines ≡ true
    → step n (bare l) d ≡ Ok (set_to d n a.setting v)
can_set l a n d v at said fresh = reads_setting l n d a at ∙ ap (λ (r : Result ℕ JobKind). r >>= set_once d n a.setting) said ∙ rw fresh refl

abbrev both_set : ShapeNumbers → ℕ → Setting → Setting → ShapeNumbers
both_set l n s t = with_setting t (n + 1) (with_setting s n l)

-- behind both lines both are given
shut_first : (l : ShapeNumbers) (n : ℕ) (s t : Setting) → Apart s t → l.version < n → is_open s (both_set l n s t) ≡ false
shut_first l n s t a low = open_kept s t (n + 1) (with_setting s n l) (a.kept (n + 1) (with_setting s n l)) ∙ open_own s n l low

shut_second : (l : ShapeNumbers) (n : ℕ) (s t : Setting) → l.version < n → is_open t (both_set l n s t) ≡ false
shut_second l n s t low = open_own t (n + 1) (with_setting s n l) (omega (arith, set_version s n l, low))

turned : {s t : Setting} → Apart s t → Apart t s
turned a = record { kept = a.back; back = a.kept; swapped = λ x y l. sym (a.swapped y x l) }

both_same : (l : ShapeNumbers) (n : ℕ) (s t : Setting) → Apart s t → l.version < n → SameSet (both_set l n s t) (both_set l n t s)
both_same l n s t a low = record {
  version = set_version t (n + 1) (with_setting s n l) ∙ set_version s n l ∙ sym (set_version t n l) ∙ sym (set_version s (n + 1) (with_setting t n l));
  set = λ u. ⊎_elim
      (λ e. ap (λ (x : Setting). is_open x (both_set l n s t)) e ∙ shut_first l n s t a low ∙ sym (shut_second l n t s low) ∙ ap (λ (x : Setting). is_open x (both_set l n t s)) (sym e))
      (λ (p : Apart u s). ⊎_elim
      (λ e. ap (λ (x : Setting). is_open x (both_set l n s t)) e ∙ shut_second l n s t low ∙ sym (shut_first l n t s (turned a) low) ∙ ap (λ (x : Setting). is_open x (both_set l n t s)) (sym e))
      (λ (q : Apart u t). open_kept u t (n + 1) (with_setting s n l) (q.kept (n + 1) (with_setting s n l)) ∙ open_kept u s n l (p.kept n l)
      ∙ sym (open_kept u t n l (q.kept n l)) ∙ sym (open_kept u s (n + 1) (with_setting t n l) (p.kept (n + 1) (with_setting t n l))))
      (apart u t))
      (apart u s);
}

-- what follows two lines
abbrev two : ℕ → List ℕ → List ℕ → Draft → Result Draft (Fault JobKind)
two n a b d = drafted n (a ∷ b ∷ []) d

record Swaps (n : ℕ) (a b : List ℕ) (d e : Draft) : Type 0 where
  pub other : Draft
  pub reads : two n b a d ≡ Ok other
  pub alike : Relined e other

swapped_by : (n : ℕ) (a b : List ℕ) (p : IsSetting a) (q : IsSetting b) (d : Draft) (v w : ℕ) → d.place ≡ AtSettings → d.job.number_lines.version < n
    → number_in p.words ≡ Ok v → number_in q.words ≡ Ok w → is_open p.setting d.job.number_lines ≡ true
    → is_open q.setting (with_setting p.setting n d.job.number_lines) ≡ true → Apart p.setting q.setting
    → Swaps n a b d (set_to (set_to d n p.setting v) (n + 1) q.setting w)
swapped_by n a b p q d v w at low first second fresh unset apart_ =
    let s = p.setting in let t = q.setting in let l = d.job.number_lines in
    let one = can_set b q n d w at second (sym (open_kept t s n l (apart_.back n l)) ∙ unset) in
    let next = can_set a p (n + 1) (set_to d n t w) v at first (open_kept s t n l (apart_.kept n l) ∙ fresh) in
    record {
      other = set_to (set_to d n t w) (n + 1) s v;
      reads = rw (one, next) refl;
      alike = record {
        lines = both_set l n t s;
        same = both_same l n s t apart_ low;
        is = ap (λ (x : ShapeNumbers). record d { job = record d.job { numbers = x; number_lines = both_set l n t s } }) (apart_.swapped v w d.job.numbers);
      };
    }

refuted : (n : ℕ) (s t : Setting) (l : ShapeNumbers) → s ≡ t → l.version < n → is_open t (with_setting s n l) ≡ true → ⊥
refuted n s t l e low unset =
    let shut : is_open t (with_setting s n l) ≡ false = ap (λ (x : Setting). is_open x (with_setting s n l)) (sym e) ∙ open_own s n l low in
    let bad : true ≡ false = sym unset ∙ shut in cc

forward : (n : ℕ) (a b : List ℕ) (p : IsSetting a) (q : IsSetting b) (d e : Draft) → d.place ≡ AtSettings → d.job.number_lines.version < n → two n a b d ≡ Ok e → Swaps n a b d e
forward n a b p q d e at low h =
    let s = p.setting in let t = q.setting in let l = d.job.number_lines in
    let one = on_ok n (step n (bare a) d) (λ x. drafted (n + 1) (b ∷ []) x) e h in
    let next = on_ok (n + 1) (step (n + 1) (bare b) one.0) (λ x. drafted (n + 1 + 1) [] x) e one.2 in
    let f = sets a p n d one.0 at one.1 in
    let g = sets b q (n + 1) (set_to d n s f.value) next.0 at (ap (λ (x : Draft). step (n + 1) (bare b) x) (sym f.is) ∙ next.1) in
    let same : next.0 ≡ e = cc in
    ⊎_elim (λ eq. absurd (refuted n s t l eq low g.fresh))
    (λ (c : Apart s t). subst (λ (x : Draft). Swaps n a b d x) (sym g.is ∙ same) (swapped_by n a b p q d f.value g.value at low f.said g.said f.fresh g.fresh c))
    (apart s t)

-- All lines.

abbrev onward : Result Draft (Fault JobKind) → (Draft → Result Draft (Fault JobKind)) → Result Draft (Fault JobKind)
onward (Ok d) f = f d
onward (Err fault) f = Err fault

on_onward : (n : ℕ) (r : Result Draft JobKind) (f g : Draft → Result Draft (Fault JobKind)) (more : Draft → Result Draft (Fault JobKind))
    → ((d : Draft) → f d ≡ onward (g d) more) → and_on n r f ≡ onward (and_on n r g) more
on_onward n (Ok d) f g more h = h d
on_onward n (Err kind) f g more h = refl

drafted_append : (xs ys : List (List ℕ)) (n m : ℕ) (d : Draft) → m ≡ n + length xs → drafted n (xs ++ ys) d ≡ onward (drafted n xs d) (λ e. drafted m ys e)
drafted_append [] ys n m d is = let same : n ≡ m = omega (arith, is) in rw same refl
drafted_append (x ∷ xs) ys n m d is =
    on_onward n (step n (bare x) d) (λ e. drafted (n + 1) (xs ++ ys) e) (λ e. drafted (n + 1) xs e) (λ e. drafted m ys e)
    (λ e. drafted_append xs ys (n + 1) m e (omega (arith, is)))

pair_alike : (after : List (List ℕ)) (m k : ℕ) (r q : Result Draft (Fault JobKind)) → ((e : Draft) → r ≡ Ok e → (f : Draft) × (q ≡ Ok f) × Relined e f)
    → ((f : Draft) → q ≡ Ok f → (e : Draft) × (r ≡ Ok e)) → AreAlike (job_by k (onward r (λ e. drafted m after e))) (job_by k (onward q (λ e. drafted m after e)))
pair_alike after m k (Ok e) q there back =
    let s = there e refl in
    subst (λ (x : Result Draft (Fault JobKind)). AreAlike (job_by k (drafted m after e)) (job_by k (onward x (λ f. drafted m after f)))) (sym s.1)
    (subst (λ (x : Draft). AreAlike (job_by k (drafted m after e)) (job_by k (drafted m after x))) (sym s.2.is) (all_alike after m k e s.2.lines s.2.same))
pair_alike after m k (Err fault) (Ok f) there back = let s = back f refl in let bad = s.1 in cc
pair_alike after m k (Err fault) (Err other) there back = tt

-- Where settings are not taken.

abbrev Refused : Result Draft (Fault JobKind) → Type 0
Refused (Ok d) = ⊥
Refused (Err fault) = Unit {0}

refused_alike : (k : ℕ) (r q : Result Draft (Fault JobKind)) → Refused r → Refused q → AreAlike (job_by k r) (job_by k q)
refused_alike k (Ok d) q h g = absurd h
refused_alike k (Err fault) (Ok d) h g = absurd g
refused_alike k (Err fault) (Err other) h g = tt

refused_first : (n : ℕ) (l : List ℕ) (ls : List (List ℕ)) (d : Draft) (kind : JobKind) → step n (bare l) d ≡ Err kind → Refused (drafted n (l ∷ ls) d)
refused_first n l ls d kind h = rw h tt

another_word : (name text : List ℕ) (s : Setting) → keyword_of name ≡ Some (Number s) → (keyword_of text ≡ Some (Number s) → ⊥) → bytes_eq name text ≡ false
another_word name text s key never =
    ⊎_elim (λ e. absurd (never (ap keyword_of (sym (same_bytes name text e)) ∙ key))) (λ e. e) (cases_Bool (bytes_eq name text))

no_version : (name : List ℕ) (words : List (List ℕ)) → bytes_eq name (codes "tinsel") ≡ false → version_by (two_of (name ∷ words)) ≡ None
no_version name [] h = refl
no_version name (w ∷ []) h = rw h refl
no_version name (w ∷ v ∷ ws) h = refl

at_header : (l : List ℕ) (n : ℕ) (d : Draft) (a : IsSetting l) → d.place ≡ AtHeader → step n (bare l) d ≡ Err Header
at_header l n d a at =
    let plain = a.plain in let words = a.words_are in
    let none = no_version a.name a.words (another_word a.name (codes "tinsel") a.setting a.named (λ e. cc)) in
    rw (plain, at, words, none) refl

at_shape : (l : List ℕ) (n k : ℕ) (d : Draft) (a : IsSetting l) → d.place ≡ AtShape k → step n (bare l) d ≡ Err NoShape
at_shape l n k d a at =
    let plain = a.plain in let words = a.words_are in
    let other = another_word a.name (codes "shape") a.setting a.named (λ e. cc) in
    rw (plain, at, words, other) refl

at_sections : (l : List ℕ) (n : ℕ) (d : Draft) (a : IsSetting l) → d.place ≡ AtSections → step n (bare l) d ≡ Err BadLine
at_sections l n d a at =
    let plain = a.plain in let words = a.words_are in let named = a.named in
    rw (plain, at, words, named) refl

-- Anywhere but in a section.

by_place : (p : Place) (d : Draft) (n k : ℕ) (a b : List ℕ) (after : List (List ℕ)) (x : IsSetting a) (y : IsSetting b) → d.place ≡ p → d.job.number_lines.version < n
    → ((s : Section) → p ≡ Inside s → ⊥) → AreAlike (job_by k (drafted n (a ∷ b ∷ after) d)) (job_by k (drafted n (b ∷ a ∷ after) d))
by_place AtHeader d n k a b after x y at low out =
    refused_alike k _ _ (refused_first n a (b ∷ after) d Header (at_header a n d x at)) (refused_first n b (a ∷ after) d Header (at_header b n d y at))
by_place (AtShape line) d n k a b after x y at low out =
    refused_alike k _ _ (refused_first n a (b ∷ after) d NoShape (at_shape a n line d x at)) (refused_first n b (a ∷ after) d NoShape (at_shape b n line d y at))
by_place AtSections d n k a b after x y at low out =
    refused_alike k _ _ (refused_first n a (b ∷ after) d BadLine (at_sections a n d x at)) (refused_first n b (a ∷ after) d BadLine (at_sections b n d y at))
by_place (Inside s) d n k a b after x y at low out = absurd (out s refl)
by_place AtSettings d n k a b after x y at low out =
    let m = n + 1 + 1 in
    let first = drafted_append (a ∷ b ∷ []) after n m d (omega arith) in
    let second = drafted_append (b ∷ a ∷ []) after n m d (omega arith) in
    let core = pair_alike after m k (two n a b d) (two n b a d)
    (λ e h. let s = forward n a b x y d e at low h in (s.other, s.reads, s.alike))
    (λ f h. let s = forward n b a y x d f at low h in (s.other, s.reads)) in
    subst (λ (r : Result Draft (Fault JobKind)). AreAlike (job_by k r) (job_by k (drafted n (b ∷ a ∷ after) d))) (sym first)
    (subst (λ (r : Result Draft (Fault JobKind)). AreAlike (job_by k (onward (two n a b d) (λ e. drafted m after e))) (job_by k r)) (sym second) core)

behind : (before after : List (List ℕ)) (k : ℕ) (a b : List ℕ) (x : IsSetting a) (y : IsSetting b) → AreWhole before → (r : Result Draft (Fault JobKind)) → drafted 1 before start ≡ r
    → AreAlike (job_by k (onward r (λ d. drafted (1 + length before) (a ∷ b ∷ after) d))) (job_by k (onward r (λ d. drafted (1 + length before) (b ∷ a ∷ after) d)))
behind before after k a b x y whole (Err fault) is = tt
behind before after k a b x y whole (Ok d) is =
    by_place d.place d (1 + length before) k a b after x y refl (omega (arith, shape_low before d is))
    (λ s at. whole (fault_on (length before) NoEnd) (ap (job_by (length before)) is ∙ ap (λ (p : Place). ended p d (length before)) at) refl)

pub settings_commute : SettingsCommute
settings_commute before after a b whole x y =
    let xs = a ∷ b ∷ after in let ys = b ∷ a ∷ after in
    let k = length (before ++ xs) in
    let long : length (before ++ ys) ≡ k = omega (arith, length-append before xs, length-append before ys) in
    let first = ap (job_by k) (drafted_append before xs 1 (1 + length before) start refl) in
    let second = ap (λ (j : ℕ). job_by j (drafted 1 (before ++ ys) start)) long ∙ ap (job_by k) (drafted_append before ys 1 (1 + length before) start refl) in
    let core = behind before after k a b x y whole (drafted 1 before start) refl in
    subst (λ (r : Result Job (Fault JobKind)). AreAlike r (job_of (before ++ ys))) (sym first)
    (subst (λ (r : Result Job (Fault JobKind)). AreAlike (job_by k (onward (drafted 1 before start) (λ d. drafted (1 + length before) xs d))) r) (sym second) core)
