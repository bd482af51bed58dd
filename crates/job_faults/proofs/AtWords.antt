-- The handlers of kinds begin at words.
use Rattle.std.proofs.Common.{ℕ, ◌≡◌, ◌+◌, ◌%◌, ◌++◌, ◌∷◌, [], List, Option, Some, None, IsTrue, codes, get_or, is_some, replicate, zero, suc, refl}
use Rattle.std.specs.List.{AllByRecursion}
use Rattle.std.specs.declared.result.Result.{Result}
use Rattle.std.specs.declared.result.Result.TheVariants.{Ok, Err}
use Rattle.tn_text.specs.declared.stop.Fault.{Fault as At}
use Rattle.asm_text.specs.declared.fault.AsmKind.{AsmKind}
use Rattle.asm_build.specs.declared.image.Image.{Image}
use Rattle.asm_build.specs.Labels.{address_of}
use Rattle.asm_build.specs.Text.{assembled}
use Rattle.asm_build.proofs.AtWords.{labels_at_words}
use Rattle.graph_text.specs.declared.graph.KindRow.{KindRow}
use Rattle.job_text.specs.declared.job.TextSection.{TextSection}
use Rattle.job_faults.specs.declared.fault.FaultName.TheVariants as fault
use Rattle.job_faults.specs.Assembly.{LabelList, image_labels, image_of, labels_of}
use Rattle.job_faults.specs.Faults.{fault_at}
use Rattle.job_faults.specs.Labels.{all_given, entries_in, entries_of, entry_of, given_or_zero, kind_fault, kinds_fault, with_front}
use Rattle.job_faults.proofs.Faultless.{passed}
use Rattle.job_faults.proofs.Faults.{or_neither}

-- Labels.

abbrev pub AtWords : LabelList → Type 0
AtWords labels = (name : List ℕ) (a : ℕ) → address_of name labels ≡ Some a → a % 4 ≡ 0

image_words : (first : ℕ) (text : List ℕ) (r : Result Image (At AsmKind)) → assembled first text ≡ r → AtWords (image_labels r)
image_words first text (Ok image) e name a h = labels_at_words first text image name a e h
image_words first text (Err found) e name a h = absurd cc

pub labels_words : (asms : List TextSection) → AtWords (labels_of asms)
labels_words [] name a h = absurd cc
labels_words (s ∷ ss) name a h = image_words (s.line + 1) s.text (image_of s) refl name a h

-- Entries.

abbrev AllWords : List ℕ → Type 0
AllWords entries = (e : ℕ) → get_or entries e 0 % 4 ≡ 0

words_front : (a : ℕ) (rest : List ℕ) → a % 4 ≡ 0 → AllWords rest → AllWords (a ∷ rest)
words_front a rest h all zero = h
words_front a rest h all (suc e) = all e

abbrev IsWord : Option ℕ → Type 0
IsWord o = (a : ℕ) → o ≡ Some a → a % 4 ≡ 0

abbrev AreWords : Option (List ℕ) → Type 0
AreWords None = Unit {0}
AreWords (Some entries) = AllWords entries

front_words : (o : Option ℕ) (rest : Option (List ℕ)) → IsWord o → AreWords rest → AreWords (with_front o rest)
front_words None rest h all = tt
front_words (Some a) None h all = tt
front_words (Some a) (Some rest) h all = words_front a rest (h a refl) all

five_words : (a b c d e : Option ℕ) → IsWord a → IsWord b → IsWord c → IsWord d → IsWord e → AreWords (all_given a b c d e)
five_words a b c d e p q r s t =
    front_words a (with_front b (with_front c (with_front d (with_front e (Some []))))) p
    (front_words b (with_front c (with_front d (with_front e (Some [])))) q
    (front_words c (with_front d (with_front e (Some []))) r
    (front_words d (with_front e (Some [])) s
    (front_words e (Some []) t (λ k. refl)))))

entries_words : (labels : LabelList) (kind : List ℕ) → AtWords labels → AreWords (entries_of labels kind)
unfolding entries_of
entries_words labels kind h =
    five_words (entry_of labels kind (codes "_init")) (entry_of labels kind (codes "_send")) (entry_of labels kind (codes "_recv"))
    (entry_of labels kind (codes "_step")) (entry_of labels kind (codes "_finish"))
    (λ a e. h (kind ++ codes "_init") a e) (λ a e. h (kind ++ codes "_send") a e) (λ a e. h (kind ++ codes "_recv") a e)
    (λ a e. h (kind ++ codes "_step") a e) (λ a e. h (kind ++ codes "_finish") a e)

zeros : (n e : ℕ) → get_or (replicate n 0) e 0 % 4 ≡ 0
zeros zero e = refl
zeros (suc n) zero = refl
zeros (suc n) (suc e) = zeros n e

given_words : (o : Option (List ℕ)) → AreWords o → AllWords (given_or_zero o)
given_words None all = zeros 5
given_words (Some entries) all = all

pub kinds_words : (labels : LabelList) (kinds : List KindRow) (kind handler : ℕ) → AtWords labels → get_or (get_or (entries_in labels kinds) kind (replicate 5 0)) handler 0 % 4 ≡ 0
kinds_words labels [] kind handler h = zeros 5 handler
kinds_words labels (k ∷ ks) zero handler h = given_words (entries_of labels k.name) (entries_words labels k.name h) handler
kinds_words labels (k ∷ ks) (suc kind) handler h = kinds_words labels ks kind handler h

-- each handler has its label
pub all_labelled : (labels : LabelList) (kinds : List KindRow) → kinds_fault labels kinds ≡ None → AllByRecursion (λ kind. IsTrue (is_some (entries_of labels kind.name))) kinds
all_labelled labels [] e = tt
all_labelled labels (k ∷ ks) e =
    let both = or_neither (kind_fault labels k) (kinds_fault labels ks) e in
    (passed (is_some (entries_of labels k.name)) (fault_at k.line fault.NoLabel) both.0, all_labelled labels ks both.1)
