-- Lines inside sections, as they are printed, are read again.
use Rattle.std.proofs.Common.{◌≡◌, ℕ, ◌+◌, ◌*◌, ◌/◌, ◌%◌, ◌^◌, ◌<◌, ◌≤◌, zero, suc, false, ◌&&◌, eqb, List, [], ◌∷◌, ◌++◌, Some, length, get_or, map, flat_map, codes, refl, sym, ap, subst, ◌∙◌, Fits, w8, arith, append-nil, append_assoc, length-append}
use Rattle.std.specs.declared.result.Result.TheVariants.{Ok}
use Rattle.std.specs.Char.{digit_char}
use Rattle.std.specs.Str.{bytes_eq}
use Rattle.std.specs.List.{AllByRecursion}
use Rattle.std.proofs.Math.Facts.{Fits-of_lt}
use Rattle.std.proofs.lemmas.Bool.{lt-ltb, and_right, eq-eqb}
use Rattle.tn_text.specs.Words.{words_of}
use Rattle.tn_text.specs.Hex.{hex_text, hex_word_text, hex_array_of, word_text}
use Rattle.tn_text.proofs.Clean.{IsWord, IsLine, line_of_words, words_of-line}
use Rattle.tn_text.proofs.Printed.{hex_read_back, hex_word_read_back}
use Rattle.tn_text.specs.Lines.{feed}
use Rattle.tn_text.proofs.PrintedWords.{hex_word}
use Rattle.job_text.specs.declared.job.BeatLine.{BeatLine}
use Rattle.job_text.specs.declared.job.CodeSection.{CodeSection}
use Rattle.job_text.specs.declared.job.Job.{Job}
use Rattle.job_text.specs.declared.job.Section.{Section}
use Rattle.job_text.specs.declared.job.Section.TheVariants.{Code, Table}
use Rattle.job_text.specs.declared.job.TableSection.{TableSection}
use Rattle.job_text.specs.declared.job.TextSection.{TextSection}
use Rattle.job_text.specs.declared.named.Named.{Named}
use Rattle.job_text.specs.Printed.{beat_text, end_text}
use Rattle.job_text.specs.SectionLines.{word_line, word_by, beat_line, beat_by, text_added, with_line}
use Rattle.job_text.specs.Text.{closed, going_on}
use Rattle.job_text.specs.WellFormed.{AreBytes, IsBeat, beat_unlined, IsTextLine, fed}
use Rattle.job_text.proofs.Leads.{Leads, leads_none, leads_then, leads_line, leads_content}
use Rattle.job_text.proofs.WholeLines.{lines_of-unbroken}

pub fit_bytes : (bytes : List ℕ) → AreBytes bytes → (k : ℕ) → Fits w8 (get_or bytes k 0)
fit_bytes bytes h k = Fits-of_lt {w = w8} (h k)

-- one word alone is a line
word_is_line : (w : List ℕ) → IsWord w → IsLine w
word_is_line w h = subst (λ (l : List ℕ). IsLine l) (append-nil w) (line_of_words w [] h tt)

words_of-word : (w : List ℕ) → IsWord w → words_of w ≡ w ∷ []
words_of-word w h = ap words_of (sym (append-nil w)) ∙ words_of-line w [] h tt

not_end : (a b c d : ℕ) (xs : List ℕ) → bytes_eq (a ∷ b ∷ c ∷ d ∷ xs) (codes "end") ≡ false
not_end a b c d xs =
    and_right (eqb a 101) (eqb b 110 && (eqb c 100 && false))
    (and_right (eqb b 110) (eqb c 100 && false) (and_right (eqb c 100) false refl))

hex_not_end : (a b : ℕ) (bytes : List ℕ) → bytes_eq (hex_text (a ∷ b ∷ bytes)) (codes "end") ≡ false
hex_not_end a b bytes = not_end (digit_char (a / 16)) (digit_char (a % 16)) (digit_char (b / 16)) (digit_char (b % 16)) (hex_text bytes)

four : (a b c d : ℕ) → a < 256 → b < 256 → c < 256 → d < 256 → AreBytes (a ∷ b ∷ c ∷ d ∷ [])
four a b c d h i j k zero = h
four a b c d h i j k (suc zero) = i
four a b c d h i j k (suc (suc zero)) = j
four a b c d h i j k (suc (suc (suc zero))) = k
four a b c d h i j k (suc (suc (suc (suc n)))) = omega arith

word_fits : (w : ℕ) → w < 2 ^ 32 → IsWord (hex_word_text w)
word_fits w h =
    hex_word (w / 2 ^ 24 ∷ w / 2 ^ 16 % 256 ∷ w / 2 ^ 8 % 256 ∷ w % 256 ∷ [])
    (fit_bytes (w / 2 ^ 24 ∷ w / 2 ^ 16 % 256 ∷ w / 2 ^ 8 % 256 ∷ w % 256 ∷ []) (four (w / 2 ^ 24) (w / 2 ^ 16 % 256) (w / 2 ^ 8 % 256) (w % 256) (omega arith) (omega arith) (omega arith) (omega arith)))
    (omega arith)

-- The end of a section, whichever.

end_word : IsWord (codes "end")
end_word = record { bytes = refl; some = refl }

pub end_leads : (job : Job) (named : Named) (s : Section) (n : ℕ) → Leads (going_on job named s) n end_text (closed job named s) (n + 1)
end_leads job named s n = leads_line (going_on job named s) n (codes "end") (closed job named s) (word_is_line (codes "end") end_word) refl

-- Words.

abbrev pub with_words : CodeSection → List ℕ → CodeSection
with_words s ws = record s { words = ws }

one_word_leads : (job : Job) (named : Named) (s : CodeSection) (n w : ℕ) → w < 2 ^ 32 → length s.words < 16384
    → Leads (going_on job named (Code s)) n (word_text w) (going_on job named (Code (with_words s (s.words ++ w ∷ [])))) (n + 1)
one_word_leads job named s n w h few =
    let word = word_fits w h in
    let text = hex_word_text w in
    let back = hex_word_read_back w h in
    let room = lt-ltb (length s.words) 16384 few in
    let one = words_of-word text word in
    let goes_on : bytes_eq text (codes "end") ≡ false = hex_not_end (w / 2 ^ 24) (w / 2 ^ 16 % 256) (w / 2 ^ 8 % 256 ∷ w % 256 ∷ []) in
    let by : word_by s (Some text) ≡ Ok (with_words s (s.words ++ w ∷ [])) = rw (back, room) refl in
    let said : word_line s (words_of text) ≡ Ok (with_words s (s.words ++ w ∷ [])) = ap (word_line s) one ∙ by in
    leads_line (going_on job named (Code s)) n text (going_on job named (Code (with_words s (s.words ++ w ∷ [])))) (word_is_line text word) (rw (goes_on, said) refl)

pub words_lead : (ws : List ℕ) (job : Job) (named : Named) (s : CodeSection) (n : ℕ) → AllByRecursion (λ w. w < 2 ^ 32) ws → length s.words + length ws ≤ 16384
    → (m : ℕ) × Leads (going_on job named (Code s)) n (flat_map word_text ws) (going_on job named (Code (with_words s (s.words ++ ws)))) m
words_lead [] job named s n h few =
    (n, subst (λ (ws : List ℕ). Leads (going_on job named (Code s)) n [] (going_on job named (Code (with_words s ws))) n) (sym (append-nil s.words)) (leads_none (going_on job named (Code s)) n))
words_lead (w ∷ ws) job named s n h few =
    let t = with_words s (s.words ++ w ∷ []) in
    let first = one_word_leads job named s n w h.0 (omega arith) in
    let rest = words_lead ws job named t (n + 1) h.1 (omega (arith, length-append s.words (w ∷ []))) in (
      rest.0,
      leads_then (going_on job named (Code s)) n (word_text w) (going_on job named (Code t)) (n + 1) (flat_map word_text ws) (going_on job named (Code (with_words s (s.words ++ w ∷ ws)))) rest.0 first
          (subst (λ (xs : List ℕ). Leads (going_on job named (Code t)) (n + 1) (flat_map word_text ws) (going_on job named (Code (with_words s xs))) rest.0) (append_assoc s.words (w ∷ []) ws) rest.1),
    )

-- Beats.

long_hex : (bytes : List ℕ) → length bytes ≡ 32 → bytes_eq (hex_text bytes) (codes "end") ≡ false
long_hex [] h = absurd (omega arith)
long_hex (b ∷ []) h = absurd (omega arith)
long_hex (b ∷ c ∷ bs) h = hex_not_end b c bs

length-hex_text : (bytes : List ℕ) → length (hex_text bytes) ≡ 2 * length bytes
length-hex_text [] = refl
length-hex_text (b ∷ bs) = let more = length-hex_text bs in omega arith

array_back : (bytes : List ℕ) → AreBytes bytes → length bytes ≡ 32 → hex_array_of 32 (hex_text bytes) ≡ Some bytes
array_back bytes h e =
    let back = hex_read_back bytes (fit_bytes bytes h) in
    let long = eq-eqb (length (hex_text bytes)) 64 (omega (arith, length-hex_text bytes)) in
    rw (long, back) refl

abbrev pub with_beats : TableSection → List BeatLine → TableSection
with_beats t bs = record t { beats = bs }

one_beat_leads : (job : Job) (named : Named) (t : TableSection) (n : ℕ) (beat : BeatLine) → IsBeat beat → length t.beats < 65536
    → Leads (going_on job named (Table t)) n (beat_text beat) (going_on job named (Table (with_beats t (t.beats ++ record beat { line = n + 1 } ∷ [])))) (n + 1)
one_beat_leads job named t n beat h few =
    let word = hex_word beat.bytes (fit_bytes beat.bytes h.bytes) (omega (arith, h.whole)) in
    let text = hex_text beat.bytes in
    let after = with_beats t (t.beats ++ record beat { line = n + 1 } ∷ []) in
    let back = array_back beat.bytes h.bytes h.whole in
    let room = lt-ltb (length t.beats) 65536 few in
    let goes_on = long_hex beat.bytes h.whole in
    let one = words_of-word text word in
    let by : beat_by t (n + 1) (Some text) ≡ Ok after = rw (back, room) refl in
    let said : beat_line t (n + 1) (words_of text) ≡ Ok after = ap (beat_line t (n + 1)) one ∙ by in
    leads_line (going_on job named (Table t)) n text (going_on job named (Table after)) (word_is_line text word) (rw (goes_on, said) refl)

pub record BeatsRead (job : Job) (named : Named) (t : TableSection) (n : ℕ) (beats : List BeatLine) : Type 0 where
  pub read : List BeatLine
  pub behind : ℕ
  pub same : map beat_unlined read ≡ map beat_unlined beats
  pub leads : Leads (going_on job named (Table t)) n (flat_map beat_text beats) (going_on job named (Table (with_beats t (t.beats ++ read)))) behind

pub beats_lead : (beats : List BeatLine) (job : Job) (named : Named) (t : TableSection) (n : ℕ) → AllByRecursion IsBeat beats → length t.beats + length beats ≤ 65536 → BeatsRead job named t n beats
beats_lead [] job named t n h few = record {
  read = [];
  behind = n;
  same = refl;
  leads = subst (λ (bs : List BeatLine). Leads (going_on job named (Table t)) n [] (going_on job named (Table (with_beats t bs))) n) (sym (append-nil t.beats)) (leads_none (going_on job named (Table t)) n);
}
beats_lead (beat ∷ beats) job named t n h few =
    let item = record beat { line = n + 1 } in
    let u = with_beats t (t.beats ++ item ∷ []) in
    let first = one_beat_leads job named t n beat h.0 (omega arith) in
    let rest = beats_lead beats job named u (n + 1) h.1 (omega (arith, length-append t.beats (item ∷ []))) in
    record {
      read = item ∷ rest.read;
      behind = rest.behind;
      same = ap (λ (xs : List BeatLine). beat_unlined beat ∷ xs) rest.same;
      leads = leads_then (going_on job named (Table t)) n (beat_text beat) (going_on job named (Table u)) (n + 1) (flat_map beat_text beats) (going_on job named (Table (with_beats t (t.beats ++ item ∷ rest.read)))) rest.behind first
          (subst (λ (xs : List BeatLine). Leads (going_on job named (Table u)) (n + 1) (flat_map beat_text beats) (going_on job named (Table (with_beats t xs))) rest.behind) (append_assoc t.beats (item ∷ []) rest.read) rest.leads);
    }

-- Lines that are kept as they are, of assembly or of a graph.

abbrev pub KeepsLines : (TextSection → Section) → Type 0
KeepsLines kind = (n : ℕ) (l : List ℕ) (s : TextSection) → with_line n l (kind s) ≡ Ok (kind (text_added s l))

abbrev pub with_text : TextSection → List ℕ → TextSection
with_text s text = record s { text = text }

pub text_leads : (kind : TextSection → Section) → KeepsLines kind → (ls : List (List ℕ)) (job : Job) (named : Named) (s : TextSection) (n : ℕ) → AllByRecursion IsTextLine ls
    → (m : ℕ) × Leads (going_on job named (kind s)) n (flat_map fed ls) (going_on job named (kind (with_text s (s.text ++ flat_map fed ls)))) m
text_leads kind keeps [] job named s n h =
    (n, subst (λ (t : List ℕ). Leads (going_on job named (kind s)) n [] (going_on job named (kind (with_text s t))) n) (sym (append-nil s.text)) (leads_none (going_on job named (kind s)) n))
text_leads kind keeps (l ∷ ls) job named s n h =
    let t = text_added s l in
    let goes_on = h.0.goes_on in
    let said = keeps (n + 1) l s in
    let first = leads_content (going_on job named (kind s)) n l (going_on job named (kind t)) (λ rest. lines_of-unbroken l rest h.0.one_line) h.0.plain h.0.content (rw (goes_on, said) refl) in
    let rest = text_leads kind keeps ls job named t (n + 1) h.1 in
    let same : s.text ++ l ++ feed ++ flat_map fed ls ≡ s.text ++ (l ++ feed ++ flat_map fed ls) =
    ap (λ (xs : List ℕ). xs ++ flat_map fed ls) (append_assoc s.text l feed) ∙ append_assoc s.text (l ++ feed) (flat_map fed ls) in (
      rest.0,
      leads_then (going_on job named (kind s)) n (l ++ feed) (going_on job named (kind t)) (n + 1) (flat_map fed ls) (going_on job named (kind (with_text s (s.text ++ (l ++ feed ++ flat_map fed ls))))) rest.0 first
          (subst (λ (xs : List ℕ). Leads (going_on job named (kind t)) (n + 1) (flat_map fed ls) (going_on job named (kind (with_text s xs))) rest.0) same rest.1),
    )
