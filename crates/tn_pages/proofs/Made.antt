-- Which pages of a memory are made.
use Rattle.std.proofs.Common.{ℕ, ◌+◌, ◌*◌, ◌/◌, ◌%◌, ◌<◌, ◌≤◌, ◌≡◌, true, false, IsTrue, List, [], ◌∷◌, length, get_or, set, map, replicate, refl, ◌∙◌, ap, inl, inr, arith, length-set}
use Rattle.std.proofs.lemmas.Bool.{cases_eq, cases_lt, lt-ltb, le-ltb}
use Rattle.std.proofs.lemmas.List.{get_or-set_same, get_or-set_other, get_or_past, map-set, get_or-replicate, length-replicate, get_or-map}
use Rattle.tn_base.specs.Effects.{is_width}
use Rattle.tn_pages.specs.Numbers.{written}
use Rattle.tn_pages.specs.Pages.{PagesFit, byte_in, bytes_in, is_made, made_page, page_in, page_len}
use Rattle.tn_pages.proofs.Bytes.{byte_here, byte_there, number_written, same_bytes, width_cases}

pub made_yes : (page : List ℕ) → 0 < length page → is_made page ≡ true
made_yes page h = lt-ltb 0 (length page) h

pub made_no : (page : List ℕ) → length page ≡ 0 → is_made page ≡ false
made_no page e = le-ltb 0 (length page) (omega arith)

pub empty_is : (page : List ℕ) → length page ≡ 0 → page ≡ []
empty_is [] e = refl
empty_is (x ∷ page) e = absurd (omega arith)

pub page_there : (pages : List (List ℕ)) (size at : ℕ) → PagesFit pages size → at < size → at / 256 < length pages
page_there pages size at fit h = let c = fit.count in omega arith

pub flag_at : (pages : List (List ℕ)) (p : ℕ) → p < length pages → get_or (map is_made pages) p false ≡ is_made (page_in pages p)
flag_at pages p h = get_or-map is_made pages p [] false h

-- a page that is read is as long as it must be
pub read_within : (pages : List (List ℕ)) (size at width : ℕ) → PagesFit pages size → at + width ≤ size → at % 256 + width ≤ 256 → 0 < length (page_in pages (at / 256)) → at % 256 + width ≤ length (page_in pages (at / 256))
read_within pages size at width fit h l some = let e = fit.long (at / 256) some in omega arith

zero_in : (n i : ℕ) → get_or (replicate n 0) i 0 ≡ get_or {A = ℕ} [] i 0
zero_in n i = elim (cases_lt i n) [
  | inl h ↦ get_or-replicate n i 0 0 h
  | inr past ↦ get_or_past {X = ℕ} (replicate n 0) i 0 (let l = length-replicate {A = ℕ} n 0 in omega arith)
]

pub width_some : (width : ℕ) → IsTrue (is_width width) → 0 < width
width_some width w = width_cases width w (λ e. omega arith) (λ e. omega arith) (λ e. omega arith)

-- ---- a page that is written
pub full_len : (pages : List (List ℕ)) (size p : ℕ) → PagesFit pages size → length (made_page (page_len size p) (page_in pages p)) ≡ page_len size p
full_len pages size p fit = elim (cases_eq (length (page_in pages p)) 0) [
  | inl none ↦ rw (made_no (page_in pages p) none) (length-replicate (page_len size p) (let z : ℕ = 0 in z))
  | inr some ↦ rw (made_yes (page_in pages p) (omega arith)) (fit.long p (omega arith))
]

-- to make a page changes no byte
full_byte : (pages : List (List ℕ)) (p k len : ℕ) → p < length pages → byte_in (set pages p (made_page len (page_in pages p))) k ≡ byte_in pages k
full_byte pages p k len h = elim (cases_eq (k / 256) p) [
  | inr far ↦ byte_there pages p k (made_page len (page_in pages p)) far
  | inl here ↦ byte_here pages p k (made_page len (page_in pages p)) h here ∙ elim (cases_eq (length (page_in pages p)) 0) [
    | inl none ↦
        let e : page_in pages p ≡ [] = empty_is (page_in pages p) none in
        rw (made_no (page_in pages p) none, here, e) (zero_in len (k % 256))
    | inr some ↦ rw (made_yes (page_in pages p) (omega arith), here)
  ]
]

pub full_bytes : (pages : List (List ℕ)) (size p : ℕ) → p < length pages → bytes_in (set pages p (made_page (page_len size p) (page_in pages p))) size ≡ bytes_in pages size
full_bytes pages size p h = same_bytes pages (set pages p (made_page (page_len size p) (page_in pages p))) size (λ k l. full_byte pages p k (page_len size p) h)

pub length-written : (page : List ℕ) (o width value : ℕ) → IsTrue (is_width width) → length (written page o width value) ≡ length page
length-written page o width value w = width_cases width w
    (λ e. rw (e, length-set))
    (λ e. rw (e, length-set, length-set))
    (λ e. rw (e, length-set, length-set, length-set, length-set))

pub fit_set : (pages : List (List ℕ)) (size p : ℕ) (page : List ℕ) → p < length pages → length page ≡ page_len size p → PagesFit pages size → PagesFit (set pages p page) size
fit_set pages size p page h long fit = record {
  small = fit.small;
  count = length-set pages p page ∙ fit.count;
  long = λ q some. elim (cases_eq q p) [
    | inl e ↦ rw (e, get_or-set_same pages p page [] h) long
    | inr ne ↦ rw (get_or-set_other pages p q page [] ne) (fit.long q (rw (get_or-set_other pages p q page [] ne) at some))
  ];
}

pub flags_set : (pages : List (List ℕ)) (p : ℕ) (page : List ℕ) → 0 < length page → map is_made (set pages p page) ≡ set (map is_made pages) p true
flags_set pages p page some = map-set is_made pages p page ∙ ap (λ b. set (map is_made pages) p b) (made_yes page some)

-- ---- what a write to an address makes of the pages
abbrev pub new_page : List (List ℕ) → ℕ → ℕ → ℕ → ℕ → List ℕ
new_page pages size at width value = written (made_page (page_len size (at / 256)) (page_in pages (at / 256))) (at % 256) width value

pub record Wrote (pages : List (List ℕ)) (size at width value : ℕ) : Type 0 where
  pub fit : PagesFit (set pages (at / 256) (new_page pages size at width value)) size
  pub bytes : bytes_in (set pages (at / 256) (new_page pages size at width value)) size ≡ written (bytes_in pages size) at width value
  pub made : map is_made (set pages (at / 256) (new_page pages size at width value)) ≡ set (map is_made pages) (at / 256) true

pub full_within : (pages : List (List ℕ)) (size at width : ℕ) → PagesFit pages size → at + width ≤ size → at % 256 + width ≤ 256 → at % 256 + width ≤ length (made_page (page_len size (at / 256)) (page_in pages (at / 256)))
full_within pages size at width fit h l = let e = full_len pages size (at / 256) fit in omega arith

pub wrote : (pages : List (List ℕ)) (size at width value : ℕ) → IsTrue (is_width width) → PagesFit pages size → at + width ≤ size → at % 256 + width ≤ 256 → Wrote pages size at width value
wrote pages size at width value w fit h l =
    let p : ℕ = at / 256 in
    let o : ℕ = at % 256 in
    let full : List ℕ = made_page (page_len size p) (page_in pages p) in
    let some : 0 < width = width_some width w in
    let there : p < length pages = page_there pages size at fit (omega arith) in
    let long : length full ≡ page_len size p = full_len pages size p fit in
    let page : List ℕ = written full o width value in
    let same : length page ≡ length full = length-written full o width value w in
    let a : 256 * p + o ≡ at = omega arith in
    record {
      fit = fit_set pages size p page there (same ∙ long) fit;
      bytes = number_written pages size p o width value full w there (omega arith) l (omega arith) ∙ rw (full_bytes pages size p there, a);
      made = flags_set pages p page (omega arith);
    }
