-- The bytes of a memory, by its pages.
use Rattle.std.proofs.Common.{ℕ, ◌+◌, ◌*◌, ◌/◌, ◌%◌, ◌<◌, ◌≤◌, ◌≡◌, ◌≢◌, IsTrue, List, [], length, get_or, set, sym, ◌∙◌, inl, inr, arith, length-set}
use Rattle.std.proofs.lemmas.Bool.{cases_eq, ne_eqb}
use Rattle.std.proofs.lemmas.List.{ext_get_or, get_or-set_same, get_or-set_other}
use Rattle.std.proofs.lemmas.List.FromFn.{length-map-range_with_len, get_or-map-range_with_len}
use Rattle.tn_base.specs.Effects.{is_width}
use Rattle.tn_pages.specs.Numbers.{value_at, written}
use Rattle.tn_pages.specs.Pages.{byte_in, bytes_in, page_in}

pub length-bytes : (pages : List (List ℕ)) (size : ℕ) → length (bytes_in pages size) ≡ size
length-bytes pages size = length-map-range_with_len (byte_in pages) 0 size

pub byte_at : (pages : List (List ℕ)) (size at : ℕ) → at < size → get_or (bytes_in pages size) at 0 ≡ byte_in pages at
byte_at pages size at h = get_or-map-range_with_len (byte_in pages) 0 size at at 0 h (omega arith)

-- two lists of pages with the same bytes
pub same_bytes : (pages now : List (List ℕ)) (size : ℕ) → ((k : ℕ) → k < size → byte_in now k ≡ byte_in pages k) → bytes_in now size ≡ bytes_in pages size
same_bytes pages now size same =
    let l : length (bytes_in now size) ≡ size = length-bytes now size in
    ext_get_or 0 (bytes_in now size) (bytes_in pages size) (l ∙ sym (length-bytes pages size))
    (λ k h. let k_in : k < size = omega arith in byte_at now size k k_in ∙ (same k k_in ∙ sym (byte_at pages size k k_in)))

-- the widths
pub width_cases : {P : Type 0} (width : ℕ) → IsTrue (is_width width) → (width ≡ 1 → P) → (width ≡ 2 → P) → (width ≡ 4 → P) → P
width_cases width h one two four = elim (cases_eq width 1) [
  | inl e ↦ one e
  | inr not1 ↦ elim (cases_eq width 2) [
    | inl e ↦ two e
    | inr not2 ↦ elim (cases_eq width 4) [
      | inl e ↦ four e
      | inr not4 ↦ absurd (let g = rw (ne_eqb width 1 not1, ne_eqb width 2 not2, ne_eqb width 4 not4) at h in cc)
    ]
  ]
]

-- a byte of a page is the byte of the memory
pub byte_on_page : (pages : List (List ℕ)) (size at i : ℕ) → at + i < size → at % 256 + i < 256 → get_or (page_in pages (at / 256)) (at % 256 + i) 0 ≡ get_or (bytes_in pages size) (at + i) 0
byte_on_page pages size at i h l =
    let p : (at + i) / 256 ≡ at / 256 = omega arith in
    let o : (at + i) % 256 ≡ at % 256 + i = omega arith in
    sym (byte_at pages size (at + i) h ∙ rw (p, o))

pub byte_first : (pages : List (List ℕ)) (size at : ℕ) → at < size → get_or (page_in pages (at / 256)) (at % 256) 0 ≡ get_or (bytes_in pages size) at 0
byte_first pages size at h = sym (byte_at pages size at h)

pub value_on_page : (pages : List (List ℕ)) (size at width : ℕ) → IsTrue (is_width width) → at + width ≤ size → at % 256 + width ≤ 256 → value_at (page_in pages (at / 256)) (at % 256) width ≡ value_at (bytes_in pages size) at width
value_on_page pages size at width w h l =
    let b0 = byte_first pages size at in
    let b1 = byte_on_page pages size at 1 in
    let b2 = byte_on_page pages size at 2 in
    let b3 = byte_on_page pages size at 3 in
    width_cases width w
    (λ e. rw e (b0 (omega arith)))
    (λ e. rw (e, b0 (omega arith), b1 (omega arith) (omega arith)))
    (λ e. rw (e, b0 (omega arith), b1 (omega arith) (omega arith), b2 (omega arith) (omega arith), b3 (omega arith) (omega arith)))

-- where one page is another list of as many bytes
pub byte_here : (pages : List (List ℕ)) (p k : ℕ) (page : List ℕ) → p < length pages → k / 256 ≡ p → byte_in (set pages p page) k ≡ get_or page (k % 256) 0
byte_here pages p k page h e = rw (e, get_or-set_same pages p page [] h)

pub byte_there : (pages : List (List ℕ)) (p k : ℕ) (page : List ℕ) → k / 256 ≢ p → byte_in (set pages p page) k ≡ byte_in pages k
byte_there pages p k page ne = rw (get_or-set_other pages p (k / 256) page [] ne)

unchanged : (pages : List (List ℕ)) (p o v k : ℕ) (page : List ℕ) → p < length pages → o < 256 → k ≢ 256 * p + o → byte_in (set pages p (set page o v)) k ≡ byte_in (set pages p page) k
unchanged pages p o v k page h short ne = elim (cases_eq (k / 256) p) [
  | inl q ↦
      let r : k % 256 ≢ o = λ e. ne (omega arith) in
      byte_here pages p k (set page o v) h q ∙ (get_or-set_other page o (k % 256) v 0 r ∙ sym (byte_here pages p k page h q))
  | inr far ↦ byte_there pages p k (set page o v) far ∙ sym (byte_there pages p k page far)
]

pub byte_written : (pages : List (List ℕ)) (size p o v : ℕ) (page : List ℕ) → p < length pages → o < length page → o < 256 → 256 * p + o < size → bytes_in (set pages p (set page o v)) size ≡ set (bytes_in (set pages p page) size) (256 * p + o) v
byte_written pages size p o v page h here short within =
    let old : List (List ℕ) = set pages p page in
    let new : List (List ℕ) = set pages p (set page o v) in
    let l : length (bytes_in old size) ≡ size = length-bytes old size in
    let m : length (bytes_in new size) ≡ size = length-bytes new size in
    ext_get_or 0 (bytes_in new size) (set (bytes_in old size) (256 * p + o) v) (m ∙ sym (length-set (bytes_in old size) (256 * p + o) v ∙ l))
    (λ k below.
    let k_in : k < size = omega arith in
    elim (cases_eq k (256 * p + o)) [
      | inl e ↦
          let q : k / 256 ≡ p = omega arith in
          let r : k % 256 ≡ o = omega arith in
          byte_at new size k k_in ∙ (byte_here pages p k (set page o v) h q ∙ (rw (r, get_or-set_same page o v 0 here) (sym (rw e (get_or-set_same (bytes_in old size) (256 * p + o) v 0 (omega arith))))))
      | inr ne ↦ byte_at new size k k_in ∙ (unchanged pages p o v k page h short ne ∙ sym (get_or-set_other (bytes_in old size) (256 * p + o) k v 0 ne ∙ byte_at old size k k_in))
    ])

-- the low bytes of a value are written to one page
pub number_written : (pages : List (List ℕ)) (size p o width value : ℕ) (page : List ℕ) → IsTrue (is_width width) → p < length pages → o + width ≤ length page → o + width ≤ 256 → 256 * p + o + width ≤ size → bytes_in (set pages p (written page o width value)) size ≡ written (bytes_in (set pages p page) size) (256 * p + o) width value
number_written pages size p o width value page w h here short within =
    let v0 : ℕ = value % 256 in
    let v1 : ℕ = value / 256 % 256 in
    let v2 : ℕ = value / 65536 % 256 in
    let v3 : ℕ = value / 16777216 in
    let p0 : List ℕ = set page o v0 in
    let p1 : List ℕ = set p0 (o + 1) v1 in
    let p2 : List ℕ = set p1 (o + 2) v2 in
    let l0 : length p0 ≡ length page = length-set page o v0 in
    let l1 : length p1 ≡ length p0 = length-set p0 (o + 1) v1 in
    let l2 : length p2 ≡ length p1 = length-set p1 (o + 2) v2 in
    let b0 = byte_written pages size p o v0 page h in
    let b1 = byte_written pages size p (o + 1) v1 p0 h in
    let b2 = byte_written pages size p (o + 2) v2 p1 h in
    let b3 = byte_written pages size p (o + 3) v3 p2 h in
    let a1 : 256 * p + (o + 1) ≡ 256 * p + o + 1 = omega arith in
    let a2 : 256 * p + (o + 2) ≡ 256 * p + o + 2 = omega arith in
    let a3 : 256 * p + (o + 3) ≡ 256 * p + o + 3 = omega arith in
    width_cases width w
    (λ e. rw e (b0 (omega arith) (omega arith) (omega arith)))
    (λ e. rw (e, b1 (omega arith) (omega arith) (omega arith), b0 (omega arith) (omega arith) (omega arith), a1))
    (λ e. rw (e, b3 (omega arith) (omega arith) (omega arith), b2 (omega arith) (omega arith) (omega arith), b1 (omega arith) (omega arith) (omega arith), b0 (omega arith) (omega arith) (omega arith), a1, a2, a3))
