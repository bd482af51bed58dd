-- Memories of equal bytes and equal flags have equal pages.
use Rattle.std.proofs.Common.{ℕ, ◌+◌, ◌*◌, ◌/◌, ◌%◌, ◌<◌, ◌≡◌, false, List, [], length, get_or, map, sym, ◌∙◌, ap, inl, inr, arith}
use Rattle.std.proofs.lemmas.Bool.{cases_eq}
use Rattle.std.proofs.lemmas.List.{ext_get_or, length-map}
use Rattle.tn_pages.specs.Pages.{PagesFit, bytes_in, is_made, page_in, page_len}
use Rattle.tn_pages.proofs.Bytes.{byte_at, length-bytes}
use Rattle.tn_pages.proofs.Made.{empty_is, flag_at, made_no, made_yes}

pub same_size : (a b : List (List ℕ)) (n m : ℕ) → bytes_in a n ≡ bytes_in b m → n ≡ m
same_size a b n m e = sym (length-bytes a n) ∙ (ap length e ∙ length-bytes b m)

same_count : (a b : List (List ℕ)) → map is_made a ≡ map is_made b → length a ≡ length b
same_count a b e = sym (length-map a is_made) ∙ (ap length e ∙ length-map b is_made)

-- the byte of a page, read in the memory
byte_of : (pages : List (List ℕ)) (size p o : ℕ) → o < page_len size p → get_or (page_in pages p) o 0 ≡ get_or (bytes_in pages size) (256 * p + o) 0
byte_of pages size p o h =
    let q : (256 * p + o) / 256 ≡ p = omega arith in
    let r : (256 * p + o) % 256 ≡ o = omega arith in
    sym (byte_at pages size (256 * p + o) (omega arith) ∙ rw (q, r))

same_page : (a b : List (List ℕ)) (n p : ℕ) → PagesFit a n → PagesFit b n → bytes_in a n ≡ bytes_in b n → is_made (page_in a p) ≡ is_made (page_in b p) → page_in a p ≡ page_in b p
same_page a b n p fa fb bytes flags = elim (cases_eq (length (page_in a p)) 0) [
  | inl none ↦ elim (cases_eq (length (page_in b p)) 0) [
    | inl too ↦ empty_is (page_in a p) none ∙ sym (empty_is (page_in b p) too)
    | inr some ↦ absurd (let x = made_no (page_in a p) none in let y = made_yes (page_in b p) (omega arith) in cc)
  ]
  | inr some ↦ elim (cases_eq (length (page_in b p)) 0) [
    | inl none ↦ absurd (let x = made_yes (page_in a p) (omega arith) in let y = made_no (page_in b p) none in cc)
    | inr too ↦
        let la : length (page_in a p) ≡ page_len n p = fa.long p (omega arith) in
        let lb : length (page_in b p) ≡ page_len n p = fb.long p (omega arith) in
        ext_get_or 0 (page_in a p) (page_in b p) (la ∙ sym lb)
        (λ o h. let h_in : o < page_len n p = rw la at h in byte_of a n p o h_in ∙ (ap (λ xs. get_or xs (256 * p + o) 0) bytes ∙ sym (byte_of b n p o h_in)))
  ]
]

pub same_pages : (a b : List (List ℕ)) (n m : ℕ) → PagesFit a n → PagesFit b m → bytes_in a n ≡ bytes_in b m → map is_made a ≡ map is_made b → a ≡ b
same_pages a b n m fa fb bytes flags =
    let size : n ≡ m = same_size a b n m bytes in
    let fc : PagesFit b n = rw size fb in
    let same : bytes_in a n ≡ bytes_in b n = rw (sym size) at bytes in
    let count : length a ≡ length b = same_count a b flags in
    ext_get_or [] a b count
    (λ p h. same_page a b n p fa fc same (sym (flag_at a p h) ∙ (ap (λ bs. get_or bs p false) flags ∙ flag_at b p (omega arith))))
