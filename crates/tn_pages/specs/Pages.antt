-- How the pages of a memory hold its bytes. A page that is not made has no bytes.
use Rattle.std.specs.Prelude.{ℕ, ◌-◌, ◌*◌, ◌/◌, ◌%◌, ◌<◌, ◌≤◌, ◌≡◌, Bool, List, [], if◌then◌else◌, min, nat_lt, length, map, replicate, slice_index, slice_index_or}
use Rattle.std.specs.List.{range_with_len}
use Rattle.tn_pages.specs.Paged.{pages_for}

-- the bytes of a page that is made: 256, but for the last page, which ends with the memory
abbrev pub page_len : ℕ → ℕ → ℕ
page_len size p = min (size - 256 * p) 256

abbrev pub page_in : List (List ℕ) → ℕ → List ℕ
page_in pages p = slice_index_or pages p []

-- the byte at an address; where its page is not made there is none, and it is read as 0
abbrev pub byte_in : List (List ℕ) → ℕ → ℕ
byte_in pages at = slice_index (page_in pages (at / 256)) (at % 256)

abbrev pub bytes_in : List (List ℕ) → ℕ → List ℕ
bytes_in pages size = map (byte_in pages) (range_with_len 0 size)

abbrev pub is_made : List ℕ → Bool
is_made page = nat_lt 0 (length page)

-- the page once it is made: where it was not, one of so many zeros
abbrev pub made_page : ℕ → List ℕ → List ℕ
made_page len page = if is_made page then page else replicate len 0

-- there is a place for each page, and a page that is made has its length
pub record PagesFit (pages : List (List ℕ)) (size : ℕ) : Type 0 where
  pub small : size < 4294967296
  pub count : length pages ≡ pages_for size
  pub long : (p : ℕ) → 0 < length (page_in pages p) → length (page_in pages p) ≡ page_len size p

-- a stock holds few pages, each of zeros alone
pub record StockFits (pages : List (List ℕ)) : Type 0 where
  pub few : length pages ≤ 64
  pub zeros : pages ≡ replicate (length pages) (replicate 256 0)
