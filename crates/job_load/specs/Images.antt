-- The memory of threads at the start.
use Rattle.std.specs.Prelude.{ℕ, ◌≡◌, ◌≤◌, ◌+◌, ◌==◌, ◌++◌, List, [], ◌∷◌, drop, filter, length, replicate, take}
use Rattle.job_text.specs.declared.job.FillLine.{FillLine}
use Rattle.tn_pages.specs.Paged.{filled}

-- memory with other bytes from an address on
abbrev pub laid : List ℕ → ℕ → List ℕ → List ℕ
laid memory address bytes = take address memory ++ bytes ++ drop (address + length bytes) memory

-- memory after fills in order: where two give a byte, the later one wins
abbrev pub overlaid : List ℕ → List FillLine → List ℕ
overlaid memory [] = memory
overlaid memory (f ∷ fs) = overlaid (laid memory f.address f.bytes) fs

abbrev pub fills_of : ℕ → List FillLine → List FillLine
fills_of thread fills = filter (λ f. f.thread == thread) fills

-- the memory of a thread: what the fills of its address say, and zeros elsewhere
abbrev pub memory_of : ℕ → List FillLine → ℕ → List ℕ
memory_of size fills thread = overlaid (replicate size 0) (fills_of thread fills)

-- An image is the front of a memory that has zeros behind it.

-- an image with other bytes from an address on, which is as long as need be
abbrev pub image_with : List ℕ → ℕ → List ℕ → List ℕ
image_with image address bytes = laid (filled (address + length bytes) image) address bytes

-- a fill ends within a memory of this size
pub record IsWithin (size : ℕ) (f : FillLine) : Type 0 where
  pub end : f.address + length f.bytes ≤ size

-- an image of a memory of zeros, of this size, after fills
pub record IsImage (size : ℕ) (fills : List FillLine) (image : List ℕ) : Type 0 where
  pub memory : filled size image ≡ overlaid (replicate size 0) fills
  pub few : length image ≤ size
