-- Images of memory.
use Rattle.std.proofs.Common.{ℕ, ◌≡◌, ◌≤◌, ◌<◌, ◌+◌, ◌-◌, ◌∷◌, ◌++◌, ◌∙◌, [], List, length, drop, take, get_or, replicate, refl, sym, ap, arith, append_assoc, length-append, subst}
use Rattle.std.specs.List.{AllByRecursion}
use Rattle.std.proofs.lemmas.List.{append-nil, drop-append-le, drop_all, get_or_default, length-drop, length-replicate, length-take-le, replicate-append-replicate, take-append-le}
use Rattle.std.proofs.lemmas.List.{append-nil, drop-append-le, drop_all, get_or_default, length-drop, length-replicate, length-take-le, replicate-append-replicate, take-append-le}
use Rattle.job_text.specs.declared.job.FillLine.{FillLine}
use Rattle.job_load.specs.Groups.{ArePlaces, fills_at, no_fill}
use Rattle.job_load.specs.Images.{IsImage, IsWithin, image_with, laid, overlaid}
use Rattle.tn_pages.specs.Paged.{filled}
use Rattle.job_faults.proofs.Ranges.{rest_first}
use Rattle.job_load.proofs.Grouped.{item_holds}

-- what is long enough is not filled up
pub filled_none : (size : ℕ) (image : List ℕ) → size ≤ length image → filled size image ≡ image
filled_none size image h = let e : size - length image ≡ 0 = omega arith in rw e (append-nil image)

pub filled_more : (size : ℕ) (image : List ℕ) → length (filled size image) ≡ length image + (size - length image)
filled_more size image = length-append image (replicate (size - length image) 0) ∙ ap (λ n. length image + n) (length-replicate (size - length image) 0)

pub filled_long : (size : ℕ) (image : List ℕ) → length image ≤ size → length (filled size image) ≡ size
filled_long size image h = omega (arith, filled_more size image)

padded_twice : (x : ℕ) (front : List ℕ) (more rest whole : ℕ) → more + rest ≡ whole → front ++ replicate more x ++ replicate rest x ≡ front ++ replicate whole x
padded_twice x front more rest whole e =
    let joined : replicate more x ++ replicate rest x ≡ replicate (more + rest) x = replicate-append-replicate more rest x in
    rw (← e, append_assoc, joined) refl

-- filled up to one size and then to another
pub filled_twice : (size less : ℕ) (image : List ℕ) → less ≤ size → filled size (filled less image) ≡ filled size image
filled_twice size less image h =
    padded_twice 0 image (less - length image) (size - length (filled less image)) (size - length image) (omega (arith, filled_more less image))

pub laid_more : (image : List ℕ) (address : ℕ) (bytes : List ℕ) → address + length bytes ≤ length image → length (laid image address bytes) ≡ length image
laid_more image address bytes h =
    omega (
      arith,
      length-append (take address image ++ bytes) (drop (address + length bytes) image),
      length-append (take address image) bytes,
      length-take-le address image (omega arith),
      length-drop (address + length bytes) image,
    )

-- bytes within a front are laid over the front alone
laid_front : (front rest : List ℕ) (address : ℕ) (bytes : List ℕ) → address + length bytes ≤ length front → laid (front ++ rest) address bytes ≡ laid front address bytes ++ rest
laid_front front rest address bytes h =
    rw (take-append-le address front rest (omega arith), drop-append-le (address + length bytes) front rest h)
    (sym (append_assoc (take address front ++ bytes) (drop (address + length bytes) front) rest))

-- bytes are laid over an image as over the memory that it stands for
pub laid_filled : (size : ℕ) (image : List ℕ) (address : ℕ) (bytes : List ℕ) → address + length bytes ≤ size →
    filled size (image_with image address bytes) ≡ laid (filled size image) address bytes
laid_filled size image address bytes h =
    let grown = filled (address + length bytes) image in
    let within : address + length bytes ≤ length grown = omega (arith, filled_more (address + length bytes) image) in
    ap (λ n. laid grown address bytes ++ replicate (size - n) 0) (laid_more grown address bytes within)
    ∙ sym (laid_front grown (replicate (size - length grown) 0) address bytes within)
    ∙ ap (λ m. laid m address bytes) (filled_twice size (address + length bytes) image h)

pub laid_few : (size : ℕ) (image : List ℕ) (address : ℕ) (bytes : List ℕ) → address + length bytes ≤ size → length image ≤ size →
    length (image_with image address bytes) ≤ size
laid_few size image address bytes h few =
    let grown = filled (address + length bytes) image in
    let long = filled_more (address + length bytes) image in
    let within : address + length bytes ≤ length grown = omega arith in
    omega (arith, laid_more grown address bytes within)

-- The image after more fills.

-- what the fills that are left make of the image is what all make of a memory of zeros
pub record Leads (size : ℕ) (all rest : List FillLine) (image : List ℕ) : Type 0 where
  pub memory : overlaid (filled size image) rest ≡ overlaid (replicate size 0) all
  pub few : length image ≤ size

pub leads_first : (size : ℕ) (all : List FillLine) → Leads size all all []
leads_first size all = record {
  memory = let e : size - 0 ≡ size = omega arith in ap (λ n. overlaid (replicate n 0) all) e;
  few = omega arith;
}

leads_step : (size : ℕ) (all : List FillLine) (f : FillLine) (rest : List FillLine) (image new : List ℕ) → f.address + length f.bytes ≤ size →
    Leads size all (f ∷ rest) image → new ≡ image_with image f.address f.bytes → Leads size all rest new
leads_step size all f rest image new within l e = record {
  memory = ap (λ m. overlaid (filled size m) rest) e ∙ ap (λ m. overlaid m rest) (laid_filled size image f.address f.bytes within) ∙ l.memory;
  few = omega (arith, ap length e, laid_few size image f.address f.bytes within l.few);
}

pub leads_more : (size : ℕ) (fills : List FillLine) (places : List ℕ) (i : ℕ) (f : FillLine) (image new : List ℕ) →
    i < length places → ArePlaces fills places → AllByRecursion (IsWithin size) fills → f ≡ get_or fills (get_or places i 0) f →
    Leads size (fills_at fills places) (fills_at fills (drop i places)) image → new ≡ image_with image f.address f.bytes →
    Leads size (fills_at fills places) (fills_at fills (drop (i + 1) places)) new
leads_more size fills places i f image new h there within item l e =
    let p : ℕ = get_or places i 0 in
    let is : p ≡ get_or places i p = get_or_default places i 0 p h in
    let less : p < length fills = item_holds (λ k. k < length fills) places i p there h is in
    let here : get_or fills p no_fill ≡ f = sym (item ∙ get_or_default fills p f no_fill less) in
    let rest : fills_at fills (drop i places) ≡ f ∷ fills_at fills (drop (i + 1) places) =
    ap (fills_at fills) (rest_first places i p h is) ∙ ap (λ g. g ∷ fills_at fills (drop (i + 1) places)) here in
    let P : List FillLine → Type 0 = λ fs. Leads size (fills_at fills places) fs image in
    leads_step size (fills_at fills places) f (fills_at fills (drop (i + 1) places)) image new (item_holds (IsWithin size) fills p f within less item).end (subst P rest l) e

pub leads_done : (size : ℕ) (fills : List FillLine) (places : List ℕ) (i : ℕ) (image : List ℕ) → length places ≤ i →
    Leads size (fills_at fills places) (fills_at fills (drop i places)) image → IsImage size (fills_at fills places) image
leads_done size fills places i image h l =
    let done : Leads size (fills_at fills places) [] image = rw (drop_all i places h) at l in
    record { memory = done.memory; few = done.few }
