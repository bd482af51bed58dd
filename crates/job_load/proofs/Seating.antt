-- The threads of a graph's machine, one after the other.
use Rattle.std.proofs.Common.{ℕ, ◌≡◌, ◌<◌, ◌∷◌, ◌++◌, ◌∙◌, [], List, Option, get_or, length, map, sym, ap, arith}
use Rattle.std.specs.List.{range_with_len}
use Rattle.std.proofs.lemmas.List.{get_or_default, length_push}
use Rattle.std.proofs.lemmas.List.FromFn.{length-map-range_with_len, map-range_with_len_more}
use Rattle.tn_base.specs.declared.shape.ShapeNumbers.{ShapeNumbers}
use Rattle.polite_switch.specs.declared.device.InEdge.{InEdge}
use Rattle.polite_switch.specs.SwitchModel.{SwitchModel}
use Rattle.graph_text.specs.declared.graph.Graph.{Graph}
use Rattle.polite_place.specs.Outs.{outs_of}
use Rattle.polite_place.specs.Roster.{RosterView, roster_of, vertices_in, vertices_on}
use Rattle.polite_start.specs.Start.{image_of, switch_of}
use Rattle.job_load.specs.Graph.{seated}

-- this is the next item of a list
pub record IsNext {X : Type 0} (xs : List X) (i : ℕ) (d x : X) : Type 0 where
  pub below : i < length xs
  pub item : get_or xs i d ≡ x

pub next_of : {X : Type 0} (xs : List X) (i : ℕ) (d x : X) → (i < length xs) × (x ≡ get_or xs i x) → IsNext xs i d x
next_of xs i d x h = record { below = h.0; item = get_or_default xs i d x h.0 ∙ sym h.1 }

pub count_is : {X : Type 0} (f : ℕ → X) (items : List X) (len i : ℕ) → items ≡ map f (range_with_len 0 i) → len ≡ length items → len ≡ i
count_is f items len i e h = h ∙ ap length e ∙ length-map-range_with_len f 0 i

pub vertices_are : (n : ShapeNumbers) (outs : List (List ℕ)) (r : RosterView) (k i : ℕ) (vs : List ℕ) → vs ≡ vertices_in r k → r ≡ roster_of n outs → k ≡ i → vs ≡ vertices_on n outs i
vertices_are n outs r k i vs e f g = e ∙ ap (λ x. vertices_in x k) f ∙ ap (vertices_in (roster_of n outs)) g

pub seat_made : (n : ShapeNumbers) (graph : Graph) (keys : List (List (Option ℕ))) (entries : List (List ℕ)) (in_edges : List (List (List InEdge))) (i : ℕ)
    (vs : List ℕ) (lists : List (List InEdge)) (image : List ℕ) (switch : SwitchModel) →
    vs ≡ vertices_on n (outs_of graph) i → get_or in_edges i [] ≡ lists → image ≡ image_of graph vs → switch ≡ switch_of graph keys entries vs lists →
    record { image = image; switch = switch } ≡ seated n graph keys entries in_edges i
seat_made n graph keys entries in_edges i vs lists image switch e f g h =
    let same : switch ≡ switch_of graph keys entries (vertices_on n (outs_of graph) i) (get_or in_edges i []) =
    h ∙ ap (λ (ws : List ℕ). switch_of graph keys entries ws lists) e ∙ ap (switch_of graph keys entries (vertices_on n (outs_of graph) i)) (sym f) in
    let states : image ≡ image_of graph (vertices_on n (outs_of graph) i) = g ∙ ap (image_of graph) e in
    ap (λ (m : List ℕ). record { image = m; switch = switch }) states ∙ ap (λ (s : SwitchModel). record { image = image_of graph (vertices_on n (outs_of graph) i); switch = s }) same

pub more_seated : {X Y : Type 0} (f : ℕ → X) (items new : List X) (x : X) (gone : List Y) (y : Y) → items ≡ map f (range_with_len 0 (length gone)) → x ≡ f (length gone) → new ≡ items ++ x ∷ [] →
    new ≡ map f (range_with_len 0 (length (gone ++ y ∷ [])))
more_seated f items new x gone y e h made =
    made ∙ ap (λ (xs : List _). xs ++ x ∷ []) e ∙ ap (λ z. map f (range_with_len 0 (length gone)) ++ z ∷ []) h
    ∙ sym (map-range_with_len_more f 0 (length gone) (length gone) (omega arith)) ∙ ap (λ k. map f (range_with_len 0 k)) (sym (length_push gone y))
