-- The walk of clap over the words, one word at a time.
use Rattle.std.proofs.Common.{◌≡◌, ℕ, Bool, false, List, [], ◌∷◌, refl, ap, subst, Option, None, fold}
use Rattle.clap.specs.Faults.{check_fault, defaults_fault, level_fault, settle_fault, turn_fault, walk_fault}
use Rattle.clap.specs.Kinds.{Kinds, or_else}
use Rattle.clap.specs.Simple.{Shape}
use Rattle.clap.specs.Walk.{Held, Row, Text, Waiting, Walk, finished, idle, nothing_held, settled, walked}

abbrev pub Pending : Type 0
Pending = Option (Text × List Text)

abbrev pub held_at : List Row → Pending → Held
held_at rows pending = record { rows = rows; pending = pending; skip = 0 }

-- where the walk is: the rows so far, what is pending, what waits for a value, and the place of the next positional
abbrev pub walk_at : List Row → Pending → Waiting → ℕ → Walk
walk_at rows pending waiting position = record { held = held_at rows pending; waiting = waiting; position = position; is_trailing = false; stopped = None }

pub or_none : (a b : Kinds) → or_else a b ≡ [] → (a ≡ []) × (b ≡ [])
or_none [] b h = (refl, h)
or_none (k ∷ ks) b h = cc h

abbrev pub end_of : Shape → Walk → List Text → Held
end_of s w words = (fold (walked s.rules []) w words).held

-- the rows at the end
abbrev pub last_rows : Shape → Walk → List Text → List Row
last_rows s w words = (settled s.rules (end_of s w words)).rows

-- clap takes the words from there on
pub record Passes (s : Shape) (w : Walk) (words : List Text) : Type 0 where
  pub walks : walk_fault s [] w words ≡ []
  pub settles : settle_fault s.rules s.args_override_self (end_of s w words) ≡ []

pub record OneMore (s : Shape) (w next : Walk) (word : Text) (words : List Text) : Type 0 where
  pub turn : turn_fault s [] w word ≡ []
  pub passes : Passes s next words
  pub rows : last_rows s w (word ∷ words) ≡ last_rows s next words

pub one_more : (s : Shape) (w next : Walk) (word : Text) (words : List Text) → walked s.rules [] w word ≡ next → Passes s w (word ∷ words) → OneMore s w next word words
unfolding walk_fault
one_more s w next word words e p =
    let both = or_none (turn_fault s [] w word) (walk_fault s [] (walked s.rules [] w word) words) p.walks in
    record {
      turn = both.0;
      passes = record {
        walks = subst (λ (v : Walk). walk_fault s [] v words ≡ []) e both.1;
        settles = subst (λ (v : Walk). settle_fault s.rules s.args_override_self (end_of s v words) ≡ []) e p.settles;
      };
      rows = ap (λ (v : Walk). last_rows s v words) e;
    }

pub turn_of : (s : Shape) (w : Walk) (word : Text) (words : List Text) → Passes s w (word ∷ words) → turn_fault s [] w word ≡ []
turn_of s w word words p = (one_more s w (walked s.rules [] w word) word words refl p).turn

-- where clap takes all words of a command, it takes them from the start of the walk
pub level_passes : (s : Shape) (words : List Text) (entered : Bool) (below : Kinds) → level_fault s [] nothing_held words entered below ≡ [] → Passes s (walk_at [] None idle 1) words
level_passes s words entered below h =
    let start = walk_at [] None idle 1 in
    let end = end_of s start words in
    let debt = settle_fault s.rules s.args_override_self end in
    let checks = or_else (defaults_fault (settled s.rules end).rows s.rules) (check_fault s (finished s.rules end) entered) in
    let a = or_none (walk_fault s [] start words) (or_else below (or_else debt checks)) h in
    let b = or_none below (or_else debt checks) a.1 in
    let c = or_none debt checks b.1 in
    record { walks = a.0; settles = c.0 }
