-- The rule of the table of turns, and what each step tells.
use Rattle.std.specs.Prelude.{◌≡◌, ◌≢◌, ◌⊎◌, ℕ, ◌+◌, ◌<◌, List, [], ◌∷◌, length, slice_set, replicate, Bool, true, false, ◌||◌, ◌==◌, Option, Some, None}
use mathlib.Core.Option.{some, none}
use mathlib.Core.Option as maybe
use lib.ListN.{get_elem?}
use Rattle.atomic_table.specs.Table.{State, Me, Step, rest}
use Rattle.tn_stamp.specs.declared.entry.Entry.{Entry}
use Rattle.tn_turns.specs.declared.view.KeptView.{KeptView}
use Rattle.tn_turns.specs.declared.view.SeatView.{SeatView}
use Rattle.tn_turns.specs.declared.view.View.{View}
use Rattle.tn_turns.specs.declared.view.View.TheVariants.{Kept, Given, Spent}
use Rattle.tn_turns.specs.Faithful.{IsFaithful}

abbrev pub among : ℕ → List ℕ → Bool
among n [] = false
among n (m ∷ ms) = n == m || among n ms

-- no number stands twice
abbrev pub Once : List ℕ → Type 0
Once [] = Unit {0}
Once (m ∷ ms) = (among m ms ≡ false) × Once ms

abbrev pub rest_of : List ℕ → List ℕ
rest_of [] = []
rest_of (k ∷ ks) = ks

abbrev pub SeatHas : Type 0 → Type 0
SeatHas T = Me (Option T) (View T)

abbrev pub TurnStep : Type 0 → Type 0
TurnStep T = Step (Option T)

module _ {T : Type 0} where
  -- item i is at home, and is x
  pub record IsHome (words : List ℕ) (homes : List (maybe.Option (Option T))) (i : ℕ) (x : T) : Type 0 where
    pub word : get_elem? words i ≡ some 0
    pub slot : get_elem? homes i ≡ some (some (Some x))

  -- the turn i is out with a seat, whose record of it is x
  pub record IsOut (words : List ℕ) (homes : List (maybe.Option (Option T))) (views : List (View T)) (i : ℕ) (x : T) : Type 0 where
    pub seat : ℕ
    pub hold : SeatView T
    pub word : get_elem? words i ≡ some seat
    pub view : get_elem? views seat ≡ some (Given hold)
    pub recorded : get_elem? hold.outs i ≡ some (Some x)
    pub slot : among i hold.hands ≡ false → get_elem? homes i ≡ some (some None)

  -- what the view of the seat k is
  abbrev pub SeatOk : KeptView → ℕ → View T → Type 0
  SeatOk d k (Kept e) = (k ≡ 0) × (e ≡ d)
  SeatOk d k (Given h) = (k ≡ h.number + 1) × (among h.number d.joined ≡ false) × (length h.outs ≡ d.size)
  SeatOk d k Spent = (m : ℕ) × (k ≡ m + 1) × (among m d.joined ≡ true)

  pub record Stands (shown : List T) (s : State (Option T) (View T)) : Type 0 where
    pub desk : KeptView
    pub size : length shown ≡ desk.size
    pub words_size : length s.words ≡ desk.size
    pub homes_size : length s.homes ≡ desk.size
    pub kept : get_elem? s.views 0 ≡ some (Kept desk)
    pub count : length s.views ≡ desk.given + 1
    pub below : (m : ℕ) → among m desk.joined ≡ true → m < desk.given
    pub once : Once desk.joined
    pub seats : (k : ℕ) (v : View T) → get_elem? s.views k ≡ some v → SeatOk desk k v
    pub items : (i : ℕ) (x : T) → get_elem? shown i ≡ some x → IsHome s.words s.homes i x ⊎ IsOut s.words s.homes s.views i x
    pub outs : (k i : ℕ) (h : SeatView T) (x : T) → get_elem? s.views k ≡ some (Given h) → get_elem? h.outs i ≡ some (Some x) → get_elem? s.words i ≡ some k

  abbrev pub Holds : {St : Type 0} → (T → St) → (T → List Entry) → List T → State (Option T) (View T) → Type 0
  Holds start journal firsts s = (shown : List T) × Stands shown s × IsFaithful start journal firsts shown

  abbrev pub opened : List T → View T
  opened items = Kept (record { size = length items; given = 0; joined = [] })

  abbrev pub seat_of : View T → SeatView T
  seat_of (Given h) = h
  seat_of _ = record { number = 0; missed = 0; hands = []; marker = record {}; outs = [] }

  abbrev pub kept_of : View T → KeptView
  kept_of (Kept d) = d
  kept_of _ = record { size = 0; given = 0; joined = [] }

  -- the second slot in hand becomes its record
  abbrev pub settled : List (Option T) → List (ℕ × Option T) → List (Option T)
  settled outs (a ∷ (j, Some b) ∷ cs) = slice_set outs j (Some b)
  settled outs _ = outs

  abbrev pub with_turn : SeatView T → ℕ → T → SeatView T
  with_turn h i x = record h { hands = i ∷ h.hands; outs = slice_set h.outs i (Some x) }

  abbrev pub with_hand : SeatView T → ℕ → SeatView T
  with_hand h i = record h { hands = i ∷ h.hands }

  abbrev pub after_miss : SeatView T → SeatView T
  after_miss h = record h { missed = h.missed + 1 }

  abbrev pub after_give : SeatView T → ℕ → List (ℕ × Option T) → SeatView T
  after_give h i carried = record h { hands = rest_of h.hands; outs = slice_set (settled h.outs carried) i None }

  -- a compare-exchange from 0 to the seat's mark: it finds the item at home, or the mark of another seat
  abbrev pub took : TurnStep T → SeatHas T → ℕ → SeatHas T → Type 0
  took st m n m' = (n ≡ 0 → (x : T) × (m' ≡ (Given (with_turn (seat_of m.0) st.word x), (st.word, Some x) ∷ m.1))) × (n ≢ 0 → (n ≢ st.second) × (m' ≡ (Given (after_miss (seat_of m.0)), m.1)))

  -- the slot in hand goes home
  abbrev pub laid : TurnStep T → SeatHas T → ℕ → SeatHas T → Type 0
  laid st m n m' = m' ≡ (Given (record (seat_of m.0) { hands = rest_of (seat_of m.0).hands }), rest m.1)

  abbrev pub lifted : TurnStep T → SeatHas T → ℕ → SeatHas T → Type 0
  lifted st m n m' = m' ≡ (Given (record (seat_of m.0) { hands = st.word ∷ (seat_of m.0).hands }), (st.word, None) ∷ m.1)

  -- the turn in hand goes, and the record of the second one in hand is what is in its slot
  abbrev pub gave : TurnStep T → SeatHas T → ℕ → SeatHas T → Type 0
  gave st m n m' = m' ≡ (Given (after_give (seat_of m.0) st.word m.1), rest m.1)

  abbrev pub split_left : View T → View T
  split_left (Kept d) = Kept (record d { given = d.given + 1 })
  split_left v = v

  abbrev pub split_right : View T → View T
  split_right (Kept d) = Given (record { number = d.given; missed = 0; hands = []; marker = record {}; outs = replicate d.size None })
  split_right v = Spent

  abbrev pub seat_joined : View T → View T → View T
  seat_joined (Kept d) (Given h) = Kept (record d { joined = h.number ∷ d.joined })
  seat_joined v w = v
