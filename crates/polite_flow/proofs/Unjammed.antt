-- An event is enabled at each moment: a packet stands somewhere, or a thread can make a step, or all parts are still.
use Rattle.std.proofs.Common.{ℕ, zero, suc, ◌≡◌, ◌<◌, ◌+◌, ◌==◌, ◌&&◌, Bool, true, false, cond, refl, sym, ap, ◌∙◌, subst, List, [], ◌∷◌, length, get_or, inl, inr, arith, Option, Some, None, is_some, is_none}
use Rattle.std.specs.Prelude.{◌⊎◌, slice_get}
use Rattle.std.proofs.lemmas.Bool.{and_cases, cases_Bool, cases_eq, eqb-true, lt-ltb}
use Rattle.std.proofs.lemmas.Option.{slice_get-get_or}
use Rattle.tn_base.specs.declared.message.Packet.{Packet}
use Rattle.tn_base.specs.declared.port.Port.{Port}
use Rattle.tn_base.specs.declared.port.Port.TheVariants as port
use Rattle.tn_base.specs.declared.shape.ShapeNumbers.{ShapeNumbers}
use Rattle.tn_base.specs.Parts.{part_count, visited}
use Rattle.tn_keys.specs.Tables.{Table}
use Rattle.tn_link.specs.LinkRows.{first_in}
use Rattle.tn_node.specs.declared.ports.Ports.{Ports}
use Rattle.tn_node.specs.PortRows.{all_empty, at}
use Rattle.tn_quiet.specs.Machine.{link_count, rest_of, shown, shows}
use Rattle.tn_quiet.proofs.Lists.{shown_at}
use Rattle.tn_quiet.proofs.Machines.{at_last}
use Rattle.tn_quiet.proofs.OpenMachines.{open_world}
use Rattle.tn_rest.specs.Seen.{facts_of, packets_of}
use Rattle.tn_router.specs.RouterView.{RouterView}
use Rattle.tn_rows.specs.PartView.{PartView, TileV, RouterV, LinkV, HostV, DetectorV, AbsentV}
use Rattle.tn_rows.specs.WorldView.{WorldView}
use Rattle.tn_rows.proofs.HostLinks.{host_links_there}
use Rattle.polite_flow.specs.Able.{CanFlow, IsWatched, MovesUnlessStill, PartAble}
use Rattle.polite_flow.specs.Enabled.{SomeEventAtEachMoment}
use Rattle.polite_flow.specs.Standing.{IsEnabled, PartHas, RouterHas}
use Rattle.polite_flow.proofs.Delivered.{steps_on}
use Rattle.polite_flow.proofs.Enabling.{some_event}
use Rattle.polite_flow.proofs.PartsAt.{at_place}
use Rattle.polite_flow.proofs.Watched.{at_each_phase, seen_part}

-- a test that holds of each number below n, or the number of which it does not hold
search_below : (f : ℕ → Bool) (n : ℕ) → ((k : ℕ) → k < n → f k ≡ true) ⊎ ((k : ℕ) × (k < n) × (f k ≡ false))
search_below f zero = inl (λ k less. absurd (omega arith))
search_below f (suc n) = elim (search_below f n) [
  | inr found ↦ let less = found.1 in inr (found.0, omega arith, found.2)
  | inl all ↦ elim (cases_Bool (f n)) [
    | inr fails ↦ inr (n, omega arith, fails)
    | inl holds ↦ inl (λ k less. elim (cases_eq k n) [
      | inl e ↦ subst (λ i. f i ≡ true) (sym e) holds
      | inr ne ↦ all k (omega arith)
    ])
  ]
]

-- ---- a part that is not still

pub some_there : {X : Type 0} (o : Option X) → is_none o ≡ false → is_some o ≡ true
some_there None h = cc h
some_there (Some x) h = refl

pub port_has : {X : Type 0} (s : Ports X) → all_empty s ≡ false → (way : Port) × (is_some (at way s) ≡ true)
port_has s h = elim (and_cases (is_none s.east && is_none s.west && is_none s.south && is_none s.north && is_none s.up && is_none s.down) (is_none s.host) h) [
  | inr host ↦ (port.HostPort, some_there s.host host)
  | inl six ↦ elim (and_cases (is_none s.east && is_none s.west && is_none s.south && is_none s.north && is_none s.up) (is_none s.down) six) [
    | inr down ↦ (port.Down, some_there s.down down)
    | inl five ↦ elim (and_cases (is_none s.east && is_none s.west && is_none s.south && is_none s.north) (is_none s.up) five) [
      | inr up ↦ (port.Up, some_there s.up up)
      | inl four ↦ elim (and_cases (is_none s.east && is_none s.west && is_none s.south) (is_none s.north) four) [
        | inr north ↦ (port.North, some_there s.north north)
        | inl three ↦ elim (and_cases (is_none s.east && is_none s.west) (is_none s.south) three) [
          | inr south ↦ (port.South, some_there s.south south)
          | inl two ↦ elim (and_cases (is_none s.east) (is_none s.west) two) [
            | inr west ↦ (port.West, some_there s.west west)
            | inl east ↦ (port.East, some_there s.east east)
          ]
        ]
      ]
    ]
  ]
]

router_has : (v : RouterView) → (all_empty v.now.inputs && all_empty v.now.node.out) ≡ false → RouterHas v
router_has v h = elim (and_cases (all_empty v.now.inputs) (all_empty v.now.node.out) h) [
  | inl works ↦ inl (port_has v.now.inputs works)
  | inr waits ↦ inr (port_has v.now.node.out waits)
]

busy : (tables : List Table) (w : WorldView) (p : ℕ) (x : PartView) → CanFlow tables w → get_or w.parts p AbsentV ≡ x → slice_get w.parts p ≡ Some x → MovesUnlessStill x → (facts_of (Some (shows x))).view.still ≡ false → IsEnabled w
busy tables w p (TileV v) g own is moves h = elim (moves h) [
  | inl has ↦ some_event tables w g (p, subst PartHas (sym own) has)
  | inr step ↦ steps_on w p v tables g is (at_place (λ _ y. PartAble w.shape y) w p (TileV v) g.able is) step
]
busy tables w p (RouterV v) g own is moves h = some_event tables w g (p, subst PartHas (sym own) (router_has v h))
busy tables w p (LinkV v) g own is moves h = cc h
busy tables w p (HostV s) g own is moves h = cc (h, moves)
busy tables w p (DetectorV v) g own is moves h = cc h
busy tables w p AbsentV g own is moves h = cc h

-- ---- a link that is not empty

front_there : (ps : List Packet) → (length ps == 0) ≡ false → is_some (first_in ps) ≡ true
front_there [] h = cc h
front_there (k ∷ ks) h = refl

link_has : (x : PartView) → (packets_of (Some (shows x)) == 0) ≡ false → PartHas x
link_has (LinkV v) h = front_there v.packets h
link_has (TileV v) h = cc h
link_has (RouterV v) h = cc h
link_has (HostV s) h = cc h
link_has (DetectorV v) h = cc h
link_has AbsentV h = cc h

carries : (tables : List Table) (w : WorldView) (l : ℕ) → CanFlow tables w → l < link_count w.shape → ((rest_of w).link l == 0) ≡ false → IsEnabled w
carries tables w l g low h =
    let n : ShapeNumbers = w.shape in
    let p = visited n + l in
    let last = at_last n g.ready.routes.limits in
    let many = host_links_there n in
    let count : length w.parts ≡ part_count n = g.world.count in
    let is = slice_get-get_or w.parts p AbsentV (omega arith) in
    let seen : (rest_of w).link l ≡ packets_of (Some (shows (get_or w.parts p AbsentV))) =
    ap (λ b. cond b (packets_of (slice_get (shown w) p)) 0) (lt-ltb l (link_count n) low) ∙ ap (λ o. packets_of o) (shown_at w p (get_or w.parts p AbsentV) is) in
    some_event tables w g (p, link_has (get_or w.parts p AbsentV) (sym (ap (λ k. k == 0) seen) ∙ h))

-- ---- every moment

collecting : (tables : List Table) (w : WorldView) → IsWatched tables w → ((p : ℕ) → MovesUnlessStill (get_or w.parts p AbsentV)) → CanFlow tables w → IsEnabled w
collecting tables w q moves g =
    let n : ShapeNumbers = w.shape in
    let count : length w.parts ≡ part_count n = g.world.count in
    let last = at_last n g.ready.routes.limits in
    let many = host_links_there n in
    elim (search_below (λ k. ((rest_of w).part k).view.still) (visited n)) [
      | inr found ↦
          let low = found.1 in
          let is = slice_get-get_or w.parts found.0 AbsentV (omega arith) in
          let h = sym (ap (λ f. f.view.still) (seen_part w found.0 (get_or w.parts found.0 AbsentV) low is)) ∙ found.2 in
          busy tables w found.0 (get_or w.parts found.0 AbsentV) g refl is (moves found.0) h
      | inl still ↦ elim (search_below (λ l. (rest_of w).link l == 0) (link_count n)) [
        | inr found ↦ carries tables w found.0 g found.1 found.2
        | inl empty ↦ open_world w g.ready.routes.limits q.quiet (record { still = still; empty = λ l low. eqb-true ((rest_of w).link l) 0 (empty l low) })
      ]
    ]

pub each_moment : SomeEventAtEachMoment
each_moment tables w g moves = at_each_phase tables w g (collecting tables w g moves)
