-- What holds of every part holds of it after an event of the detector, and once a release is carried through.
use Rattle.std.proofs.Common.{ℕ, ◌≡◌, Some, List, [], ◌∷◌, get_or, refl, sym, ◌∙◌, ap, subst, arith, inl, inr}
use Rattle.std.specs.List.{AllByRecursion}
use Rattle.std.proofs.lemmas.Bool.{cases_lt}
use Rattle.std.proofs.lemmas.List.{get_or-set_other, length-set}
use Rattle.tn_base.specs.declared.event.Event.{Event}
use Rattle.tn_base.specs.declared.event.Event.TheVariants as event
use Rattle.tn_base.specs.declared.part.Kind.{Kind}
use Rattle.tn_base.specs.declared.part.Kind.TheVariants as kind
use Rattle.tn_base.specs.declared.shape.ShapeNumbers.{ShapeNumbers}
use Rattle.tn_base.specs.Parts.{kind_of}
use Rattle.tn_detect.specs.declared.phase.Phase.{Phase}
use Rattle.tn_detect.specs.declared.phase.Phase.TheVariants as phase
use Rattle.tn_detect.specs.DetectorView.{DetectorView, with_now as detector_with_now}
use Rattle.tn_detect.specs.Notes.{value_of}
use Rattle.tn_host.specs.declared.script.ScriptItem.{ScriptItem}
use Rattle.tn_host.specs.declared.script.ScriptItem.TheVariants as item
use Rattle.tn_host.specs.HostView.{HostState}
use Rattle.tn_host.specs.Script.{past_await}
use Rattle.tn_keys.specs.Accepted.{Accepted}
use Rattle.tn_keys.specs.Tables.{Table}
use Rattle.tn_node.specs.declared.facts.PartFacts.{PartFacts}
use Rattle.tn_node.specs.Deed.{Deed}
use Rattle.tn_node.specs.Deed as deed
use Rattle.tn_quiet.specs.Law.{IsQuietWorld}
use Rattle.tn_quiet.proofs.Runs.{event_quiet}
use Rattle.tn_rows.specs.Runs.{Walk}
use Rattle.tn_rows.specs.Events.{happened, with_part}
use Rattle.tn_rows.specs.PartView.{PartView, TileV, RouterV, LinkV, HostV, DetectorV, AbsentV}
use Rattle.tn_rows.specs.Places.{detector_part}
use Rattle.tn_rows.specs.WorldView.{WorldView}
use Rattle.tn_tile.specs.Rows.{gone_on, released as tile_released, tile_facts, tile_whitened}
use Rattle.tn_tile.specs.TileView.{with_now}
use Rattle.tn_tile.proofs.Deeds.{deed_fits, tells_own}
use Rattle.tn_rows.specs.Visited.{going_part, released_part, whitened_part}
use Rattle.tn_letters.specs.Law.{IsSendable}
use Rattle.tn_letters.specs.Settled.{detector_on, released_from, settled, settled_in}
use Rattle.tn_letters.specs.Tiles.{beats_on, tables_of}
use Rattle.tn_letters.proofs.Bare.{with_parts, tables_match}
use Rattle.tn_letters.proofs.Detected.{Alone, Paired, alone, confirm_paired, go_paired, release_paired, report_paired}
use Rattle.tn_letters.proofs.Lift.{Good, GoodPart, OnPart, StandsAt, good_now, good_with, part_on, stands_on, still_tile}
use Rattle.tn_letters.proofs.Routers.{still_router}
use Rattle.tn_letters.proofs.Settling.{settled_length, released_before, released_behind, settled_stays, stays_beats}
use Rattle.tn_letters.proofs.Walks.{event_reached}

-- what is kept by a change of each part
pub record Keeps (f : PartView → PartView) : Type 0 where
  pub good : (n : ShapeNumbers) (t : List Table) (p : ℕ) (x : PartView) → GoodPart n t p x → GoodPart n t p (f x)
  pub stands : (k : Kind) (x : PartView) → StandsAt k x → StandsAt k (f x)
  pub beats : (x : PartView) → beats_on (f x) ≡ beats_on x

-- another host stands where a host stood
host_stands : (k : Kind) (s t : HostState) → StandsAt k (HostV s) → StandsAt k (HostV t)
host_stands kind.Host s t h = tt
host_stands (kind.Tile tile) s t h = absurd h
host_stands (kind.Router board) s t h = absurd h
host_stands (kind.Link from onto) s t h = absurd h
host_stands kind.Detector s t h = absurd h

detector_stands : (k : Kind) (s t : DetectorView) → StandsAt k (DetectorV s) → StandsAt k (DetectorV t)
detector_stands kind.Detector s t h = tt
detector_stands (kind.Tile tile) s t h = absurd h
detector_stands (kind.Router board) s t h = absurd h
detector_stands (kind.Link from onto) s t h = absurd h
detector_stands kind.Host s t h = absurd h

-- the items behind a wait are messages of the machine too
past_sendable : (n : ShapeNumbers) (script : List ScriptItem) → AllByRecursion (IsSendable n) script → AllByRecursion (IsSendable n) (past_await script)
past_sendable n [] h = h
past_sendable n (item.Send t bytes ∷ xs) h = h
past_sendable n (item.AwaitIdle ∷ xs) h = h.1

same_keeps : Keeps (λ x. x)
same_keeps = record { good = λ n t p x g. g; stands = λ k x s. s; beats = λ x. refl }

whitened_keeps : Keeps whitened_part
whitened_keeps = record { good = good; stands = stands; beats = beats }
  where
    good : (n : ShapeNumbers) (t : List Table) (p : ℕ) (x : PartView) → GoodPart n t p x → GoodPart n t p (whitened_part x)
    good n t p (TileV v) g =
        let w = g.shaped.fits in
        good_now n p v (tile_whitened v.now) g (record { threads = w.threads; pool = w.pool; pending = w.pending; out = w.out }) g.kept g.home
    good n t p (RouterV v) g =
        let w = g.shaped.fits in
        record { shape = g.shape; shaped = record { board = g.shaped.board; fits = record { works = w.works; waits = w.waits } }; beats = g.beats; host = g.host }
    good n t p (LinkV x) g = g
    good n t p (HostV s) g = g
    good n t p (DetectorV v) g = g
    good n t p AbsentV g = g

    stands : (k : Kind) (x : PartView) → StandsAt k x → StandsAt k (whitened_part x)
    stands k (TileV v) s = still_tile k v (with_now v (tile_whitened v.now)) refl s
    stands k (RouterV v) s = still_router k v _ s
    stands k (LinkV x) s = s
    stands k (HostV h) s = host_stands k h _ s
    stands k (DetectorV v) s = s
    stands k AbsentV s = s

    beats : (x : PartView) → beats_on (whitened_part x) ≡ beats_on x
    beats (TileV v) = refl
    beats (RouterV v) = refl
    beats (LinkV x) = refl
    beats (HostV s) = refl
    beats (DetectorV v) = refl
    beats AbsentV = refl

going_keeps : Keeps going_part
going_keeps = record { good = good; stands = stands; beats = beats }
  where
    good : (n : ShapeNumbers) (t : List Table) (p : ℕ) (x : PartView) → GoodPart n t p x → GoodPart n t p (going_part x)
    good n t p (TileV v) g =
        let w = g.shaped.fits in
        good_now n p v (gone_on v.now) g (record { threads = w.threads; pool = w.pool; pending = w.pending; out = w.out }) g.kept g.home
    good n t p (RouterV v) g =
        let w = g.shaped.fits in
        record { shape = g.shape; shaped = record { board = g.shaped.board; fits = record { works = w.works; waits = w.waits } }; beats = g.beats; host = g.host }
    good n t p (LinkV x) g = g
    good n t p (HostV s) g = g
    good n t p (DetectorV v) g = g
    good n t p AbsentV g = g

    stands : (k : Kind) (x : PartView) → StandsAt k x → StandsAt k (going_part x)
    stands k (TileV v) s = still_tile k v (with_now v (gone_on v.now)) refl s
    stands k (RouterV v) s = still_router k v _ s
    stands k (LinkV x) s = s
    stands k (HostV h) s = host_stands k h _ s
    stands k (DetectorV v) s = s
    stands k AbsentV s = s

    beats : (x : PartView) → beats_on (going_part x) ≡ beats_on x
    beats (TileV v) = refl
    beats (RouterV v) = refl
    beats (LinkV x) = refl
    beats (HostV s) = refl
    beats (DetectorV v) = refl
    beats AbsentV = refl

pub released_keeps : (value : ℕ) → Keeps (released_part value)
released_keeps value = record { good = good value; stands = stands value; beats = stays_beats value }
  where
    good : (value : ℕ) (n : ShapeNumbers) (t : List Table) (p : ℕ) (x : PartView) → GoodPart n t p x → GoodPart n t p (released_part value x)
    good value n t p (TileV v) g =
        good_now n p v (tile_released value v.now) g
        (deed_fits v.plan (deed.Release 0 (record (tile_facts v.now) { value = value })) v.now (tile_released value v.now) ((tells_own v.plan v.now).releases 0 value) g.shaped.fits) g.kept g.home
    good value n t p (RouterV v) g =
        let w = g.shaped.fits in
        record { shape = g.shape; shaped = record { board = g.shaped.board; fits = record { works = w.works; waits = w.waits } }; beats = g.beats; host = g.host }
    good value n t p (LinkV x) g = g
    good value n t p (HostV s) g = past_sendable n s.script g
    good value n t p (DetectorV v) g = g
    good value n t p AbsentV g = g

    stands : (value : ℕ) (k : Kind) (x : PartView) → StandsAt k x → StandsAt k (released_part value x)
    stands value k (TileV v) s = still_tile k v (with_now v (tile_released value v.now)) refl s
    stands value k (RouterV v) s = still_router k v _ s
    stands value k (LinkV x) s = s
    stands value k (HostV h) s = host_stands k h _ s
    stands value k (DetectorV v) s = s
    stands value k AbsentV s = s

-- ---- an event of the detector

good_place : (w : WorldView) (p : ℕ) (x : PartView) (f : PartView → PartView) → Keeps f → Good w → OnPart w p x → Good (with_part w p (f x))
good_place w p x f k g on =
    good_with w p (f x) g on.within (k.beats x ∙ sym (ap beats_on on.is)) (k.stands (kind_of w.shape p) x (stands_on w p x g on)) (k.good w.shape (tables_of w) p x (part_on w p x g on))

good_detector : (w : WorldView) (q : ℕ) (v t : DetectorView) → Good w → OnPart w q (DetectorV v) → Good (with_part w q (DetectorV t))
good_detector w q v t g on = good_with w q (DetectorV t) g on.within (sym (ap beats_on on.is)) (detector_stands (kind_of w.shape q) v t (stands_on w q (DetectorV v) g on)) tt

pub paired_good : (w new : WorldView) (p : ℕ) (made : ℕ → PartView → PartView) (d : PartFacts → Deed) → ((value : ℕ) → Keeps (made value)) → Good w → Paired w new p made d → Good new
paired_good w new p made d keeps g r =
    let q = detector_part w.shape in
    let first = good_place w p r.low (made r.facts.value) (keeps r.facts.value) g r.low_on in
    let a = r.inside in
    let n = r.detector_on.below in
    let l = length-set w.parts p (made r.facts.value r.low) in
    let within = r.detector_on.within in
    subst Good (sym r.is) (good_detector (with_part w p (made r.facts.value r.low)) q r.detector (detector_with_now r.detector r.behind) first
    (record { within = omega arith; below = n; is = get_or-set_other w.parts p q (made r.facts.value r.low) AbsentV (λ (e : q ≡ p). let c = r.last in let d = r.inside in absurd (omega arith)) ∙ r.detector_on.is }))

pub alone_good : (w new : WorldView) (d : Deed) → Good w → Alone w new d → Good new
alone_good w new d g r = subst Good (sym r.is) (good_detector w (detector_part w.shape) r.detector (detector_with_now r.detector r.behind) g r.detector_on)

-- each event keeps what holds of every part
pub event_good : (e : Event) (w new : WorldView) → Good w → IsQuietWorld w → happened e w ≡ Some new → Good new
event_good (event.Report p) w new g q h = paired_good w new p.0 _ _ (λ value. whitened_keeps) g (report_paired p w new g q h)
event_good event.Begin w new g q h = alone_good w new deed.Begin g (alone event.Begin deed.Begin w new g h refl)
event_good (event.Confirm p) w new g q h = paired_good w new p.0 _ _ (λ value. same_keeps) g (confirm_paired p w new g q h)
event_good event.Announce w new g q h = alone_good w new deed.Announce g (alone event.Announce deed.Announce w new g h refl)
event_good (event.Release p) w new g q h = paired_good w new p.0 _ _ released_keeps g (release_paired p w new g q h)
event_good (event.Go p) w new g q h = paired_good w new p.0 _ _ (λ value. going_keeps) g (go_paired p w new g q h)
event_good (event.Turn t n) w new g q h = (event_reached (λ _. []) [] (event.Turn t n) w new tt g h).good
event_good (event.Deliver t) w new g q h = (event_reached (λ _. []) [] (event.Deliver t) w new tt g h).good
event_good (event.Depart p l) w new g q h = (event_reached (λ _. []) [] (event.Depart p l) w new tt g h).good
event_good (event.Arrive l p) w new g q h = (event_reached (λ _. []) [] (event.Arrive l p) w new tt g h).good
event_good (event.Route p) w new g q h = (event_reached (λ _. []) [] (event.Route p) w new tt g h).good
event_good event.HostPut w new g q h = (event_reached (λ _. []) [] event.HostPut w new tt g h).good
event_good event.HostTake w new g q h = (event_reached (λ _. []) [] event.HostTake w new tt g h).good

-- ---- the release carried through

released_each : (P : PartView → Type 0) (i value : ℕ) (xs : List PartView) (p : ℕ) → ((x : PartView) → P x → P (released_part value x)) → P (get_or xs p AbsentV) → P (get_or (released_from i value xs) p AbsentV)
released_each P i value xs p keeps h = elim (cases_lt p i) [
  | inl before ↦ subst P (sym (released_before i value xs p before)) h
  | inr behind ↦ subst P (sym (released_behind i value xs p behind)) (keeps (get_or xs p AbsentV) h)
]

settled_each : (P : PartView → Type 0) (ph : Phase) (value : ℕ) (xs : List PartView) (p : ℕ) → ((x : PartView) → P x → P (released_part value x)) → P (get_or xs p AbsentV) → P (get_or (settled_in ph value xs) p AbsentV)
settled_each P phase.Collect value xs p keeps h = h
settled_each P (phase.Confirm i) value xs p keeps h = h
settled_each P (phase.Release i) value xs p keeps h = released_each P i value xs p keeps h
settled_each P (phase.Go i) value xs p keeps h = h

pub good_settled_in : (w : WorldView) (ph : Phase) (value : ℕ) → Good w → Good (with_parts w (settled_in ph value w.parts))
good_settled_in w ph value g =
    let same : tables_of (with_parts w (settled_in ph value w.parts)) ≡ tables_of w = tables_match w (settled_in ph value w.parts) (λ p. settled_stays beats_on ph value w.parts p stays_beats) in
    let k = released_keeps value in
    record {
      count = settled_length ph value w.parts ∙ g.count;
      limits = g.limits;
      leads = g.leads;
      accepted = subst (Accepted w.shape) (sym same) g.accepted;
      stands = λ p below. settled_each (StandsAt (kind_of w.shape p)) ph value w.parts p (k.stands (kind_of w.shape p)) (g.stands p below);
      each = λ p below. subst (λ t. GoodPart w.shape t p (get_or (settled_in ph value w.parts) p AbsentV)) (sym same)
          (settled_each (GoodPart w.shape (tables_of w) p) ph value w.parts p (k.good w.shape (tables_of w) p) (g.each p below));
    }

pub good_settled : (w : WorldView) → Good w → Good (settled w)
good_settled w g = good_settled_in w (detector_on w).phase (value_of (detector_on w).answer) g

-- ---- walks

-- what holds of every part holds after a walk
pub walk_good : (events : List Event) (start end : WorldView) → Good start → IsQuietWorld start → Walk start events end → Good end
walk_good [] start end g q walk = subst Good walk g
walk_good (e ∷ es) start end g q walk = walk_good es walk.0 end (event_good e start walk.0 g q walk.1) (event_quiet e start walk.0 g.limits q walk.1) walk.2
