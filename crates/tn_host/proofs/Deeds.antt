-- What each event leaves of a host, and what the detector sees of it.
use Rattle.std.proofs.Common.{ℕ, ◌≡◌, Bool, true, false, cond, Some, None, unwrap_or, refl, sym, ap}
use Rattle.tn_base.specs.declared.message.Packet.{Packet}
use Rattle.tn_host.specs.HostView.{HostState}
use Rattle.tn_host.specs.Rows.{departed, gone_on, host_deed, host_facts, host_whitened, is_still, put_row, released, take_row, took}
use Rattle.tn_node.specs.declared.facts.PartFacts.{PartFacts}
use Rattle.tn_node.specs.Deed as deed
use Rattle.tn_node.specs.Facts.{with_value}
use Rattle.tn_node.specs.NodeRows.{can_arrive}
use Rattle.tn_node.proofs.Agreed.{Own, own_given, own_taken, still_given, still_taken}

-- what the test of a row tells, and what the row gives
test_taken : {S : Type 0} (b : Bool) (x y : S) → cond b (Some x) None ≡ Some y → (b ≡ true) × (y ≡ x)
test_taken true x y e = (refl, ap (λ o. unwrap_or o y) (sym e))
test_taken false x y e = cc e

-- a packet that the host takes is behind its letters, and nothing else but the node changes
pub taken_is : (k : Packet) (s t : HostState) → take_row k s ≡ Some t → (can_arrive s.node ≡ true) × (t ≡ took k s)
taken_is k s t e = test_taken (can_arrive s.node) (took k s) t e

-- a host that gives a packet has passed one item
pub put_is : (k : Packet) (s t : HostState) → put_row k s ≡ Some t → t ≡ departed s
put_is k s t e = (test_taken _ (departed s) t e).1

-- what the detector's deeds make of a host: the facts are the host's own, and the host becomes what the call of this name says
pub record ReportDeed (f : PartFacts) (old new : HostState) : Type 0 where
  pub facts : f ≡ with_value (host_facts old) f
  pub still : is_still old ≡ true
  pub is : new ≡ host_whitened old

pub record ConfirmDeed (f : PartFacts) (old new : HostState) : Type 0 where
  pub facts : f ≡ with_value (host_facts old) f
  pub is : new ≡ old

pub record ReleaseDeed (f : PartFacts) (old new : HostState) : Type 0 where
  pub facts : f ≡ with_value (host_facts old) f
  pub is : new ≡ released old

pub record GoDeed (f : PartFacts) (old new : HostState) : Type 0 where
  pub facts : f ≡ with_value (host_facts old) f
  pub is : new ≡ gone_on old

pub report_deed : (i : ℕ) (f : PartFacts) (s t : HostState) → host_deed (deed.Report i f) s ≡ Some t → ReportDeed f s t
report_deed i f s t e =
    let o = still_taken (host_facts s) f (host_whitened s) t e in
    record { facts = o.0.facts; still = o.1; is = sym o.0.is }

pub confirm_deed : (i : ℕ) (f : PartFacts) (s t : HostState) → host_deed (deed.Confirm i f) s ≡ Some t → ConfirmDeed f s t
confirm_deed i f s t e =
    let o : Own (host_facts s) f s t = own_taken (host_facts s) f s t e in
    record { facts = o.facts; is = sym o.is }

pub release_deed : (i : ℕ) (f : PartFacts) (s t : HostState) → host_deed (deed.Release i f) s ≡ Some t → ReleaseDeed f s t
release_deed i f s t e =
    let o : Own (host_facts s) f (released s) t = own_taken (host_facts s) f (released s) t e in
    record { facts = o.facts; is = sym o.is }

pub go_deed : (i : ℕ) (f : PartFacts) (s t : HostState) → host_deed (deed.Go i f) s ≡ Some t → GoDeed f s t
go_deed i f s t e =
    let o : Own (host_facts s) f (gone_on s) t = own_taken (host_facts s) f (gone_on s) t e in
    record { facts = o.facts; is = sym o.is }

-- a host can do each of them with its own facts, whatever the detector's answer is; it reports only if it is still
pub record TellsOwn (s : HostState) : Type 0 where
  pub reports : (i value : ℕ) → is_still s ≡ true → host_deed (deed.Report i (record (host_facts s) { value = value })) s ≡ Some (host_whitened s)
  pub confirms : (i value : ℕ) → host_deed (deed.Confirm i (record (host_facts s) { value = value })) s ≡ Some s
  pub releases : (i value : ℕ) → host_deed (deed.Release i (record (host_facts s) { value = value })) s ≡ Some (released s)
  pub goes : (i value : ℕ) → host_deed (deed.Go i (record (host_facts s) { value = value })) s ≡ Some (gone_on s)

pub tells_own : (s : HostState) → TellsOwn s
tells_own s = record {
  reports = λ i value still. still_given (host_facts s) value (host_whitened s) still;
  confirms = λ i value. own_given (host_facts s) value s;
  releases = λ i value. own_given (host_facts s) value (released s);
  goes = λ i value. own_given (host_facts s) value (gone_on s);
}
