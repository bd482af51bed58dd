-- What a deed does to what the host shows.
use Rattle.std.proofs.Common.{ℕ, ◌≡◌, ◌&&◌, cond, refl, sym, ap, subst, arith, Bool, true, false, Option, Some, None}
use Rattle.std.proofs.lemmas.Bool.{and_parts}
use Rattle.std.proofs.lemmas.Int.{ints}
use Rattle.tn_base.specs.declared.message.Packet.{Packet}
use Rattle.tn_host.specs.declared.script.ScriptItem.{ScriptItem}
use Rattle.tn_host.specs.declared.script.ScriptItem.TheVariants as item
use Rattle.tn_host.specs.HostView.{HostState}
use Rattle.tn_host.specs.Rows.{can_depart, departed, host_deed, is_still, offered, put_row}
use Rattle.tn_host.specs.Script.{first_item, is_no_send, packet_of}
use Rattle.tn_host.proofs.Deeds.{confirm_deed, go_deed, put_is, release_deed, report_deed, taken_is}
use Rattle.tn_node.specs.Deed.{Deed}
use Rattle.tn_node.specs.Deed as deed
use Rattle.tn_node.specs.SamePacket.{is_packet}
use Rattle.tn_rest.specs.RestView.{Gets, Sends, Turns, Whitens}
use Rattle.tn_tile.proofs.Steps.{taken}
use Rattle.tn_rows.specs.DetectorDeed.{view_of}
use Rattle.tn_quiet.specs.Shows.{DoesDeed, host_shows}

-- a host that offers a packet is not held, and its next item is a message
offers_of : (k : Packet) (held : Bool) (number : ℕ) (o : Option ScriptItem) → is_packet k (cond held None (packet_of number o)) ≡ true → (held ≡ false) × (is_no_send o ≡ false)
offers_of k true number o e = cc e
offers_of k false number None e = cc e
offers_of k false number (Some (item.Send t bytes)) e = (refl, refl)
offers_of k false number (Some item.AwaitIdle) e = cc e

offers : (k : Packet) (s t : HostState) → put_row k s ≡ Some t → (s.node.held ≡ false) × (is_still s ≡ false)
offers k s t e =
    let tests = (taken (is_packet k (offered s) && can_depart s.node) (Some (departed s)) t e).0 in
    offers_of k s.node.held s.sends (first_item s.script) (and_parts (is_packet k (offered s)) (can_depart s.node) tests).0

pub host_does : (d : Deed) (s t : HostState) → host_deed d s ≡ Some t → DoesDeed d (host_shows s) (host_shows t)
host_does (deed.Turn a n) s t e = cc e
host_does (deed.Deliver a) s t e = cc e
host_does (deed.Give way k) s t e = cc e
host_does (deed.Take side k) s t e = cc e
host_does deed.Route s t e = cc e
host_does (deed.HostPut k) s t e =
    let o = offers k s t e in
    subst (λ x. Sends (host_shows s) (host_shows x)) (sym (put_is k s t e)) (record { busy = o.1; free = o.0; counter = refl; black = refl; held = refl })
host_does (deed.HostTake k) s t e =
    subst (λ x. Gets (host_shows s) (host_shows x)) (sym (taken_is k s t e).1) (record { counter = omega (arith, ints); black = refl; held = refl })
host_does (deed.Report i f) s t e =
    let d = report_deed i f s t e in
    (ap view_of d.facts, d.still, subst (λ x. Whitens (host_shows s) (host_shows x)) (sym d.is) (record { white = refl; still = refl; counter = refl; held = refl }))
host_does deed.Begin s t e = cc e
host_does (deed.Confirm i f) s t e = let d = confirm_deed i f s t e in (ap view_of d.facts, ap host_shows d.is)
host_does deed.Announce s t e = cc e
host_does (deed.Release i f) s t e =
    let d = release_deed i f s t e in
    (ap view_of d.facts, subst (λ x. Turns true (host_shows s) (host_shows x)) (sym d.is) (record { held = refl; counter = refl; black = refl }))
host_does (deed.Go i f) s t e =
    let d = go_deed i f s t e in
    (ap view_of d.facts, subst (λ x. Turns false (host_shows s) (host_shows x)) (sym d.is) (record { held = refl; counter = refl; black = refl }))
