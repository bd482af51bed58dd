-- Packets that test as the same are the same.
use Rattle.std.proofs.Common.{◌≡◌, ◌∙◌, ◌==◌, ◌&&◌, ◌∷◌, [], ℕ, true, List, None, Some, refl, ap}
use Rattle.std.specs.declared.option.Option.{Option}
use Rattle.std.proofs.lemmas.Bool.{and_parts, eqb-true}
use Rattle.tn_base.specs.declared.message.Dest.{Dest}
use Rattle.tn_base.specs.declared.message.Dest.TheVariants as dest
use Rattle.tn_base.specs.declared.message.Packet.{Packet}
use Rattle.tn_node.specs.SamePacket.{is_packet, same_bytes, same_dest, same_packet}

bytes_same : (xs ys : List ℕ) → same_bytes xs ys ≡ true → xs ≡ ys
unfolding same_bytes
bytes_same [] [] e = refl
bytes_same [] (y ∷ ys) e = cc e
bytes_same (x ∷ xs) [] e = cc e
bytes_same (x ∷ xs) (y ∷ ys) e =
    let b = and_parts (x == y) (same_bytes xs ys) e in
    ap (λ z. z ∷ xs) (eqb-true x y b.0) ∙ ap (λ zs. y ∷ zs) (bytes_same xs ys b.1)

dest_same : (a b : Dest) → same_dest a b ≡ true → a ≡ b
dest_same (dest.Thread t) (dest.Thread u) e = ap (λ x. dest.Thread (record { 0 = x })) (eqb-true t.0 u.0 e)
dest_same (dest.Thread t) dest.Host e = cc e
dest_same (dest.Thread t) (dest.Mask tile mask) e = cc e
dest_same (dest.Thread t) (dest.Key key) e = cc e
dest_same dest.Host (dest.Thread u) e = cc e
dest_same dest.Host dest.Host e = refl
dest_same dest.Host (dest.Mask tile mask) e = cc e
dest_same dest.Host (dest.Key key) e = cc e
dest_same (dest.Mask tile mask) (dest.Thread u) e = cc e
dest_same (dest.Mask tile mask) dest.Host e = cc e
dest_same (dest.Mask tile mask) (dest.Mask other set) e =
    let b = and_parts (tile.0 == other.0) (mask == set) e in
    ap (λ x. dest.Mask (record { 0 = x }) mask) (eqb-true tile.0 other.0 b.0) ∙ ap (λ x. dest.Mask other x) (eqb-true mask set b.1)
dest_same (dest.Mask tile mask) (dest.Key key) e = cc e
dest_same (dest.Key key) (dest.Thread u) e = cc e
dest_same (dest.Key key) dest.Host e = cc e
dest_same (dest.Key key) (dest.Mask tile mask) e = cc e
dest_same (dest.Key key) (dest.Key other) e = ap dest.Key (eqb-true key other e)

packet_same : (p k : Packet) → same_packet p k ≡ true → p ≡ k
packet_same p k e =
    let a = and_parts (p.origin == k.origin && p.number == k.number && same_dest p.dest k.dest) (same_bytes p.bytes k.bytes) e in
    let b = and_parts (p.origin == k.origin && p.number == k.number) (same_dest p.dest k.dest) a.0 in
    let c = and_parts (p.origin == k.origin) (p.number == k.number) b.0 in
    ap (λ x. record p { origin = x }) (eqb-true p.origin k.origin c.0)
    ∙ ap (λ x. record p { origin = k.origin; number = x }) (eqb-true p.number k.number c.1)
    ∙ ap (λ x. record p { origin = k.origin; number = k.number; dest = x }) (dest_same p.dest k.dest b.1)
    ∙ ap (λ x. record k { bytes = x }) (bytes_same p.bytes k.bytes a.1)

-- the packet that stands there by the test stands there
pub packet_is : (k : Packet) (o : Option Packet) → is_packet k o ≡ true → o ≡ Some k
packet_is k None e = cc e
packet_is k (Some p) e = ap (λ x. Some x) (packet_same p k e)
