-- Whether two packets are the same one, as a test.
use Rattle.std.specs.Prelude.{ℕ, ◌==◌, ◌&&◌, Bool, true, false, List, [], ◌∷◌, Option, Some, None}
use Rattle.tn_base.specs.declared.message.Dest.{Dest}
use Rattle.tn_base.specs.declared.message.Dest.TheVariants as dest
use Rattle.tn_base.specs.declared.message.Packet.{Packet}

unfoldable pub same_bytes : List ℕ → List ℕ → Bool
same_bytes [] [] = true
same_bytes [] (y ∷ ys) = false
same_bytes (x ∷ xs) [] = false
same_bytes (x ∷ xs) (y ∷ ys) = x == y && same_bytes xs ys

abbrev pub same_dest : Dest → Dest → Bool
same_dest (dest.Thread t) (dest.Thread u) = t.0 == u.0
same_dest (dest.Thread t) dest.Host = false
same_dest (dest.Thread t) (dest.Mask tile mask) = false
same_dest (dest.Thread t) (dest.Key key) = false
same_dest dest.Host (dest.Thread u) = false
same_dest dest.Host dest.Host = true
same_dest dest.Host (dest.Mask tile mask) = false
same_dest dest.Host (dest.Key key) = false
same_dest (dest.Mask tile mask) (dest.Thread u) = false
same_dest (dest.Mask tile mask) dest.Host = false
same_dest (dest.Mask tile mask) (dest.Mask other set) = tile.0 == other.0 && mask == set
same_dest (dest.Mask tile mask) (dest.Key key) = false
same_dest (dest.Key key) (dest.Thread u) = false
same_dest (dest.Key key) dest.Host = false
same_dest (dest.Key key) (dest.Mask tile mask) = false
same_dest (dest.Key key) (dest.Key other) = key == other

abbrev pub same_packet : Packet → Packet → Bool
same_packet p q = p.origin == q.origin && p.number == q.number && same_dest p.dest q.dest && same_bytes p.bytes q.bytes

-- the packet that stands there is k
abbrev pub is_packet : Packet → Option Packet → Bool
is_packet k None = false
is_packet k (Some p) = same_packet p k
