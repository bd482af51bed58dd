-- What another value for one port leaves at each port.
use Rattle.std.proofs.Common.{◌≡◌, ◌&&◌, Bool, true, false, not, refl, Option, None, Some, is_none}
use Rattle.std.proofs.lemmas.Bool.{and_parts}
use Rattle.tn_base.specs.declared.port.Port.{Port}
use Rattle.tn_base.specs.declared.port.Port.TheVariants as port
use Rattle.tn_node.specs.declared.ports.Ports.{Ports}
use Rattle.tn_node.specs.PortRows.{all_empty, at, with_at}

-- what holds of the value of each port, and of the new value at its port, holds of each port behind
pub each_set : {X : Type 0} (P : Port → Option X → Type 0) (way p : Port) (o : Option X) (s : Ports X) → P way o → ((q : Port) → P q (at q s)) → P p (at p (with_at way o s))
each_set P port.East port.East o s new all = new
each_set P port.East p o s new all = all p
each_set P port.West port.West o s new all = new
each_set P port.West p o s new all = all p
each_set P port.South port.South o s new all = new
each_set P port.South p o s new all = all p
each_set P port.North port.North o s new all = new
each_set P port.North p o s new all = all p
each_set P port.Up port.Up o s new all = new
each_set P port.Up p o s new all = all p
each_set P port.Down port.Down o s new all = new
each_set P port.Down p o s new all = all p
each_set P port.HostPort port.HostPort o s new all = new
each_set P port.HostPort p o s new all = all p
each_set P port.Here p o s new all = all p

none_here : {X : Type 0} (o : Option X) → is_none o ≡ true → o ≡ None
none_here None e = refl
none_here (Some x) e = cc e

each_none : {X : Type 0} (way : Port) (s : Ports X) → s.east ≡ None → s.west ≡ None → s.south ≡ None → s.north ≡ None → s.up ≡ None → s.down ≡ None → s.host ≡ None → at way s ≡ None
each_none port.East s a b c d e f g = a
each_none port.West s a b c d e f g = b
each_none port.South s a b c d e f g = c
each_none port.North s a b c d e f g = d
each_none port.Up s a b c d e f g = e
each_none port.Down s a b c d e f g = f
each_none port.HostPort s a b c d e f g = g
each_none port.Here s a b c d e f g = refl

-- if no port has a value, each port has none
pub empty_at : {X : Type 0} (way : Port) (s : Ports X) → all_empty s ≡ true → at way s ≡ None
empty_at way s e =
    let last = and_parts (is_none s.east && is_none s.west && is_none s.south && is_none s.north && is_none s.up && is_none s.down) (is_none s.host) e in
    let sixth = and_parts (is_none s.east && is_none s.west && is_none s.south && is_none s.north && is_none s.up) (is_none s.down) last.0 in
    let fifth = and_parts (is_none s.east && is_none s.west && is_none s.south && is_none s.north) (is_none s.up) sixth.0 in
    let fourth = and_parts (is_none s.east && is_none s.west && is_none s.south) (is_none s.north) fifth.0 in
    let third = and_parts (is_none s.east && is_none s.west) (is_none s.south) fourth.0 in
    let second = and_parts (is_none s.east) (is_none s.west) third.0 in
    each_none way s (none_here s.east second.0) (none_here s.west second.1) (none_here s.south third.1) (none_here s.north fourth.1) (none_here s.up fifth.1) (none_here s.down sixth.1) (none_here s.host last.1)

pub not_false : (b : Bool) → not b ≡ false → b ≡ true
not_false true e = refl
not_false false e = cc e
