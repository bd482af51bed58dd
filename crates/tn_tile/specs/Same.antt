-- Two states of tiles, and two instructions, field by field.
use Rattle.std.specs.Prelude.{◌≡◌}
use Rattle.rv_isa.specs.declared.instr.Instr.{Instr}
use Rattle.tn_tile.specs.TileView.{TileState}

-- they have one name, and write one register
abbrev pub SameTarget : Instr → Instr → Type 0
SameTarget i j = (i.op ≡ j.op) × (i.rd ≡ j.rd)

-- they have equal operands
abbrev pub SameOperands : Instr → Instr → Type 0
SameOperands i j = (i.rs1 ≡ j.rs1) × (i.rs2 ≡ j.rs2) × (i.imm ≡ j.imm)

abbrev pub SameFields : Instr → Instr → Type 0
SameFields i j = SameTarget i j × SameOperands i j

-- they have equal messages: in slots, pending and on their way out
abbrev pub SameMessages : TileState → TileState → Type 0
SameMessages a b = (a.pool ≡ b.pool) × (a.senders ≡ b.senders) × (a.pending ≡ b.pending) × (a.node ≡ b.node)

-- they have counted as much, and ended alike
abbrev pub SameCounts : TileState → TileState → Type 0
SameCounts a b = (a.dropped ≡ b.dropped) × (a.ended ≡ b.ended)

abbrev pub SameState : TileState → TileState → Type 0
SameState a b = (a.threads ≡ b.threads) × SameMessages a b × SameCounts a b
