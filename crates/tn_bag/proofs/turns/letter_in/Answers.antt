use Rattle.std.proofs.Common.{◌∙◌, ap, sym}
use Rattle.std.specs.Prelude.{option_copied}
use Rattle.tn_slots.specs.Pool.{message_at}
use Rattle.tn_letters.specs.Letters.{letter}
use Rattle.tn_bag.proofs.Spelled.{letter_read}
use Rattle.tn_bag.proofs.turns.letter_in.Goals as goal

pub returns : goal.returns
returns c =
    ap (λ bytes. letter c.unwrap-origin.result.0 c.unwrap-origin.result.1 c.args.t.0 bytes) c.copy.ensures
    ∙ letter_read c.args.tile.now c.args.t.0 c.args.slot c.unwrap-origin.result c.unwrap-bytes.result.now c.requires.here
    (sym c.sender.ensures ∙ c.unwrap-origin.ensures)
    (ap (λ p. message_at p c.args.slot) (sym c.pool.ensures) ∙ (sym c.bytes.ensures ∙ ap option_copied c.unwrap-bytes.ensures))
