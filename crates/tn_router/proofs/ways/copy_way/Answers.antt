use Rattle.std.proofs.Common.{◌+◌, arith}
use Rattle.tn_base.specs.declared.message.Dest.TheVariants as dest
use Rattle.tn_base.specs.declared.port.Port.TheVariants as port
use Rattle.tn_keys.specs.Copies.{tile_address}
use Rattle.tn_router.proofs.Keyed.{keyed_way}
use Rattle.tn_router.proofs.ways.copy_way.Goals as goal

pub returns-in-Urm1 : goal.returns-in-Urm1
returns-in-Urm1 c =
    let to = dest.Thread (record { 0 = tile_address c.args.board c.in-Urm1.tile + c.in-Urm1.thread }) in
    rw (c.in-Urm1.is, c.down_to.ensures, c.thread_at.ensures) (keyed_way c.args.shape.now c.args.p.now port.Down to 4 c.in-Urm1.key (omega arith) c.requires.packet)

pub returns-in-Urm2 : goal.returns-in-Urm2
returns-in-Urm2 c =
    let to = dest.Thread (record { 0 = tile_address c.args.board c.in-Urm2.tile + c.in-Urm2.thread }) in
    rw (c.in-Urm2.is, c.down_to-in-Urm2.ensures, c.thread_at-in-Urm2.ensures) (keyed_way c.args.shape.now c.args.p.now port.Down to 8 c.in-Urm2.key (omega arith) c.requires.packet)

pub returns-in-Mrm : goal.returns-in-Mrm
returns-in-Mrm c =
    let to = dest.Mask (record { 0 = tile_address c.args.board c.in-Mrm.tile }) c.in-Mrm.mask in
    rw (c.in-Mrm.is, c.down_to-in-Mrm.ensures, c.tile_address.ensures.value, c.of.ensures) (keyed_way c.args.shape.now c.args.p.now port.Down to 2 c.in-Mrm.key (omega arith) c.requires.packet)
