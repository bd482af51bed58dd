use Rattle.std.proofs.Common.{refl}
use Rattle.tn_router.proofs.moves.copy_by.Goals as goal

pub returns-in-Urm2 : goal.returns-in-Urm2
returns-in-Urm2 c = rw (c.in-Urm2.is, c.sent_if-in-Urm2.ensures, c.fronted-in-Urm2.ensures, c.bytes_8.ensures, c.thread_at-to-in-Urm2.ensures) refl
