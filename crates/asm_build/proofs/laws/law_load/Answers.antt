use Rattle.std.proofs.Common.{arith}
use Rattle.asm_build.proofs.LoadLemmas.{number_loads, address_loads}
use Rattle.asm_build.proofs.laws.law_load.Goals as goal

pub returns-clause-number : goal.returns-clause-number
returns-clause-number c = number_loads c.args._rd c.args._number c.requires (omega arith)

pub returns-clause-address : goal.returns-clause-address
returns-clause-address c = address_loads c.args._rd c.args._number c.requires (omega arith)
