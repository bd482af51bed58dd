use Rattle.machine_tests.proofs.log_tests.started.Goals as goal

pub returns-in-Ok-load : goal.returns-in-Ok-load
returns-in-Ok-load c = c.law_starts.ensures c.in-Ok.job c.in-Ok-load.world c.in-Ok-load.ensures
