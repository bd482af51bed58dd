use Rattle.std.proofs.Common.{◌∙◌, ap, sym, count_by}
use Rattle.polite_log.specs.Summary.{is_receive}
use Rattle.polite_log.proofs.Logs.{count_reverse}
use Rattle.polite_log.proofs.received.received.Goals as goal

pub returns : goal.returns
returns g c =
    c.receives.ensures
    ∙ (ap (count_by is_receive) c.deref.ensures.value
    ∙ (sym (count_reverse is_receive c.in_ok-deeds.deeds.items) ∙ ap (count_by is_receive) c.in_ok-deeds.ensures))
