use Rattle.polite_flow.proofs.Arriving.{arrivals_keep}
use Rattle.polite_flow.proofs.Departing.{departures_keep}
use Rattle.polite_flow.proofs.HostStill.{puts_nothing}
use Rattle.polite_flow.proofs.laws.law_traffic.Goals as goal

pub returns-clause-depart : goal.returns-clause-depart
returns-clause-depart c = departures_keep

pub returns-clause-arrive : goal.returns-clause-arrive
returns-clause-arrive c = arrivals_keep

pub returns-clause-host : goal.returns-clause-host
returns-clause-host c = puts_nothing
