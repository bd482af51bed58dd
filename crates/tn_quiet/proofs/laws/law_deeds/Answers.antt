use Rattle.tn_quiet.proofs.Detectors.{detector_can, detector_does}
use Rattle.tn_quiet.proofs.Hosts.{host_does}
use Rattle.tn_quiet.proofs.Routers.{router_does}
use Rattle.tn_quiet.proofs.Tiles.{tile_does}
use Rattle.tn_quiet.proofs.laws.law_deeds.Goals as goal

pub returns-clause-tiles : goal.returns-clause-tiles
returns-clause-tiles c = tile_does

pub returns-clause-routers : goal.returns-clause-routers
returns-clause-routers c = router_does

pub returns-clause-hosts : goal.returns-clause-hosts
returns-clause-hosts c = host_does

pub returns-clause-detectors : goal.returns-clause-detectors
returns-clause-detectors c = λ n d s t. (detector_does n d s t, detector_can n d s t)
