use Rattle.tn_link.specs.LinkView.{LinkView}
use Rattle.tn_rows.specs.PartView.{PartView, TileV, RouterV, LinkV, HostV, DetectorV}
use Rattle.tn_part.specs.declared.part.Contents.{Contents}
use Rattle.tn_part.specs.declared.part.Contents.TheVariants as contents

-- a part as the laws see it: a link by its content, the host without its room
abbrev pub view_of : {L : Type 0} → (L → LinkView) → Contents L → PartView
view_of content (contents.Tile tile) = TileV tile
view_of content (contents.Router router) = RouterV router
view_of content (contents.Link link) = LinkV (content link)
view_of content (contents.Host host) = HostV host.now
view_of content (contents.Detector detector) = DetectorV detector
