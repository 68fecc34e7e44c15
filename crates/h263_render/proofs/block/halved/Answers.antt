-- `h263_render::block::halved` meets its contract: by the plane. Assumes nothing.
use Rattle.h263_render.proofs.Place.{plane_whole, plane_halved}
use Rattle.h263_render.proofs.block.halved.Goals as goal

pub returns-then-plane-eq0 : goal.returns-then-plane-eq0
returns-then-plane-eq0 c = plane_whole c.args.plane c.args.count c.if-plane-eq0.true

pub returns-else-plane-eq0 : goal.returns-else-plane-eq0
returns-else-plane-eq0 c = plane_halved c.args.plane c.args.count c.if-plane-eq0.false
