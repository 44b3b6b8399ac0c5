use Rattle.wcc.proofs.Steps.{arcs-none, arcs-more, arcs-end}
use Rattle.wcc.proofs.groups.join_arcs.Goals as goal

pub loop-u-init : goal.loop-u-init
loop-u-init c = search arcs-none

pub loop-u-preserved : goal.loop-u-preserved
loop-u-preserved c = search arcs-more

pub returns : goal.returns
returns c = search arcs-end
