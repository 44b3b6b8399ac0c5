use borrow.Author.Rules.{rules}
use Rattle.basis.proofs.Areas.{copied_none, copied_more, copied-end}
use Rattle.basis.proofs.area.copy.Goals as goal

pub loop-i-init : goal.loop-i-init
loop-i-init c = search copied_none

pub loop-i-preserved : goal.loop-i-preserved
loop-i-preserved c = search copied_more

pub returns : goal.returns
returns c = search copied-end
