use Rattle.text.proofs.DistanceTails.{sharing-start, sharing-fits, sharing-more, sharing-end, shared-not}
use Rattle.text.proofs.distance.shared_front.Goals as goal

pub loop-i-init : goal.loop-i-init
loop-i-init c = search sharing-start

pub overflow_add-at : goal.overflow_add-at
overflow_add-at c = search sharing-fits

pub returns-then-not-has : goal.returns-then-not-has
returns-then-not-has c = search shared-not

pub loop-i-preserved : goal.loop-i-preserved
loop-i-preserved c = search sharing-more

pub returns : goal.returns
returns c = search sharing-end
