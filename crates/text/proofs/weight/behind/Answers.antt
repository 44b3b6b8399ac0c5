use Rattle.text.proofs.Weighing.{behind-end, behind-other, behind-from, behind-none}
use Rattle.text.proofs.Weighing.{behind-long, behind-open, behind-small, behind-good}
use Rattle.text.proofs.weight.behind.Goals as goal

pub returns-then-p-s : goal.returns-then-p-s
returns-then-p-s c = search behind-end

pub returns-then-s-p-ne-POINT : goal.returns-then-s-p-ne-POINT
returns-then-s-p-ne-POINT c = search behind-other

pub overflow_sub-places : goal.overflow_sub-places
overflow_sub-places c = search behind-from

pub returns-then-places-eq0 : goal.returns-then-places-eq0
returns-then-places-eq0 c = search behind-none

pub returns-then-places-gt-PLACES : goal.returns-then-places-gt-PLACES
returns-then-places-gt-PLACES c = search behind-long

pub returns-then-end-s : goal.returns-then-end-s
returns-then-end-s c = search behind-open

pub millionths-requires-2 : goal.millionths-requires-2
millionths-requires-2 c = search behind-small

pub returns : goal.returns
returns c = search behind-good
