use borrow.Author.Rules.{rules}
use Rattle.basis.proofs.Scans.{every-none}
use Rattle.matching.proofs.Mismatches.{unlike-start, unlike-end, unlike-later, unlike-here, like-more}
use Rattle.matching.proofs.FirstPlaces.{bits_back}
use Rattle.matching.proofs.kinds.first_unlike.Goals as goal

pub loop-i-init : goal.loop-i-init
loop-i-init c = unlike-start _ _

pub loop-j-init : goal.loop-j-init
loop-j-init c = search (rules, every-none)

pub loop-j-preserved : goal.loop-j-preserved
loop-j-preserved c = search (rules, like-more, bits_back)

pub loop-i-preserved : goal.loop-i-preserved
loop-i-preserved c = search (rules, unlike-later)

pub returns-after-loop-i : goal.returns-after-loop-i
returns-after-loop-i c = search unlike-end

pub returns-then-unlike : goal.returns-then-unlike
returns-then-unlike c = search (rules, unlike-here, bits_back)
