use mathlib.Core.Path.{refl}
use Rattle.graph.proofs.Walks.{all-walked-none, all-walked-more, all-walked-stop, all-walked-end, targets-low}
use native.Mathlib.Omega.{arith}
use borrow.Author.Rules.{rules}
use Rattle.graph.proofs.walk.all_walked.Goals as goal

pub loop-u-init : goal.loop-u-init
loop-u-init c = (omega arith, refl, all-walked-none _ _ _)

pub arcs_walked-requires : goal.arcs_walked-requires
arcs_walked-requires c = search targets-low

pub returns-then-not-arcs_walked : goal.returns-then-not-arcs_walked
returns-then-not-arcs_walked c = search all-walked-stop

pub loop-u-preserved : goal.loop-u-preserved
loop-u-preserved c = (omega arith, search rules, search all-walked-more)

pub returns : goal.returns
returns c = search all-walked-end
