use mathlib.Core.Path.{ap, ◌∙◌}
use Rattle.matching.specs.Steps.{counted}
use Rattle.matching.proofs.Judging.{by-exact, by-equivalence}
use Rattle.matching.proofs.Mismatches.{unequal-at}
use Rattle.matching.proofs.numbers.mismatch.Goals as goal

pub returns-in-Exact : goal.returns-in-Exact
returns-in-Exact c =
    by-exact _ _ _ _ c.in-Exact.is (ap counted c.first_unequal.ensures ∙ unequal-at c.args.reference.now c.args.claimed.now c.requires)

pub returns-in-Equivalence : goal.returns-in-Equivalence
returns-in-Equivalence c = search by-equivalence
