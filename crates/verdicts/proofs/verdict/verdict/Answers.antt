use mir.Facts.{to_z-of_z}
use Rattle.verdicts.proofs.verdict.verdict.Goals as goal

pub returns : goal.returns
returns c =
    rw (to_z-of_z c.ranges.parameter) at c.verdict_within.ensures
