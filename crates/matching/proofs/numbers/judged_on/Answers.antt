use mathlib.Core.Path.{refl}
use Rattle.matching.proofs.Judging.{well-some, well-none}
use Rattle.matching.proofs.numbers.judged_on.Goals as goal
use Rattle.matching.proofs.numbers.judged_on.Goals.{in-Some, in-None}

pub verdict_of-requires : goal.verdict_of-requires
verdict_of-requires c =
    elim c.match-incomplete.branch [
      | in-Some w ↦ well-some _ c.args.lines.now c.requires.well_read c.in_ok-incomplete.was w.in-Some.is _
      | in-None w ↦
          well-none _ c.args.lines.now c.requires.well_read c.in_ok-incomplete.was c.args.rule c.args.reference.now c.args.claimed.now
          c.requires.same_size refl w.in-None.is w.fault-is w.mismatch-fault.ensures
    ]
