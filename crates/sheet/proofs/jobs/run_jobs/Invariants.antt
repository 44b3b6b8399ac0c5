use Prim.Native.Nat.{◌-◌}
use mathlib.Core.Path.{◌≡◌}
use Rattle.graph.specs.Sound.{standing}
use Rattle.write.specs.Put.{put_at}
use Rattle.sheet.specs.Jobs.{jobs_text}
use Rattle.sheet.proofs.jobs.run_jobs.Given as goal

abbrev pub invariant-loop : goal.invariant-loop
invariant-loop l =
    put_at l.out l.next (jobs_text (standing l.g) l.s (l.count - l.counter) l.place)
    ≡ put_at l.initial.out l.at (jobs_text (standing l.g) l.s l.count l.from)
