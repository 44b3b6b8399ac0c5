use Rattle.std.proofs.Math.Nat.{sub-zero}
use native.Mathlib.Omega.{arith}
use Rattle.sheet.proofs.Ran.{job_moved, jobs-end, jobs-fault, jobs-more}
use Rattle.sheet.proofs.jobs.run_jobs.Goals as goal

pub loop-init : goal.loop-init
loop-init c = rw sub-zero

pub returns-in_default : goal.returns-in_default
returns-in_default c = jobs-fault _ _ _ _ _ _ _ c.loop.invariant c.loop-test.true _ c.in_default.ensures

pub slice_bounds-run_job-count : goal.slice_bounds-run_job-count
slice_bounds-run_job-count c = omega (arith, job_moved _ _ _ _ c.in-Ok.ensures)

pub slice_bounds-run_job-start : goal.slice_bounds-run_job-start
slice_bounds-run_job-start c = omega (arith, job_moved _ _ _ _ c.in-Ok.ensures)

pub slice_bounds-run_job-end : goal.slice_bounds-run_job-end
slice_bounds-run_job-end c = omega (arith, job_moved _ _ _ _ c.in-Ok.ensures)

pub loop-preserved : goal.loop-preserved
loop-preserved c = jobs-more _ _ _ _ _ _ _ c.loop.invariant c.loop-test.true _ _ c.in-Ok.ensures c.run_job-next.ensures

pub returns : goal.returns
returns c = jobs-end _ _ _ _ _ _ _ c.loop.invariant c.loop-test.false
