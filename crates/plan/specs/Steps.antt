-- What private functions promise.
use Rattle.std.specs.Prelude.{ℕ, Bool, cond, List, ℤ}
use Rattle.basis.specs.Refusal.{Said}
use Rattle.text.specs.Bytes.{lf}
use Rattle.text.specs.Scan.{Scanned, line_of, scanned, field_at}
use Rattle.plan.specs.Lines.{in_sheet}
use Rattle.plan.specs.Jobs.{made}
use Rattle.plan.specs.declared.job.Job.{Job}
use Rattle.plan.specs.declared.job.Job.TheVariants.{Bfs, Cdlp}

-- the job of a number: of BFS or of CDLP
abbrev pub job_by : Bool → ℤ → Job
job_by bfs z = cond bfs (Bfs z) (Cdlp z)

-- a job whose number was scanned
abbrev pub with_number : Bool → Scanned ℤ → Scanned Job
with_number bfs x = scanned (made (job_by bfs) x.said) x.next

-- the job at a place whose number stands at `from`
unfoldable pub numbered_at : List ℕ → ℕ → ℕ → Bool → Said (Job × ℕ)
numbered_at s place from bfs = in_sheet s (line_of place (with_number bfs (field_at s from lf)))
