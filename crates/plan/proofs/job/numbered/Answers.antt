use Rattle.std.proofs.Common.{rules, ap, sym, ◌∙◌}
use mir.Syntax.{w64}
use Rattle.std.proofs.lemmas.Int.{to_z-of_z}
use Rattle.text.specs.Scan.{scanned, word_of}
use Rattle.plan.specs.Steps.{job_by}
use Rattle.plan.proofs.Jobs.{numbered-bad, numbered-outside, numbered-value}
use Rattle.plan.proofs.job.numbered.Goals as goal

pub returns-in_default : goal.returns-in_default
returns-in_default g c = λ bfs h. numbered-bad _ _ _ bfs _ _ c.in_default.ensures c.sheet_fault.ensures

pub returns-in_default-value : goal.returns-in_default-value
returns-in_default-value g c = λ bfs h.
    numbered-outside _ _ _ bfs _ _ (ap (λ v. scanned (word_of v) c.in-Ok.scan.next) (sym c.in_default-value.is) ∙ c.in-Ok.ensures)
    c.sheet_fault-in_default-value.ensures

pub returns : goal.returns
returns g c = λ bfs h.
    numbered-value _ _ _ _ _ _ _ (ap (λ v. scanned (word_of v) c.in-Ok.scan.next) (sym c.in-Some.is) ∙ c.in-Ok.ensures)
    (h _ _ c.job.ensures ∙ ap (job_by bfs) (to_z-of_z w64 c.in-Some.z (search rules)))
