use Rattle.plan.proofs.Checks.{mode-directed, mode-undirected, mode-none}
use Rattle.plan.proofs.sections.mode_line.Goals as goal

pub returns-then-begins_at : goal.returns-then-begins_at
returns-then-begins_at c = search mode-directed

pub returns-then-begins_at-2 : goal.returns-then-begins_at-2
returns-then-begins_at-2 c = search mode-undirected

pub returns : goal.returns
returns c = search mode-none
