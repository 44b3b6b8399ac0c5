use Rattle.std.proofs.Common.{◌≡◌, ℕ, ◌-◌, Bool, List}
use Rattle.basis.specs.Refusal.{said}
use Rattle.plan.specs.Sheet.{line_past, lines_past}
use Rattle.plan.proofs.sections.lines_past.Given as goal

abbrev pub invariant-loop : goal.invariant-loop
invariant-loop g l =
    (jobs : Bool) (s : List ℕ) → ((place : ℕ) (r : _) → goal.F-post g l.past place r → said r ≡ line_past jobs s place)
    → lines_past jobs (l.count - l.counter) s l.at ≡ lines_past jobs l.count s l.from
