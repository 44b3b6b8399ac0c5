use mathlib.Core.Path.{sym, ◌∙◌}
use native.Mathlib.Omega.{arith}
use Rattle.graph.proofs.Finds.{halving-start, halving-up, halving-down, halving-here, halving-end, in-middle}
use Rattle.graph.proofs.find.bisect.Goals as goal

pub loop-low-init : goal.loop-low-init
loop-low-init g c = (omega arith, halving-start _ _ _ _)

pub loop-low-preserved-then-lt : goal.loop-low-preserved-then-lt
loop-low-preserved-then-lt g c = (
  omega arith,
  halving-up c.loop-low.invariant.1 c.loop-low-test.true _
      (in-middle _ _ _ _ _ c.loop-low.invariant.0 c.loop-low-test.true _ c.index-list-middle.is) (sym c.lt.ensures ∙ c.if-lt.true),
)

pub loop-low-preserved : goal.loop-low-preserved
loop-low-preserved g c = (
  omega arith,
  halving-down c.loop-low.invariant.1 c.loop-low-test.true _
      (in-middle _ _ _ _ _ c.loop-low.invariant.0 c.loop-low-test.true _ c.index-list-middle.is) (sym c.lt.ensures ∙ c.if-lt.false)
      (sym c.lt-else-lt.ensures ∙ c.if-lt-2.true),
)

pub returns-else-lt-2 : goal.returns-else-lt-2
returns-else-lt-2 g c =
    halving-here c.loop-low.invariant.1 c.loop-low-test.true _
    (in-middle _ _ _ _ _ c.loop-low.invariant.0 c.loop-low-test.true _ c.index-list-middle.is) (sym c.lt.ensures ∙ c.if-lt.false)
    (sym c.lt-else-lt.ensures ∙ c.if-lt-2.false)

pub returns : goal.returns
returns g c = halving-end c.loop-low.invariant.1 c.loop-low-test.false
