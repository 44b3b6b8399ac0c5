use mathlib.Core.Path.{◌≡◌, refl, ap, ◌∙◌}
use native.Mathlib.Omega.{arith}
use lib.ListN.{length}
use Rattle.book.specs.Rules.{tally, is_stop}
use Rattle.book.specs.One.{next_here, one}
use Rattle.book.proofs.Tally.{tally-le}
use Rattle.book.proofs.Calls.{count-unlent, count_head, count-other, count-is}
use Rattle.book.proofs.readings.group_count.Goals as goal
use Rattle.book.proofs.readings.group_count.Goals.{then-is_head, else-is_head}

pub returns-then-not-well_lent : goal.returns-then-not-well_lent
unfolding one
returns-then-not-well_lent c = search count-unlent

pub loop-v-init : goal.loop-v-init
unfolding tally
loop-v-init c = refl

pub overflow_add-count : goal.overflow_add-count
overflow_add-count c = omega (arith, tally-le (λ v. is_stop (next_here c.args.entries.now v)) c.loop-v.v)

pub loop-v-preserved : goal.loop-v-preserved
loop-v-preserved c =
    let l = c.loop-v in
    let h = c.is_head in
    let next = next_here c.args.entries.now in
    elim c.if-is_head.branch [
      | then-is_head w ↦ omega (arith, l.invariant, count_head next l.v h.result h.ensures w.if-is_head.true)
      | else-is_head w ↦ omega (arith, l.invariant, count-other next l.v h.result h.ensures w.if-is_head.false)
    ]

pub returns : goal.returns
unfolding one
returns c =
    let l = c.loop-v in
    let q : l.v ≡ length c.args.entries.now = omega (arith, l.auto.v-end, c.loop-v-test.false) in
    count-is _ _ c.well_lent.ensures _ c.if-not-well_lent.false
    (l.invariant ∙ ap (tally (λ v. is_stop (next_here c.args.entries.now v))) q)
