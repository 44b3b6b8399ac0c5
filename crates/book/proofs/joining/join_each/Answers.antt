use borrow.Author.Rules.{rules}
use mathlib.Core.Path.{refl}
use native.Mathlib.Omega.{arith}
use Rattle.book.proofs.Walked.{lent-within}
use Rattle.book.proofs.Each.{each_none, not-empty, each-unlent, each-missing, walking_start}
use Rattle.book.proofs.Each.{behind-none, each-merged, each-already, each-refused, each-end}
use Rattle.book.proofs.joining.join_each.Goals as goal
use Rattle.book.proofs.joining.join_each.Goals.{in-Merged, in-Already}

pub returns-then-is_empty : goal.returns-then-is_empty
returns-then-is_empty c = each_none _ _ _ c.if-is_empty.ensures

pub returns-then-not-well_lent : goal.returns-then-not-well_lent
returns-then-not-well_lent c =
    let w = c.well_lent in
    rw c.at_first.ensures
    (each-unlent _ _ w.result w.ensures _ (not-empty _ c.if-is_empty.ensures) _ c.if-not-well_lent.true refl)

pub returns-then-entries-u : goal.returns-then-entries-u
returns-then-entries-u c =
    let w = c.well_lent in
    rw c.at_first-then-entries-u.ensures
    (each-missing _ _ w.result w.ensures _ (not-empty _ c.if-is_empty.ensures) _ c.if-not-well_lent.false c.if-entries-u.true refl)

pub walk-at-requires : goal.walk-at-requires
walk-at-requires c =
    let w = c.well_lent in
    (c.if-entries-u.false, lent-within _ w.result w.ensures c.if-not-well_lent.false)

pub loop-i-init : goal.loop-i-init
loop-i-init c =
    let w = c.well_lent in (
      omega arith,
      omega arith,
      refl,
      walking_start _ _ w.result w.ensures _ c.if-not-well_lent.false c.if-entries-u.false c.walk-at.ensures,
      behind-none _,
    )

pub loop-i-preserved : goal.loop-i-preserved
loop-i-preserved c =
    let l = c.loop-i in
    let walking = c.join_next.ensures.1 in
    elim c.match-joining.branch [
      | in-Merged w ↦
          let e = rw w.in-Merged.is at c.in-Ok.ensures.0 in (
            omega arith,
            omega arith,
            search rules,
            walking,
            rw w.merges-is (each-merged _ _ _ _ l.i l.merges l.invariant.4 c.loop-i-test.true _ e),
          )
      | in-Already w ↦
          let e = rw w.in-Already.is at c.in-Ok.ensures.0 in (
            omega arith,
            omega arith,
            search rules,
            walking,
            rw w.merges-is (each-already _ _ _ _ l.i l.merges l.invariant.4 c.loop-i-test.true _ e),
          )
    ]

pub returns-in-Err : goal.returns-in-Err
returns-in-Err c =
    let l = c.loop-i in
    each-refused _ _ _ _ l.i l.merges l.invariant.4 c.loop-i-test.true _ _ c.in-Err.ensures.0

pub returns : goal.returns
returns c = search each-end
