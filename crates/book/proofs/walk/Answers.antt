use mathlib.Core.Path.{refl, sym}
use native.Mathlib.Omega.{arith}
use Rattle.book.specs.Rules.{walk_from}
use Rattle.book.proofs.Walked.{loop-found, loop-late, loop-out, loop-moves}
use Rattle.book.proofs.walk.Goals as goal
use Rattle.book.proofs.walk.Goals.{else-loop-moves-test, then-loop-moves-test+else-is_head+then-entries-at}

pub loop-moves-init : goal.loop-moves-init
unfolding walk_from
loop-moves-init c = (c.requires.0, refl)

pub returns-then-is_head : goal.returns-then-is_head
returns-then-is_head c =
    let l = c.loop-moves in
    loop-found _ _ _ _ l.moves l.invariant.1 (omega arith) c.is_head.result c.is_head.ensures c.if-is_head.true

pub loop-moves-preserved : goal.loop-moves-preserved
loop-moves-preserved c =
    let l = c.loop-moves in
    (c.if-entries-at.false, loop-moves _ _ _ _ l.moves l.invariant.1 (omega arith) _ c.parent-at.ensures c.if-entries-at.false)

pub returns : goal.returns
returns c =
    let l = c.loop-moves in
    rw c.plain.ensures (sym (elim c.loop-moves-test.branch [
      | else-loop-moves-test w ↦ loop-late _ _ _ _ l.moves l.invariant.1 (omega arith)
      | then-loop-moves-test+else-is_head+then-entries-at w ↦
          loop-out _ _ _ _ l.moves l.invariant.1 (omega arith) _ w.parent-at.ensures w.if-entries-at.true
    ]))
