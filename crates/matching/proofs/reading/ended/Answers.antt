use native.Mathlib.Omega.{arith}
use Rattle.matching.proofs.Records.{end-missing, end_whole, end-stray}
use Rattle.matching.proofs.reading.ended.Goals as goal
use Rattle.matching.proofs.reading.ended.Goals.{else-is_none-via-then-is_none+else-contains, else-is_none-via-else-is_none}

pub returns-then-contains : goal.returns-then-contains
returns-then-contains c =
    end-missing c.args.lines.now c.args.n c.args.k c.requires c.contains.ensures.value c.args.stray c.if-is_none.ensures
    c.if-contains.true _ (omega arith)

pub returns : goal.returns
returns c =
    elim c.else-is_none.branch [
      | else-is_none-via-then-is_none+else-contains w ↦
          end_whole c.args.lines.now c.args.n c.args.k c.requires w.contains.ensures.value c.args.stray w.if-contains.false
      | else-is_none-via-else-is_none w ↦ end-stray c.args.lines.now c.args.n c.args.k c.args.stray w.if-is_none.ensures
    ]
