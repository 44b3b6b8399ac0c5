use native.Mathlib.Omega.{arith}
use Rattle.book.specs.Rules.{write_book}
use Rattle.book.specs.Steps.{hang_one}
use Rattle.basis.proofs.Minus.{minus-fits, minus-again}
use mir.Syntax.{w64}
use mir.ValLaws.{to_z_pos}
use Rattle.book.proofs.joining.hang.Goals as goal

pub overflow_sub-entries : goal.overflow_sub-entries
overflow_sub-entries c = minus-fits c.args.total (omega arith)

pub returns : goal.returns
unfolding hang_one write_book
returns c =
    let t = c.requires.at_head.0 in
    simp (to_z_pos w64 c.args.top (omega (arith, t.lent, t.inside)), minus-again c.args.total (omega arith))
