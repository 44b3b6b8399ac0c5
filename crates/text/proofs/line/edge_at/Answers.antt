use borrow.Author.Rules.{rules}
use Rattle.text.specs.Scan.{scan_says}
use Rattle.text.proofs.Scans.{passed-on}
use Rattle.text.proofs.Lines.{two-none, two-bad, two-both}
use Rattle.text.proofs.line.edge_at.Goals as goal

pub returns : goal.returns
returns c = rw c.zip.ensures (two-both _ _ _ _ c.in_ok-x.ensures _ (search rules))

pub returns-in_err-x : goal.returns-in_err-x
returns-in_err-x c = passed-on scan_says _ _ _ c.from_residual.ensures.1 (two-none _ _ _ _ c.in_err-x.ensures)

pub returns-in_err-y : goal.returns-in_err-y
returns-in_err-y c = passed-on scan_says _ _ _ c.from_residual-in_err-y.ensures.1 (two-bad _ _ _ _ c.in_ok-x.ensures _ (search rules))
