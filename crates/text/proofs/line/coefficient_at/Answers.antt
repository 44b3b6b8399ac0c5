use Rattle.text.specs.Scan.{scan_says}
use Rattle.text.proofs.Scans.{passed-on}
use Rattle.text.proofs.Lines.{two-none, two-bad, two-good}
use Rattle.text.proofs.Places.{field-inside}
use Rattle.text.proofs.line.coefficient_at.Goals as goal

pub returns-in_err-x : goal.returns-in_err-x
returns-in_err-x c = passed-on scan_says _ _ _ c.from_residual.ensures.1 (two-none _ _ _ _ c.in_err-x.ensures)

pub decimal_rest-requires : goal.decimal_rest-requires
decimal_rest-requires c = field-inside _ _ _ _ c.in_ok-x.ensures

pub returns-in_err-y : goal.returns-in_err-y
returns-in_err-y c = passed-on scan_says _ _ _ c.from_residual-in_err-y.ensures.1 (two-bad _ _ _ _ c.in_ok-x.ensures _ c.in_err-y.ensures)

pub returns : goal.returns
returns c = rw c.zip.ensures (two-good _ _ _ _ c.in_ok-x.ensures _ c.in_ok-y.ensures)
