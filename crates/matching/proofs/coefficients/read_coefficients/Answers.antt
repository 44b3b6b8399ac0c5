use Rattle.std.specs.Prelude.{Err}
use mathlib.Core.Path.{◌≡◌, refl}
use native.Mathlib.Omega.{arith}
use borrow.Author.Rules.{rules}
use Rattle.matching.proofs.NumberLines.{named-within}
use Rattle.matching.proofs.DecimalLines.{decimals-none, decimals-reportable, decimals-next, decimals-end, decimals-fault}
use Rattle.matching.proofs.DecimalLines.{decimals-over, decimals-full}
use Rattle.matching.proofs.coefficients.read_coefficients.Goals as goal

pub loop-k-init : goal.loop-k-init
loop-k-init c = search decimals-none

pub verdict_of-requires : goal.verdict_of-requires
verdict_of-requires c =
    decimals-reportable _ _ _ _ _ c.loop-k.invariant c.requires.ids_in_bounds_2.0 (omega arith) _ refl _ _ c.ended.ensures refl

pub returns-in_err-id : goal.returns-in_err-id
returns-in_err-id c =
    let e : c.from_residual.result ≡ Err c.in_err-id.field-0.0 = search rules in
    decimals-fault _ _ _ _ _ c.loop-k.invariant _ _ c.coefficient_claim-line.ensures c.loop-k-test.true c.in_err-id.ensures e

pub returns-in_default : goal.returns-in_default
returns-in_default c =
    decimals-end _ _ _ _ _ c.loop-k.invariant _ _ c.coefficient_claim-line.ensures c.in_ok-id.ensures c.in_default.is _ c.ended.ensures _
    c.verdict_of.ensures

pub measured-far-requires : goal.measured-far-requires
measured-far-requires c = search (named-within, rules)

pub loop-k-preserved : goal.loop-k-preserved
loop-k-preserved c = search (decimals-next, rules, c.in_ok-id.ensures)

pub returns-then-cursor-claim : goal.returns-then-cursor-claim
returns-then-cursor-claim c = search decimals-over

pub verdict_of-requires-2 : goal.verdict_of-requires-2
verdict_of-requires-2 c =
    decimals-reportable _ _ _ _ _ c.loop-k.invariant c.requires.ids_in_bounds_2.0 (omega arith) _ (omega arith) _ _ c.ended-2.ensures refl

pub returns : goal.returns
returns c = search decimals-full
