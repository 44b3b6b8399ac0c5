use Rattle.std.specs.Prelude.{Err}
use mathlib.Core.Path.{◌≡◌}
use native.Mathlib.Omega.{arith}
use borrow.Author.Rules.{rules}
use Rattle.matching.proofs.NumberLines.{numbers-none, numbers-next, numbers-end, numbers-fault, numbers-over}
use Rattle.matching.proofs.NumberLines.{numbers-full, named-within}
use Rattle.matching.proofs.reading.read_numbers.Goals as goal

pub loop-k-init : goal.loop-k-init
loop-k-init c = search numbers-none

pub returns-in_err-id : goal.returns-in_err-id
returns-in_err-id c =
    let e : c.from_residual.result ≡ Err c.in_err-id.field-0.0 = search rules in
    numbers-fault _ _ _ c.loop-k.invariant c.requires.ids_in_bounds.0 _ _ c.claim-line.ensures c.loop-k-test.true c.in_err-id.ensures e

pub returns-in_default : goal.returns-in_default
returns-in_default c =
    numbers-end _ _ _ c.loop-k.invariant c.requires.ids_in_bounds.0 _ _ c.claim-line.ensures c.in_ok-id.ensures c.in_default.is
    c.ended.ensures

pub keep-requires : goal.keep-requires
keep-requires c =
    named-within _ _ _ c.recorded-vertex.ensures.value _
    (omega (
      arith,
      c.loop-k.invariant.kept,
      c.requires.ids_in_bounds.0,
    ))

pub loop-k-preserved : goal.loop-k-preserved
loop-k-preserved c = search (numbers-next, rules, c.in_ok-id.ensures)

pub returns-then-cursor-claim : goal.returns-then-cursor-claim
returns-then-cursor-claim c = search numbers-over

pub returns : goal.returns
returns c = search numbers-full
