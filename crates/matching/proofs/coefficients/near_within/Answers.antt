use mathlib.Core.Path.{◌≡◌}
use Prim.Native.Nat.{◌^◌, ◌<◌}
use Rattle.std.proofs.lemmas.Result.{OkIff-at_err}
use Rattle.matching.proofs.DecimalLines.{near-above, near-below, near_within_lem}
use Rattle.matching.proofs.coefficients.near_within.Goals as goal

pub returns-in-Ok-Ok : goal.returns-in-Ok-Ok
returns-in-Ok-Ok c =
    let e : (c.args.a < 2 ^ 32) × (c.in-Ok-Ok.a ≡ c.args.a) = c.in-Ok-Ok.ensures in
    let f : (c.args.b < 2 ^ 32) × (c.in-Ok-Ok.b ≡ c.args.b) = c.in-Ok-Ok.ensures' in
    near_within_lem c.args.a c.args.b c.args.s e.0 f.0 c.close.result (rw (← e.1, ← f.1) c.close.ensures)

pub returns-in_default : goal.returns-in_default
returns-in_default c = near-below c.args.a c.args.b c.args.s c.in_default.ensures'

pub returns-in_default-2 : goal.returns-in_default-2
returns-in_default-2 c = near-above c.args.a c.args.b c.args.s (OkIff-at_err _ _ _ _ c.try_from.ensures c.in_default.is-0)
