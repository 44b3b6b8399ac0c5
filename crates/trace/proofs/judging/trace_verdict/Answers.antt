use mathlib.Core.Path.{refl}
use mir.Facts.{to_z-of_z}
use native.Mathlib.Omega.{arith}
use Rattle.trace.specs.Code.{narrow, Small}
use Rattle.trace.proofs.Hosts.{host-unknown, host-refused-small, host-refused, host-judged}
use Rattle.trace.proofs.judging.trace_verdict.Goals as goal

pub host_code-requires : goal.host_code-requires
host_code-requires c = rw c.plain.ensures (record { number = omega arith; file = omega arith; line = omega arith })

pub returns-then-not-is_known : goal.returns-then-not-is_known
returns-then-not-is_known c = search host-unknown

pub host_code-requires-in-Err : goal.host_code-requires-in-Err
host_code-requires-in-Err c =
    let s : Small narrow c.in-Err.r = search host-refused-small in
    record { number = omega arith; file = omega arith; line = omega arith }

pub returns-in-Err : goal.returns-in-Err
returns-in-Err c = search host-refused

pub returns-in-Ok : goal.returns-in-Ok
returns-in-Ok c =
    host-judged _ _ _ _ _ _ _ c.is_known.ensures
    c.if-not-is_known.false _ _ _ _ _ _
    c.in-Ok.ensures _ refl _
    (to_z-of_z c.ranges.parameter) _ (rw c.graph_of-g.ensures at c.judge_loaded.ensures)
