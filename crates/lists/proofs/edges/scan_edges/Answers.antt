use Rattle.lists.proofs.Handed.{handed_on}
use Rattle.lists.proofs.Gathers.{gathering-start, gathering-some, gathering-few, gathering-more, gathering-less}
use Rattle.lists.proofs.Gathers.{gathering-refused, gathering-lines}
use Prim.Native.Nat.{◌<◌, ◌^◌}
use native.Mathlib.Omega.{arith}
use lib.ListN.{length}
use Rattle.lists.proofs.edges.scan_edges.Goals as goal

pub loop-u-init : goal.loop-u-init
loop-u-init c = search gathering-start

pub returns-in_err-u : goal.returns-in_err-u
returns-in_err-u c =
    rw (handed_on _ c.from_residual.ensures.1)
    (gathering-refused _ _ _ _ _ _ _ _ _ c.loop-u.invariant c.next_edge.new.lines _ c.in_err-u.ensures)

pub overflow_add-degree : goal.overflow_add-degree
overflow_add-degree c =
    let h : length c.args.s.now < 2 ^ 64 = omega arith in
    record {
      fits = gathering-few _ _ _ _ _ _ _ _ _ c.loop-u.invariant _ c.in-Some.u c.in-Some.v (rw c.in-Some.is at c.in_ok-u.ensures) _
          c.number_at-degree.ensures _ h;
    }

pub overflow_sub-lines : goal.overflow_sub-lines
overflow_sub-lines c = gathering-some _ _ _ _ _ _ _ _ _ c.loop-u.invariant _ c.in-Some.u c.in-Some.v (rw c.in-Some.is at c.in_ok-u.ensures)

pub loop-u-smaller : goal.loop-u-smaller
loop-u-smaller c = gathering-less _ _ _ _ _ _ _ _ _ c.loop-u.invariant _ c.in-Some.u c.in-Some.v (rw c.in-Some.is at c.in_ok-u.ensures)

pub loop-u-preserved : goal.loop-u-preserved
loop-u-preserved c =
    gathering-more _ _ _ _ _ _ _ _ _ c.loop-u.invariant _ c.in-Some.u c.in-Some.v (rw c.in-Some.is at c.in_ok-u.ensures) _
    c.number_at-degree.ensures _ c.put.ensures _ c.put-in-Some.ensures

pub returns : goal.returns
returns c = gathering-lines _ _ _ _ _ _ _ _ _ c.loop-u.invariant _ (rw c.in_default.is at c.in_ok-u.ensures)
