use mathlib.Core.Path.{◌∙◌}
use Rattle.lists.proofs.Handed.{handed_on, none-found}
use Rattle.lists.proofs.Reading.{edge-none, edge-bad, edge-fault, edge-unknown, edge_more}
use Rattle.lists.proofs.edges.next_edge.Goals as goal

pub returns-in_default : goal.returns-in_default
returns-in_default c = edge-none _ _ _ _ _ _ (rw c.in_default.is at c.edge-line.ensures)

pub returns-in_err-edge : goal.returns-in_err-edge
returns-in_err-edge c =
    rw (handed_on _ c.from_residual.ensures.1) (edge-bad _ _ _ _ _ _ _ (rw c.in-Some.is at c.edge-line.ensures) _ c.in_err-edge.ensures)

pub returns-in-Some-order_fault : goal.returns-in-Some-order_fault
returns-in-Some-order_fault c =
    edge-fault _ _ _ _ _ _ _ (rw c.in-Some.is at c.edge-line.ensures) _ c.in_ok-edge.ensures _ c.order_fault.ensures _
    c.in-Some-order_fault.is _ c.at.ensures

pub returns-in_err-ends : goal.returns-in_err-ends
returns-in_err-ends c =
    let k = none-found _ _ _ c.in_err-ends.ensures.value in
    rw (handed_on _ c.from_residual-in_err-ends.ensures.1)
    (edge-unknown _ _ _ _ _ _ _ (rw c.in-Some.is at c.edge-line.ensures) _ c.in_ok-edge.ensures _ c.order_fault.ensures
    c.in_default-order_fault.is _ c.look_up.ensures k.0 _ (k.1 ∙ c.at-2.ensures))

pub returns : goal.returns
returns c =
    edge_more _ _ _ _ _ _ _ (rw c.in-Some.is at c.edge-line.ensures) _ c.in_ok-edge.ensures _ c.order_fault.ensures
    c.in_default-order_fault.is _ c.look_up.ensures _ c.in_ok-ends.ensures.ok_part
