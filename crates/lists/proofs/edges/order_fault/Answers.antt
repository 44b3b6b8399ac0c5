use mathlib.Core.Path.{◌≡◌}
use mathlib.Core.Bool.{false, ◌&&◌}
use lib.Signed.{lt_z}
use borrow.Author.Rules.{rules}
use Rattle.lists.proofs.Reading.{order-self, order-way, way-off, order-rises, order-falls}
use Rattle.lists.proofs.edges.order_fault.Goals.{else-undirected-via-then-undirected+else-less, else-undirected-via-else-undirected}
use Rattle.lists.proofs.edges.order_fault.Goals as goal

pub returns-then-same : goal.returns-then-same
returns-then-same c = search (order-self, rules)

pub returns-then-less : goal.returns-then-less
returns-then-less c = search (order-way, rules)

pub returns-then-is_above : goal.returns-then-is_above
returns-then-is_above c =
    let w : (c.args.undirected && lt_z c.args.edge.1 c.args.edge.0) ≡ false =
    elim c.else-undirected.branch [
      | else-undirected-via-then-undirected+else-less w ↦ search (way-off, rules, w.if-less.false)
      | else-undirected-via-else-undirected w ↦ rw w.if-undirected.false
    ] in
    search (order-rises, rules, w)

pub returns : goal.returns
returns c =
    let w : (c.args.undirected && lt_z c.args.edge.1 c.args.edge.0) ≡ false =
    elim c.else-undirected.branch [
      | else-undirected-via-then-undirected+else-less w ↦ search (way-off, rules, w.if-less.false)
      | else-undirected-via-else-undirected w ↦ rw w.if-undirected.false
    ] in
    search (order-falls, rules, w)
