use Rattle.graph.proofs.weights.is_weighted.Goals as goal

pub returns-then-weighted : goal.returns-then-weighted
returns-then-weighted c = rw c.if-weighted.true
