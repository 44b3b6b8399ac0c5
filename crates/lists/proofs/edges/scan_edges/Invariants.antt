use Rattle.lists.proofs.Gathers.{Gathering}
use Prim.Native.Nat.{◌-◌}
use lib.ListN.{length}
use Rattle.graph.specs.Find.{bisected}
use Rattle.lists.proofs.edges.scan_edges.Given as goal

abbrev pub invariant-loop-u : goal.invariant-loop-u
invariant-loop-u l =
    Gathering l.s l.most l.undirected (bisected l.ids) l.initial.counts l.initial.targets l.lines l.counts l.targets

abbrev pub decreases-loop-u : goal.decreases-loop-u
decreases-loop-u l = length l.s - l.lines.at.at
