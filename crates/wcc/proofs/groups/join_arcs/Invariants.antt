use mathlib.Core.Path.{◌≡◌}
use Rattle.graph.specs.Part.{part_of}
use Rattle.wcc.specs.Steps.{join_arcs}
use Rattle.wcc.proofs.groups.join_arcs.Given as goal

abbrev pub invariant-loop-u : goal.invariant-loop-u
invariant-loop-u l = l.entries ≡ join_arcs (part_of l.n l.way.offsets.now l.way.targets.now) l.u l.initial.entries
