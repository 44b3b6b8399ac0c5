use native.Mathlib.Omega.{arith}
use Rattle.basis.proofs.Tests.{failed, held}
use Rattle.graph.proofs.Walks.{checks, checks-late}
use Rattle.graph.proofs.Steps.{sides-told, graph-sides, graph-ways}
use Rattle.graph.proofs.walk.sound_over.Goals as goal

pub returns-then-cursors-n : goal.returns-then-cursors-n
returns-then-cursors-n c = search checks

pub returns-then-not-sides_sound : goal.returns-then-not-sides_sound
returns-then-not-sides_sound c = search (checks, graph-sides, failed)

pub reversed-answer-requires : goal.reversed-answer-requires
reversed-answer-requires c = record {
  ways = sides-told _ _ _ _ _ _ (held _ _ c.sides_sound.ensures c.if-not-sides_sound.false);
  n_in_bounds = omega arith;
}

pub returns : goal.returns
returns c = search (checks-late, graph-ways, held)
