use native.Mathlib.Omega.{arith}
use Rattle.graph.proofs.Weighings.{weights-beside, weights-short, weights-short-back, weights-heavy, weights-heavy-back}
use Rattle.graph.proofs.Weighings.{weights-told}
use Rattle.graph.proofs.weights.weights_sound.Goals as goal

pub returns-then-g-m : goal.returns-then-g-m
returns-then-g-m c = search weights-short

pub returns-then-g-m-2 : goal.returns-then-g-m-2
returns-then-g-m-2 c = search weights-short-back

pub returns-then-not-all_light : goal.returns-then-not-all_light
returns-then-not-all_light c = search weights-heavy

pub returns-then-not-all_light-2 : goal.returns-then-not-all_light-2
returns-then-not-all_light-2 c = search weights-heavy-back

pub legs_searched-requires : goal.legs_searched-requires
legs_searched-requires c = search weights-beside

pub returns-then-cursors-g : goal.returns-then-cursors-g
returns-then-cursors-g c = search weights-told

pub legs_walked-requires : goal.legs_walked-requires
legs_walked-requires c = record {
  beside = search weights-beside;
  vertices_in_bounds = omega arith;
}

pub returns : goal.returns
returns c = search weights-told
