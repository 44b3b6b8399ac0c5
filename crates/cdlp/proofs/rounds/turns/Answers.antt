use mathlib.Core.Path.{◌≡◌, refl, ◌∙◌}
use native.Mathlib.Omega.{arith}
use Rattle.graph.specs.Sound.{standing}
use Rattle.cdlp.specs.Steps.{Runnable}
use Rattle.cdlp.proofs.Turns.{runnable-on, round-on, round-none}
use Rattle.cdlp.proofs.rounds.turns.Goals as goal

pub loop-init : goal.loop-init
loop-init c = (refl, search round-none)

pub round-requires : goal.round-requires
round-requires c = search runnable-on

pub loop-preserved : goal.loop-preserved
loop-preserved c =
    let r : Runnable (standing c.args.g) c.loop.labels c.loop.next c.loop.counts = search runnable-on in
    (c.round.ensures.counts ∙ c.loop.invariant.0, search (round-on, r.room_labels))

pub returns : goal.returns
returns c = let e : c.loop.counter ≡ c.args.k = omega arith in cc
