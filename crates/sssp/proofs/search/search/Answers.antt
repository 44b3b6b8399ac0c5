use mathlib.Core.Path.{refl, sym, ◌∙◌}
use native.Mathlib.Omega.{arith}
use Rattle.sssp.proofs.Turns.{turn-begin, turn-some, turn_low, turn-weighed, turn-less, turn_more, turn_end}
use Rattle.sssp.proofs.search.search.Goals as goal

pub loop-u-init : goal.loop-u-init
loop-u-init c =
    turn-begin _ _ _ _ _ _ _ _ _ _ refl c.requires.weighed_all c.requires.lent c.start.ensures.0 c.start.ensures.1

pub nearest-requires : goal.nearest-requires
nearest-requires c = record { played = c.loop-u.invariant.played; key_len = turn-some _ _ _ _ c.loop-u.invariant }

pub serve-requires-clause-weighed_part : goal.serve-requires-clause-weighed_part
serve-requires-clause-weighed_part c =
    turn-weighed _ _ _ _ c.loop-u.invariant c.in-Some.ensures c.requires.weighed_all c.neighbours-next.ensures c.neighbours-cost.ensures

pub serve-requires-clause-dist_len : goal.serve-requires-clause-dist_len
serve-requires-clause-dist_len c =
    let s = c.loop-u.invariant.serving in
    (s.dist_long ∙ sym s.key_long, omega (arith, turn_low _ _ _ _ c.loop-u.invariant c.in-Some.ensures, s.key_long), c.in-Some.ensures.1)

pub loop-u-smaller : goal.loop-u-smaller
loop-u-smaller c = turn-less _ _ _ _ c.loop-u.invariant c.in-Some.ensures c.serve.ensures.0

pub loop-u-preserved : goal.loop-u-preserved
loop-u-preserved c =
    turn_more _ _ _ _ c.loop-u.invariant c.in-Some.ensures c.serve.ensures.0 c.neighbours-next.ensures c.neighbours-cost.ensures
    c.serve.ensures.1

pub returns : goal.returns
returns c = turn_end _ _ _ _ c.loop-u.invariant c.in_default.ensures
