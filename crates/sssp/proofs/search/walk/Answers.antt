use mathlib.Core.Path.{sym, ◌∙◌}
use native.Mathlib.Omega.{arith}
use Rattle.std.proofs.lemmas.Slice.Zip.{Zip-more, either_empty_from_Zip}
use Rattle.sssp.proofs.Walks.{arc-low, arc-light, walking-more, walking-end}
use Rattle.sssp.proofs.search.walk.Goals as goal

pub overflow_add-d : goal.overflow_add-d
overflow_add-d c =
    let z = Zip-more c.loop-w.w-iterator c.next.new.self _ _ c.in-Some.is c.next.ensures.steps in
    omega (arith, arc-light c.loop-w.invariant z.0 z.1)

pub relax-requires-clause-w_in_bounds : goal.relax-requires-clause-w_in_bounds
relax-requires-clause-w_in_bounds c =
    let z = Zip-more c.loop-w.w-iterator c.next.new.self _ _ c.in-Some.is c.next.ensures.steps in
    (arc-low c.loop-w.invariant z.0 z.1, c.requires.dist_len.0 ∙ sym c.loop-w.invariant.long)

pub loop-w-preserved : goal.loop-w-preserved
loop-w-preserved c =
    let z = Zip-more c.loop-w.w-iterator c.next.new.self _ _ c.in-Some.is c.next.ensures.steps in
    walking-more c.loop-w.invariant z.0 z.1 c.relax.ensures

pub returns : goal.returns
returns c = walking-end c.loop-w.invariant (either_empty_from_Zip c.loop-w.w-iterator c.next.new.self _ c.in-None.is c.next.ensures.steps)
