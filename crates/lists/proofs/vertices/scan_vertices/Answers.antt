use native.Mathlib.Omega.{arith}
use borrow.Author.Rules.{rules}
use Rattle.lists.proofs.Handed.{handed_on}
use Rattle.lists.proofs.Runs.{listing_start, listing-moved, listing-more, listing-less, listing-refused, listing-lines}
use Rattle.lists.proofs.vertices.scan_vertices.Goals as goal

pub loop-z-init : goal.loop-z-init
loop-z-init c = listing_start _ _ _

pub returns-in_err-z : goal.returns-in_err-z
returns-in_err-z c =
    rw (handed_on _ c.from_residual.ensures.1) (listing-refused _ _ _ _ _ c.loop-z.invariant c.next_vertex.new.lines _ c.in_err-z.ensures)

pub overflow_sub-lines : goal.overflow_sub-lines
overflow_sub-lines c =
    let m = listing-moved _ _ _ _ _ c.loop-z.invariant _ _ (rw c.in-Some.is at c.in_ok-z.ensures) in
    omega (arith, m.counted)

pub loop-z-smaller : goal.loop-z-smaller
loop-z-smaller c = listing-less _ _ _ _ _ c.loop-z.invariant _ _ (rw c.in-Some.is at c.in_ok-z.ensures)

pub loop-z-preserved : goal.loop-z-preserved
loop-z-preserved c =
    listing-more _ _ _ _ _ c.loop-z.invariant _ _ (rw c.in-Some.is at c.in_ok-z.ensures) _ (search rules) _ c.put.ensures

pub returns : goal.returns
returns c = listing-lines _ _ _ _ _ c.loop-z.invariant _ (rw c.in_default.is at c.in_ok-z.ensures)
