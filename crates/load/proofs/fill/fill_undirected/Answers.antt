use mathlib.Core.Path.{refl}
use Rattle.lists.proofs.Handed.{handed_on}
use Rattle.load.proofs.Fills.{undirected-refused, undirected-fits, undirected-lines}
use native.Mathlib.Omega.{arith}
use Rattle.load.proofs.fill.fill_undirected.Goals as goal

pub overflow_add-arcs : goal.overflow_add-arcs
overflow_add-arcs c =
    omega (
      arith,
      undirected-fits _ _ _ _ _ _ _ c.requires.rise _ _ _ _ _
          c.in_ok-m.ensures _
          refl,
    )

pub returns-in_err-m : goal.returns-in_err-m
returns-in_err-m c =
    let l = c.arrange.new in
    rw (handed_on _ c.from_residual.ensures.1)
    (undirected-refused _ _ _ _ _ _ _ c.requires.rise _ l.offsets l.targets l.back l.sources c.in_err-m.ensures _ refl)

pub returns : goal.returns
returns c =
    undirected-lines _ _ _ _ _ _ _ c.requires.rise _ _ _ _ _ c.in_ok-m.ensures _ refl _ _ c.requires.back_places
    c.copy.ensures c.copy-2.ensures
