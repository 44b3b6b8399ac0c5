use Rattle.lists.proofs.Handed.{handed_on}
use Rattle.load.proofs.Fills.{directed-refused, directed-lines}
use mathlib.Core.Path.{refl}
use Rattle.load.proofs.fill.fill_directed.Goals as goal

pub returns-in_err-arcs : goal.returns-in_err-arcs
returns-in_err-arcs c =
    let l = c.arrange.new in
    rw (handed_on _ c.from_residual.ensures.1)
    (directed-refused _ _ _ _ _ _ _ _ l.offsets l.targets l.back l.sources c.in_err-arcs.ensures _ refl)

pub returns : goal.returns
returns c = directed-lines _ _ _ _ _ _ _ _ _ _ _ _ c.in_ok-arcs.ensures _ refl
