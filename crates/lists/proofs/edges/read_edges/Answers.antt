use mathlib.Core.Path.{sym, ◌∙◌}
use Rattle.lists.proofs.Fronts.{stays-clear, edges-kept, edges-cleared}
use Rattle.lists.proofs.edges.read_edges.Goals as goal

pub scan_edges-listed-requires : goal.scan_edges-listed-requires
scan_edges-listed-requires c = search stays-clear

pub returns-then-is_err : goal.returns-then-is_err
returns-then-is_err c =
    let l = c.scan_edges-listed in
    edges-cleared _ _ _ _ _ _ _ _ c.clear.ensures c.clear-2.ensures _ l.new.counts l.new.targets l.ensures
    (sym c.is_err.ensures.value ∙ c.if-is_err.true) l.auto.counts l.auto.targets _ _ c.clear-then-is_err.ensures
    c.clear-then-is_err-2.ensures

pub returns-else-is_err : goal.returns-else-is_err
returns-else-is_err c =
    edges-kept _ _ _ _ _ _ _ _ c.clear.ensures c.clear-2.ensures _ _ _ c.scan_edges-listed.ensures
    (sym c.is_err.ensures.value ∙ c.if-is_err.false)
