use mathlib.Core.Path.{sym, ◌∙◌}
use Rattle.lists.proofs.Fronts.{vertices-kept, vertices-cleared}
use Rattle.lists.proofs.vertices.read_vertices.Goals as goal

pub returns-then-is_err : goal.returns-then-is_err
returns-then-is_err c =
    vertices-cleared _ _ _ _ c.clear.ensures _ _ c.scan_vertices-listed.ensures (sym c.is_err.ensures.value ∙ c.if-is_err.true)
    c.scan_vertices-listed.auto.ids _ c.clear-then-is_err.ensures

pub returns-else-is_err : goal.returns-else-is_err
returns-else-is_err c =
    vertices-kept _ _ _ _ c.clear.ensures _ _ c.scan_vertices-listed.ensures (sym c.is_err.ensures.value ∙ c.if-is_err.false)
