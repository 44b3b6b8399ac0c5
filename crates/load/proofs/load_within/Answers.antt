use Rattle.load.proofs.Loads.{load-graph, load-refused}
use mathlib.Core.Path.{sym, ◌∙◌}
use Rattle.load.proofs.load_within.Goals as goal

pub returns-then-is_err : goal.returns-then-is_err
returns-then-is_err c =
    let a = c.args in
    let k = c.fill-filled.auto in
    load-refused _ a.mode a.vertices.now a.edges.now a.ids.now a.out_offsets.now a.out_targets.now
    a.in_offsets.now a.in_sources.now _ _ _ _ _ _ c.fill-filled.ensures _ c.capped.ensures
    (sym c.is_err.ensures.value ∙ c.if-is_err.true) k.ids k.out_offsets k.out_targets k.in_offsets k.in_sources _ _ _ _ _
    c.clear_all.ensures

pub returns-else-is_err : goal.returns-else-is_err
returns-else-is_err c =
    let a = c.args in
    load-graph _ a.mode a.vertices.now a.edges.now a.ids.now a.out_offsets.now a.out_targets.now
    a.in_offsets.now a.in_sources.now _ _ _ _ _ _ c.fill-filled.ensures _ c.capped.ensures
    (sym c.is_err.ensures.value ∙ c.if-is_err.false)
