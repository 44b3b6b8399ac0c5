use Rattle.lists.proofs.Handed.{handed_on}
use Rattle.load.proofs.Loads.{fill-mode, fill-refused, fill-short, fill-storing, fill_end}
use mathlib.Core.Path.{refl}
use Rattle.load.proofs.fill.fill.Goals as goal

pub returns-in_err-undirected : goal.returns-in_err-undirected
returns-in_err-undirected c =
    let a = c.args in
    rw (handed_on _ c.from_residual.ensures.1)
    (fill-mode a.limits a.mode a.vertices.now a.edges.now a.ids.now a.out_offsets.now a.out_targets.now a.in_offsets.now
    a.in_sources.now _ c.in_err-undirected.ensures)

pub returns-in_err-n : goal.returns-in_err-n
returns-in_err-n c =
    let a = c.args in
    rw (handed_on _ c.from_residual-in_err-n.ensures.1)
    (fill-refused a.limits a.mode a.vertices.now a.edges.now a.ids.now a.out_offsets.now a.out_targets.now a.in_offsets.now
    a.in_sources.now _ c.in_ok-undirected.ensures _ _ c.in_err-n.ensures _ refl)

pub returns-then-not-has_places : goal.returns-then-not-has_places
returns-then-not-has_places c =
    let a = c.args in
    fill-short a.limits a.mode a.vertices.now a.edges.now a.ids.now a.out_offsets.now a.out_targets.now a.in_offsets.now
    a.in_sources.now _ c.in_ok-undirected.ensures _ _ c.in_ok-n.ensures _ refl _ c.read_vertices.auto.ids _ c.has_places.ensures
    c.if-not-has_places.true _ c.plain.ensures

pub store_edges-requires : goal.store_edges-requires
store_edges-requires c =
    let a = c.args in
    fill-storing a.limits a.mode a.vertices.now a.edges.now a.ids.now a.out_offsets.now a.out_targets.now a.in_offsets.now
    a.in_sources.now _ c.in_ok-undirected.ensures _ _ c.in_ok-n.ensures _ refl _ c.read_vertices.auto.ids _ c.has_places.ensures
    c.if-not-has_places.false _ refl

pub returns : goal.returns
returns c =
    let a = c.args in
    let l = c.store_edges.new in
    fill_end a.limits a.mode a.vertices.now a.edges.now a.ids.now a.out_offsets.now a.out_targets.now a.in_offsets.now
    a.in_sources.now _ c.in_ok-undirected.ensures _ _ c.in_ok-n.ensures _ refl _ c.read_vertices.auto.ids _ c.has_places.ensures
    c.if-not-has_places.false _ refl c.store_edges.result l.out_offsets l.out_targets l.in_offsets l.in_sources c.store_edges.ensures
