use mathlib.Core.Path.{refl}
use Rattle.lists.proofs.Handed.{handed_on}
use Rattle.load.proofs.Arranges.{arrange-refused, arrange-short, arrange-short-back, arrange-end}
use native.Mathlib.Omega.{arith}
use Rattle.load.proofs.fill.arrange.Goals.{then-lacks-via-then-lacks, then-lacks-via-else-lacks+then-lacks-2}
use Rattle.load.proofs.fill.arrange.Goals as goal

pub returns-in_err-m : goal.returns-in_err-m
returns-in_err-m c =
    let a = c.args in
    rw (handed_on _ c.from_residual.ensures.1)
    (arrange-refused _ _ _ _ a.offsets.now a.targets.now a.back.now a.sources.now c.requires _ _ _ c.in_err-m.ensures _ refl)

pub returns-then-lacks : goal.returns-then-lacks
returns-then-lacks c =
    let a = c.args in
    elim c.then-lacks.branch [
      | then-lacks-via-then-lacks w ↦
          arrange-short _ _ _ _ a.offsets.now a.targets.now a.back.now a.sources.now c.requires _ _ _ c.in_ok-m.ensures _ refl _
          c.read_edges.auto.targets _ c.lacks.ensures w.if-lacks.true _ c.plain.ensures
      | then-lacks-via-else-lacks+then-lacks-2 w ↦
          arrange-short-back _ _ _ _ a.offsets.now a.targets.now a.back.now a.sources.now c.requires _ _ _ c.in_ok-m.ensures _ refl _
          c.read_edges.auto.targets _ c.lacks.ensures w.if-lacks.false _ w.lacks-else-lacks.ensures w.if-lacks-2.true _ c.plain.ensures
    ]

pub returns : goal.returns
returns c =
    let a = c.args in
    arrange-end _ _ _ _ a.offsets.now a.targets.now a.back.now a.sources.now c.requires _ _ _
    c.in_ok-m.ensures _
    refl _ c.read_edges.auto.targets _ c.lacks.ensures c.if-lacks.false _ c.lacks-else-lacks.ensures c.if-lacks-2.false (omega arith) _
    c.sum_up.ensures _ _ _
    c.spread.ensures
