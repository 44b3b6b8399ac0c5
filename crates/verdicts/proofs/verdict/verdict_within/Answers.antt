use mir.Facts.{to_z-of_z}
use Rattle.kernels.specs.declared.Kernel.TheVariants.{Bfs, Wcc, Cdlp, Lcc, Sssp}
use Rattle.verdicts.proofs.Calls.{roomy, named-as, named-none, verdict-unknown, verdict-sssp, verdict-bfs, verdict-wcc, verdict-cdlp}
use Rattle.verdicts.proofs.Calls.{verdict-lcc}
use Rattle.verdicts.proofs.verdict.verdict_within.Goals as goal

pub on_bfs-requires : goal.on_bfs-requires
on_bfs-requires c =
    let h = roomy _ _ _ _ _ _ _ c.has_room-room.ensures in
    record {
      roomy = (h.0.0, h.0.1, h.2);
      roomy_2 = h.1.0;
    }

pub returns-in-Ok-Bfs : goal.returns-in-Ok-Bfs
returns-in-Ok-Bfs c =
    verdict-bfs _ _ _ _ _ _ _ _ _ _ _ c.has_room-room.ensures (to_z-of_z c.ranges.parameter)
    (named-as _ _ c.try_from.ensures Bfs c.in-Ok-Bfs.is c.in-Ok-Bfs.field-0-is) c.on_bfs.ensures.lines_after c.on_bfs.ensures.queue_after
    c.clear.ensures c.clear-in-Ok-Bfs.ensures

pub on_wcc-requires : goal.on_wcc-requires
on_wcc-requires c =
    let h = roomy _ _ _ _ _ _ _ c.has_room-room.ensures in
    record {
      roomy = (h.0.0, h.0.1, h.2);
      roomy_2 = h.1.0;
    }

pub returns-in-Ok-Wcc : goal.returns-in-Ok-Wcc
returns-in-Ok-Wcc c =
    verdict-wcc _ _ _ _ _ _ _ _ _ _ _ c.has_room-room.ensures
    (named-as _ _ c.try_from.ensures Wcc c.in-Ok-Wcc.is c.in-Ok-Wcc.field-0-is) c.on_wcc.ensures.lines_after c.on_wcc.ensures.heads_after
    c.clear-in-Ok-Wcc.ensures c.clear-in-Ok-Wcc-2.ensures

pub on_cdlp-requires : goal.on_cdlp-requires
on_cdlp-requires c =
    let h = roomy _ _ _ _ _ _ _ c.has_room-room.ensures in
    record {
      roomy = (h.0.0, h.0.1, h.2);
      roomy_2 = h.1;
    }

pub returns-in-Ok-Cdlp : goal.returns-in-Ok-Cdlp
returns-in-Ok-Cdlp c =
    verdict-cdlp _ _ _ _ _ _ _ _ _ _ _ c.has_room-room.ensures (to_z-of_z c.ranges.parameter)
    (named-as _ _ c.try_from.ensures Cdlp c.in-Ok-Cdlp.is c.in-Ok-Cdlp.field-0-is) c.on_cdlp.ensures.lines_after
    c.on_cdlp.ensures.labels_after

pub on_lcc-requires : goal.on_lcc-requires
on_lcc-requires c =
    let h = roomy _ _ _ _ _ _ _ c.has_room-room.ensures in
    record {
      roomy = (h.1.0, h.1.1, h.2);
      roomy_2 = h.1.2;
    }

pub returns-in-Ok-Lcc : goal.returns-in-Ok-Lcc
returns-in-Ok-Lcc c =
    verdict-lcc _ _ _ _ _ _ _ _ _ _ _ c.has_room-room.ensures
    (named-as _ _ c.try_from.ensures Lcc c.in-Ok-Lcc.is c.in-Ok-Lcc.field-0-is) c.on_lcc.ensures.lines_after c.clear-in-Ok-Lcc.ensures
    c.clear-in-Ok-Lcc-2.ensures c.on_lcc.ensures.work_after

pub returns-in-Ok-Sssp : goal.returns-in-Ok-Sssp
returns-in-Ok-Sssp c =
    verdict-sssp _ _ _ _ _ _ _ _ _ _ _ (named-as _ _ c.try_from.ensures Sssp c.in-Ok-Sssp.is c.in-Ok-Sssp.field-0-is)
    c.refuse_unknown.ensures

pub returns-in-Err : goal.returns-in-Err
returns-in-Err c =
    let n = named-none _ _ c.try_from.ensures c.in-Err.is in
    verdict-unknown _ _ _ _ _ _ _ _ _ _ _ (n Bfs) (n Wcc) (n Cdlp) (n Lcc) c.refuse_unknown-in-Err.ensures
