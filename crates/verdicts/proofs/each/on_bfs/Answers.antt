use mir.Facts.{to_z-of_z}
use Rattle.verdicts.proofs.Kernels.{bfs-known, bfs-roomy, bfs-cleared, bfs-verdict}
use Rattle.verdicts.proofs.each.on_bfs.Goals as goal

pub numbers_on-requires : goal.numbers_on-requires
numbers_on-requires c =
    let e = c.bfs-answer.ensures in
    let p = to_z-of_z c.ranges.root in
    record {
      known = bfs-known _ _ p _ _ e;
      roomy = (bfs-roomy _ _ p _ _ e c.requires.roomy.0, c.requires.roomy.1, c.requires.roomy.2);
    }

pub returns : goal.returns
returns c = record {
  lines_after = search (bfs-verdict, to_z-of_z);
  queue_after = search (bfs-cleared, to_z-of_z);
}
