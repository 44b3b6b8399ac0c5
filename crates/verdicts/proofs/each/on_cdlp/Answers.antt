use mir.Facts.{to_z-of_z}
use Rattle.verdicts.proofs.Kernels.{cdlp-known, cdlp-roomy, cdlp-cleared, cdlp-verdict}
use Rattle.verdicts.proofs.each.on_cdlp.Goals as goal

pub numbers_on-requires : goal.numbers_on-requires
numbers_on-requires c =
    let e = c.cdlp-answer.ensures in
    let p = to_z-of_z c.ranges.iterations in
    record {
      known = cdlp-known _ _ p _ _ _ _ e;
      roomy = (cdlp-roomy _ _ p _ _ _ _ e c.requires.roomy.0, c.requires.roomy.1, c.requires.roomy.2);
    }

pub returns : goal.returns
returns c =
    let e = c.cdlp-answer.ensures in
    let p = to_z-of_z c.ranges.iterations in record {
      lines_after = cdlp-verdict _ _ p _ _ _ _ e c.requires.roomy.0 c.requires.roomy_2 _ _ _ _ c.numbers_on.ensures;
      labels_after = cdlp-cleared _ _ p _ _ _ _ e;
    }
