use Rattle.verdicts.proofs.Kernels.{wcc-known, wcc-roomy, wcc-cleared, wcc-verdict}
use Rattle.verdicts.proofs.each.on_wcc.Goals as goal

pub numbers_on-requires : goal.numbers_on-requires
numbers_on-requires c =
    let e = c.wcc-answer.ensures in
    record {
      known = wcc-known _ _ _ e;
      roomy = (wcc-roomy _ _ _ e c.requires.roomy.0, c.requires.roomy.1, c.requires.roomy.2);
    }

pub returns : goal.returns
returns c = record {
  lines_after = search wcc-verdict;
  heads_after = search wcc-cleared;
}
