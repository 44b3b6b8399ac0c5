use Rattle.verdicts.proofs.Fractions.{lcc-known, lcc-roomy, lcc-cleared, lcc-verdict}
use Rattle.verdicts.proofs.each.on_lcc.Goals as goal

pub terms_on-requires : goal.terms_on-requires
terms_on-requires c =
    let e = c.lcc-answer.ensures in
    let r = lcc-roomy _ _ _ _ e (c.requires.roomy.0, c.requires.roomy.1) in
    record {
      known = lcc-known _ _ _ _ e;
      roomy = (r.0, r.1, c.requires.roomy.2);
    }

pub returns : goal.returns
returns c =
    let e = c.lcc-answer.ensures in record {
      lines_after = lcc-verdict _ _ _ _ e c.requires.roomy.0 c.requires.roomy.1 c.requires.roomy_2 _ _ _ c.terms_on.ensures;
      work_after = lcc-cleared _ _ _ _ e;
    }
