use Rattle.listing.specs.Listing.{pair_lines}
use Rattle.sheet.proofs.Ran.{cdlp-put}
use borrow.Author.Rules.{rules}
use Rattle.sheet.proofs.jobs.cdlp_job.Goals as goal

pub returns : goal.returns
returns c = cdlp-put _ _ _ _ _ _ _ _ _ _ _ (search rules) c.cdlp-x.ensures
    (c.put_answer.ensures (pair_lines c.args.g.ids.now c.cdlp-x.new.res) (λ o place next p h. search rules))
