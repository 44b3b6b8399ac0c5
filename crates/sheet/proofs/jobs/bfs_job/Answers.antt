use Rattle.listing.specs.Listing.{pair_lines}
use Rattle.sheet.proofs.Ran.{bfs-put}
use borrow.Author.Rules.{rules}
use Rattle.sheet.proofs.jobs.bfs_job.Goals as goal

pub returns : goal.returns
returns c = bfs-put _ _ _ _ _ _ _ _ _ (search rules) c.bfs-x.ensures
    (c.put_answer.ensures (pair_lines c.args.g.ids.now c.bfs-x.new.depth) (λ o place next p h. search rules))
