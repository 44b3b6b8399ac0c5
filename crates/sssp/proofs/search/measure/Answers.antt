use Rattle.sssp.proofs.Rounds.{signed_all}
use Rattle.sssp.proofs.search.measure.Goals as goal

pub sign-requires-clause-all_signed : goal.sign-requires-clause-all_signed
sign-requires-clause-all_signed c = search signed_all
