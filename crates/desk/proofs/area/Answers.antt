use Rattle.std.proofs.Common.{ℕ, sym}
use Rattle.std.proofs.lemmas.List.{length-replicate}
use Rattle.desk.proofs.area.Goals as goal

pub returns : goal.returns
returns c = sym (length-replicate {0} {A = ℕ} _ 0)
