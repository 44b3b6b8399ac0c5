use Rattle.sheet.proofs.Whole.{mode-byte}
use Rattle.sheet.proofs.load_sections.Goals as goal

pub returns : goal.returns
returns c = rw (c.from.ensures, mode-byte c.args.plan.directed) at c.load_within.ensures
