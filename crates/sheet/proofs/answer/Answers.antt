use Rattle.sheet.proofs.Whole.{placed}
use Rattle.sheet.proofs.answer.Goals as goal

pub print_plan-requires : goal.print_plan-requires
print_plan-requires c = placed _ _ c.in-Ok.ensures
