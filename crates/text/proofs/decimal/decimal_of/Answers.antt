use Rattle.text.proofs.Decimals.{decimal-from, decimal-on, decimal-within, decimal-is}
use Rattle.text.proofs.decimal.decimal_of.Goals as goal

pub overflow_sub-all : goal.overflow_sub-all
overflow_sub-all c = search decimal-on

pub parts-requires : goal.parts-requires
parts-requires c = (search decimal-from, search decimal-within)

pub returns : goal.returns
returns c = search decimal-is
