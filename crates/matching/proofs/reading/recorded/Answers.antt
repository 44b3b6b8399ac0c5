use mir.Facts.{to_z-of_z}
use borrow.Author.Rules.{rules}
use Rattle.matching.proofs.Records.{found_below}
use Rattle.matching.proofs.reading.recorded.Goals as goal

pub offset_bounds-lines-v : goal.offset_bounds-lines-v
offset_bounds-lines-v c = search (rules, found_below, to_z-of_z, c.in_ok-v.was)

pub bounds-lines-v : goal.bounds-lines-v
bounds-lines-v c = search (found_below, to_z-of_z, c.in_ok-v.was)

pub offset_bounds-lines-v-2 : goal.offset_bounds-lines-v-2
offset_bounds-lines-v-2 c = search (rules, found_below, to_z-of_z, c.in_ok-v.was)

pub bounds-lines-v-2 : goal.bounds-lines-v-2
bounds-lines-v-2 c = search (found_below, to_z-of_z, c.in_ok-v.was)

pub returns-then-lines-v-ne0-clause-value : goal.returns-then-lines-v-ne0-clause-value
returns-then-lines-v-ne0-clause-value c = search rules
