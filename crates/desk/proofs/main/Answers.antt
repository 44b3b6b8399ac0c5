-- `desk::main`: its areas have the room that `output` asks for. Assumes nothing.
use Prim.Native.Nat.{ℕ, ◌≤◌}
use mathlib.Core.Path.{◌≡◌, refl, sym}
use mathlib.Core.Bool.{true}
use mathlib.Core.List.{List}
use borrow.Author.Tests.{leb-true, ltb-true}
use lib.Dec.{leb, ltb}
use lib.ListN.{length}
use Rattle.plan.specs.Sheet.{most_bytes}
use Rattle.sheet.specs.Desk.{most_output}
use Rattle.desk.specs.Whole.{SheetAreas}
use Rattle.desk.proofs.main.Goals as goal

-- areas of j and k places have the room that `output` asks for, where these numbers are enough
sheet-areas : {n : ℕ} {bytes out : List ℕ} (j k : ℕ) → n ≤ length bytes → j ≡ length bytes → k ≡ length out
    → ltb most_bytes j ≡ true → leb most_output k ≡ true → SheetAreas n bytes out
sheet-areas j k h e f over room =
    record { inside = h; over = rw (← e) (ltb-true most_bytes j over); room = rw (← f) (leb-true most_output k room) }

pub output-requires : goal.output-requires
output-requires c = sheet-areas _ _ c.in_ok-n.ensures (sym c.read_full.auto.bytes) c.area-out.ensures refl refl
