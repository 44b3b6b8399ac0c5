-- `desk::output`: what stands in the area behind `answer` is all that the sheet prints. Assumes nothing.
use Prim.Native.Nat.{ℕ, ◌≤◌}
use mathlib.Core.Path.{◌≡◌, sym, ap, ◌∙◌}
use mathlib.Core.List.{List}
use native.Mathlib.Omega.{arith}
use lib.ListN.{length, take}
use lib.Seq.{length-take-le}
use Rattle.write.specs.Put.{Written, written, put_at}
use Rattle.write.proofs.Puts.{put-length}
use Rattle.sheet.specs.Desk.{desk_output}
use Rattle.sheet.proofs.Room.{output-whole, cut-prints, output-fits}
use Rattle.desk.specs.Whole.{SheetAreas, Whole}
use Rattle.desk.proofs.output.Goals as goal

module _ (n : ℕ) (bytes out : List ℕ) (r : SheetAreas n bytes out) {o' : List ℕ} {p : ℕ}
    (w : written o' p ≡ put_at out 0 (desk_output (take n bytes))) where
  whole : Whole n bytes (take p o')
  whole sheet e = (output-whole (take n bytes) out w r.room).1 ∙ ap desk_output e ∙ cut-prints (length bytes) sheet r.over

  inside : p ≤ length o'
  inside =
      let same : length o' ≡ length out = ap (λ (x : Written). length x.area) w ∙ put-length out 0 (desk_output (take n bytes)) in
      omega (arith, (output-whole (take n bytes) out w r.room).0, output-fits (take n bytes), r.room)

pub slice_bounds-result-end : goal.slice_bounds-result-end
slice_bounds-result-end c = sym (length-take-le _ _ (inside _ _ _ c.requires c.answer-m.ensures))

pub returns : goal.returns
returns c = whole _ _ _ c.requires c.answer-m.ensures
