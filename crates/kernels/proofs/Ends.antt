-- How a kernel's call ends, by the code's tests in their order:
-- one law for each way, whatever the call leaves in its areas by what it says. Assumes nothing.
use Prim.Native.Nat.{ℕ}
use mathlib.Core.Path.{◌≡◌}
use mathlib.Core.Bool.{Bool, true, false}
use Rattle.basis.specs.Refusal.{Said, gives, refuses, plain, unsound, no_room}
use Rattle.basis.proofs.Tests.{failed, held}
use Rattle.kernels.specs.Answer.{kernel_says}

-- o is the outcome; s, a and r are what the code's tests of the graph, of the parameter and of the room answered
module _ {O : Type 0} (left : Said (Unit {0}) → O) (o : O) (sound given : Bool) (number : ℕ) (room : Bool) (s : Bool) (e : s ≡ sound) where
  pub ends-unsound : s ≡ false → o ≡ left (refuses (plain unsound)) → o ≡ left (kernel_says sound given number room)
  unfolding kernel_says
  ends-unsound h q = rw (failed s sound e h) q

  module _ (h : s ≡ true) (a : Bool) (f : a ≡ given) where
    pub ends-refused : a ≡ false → o ≡ left (refuses (plain number)) → o ≡ left (kernel_says sound given number room)
    unfolding kernel_says
    ends-refused k q = rw (held s sound e h, failed a given f k) q

    module _ (k : a ≡ true) (r : Bool) (i : r ≡ room) where
      pub ends-short : r ≡ false → o ≡ left (refuses (plain no_room)) → o ≡ left (kernel_says sound given number room)
      unfolding kernel_says
      ends-short l q = rw (held s sound e h, held a given f k, failed r room i l) q

      pub ends-done : r ≡ true → o ≡ left (gives tt) → o ≡ left (kernel_says sound given number room)
      unfolding kernel_says
      ends-done l q = rw (held s sound e h, held a given f k, held r room i l) q
