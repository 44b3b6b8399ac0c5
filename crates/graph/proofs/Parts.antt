-- Laws of a vertex's part: by the tests that the code makes. Assumes nothing.
use Prim.Native.Nat.{ℕ, ◌+◌, ◌-◌, ◌≤◌, ◌<◌}
use mathlib.Core.Path.{◌≡◌, refl}
use mathlib.Core.Bool.{false}
use mathlib.Core.List.{List, []}
use lib.ListN.{length, get_or, take, drop}
use lib.Dec.{ltb, leb}
use borrow.Author.Tests.{lt-ltb, le-ltb, le-leb, lt-leb}
use Rattle.basis.proofs.Tests.{and-off}
use Rattle.graph.specs.Part.{targets_between, part_of}

module _ (n : ℕ) (off tgt : List ℕ) (v : ℕ) where
  pub part-far : n ≤ v → [] ≡ part_of n off tgt v
  unfolding part_of
  part-far h = rw (le-ltb v n h)

  pub part-missing : length off ≤ v + 1 → [] ≡ part_of n off tgt v
  unfolding part_of
  part-missing h = rw (le-ltb (v + 1) (length off) h, and-off (ltb v n) false refl)

  module _ (h : v < n) (g : v + 1 < length off) where
    part-between : part_of n off tgt v ≡ targets_between tgt (get_or off v 0) (get_or off (v + 1) 0)
    unfolding part_of
    part-between = rw (lt-ltb v n h, lt-ltb (v + 1) (length off) g)

    pub part_falls : get_or off (v + 1) 0 < get_or off v 0 → [] ≡ part_of n off tgt v
    unfolding targets_between
    part_falls k = rw (part-between, lt-leb (get_or off v 0) (get_or off (v + 1) 0) k)

    pub part-passes : length tgt < get_or off (v + 1) 0 → [] ≡ part_of n off tgt v
    unfolding targets_between
    part-passes k =
        rw (part-between, lt-leb (get_or off (v + 1) 0) (length tgt) k, and-off (leb (get_or off v 0) (get_or off (v + 1) 0)) false refl)

    pub part-whole : get_or off v 0 ≤ get_or off (v + 1) 0 → get_or off (v + 1) 0 ≤ length tgt
        → take (get_or off (v + 1) 0 - get_or off v 0) (drop (get_or off v 0) tgt) ≡ part_of n off tgt v
    unfolding targets_between
    part-whole k l = rw (part-between, le-leb (get_or off v 0) (get_or off (v + 1) 0) k, le-leb (get_or off (v + 1) 0) (length tgt) l)
