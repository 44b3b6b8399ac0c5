-- The rules "The loaded graph": one vertex's part of a target area.
use Rattle.std.specs.Prelude.{ℕ, ◌+◌, cond, ◌&&◌, List, [], length, get_or, ltb, leb}
use Rattle.basis.specs.Area.{between}

-- the targets from one offset to the next; an empty part where the two "fall, or pass the target area"
unfoldable pub targets_between : List ℕ → ℕ → ℕ → List ℕ
targets_between targets from to = cond (leb from to && leb to (length targets)) (between from to targets) []

-- "one vertex's part of it, or an empty part where the number isn't below n or its two offsets are missing from the offsets area"
unfoldable pub part_of : ℕ → List ℕ → List ℕ → ℕ → List ℕ
part_of n offsets targets v =
    cond (ltb v n && ltb (v + 1) (length offsets)) (targets_between targets (get_or offsets v 0) (get_or offsets (v + 1) 0)) []
