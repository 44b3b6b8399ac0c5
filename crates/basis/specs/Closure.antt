-- What a relation links, step by step, followed either way.
use Rattle.std.specs.Prelude.{ℕ}

-- the closure of a relation of numbers: a number is linked with itself, with one that it has the relation to, back the same way, and on
-- from there
pub data Linked (R : ℕ → ℕ → Type 0) : ℕ → ℕ → Type 0 where
  itself : (v : ℕ) → Linked R v v
  by : {u v : ℕ} → R u v → Linked R u v
  back : {u v : ℕ} → Linked R u v → Linked R v u
  on : {u v w : ℕ} → Linked R u v → Linked R v w → Linked R u w
