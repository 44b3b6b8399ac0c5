-- What a kernel leaves behind the values in a result area.
use Rattle.std.specs.Prelude.{ℕ, ◌≤◌, ◌≡◌, List, length, get_or}

-- "places beyond the ones used are zero": an area keeps its length, and from place n on z stands in it
pub record ZeroBehind {A : Type 0} (z : A) (n size : ℕ) (area : List A) : Type 0 where
  pub whole : length area ≡ size
  pub zeros : (i : ℕ) → n ≤ i → get_or area i z ≡ z
