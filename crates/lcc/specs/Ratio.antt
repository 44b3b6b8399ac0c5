-- The rules "Kernels": "the fraction is in lowest terms by Euclid's rule".
use Rattle.std.specs.Prelude.{◌≡◌, ℕ, zero, suc, ◌/◌, ◌%◌}
use Rattle.std.specs.Int.{◌∣◌}
use Rattle.lcc.specs.declared.ratio.Ratio.{Ratio}

-- "in lowest terms": a number that divides both sides is 1
abbrev pub Lowest : Ratio → Type 0
Lowest r = (d : ℕ) → d ∣ r.numerator → d ∣ r.denominator → d ≡ 1

-- Euclid's rule, at most k steps of it
unfoldable pub euclid : ℕ → ℕ → ℕ → ℕ
euclid zero a b = a
euclid (suc k) a zero = a
euclid (suc k) a (suc b) = euclid k (suc b) (a % suc b)

-- the remainder falls, so b steps are enough
unfoldable pub gcd_of : ℕ → ℕ → ℕ
gcd_of a b = euclid b a b

-- a / b in lowest terms
unfoldable pub lowest : ℕ → ℕ → Ratio
lowest a b = record { numerator = a / gcd_of a b; denominator = b / gcd_of a b }
