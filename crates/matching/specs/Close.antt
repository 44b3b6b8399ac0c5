-- Graphalytics, 2.4, "Epsilon match", and the rules "Claims and verdicts": when a decimal matches a fraction, over their exact values.
use Rattle.std.specs.Prelude.{ℕ, ◌+◌, ◌-◌, ◌*◌, ◌^◌, Bool, leb}
use Rattle.text.specs.declared.decimal.Decimal.{Decimal}

-- |x - y|, how far two numbers are from each other
abbrev pub distance : ℕ → ℕ → ℕ
distance x y = (x - y) + (y - x)

-- "10,000 times |r-s| at most r, with r the exact fraction and s the exact decimal":
-- r = a / b and s = digits * 10^up / 10^down, both sides times b * 10^down
unfoldable pub is_close : ℕ → ℕ → Decimal → Bool
is_close a b s = leb (10000 * distance (a * 10 ^ s.down) (b * (s.digits * 10 ^ s.up))) (a * 10 ^ s.down)
