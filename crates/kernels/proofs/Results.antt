-- What stands in a result area: the values, and zeros behind them. Assumes nothing.
use Prim.Native.Nat.{ℕ, ◌+◌, ◌-◌, ◌≤◌, ◌<◌}
use mathlib.Core.Path.{◌≡◌, ap, ap₂, ◌∙◌}
use mathlib.Core.List.{List, ◌++◌}
use native.Mathlib.Omega.{arith}
use lib.ListN.{length, get_or, take, drop, replicate, get_or-append}
use lib.Seq.{get_or-append-add, length_front}
use Rattle.basis.specs.Area.{pad_with, cleared}
use Rattle.basis.proofs.Areas.{pad-length, pad-lent, replicate-at}
use Rattle.kernels.specs.Result.{ZeroBehind}

module _ {A : Type 0} (z : A) (n size : ℕ) (l : List A) (e : length l ≡ n) (room : n ≤ size) where
  pub pad-value : (v : ℕ) → v < n → get_or (pad_with z size l) v z ≡ get_or l v z
  pad-value v h = get_or-append l (replicate (size - length l) z) z v (omega arith)

  pub pad-behind : ZeroBehind z n size (pad_with z size l)
  pad-behind =
      record {
        whole = pad-length z size l (omega arith);
        zeros = λ i h.
            let k : i ≡ length l + (i - length l) = omega arith in
            ap (λ (j : ℕ). get_or (pad_with z size l) j z) k ∙ get_or-append-add l (replicate (size - length l) z) (i - length l) z
            ∙ replicate-at z (size - length l) (i - length l);
      }

-- the first n places of an area d, filled with z, were lent and hold the values l: z stands behind them
pub front-padded : {A : Type 0} (z : A) (n : ℕ) (d e l x : List A) → length l ≡ n → e ≡ replicate (length d) z → x ≡ l
    → x ++ drop n e ≡ pad_with z (length d) l
front-padded z n d e l x h p q = ap₂ (λ s t. s ++ drop n t) q p ∙ pad-lent z n (length d) l h

-- zeros throughout, whatever the first n places of an area held
pub front-cleared : (n : ℕ) (d x : List ℕ) → length x ≡ length (take n d) → cleared (x ++ drop n d) ≡ cleared d
front-cleared n d x e = ap (λ (k : ℕ). replicate k 0) (length_front d x n e)
