-- The first vertex of a component. Assumes nothing.
use Prim.Native.Nat.{ℕ, ◌≤◌, ◌<◌}
use mathlib.Core.Path.{◌≡◌, sym, subst}
use mathlib.Core.Logic.{◌↔◌}
use mathlib.Core.List.{List}
use native.Mathlib.Decide.{dec_lt}
use native.Mathlib.Omega.{arith}
use Rattle.basis.specs.Closure.{itself, back, on}
use Rattle.basis.specs.Scan.{Inside}
use Rattle.basis.proofs.Firsts.{First, first-is}
use Rattle.wcc.specs.Component.{LinkedAmong, chain, first}
use Rattle.wcc.proofs.Chains.{chain-linked, linked-chain}

module _ (n : ℕ) (out : ℕ → List ℕ) (inside : Inside n out) where
  first_of : (v : ℕ) → v < n → First (λ u. chain out n u v) 0 v (first n out v)
  unfolding first
  first_of v l = first-is (λ u. chain out n u v) n 0 v (omega arith) (omega arith) (linked-chain out n inside (itself v) l)

  pub first_below : (v : ℕ) → v < n → first n out v < n
  first_below v l = omega (arith, (first_of v l).most)

  pub first-linked : (v : ℕ) → v < n → LinkedAmong n out (first n out v) v
  first-linked v l = chain-linked out n n (first n out v) v (omega arith) (first_below v l) l (first_of v l).passes

  pub first-least : (u v : ℕ) → u < n → v < n → LinkedAmong n out u v → first n out v ≤ u
  first-least u v k l p = go (dec_lt u (first n out v))
    where
      go : Dec (u < first n out v) → first n out v ≤ u
      go (yes a) = absurd ((first_of v l).least u (omega arith) a (linked-chain out n inside p k))
      go (no a) = omega arith

  -- two vertices have one first vertex exactly where they are linked
  pub first-same : (u v : ℕ) → u < n → v < n → (first n out u ≡ first n out v) ↔ LinkedAmong n out u v
  first-same u v k l = (
    λ e. on (back (first-linked u k)) (subst (λ (x : ℕ). LinkedAmong n out x v) (sym e) (first-linked v l)),
    λ p.
        let a = first-least (first n out u) v (first_below u k) l (on (first-linked u k) p) in
        let b = first-least (first n out v) u (first_below v l) k (on (first-linked v l) (back p)) in
        omega arith,
  )
