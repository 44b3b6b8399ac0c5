-- `chain n` is `LinkedAmong n`, among n vertices whose arcs stay among them. Assumes nothing.
use Prim.Native.Nat.{ℕ, zero, suc, ◌≤◌, ◌<◌}
use mathlib.Core.Path.{◌≡◌, refl, sym, subst}
use mathlib.Core.Logic.{◌⊎◌, inl, inr, ⊎_elim}
use mathlib.Core.Bool.{true, ◌&&◌, ◌||◌}
use mathlib.Core.List.{List}
use native.Mathlib.Nat.{not-suc-le-zero, le_of_suc-le-suc, eq-or-lt_of_le}
use native.Mathlib.Omega.{arith}
use lib.Dec.{eqb}
use borrow.Author.Tests.{eq-eqb, eqb-true}
use Rattle.basis.specs.Closure.{itself, by, back, on}
use Rattle.basis.specs.Scan.{Inside, mem}
use Rattle.basis.proofs.Tests.{and_first, and_second, and_both, or-first, or-second, or_cases}
use Rattle.basis.proofs.Scans.{below-mem}
use Rattle.wcc.specs.Component.{LinkedAmong, adjacent, chain}

module _ (out : ℕ → List ℕ) where
  adjacent-same : (u v : ℕ) → u ≡ v → adjacent out u v ≡ true
  unfolding adjacent
  adjacent-same u v e = or-first (eqb u v || mem v (out u)) (mem u (out v)) (or-first (eqb u v) (mem v (out u)) (eq-eqb u v e))

  adjacent-out : (u v : ℕ) → mem v (out u) ≡ true → adjacent out u v ≡ true
  unfolding adjacent
  adjacent-out u v a = or-first (eqb u v || mem v (out u)) (mem u (out v)) (or-second (eqb u v) (mem v (out u)) a)

  adjacent-in : (u v : ℕ) → mem u (out v) ≡ true → adjacent out u v ≡ true
  unfolding adjacent
  adjacent-in u v a = or-second (eqb u v || mem v (out u)) (mem u (out v)) a

  adjacent-cases : (u v : ℕ) → adjacent out u v ≡ true → ((u ≡ v) ⊎ (mem v (out u) ≡ true)) ⊎ (mem u (out v) ≡ true)
  unfolding adjacent
  adjacent-cases u v t =
      ⊎_elim (λ s. inl (⊎_elim (λ e. inl (eqb-true u v e)) inr (or_cases (eqb u v) (mem v (out u)) s))) inr
      (or_cases (eqb u v || mem v (out u)) (mem u (out v)) t)

  adjacent-back : (u v : ℕ) → adjacent out u v ≡ true → adjacent out v u ≡ true
  adjacent-back u v t = ⊎_elim (λ s. ⊎_elim (λ e. adjacent-same v u (sym e)) (adjacent-in v u) s) (adjacent-out v u) (adjacent-cases u v t)

  -- a chain goes through k or it doesn't
  chain-cases : (k u v : ℕ) → chain out (suc k) u v ≡ true
      → (chain out k u v ≡ true) ⊎ ((chain out k u k ≡ true) × (chain out k k v ≡ true))
  unfolding chain
  chain-cases k u v t =
      ⊎_elim inl (λ a. inr (and_first (chain out k u k) (chain out k k v) a, and_second (chain out k u k) (chain out k k v) a))
      (or_cases (chain out k u v) (chain out k u k && chain out k k v) t)

  chain_more : (k u v : ℕ) → chain out k u v ≡ true → chain out (suc k) u v ≡ true
  unfolding chain
  chain_more k u v t = or-first (chain out k u v) (chain out k u k && chain out k k v) t

  chain-via : (k u v : ℕ) → chain out k u k ≡ true → chain out k k v ≡ true → chain out (suc k) u v ≡ true
  unfolding chain
  chain-via k u v s t = or-second (chain out k u v) (chain out k u k && chain out k k v) (and_both s t)

  chain-base : (k u v : ℕ) → adjacent out u v ≡ true → chain out k u v ≡ true
  chain-base zero u v t = unfold chain in t
  chain-base (suc k) u v t = chain_more k u v (chain-base k u v t)

  chain_back : (k u v : ℕ) → chain out k u v ≡ true → chain out k v u ≡ true
  chain_back zero u v t = unfold chain in adjacent-back u v (unfold chain in t)
  chain_back (suc k) u v t =
      ⊎_elim (λ a. chain_more k v u (chain_back k u v a)) (λ a. chain-via k v u (chain_back k k v a.1) (chain_back k u k a.0))
      (chain-cases k u v t)

  to_last : (k u : ℕ) → chain out (suc k) u k ≡ true → chain out k u k ≡ true
  to_last k u t = ⊎_elim (λ a. a) (λ a. a.0) (chain-cases k u k t)

  from_last : (k v : ℕ) → chain out (suc k) k v ≡ true → chain out k k v ≡ true
  from_last k v t = ⊎_elim (λ a. a) (λ a. a.1) (chain-cases k k v t)

  -- two chains that meet below k are one
  chain-on : (k u w v : ℕ) → w < k → chain out k u w ≡ true → chain out k w v ≡ true → chain out k u v ≡ true
  chain-on zero u w v l p q = absurd (not-suc-le-zero l)
  chain-on (suc k) u w v l p q =
      ⊎_elim
      (λ e. chain-via k u v (to_last k u (subst (λ (x : ℕ). chain out (suc k) u x ≡ true) e p))
      (from_last k v (subst (λ (x : ℕ). chain out (suc k) x v ≡ true) e q)))
      (λ h.
      ⊎_elim
      (λ a. ⊎_elim (λ b. chain_more k u v (chain-on k u w v h a b)) (λ b. chain-via k u v (chain-on k u w k h a b.0) b.1)
      (chain-cases k w v q))
      (λ a. ⊎_elim (λ b. chain-via k u v a.0 (chain-on k k w v h a.1 b)) (λ b. chain-via k u v a.0 b.1) (chain-cases k w v q))
      (chain-cases k u w p))
      (eq-or-lt_of_le (le_of_suc-le-suc l))

  module _ (n : ℕ) where
    -- a chain of the definition links
    pub chain-linked : (k u v : ℕ) → k ≤ n → u < n → v < n → chain out k u v ≡ true → LinkedAmong n out u v
    chain-linked zero u v h l r t =
        ⊎_elim (λ s. ⊎_elim (λ e. subst (LinkedAmong n out u) e (itself u)) (λ a. by (l, a)) s) (λ a. back (by (r, a)))
        (adjacent-cases u v (unfold chain in t))
    chain-linked (suc k) u v h l r t =
        ⊎_elim
        (λ a. chain-linked k u v (omega arith) l r a)
        (λ a. on (chain-linked k u k (omega arith) l (omega arith) a.0) (chain-linked k k v (omega arith) (omega arith) r a.1))
        (chain-cases k u v t)

    module _ (inside : Inside n out) where
      -- links stay among the vertices
      pub linked-below : {u v : ℕ} → LinkedAmong n out u v → (u < n → v < n) × (v < n → u < n)
      linked-below (itself v) = (λ h. h, λ h. h)
      linked-below (by {u = u} {v = w} a) = (λ h. below-mem n (out u) (inside u a.0) w a.1, λ h. a.0)
      linked-below (back p) = let r = linked-below p in (r.1, r.0)
      linked-below (on p q) = let r = linked-below p in let s = linked-below q in (λ h. s.0 (r.0 h), λ h. r.1 (s.1 h))

      -- what is linked, a chain of the definition links
      pub linked-chain : {u v : ℕ} → LinkedAmong n out u v → u < n → chain out n u v ≡ true
      linked-chain (itself v) h = chain-base n v v (adjacent-same v v refl)
      linked-chain (by {u = u} {v = w} a) h = chain-base n u w (adjacent-out u w a.1)
      linked-chain (back {u = u} {v = v} p) h = chain_back n u v (linked-chain p ((linked-below p).1 h))
      linked-chain (on {u = u} {v = v} {w = w} p q) h =
          chain-on n u v w ((linked-below p).0 h) (linked-chain p h) (linked-chain q ((linked-below p).0 h))
