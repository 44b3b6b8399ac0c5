-- Laws of the steps: a vertex that is met, and the walk over the arcs of one vertex. Assumes nothing.
use Prim.Native.Nat.{ℕ, ◌+◌, ◌≤◌, ◌<◌}
use mathlib.Core.Path.{◌≡◌, refl, sym, ap, ◌∙◌}
use mathlib.Core.Logic.{◌⊎◌, inl, inr}
use mathlib.Core.List.{List, [], ◌∷◌}
use native.Mathlib.Nat.{suc_inj}
use native.Mathlib.Decide.{dec_lt}
use native.Mathlib.Omega.{arith}
use lib.ListN.{length, set, length-set}
use lib.Dec.{leb, ltb}
use borrow.Author.Tests.{lt-ltb, le-ltb, leb-true}
use Rattle.basis.specs.Scan.{each}
use Rattle.basis.proofs.Tests.{and_second, no-case}
use Rattle.basis.proofs.Scans.{each_at, below_at}
use Rattle.basis.specs.Limits.{most_weight}
use Rattle.graph.specs.Weights.{legs}
use Rattle.sssp.specs.Tree.{Played, None, Replayed}
use Rattle.sssp.specs.Steps.{known_at, lowered, walked, WeighedPart}

-- ---- the two cases of a step
pub lowered-near : (dist key : List ℕ) (w d : ℕ) → d < known_at dist key w → set key w d ≡ lowered dist w d key
unfolding lowered
lowered-near dist key w d h = rw (lt-ltb d (known_at dist key w) h)

pub lowered-far : (dist key : List ℕ) (w d : ℕ) → known_at dist key w ≤ d → key ≡ lowered dist w d key
unfolding lowered
lowered-far dist key w d h = rw (le-ltb d (known_at dist key w) h)

lowered-length : (dist key : List ℕ) (w d : ℕ) → length (lowered dist w d key) ≡ length key
lowered-length dist key w d =
    elim (dec_lt d (known_at dist key w)) as (λ _. length (lowered dist w d key) ≡ length key) [
      | yes h ↦ rw (← lowered-near dist key w d h) (length-set key w d)
      | no h ↦ ap length (sym (lowered-far dist key w d (omega arith)))
    ]

pub relax-near : (dist key key' tree' : List ℕ) (w d x : ℕ) → x ≡ known_at dist key w → d < x → Replayed (set key w d) key' tree'
    → Replayed (lowered dist w d key) key' tree'
relax-near dist key key' tree' w d x e h r = record { same = r.same ∙ lowered-near dist key w d (omega arith); played = r.played }

pub relax-far : (dist key tree : List ℕ) (w d x : ℕ) → x ≡ known_at dist key w → x ≤ d → Played None key tree
    → Replayed (lowered dist w d key) key tree
relax-far dist key tree w d x e h p = record { same = lowered-far dist key w d (omega arith); played = p }

-- ---- the walk over a vertex's arcs, of which those to ws' that weigh cs' are left
pub record Walking (dist : List ℕ) (d : ℕ) (ws cs key₀ key tree ws' cs' : List ℕ) : Type 0 where
  pub played : Played None key tree
  pub long : length key ≡ length key₀
  pub left : WeighedPart (length key₀) ws' cs'
  pub rest : walked dist d (legs ws' cs') key ≡ walked dist d (legs ws cs) key₀

-- an arc to w that weighs c, and others
weighed-tail : {n w c : ℕ} {ws cs : List ℕ} → WeighedPart n (w ∷ ws) (c ∷ cs) → WeighedPart n ws cs
unfolding each
weighed-tail {n} {w} {c} p =
    record {
      low = and_second (ltb w n) _ p.low;
      long = suc_inj p.long;
      light = and_second (leb c most_weight) _ p.light;
    }

legs-none : (ws cs : List ℕ) → (ws ≡ []) ⊎ (cs ≡ []) → legs ws cs ≡ []
unfolding legs
legs-none [] cs h = refl
legs-none (w ∷ ws) cs (inl e) = no-case (let z : (w ∷ ws) ≡ [] = e in cc)
legs-none (w ∷ ws) cs (inr e) = rw e refl

module _ {dist : List ℕ} {d : ℕ} {ws cs key₀ key tree ws' cs' : List ℕ} (k : Walking dist d ws cs key₀ key tree ws' cs') where
  module _ {w c : ℕ} {us bs : List ℕ} (e : ws' ≡ w ∷ us) (f : cs' ≡ c ∷ bs) where
    weighed : WeighedPart (length key₀) (w ∷ us) (c ∷ bs)
    weighed = rw (e, f) at k.left

    pub arc-low : w < length key
    arc-low = let h = below_at (length key₀) (w ∷ us) weighed.low 0 (omega arith) in omega (arith, k.long)

    pub arc-light : c ≤ most_weight
    arc-light = leb-true c most_weight (each_at (λ c. leb c most_weight) 0 (c ∷ bs) weighed.light 0 (omega arith))

    pub walking-more : {key' tree' : List ℕ} → Replayed (lowered dist w (d + c) key) key' tree'
        → Walking dist d ws cs key₀ key' tree' us bs
    unfolding walked legs
    walking-more r =
        record {
          played = r.played;
          long = ap length r.same ∙ lowered-length dist key w (d + c) ∙ k.long;
          left = weighed-tail weighed;
          rest = ap (walked dist d (legs us bs)) r.same ∙ (rw (e, f) at k.rest);
        }

  pub walking-end : (ws' ≡ []) ⊎ (cs' ≡ []) → Replayed (walked dist d (legs ws cs) key₀) key tree
  unfolding walked
  walking-end h = record { same = ap (λ l. walked dist d l key) (sym (legs-none ws' cs' h)) ∙ k.rest; played = k.played }
