-- The search over the areas: the vertex at the top of the tree is the next to be served. Assumes nothing.
use Prim.Native.Nat.{ℕ, ◌-◌, ◌≤◌, ◌<◌}
use mathlib.Core.Path.{◌≡◌, ap, ap₂, ◌∙◌}
use mathlib.Core.List.{List}
use native.Mathlib.Omega.{arith}
use lib.ListN.{length, get_or, set, replicate}
use Rattle.basis.specs.Area.{infinity}
use Rattle.graph.specs.Weights.{Leg, legs}
use Rattle.sssp.specs.Distance.{distances}
use Rattle.sssp.specs.Tree.{won, Played, None, Replayed}
use Rattle.sssp.specs.Steps.{settled, served, WeighedPart, WeighedAll, Lent}
use Rattle.sssp.proofs.Winners.{top_least, top-low}
use Rattle.sssp.proofs.Serving.{seen, Base, Serving, weighed-good, serving-begin, serving-more, serving-less, serving-end}

module _ (n : ℕ) (to cost : ℕ → List ℕ) (root : ℕ) where
  -- the arcs of a vertex, by the two views
  abbrev arcs : ℕ → List Leg
  arcs v = legs (to v) (cost v)

  -- the search goes on
  pub record Turn (dist key tree : List ℕ) : Type 0 where
    pub serving : Serving n arcs root dist key
    pub played : Played None key tree

  pub turn-begin : (dist₀ key₀ tree₀ dist key tree : List ℕ) → length dist₀ ≡ n → WeighedAll n to cost → Lent root dist₀ key₀ tree₀
      → dist ≡ replicate (length dist₀) infinity → Replayed (set (replicate (length key₀) infinity) root 0) key tree → Turn dist key tree
  turn-begin dist₀ key₀ tree₀ dist key tree q inside lent e r =
      let b : Base n arcs root = record {
        inside = λ v h. weighed-good n (to v) (cost v) (inside v h);
        there = omega
            (arith, lent.there);
        few = omega (arith, lent.few);
      } in
      let f : dist ≡ replicate n infinity = e ∙ ap (λ (m : ℕ). replicate m infinity) q in
      let g : key ≡ set (replicate n infinity) root 0 = r.same ∙ ap (λ (m : ℕ). set (replicate m infinity) root 0) (lent.keys ∙ q) in
      record { serving = rw (f, g) (serving-begin n arcs root b); played = r.played }

  module _ {dist key tree : List ℕ} (k : Turn dist key tree) where
    pub turn-some : 0 < length key
    turn-some = omega (arith, k.serving.key_long, k.serving.base.there)

    top : won tree 1 < n
    top = omega (arith, top-low key tree k.played turn-some, k.serving.key_long)

    least : (v : ℕ) → v < n → get_or key (won tree 1) 0 ≤ get_or key v 0
    least v h = top_least key tree k.played v (omega (arith, k.serving.key_long))

    pub turn_end : infinity ≤ get_or key (won tree 1) 0 → dist ≡ distances n arcs root
    turn_end o = serving-end n arcs root k.serving (λ v h. let a = least v h in omega arith)

    -- u is the nearest of the vertices that wait
    module _ {u : ℕ} (near : (u ≡ won tree 1) × (get_or key u 0 < infinity)) where
      pub turn_low : u < n
      turn_low = omega (arith, top, near.0)

      pub turn-weighed : WeighedAll n to cost → {ws cs : List ℕ} → ws ≡ to u → cs ≡ cost u → WeighedPart (length key) ws cs
      turn-weighed inside a b = rw (a, b, k.serving.key_long) (inside u turn_low)

      turn-least : (v : ℕ) → v < n → get_or key u 0 ≤ get_or key v 0
      turn-least v h = rw near.0 (least v h)

      module _ {dist' : List ℕ} (e : dist' ≡ settled u dist key) where
        pub turn-less : n - seen dist' < n - seen dist
        turn-less = rw e (serving-less n arcs root k.serving u turn_low turn-least near.1)

        pub turn_more : {ws cs key' tree' : List ℕ} → ws ≡ to u → cs ≡ cost u → Replayed (served (legs ws cs) u dist key) key' tree'
            → Turn dist' key' tree'
        turn_more {ws} {cs} a b r =
            let f : legs ws cs ≡ arcs u = ap₂ legs a b in
            record { serving = rw (e, r.same, f) (serving-more n arcs root k.serving u turn_low turn-least near.1); played = r.played }
