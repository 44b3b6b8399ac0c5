-- Laws of storing the edges of a file: both pairs of areas as the edges say. Assumes nothing.
use Rattle.std.specs.Prelude.{Result, Ok, Err}
use Prim.Native.Nat.{ℕ, ◌+◌, ◌-◌, ◌≤◌, ◌<◌}
use mathlib.Core.Path.{◌≡◌, refl, sym, ap, ap₂, ◌∙◌}
use mathlib.Core.Bool.{Bool, true, false}
use mathlib.Core.List.{List, [], ◌∷◌, ◌++◌}
use native.Mathlib.Omega.{arith}
use native.Mathlib.Numerals.{add-one}
use borrow.Author.Tests.{lt-ltb, ltb-true, ltb-false, le-leb, lt-leb}
use lib.ListN.{length, take, drop, replicate}
use lib.Seq.{take_all}
use lib.Dec.{leb, ltb}
use lib.IntN.{ℤ}
use Rattle.basis.specs.Refusal.{Said, said, gives, refuses, plain, no_room, mapped}
use Rattle.basis.specs.declared.refusal.Refusal.{Refusal}
use Rattle.basis.specs.Area.{pad}
use Rattle.basis.specs.Scan.{each}
use Rattle.basis.proofs.Tests.{and-off, and_both}
use Rattle.basis.proofs.Saids.{mapped-gives, mapped-refuses}
use Rattle.graph.specs.Arcs.{Arc, arcs, parts, start, offsets, seconds, bumps}
use Rattle.graph.specs.Find.{place_in, bisected}
use Rattle.graph.proofs.Arcs.{length-seconds}
use Rattle.store.specs.Held.{held, EndsBelow, in_arcs, held_in_offsets, held_in_sources}
use Rattle.store.specs.Steps.{largest_number, sums, degrees, Below}
use Rattle.store.specs.Spread.{arc_count, held_fit, Spread, spread_left, spread_call}
use Rattle.store.proofs.Arcs.{bumps-degrees, degrees-none, sums-degrees, start-length}
use Rattle.store.proofs.Passes.{length-backward}
use Rattle.store.proofs.Fits.{arc-count}
use Rattle.store.proofs.Order.{Valid, valid-ends}
use Rattle.store.proofs.Built.{offsets-length, parts-seconds, held-built}
use Rattle.lists.specs.Files.{edges_of, all_numbered}
use Rattle.lists.specs.Calls.{EdgesRead, edge_outcome, counts_area, targets_area, edge_call}
use Rattle.lists.proofs.Lookups.{same_edges, same-numbered, length-numbered}
use Rattle.load.specs.Load.{arc_room, listed_arcs}
use Rattle.load.specs.Steps.{edges_read, Arranged, arranged, arranged_by, Storing}
use Rattle.load.proofs.Valids.{valid-file}

-- ---- lengths of edges and arcs
edges-fewer : (undirected : Bool) (m : ℕ) → m ≤ arc_count undirected m
edges-fewer true m = omega arith
edges-fewer false m = omega arith

-- "it stores two arcs": at the most
pub arcs-few : (undirected : Bool) (ids : List ℤ) (es : List (ℤ × ℤ)) → length (listed_arcs undirected ids es) ≤ length es + length es
arcs-few undirected ids es = rw (arc-count undirected (all_numbered (place_in ids) es), length-numbered (place_in ids) es) (go undirected)
  where
    go : (b : Bool) → arc_count b (length es) ≤ length es + length es
    go true = omega arith
    go false = omega arith

below-ends : (n : ℕ) (es : List Arc) → EndsBelow n es → Below (n + 1) es
below-ends n [] h = tt
below-ends n (e ∷ es) h = ((let g = h.0 in omega arith), below-ends n es h.2)

each-ends : (n : ℕ) (es : List Arc) → EndsBelow n es → each (λ (e : Arc). ltb e.1 n) es ≡ true
unfolding each
each-ends n [] h = refl
each-ends n (e ∷ es) h = and_both (lt-ltb e.1 n h.1) (each-ends n es h.2)

-- ---- edges l counted in an area of the given size, and summed up
sums-offsets : (l : List Arc) (n size : ℕ) → n < size → Below (n + 1) l → length l ≤ largest_number
    → sums 0 (take (n + 1) (bumps (replicate size 0) l)) ++ drop (n + 1) (bumps (replicate size 0) l) ≡ pad size (offsets l n)
sums-offsets l n size h b f =
    let c : bumps (replicate size 0) l ≡ degrees l (n + 1) (replicate (size - (n + 1)) 0) =
    ap (λ (x : List ℕ). bumps x l) (degrees-none (n + 1) size (omega arith))
    ∙ bumps-degrees [] l (n + 1) (replicate (size - (n + 1)) 0) b in
    let k = offsets-length l n in
    rw (c, sums-degrees l (n + 1) (replicate (size - (n + 1)) 0) (rw (start-length l (n + 1) b) f), add-one n, k)

-- ---- the edges of a file, read into the areas fo and ft, which hold c and t then
module _ (undirected : Bool) (most : ℕ) (ids : List ℤ) (s : List ℕ) (fo ft to tt : List ℕ) (storing : Storing ids fo to)
    (x : Result ℕ Refusal) (c t : List ℕ) (told : edge_outcome (said x) c t
    ≡ edge_call undirected most (bisected ids) s (length fo) (length ft)) where
  abbrev n : ℕ
  n = length ids

  abbrev result : Said Arranged
  result = mapped (arranged_by undirected n (length fo) (length ft) (length to) (length tt))
      (edges_read undirected most ids s (length ft) (length tt))

  answered : (r : Said ℕ) → said x ≡ r → r ≡ mapped length (edges_of undirected most (place_in ids) s)
  answered r q = sym q ∙ ap (λ (y : EdgesRead). y.answer) told ∙ ap (mapped length) (same_edges ids storing.rise undirected most s)

  pub arrange-refused : (r : Refusal) → x ≡ Err r → refuses r ≡ result
  unfolding edges_read
  arrange-refused r q = rw (mapped-refuses length (edges_of undirected most (place_in ids) s) r (answered (refuses r) (ap said q)))

  module _ (m : ℕ) (q : x ≡ Ok m) where
    taken : (es : List (ℤ × ℤ)) × (edges_of undirected most (place_in ids) s ≡ gives es) × (m ≡ length es)
    taken = mapped-gives length (edges_of undirected most (place_in ids) s) m (answered (gives m) (ap said q))

    abbrev es : List Arc
    es = all_numbered (place_in ids) taken.0

    found : edges_of undirected most (bisected ids) s ≡ gives taken.0
    found = same_edges ids storing.rise undirected most s ∙ taken.1

    count : m ≡ length es
    count = taken.2 ∙ sym (length-numbered (place_in ids) taken.0)

    counts : c ≡ bumps (replicate (length fo) 0) es
    counts =
        ap (λ (y : EdgesRead). y.counts) told ∙ ap (counts_area (bisected ids) (length fo)) found
        ∙ ap (bumps (replicate (length fo) 0)) (same-numbered ids storing.rise taken.0)

    stored : t ≡ pad (length ft) (take (length ft) (seconds es))
    stored =
        ap (λ (y : EdgesRead). y.targets) told ∙ ap (targets_area (bisected ids) (length ft)) found
        ∙ ap (λ (l : List Arc). pad (length ft) (take (length ft) (seconds l))) (same-numbered ids storing.rise taken.0)

    valid : Valid undirected n es
    valid =
        valid-file ids storing.rise undirected most s taken.0 taken.1

    ends : EndsBelow n es
    ends = valid-ends n es valid.fine

    arcs-long : length (arcs undirected es) ≡ arc_count undirected m
    arcs-long = arc-count undirected es ∙ ap (arc_count undirected) (sym count)

    short : (r : Refusal) → r ≡ plain no_room → arc_room (length ft) (length tt) (length (arcs undirected es)) ≡ false → refuses r ≡ result
    unfolding edges_read
    short r e h = rw (taken.1, h, e)

    -- the areas' lengths when they are asked, and the answers
    module _ (lt : ℕ) (ht : lt ≡ length ft) (a : Bool) (ea : a ≡ ltb lt (arc_count undirected m)) where
      pub arrange-short : a ≡ true → (r : Refusal) → r ≡ plain no_room → refuses r ≡ result
      arrange-short h r e =
          let l = ltb-true lt (arc_count undirected m) (sym ea ∙ h) in
          short r e (rw (lt-leb (length (arcs undirected es)) (length ft) (omega (arith, arcs-long))))

      module _ (fa : a ≡ false) (b : Bool) (eb : b ≡ ltb (length tt) (arc_count undirected m)) where
        fits : arc_count undirected m ≤ length ft
        fits = let l = ltb-false lt (arc_count undirected m) (sym ea ∙ fa) in omega arith

        pub arrange-short-back : b ≡ true → (r : Refusal) → r ≡ plain no_room → refuses r ≡ result
        arrange-short-back h r e =
            let l = ltb-true (length tt) (arc_count undirected m) (sym eb ∙ h) in
            short r e
            (rw (
              lt-leb (length (arcs undirected es)) (length tt) (omega (arith, arcs-long)),
              and-off (leb (length (arcs undirected es)) (length ft)) false refl,
            ))

        module _ (fb : b ≡ false) (small : length ft ≤ largest_number) (o : List ℕ)
            (eo : o ≡ sums 0 (take (n + 1) c) ++ drop (n + 1) c) where
          fits-back : arc_count undirected m ≤ length tt
          fits-back = let l = ltb-false (length tt) (arc_count undirected m) (sym eb ∙ fb) in omega arith

          edges_fit : length es ≤ length ft
          edges_fit = let f = edges-fewer undirected m in let g = fits in let k = count in omega arith

          offsets_are : o ≡ pad (length fo) (offsets es n)
          offsets_are =
              eo ∙ ap (λ (l : List ℕ). sums 0 (take (n + 1) l) ++ drop (n + 1) l) counts
              ∙ sums-offsets es n (length fo) storing.places (below-ends n es ends) (let f = edges_fit in omega arith)

          targets-are : t ≡ pad (length ft) (parts es n)
          targets-are =
              stored ∙ ap (pad (length ft)) (take_all (length ft) (seconds es)
              (let f = edges_fit in let k = length-seconds es in omega arith) ∙ sym (parts-seconds es n valid.pairs ends))

          start_is : start es n ≤ length ft
          start_is = rw (parts-seconds es n valid.pairs ends, length-seconds es) edges_fit

          held-is : held n o t ≡ es
          held-is =
              ap₂ (held n) offsets_are targets-are ∙ held-built es n valid.pairs ends (length fo) (length ft) storing.places start_is

          all_fit : held_fit undirected n o t (length tt) ≡ true
          unfolding held_fit
          all_fit =
              rw held-is (and_both (each-ends n es ends)
              (le-leb (length (in_arcs undirected es)) (length tt) (rw (length-backward (arcs undirected es), arcs-long) fits-back)))

          -- so the spreading is done
          pub arrange-end : (d : Bool) (p u : List ℕ) → spread_left d p u ≡ spread_call undirected n o t (length to) (length tt)
              → gives (arranged m o t p u) ≡ result
          unfolding edges_read spread_call
          arrange-end d p u e =
              let l₁ = le-leb (length (arcs undirected es)) (length ft) (rw arcs-long fits) in
              let l₂ = le-leb (length (arcs undirected es)) (length tt) (rw arcs-long fits-back) in
              let w = and_both (lt-ltb n (length to) storing.back_places) all_fit in
              let f : spread_left d p u ≡ spread_left true (pad (length to) (held_in_offsets undirected n o t))
              (pad (length tt) (held_in_sources undirected n o t)) = e ∙ rw w in
              let h₁ = ap (λ (y : Spread). y.offsets) f
              ∙ ap (λ (l : List Arc). pad (length to) (offsets (in_arcs undirected l) n)) held-is in
              let h₂ = ap (λ (y : Spread). y.targets) f ∙ ap (λ (l : List Arc). pad (length tt) (parts (in_arcs undirected l) n)) held-is in
              rw (taken.1, l₁, l₂) (ap gives (arranged-of count offsets_are targets-are h₁ h₂))
            where
              arranged-of : {k j : ℕ} {a b c d a' b' c' d' : List ℕ} → k ≡ j → a ≡ a' → b ≡ b' → c ≡ c' → d ≡ d'
                  → arranged k a b c d ≡ arranged j a' b' c' d'
              arranged-of e p q r s = cc
