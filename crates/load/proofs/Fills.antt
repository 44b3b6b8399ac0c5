-- Laws of the four areas of a graph: a directed file's edges as they were arranged, an undirected file's arcs the same both ways.
-- Assumes nothing.
use Rattle.std.specs.Prelude.{Result, Ok, Err}
use Prim.Native.Nat.{ℕ, suc, ◌+◌, ◌-◌, ◌≤◌, ◌<◌}
use mathlib.Core.Path.{◌≡◌, refl, sym, ap, ap₂, subst, ◌∙◌}
use mathlib.Core.Bool.{Bool, true, false}
use mathlib.Core.List.{List, [], ◌∷◌, ◌++◌}
use native.Mathlib.Omega.{arith}
use borrow.Author.Tests.{leb-true}
use lib.ListN.{length, take, drop, replicate, length-append}
use lib.Seq.{take_at, drop-append-add}
use lib.Dec.{leb}
use lib.IntN.{ℤ}
use Rattle.basis.specs.Refusal.{Said, gives, refuses, onward, mapped, no_room}
use Rattle.basis.specs.declared.refusal.Refusal.{Refusal}
use Rattle.basis.specs.Area.{pad, copied}
use Rattle.basis.specs.Order.{rising_z}
use Rattle.basis.proofs.Tests.{and_first, no-case, and-swap}
use Rattle.basis.proofs.Areas.{column-ext, drop-replicate, pad-length, copied-first}
use Rattle.basis.proofs.Saids.{mapped-gives, mapped-refuses, given-one, check-passed}
use Rattle.graph.specs.Find.{place_in}
use Rattle.graph.specs.Arcs.{Arc, arcs, parts, start, offsets}
use Rattle.graph.proofs.Arcs.{length-seconds}
use Rattle.store.specs.Held.{in_arcs}
use Rattle.store.specs.Spread.{arc_count}
use Rattle.store.proofs.Arcs.{start-length}
use Rattle.store.proofs.Passes.{below_in, length-backward}
use Rattle.store.proofs.Order.{Valid, valid-ends}
use Rattle.store.proofs.Built.{offsets-length, both-parts, parts-seconds}
use Rattle.lists.specs.Files.{edges_of, all_numbered}
use Rattle.load.specs.Load.{arc_room, with_room, listed_arcs, arcs_read}
use Rattle.load.specs.Steps.{edges_read, Arranged, arranged, arranged_by, arranged_left, filled, filled_by}
use Rattle.load.proofs.Valids.{valid-file}
use Rattle.store.proofs.Fits.{arc-count}

-- ---- the arcs of a file are those of its edges, and the order of the two rooms does not matter
mapped-room : {A B : Type 0} (f : A → B) (t : Bool) (x : A) → with_room t (f x) ≡ mapped f (with_room t x)
mapped-room f true x = refl
mapped-room f false x = refl

module _ (undirected : Bool) (most : ℕ) (ids : List ℤ) (s : List ℕ) where
  pub arcs-edges : (t t' : ℕ) → arcs_read undirected most ids s t t' ≡ mapped (arcs undirected) (edges_read undirected most ids s t t')
  unfolding arcs_read edges_read
  arcs-edges t t' = go (edges_of undirected most (place_in ids) s)
    where
      go : (x : Said (List (ℤ × ℤ)))
          → onward x (λ es. with_room (arc_room t t' (length (listed_arcs undirected ids es)))
          (listed_arcs undirected ids es))
          ≡ mapped (arcs undirected)
          (onward x (λ es. with_room (arc_room t t' (length (listed_arcs undirected ids es)))
          (all_numbered (place_in ids) es)))
      go (gives es) =
          mapped-room (arcs undirected) (arc_room t t' (length (listed_arcs undirected ids es)))
          (all_numbered (place_in ids) es)
      go (refuses r) = refl

  pub edges-swap : (t t' : ℕ) → edges_read undirected most ids s t t' ≡ edges_read undirected most ids s t' t
  unfolding edges_read
  edges-swap t t' = go (edges_of undirected most (place_in ids) s)
    where
      go : (x : Said (List (ℤ × ℤ)))
          → onward x (λ es. with_room (arc_room t t' (length (listed_arcs undirected ids es)))
          (all_numbered (place_in ids) es))
          ≡ onward x (λ es. with_room (arc_room t' t (length (listed_arcs undirected ids es)))
          (all_numbered (place_in ids) es))
      go (gives es) =
          ap (λ (b : Bool). with_room b (all_numbered (place_in ids) es))
          (and-swap (leb (length (listed_arcs undirected ids es)) t)
          (leb (length (listed_arcs undirected ids es)) t'))
      go (refuses r) = refl

  -- edges that were read with room are valid
  module _ (rise : rising_z ids ≡ true) (t t' : ℕ) (es : List Arc) (e : edges_read undirected most ids s t t' ≡ gives es) where
    taken : (l : List (ℤ × ℤ)) × (edges_of undirected most (place_in ids) s ≡ gives l) × (all_numbered (place_in ids) l ≡ es)
        × (arc_room t t' (length (arcs undirected es)) ≡ true)
    unfolding edges_read
    taken = go (edges_of undirected most (place_in ids) s) refl e
      where
        go : (x : Said (List (ℤ × ℤ))) → edges_of undirected most (place_in ids) s ≡ x
            → onward x (λ es. with_room (arc_room t t' (length (listed_arcs undirected ids es)))
            (all_numbered (place_in ids) es))
            ≡ gives es
            → (l : List (ℤ × ℤ)) × (edges_of undirected most (place_in ids) s ≡ gives l) × (all_numbered (place_in ids) l ≡ es)
            × (arc_room t t' (length (arcs undirected es)) ≡ true)
        go (gives l) q h =
            let r = check-passed (arc_room t t' (length (listed_arcs undirected ids l))) no_room
            (gives (all_numbered (place_in ids) l)) es h in
            let e = given-one r.1 in
            (l, q, e, subst (λ (x : List Arc). arc_room t t' (length (arcs undirected x)) ≡ true) e r.0)
        go (refuses r) q h = no-case cc

    pub read-valid : Valid undirected (length ids) es
    read-valid =
        subst (Valid undirected (length ids)) taken.2
        (valid-file ids rise undirected most s taken.0 taken.1)

    pub read_fits : arc_count undirected (length es) ≤ t
    read_fits =
        let l = leb-true (length (arcs undirected es)) t
        (and_first (leb (length (arcs undirected es)) t) (leb (length (arcs undirected es)) t') taken.3) in
        omega (arith, arc-count undirected es)

-- ---- areas, by each
filled_of : (n : ℕ) {m k : ℕ} {a b c d a' b' c' d' : List ℕ} → m ≡ k → a ≡ a' → b ≡ b' → c ≡ c' → d ≡ d'
    → filled (record { vertices = n; arcs = m }) a b c d ≡ filled (record { vertices = n; arcs = k }) a' b' c' d'
filled_of n e p q r s = cc

-- ---- a directed file
arcs-one : (es : List Arc) → arcs false es ≡ es
arcs-one [] = refl
arcs-one (e ∷ es) = ap (λ (l : List Arc). e ∷ l) (arcs-one es)

module _ (most : ℕ) (ids : List ℤ) (s : List ℕ) (lo lt li ls : ℕ) (x : Result ℕ Refusal) (o t b u : List ℕ)
    (told : arranged_left x o t b u ≡ mapped (arranged_by false (length ids) lo lt li ls) (edges_read false most ids s lt ls)) where
  pub directed-refused : (r : Refusal) → x ≡ Err r
      → refuses r ≡ mapped (filled_by (length ids) lo lt li ls) (arcs_read false most ids s lt ls)
  directed-refused r q =
      rw (
        arcs-edges false most ids s lt ls,
        mapped-refuses (arranged_by false (length ids) lo lt li ls) (edges_read false most ids s lt ls) r
            (ap (λ y. arranged_left y o t b u) (sym q) ∙ told),
      )

  pub directed-lines : (m : ℕ) → x ≡ Ok m → gives (filled (record { vertices = length ids; arcs = m }) o t b u)
      ≡ mapped (filled_by (length ids) lo lt li ls) (arcs_read false most ids s lt ls)
  directed-lines m q =
      let g = mapped-gives (arranged_by false (length ids) lo lt li ls) (edges_read false most ids s lt ls) (arranged m o t b u)
      (ap (λ y. arranged_left y o t b u) (sym q) ∙ told) in
      let a = sym (arcs-one g.0) in
      rw (arcs-edges false most ids s lt ls, g.1)
      (ap gives
      (filled_of (length ids) (ap (λ (y : Arranged). y.edges) g.2 ∙ ap length a)
      (ap (λ (y : Arranged). y.offsets) g.2 ∙ ap (λ (l : List Arc). pad lo (offsets l (length ids))) a)
      (ap (λ (y : Arranged). y.targets) g.2 ∙ ap (λ (l : List Arc). pad lt (parts l (length ids))) a)
      (ap (λ (y : Arranged). y.back_offsets) g.2) (ap (λ (y : Arranged). y.back_targets) g.2)))

-- ---- a list copied from one area to another
pad-front : (xs ys : List ℕ) (a b k : ℕ) → length xs ≡ k → length ys ≤ k → take k (pad a xs) ++ drop k (pad b ys) ≡ pad b xs
pad-front xs ys a b k e h =
    let j : length ys + (k - length ys) ≡ k = omega arith in
    let m : b - length ys - (k - length ys) ≡ b - length xs = omega arith in
    rw (
      take_at xs (replicate (a - length xs) 0) k e,
      ← j,
      drop-append-add ys (replicate (b - length ys) 0) (k - length ys),
      drop-replicate {A = ℕ} 0 (k - length ys) (b - length ys),
      m,
    ) refl

copy-pad : (xs ys : List ℕ) (a b k : ℕ) → length xs ≡ k → length ys ≤ k → k ≤ b → copied k (pad a xs) (pad b ys) ≡ pad b xs
copy-pad xs ys a b k e h room =
    let p : k ≤ length (pad a xs) = let z = length-append xs (replicate (a - length xs) 0) in omega arith in
    let q : k ≤ length (pad b ys) = let z = pad-length 0 b ys (omega arith) in omega arith in
    copied-first k (pad a xs) (pad b ys) p q ∙ pad-front xs ys a b k e h

-- ---- an undirected file, arranged in the inward areas i, j and the outward areas o, t
module _ (most : ℕ) (ids : List ℤ) (s : List ℕ) (lo lt li ls : ℕ) (rise : rising_z ids ≡ true) (x : Result ℕ Refusal) (i j o t : List ℕ)
    (told : arranged_left x i j o t ≡ mapped (arranged_by true (length ids) li ls lo lt) (edges_read true most ids s ls lt)) where
  abbrev n : ℕ
  n = length ids

  swapped : arcs_read true most ids s lt ls ≡ mapped (arcs true) (edges_read true most ids s ls lt)
  swapped = arcs-edges true most ids s lt ls ∙ ap (mapped (arcs true)) (edges-swap true most ids s lt ls)

  pub undirected-refused : (r : Refusal) → x ≡ Err r → refuses r ≡ mapped (filled_by n lo lt li ls) (arcs_read true most ids s lt ls)
  undirected-refused r q =
      rw (
        swapped,
        mapped-refuses (arranged_by true n li ls lo lt) (edges_read true most ids s ls lt) r
            (ap (λ y. arranged_left y i j o t) (sym q) ∙ told),
      )

  module _ (m : ℕ) (q : x ≡ Ok m) where
    given : (es : List Arc) × (edges_read true most ids s ls lt ≡ gives es) × (arranged m i j o t ≡ arranged_by true n li ls lo lt es)
    given = mapped-gives (arranged_by true n li ls lo lt) (edges_read true most ids s ls lt) (arranged m i j o t)
        (ap (λ y. arranged_left y i j o t) (sym q) ∙ told)

    abbrev es : List Arc
    es = given.0

    abbrev inward : List Arc
    inward = in_arcs true es

    edges_are : m ≡ length es
    edges_are = ap (λ (y : Arranged). y.edges) given.2

    valid : Valid true n es
    valid = read-valid true most ids s rise ls lt es given.1

    pub undirected-fits : m + m ≤ ls
    undirected-fits = omega (arith, read_fits true most ids s rise ls lt es given.1, edges_are)

    arcs-long : length (arcs true es) ≡ m + m
    arcs-long = arc-count true es ∙ (let e = edges_are in omega arith)

    parts-long : length (parts inward n) ≡ m + m
    parts-long = start-length inward n (below_in true n es (valid-ends n es valid.fine)) ∙ length-backward (arcs true es) ∙ arcs-long

    edges-long : length (parts es n) ≤ m + m
    edges-long =
        rw (parts-seconds es n valid.pairs (valid-ends n es valid.fine), length-seconds es) (let e = edges_are in omega arith)

    out-offsets : offsets inward n ≡ offsets (arcs true es) n
    out-offsets = column-ext (start inward) (start (arcs true es)) (suc n) (λ v l. ap length (both-parts es v n valid.fine))

    pub undirected-lines : (i' j' : List ℕ) → n < li → i' ≡ copied (n + 1) o i → j' ≡ copied (m + m) t j
        → gives (filled (record { vertices = n; arcs = m + m }) o t i' j')
        ≡ mapped (filled_by n lo lt li ls) (arcs_read true most ids s lt ls)
    undirected-lines i' j' room ei ej =
        let a : i ≡ pad li (offsets es n) = ap (λ (y : Arranged). y.offsets) given.2 in
        let b : j ≡ pad ls (parts es n) = ap (λ (y : Arranged). y.targets) given.2 in
        let c : o ≡ pad lo (offsets inward n) = ap (λ (y : Arranged). y.back_offsets) given.2 in
        let d : t ≡ pad lt (parts inward n) = ap (λ (y : Arranged). y.back_targets) given.2 in
        let ko = offsets-length inward n in
        let ke = offsets-length es n in
        let h₁ : i' ≡ pad li (offsets inward n) =
        ei ∙ ap₂ (copied (n + 1)) c a ∙ copy-pad (offsets inward n) (offsets es n) lo li (n + 1) (omega arith) (omega arith)
        (omega arith) in
        let h₂ : j' ≡ pad ls (parts inward n) =
        ej ∙ ap₂ (copied (m + m)) d b ∙ copy-pad (parts inward n) (parts es n) lt ls (m + m) parts-long edges-long undirected-fits in
        let h₃ : o ≡ pad lo (offsets (arcs true es) n) = c ∙ ap (pad lo) out-offsets in
        let h₄ : t ≡ pad lt (parts (arcs true es) n) = d ∙ ap (pad lt) (both-parts es n n valid.fine) in
        rw (swapped, given.1) (ap gives (filled_of n (sym arcs-long) h₃ h₄ h₁ h₂))
