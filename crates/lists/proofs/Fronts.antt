-- Laws of the areas after a file was read: values written from the front, as far as there is room. Assumes nothing.
use Rattle.std.specs.Prelude.{Result, Ok, Err, Option, is_err}
use Prim.Native.Nat.{ℕ, suc, ◌+◌, ◌≤◌}
use mathlib.Core.Path.{◌≡◌, refl, sym, ap, ap₂, ◌∙◌}
use mathlib.Core.List.{List, [], ◌∷◌, ◌++◌}
use mathlib.Core.Bool.{Bool, true, false}
use native.Mathlib.Omega.{arith}
use native.Mathlib.Decide.{dec_lt}
use native.Mathlib.Nat.{zero-add}
use lib.IntN.{ℤ, pos}
use lib.ListN.{length, take, drop, set, replicate, length-replicate, length-take, take-append-drop, drop_of_length-le}
use lib.Seq.{sets, sets-eq, length-sets, set_out}
use Rattle.basis.specs.Refusal.{said, gives, refuses, mapped}
use Rattle.basis.specs.declared.refusal.Refusal.{Refusal}
use Rattle.basis.specs.Area.{pad, pad_z, pad_with}
use Rattle.basis.proofs.Tests.{no-case}
use Rattle.basis.proofs.Areas.{pad-lent}
use Rattle.basis.proofs.Saids.{mapped-gives, mapped-refuses}
use Rattle.graph.specs.Arcs.{seconds, bumps}
use Rattle.lists.specs.Files.{identifiers, edges_of, all_numbered}
use Rattle.lists.specs.Calls.{vertex_outcome, vertex_call, edge_outcome, edge_call}
use Rattle.lists.specs.Steps.{ids_into, ids_left, numbered_into, edges_left}
use Rattle.lists.proofs.Lookups.{length-numbered}

-- ---- values written to an area of one value throughout
module _ {A : Type 0} (z : A) where
  sets-out : (d vs : List A) (i : ℕ) → length d ≤ i → sets d i vs ≡ d
  sets-out d [] i h = refl
  sets-out d (v ∷ vs) i h = ap (λ l. sets l (suc i) vs) (set_out d i v h) ∙ sets-out d vs (suc i) (omega arith)

  sets-append : (d a b : List A) (i : ℕ) → sets d i (a ++ b) ≡ sets (sets d i a) (i + length a) b
  sets-append d [] b i = let e : i ≡ i + 0 = omega arith in ap (λ (k : ℕ). sets d k b) e
  sets-append d (v ∷ a) b i =
      let e : suc i + length a ≡ i + suc (length a) = omega arith in
      sets-append (set d i v) a b (suc i) ∙ ap (λ (k : ℕ). sets (sets (set d i v) (suc i) a) k b) e

  front : (k : ℕ) (vs : List A) → length vs ≤ k → sets (replicate k z) 0 vs ≡ pad_with z k vs
  front k vs h =
      let l = length-replicate k z in
      sets-eq vs (replicate k z) 0 (omega arith) ∙ pad-lent z (0 + length vs) k vs (sym (zero-add (length vs)))

  rest_out : (k : ℕ) (vs : List A) → sets (sets (replicate k z) 0 (take k vs)) (0 + length (take k vs)) (drop k vs)
      ≡ sets (replicate k z) 0 (take k vs)
  rest_out k vs =
      elim (dec_lt k (length vs)) as (λ _. sets (sets (replicate k z) 0 (take k vs)) (0 + length (take k vs)) (drop k vs)
      ≡ sets (replicate k z) 0 (take k vs)) [
        | yes h ↦
            let t = length-take k vs in
            let l = length-sets (replicate k z) 0 (take k vs) in
            let r = length-replicate k z in
            sets-out (sets (replicate k z) 0 (take k vs)) (drop k vs) (0 + length (take k vs)) (omega arith)
        | no h ↦ rw (drop_of_length-le vs (let l : length vs ≤ k = omega arith in l))
      ]

  -- as far as there is room
  pub put_front : (k : ℕ) (vs : List A) → sets (replicate k z) 0 vs ≡ pad_with z k (take k vs)
  put_front k vs =
      let t = length-take k vs in
      ap (sets (replicate k z) 0) (sym (take-append-drop k vs)) ∙ sets-append (replicate k z) (take k vs) (drop k vs) 0 ∙ rest_out k vs
      ∙ front k (take k vs) (omega arith)

-- ---- the calls
-- cleared once more
again : {A : Type 0} (z : A) (size : ℕ) (a b : List A) → a ≡ replicate size z → length b ≡ length a
    → replicate (length b) z ≡ replicate size z
again z size a b e k = ap (λ (j : ℕ). replicate j z) (k ∙ ap length e ∙ length-replicate size z)

module _ (most : ℕ) (s : List ℕ) (size : ℕ) (a : List ℤ) (e : a ≡ replicate size (pos 0)) (x : Result ℕ Refusal) (b : List ℤ)
    (told : ids_left x b ≡ mapped (ids_into a 0) (identifiers most s)) where
  vertices-lines : (n : ℕ) → x ≡ Ok n → vertex_outcome (gives n) b ≡ vertex_call most s size
  vertices-lines n q =
      let g = mapped-gives (ids_into a 0) (identifiers most s) (n, b) (ap (λ y. ids_left y b) (sym q) ∙ told) in
      let c : n ≡ length g.0 = ap (λ (y : ℕ × List ℤ). y.0) g.2 ∙ zero-add (length g.0) in
      let d : b ≡ pad_z size (take size g.0) = ap (λ (y : ℕ × List ℤ). y.1) g.2 ∙ ap (λ (l : List ℤ). sets l 0 g.0) e
      ∙ put_front (pos 0) size g.0 in
      rw g.1 (ap₂ (λ (k : ℕ) (l : List ℤ). vertex_outcome (gives k) l) c d)

  vertices-zero : (r : Refusal) → x ≡ Err r → length b ≡ length a → (c : List ℤ) → c ≡ replicate (length b) (pos 0)
      → vertex_outcome (refuses r) c ≡ vertex_call most s size
  vertices-zero r q k c f =
      rw (mapped-refuses (ids_into a 0) (identifiers most s) r (ap (λ y. ids_left y b) (sym q) ∙ told))
      (ap (vertex_outcome (refuses r)) (f ∙ again (pos 0) size a b e k))

  pub vertices-kept : is_err x ≡ false → vertex_outcome (said x) b ≡ vertex_call most s size
  vertices-kept h = go x refl h
    where
      go : (y : Result ℕ Refusal) → x ≡ y → is_err y ≡ false → vertex_outcome (said y) b ≡ vertex_call most s size
      go (Ok n) q h = vertices-lines n q
      go (Err r) q h = no-case cc

  pub vertices-cleared : is_err x ≡ true → length b ≡ length a → (c : List ℤ) → c ≡ replicate (length b) (pos 0)
      → vertex_outcome (said x) c ≡ vertex_call most s size
  vertices-cleared h k c f = go x refl h
    where
      go : (y : Result ℕ Refusal) → x ≡ y → is_err y ≡ true → vertex_outcome (said y) c ≡ vertex_call most s size
      go (Ok n) q h = no-case cc
      go (Err r) q h = vertices-zero r q k c f

module _ (undirected : Bool) (most : ℕ) (place : ℤ → Option ℕ) (s : List ℕ) (sc st : ℕ) (a b : List ℕ) (ea : a ≡ replicate sc 0)
    (eb : b ≡ replicate st 0)
    (x : Result ℕ Refusal) (c t : List ℕ) (told : edges_left x c t ≡ mapped (numbered_into place a b 0) (edges_of undirected most place s))
  where
    edges-lines : (n : ℕ) → x ≡ Ok n → edge_outcome (gives n) c t ≡ edge_call undirected most place s sc st
    edges-lines n q =
        let g = mapped-gives (numbered_into place a b 0) (edges_of undirected most place s) (n, c, t)
        (ap (λ y. edges_left y c t) (sym q) ∙ told) in
        let es = all_numbered place g.0 in
        let k : n ≡ length g.0 = ap (λ (y : ℕ × List ℕ × List ℕ). y.0) g.2 ∙ zero-add (length es) ∙ length-numbered place g.0 in
        let u : c ≡ bumps (replicate sc 0) es = ap (λ (y : ℕ × List ℕ × List ℕ). y.1) g.2 ∙ ap (λ (l : List ℕ). bumps l es) ea in
        let v : t ≡ pad st (take st (seconds es)) =
        ap (λ (y : ℕ × List ℕ × List ℕ). y.2) g.2 ∙ ap (λ (l : List ℕ). sets l 0 (seconds es)) eb ∙ put_front 0 st (seconds es) in
        rw g.1 (edges-of k u v)
      where
        edges-of : {k m : ℕ} {c d t u : List ℕ} → k ≡ m → c ≡ d → t ≡ u → edge_outcome (gives k) c t ≡ edge_outcome (gives m) d u
        edges-of p q r = cc

    edges-zero : (r : Refusal) → x ≡ Err r → length c ≡ length a → length t ≡ length b → (d u : List ℕ)
        → d ≡ replicate (length c) 0 → u ≡ replicate (length t) 0
        → edge_outcome (refuses r) d u ≡ edge_call undirected most place s sc st
    edges-zero r q kc kt d u ed eu =
        rw (mapped-refuses (numbered_into place a b 0) (edges_of undirected most place s) r (ap (λ y. edges_left y c t) (sym q) ∙ told))
        (ap₂ (λ (l m : List ℕ). edge_outcome (refuses r) l m) (ed ∙ again 0 sc a c ea kc) (eu ∙ again 0 st b t eb kt))

    pub edges-kept : is_err x ≡ false → edge_outcome (said x) c t ≡ edge_call undirected most place s sc st
    edges-kept h = go x refl h
      where
        go : (y : Result ℕ Refusal) → x ≡ y → is_err y ≡ false → edge_outcome (said y) c t ≡ edge_call undirected most place s sc st
        go (Ok n) q h = edges-lines n q
        go (Err r) q h = no-case cc

    pub edges-cleared : is_err x ≡ true → length c ≡ length a → length t ≡ length b → (d u : List ℕ)
        → d ≡ replicate (length c) 0 → u ≡ replicate (length t) 0 → edge_outcome (said x) d u ≡ edge_call undirected most place s sc st
    edges-cleared h kc kt d u ed eu = go x refl h
      where
        go : (y : Result ℕ Refusal) → x ≡ y → is_err y ≡ true → edge_outcome (said y) d u ≡ edge_call undirected most place s sc st
        go (Ok n) q h = no-case cc
        go (Err r) q h = edges-zero r q kc kt d u ed eu

pub stays-clear : (a e : List ℕ) → a ≡ replicate (length e) 0 → length a ≡ length e → a ≡ replicate (length a) 0
stays-clear a e p q = p ∙ ap (λ (k : ℕ). replicate k 0) (sym q)
