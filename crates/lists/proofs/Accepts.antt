-- A file is accepted exactly where it has the form and order that the rules ask for, and refused exactly at its first fault, said of its
-- bytes. Assumes nothing.
use Prim.Native.Nat.{ℕ}
use mathlib.Core.Path.{◌≡◌, refl, sym, ◌∙◌}
use mathlib.Core.Logic.{◌↔◌}
use mathlib.Core.Bool.{Bool, true, false, cond, not, ◌&&◌}
use mathlib.Core.List.{List, [], ◌∷◌}
use native.Mathlib.Omega.{arith}
use borrow.Author.Tests.{not-true}
use lib.IntN.{ℤ}
use lib.Signed.{lt_z}
use Rattle.basis.specs.declared.refusal.Refusal.{Refusal}
use Rattle.basis.specs.Refusal.{gives, refuses, vertex_file, edge_file}
use Rattle.basis.specs.Order.{same_z, above_by, rising_by, rising_z}
use Rattle.basis.specs.Scan.{each}
use Rattle.basis.proofs.Tests.{and_first, and_second, and_both}
use Rattle.text.specs.Word.{ident_of}
use Rattle.text.specs.Line.{two_of, ident_form, edge_form}
use Rattle.text.specs.File.{Before, first, after, Passes, FirstFault}
use Rattle.text.proofs.Breaks.{ident-right, edge-right}
use Rattle.text.proofs.Files.{file-accepted, file-refused}
use Rattle.graph.specs.Find.{place_in, is_there}
use Rattle.lists.specs.Files.{vertex_test, identifiers, above_pair, is_above, edge_test, edges_of}
use Rattle.lists.specs.Good.{GoodVertices, GoodEdges}

-- ---- identifiers that were accepted rise
test-rises : (y z : ℤ) → vertex_test (after y) z ≡ 0 → lt_z y z ≡ true
test-rises y z h = go (lt_z y z) refl h
  where
    go : (t : Bool) → lt_z y z ≡ t → ◌≡◌ {A = ℕ} (cond t 0 4) 0 → lt_z y z ≡ true
    go true q h = q
    go false q h = absurd (let o : ⊥ = omega arith in o)

above-after : (y : ℤ) (l : List ℤ) → Passes vertex_test (after y) l → above_by lt_z y l ≡ true
above-after y [] p = refl
above-after y (z ∷ l) p = and_both (test-rises y z p.0) (above-after z l p.1)

ids-rise : (l : List ℤ) → Passes vertex_test first l → rising_z l ≡ true
ids-rise [] p = refl
ids-rise (z ∷ l) p = above-after z l p.1

-- ---- the vertex file
rises-pass : (y : ℤ) (l : List ℤ) → above_by lt_z y l ≡ true → Passes vertex_test (after y) l
rises-pass y [] h = tt
rises-pass y (z ∷ l) h = (
  rw (and_first (lt_z y z) (above_by lt_z z l) h) refl,
  rises-pass z l (and_second (lt_z y z) (above_by lt_z z l) h),
)

pass-first : (l : List ℤ) → rising_z l ≡ true → Passes vertex_test first l
pass-first [] h = tt
pass-first (z ∷ l) h = (refl, rises-pass z l h)

-- a vertex file gives identifiers exactly where it is a good file of them
pub vertices-accepted : (most : ℕ) (s : List ℕ) (ids : List ℤ) → (identifiers most s ≡ gives ids) ↔ GoodVertices most s ids
vertices-accepted most s ids = (
  (λ e. let a = (file-accepted ident_form ident-right vertex_file most vertex_test s ids).0 e in
      record { lines = a.lines; few = a.few; rise = ids-rise ids a.pass }),
  λ g. (file-accepted ident_form ident-right vertex_file most vertex_test s ids).1
      (record { lines = g.lines; few = g.few; pass = pass-first ids g.rise }),
)

-- ---- what the test of an edge says
pub record Tested (undirected : Bool) (ids : List ℤ) (before : Before (ℤ × ℤ)) (e : ℤ × ℤ) : Type 0 where
  pub apart : same_z e.0 e.1 ≡ false
  pub smaller : (undirected && lt_z e.1 e.0) ≡ false
  pub above : is_above before e ≡ true
  pub from : is_there (place_in ids e.0) ≡ true
  pub to : is_there (place_in ids e.1) ≡ true

pub test-passed : (undirected : Bool) (ids : List ℤ) (before : Before (ℤ × ℤ)) (e : ℤ × ℤ) → edge_test undirected (place_in ids) before e
    ≡ 0
    → Tested undirected ids before e
unfolding edge_test
test-passed undirected ids before e h =
    go (same_z e.0 e.1) (undirected && lt_z e.1 e.0) (is_above before e) (is_there (place_in ids e.0))
    (is_there (place_in ids e.1))
    refl refl refl refl refl h
  where
    go : (p q r x y : Bool) → same_z e.0 e.1 ≡ p → (undirected && lt_z e.1 e.0) ≡ q → is_above before e ≡ r
        → is_there (place_in ids e.0) ≡ x → is_there (place_in ids e.1) ≡ y
        → ◌≡◌ {A = ℕ} (cond p 5 (cond q 6 (cond r (cond (x && y) 0 7) 4))) 0 → Tested undirected ids before e
    go true q r x y a b c d f h = absurd (let z : ⊥ = omega arith in z)
    go false true r x y a b c d f h = absurd (let z : ⊥ = omega arith in z)
    go false false false x y a b c d f h = absurd (let z : ⊥ = omega arith in z)
    go false false true false y a b c d f h = absurd (let z : ⊥ = omega arith in z)
    go false false true true false a b c d f h = absurd (let z : ⊥ = omega arith in z)
    go false false true true true a b c d f h = record { apart = a; smaller = b; above = c; from = d; to = f }

passed-test : (undirected : Bool) (ids : List ℤ) (before : Before (ℤ × ℤ)) (e : ℤ × ℤ) → Tested undirected ids before e
    → edge_test undirected (place_in ids) before e ≡ 0
unfolding edge_test
passed-test undirected ids before e t = rw (t.apart, t.smaller, t.above, t.from, t.to)

-- ---- the edge file
module _ (undirected : Bool) (ids : List ℤ) where
  abbrev is_apart : ℤ × ℤ → Bool
  is_apart e = not (same_z e.0 e.1)

  abbrev is_smaller : ℤ × ℤ → Bool
  is_smaller e = not (undirected && lt_z e.1 e.0)

  abbrev are_there : ℤ × ℤ → Bool
  are_there e = is_there (place_in ids e.0) && is_there (place_in ids e.1)

  -- each line is above the one before it, if there is one
  abbrev chain : Before (ℤ × ℤ) → List (ℤ × ℤ) → Bool
  chain first es = rising_by above_pair es
  chain (after d) es = above_by above_pair d es

  -- what the tests of all lines say, clause by clause
  record Clauses (before : Before (ℤ × ℤ)) (es : List (ℤ × ℤ)) : Type 0 where
    above : chain before es ≡ true
    apart : each is_apart es ≡ true
    smaller : each is_smaller es ≡ true
    there : each are_there es ≡ true

  chain-cons : (before : Before (ℤ × ℤ)) (e : ℤ × ℤ) (es : List (ℤ × ℤ)) → chain before (e ∷ es) ≡ (is_above before e && chain (after e) es)
  chain-cons first e es = refl
  chain-cons (after d) e es = refl

  not-off : (t : Bool) → t ≡ false → not t ≡ true
  not-off t h = rw h

  clauses-of : (before : Before (ℤ × ℤ)) (es : List (ℤ × ℤ)) → Passes (edge_test undirected (place_in ids)) before es → Clauses before es
  unfolding each
  clauses-of first [] p = record { above = refl; apart = refl; smaller = refl; there = refl }
  clauses-of (after d) [] p = record { above = refl; apart = refl; smaller = refl; there = refl }
  clauses-of before (e ∷ es) p =
      let t = test-passed undirected ids before e p.0 in
      let c = clauses-of (after e) es p.1 in
      record {
        above = chain-cons before e es ∙ and_both t.above c.above;
        apart = and_both (not-off (same_z e.0 e.1) t.apart) c.apart;
        smaller = and_both (not-off (undirected && lt_z e.1 e.0) t.smaller) c.smaller;
        there = and_both (and_both t.from t.to) c.there;
      }

  passes_of : (before : Before (ℤ × ℤ)) (es : List (ℤ × ℤ)) → Clauses before es → Passes (edge_test undirected (place_in ids)) before es
  unfolding each
  passes_of before [] c = tt
  passes_of before (e ∷ es) c =
      let a = sym (chain-cons before e es) ∙ c.above in
      let t = and_first (are_there e) (each are_there es) c.there in (
        passed-test undirected ids before e
            (record {
              apart = not-true (same_z e.0 e.1) (and_first (is_apart e) (each is_apart es) c.apart);
              smaller = not-true (undirected && lt_z e.1 e.0) (and_first (is_smaller e) (each is_smaller es) c.smaller);
              above = and_first (is_above before e) (chain (after e) es) a;
              from = and_first (is_there (place_in ids e.0)) (is_there (place_in ids e.1)) t;
              to = and_second (is_there (place_in ids e.0)) (is_there (place_in ids e.1)) t;
            }),
        passes_of (after e) es
            (record {
              above = and_second (is_above before e) (chain (after e) es) a;
              apart = and_second (is_apart e) (each is_apart es) c.apart;
              smaller = and_second (is_smaller e) (each is_smaller es) c.smaller;
              there = and_second (are_there e) (each are_there es) c.there;
            }),
      )

-- an edge file gives edges exactly where it is a good file of them
pub edges-accepted : (undirected : Bool) (most : ℕ) (ids : List ℤ) (s : List ℕ) (es : List (ℤ × ℤ))
    → (edges_of undirected most (place_in ids) s ≡ gives es) ↔ GoodEdges undirected most ids s es
edges-accepted undirected most ids s es = (
  (λ e. let a = (file-accepted edge_form edge-right edge_file most (edge_test undirected (place_in ids)) s es).0 e in
      let c = clauses-of undirected ids first es a.pass in
      record {
        lines = a.lines;
        few = a.few;
        rise = c.above;
        apart = c.apart;
        smaller = c.smaller;
        there = c.there;
      }),
  λ g. (file-accepted edge_form edge-right edge_file most (edge_test undirected (place_in ids)) s es).1
      (record {
        lines = g.lines;
        few = g.few;
        pass = passes_of undirected ids first es (record { above = g.rise; apart = g.apart; smaller = g.smaller; there = g.there });
      }),
)

-- ---- a refused file
-- a vertex file is refused exactly at its first fault, said of its bytes
pub vertices-refused : (most : ℕ) (s : List ℕ) (r : Refusal)
    → (identifiers most s ≡ refuses r) ↔ FirstFault ident_of vertex_file most vertex_test s r
vertices-refused most s r = file-refused ident_form ident-right vertex_file most vertex_test s r

-- an edge file is refused exactly at its first fault, said of its bytes
pub edges-refused : (undirected : Bool) (most : ℕ) (ids : List ℤ) (s : List ℕ) (r : Refusal)
    → (edges_of undirected most (place_in ids) s ≡ refuses r)
    ↔ FirstFault (two_of ident_of ident_of) edge_file most (edge_test undirected (place_in ids)) s r
edges-refused undirected most ids s r = file-refused edge_form edge-right edge_file most (edge_test undirected (place_in ids)) s r
