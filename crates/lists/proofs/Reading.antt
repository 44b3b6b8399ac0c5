-- Laws of reading one line of a file. Assumes nothing.
use Rattle.std.specs.Prelude.{Option, Some, None, Result, Ok, Err}
use Prim.Native.Nat.{ℕ, ◌+◌}
use mathlib.Core.Path.{◌≡◌, refl, sym, ap, ap₂, ◌∙◌}
use mathlib.Core.Bool.{Bool, true, false, cond, ◌&&◌}
use mathlib.Core.List.{List}
use borrow.Author.Tests.{eqb-true}
use lib.Dec.{leb, eqb}
use lib.IntN.{ℤ}
use lib.Signed.{lt_z}
use Rattle.basis.specs.Refusal.{Said, gives, refuses, at, onward, too_many, not_above, vertex_file, edge_file}
use Rattle.basis.specs.Order.{same_z}
use Rattle.basis.specs.declared.refusal.Refusal.{Refusal}
use Rattle.basis.proofs.Tests.{no-case, clash, and-off}
use Rattle.text.specs.Line.{none, reader_says, vertex_line, edge_line}
use Rattle.text.specs.File.{Before, first, after, unless}
use Rattle.text.specs.declared.line.Cursor.{Cursor}
use Rattle.text.specs.declared.line.Fault.{Fault}
use Rattle.graph.specs.Arcs.{Arc}
use Rattle.graph.specs.Find.{is_there}
use Rattle.lists.specs.declared.Lines.{Lines}
use Rattle.lists.specs.Files.{vertex_test, is_above, vertex_number, edge_test, numbered}
use Rattle.lists.specs.Steps.{before_of, lines_at, counted, step_by}
use Rattle.lists.specs.Steps.{vertex_step, order_fault, looked_by, with_numbers, edge_step}

-- ---- one line more, by what is read at the reader's place
module _ {A : Type 0} (file most : ℕ) (test : Before A → A → ℕ) (c : Lines A) (k : Cursor) where
  -- the reader past a line that says v, where the test finds no fault
  abbrev tested : A → Said (Option A × Lines A)
  tested v = unless (test (before_of c.last) v) file (c.passed + 1) (gives (Some v, lines_at k.at (c.passed + 1) (Some v)))

  counted_first : (x : Result A Fault) → step_by file most test c (reader_says k (Some x)) ≡ onward (counted file most c.passed x) tested
  counted_first (Err f) = refl
  counted_first (Ok v) = go (leb most c.passed)
    where
      go : (t : Bool)
          → unless (cond t too_many (test (before_of c.last) v)) file (c.passed + 1)
          (gives (Some v, lines_at k.at (c.passed + 1) (Some v)))
          ≡ onward (cond t (refuses (at too_many file (c.passed + 1))) (gives v)) tested
      go true = refl
      go false = refl

  by-count : (x : Result A Fault) (y : Said A) → y ≡ counted file most c.passed x
      → onward y tested ≡ step_by file most test c (reader_says k (Some x))
  by-count x y e = ap (λ z. onward z tested) e ∙ sym (counted_first x)

-- ---- a vertex line
module _ (s : List ℕ) (most : ℕ) (c : Lines ℤ) (k : Cursor) where
  pub vertex-none : none k.at ≡ vertex_line s c.at.at → gives (None, record { at = k; passed = c.passed; last = c.last })
      ≡ vertex_step s most c
  unfolding vertex_step
  vertex-none e = ap (step_by vertex_file most vertex_test c) e

  module _ (x : Result ℤ Fault) (e : reader_says k (Some x) ≡ vertex_line s c.at.at) where
    by-vertex : (y : Said ℤ) → y ≡ counted vertex_file most c.passed x → onward y (tested vertex_file most vertex_test c k)
        ≡ vertex_step s most c
    unfolding vertex_step
    by-vertex y h = by-count vertex_file most vertex_test c k x y h ∙ ap (step_by vertex_file most vertex_test c) e

    pub vertex-bad : (r : Refusal) → refuses r ≡ counted vertex_file most c.passed x → refuses r ≡ vertex_step s most c
    vertex-bad r h = by-vertex (refuses r) h

    -- the number v, handed on as z
    module _ (v : ℤ) (h : gives v ≡ counted vertex_file most c.passed x) (z : ℤ) (q : z ≡ v) (t : Bool)
        (g : t ≡ eqb (vertex_test (before_of c.last) z) 0) where
      pub vertex-fault : t ≡ false → (r : Refusal) → r ≡ at not_above vertex_file (c.passed + 1) → refuses r ≡ vertex_step s most c
      vertex-fault f r o =
          let n : vertex_test (before_of c.last) v ≡ 4 = low (before_of c.last) (rw q at (sym g ∙ f)) in
          ap refuses o ∙ rw n at (by-vertex (gives v) h)
        where
          low : (b : Before ℤ) → eqb (vertex_test b v) 0 ≡ false → vertex_test b v ≡ 4
          low first n = clash refl n
          low (after y) n = go (lt_z y v) n
            where
              go : (t : Bool) → eqb (cond t 0 4) 0 ≡ false → ◌≡◌ {A = ℕ} (cond t 0 4) 4
              go true n = clash refl n
              go false n = refl

      pub vertex-more : t ≡ true → gives (Some z, record { at = k; passed = c.passed + 1; last = Some z }) ≡ vertex_step s most c
      vertex-more f =
          let n : vertex_test (before_of c.last) v ≡ 0 = eqb-true (vertex_test (before_of c.last) v) 0 (rw q at (sym g ∙ f)) in
          rw q (rw n at (by-vertex (gives v) h))

-- ---- whether an edge is above the one before it, by its second number where the first ones, p and a as they are handed on, are the same
module _ (last : Option (ℤ × ℤ)) (e : ℤ × ℤ) (p q : ℤ) (s : last ≡ Some (p, q)) (x a : ℤ) (hx : x ≡ p) (ha : a ≡ e.0) where
  second : lt_z x a ≡ false → same_z x a ≡ true → is_above (before_of last) e ≡ lt_z q e.1
  second f h = rw (s, ← hx, ← ha, f, h) refl

  pub above-second : (t u : Bool) → t ≡ lt_z x a → t ≡ false → u ≡ same_z x a → u ≡ true
      → (y b : ℤ) (v : Bool) → v ≡ lt_z y b → y ≡ q → b ≡ e.1 → v ≡ is_above (before_of last) e
  above-second t u l f g h y b v o hy hb = o ∙ ap₂ lt_z hy hb ∙ sym (second (sym l ∙ f) (sym g ∙ h))

-- ---- the order of an edge; a and b are its numbers as they are handed on, t says whether they are the same
module _ (undirected : Bool) (before : Before (ℤ × ℤ)) (e : ℤ × ℤ) (a b : ℤ) (t : Bool) (s : t ≡ same_z a b) (ha : a ≡ e.0)
    (hb : b ≡ e.1) where
  self : same_z e.0 e.1 ≡ t
  self = rw (← ha, ← hb) (sym s)

  pub order-self : t ≡ true → Some 5 ≡ order_fault undirected before e
  unfolding order_fault
  order-self f = rw (self, f) refl

  module _ (f : t ≡ false) where
    pub order-way : undirected ≡ true → (c d : ℤ) (u : Bool) → u ≡ lt_z c d → c ≡ e.1 → d ≡ e.0 → u ≡ true
        → Some 6 ≡ order_fault undirected before e
    unfolding order_fault
    order-way g c d u l hc hd h = let m : lt_z e.1 e.0 ≡ true = rw (← hc, ← hd) (sym l ∙ h) in rw (self, f, g, m) refl

    module _ (w : (undirected && lt_z e.1 e.0) ≡ false) (v : Bool) (g : v ≡ is_above before e) where
      pub order-rises : v ≡ true → None ≡ order_fault undirected before e
      unfolding order_fault
      order-rises h = let m : is_above before e ≡ true = sym g ∙ h in rw (self, f, w, m) refl

      pub order-falls : v ≡ false → Some 4 ≡ order_fault undirected before e
      unfolding order_fault
      order-falls h = let m : is_above before e ≡ false = sym g ∙ h in rw (self, f, w, m) refl

pub way-off : (undirected : Bool) (e : ℤ × ℤ) (c d : ℤ) (u : Bool) → u ≡ lt_z c d → c ≡ e.1 → d ≡ e.0 → u ≡ false
    → (undirected && lt_z e.1 e.0) ≡ false
way-off undirected e c d u l hc hd h = and-off undirected (lt_z e.1 e.0) (rw (← hc, ← hd) (sym l ∙ h))

-- ---- the test of an edge: its order, then its vertices
abbrev number_of : Option ℕ → ℕ → ℕ
number_of None m = m
number_of (Some n) m = n

abbrev look_fault : Option Arc → ℕ
look_fault (Some e) = 0
look_fault None = 7

test_by : (undirected : Bool) (place : ℤ → Option ℕ) (before : Before (ℤ × ℤ)) (e : ℤ × ℤ)
    → edge_test undirected place before e ≡ number_of (order_fault undirected before e) (look_fault (looked_by (place e.0) (place e.1)))
unfolding edge_test order_fault
test_by undirected place before e =
    go (same_z e.0 e.1) (undirected && lt_z e.1 e.0) (is_above before e) (place e.0) (place e.1)
  where
    go : (p q r : Bool) (x y : Option ℕ)
        → cond p 5 (cond q 6 (cond r (cond (is_there x && is_there y) 0 7) 4))
        ≡ number_of (cond p (Some 5) (cond q (Some 6) (cond r None (Some 4)))) (look_fault (looked_by x y))
    go true q r x y = refl
    go false true r x y = refl
    go false false false x y = refl
    go false false true None y = refl
    go false false true (Some u) None = refl
    go false false true (Some u) (Some v) = refl

-- a fault of order is none of number 0
faulted : {A : Type 0} (undirected : Bool) (before : Before (ℤ × ℤ)) (e : ℤ × ℤ) (n : ℕ) → order_fault undirected before e ≡ Some n
    → (file k : ℕ) (x : Said A) → unless n file k x ≡ refuses (at n file k)
unfolding order_fault
faulted undirected before e n h file k x = go (same_z e.0 e.1) (undirected && lt_z e.1 e.0) (is_above before e) h
  where
    go : (p q r : Bool) → cond p (Some 5) (cond q (Some 6) (cond r None (Some 4))) ≡ Some n → unless n file k x ≡ refuses (at n file k)
    go true q r h = let m : 5 ≡ n = cc in rw (← m) refl
    go false true r h = let m : 6 ≡ n = cc in rw (← m) refl
    go false false true h = no-case cc
    go false false false h = let m : 4 ≡ n = cc in rw (← m) refl

-- ---- an edge line
module _ (undirected : Bool) (most : ℕ) (place : ℤ → Option ℕ) (s : List ℕ) (c : Lines (ℤ × ℤ)) (k : Cursor) where
  abbrev step : Said (Option Arc × Lines (ℤ × ℤ))
  step = with_numbers place (edge_step undirected most place s c)

  pub edge-none : none k.at ≡ edge_line s c.at.at → gives (None, record { at = k; passed = c.passed; last = c.last }) ≡ step
  unfolding edge_step
  edge-none e = ap (λ y. with_numbers place (step_by edge_file most (edge_test undirected place) c y)) e

  module _ (x : Result (ℤ × ℤ) Fault) (e : reader_says k (Some x) ≡ edge_line s c.at.at) where
    by-edge : (y : Said (ℤ × ℤ)) → y ≡ counted edge_file most c.passed x
        → with_numbers place (onward y (tested edge_file most (edge_test undirected place) c k)) ≡ step
    unfolding edge_step
    by-edge y h =
        ap (with_numbers place)
        (by-count edge_file most (edge_test undirected place) c k x y h ∙ ap (step_by edge_file most (edge_test undirected place) c) e)

    pub edge-bad : (r : Refusal) → refuses r ≡ counted edge_file most c.passed x → refuses r ≡ step
    edge-bad r h = by-edge (refuses r) h

    module _ (v : ℤ × ℤ) (h : gives v ≡ counted edge_file most c.passed x) where
      by_test : (n : ℕ) → edge_test undirected place (before_of c.last) v ≡ n
          → with_numbers place (unless n edge_file (c.passed + 1) (gives (Some v, lines_at k.at (c.passed + 1) (Some v)))) ≡ step
      by_test n q = rw q at (by-edge (gives v) h)

      module _ (o : Option ℕ) (g : o ≡ order_fault undirected (before_of c.last) v) where
        test-is : edge_test undirected place (before_of c.last) v ≡ number_of o (look_fault (looked_by (place v.0) (place v.1)))
        test-is = test_by undirected place (before_of c.last) v ∙ rw g

        pub edge-fault : (n : ℕ) → o ≡ Some n → (r : Refusal) → r ≡ at n edge_file (c.passed + 1) → refuses r ≡ step
        edge-fault n q r j =
            ap refuses j
            ∙ ap (with_numbers place) (sym (faulted undirected (before_of c.last) v n (sym g ∙ q) edge_file (c.passed + 1)
            (gives (Some v, lines_at k.at (c.passed + 1) (Some v)))))
            ∙ by_test n (test-is ∙ ap (λ p. number_of p (look_fault (looked_by (place v.0) (place v.1)))) q)

        module _ (q : o ≡ None) (y : Option Arc) (w : y ≡ looked_by (place v.0) (place v.1)) where
          pub edge-unknown : y ≡ None → (r : Refusal) → r ≡ at 7 edge_file (c.passed + 1) → refuses r ≡ step
          edge-unknown u r j =
              ap refuses j ∙ by_test 7 (test-is ∙ ap (λ p. number_of p (look_fault (looked_by (place v.0) (place v.1)))) q
              ∙ ap look_fault (sym w ∙ u))

          pub edge_more : (a : Arc) → y ≡ Some a → gives (Some a, record { at = k; passed = c.passed + 1; last = Some v }) ≡ step
          edge_more a u =
              let n : numbered place v ≡ a = numbers (place v.0) (place v.1) (sym w ∙ u) in
              rw (← n) (by_test 0 (test-is ∙ ap (λ p. number_of p (look_fault (looked_by (place v.0) (place v.1)))) q
              ∙ ap look_fault (sym w ∙ u)))
            where
              numbers : (x y : Option ℕ) → looked_by x y ≡ Some a → ◌≡◌ {A = ℕ × ℕ} (vertex_number x, vertex_number y) a
              numbers (Some i) (Some j) h = cc
              numbers (Some i) None h = no-case cc
              numbers None y h = no-case cc
