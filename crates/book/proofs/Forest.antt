-- The invariant of a book, over what its areas show of a vertex: where a walk goes, and at a head a size. Assumes nothing.
use mathlib.Core.Path.{◌≡◌, refl, sym, ap, ◌∙◌}
use mathlib.Core.List.Memᴰ
use mathlib.Core.List.{List, [], ◌∷◌, Memᴰ}
use mathlib.Core.Bool.{cond}
use mathlib.Core.Logic.{◌⊎◌, ⊎_elim}
use Prim.Native.Nat.{ℕ, zero, suc, ◌+◌, ◌^◌, ◌≤◌, ◌<◌}
use native.Mathlib.Omega.{arith}
use native.Mathlib.Decide.{ℕ_discrete}
use lib.Dec.{eqb}
use borrow.Author.Tests.{eq-eqb, ne_eqb}
use Rattle.basis.specs.Refusal.{gives}
use Rattle.basis.proofs.Tests.{no-case}
use Rattle.book.specs.Rules.{Next, stop, to, walk_end, is_stop, tally, walk}
use Rattle.basis.specs.Scan.{bit}
use Rattle.basis.specs.Closure.{Linked, itself, by, back, on}
use Rattle.basis.proofs.Closures.{linked-within}
use Rattle.book.specs.Series.{Slip, slip, Accepted}
use Rattle.book.proofs.Walks.{walk-head, walk-move}
use Rattle.book.proofs.Tally.{tally-sum, tally-same, tally-all, tally-one, tally-less}

-- ---- from a vertex to its head in k moves

abbrev pub Reach : (ℕ → Next) → ℕ → ℕ → ℕ → ℕ → Type 0
Reach next n v h zero = (v < n) × (v ≡ h) × (next v ≡ stop)
Reach next n v h (suc k) = (p : ℕ) × (v < n) × (next v ≡ to p) × Reach next n p h k

module _ (next : ℕ → Next) (n : ℕ) where
  pub reach-in : (k v h : ℕ) → Reach next n v h k → v < n
  reach-in zero v h r = r.0
  reach-in (suc k) v h r = r.1

  pub reach-walk : (k left m v h : ℕ) → Reach next n v h k → k ≤ left → walk next n left m v ≡ gives (walk_end h (m + k))
  reach-walk zero left m v h r l =
      let e : m ≡ m + 0 = omega arith in
      let q : v ≡ h = r.1 in
      walk-head next n left m v r.2 ∙ cc
  reach-walk (suc k) zero m v h r l = absurd (omega arith)
  reach-walk (suc k) (suc left) m v h r l =
      let e : m + 1 + k ≡ m + suc k = omega arith in
      walk-move next n left m v r.0 r.2 (reach-in k r.0 h r.3) ∙ reach-walk k left (m + 1) r.0 h r.3 (omega arith)
      ∙ ap (λ (k : ℕ). gives (walk_end h k)) e

  pub reach-head : (k v h : ℕ) → Reach next n v h k → (h < n) × (next h ≡ stop)
  reach-head zero v h r = let q : v ≡ h = r.1 in (rw q at r.0, rw q at r.2)
  reach-head (suc k) v h r = reach-head k r.0 h r.3

-- ---- after the head `under` went under the head `top`

module _ (next next' : ℕ → Next) (n top under : ℕ) (top_in : top < n) (top_head : next top ≡ stop) (under-head : next under ≡ stop)
    (apart : top ≡ under → ⊥)
    (at : next' under ≡ to top) (off : (x : ℕ) → (x ≡ under → ⊥) → next' x ≡ next x) where
  moves-on : (x p : ℕ) → next x ≡ to p → x ≡ under → ⊥
  moves-on x p m e = let q : stop ≡ to p = sym under-head ∙ ap next (sym e) ∙ m in no-case cc

  pub reach-other : (k v h : ℕ) → (h ≡ under → ⊥) → Reach next n v h k → Reach next' n v h k
  reach-other zero v h d r = (r.0, r.1, off v (λ e. d (sym r.1 ∙ e)) ∙ r.2)
  reach-other (suc k) v h d r = (r.0, r.1, off v (moves-on v r.0 r.2) ∙ r.2, reach-other k r.0 h d r.3)

  pub reach-under : (k v : ℕ) → Reach next n v under k → Reach next' n v top (suc k)
  reach-under zero v r = (top, r.0, ap next' r.1 ∙ at, (top_in, refl, off top apart ∙ top_head))
  reach-under (suc k) v r = (r.0, r.1, off v (moves-on v r.0 r.2) ∙ r.2, reach-under k r.0 r.3)

-- ---- chains of joins

-- a chain of joins stays one when another join comes before them
pub linked-more : {js : List Slip} (s : Slip) {u v : ℕ} → Linked (Accepted js) u v → Linked (Accepted (s ∷ js)) u v
linked-more s l = linked-within (λ x y m. Memᴰ.tail m) l

-- ---- the invariant

-- The book of n vertices: each vertex has a head and a depth; a group of depth k has at least 2 to the k vertices;
-- a head's size is its group's;
-- heads are the same exactly along chains of joins; and the heads and the merges make n.
pub record Forest (n : ℕ) (next : ℕ → Next) (size : ℕ → ℕ) (js : List Slip) (m : ℕ) : Type 0 where
  pub head : ℕ → ℕ
  pub depth : ℕ → ℕ
  pub reach : (v : ℕ) → v < n → Reach next n v (head v) (depth v)
  pub deep : (v : ℕ) → v < n → 2 ^ depth v ≤ size (head v)
  pub sized : (h : ℕ) → h < n → next h ≡ stop → size h ≡ tally (λ x. eqb (head x) h) n
  pub joined : (x y : ℕ) → Memᴰ (slip x y) js → head x ≡ head y
  pub chained : (v : ℕ) → v < n → Linked (Accepted js) v (head v)
  pub counted : tally (λ v. is_stop (next v)) n + m ≡ n

-- a book that is opened
pub forest-open : (n : ℕ) (next : ℕ → Next) (size : ℕ → ℕ) → ((v : ℕ) → v < n → next v ≡ stop) → ((v : ℕ) → v < n → size v ≡ 1)
    → Forest n next size [] 0
forest-open n next size p s = record {
  head = λ v. v;
  depth = λ v. 0;
  reach = λ v l. (l, refl, p v l);
  deep = λ v l. omega (arith, s v l);
  sized = λ h l e. s h l ∙ sym (tally-one h n l);
  joined = λ x y m. absurd (Memᴰ.not-nil m);
  chained = λ v l. itself v;
  counted = omega (arith, tally-all (λ v. is_stop (next v)) n (λ x l. ap is_stop (p x l)));
}

-- a join of two vertices of one group
pub forest-already : (n : ℕ) (next : ℕ → Next) (size : ℕ → ℕ) (js : List Slip) (m : ℕ) (F : Forest n next size js m) (u v : ℕ)
    → F.head u ≡ F.head v
    → Forest n next size (slip u v ∷ js) m
forest-already n next size js m F u v e = record {
  head = F.head;
  depth = F.depth;
  reach = F.reach;
  deep = F.deep;
  sized = F.sized;
  joined = λ x y m. ⊎_elim (λ q. ap (λ s. F.head s.left) q ∙ e ∙ sym (ap (λ s. F.head s.right) q)) (λ k. F.joined x y k)
      (Memᴰ.cases_cons m);
  chained = λ x l. linked-more (slip u v) (F.chained x l);
  counted = F.counted;
}

-- ---- a join that merges two groups

-- the head of x, once `under` is under `top`; and its depth
abbrev pub new_head : ℕ → ℕ → ℕ → ℕ
new_head top under h = cond (eqb h under) top h

abbrev pub new_depth : ℕ → ℕ → ℕ → ℕ
new_depth under h d = cond (eqb h under) (suc d) d

-- the heads of u and v are g and h, or the other way round
abbrev pub Whose : (ℕ → ℕ) → ℕ → ℕ → ℕ → ℕ → Type 0
Whose head u v g h = ((head u ≡ g) × (head v ≡ h)) ⊎ ((head u ≡ h) × (head v ≡ g))

module _ (n : ℕ) (next next' : ℕ → Next) (size size' : ℕ → ℕ) (js : List Slip) (m : ℕ) (F : Forest n next size js m) (u v top under : ℕ)
    (u-in : u < n) (v-in : v < n) (top_in : top < n) (under-in : under < n) (top_head : next top ≡ stop) (under-head : next under ≡ stop)
    (apart : top ≡ under → ⊥) (whose : Whose F.head u v top under) (smaller : size under ≤ size top)
    (at : next' under ≡ to top) (off : (x : ℕ) → (x ≡ under → ⊥) → next' x ≡ next x)
    (sum : size' top ≡ size top + size under) (rest : (x : ℕ) → (x ≡ top → ⊥) → (x ≡ under → ⊥) → size' x ≡ size x) where
  head' : ℕ → ℕ
  head' x = new_head top under (F.head x)

  depth' : ℕ → ℕ
  depth' x = new_depth under (F.head x) (F.depth x)

  merged-reach : (x : ℕ) → x < n → Reach next' n x (head' x) (depth' x)
  unfolding head' depth'
  merged-reach x l = go (ℕ_discrete (F.head x) under)
    where
      go : Dec (F.head x ≡ under) → Reach next' n x (new_head top under (F.head x)) (new_depth under (F.head x) (F.depth x))
      go (yes q) =
          simp (eq-eqb _ _ q) (reach-under next next' n top under top_in top_head under-head apart at off (F.depth x) x
          (rw q at (F.reach x l)))
      go (no q) =
          simp (ne_eqb _ _ q) (reach-other next next' n top under top_in top_head under-head apart at off (F.depth x) x (F.head x) q
          (F.reach x l))

  merged-deep : (x : ℕ) → x < n → 2 ^ depth' x ≤ size' (head' x)
  unfolding head' depth'
  merged-deep x l = go (ℕ_discrete (F.head x) under)
    where
      top? : (F.head x ≡ under → ⊥) → Dec (F.head x ≡ top) → 2 ^ F.depth x ≤ size' (F.head x)
      top? d (yes q) = rw q (omega (arith, sum, rw q at (F.deep x l)))
      top? d (no q) = omega (arith, rest (F.head x) q d, F.deep x l)

      go : Dec (F.head x ≡ under) → 2 ^ new_depth under (F.head x) (F.depth x) ≤ size' (new_head top under (F.head x))
      go (yes q) =
          let t : 2 ^ suc (F.depth x) ≤ size' top = omega (arith, sum, smaller, rw q at (F.deep x l)) in
          simp (eq-eqb _ _ q) t
      go (no q) = simp (ne_eqb _ _ q) (top? q (ℕ_discrete (F.head x) top))

  -- a head of the new book was one before, and is not `under`
  still : (h : ℕ) → next' h ≡ stop → (h ≡ under → ⊥) × (next h ≡ stop)
  still h e =
      let d : h ≡ under → ⊥ = λ q. (let f : to top ≡ stop = sym at ∙ ap next' (sym q) ∙ e in no-case cc) in
      (d, sym (off h d) ∙ e)

  merged-sized : (h : ℕ) → h < n → next' h ≡ stop → size' h ≡ tally (λ x. eqb (head' x) h) n
  unfolding head'
  merged-sized h l e = go (ℕ_discrete h top)
    where
      bits : (x : ℕ) → Dec (F.head x ≡ under) → bit (eqb (new_head top under (F.head x)) top)
          ≡ bit (eqb (F.head x) top) + bit (eqb (F.head x) under)
      bits x (yes q) =
          let d : F.head x ≡ top → ⊥ = λ r. apart (sym r ∙ q) in
          simp (eq-eqb _ _ q, eq-eqb top top refl, ne_eqb _ _ d)
      bits x (no q) = simp (ne_eqb _ _ q) (omega arith)

      same : (h ≡ top → ⊥) → (x : ℕ) → Dec (F.head x ≡ under) → eqb (F.head x) h ≡ eqb (new_head top under (F.head x)) h
      same d x (yes q) =
          let a : F.head x ≡ h → ⊥ = λ r. (still h e).0 (sym r ∙ q) in
          simp (eq-eqb _ _ q, ne_eqb top h (λ r. d (sym r)), ne_eqb _ _ a)
      same d x (no q) = simp (ne_eqb _ _ q)

      go : Dec (h ≡ top) → size' h ≡ tally (λ x. eqb (new_head top under (F.head x)) h) n
      go (yes q) =
          rw q (sum ∙ omega (
            arith,
            F.sized top top_in top_head,
            F.sized under under-in under-head,
            tally-sum (λ x. eqb (F.head x) top) (λ x. eqb (F.head x) under) (λ x. eqb (new_head top under (F.head x)) top) n
                (λ x _. bits x (ℕ_discrete (F.head x) under)),
          ))
      go (no q) =
          rest h q (still h e).0 ∙ F.sized h l (still h e).1
          ∙ tally-same (λ x. eqb (F.head x) h) (λ x. eqb (new_head top under (F.head x)) h) n
          (λ x _. same q x (ℕ_discrete (F.head x) under))

  -- the two that were joined have one head
  both : head' u ≡ head' v
  unfolding head'
  both = ⊎_elim (λ w. go u v w.0 w.1) (λ w. sym (go v u w.1 w.0)) whose
    where
      go : (x y : ℕ) → F.head x ≡ top → F.head y ≡ under → new_head top under (F.head x) ≡ new_head top under (F.head y)
      go x y p q = rw (p, q) (simp (ne_eqb top under apart, eq-eqb under under refl))

  -- the old heads are linked by the new join
  heads-linked : Linked (Accepted (slip u v ∷ js)) under top
  heads-linked = ⊎_elim (λ w. back (go w.0 w.1)) (λ w. go w.0 w.1) whose
    where
      go : {g h : ℕ} → F.head u ≡ g → F.head v ≡ h → Linked (Accepted (slip u v ∷ js)) g h
      go p q = rw (← p, ← q) (on (back (linked-more (slip u v) (F.chained u u-in)))
          (on (by (Memᴰ.head refl)) (linked-more (slip u v) (F.chained v v-in))))

  merged-chained : (x : ℕ) → x < n → Linked (Accepted (slip u v ∷ js)) x (head' x)
  unfolding head'
  merged-chained x l = go (ℕ_discrete (F.head x) under)
    where
      go : Dec (F.head x ≡ under) → Linked (Accepted (slip u v ∷ js)) x (new_head top under (F.head x))
      go (yes q) = simp (eq-eqb _ _ q) (on (rw q at (linked-more (slip u v) (F.chained x l))) heads-linked)
      go (no q) = simp (ne_eqb _ _ q) (linked-more (slip u v) (F.chained x l))

  merged-joined : (x y : ℕ) → Memᴰ (slip x y) (slip u v ∷ js) → head' x ≡ head' y
  unfolding head'
  merged-joined x y k =
      ⊎_elim (λ q. ap (λ s. head' s.left) q ∙ both ∙ sym (ap (λ s. head' s.right) q)) (λ k. ap (new_head top under) (F.joined x y k))
      (Memᴰ.cases_cons k)

  merged-counted : tally (λ x. is_stop (next' x)) n + suc m ≡ n
  merged-counted =
      omega (
        arith,
        F.counted,
        tally-less (λ x. is_stop (next' x)) (λ x. is_stop (next x)) under n under-in (ap is_stop at) (ap is_stop under-head)
            (λ x q. ap is_stop (off x q)),
      )

  pub forest-merged : Forest n next' size' (slip u v ∷ js) (suc m)
  forest-merged = record {
    head = head';
    depth = depth';
    reach = merged-reach;
    deep = merged-deep;
    sized = merged-sized;
    joined = merged-joined;
    chained = merged-chained;
    counted = merged-counted;
  }
