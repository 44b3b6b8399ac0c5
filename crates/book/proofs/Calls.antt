-- Laws of the calls that read: for each `return` of the code what the call says, its premises the tests on the way there. Assumes nothing.
use mathlib.Core.Path.{◌≡◌, refl, sym, ap, ap₂, ◌∙◌}
use mathlib.Core.Bool.{Bool, true, false, ◌&&◌}
use mathlib.Core.Logic.{◌⊎◌, inl, inr}
use Prim.Native.Nat.{ℕ, suc, ◌+◌, ◌≤◌, ◌<◌}
use native.Mathlib.Omega.{arith}
use native.Mathlib.Decide.{dec_lt}
use native.Mathlib.Numerals.{add-one}
use lib.Dec.{leb, ltb, eqb}
use borrow.Author.Tests.{ltb-true, leb-true, lt-ltb, le-ltb, le-leb, lt-leb}
use Rattle.basis.proofs.Saids.{refused-given, given-one, check-on, check-off, check-passed, onward-passed}
use Rattle.basis.specs.declared.refusal.Refusal.{Refusal}
use Rattle.basis.specs.Refusal.{Said, gives, refuses, plain, no_room, unsound, not_there, onward}
use Rattle.basis.proofs.Tests.{and_first, and_second, and_both, and-off, failed, held}
use Rattle.book.specs.Rules.{most_moves, Next, stop, View, WalkEnd, walk_end, Heads, heads, walk_from, head_of, pair, heads_of, one_head}
use Rattle.book.specs.Rules.{same_group, size_at, group_size, tally, is_stop, group_count, largest, limit_of, step_limit}
use Rattle.book.proofs.Tally.{tally-yes, tally-no}
use Rattle.book.proofs.Walks.{walk_from-in}

-- ---- the head
module _ (w : View) (v : ℕ) where
  pub head_walk : w.fit ≡ true → v < w.count → head_of w v ≡ walk_from w.next w.count v
  unfolding head_of
  head_walk a d = check-on w.fit no_room _ a ∙ check-on (ltb v w.count) not_there _ (lt-ltb v w.count d)

  -- a head that is given was walked to
  pub head-inside : (f : WalkEnd) → head_of w v ≡ gives f → (w.fit ≡ true) × (v < w.count) × (walk_from w.next w.count v ≡ gives f)
  unfolding head_of
  head-inside f e =
      let l = check-passed w.fit no_room _ f e in
      let t = check-passed (ltb v w.count) not_there _ f l.1 in
      (l.0, ltb-true v w.count t.0, t.1)

  module _ (t : Bool) (e : t ≡ w.fit) where
    pub head-unlent : (x : Refusal) → t ≡ false → x ≡ plain no_room → refuses x ≡ head_of w v
    unfolding head_of
    head-unlent x f p = ap refuses p ∙ sym (check-off w.fit no_room _ (failed t _ e f))

    pub head-missing : (x : Refusal) → t ≡ true → w.count ≤ v → x ≡ plain not_there → refuses x ≡ head_of w v
    unfolding head_of
    head-missing x f l p =
        ap refuses p ∙ sym (check-on w.fit no_room _ (held t _ e f) ∙ check-off (ltb v w.count) not_there _ (le-ltb v w.count l))

    pub head-walked : (s : Said WalkEnd) → t ≡ true → v < w.count → s ≡ walk_from w.next w.count v → s ≡ head_of w v
    head-walked s f l p = p ∙ sym (head_walk (held t _ e f) l)

-- ---- the heads of two vertices
module _ (w : View) (u v : ℕ) where
  pub heads-walks : w.fit ≡ true → u < w.count → v < w.count
      → heads_of w u v ≡ pair (walk_from w.next w.count u) (walk_from w.next w.count v)
  unfolding heads_of
  heads-walks a d e =
      check-on w.fit no_room _ a ∙ check-on (ltb u w.count) not_there _ (lt-ltb u w.count d)
      ∙ check-on (ltb v w.count) not_there _ (lt-ltb v w.count e)

  pair-passed : (s t : Said WalkEnd) (g h : ℕ) → pair s t ≡ gives (heads g h)
      → (k l : ℕ) × (s ≡ gives (walk_end g k)) × (t ≡ gives (walk_end h l))
  pair-passed (gives f) (gives x) g h e =
      let q = given-one e in (
        f.moves,
        x.moves,
        ap (λ (p : Heads). gives (walk_end p.first f.moves)) q,
        ap (λ (p : Heads). gives (walk_end p.second x.moves)) q,
      )
  pair-passed (gives f) (refuses r) g h e = refused-given e
  pair-passed (refuses r) t g h e = refused-given e

  pub heads-inside : (g h : ℕ) → heads_of w u v ≡ gives (heads g h)
      → (w.fit ≡ true) × (u < w.count) × (v < w.count)
      × ((k l : ℕ) × (walk_from w.next w.count u ≡ gives (walk_end g k)) × (walk_from w.next w.count v ≡ gives (walk_end h l)))
  unfolding heads_of
  heads-inside g h e =
      let l = check-passed w.fit no_room _ _ e in
      let t = check-passed (ltb u w.count) not_there _ _ l.1 in
      let b = check-passed (ltb v w.count) not_there _ _ t.1 in (
        l.0,
        ltb-true u w.count t.0,
        ltb-true v w.count b.0,
        pair-passed (walk_from w.next w.count u) (walk_from w.next w.count v) g h b.1,
      )

  -- heads that are given are in the area
  pub heads-below : (g h : ℕ) → heads_of w u v ≡ gives (heads g h)
      → (g < w.count) × (w.next g ≡ stop) × (h < w.count) × (w.next h ≡ stop)
  heads-below g h e =
      let t = heads-inside g h e in
      let a = walk_from-in w.next w.count u (walk_end g t.3.0) t.1 t.3.2 in
      let b = walk_from-in w.next w.count v (walk_end h t.3.1) t.2 t.3.3 in
      (a.0, a.1, b.0, b.1)

  module _ (t : Bool) (e : t ≡ w.fit) where
    pub heads-unlent : (x : Refusal) → t ≡ false → x ≡ plain no_room → refuses x ≡ heads_of w u v
    unfolding heads_of
    heads-unlent x f p = ap refuses p ∙ sym (check-off w.fit no_room _ (failed t _ e f))

    pub heads-missing : (x : Refusal) → t ≡ true → w.count ≤ u → x ≡ plain not_there → refuses x ≡ heads_of w u v
    unfolding heads_of
    heads-missing x f l p =
        ap refuses p ∙ sym (check-on w.fit no_room _ (held t _ e f) ∙ check-off (ltb u w.count) not_there _ (le-ltb u w.count l))

    pub heads-missing2 : (x : Refusal) → t ≡ true → u < w.count → w.count ≤ v → x ≡ plain not_there → refuses x ≡ heads_of w u v
    unfolding heads_of
    heads-missing2 x f d l p =
        ap refuses p
        ∙ sym (check-on w.fit no_room _ (held t _ e f) ∙ check-on (ltb u w.count) not_there _ (lt-ltb u w.count d)
        ∙ check-off (ltb v w.count) not_there _ (le-ltb v w.count l))

    pub heads-walked : (s z : Said WalkEnd) → t ≡ true → u < w.count → v < w.count → s ≡ walk_from w.next w.count u
        → z ≡ walk_from w.next w.count v
        → pair s z ≡ heads_of w u v
    heads-walked s z f a b p q = sym (heads-walks (held t _ e f) a b ∙ ap₂ pair (sym p) (sym q))

  -- a call that names, first or second, a number that is none of the n vertices
  pub heads-outside : (n : ℕ) → w.fit ≡ true → w.count ≡ n → (n ≤ u) ⊎ (n ≤ v) → heads_of w u v ≡ refuses (plain not_there)
  heads-outside n f c o = sym (go o (dec_lt u w.count))
    where
      missing : w.count ≤ u → refuses (plain not_there) ≡ heads_of w u v
      missing l = heads-missing true (sym f) (plain not_there) refl l refl

      go : (n ≤ u) ⊎ (n ≤ v) → Dec (u < w.count) → refuses (plain not_there) ≡ heads_of w u v
      go o (no d) = missing (omega arith)
      go (inl l) (yes y) = missing (omega (arith, c))
      go (inr l) (yes y) = heads-missing2 true (sym f) (plain not_there) refl y (omega (arith, c)) refl

  -- ---- whether two are of one group
  pub same-refused : (x : Refusal) → refuses x ≡ heads_of w u v → refuses x ≡ same_group w u v
  unfolding same_group
  same-refused x e = ap (λ s. onward s one_head) e

  pub same-is : (g h : ℕ) → gives (heads g h) ≡ heads_of w u v → gives (eqb g h) ≡ same_group w u v
  unfolding same_group
  same-is g h e = ap (λ s. onward s one_head) e

-- ---- the size
module _ (w : View) (v : ℕ) where
  pub size-refused : (x : Refusal) → refuses x ≡ head_of w v → refuses x ≡ group_size w v
  unfolding group_size
  size-refused x e = ap (λ s. onward s (size_at w)) e

  module _ (h k : ℕ) (e : gives (walk_end h k) ≡ head_of w v) where
    size-at : group_size w v ≡ size_at w (walk_end h k)
    unfolding group_size
    size-at = ap (λ s. onward s (size_at w)) (sym e)

    pub size-large : (x : Refusal) → w.count < w.size h → x ≡ plain unsound → refuses x ≡ group_size w v
    size-large x a p =
        ap refuses p ∙ sym (size-at ∙ check-off _ unsound _ (and-off (ltb 0 (w.size h)) _ (lt-leb (w.size h) w.count a)))

    pub size_is : (w.size h ≡ 0 → ⊥) → w.size h ≤ w.count → gives (w.size h) ≡ group_size w v
    size_is a b =
        sym (size-at ∙ check-on _ unsound _ (and_both (lt-ltb 0 (w.size h) (omega (arith, a))) (le-leb (w.size h) w.count b)))

    -- the head that is read is one, in the area
    pub size_below : (w.fit ≡ true) × (h < w.count) × (w.next h ≡ stop)
    size_below =
        let t = head-inside w v (walk_end h k) (sym e) in
        let b = walk_from-in w.next w.count v (walk_end h k) t.1 t.2 in
        (t.0, b.0, b.1)

  -- a size that is given is one of a group of the book
  pub size-inside : (s : ℕ) → group_size w v ≡ gives s → (w.fit ≡ true) × (0 < s) × (s ≤ w.count)
  unfolding group_size
  size-inside s e =
      let t = onward-passed (head_of w v) (size_at w) s e in
      let k = check-passed (ltb 0 (w.size t.0.head) && leb (w.size t.0.head) w.count) unsound (gives (w.size t.0.head)) s
      t.2 in
      let q : w.size t.0.head ≡ s = given-one k.1 in (
        (head-inside w v t.0 t.1).0,
        rw q at (ltb-true 0 (w.size t.0.head) (and_first _ _ k.0)),
        rw q at (leb-true (w.size t.0.head) w.count (and_second (ltb 0 (w.size t.0.head)) _ k.0)),
      )

  -- ---- the step limit
  pub limit-refused : (x : Refusal) → refuses x ≡ group_size w v → refuses x ≡ step_limit w v
  unfolding step_limit
  limit-refused x e = ap (λ s. onward s limit_of) e

  module _ (s : ℕ) (e : gives s ≡ group_size w v) where
    pub limit_is : (k : ℕ) → k ≡ largest most_moves s → gives k ≡ step_limit w v
    unfolding step_limit
    limit_is k a = ap gives a ∙ ap (λ s. onward s limit_of) e

    pub limit-size : (w.fit ≡ true) × (0 < s) × (s ≤ w.count)
    limit-size = size-inside s (sym e)

-- ---- the count: t says whether i is a head
module _ (next : ℕ → Next) (i : ℕ) (t : Bool) (e : t ≡ is_stop (next i)) where
  pub count_head : t ≡ true → tally (λ v. is_stop (next v)) (i + 1) ≡ suc (tally (λ v. is_stop (next v)) i)
  count_head h = rw add-one (tally-yes (λ v. is_stop (next v)) i (sym e ∙ h))

  pub count-other : t ≡ false → tally (λ v. is_stop (next v)) (i + 1) ≡ tally (λ v. is_stop (next v)) i
  count-other h = rw add-one (tally-no (λ v. is_stop (next v)) i (sym e ∙ h))

module _ (w : View) (t : Bool) (e : t ≡ w.fit) where
  pub count-unlent : (x : Refusal) → t ≡ false → x ≡ plain no_room → refuses x ≡ group_count w
  unfolding group_count
  count-unlent x f p = ap refuses p ∙ sym (check-off w.fit no_room _ (failed t _ e f))

  pub count-is : (k : ℕ) → t ≡ true → k ≡ tally (λ v. is_stop (w.next v)) w.count → gives k ≡ group_count w
  unfolding group_count
  count-is k f p = sym (check-on w.fit no_room _ (held t _ e f) ∙ ap gives (sym p))
