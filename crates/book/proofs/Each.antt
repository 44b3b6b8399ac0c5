-- Laws of the joins of one vertex with each of a list, for each `return` of the code and for a turn of its loop. Assumes nothing.
use mathlib.Core.Path.{◌≡◌, refl, sym, ap, ap₂, ◌∙◌, subst}
use mathlib.Core.List.{List, [], ◌∷◌}
use mathlib.Core.Bool.{Bool, true, false}
use mathlib.Core.Logic.{inl, inr}
use Prim.Native.Nat.{ℕ, suc, ◌+◌, ◌≤◌, ◌<◌}
use native.Mathlib.Omega.{arith}
use native.Mathlib.Numerals.{add-one}
use lib.IntN.{ℤ}
use lib.ListN.{length, get_or, drop, drop_of_length-le}
use lib.Dec.{leb}
use lib.Seq.{drop-cons}
use borrow.Author.Tests.{le-leb, eq-eqb, ne_eqb}
use Rattle.std.specs.Prelude.{◌==◌, Result, Ok, Err}
use Rattle.basis.specs.Limits.{most_vertices}
use Rattle.basis.specs.declared.refusal.Refusal.{Refusal}
use Rattle.basis.specs.Refusal.{Said, gives, refuses, plain, no_room, not_there, onward}
use Rattle.basis.proofs.Tests.{clash, no-case}
use Rattle.book.specs.Rules.{walk_end, Next, stop, is_stop, heads, Step, already, merge, Joining, merged, same, Machine, Outcome}
use Rattle.book.specs.Rules.{outcome, walk_from, heads_of, link_heads, decide, write_book}
use Rattle.book.specs.Rules.{join_book, Each, all, stopped, EachOutcome, each_outcome, counted, behind, and_on, join_each}
use Rattle.book.specs.One.{next_here, one, one_book}
use Rattle.book.specs.Steps.{AtHead, link_one, one_more, Walking}
use Rattle.book.specs.Says.{says_headed}
use Rattle.book.specs.declared.Head.{Head}
use Rattle.basis.proofs.Saids.{refused-given, given-one}
use Rattle.book.proofs.Calls.{heads-unlent, heads-missing, heads-missing2, heads-walked}
use Rattle.book.proofs.Faithful.{Mergeable}
use Rattle.book.proofs.Forest.{Whose}
use Rattle.book.proofs.OneBook.{faithful-one}
use Rattle.book.proofs.Carried.{carried-length, carried_other, carried_under}
use Rattle.book.proofs.Walked.{lent-within}
use Rattle.book.proofs.Joins.{link-merged, one-linked, one-first, one-second}

-- ---- a join whose heads are not found is refused
module _ (M : Machine) (a : M.Area) (u : ℕ) where
  pub join-lost : (w : ℕ) (r : Refusal) → refuses r ≡ heads_of (M.view a) u w → outcome (refuses r) a ≡ join_book M a u w
  unfolding join_book decide write_book
  join-lost w r e = ap (λ s. write_book M (onward s (link_heads (M.view a))) a) e

  -- where every join of u is refused, the first one of a list is
  each-lost : (r : Refusal) → ((w : ℕ) → outcome (refuses r) a ≡ join_book M a u w) → (ws : List ℕ) → (length ws ≡ 0 → ⊥)
      → each_outcome (stopped 0 0 r) a ≡ join_each M a u ws
  unfolding join_each and_on
  each-lost r h [] e = absurd (e refl)
  each-lost r h (w ∷ ws) e = ap (λ (d : Outcome Joining M.Area). and_on d.said d.area (join_each M d.area u ws)) (h w)

-- ---- the code's `join_each`
module _ (xs : List ℤ) (u : ℕ) (t : Bool) (e : t ≡ leb (length xs) most_vertices) where
  module _ (ws : List ℕ) (k : length ws ≡ 0 → ⊥) (x : Refusal) where
    pub each-unlent : t ≡ false → x ≡ plain no_room → each_outcome (stopped 0 0 x) xs ≡ join_each one_book xs u ws
    unfolding one
    each-unlent f p = each-lost one_book xs u x (λ w. join-lost one_book xs u w x (heads-unlent (one xs) u w t e x f p)) ws k

    pub each-missing : t ≡ true → length xs ≤ u → x ≡ plain not_there → each_outcome (stopped 0 0 x) xs ≡ join_each one_book xs u ws
    unfolding one
    each-missing f l p = each-lost one_book xs u x (λ w. join-lost one_book xs u w x (heads-missing (one xs) u w t e x f l p)) ws k

  pub walking_start : (at : Result Head Refusal) → t ≡ true → u < length xs → says_headed at ≡ walk_from (next_here xs) (length xs) u
      → Walking xs u at
  walking_start at f l p = record { lent = lent-within (length xs) t e f; inside = l; walk = p }

-- a list that is not empty, by the test for it
pub not-empty : (ws : List ℕ) → false ≡ (length ws == 0) → length ws ≡ 0 → ⊥
not-empty ws k z = clash (eq-eqb (length ws) 0 z) (sym k)

pub each_none : (xs : List ℤ) (u : ℕ) (ws : List ℕ) → true ≡ (length ws == 0) → each_outcome (all 0) xs ≡ join_each one_book xs u ws
unfolding join_each
each_none xs u [] e = refl
each_none xs u (w ∷ ws) e = clash (sym e) (ne_eqb (suc (length ws)) 0 (λ z. omega arith))

-- series behind series
pub behind-none : {B : Type 0} (e : EachOutcome B) → behind 0 0 e ≡ e
unfolding behind
behind-none e = ap (λ (x : Each). each_outcome x e.area) (go e.said)
  where
    go : (x : Each) → counted 0 0 x ≡ x
    go (all m) = let p : m + 0 ≡ m = omega arith in ap all p
    go (stopped k m r) =
        let p : m + 0 ≡ m = omega arith in
        let q : k + 0 ≡ k = omega arith in
        ap₂ (λ x y. stopped x y r) q p

behind_more : {B : Type 0} (k m j l : ℕ) (e : EachOutcome B) → behind k m (behind j l e) ≡ behind (k + j) (m + l) e
unfolding behind
behind_more k m j l e = ap (λ (x : Each). each_outcome x e.area) (go e.said)
  where
    go : (x : Each) → counted k m (counted j l x) ≡ counted (k + j) (m + l) x
    go (all n) = let p : n + l + m ≡ n + (m + l) = omega arith in ap all p
    go (stopped i n r) =
        let p : n + l + m ≡ n + (m + l) = omega arith in
        let q : i + j + k ≡ i + (k + j) = omega arith in
        ap₂ (λ x y. stopped x y r) q p

-- a turn of the loop, where i members were joined and m of the joins merged, and its end
module _ (a : EachOutcome (List ℤ)) (b : List ℤ) (u : ℕ) (ws : List ℕ) (i m : ℕ)
    (f : behind i m (join_each one_book b u (drop i ws)) ≡ a) where
  pub each-end : length ws ≤ i → each_outcome (all m) b ≡ a
  unfolding join_each behind
  each-end l =
      let p : m ≡ 0 + m = omega arith in
      ap (λ (k : ℕ). each_outcome (all k) b) p ∙ ap (λ (x : List ℕ). behind i m (join_each one_book b u x)) (sym (drop_of_length-le ws l))
      ∙ f

  module _ (l : i < length ws) (c : List ℤ) where
    turned : (s : Said Joining) → outcome s c ≡ join_book one_book b u (get_or ws i 0)
        → behind i m (and_on s c (join_each one_book c u (drop (i + 1) ws))) ≡ a
    unfolding join_each
    turned s e =
        rw add-one
        (ap (λ (d : Outcome Joining (List ℤ)). behind i m (and_on d.said d.area (join_each one_book d.area u (drop (suc i) ws)))) e
        ∙ ap (λ (x : List ℕ). behind i m (join_each one_book b u x)) (sym (drop-cons ws i 0 l)) ∙ f)

    pub each-merged : outcome (gives merged) c ≡ join_book one_book b u (get_or ws i 0)
        → behind (i + 1) (m + 1) (join_each one_book c u (drop (i + 1) ws)) ≡ a
    unfolding and_on
    each-merged e = sym (behind_more i m 1 1 _) ∙ turned (gives merged) e

    pub each-already : outcome (gives same) c ≡ join_book one_book b u (get_or ws i 0)
        → behind (i + 1) m (join_each one_book c u (drop (i + 1) ws)) ≡ a
    unfolding and_on
    each-already e =
        let z : m ≡ m + 0 = omega arith in
        ap (λ (k : ℕ). behind (i + 1) k (join_each one_book c u (drop (i + 1) ws))) z ∙ sym (behind_more i m 1 0 _)
        ∙ turned (gives same) e

    pub each-refused : (x : Refusal) → outcome (refuses x) c ≡ join_book one_book b u (get_or ws i 0) → each_outcome (stopped i m x) c ≡ a
    unfolding and_on behind
    each-refused x e =
        let k : i ≡ 0 + i = omega arith in
        let n : m ≡ 0 + m = omega arith in
        ap₂ (λ (y z : ℕ). each_outcome (stopped y z x) c) k n ∙ turned (refuses x) e

-- ---- a link
module _ (xs : List ℤ) (g h : ℕ) (ys : List ℤ) where
  -- that merges writes what a merge writes
  link-writes : outcome (gives merged) ys ≡ link_one xs g h
      → (t d s : ℕ) × (link_heads (one xs) (heads g h) ≡ gives (merge t d s)) × (ys ≡ one_book.merged t d s xs)
  unfolding link_one write_book
  link-writes e = go (link_heads (one xs) (heads g h)) refl
    where
      said_of : Outcome Joining (List ℤ) → Said Joining
      said_of d = d.said

      go : (d : Said Step) → link_heads (one xs) (heads g h) ≡ d
          → (t d s : ℕ) × (link_heads (one xs) (heads g h) ≡ gives (merge t d s)) × (ys ≡ one_book.merged t d s xs)
      go (gives already) q =
          let z : merged ≡ same = given-one (ap said_of (e ∙ ap (λ d. write_book one_book d xs) q)) in no-case cc
      go (gives (merge t d s)) q = (t, d, s, q, ap (λ (o : Outcome Joining (List ℤ)). o.area) (e ∙ ap (λ d. write_book one_book d xs) q))
      go (refuses r) q = refused-given (sym (ap said_of (e ∙ ap (λ d. write_book one_book d xs) q)))

-- ---- the code's `join_next`
module _ (xs : List ℤ) (u : ℕ) (at : Result Head Refusal) (x : Walking xs u at) where
  -- a join that does not merge leaves the area, and so the walk
  link-leaves : (ys : List ℤ) (g h : ℕ) (s : Said Joining) → outcome s ys ≡ link_one xs g h → (s ≡ gives merged → ⊥) → ys ≡ xs
  unfolding link_one write_book
  link-leaves ys g h s e n = go (link_heads (one xs) (heads g h)) e
    where
      go : (d : Said Step) → outcome s ys ≡ write_book one_book d xs → ys ≡ xs
      go (gives already) q = ap (λ (b : Outcome Joining (List ℤ)). b.area) q
      go (gives (merge top under total)) q = absurd (n (ap (λ (b : Outcome Joining (List ℤ)). b.said) q))
      go (refuses r) q = ap (λ (b : Outcome Joining (List ℤ)). b.area) q

  kept : (ys : List ℤ) → ys ≡ xs → Walking ys u at
  kept ys e = subst (λ (b : List ℤ). Walking b u at) (sym e) x

  pub walking-refused : (ys : List ℤ) (g h : ℕ) (y : Refusal) → outcome (refuses y) ys ≡ link_one xs g h → Walking ys u at
  walking-refused ys g h y e = kept ys (link-leaves ys g h (refuses y) e (λ q. refused-given q))

  lent : true ≡ (one xs).fit
  unfolding one
  lent = sym (le-leb (length xs) most_vertices x.lent)

  module _ (w : ℕ) where
    pub next-missing : (r : Refusal) → length xs ≤ w → r ≡ plain not_there → outcome (refuses r) xs ≡ join_book one_book xs u w
    unfolding one
    next-missing r l p = join-lost one_book xs u w r (heads-missing2 (one xs) u w true lent r refl x.inside l p)

    module _ (l : w < length xs) where
      pub next-lost : (r : Refusal) → at ≡ Err r → outcome (refuses r) xs ≡ join_book one_book xs u w
      unfolding one
      next-lost r e =
          join-lost one_book xs u w r
          (heads-walked (one xs) u w true lent (refuses r) _ refl x.inside l (sym (ap says_headed e) ∙ x.walk) refl)

      -- u's walk, of k moves, ends at g
      module _ (g k : ℕ) (p : at ≡ Ok (record { head = g; moves = k })) where
        ended : gives (walk_end g k) ≡ walk_from (next_here xs) (length xs) u
        ended = sym (ap says_headed p) ∙ x.walk

        pub next-lost2 : (r : Refusal) → refuses r ≡ walk_from (next_here xs) (length xs) w
            → outcome (refuses r) xs ≡ join_book one_book xs u w
        unfolding one
        next-lost2 r q =
            join-lost one_book xs u w r (heads-walked (one xs) u w true lent (gives (walk_end g k)) (refuses r) refl x.inside l ended q)

        -- w's walk, of j moves, ends at h
        module _ (h j : ℕ) (q : gives (walk_end h j) ≡ walk_from (next_here xs) (length xs) w) where
          both : gives (heads g h) ≡ heads_of (one xs) u w
          unfolding one
          both = heads-walked (one xs) u w true lent (gives (walk_end g k)) (gives (walk_end h j)) refl x.inside l ended q

          pub next-first : AtHead xs g
          next-first = one-first xs u w _ _ both

          pub next-second : AtHead xs h
          next-second = one-second xs u w _ _ both

          pub next-first-in : (ys : List ℤ) → length ys ≡ length xs → g < length ys
          next-first-in ys e = omega (arith, next-first.inside)

          -- what the link says is what the join says
          module _ (ys : List ℤ) where
            pub next-joined : (s : Said Joining) → outcome s ys ≡ link_one xs g h → outcome s ys ≡ join_book one_book xs u w
            next-joined s e = one-linked xs u w _ _ both _ e

            -- where they merge, u's head stays or goes under the other
            module _ (f : outcome (gives merged) ys ≡ link_one xs g h) where
              shape : (top under s : ℕ) × (ys ≡ one_book.merged top under s xs) × Mergeable (one xs) top under s
                  × Whose (λ v. v) g h top under
              shape =
                  let o = link-writes xs g h ys f in
                  let m = link-merged (one xs) u w g h (sym both) o.0 o.1 o.2 o.3 in
                  (o.0, o.1, o.2, o.4, m.0, m.1)

              stays : g ≡ shape.0 → next_here ys g ≡ stop
              unfolding one
              stays e =
                  let m = shape.4 in
                  ap₂ next_here shape.3 e ∙ faithful-one.merged-next xs shape.0 shape.1 shape.2 m shape.0 m.apart
                  ∙ m.top_head

              goes : g ≡ shape.1 → next_here ys g ≡ Next.to shape.0
              unfolding one
              goes e = ap₂ next_here shape.3 e ∙ faithful-one.merged-under xs shape.0 shape.1 shape.2 shape.4

              -- the walk anew, in the area that the merge leaves
              again : (r : Result Head Refusal)
                  → says_headed r ≡ walk_from (next_here (one_book.merged shape.0 shape.1 shape.2 xs))
                  (length (one_book.merged shape.0 shape.1 shape.2 xs)) u
                  → Walking ys u r
              again r d =
                  let c = carried-length xs u g k x.inside ended shape.0 shape.1 shape.2 shape.4 in
                  subst (λ (b : List ℤ). Walking b u r) (sym shape.3)
                  (record { lent = omega (arith, c, x.lent); inside = omega (arith, c, x.inside); walk = d })

              on-top : is_stop (next_here ys g) ≡ true → Walking ys u at
              on-top y = go shape.5
                where
                  go : Whose (λ v. v) g h shape.0 shape.1 → Walking ys u at
                  go (inl e) =
                      again at (ap says_headed p ∙ carried_other xs u g k x.inside ended shape.0 shape.1 shape.2 shape.4
                      (λ z. shape.4.apart (sym e.0 ∙ z)))
                  go (inr e) = clash y (ap is_stop (goes e.0))

              went-under : is_stop (next_here ys g) ≡ false → (r : Result Head Refusal) → says_headed r ≡ one_more k h → Walking ys u r
              went-under y r o = go shape.5
                where
                  go : Whose (λ v. v) g h shape.0 shape.1 → Walking ys u r
                  go (inl e) = clash (ap is_stop (stays e.0)) y
                  go (inr e) =
                      again r (o ∙ ap (one_more k) e.1 ∙ carried_under xs u g k x.inside ended shape.0 shape.1 shape.2 shape.4 e.0)

            -- t says whether u's head is a head still
            module _ (t : Bool) (y : t ≡ is_stop (next_here ys g)) where
              same-area : outcome (gives same) ys ≡ link_one xs g h → ys ≡ xs
              same-area e = link-leaves ys g h (gives same) e (λ z. no-case cc)

              pub next-top : (d : Joining) → outcome (gives d) ys ≡ link_one xs g h → t ≡ true → Walking ys u at
              next-top merged e i = on-top e (sym y ∙ i)
              next-top same e i = kept ys (same-area e)

              pub next-under : (d : Joining) → outcome (gives d) ys ≡ link_one xs g h → t ≡ false → (r : Result Head Refusal)
                  → says_headed r ≡ one_more k h
                  → Walking ys u r
              next-under merged e i = went-under e (sym y ∙ i)
              next-under same e i =
                  clash (ap is_stop (ap (λ (b : List ℤ). next_here b g) (same-area e) ∙ next-first.head)) (sym y ∙ i)
