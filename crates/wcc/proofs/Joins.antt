-- The book after the joins along every arc: its heads are heads of the components. Of the book it uses the facade `Held` alone.
-- Assumes nothing.
use Prim.Native.Nat.{ℕ, zero, suc, ◌≤◌, ◌<◌}
use mathlib.Core.Path.{◌≡◌, sym, ap, ap₂, ◌∙◌, subst}
use mathlib.Core.Logic.{◌⊎◌, inl, inr, ⊎_elim}
use mathlib.Core.Bool.{true}
use mathlib.Core.List.Memᴰ
use mathlib.Core.List.{List, [], ◌∷◌, Memᴰ}
use native.Mathlib.Nat.{not-suc-le-zero, le_of_suc-le-suc, eq-or-lt_of_le}
use native.Mathlib.Omega.{arith}
use lib.IntN.{ℤ}
use lib.ListN.{length, get_or}
use Rattle.basis.specs.Area.{column}
use Rattle.basis.specs.Closure.{Linked}
use Rattle.basis.specs.Scan.{Inside, mem}
use Rattle.basis.proofs.Areas.{column-at}
use Rattle.basis.proofs.Closures.{linked-within}
use Rattle.basis.proofs.Scans.{mem-none-of, mem-head, mem-tail, mem-cases}
use Rattle.book.specs.Rules.{all, open_book, join_each}
use Rattle.book.specs.One.{one, one_book}
use Rattle.book.specs.Series.{Slip, slip, put_each, head_in, head_at, Accepted}
use Rattle.book.proofs.OneBook.{faithful-one}
use Rattle.book.proofs.Held.{put-old, Held, one-open, held_all, held-each, held_kept, held-head}
use Rattle.wcc.specs.Component.{LinkedAmong, labels}
use Rattle.wcc.specs.Steps.{head_here, noted, join_arcs, grouped, marked, taken_over, Within, Fitting, Marking}
use Rattle.wcc.proofs.Passes.{Heads, labels-are}

-- ---- the joins along the arcs, the latest first
slips_of : (ℕ → List ℕ) → ℕ → List Slip
slips_of out zero = []
slips_of out (suc u) = put_each u (out u) (slips_of out u)

held-arcs : (n : ℕ) (out : ℕ → List ℕ) → Inside n out → (a : List ℤ) → Held one_book n a [] → (k : ℕ) → k ≤ n
    → Held one_book n (join_arcs out k a) (slips_of out k)
unfolding join_arcs slips_of
held-arcs n out inside a H zero l = H
held-arcs n out inside a H (suc k) l =
    held-each one_book faithful-one n (join_arcs out k a) (slips_of out k) (held-arcs n out inside a H k (omega arith)) k (out k)
    (omega arith)
    (inside k (omega arith))

-- and in a book just opened the joins along the arcs of each vertex are all accepted:
-- the answer that the code does not look at is no refusal
pub arcs-accepted : (n : ℕ) (out : ℕ → List ℕ) → Inside n out → (a : List ℤ) → Held one_book n a [] → (u : ℕ)
    → u < n
    → (m : ℕ) × ((join_each one_book (join_arcs out u a) u (out u)).said ≡ all m)
arcs-accepted n out inside a H u l =
    held_all one_book faithful-one n (join_arcs out u a) (slips_of out u) (held-arcs n out inside a H u (omega arith)) u (out u) l
    (inside u l)

-- ---- they are the arcs
part-new : (u : ℕ) (ws : List ℕ) (js : List Slip) (w : ℕ) → mem w ws ≡ true → Memᴰ (slip u w) (put_each u ws js)
unfolding put_each
part-new u [] js w t = absurd (mem-none-of w t)
part-new u (x ∷ ws) js w t =
    ⊎_elim (λ e. put-old u ws (slip u x ∷ js) (slip u w) (Memᴰ.head (ap (slip u) e))) (part-new u ws (slip u x ∷ js) w)
    (mem-cases w x ws t)

part-mem : (u : ℕ) (ws : List ℕ) (js : List Slip) (x y : ℕ) → Memᴰ (slip x y) (put_each u ws js)
    → Memᴰ (slip x y) js ⊎ ((x ≡ u) × (mem y ws ≡ true))
unfolding put_each
part-mem u [] js x y m = inl m
part-mem u (w ∷ ws) js x y m =
    ⊎_elim
    (λ a.
    ⊎_elim
    (λ e. inr (
      ap (λ (s : Slip). s.left) e,
      subst (λ (z : ℕ). mem z (w ∷ ws) ≡ true) (ap (λ (s : Slip). s.right) (sym e))
          (mem-head w ws),
    ))
    inl (Memᴰ.cases_cons a))
    (λ a. inr (a.0, mem-tail y w ws a.1))
    (part-mem u ws (slip u w ∷ js) x y m)

module _ (out : ℕ → List ℕ) where
  slips-new : (k u w : ℕ) → u < k → mem w (out u) ≡ true → Memᴰ (slip u w) (slips_of out k)
  unfolding slips_of
  slips-new zero u w l a = absurd (not-suc-le-zero l)
  slips-new (suc k) u w l a =
      ⊎_elim
      (λ e. subst (λ (x : ℕ). Memᴰ (slip x w) (put_each k (out k) (slips_of out k))) (sym e)
      (part-new k (out k) (slips_of out k) w (subst (λ (x : ℕ). mem w (out x) ≡ true) e a)))
      (λ h. put-old k (out k) (slips_of out k) (slip u w) (slips-new k u w h a))
      (eq-or-lt_of_le (le_of_suc-le-suc l))

  slips-mem : (k x y : ℕ) → Memᴰ (slip x y) (slips_of out k) → (x < k) × (mem y (out x) ≡ true)
  unfolding slips_of
  slips-mem zero x y m = absurd (Memᴰ.not-nil m)
  slips-mem (suc k) x y m =
      ⊎_elim
      (λ a. let r = slips-mem k x y a in (omega (arith, r.0), r.1))
      (λ a. (omega (arith, a.0), subst (λ (z : ℕ). mem y (out z) ≡ true) (sym a.0) a.1))
      (part-mem k (out k) (slips_of out k) x y m)

  -- a chain of accepted joins is a chain of arcs, and the other way round
  joins-linked : (n : ℕ) {u v : ℕ} → Linked (Accepted (slips_of out n)) u v → LinkedAmong n out u v
  joins-linked n l = linked-within (slips-mem n) l

  linked-joins : (n : ℕ) {u v : ℕ} → LinkedAmong n out u v → Linked (Accepted (slips_of out n)) u v
  linked-joins n l = linked-within (λ u w a. slips-new n u w a.0 a.1) l

-- ---- the heads of the book that the kernel makes in the area R, as they stand in hs₁
module _ (n : ℕ) (out : ℕ → List ℕ) (ids R : List ℤ) (hs : List ℕ) (x : Fitting n out ids R hs) (hs₁ : List ℕ)
    (found : hs₁ ≡ column (head_here (grouped out n R)) 0 (length hs)) where
  kept : Held one_book n (grouped out n R) (slips_of out n)
  unfolding grouped
  kept = held-arcs n out x.inside (open_book one_book R).area (one-open R n x.few x.result_room) n (omega arith)

  head-is : (v : ℕ) → v < n → noted hs₁ v ≡ head_at (one (grouped out n R)) v
  unfolding noted head_here
  head-is v l =
      ap (λ (l : List ℕ). get_or l v 0) found ∙ column-at (head_here (grouped out n R)) (length hs) v 0 (omega (arith, x.heads_room))
      ∙ ap head_in (held-head one_book faithful-one n (grouped out n R) (slips_of out n) kept v l)

  heads-are : Heads n out (noted hs₁)
  heads-are =
      let K = held_kept one_book faithful-one n (grouped out n R) (slips_of out n) kept in
      let g = head_at (one (grouped out n R)) in
      record {
        within = λ v l. omega (arith, head-is v l, K.inside v l);
        settled = λ v l. ap (noted hs₁) (head-is v l) ∙ head-is (g v) (K.inside v l) ∙ K.settled v l ∙ sym (head-is v l);
        same = λ u v k l. (
          λ e. joins-linked out n ((K.linked u v k l).0 (sym (head-is u k) ∙ e ∙ head-is v l)),
          λ p. head-is u k ∙ (K.linked u v k l).1 (linked-joins out n p) ∙ sym (head-is v l),
        );
      }

  -- what marking and taking over need of an area, whatever it holds
  module _ (R₂ : List ℤ) (e : length R₂ ≡ length R) where
    room : length R₂ ≡ n
    room = e ∙ x.result_room

    module _ (f : length hs₁ ≡ length hs) where
      pub marking : Marking hs₁ ids R₂
      marking = record {
        within = subst (λ (k : ℕ). Within k (noted hs₁)) (sym room) heads-are.within;
        headed = f ∙ x.heads_room ∙ sym room;
        named = x.named ∙ sym room;
      }

      module _ (R₃ : List ℤ) (h : length R₃ ≡ length R₂) where
        pub take_within : Within (length R₃) (noted hs₁)
        take_within = rw h marking.within

        pub take-headed : length hs₁ ≡ length R₃
        take-headed = marking.headed ∙ sym h

    -- and what they leave
    pub labelled : (R₃ R₄ : List ℤ) → R₃ ≡ marked (noted hs₁) ids (length R₂) R₂ → R₄ ≡ taken_over (noted hs₁) (length R₃) R₃
        → length R₃ ≡ length R₂
        → R₄ ≡ labels n out ids
    labelled R₃ R₄ p q h =
        q ∙ ap₂ (taken_over (noted hs₁)) (h ∙ room) (p ∙ ap (λ (k : ℕ). marked (noted hs₁) ids k R₂) room)
        ∙ labels-are n out x.inside (noted hs₁) heads-are ids R₂ room
