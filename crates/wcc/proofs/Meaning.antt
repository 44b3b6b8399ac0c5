-- What the labels of a sound graph mean: Graphalytics 1.0.4, 2.3.3 and the rules' house label. Assumes nothing.
use Prim.Native.Nat.{ℕ, ◌≤◌, ◌<◌}
use mathlib.Core.Path.{◌≡◌, refl, sym, ap, ◌∙◌}
use mathlib.Core.Logic.{◌↔◌}
use mathlib.Core.Bool.{true, false}
use mathlib.Core.List.{List}
use native.Mathlib.Omega.{arith}
use lib.IntN.{ℤ, pos}
use lib.ListN.{length, get_or}
use lib.Signed.{lt_z}
use borrow.Author.Tests.{eqb-true, le-ltb}
use Rattle.basis.specs.Area.{pad_z}
use Rattle.basis.specs.Order.{same_z}
use Rattle.basis.specs.Closure.{by, back}
use Rattle.basis.specs.Scan.{mem}
use Rattle.basis.proofs.Orders.{same-places, less-places, signed-order}
use Rattle.basis.proofs.Areas.{column-length, column-at}
use Rattle.graph.specs.Sound.{Graph, outward, inward, names, sound_graph, Sound}
use Rattle.graph.proofs.Sounds.{sound-of, outward-below, names-length, arcs-agree}
use Rattle.kernels.specs.Answer.{kernel_says}
use Rattle.kernels.proofs.Results.{pad-value, pad-behind}
use Rattle.wcc.specs.Component.{first, label_of, wcc_of}
use Rattle.wcc.specs.Call.{room_for, left_by, wcc_call}
use Rattle.wcc.specs.Meaning.{LinkedIn, Done, Called}
use Rattle.wcc.proofs.Calls.{first-result}
use Rattle.wcc.proofs.Firsts.{first_below, first-linked, first-least, first-same}

module _ (g : Graph) (s : Sound g) where
  -- the inward arcs are among them
  pub inward-linked : (u w : ℕ) → u < g.vertices → w < g.vertices → mem u (inward g w) ≡ true → LinkedIn g w u
  inward-linked u w k l m = back (by (k, (arcs-agree g s u w k l).1 m))

  pub wcc-length : length (wcc_of g) ≡ g.vertices
  wcc-length = column-length (label_of g.vertices (outward g) (names g)) 0 g.vertices

  -- ---- a vertex's label is the identifier of its component's first vertex
  label_at : (v : ℕ) → v < g.vertices → get_or (wcc_of g) v (pos 0) ≡ get_or (names g) (first g.vertices (outward g) v) (pos 0)
  unfolding label_of
  label_at v l = column-at (label_of g.vertices (outward g) (names g)) g.vertices v (pos 0) l

  first_in : (v : ℕ) → v < g.vertices → first g.vertices (outward g) v < length (names g)
  first_in v l = omega (arith, first_below g.vertices (outward g) (outward-below g s) v l, names-length g s)

  -- identifiers rise, so no two are the same
  names_apart : (i j : ℕ) → i < length (names g) → j < length (names g) → get_or (names g) i (pos 0) ≡ get_or (names g) j (pos 0) → i ≡ j
  names_apart i j a b e =
      eqb-true i j
      (sym (same-places signed-order (pos 0) (names g) s.ids_rise i j a b)
      ∙ ap (same_z (get_or (names g) i (pos 0))) (sym e)
      ∙ signed-order.same_refl (get_or (names g) i (pos 0)))

  -- "Two vertices belong to the same component, and thus have the same label, if there exists a path between these vertices": exactly then
  pub labels-same : (u v : ℕ) → u < g.vertices → v < g.vertices
      → (get_or (wcc_of g) u (pos 0) ≡ get_or (wcc_of g) v (pos 0)) ↔ LinkedIn g u v
  labels-same u v k l =
      let same = first-same g.vertices (outward g) (outward-below g s) u v k l in (
        λ e. same.0 (names_apart _ _ (first_in u k) (first_in v l) (sym (label_at u k) ∙ e ∙ label_at v l)),
        λ p. label_at u k ∙ ap (λ (x : ℕ). get_or (names g) x (pos 0)) (same.1 p) ∙ sym (label_at v l),
      )

  -- "the smallest identifier of the component": it is the identifier of a member
  pub labels-member : (v : ℕ) → v < g.vertices
      → (u : ℕ) × (u < g.vertices) × LinkedIn g u v × (get_or (wcc_of g) v (pos 0) ≡ get_or (names g) u (pos 0))
  labels-member v l = (
    first g.vertices (outward g) v,
    first_below g.vertices (outward g) (outward-below g s) v l,
    first-linked g.vertices (outward g) (outward-below g s) v l,
    label_at v l,
  )

  -- and no member's is smaller
  pub labels-least : (u v : ℕ) → u < g.vertices → v < g.vertices → LinkedIn g u v
      → lt_z (get_or (names g) u (pos 0)) (get_or (wcc_of g) v (pos 0)) ≡ false
  labels-least u v k l p =
      let f : ℕ = first g.vertices (outward g) v in
      ap (lt_z (get_or (names g) u (pos 0))) (label_at v l)
      ∙ less-places signed-order (pos 0) (names g) s.ids_rise u f (omega (arith, names-length g s)) (first_in v l)
      ∙ le-ltb u f (first-least g.vertices (outward g) (outward-below g s) u v k l p)

-- ---- the public call

module _ (g : Graph) (R : List ℤ) (H : List ℕ) where
  call-done : sound_graph g ≡ true → room_for g.vertices R H ≡ true → Done g R H (wcc_call g R H)
  unfolding wcc_call left_by kernel_says
  call-done t r = rw (t, r) (record {
    answer = refl;
    same = λ u v k l. rw (at u k, at v l) (labels-same g s u v k l);
    member = λ v l. rw (at v l) (labels-member g s v l);
    least = λ u v k l p. rw (at v l) (labels-least g s u v k l p);
    behind = pad-behind (pos 0) g.vertices (length R) (wcc_of g) (wcc-length g s) fits;
    zeros = refl;
  })
    where
      s : Sound g
      s = sound-of g t

      fits : g.vertices ≤ length R
      fits = first-result g.vertices R H r

      at : (v : ℕ) → v < g.vertices → get_or (pad_z (length R) (wcc_of g)) v (pos 0) ≡ get_or (wcc_of g) v (pos 0)
      at v l = pad-value (pos 0) g.vertices (length R) (wcc_of g) (wcc-length g s) fits v l

  -- what the public call means, on every graph and every area
  pub wcc-call : Called g R H (wcc_call g R H)
  unfolding wcc_call left_by kernel_says
  wcc-call = record { not_sound = λ t. rw t; short = λ t r. rw (t, r); done = call-done }
