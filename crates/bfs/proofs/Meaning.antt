-- The depths of a sound graph are the lengths of shortest walks along outgoing arcs, unreachable stands exactly where there is no walk,
-- and both stand in the result area of a call with the root's identifier. Assumes nothing.
use Prim.Native.Nat.{ℕ, zero, suc, ◌+◌, ◌≤◌, ◌<◌}
use mathlib.Core.Path.{◌≡◌, refl, sym, ap, ◌∙◌, subst}
use mathlib.Core.Logic.{◌⊎◌, inl, inr, ⊎_elim, ◌↔◌}
use mathlib.Core.Bool.{true}
use mathlib.Core.List.{List}
use native.Mathlib.Nat.{add-zero, add-suc}
use native.Mathlib.Decide.{dec_lt}
use native.Mathlib.Omega.{arith}
use lib.IntN.{ℤ, pos}
use lib.ListN.{length, replicate, length-replicate}
use lib.Dec.{leb}
use borrow.Author.Tests.{le-leb, lt-leb}
use Rattle.std.specs.Prelude.{Option, Some, None}
use Rattle.basis.specs.Refusal.{no_room}
use Rattle.basis.specs.Area.{infinity, unreachable, column}
use Rattle.basis.specs.Scan.{mem}
use Rattle.basis.proofs.Tests.{and-off}
use Rattle.basis.proofs.Areas.{column-length, column-at}
use Rattle.graph.specs.Find.{place_in}
use Rattle.graph.specs.Sound.{Graph, outward, names, sound_graph}
use Rattle.graph.proofs.Finds.{place_at}
use Rattle.graph.proofs.Sounds.{sound-of, names-length, outward-below}
use Rattle.kernels.specs.Answer.{kernel_says}
use Rattle.kernels.proofs.Results.{pad-value, pad-behind}
use Rattle.bfs.specs.declared.Ring.{Ring}
use Rattle.bfs.specs.Depth.{ring, depth_of}
use Rattle.bfs.specs.Call.{refusal, room_for, left_by, bfs_call}
use Rattle.bfs.specs.Meaning.{Walk, stay, go, Shortest, IsDepth, HasName, Done, Called}
use Rattle.bfs.specs.Steps.{Board}
use Rattle.bfs.proofs.Rings.{Reached, FirstRing, ring-root, ring-first, ring-next, ring-from, depth-found, depth-none}
use Rattle.bfs.proofs.Queue.{Base, Serving, serving-begin, serving-tail, serving-more, serving-settled}

-- ---- ring k holds the ends of the walks of k arcs
module _ (out : ℕ → List ℕ) (root : ℕ) where
  walk-ring : {k v : ℕ} → Walk out root k v → Reached out root k v
  walk-ring stay = ring-root out root
  walk-ring (go {k = k} {u = u} {w = w} p a) = ring-next out root k u w (walk-ring p) a

  ring-walk : (k v : ℕ) → Reached out root k v → Walk out root k v
  ring-walk zero v m = subst (Walk out root 0) (sym (ring-first out root v m)) stay
  ring-walk (suc k) v m = let r = ring-from out root k v m in go (ring-walk k r.0 r.1) r.2

  pub ring-walks : (k v : ℕ) → (mem v (ring out root k) ≡ true) ↔ Walk out root k v
  ring-walks k v = (ring-walk k v, walk-ring)

-- ---- arcs that stay among n vertices, and a root among them
module _ (n : ℕ) (out : ℕ → List ℕ) (root : ℕ) (base : Base n out root) where
  Split : ℕ → Type 0
  Split v = ((i : ℕ) → Reached out root i v → ⊥) ⊎ ((k : ℕ) × FirstRing out root n v k)

  at-end : {S : Board} {r : Ring} {h : ℕ} → Serving n out root S r h → S.tail ≤ h → (v : ℕ) → v < n → Split v
  unfolding Split
  at-end k o v l = ⊎_elim (λ a. inl a.1) (λ a. inr (a.0, a.2)) (serving-settled n out root k o v l)

  -- the search ends, after at most n turns
  settle : (f : ℕ) {S : Board} {r : Ring} {h : ℕ} → n ≤ h + f → Serving n out root S r h → (v : ℕ) → v < n → Split v
  settle zero {S} {r} {h} b k v l = at-end k (omega (arith, serving-tail n out root k, add-zero h)) v l
  settle (suc f) {S} {r} {h} b k v l =
      elim (dec_lt h S.tail) as (λ _. Split v) [
        | yes g ↦ settle f (omega (arith, add-suc h f)) (serving-more n out root k g refl refl refl) v l
        | no g ↦ at-end k (omega arith) v l
      ]

  -- each vertex is on no ring, or there is a first one of the first n that has it
  split : (v : ℕ) → v < n → Split v
  split v l =
      settle n (omega arith) (serving-begin n out root base (replicate n unreachable) (replicate n 0) refl (length-replicate n 0) refl) v l

  -- the depth is what it should be
  pub is-depth : (v : ℕ) → v < n → IsDepth out root v (depth_of n out root v)
  unfolding Split
  is-depth v l =
      let here : (f : (k : ℕ) × FirstRing out root n v k) → Walk out root f.0 v = λ f. ring-walk out root f.0 v f.1.here in
      let first : (f : (k : ℕ) × FirstRing out root n v k) (i : ℕ) → Walk out root i v
      → f.0 ≤ i = λ f i p. f.1.least i (walk-ring out root p) in
      record {
        hops = λ k. (
          (λ e.
              ⊎_elim
              (λ none. let z : k ≡ infinity = cc (e.0, depth-none out root n v none) in absurd (omega (arith, e.1)))
              (λ f. let z : f.0 ≡ k = cc (e.0, depth-found out root n v f.0 f.1) in
              subst (Shortest out root v) z (record { walk = here f; least = first f }))
              (split v l)),
          λ s.
              ⊎_elim
              (λ none. absurd (none k (walk-ring out root s.walk)))
              (λ f.
              let z : f.0 ≡ k = omega (arith, first f k s.walk, s.least f.0 (here f)) in
              (depth-found out root n v f.0 f.1 ∙ ap pos z, omega (arith, f.1.below, base.few)))
              (split v l),
        );
        none = (
          (λ e k p.
              ⊎_elim
              (λ none. none k (walk-ring out root p))
              (λ f. let z : f.0 ≡ infinity = cc (e, depth-found out root n v f.0 f.1) in omega (arith, f.1.below, base.few))
              (split v l)),
          λ none. depth-none out root n v (λ i m. none i (ring-walk out root i v m)),
        );
      }

  -- "The root has depth 0"
  pub depth-root : depth_of n out root root ≡ pos 0
  depth-root =
      depth-found out root n root 0 (record { here = ring-root out root; least = λ i m. omega arith; below = omega (arith, base.root) })

-- ---- of a sound graph
pub sound-depth : (g : Graph) → sound_graph g ≡ true → (root : ℕ) → root < g.vertices → (v : ℕ) → v < g.vertices
    → IsDepth (outward g) root v (depth_of g.vertices (outward g) root v)
sound-depth g sound root low =
    is-depth g.vertices (outward g) root
    (record { inside = outward-below g (sound-of g sound); root = low; few = omega (arith, (sound-of g sound).few_vertices) })

-- ---- the call
module _ (g : Graph) (root : ℤ) (sound : sound_graph g ≡ true) where
  -- where the root stands
  place : (v : ℕ) → HasName g v root → place_in (names g) root ≡ Some v
  place v h =
      let s = sound-of g sound in
      (place_at (names g) root s.ids_rise v).1 (let e = names-length g s in let l = h.0 in omega arith, h.1)

  nowhere : ((v : ℕ) → HasName g v root → ⊥) → place_in (names g) root ≡ None
  nowhere none = by (place_in (names g) root) refl
    where
      by : (f : Option ℕ) → place_in (names g) root ≡ f → f ≡ None
      by (Some v) e =
          let s = sound-of g sound in
          let p = (place_at (names g) root s.ids_rise v).0 e in
          absurd (none v (let q = names-length g s in let l = p.0 in omega arith, p.1))
      by None e = refl

  module _ (depth : List ℤ) (queue : List ℕ) (v : ℕ) (h : HasName g v root) where
    call-done : g.vertices ≤ length depth → g.vertices ≤ length queue → Done g v depth queue (bfs_call g root depth queue)
    unfolding bfs_call left_by room_for kernel_says
    call-done a b =
        let n = g.vertices in
        let f = depth_of n (outward g) v in
        rw (sound, place v h, le-leb n (length depth) a, le-leb n (length queue) b)
        (record {
          answer = refl;
          depths = λ w l.
              rw (pad-value (pos 0) n (length depth) (column f 0 n) (column-length f 0 n) a w l ∙ column-at f n w (pos 0) l)
              (sound-depth g sound v h.0 w l);
          behind = pad-behind (pos 0) n (length depth) (column f 0 n) (column-length f 0 n) a;
          zeros = refl;
        })

    call-short : (length depth < g.vertices) ⊎ (length queue < g.vertices)
        → bfs_call g root depth queue ≡ refusal no_room depth queue
    unfolding bfs_call left_by room_for kernel_says
    call-short =
        let a = leb g.vertices (length depth) in let b = leb g.vertices (length queue) in
        ⊎_elim (λ k. rw (sound, place v h, lt-leb g.vertices (length depth) k))
        (λ k. rw (sound, place v h, and-off a b (lt-leb g.vertices (length queue) k)))

-- what the public call answers and leaves, from the root's identifier on, on every graph and every area
pub bfs-call : (g : Graph) (root : ℤ) (depth : List ℤ) (queue : List ℕ) → Called g root depth queue (bfs_call g root depth queue)
unfolding bfs_call left_by kernel_says
bfs-call g root depth queue =
    record {
      not_sound = λ s. rw s;
      missing = λ s none. rw (s, nowhere g root s none);
      short = λ s v h. call-short g root s depth queue v h;
      done = λ s v h. call-done g root s depth queue v h;
    }
