-- Identifiers that rise: a bisection finds each where it stands, so an edge file says the same by either;
-- and the numbers of the vertices that
-- are there are ordered as their identifiers. Assumes nothing.
use Rattle.std.specs.Prelude.{Option, Some, None}
use Prim.Native.Nat.{ℕ, suc, ◌<◌}
use mathlib.Core.Path.{◌≡◌, refl, ap}
use mathlib.Core.Bool.{Bool, true}
use mathlib.Core.List.{List, [], ◌∷◌}
use lib.ListN.{length, get_or}
use lib.Dec.{ltb, eqb}
use lib.IntN.{ℤ, pos}
use lib.Signed.{lt_z}
use Rattle.basis.specs.Refusal.{edge_file}
use Rattle.basis.specs.Order.{same_z, rising_z}
use Rattle.basis.proofs.Tests.{clash}
use Rattle.basis.proofs.Orders.{signed-order, less-places, same-places}
use Rattle.text.specs.Line.{edge_line}
use Rattle.text.specs.File.{lines_of, Before, first}
use Rattle.text.proofs.Files.{values_same}
use Rattle.graph.specs.Find.{place_in, bisected, is_there}
use Rattle.graph.proofs.Finds.{find-rising, place_at}
use Rattle.lists.specs.Files.{vertex_number, edge_test, edges_of, all_numbered}

pub length-numbered : (place : ℤ → Option ℕ) (es : List (ℤ × ℤ)) → length (all_numbered place es) ≡ length es
length-numbered place [] = refl
length-numbered place (e ∷ es) = ap suc (length-numbered place es)

-- ---- by bisection, or by place
module _ (ids : List ℤ) (rise : rising_z ids ≡ true) where
  same_place : (id : ℤ) → bisected ids id ≡ place_in ids id
  same_place id = find-rising ids id rise

  same_test : (undirected : Bool) (before : Before (ℤ × ℤ)) (e : ℤ × ℤ)
      → edge_test undirected (bisected ids) before e ≡ edge_test undirected (place_in ids) before e
  unfolding edge_test
  same_test undirected before e = rw (same_place e.0, same_place e.1)

  pub same_edges : (undirected : Bool) (most : ℕ) (s : List ℕ)
      → edges_of undirected most (bisected ids) s ≡ edges_of undirected most (place_in ids) s
  same_edges undirected most s =
      values_same edge_file most (edge_test undirected (bisected ids)) (edge_test undirected (place_in ids)) (same_test undirected) 0 first
      (lines_of edge_line s)

  pub same-numbered : (es : List (ℤ × ℤ)) → all_numbered (bisected ids) es ≡ all_numbered (place_in ids) es
  same-numbered [] = refl
  same-numbered (e ∷ es) = rw (same_place e.0, same_place e.1, same-numbered es)

-- ---- the numbers of those that are there
module _ (ids : List ℤ) (rise : rising_z ids ≡ true) where
  pub there : (id : ℤ) → is_there (place_in ids id) ≡ true
      → (vertex_number (place_in ids id) < length ids) × (get_or ids (vertex_number (place_in ids id)) (pos 0) ≡ id)
  there id h = go (place_in ids id) refl h
    where
      go : (x : Option ℕ) → place_in ids id ≡ x → is_there x ≡ true → (vertex_number x < length ids)
          × (get_or ids (vertex_number x) (pos 0) ≡ id)
      go (Some i) q h = (place_at ids id rise i).0 q
      go None q h = clash h refl

  module _ (a b : ℤ) (ha : is_there (place_in ids a) ≡ true) (hb : is_there (place_in ids b) ≡ true) where
    pub less-numbers : lt_z a b ≡ ltb (vertex_number (place_in ids a)) (vertex_number (place_in ids b))
    less-numbers =
        let p = there a ha in let q = there b hb in
        rw (p.1, q.1) at (less-places signed-order (pos 0) ids rise (vertex_number (place_in ids a)) (vertex_number (place_in ids b)) p.0
        q.0)

    pub same_numbers : same_z a b ≡ eqb (vertex_number (place_in ids a)) (vertex_number (place_in ids b))
    same_numbers =
        let p = there a ha in let q = there b hb in
        rw (p.1, q.1) at (same-places signed-order (pos 0) ids rise (vertex_number (place_in ids a)) (vertex_number (place_in ids b)) p.0
        q.0)
