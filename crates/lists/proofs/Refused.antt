-- The refusal of either file: its number is from 1 to 7, its file the file's own, and its line at most the one after the limit.
-- Assumes nothing.
use Rattle.std.specs.Prelude.{Option}
use Prim.Native.Nat.{ℕ, ◌≤◌}
use mathlib.Core.Bool.{Bool, true, false, cond, ◌&&◌}
use mathlib.Core.List.{List}
use native.Mathlib.Omega.{arith}
use lib.IntN.{ℤ}
use lib.ListN.{length}
use lib.Signed.{lt_z}
use Rattle.basis.specs.Refusal.{vertex_file, edge_file}
use Rattle.basis.specs.Order.{same_z}
use Rattle.basis.proofs.Saids.{Either, Any}
use Rattle.graph.specs.Find.{is_there}
use Rattle.text.specs.Line.{ident_form, edge_form}
use Rattle.text.specs.File.{Before, first, after}
use Rattle.text.proofs.Breaks.{ident-right, edge-right}
use Rattle.text.proofs.Files.{FileRefusal, file-refusal}
use Rattle.lists.specs.Files.{vertex_test, identifiers, is_above, edge_test, edges_of}

vertex-low : (before : Before ℤ) (z : ℤ) → vertex_test before z ≤ 7
vertex-low first z = omega arith
vertex-low (after y) z = go (lt_z y z)
  where
    go : (t : Bool) → cond t 0 4 ≤ 7
    go true = omega arith
    go false = omega arith

edge-low : (undirected : Bool) (place : ℤ → Option ℕ) (before : Before (ℤ × ℤ)) (e : ℤ × ℤ) → edge_test undirected place before e ≤ 7
unfolding edge_test
edge-low undirected place before e =
    go (same_z e.0 e.1) (undirected && lt_z e.1 e.0) (is_above before e) (is_there (place e.0) && is_there (place e.1))
  where
    go : (a b c d : Bool) → cond a 5 (cond b 6 (cond c (cond d 0 7) 4)) ≤ 7
    go true b c d = omega arith
    go false true c d = omega arith
    go false false true true = omega arith
    go false false true false = omega arith
    go false false false d = omega arith

pub vertices-refusal : (most : ℕ) (s : List ℕ) → Either Any (FileRefusal vertex_file most (length s)) (identifiers most s)
vertices-refusal most s = file-refusal ident_form ident-right vertex_file most vertex_test vertex-low s

pub edges-refusal : (undirected : Bool) (most : ℕ) (place : ℤ → Option ℕ) (s : List ℕ)
    → Either Any (FileRefusal edge_file most (length s)) (edges_of undirected most place s)
edges-refusal undirected most place s =
    file-refusal edge_form edge-right edge_file most (edge_test undirected place) (edge-low undirected place) s
