-- What a loaded graph shows does not hang on the room in its areas. Assumes nothing.
use mathlib.Core.Path.{◌≡◌, refl, sym, fun_ext, ◌∙◌}
use mathlib.Core.List.{List}
use Prim.Native.Nat.{ℕ, ◌≤◌, ◌<◌}
use native.Mathlib.Omega.{arith}
use native.Mathlib.Decide.{dec_lt}
use lib.ListN.{length}
use lib.Seq.{take_at, take_all}
use Rattle.basis.specs.Area.{pad, pad_z}
use Rattle.basis.proofs.Areas.{pad-full}
use Rattle.basis.proofs.Alls.{All}
use Rattle.graph.specs.Arcs.{Arc, backward, parts, offsets, targets_of}
use Rattle.graph.specs.Part.{part_of}
use Rattle.graph.specs.Sound.{Graph, outward, inward, names}
use Rattle.graph.proofs.Parts.{part-far}
use Rattle.store.proofs.Order.{Fine, Valid, arcs-join, join-backward}
use Rattle.store.proofs.Passes.{length-backward}
use Rattle.store.proofs.Built.{offsets-length}
use Rattle.store.proofs.Meaning.{start-all, part-stored, stored_graph}
use Rattle.lists.proofs.Accepts.{edges-accepted}
use Rattle.load.specs.declared.Limits.{Limits}
use Rattle.graph.specs.Find.{place_in}
use Rattle.lists.specs.Files.{all_numbered}
use Rattle.load.specs.Load.{Lists, Room, is_undirected}
use Rattle.load.specs.Good.{GoodLoad}
use Rattle.load.proofs.Valids.{valid-file}
use Rattle.trace.specs.Host.{graph_of}

-- a vertex's part, in areas with room or without
module _ (n s t : ℕ) (l : List Arc) (fine : All (Fine n) l) (places : n < s) (room : length l ≤ t) where
  part-exact : (v : ℕ) → v < n → part_of n (offsets l n) (parts l n) v ≡ targets_of l v
  part-exact v h =
      rw (pad-full 0 (offsets l n), pad-full 0 (parts l n)) at
      (part-stored n (length (offsets l n)) (length (parts l n)) l fine (let k = offsets-length l n in omega arith)
      (let k = start-all n s t l fine places room in omega arith) v h)

  part_same : part_of n (pad s (offsets l n)) (pad t (parts l n)) ≡ part_of n (offsets l n) (parts l n)
  part_same = fun_ext (λ v. go v (dec_lt v n))
    where
      go : (v : ℕ) → Dec (v < n) → part_of n (pad s (offsets l n)) (pad t (parts l n)) v ≡ part_of n (offsets l n) (parts l n) v
      go v (yes h) = part-stored n s t l fine places room v h ∙ sym (part-exact v h)
      go v (no h) =
          sym (part-far n (pad s (offsets l n)) (pad t (parts l n)) v (omega (arith, h)))
          ∙ part-far n (offsets l n) (parts l n) v (omega (arith, h))

-- the graph of the lists that stands in areas of some room
abbrev pub area_graph : Room → Lists → Graph
area_graph room g =
    stored_graph (length g.ids) g.arcs (pad_z room.ids g.ids) room.out_offsets room.out_targets room.in_offsets
    room.in_sources

module _ (limits : Limits) (mode : ℕ) (room : Room) (vertices edges : List ℕ) (g : Lists)
    (ok : GoodLoad limits mode room vertices edges g) where
  valid : Valid (is_undirected mode) (length g.ids) (all_numbered (place_in g.ids) ok.list)
  valid =
      valid-file g.ids ok.good_vertices.rise (is_undirected mode) limits.edges edges ok.list
      ((edges-accepted (is_undirected mode) limits.edges g.ids edges ok.list).1 ok.good_edges)

  fine : All (Fine (length g.ids)) g.arcs
  fine = rw ok.arcs_are (arcs-join (is_undirected mode) (length g.ids) (all_numbered (place_in g.ids) ok.list) valid.fine)

  pub same_names : names (area_graph room g) ≡ names (graph_of g)
  unfolding graph_of
  same_names = take_at g.ids _ (length g.ids) refl ∙ sym (take_all (length g.ids) g.ids (omega arith))

  pub same-outward : outward (area_graph room g) ≡ outward (graph_of g)
  unfolding graph_of
  same-outward = part_same (length g.ids) room.out_offsets room.out_targets g.arcs fine ok.out_offsets_fit ok.out_targets_fit

  pub same-inward : inward (area_graph room g) ≡ inward (graph_of g)
  unfolding graph_of
  same-inward =
      part_same (length g.ids) room.in_offsets room.in_sources (backward g.arcs) (join-backward (length g.ids) g.arcs fine)
      ok.in_offsets_fit
      (rw (length-backward g.arcs) ok.in_sources_fit)
