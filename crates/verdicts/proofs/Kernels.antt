-- Each kernel's run, from its promise. Assumes nothing.
use Rattle.std.specs.Prelude.{Option, Some, None}
use mathlib.Core.Path.{◌≡◌, refl, ap, ◌∙◌}
use mathlib.Core.Bool.{Bool, true}
use mathlib.Core.List.{List}
use Prim.Native.Nat.{ℕ}
use lib.Dec.{leb}
use lib.IntN.{ℤ, pos, nat_abs}
use lib.ListN.{length}
use borrow.Author.Tests.{le-leb, leb-true}
use Rattle.basis.specs.Refusal.{Said}
use Rattle.basis.specs.Area.{cleared}
use Rattle.basis.proofs.Tests.{clash, and_first, and_both}
use Rattle.basis.proofs.Areas.{column-length}
use Rattle.graph.specs.Find.{place_in, is_there}
use Rattle.graph.specs.Sound.{Graph, outward, names, sound_graph}
use Rattle.graph.proofs.Sounds.{sound-of}
use Rattle.bfs.specs.Depth.{depth_of}
use Rattle.bfs.specs.Call as bfs
use Rattle.wcc.specs.Component.{wcc_of}
use Rattle.wcc.specs.Call as wcc
use Rattle.wcc.proofs.Meaning.{wcc-length}
use Rattle.cdlp.specs.Rounds.{cdlp_of}
use Rattle.cdlp.specs.Call as cdlp
use Rattle.cdlp.proofs.Runs.{cdlp-length}
use Rattle.matching.specs.declared.numbers.Rule.TheVariants.{Exact, Equivalence}
use Rattle.verdicts.specs.Reference.{bfs_reference, wcc_reference, cdlp_reference}
use Rattle.verdicts.specs.Steps.{Known, Roomy, Numbers, numbers_on, numbers_verdict}
use Rattle.verdicts.proofs.Running.{Ran, ran-known, ran-roomy, numbers-verdict}

-- ---- BFS
pub bfs-length : (g : Graph) (p : Option ℕ) → is_there p ≡ true → length (bfs.depths_from g p) ≡ g.vertices
bfs-length g (Some root) e = column-length (depth_of g.vertices (outward g) root) 0 g.vertices
bfs-length g None e = clash e refl

module _ (g : Graph) (root : ℤ) {root' : ℤ} (p : root' ≡ root) (R : List ℤ) (F : List ℕ) {a : Said (Unit {0})} {R' : List ℤ} {F' : List ℕ}
    (e : bfs.outcome a R' F' ≡ bfs.bfs_call g root' R F) where
  bfs-ran : Ran (pos 0) (is_there (place_in (names g) root)) 10 (bfs.depths_from g (place_in (names g) root)) g.vertices (length g.ids)
      (sound_graph g) (bfs.room_for g.vertices R F) (length R) a R'
  unfolding bfs.bfs_call bfs.left_by bfs.room_for
  bfs-ran =
      let f : bfs.outcome a R' F' ≡ bfs.bfs_call g root R F = e ∙ ap (λ (z : ℤ). bfs.bfs_call g z R F) p in
      let q = ap (λ (o : bfs.Outcome). o.said) f in
      record {
        said = q;
        leaving = ap (λ (o : bfs.Outcome). o.depth) f ∙ rw q;
        whole = λ s t. bfs-length g (place_in (names g) root) t;
        known = λ s. (sound-of g s).ids_room;
        own_room = λ o. leb-true g.vertices (length R) (and_first (leb g.vertices (length R)) (leb g.vertices (length F)) o);
      }

  pub bfs-known : Known a g.vertices (length g.ids)
  bfs-known = ran-known bfs-ran

  pub bfs-roomy : {room : Bool} → Roomy room g.vertices (length R) → Roomy room g.vertices (length R')
  bfs-roomy = ran-roomy bfs-ran

  pub bfs-cleared : F' ≡ cleared F
  unfolding bfs.bfs_call bfs.left_by
  bfs-cleared = ap (λ (o : bfs.Outcome). o.queue) e

  pub bfs-verdict : {room : Bool} → Roomy room g.vertices (length R) → Roomy room g.vertices (length F)
      → (most : ℕ) (s : List ℕ) (C : List ℤ) (L : List ℕ) {x : Numbers} → x ≡ numbers_on a room Exact most g.vertices g.ids s R' C L
      → x ≡ numbers_verdict (bfs_reference most g s root) (sound_graph g) room R C L
  unfolding bfs.room_for
  bfs-verdict f h most s =
      numbers-verdict (bfs_reference most g s root) g.ids R bfs-ran (λ t. (sound-of g t).ids_rise)
      (λ t. and_both (le-leb g.vertices (length R) (f t)) (le-leb g.vertices (length F) (h t)))
      Exact most s refl

-- ---- WCC
module _ (g : Graph) (R : List ℤ) (F : List ℕ) {a : Said (Unit {0})} {R' : List ℤ} {F' : List ℕ}
    (e : wcc.outcome a R' F' ≡ wcc.wcc_call g R F) where
  wcc-ran : Ran (pos 0) true 0 (wcc_of g) g.vertices (length g.ids) (sound_graph g) (wcc.room_for g.vertices R F) (length R) a R'
  unfolding wcc.wcc_call wcc.left_by wcc.room_for
  wcc-ran =
      let q = ap (λ (o : wcc.Outcome). o.said) e in
      record {
        said = q;
        leaving = ap (λ (o : wcc.Outcome). o.result) e ∙ rw q;
        whole = λ s t. wcc-length g (sound-of g s);
        known = λ s. (sound-of g s).ids_room;
        own_room = λ o. leb-true g.vertices (length R) (and_first (leb g.vertices (length R)) (leb g.vertices (length F)) o);
      }

  pub wcc-known : Known a g.vertices (length g.ids)
  wcc-known = ran-known wcc-ran

  pub wcc-roomy : {room : Bool} → Roomy room g.vertices (length R) → Roomy room g.vertices (length R')
  wcc-roomy = ran-roomy wcc-ran

  pub wcc-cleared : F' ≡ cleared F
  unfolding wcc.wcc_call wcc.left_by
  wcc-cleared = ap (λ (o : wcc.Outcome). o.heads) e

  pub wcc-verdict : {room : Bool} → Roomy room g.vertices (length R) → Roomy room g.vertices (length F)
      → (most : ℕ) (s : List ℕ) (C : List ℤ) (L : List ℕ) {x : Numbers}
      → x ≡ numbers_on a room Equivalence most g.vertices g.ids s R' C L
      → x ≡ numbers_verdict (wcc_reference most g s) (sound_graph g) room R C L
  unfolding wcc.room_for
  wcc-verdict f h most s =
      numbers-verdict (wcc_reference most g s) g.ids R wcc-ran (λ t. (sound-of g t).ids_rise)
      (λ t. and_both (le-leb g.vertices (length R) (f t)) (le-leb g.vertices (length F) (h t)))
      Equivalence most s refl

-- ---- CDLP
module _ (g : Graph) (z : ℤ) {z' : ℤ} (p : z' ≡ z) (R : List ℤ) (L N C : List ℕ) {a : Said (Unit {0})} {R' : List ℤ} {L' N' C' : List ℕ}
    (e : cdlp.outcome a R' L' N' C' ≡ cdlp.cdlp_call g z' R L N C) where
  cdlp-ran : Ran (pos 0) (cdlp.good_rounds z) 11 (cdlp_of g (nat_abs z)) g.vertices (length g.ids) (sound_graph g)
      (cdlp.room_for g.vertices R L N C) (length R) a R'
  unfolding cdlp.cdlp_call cdlp.left_by cdlp.room_for
  cdlp-ran =
      let f : cdlp.outcome a R' L' N' C' ≡ cdlp.cdlp_call g z R L N C = e ∙ ap (λ (y : ℤ). cdlp.cdlp_call g y R L N C) p in
      let q = ap (λ (o : cdlp.Outcome). o.said) f in
      record {
        said = q;
        leaving = ap (λ (o : cdlp.Outcome). o.result) f ∙ rw q;
        whole = λ s t. cdlp-length g (sound-of g s) (nat_abs z);
        known = λ s. (sound-of g s).ids_room;
        own_room = λ o. leb-true g.vertices (length R)
            (and_first (leb g.vertices (length R)) (leb g.vertices (length L))
            (and_first _ (leb g.vertices (length N)) (and_first _ (leb g.vertices (length C)) o)));
      }

  pub cdlp-known : Known a g.vertices (length g.ids)
  cdlp-known = ran-known cdlp-ran

  pub cdlp-roomy : {room : Bool} → Roomy room g.vertices (length R) → Roomy room g.vertices (length R')
  cdlp-roomy = ran-roomy cdlp-ran

  pub cdlp-cleared : (L' ≡ cleared L) × (N' ≡ cleared N) × (C' ≡ cleared C)
  unfolding cdlp.cdlp_call cdlp.left_by
  cdlp-cleared = (ap (λ (o : cdlp.Outcome). o.labels) e, ap (λ (o : cdlp.Outcome). o.next) e, ap (λ (o : cdlp.Outcome). o.counts) e)

  pub cdlp-verdict : {room : Bool} → Roomy room g.vertices (length R)
      → Roomy room g.vertices (length L) × Roomy room g.vertices (length N) × Roomy room g.vertices (length C)
      → (most : ℕ) (s : List ℕ) (D : List ℤ) (W : List ℕ) {x : Numbers} → x ≡ numbers_on a room Exact most g.vertices g.ids s R' D W
      → x ≡ numbers_verdict (cdlp_reference most g s z) (sound_graph g) room R D W
  unfolding cdlp.room_for
  cdlp-verdict f h most s =
      numbers-verdict (cdlp_reference most g s z) g.ids R cdlp-ran (λ t. (sound-of g t).ids_rise)
      (λ t. and_both
      (and_both (and_both (le-leb g.vertices (length R) (f t)) (le-leb g.vertices (length L) (h.0 t)))
      (le-leb g.vertices (length N) (h.1 t)))
      (le-leb g.vertices (length C) (h.2 t)))
      Exact most s refl
