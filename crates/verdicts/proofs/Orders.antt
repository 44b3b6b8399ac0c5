-- Claims in any order, kernel by kernel: whether a claim is complete, whether it matches and which line is at fault do not change with the
-- order of its lines; and one in vertex order gets the verdict that it gets line by line. Assumes nothing.
use mathlib.Core.Path.{◌≡◌, refl, sym, ◌∙◌}
use mathlib.Core.Bool.{true}
use mathlib.Core.Logic.{◌↔◌, ◌⊎◌}
use mathlib.Core.List.{List, []}
use Prim.Native.Nat.{ℕ, suc}
use lib.IntN.{ℤ, pos, nat_abs}
use lib.ListN.{length, get_or}
use Rattle.basis.specs.Order.{same_z}
use Rattle.basis.specs.Refusal.{gives}
use Rattle.basis.proofs.Areas.{column-length}
use Rattle.text.specs.Word.{ident_of}
use Rattle.text.specs.Decimal.{decimal_of}
use Rattle.text.specs.declared.decimal.Decimal.{Decimal}
use Rattle.graph.specs.Find.{place_in, is_there}
use Rattle.graph.specs.Sound.{Graph, names, sound_graph}
use Rattle.graph.proofs.Sounds.{sound-of, names-length}
use Rattle.bfs.specs.Call.{depths_from}
use Rattle.wcc.specs.Component.{wcc_of}
use Rattle.wcc.proofs.Meaning.{wcc-length}
use Rattle.cdlp.specs.Call.{good_rounds}
use Rattle.cdlp.specs.Rounds.{cdlp_of}
use Rattle.cdlp.proofs.Runs.{cdlp-length}
use Rattle.matching.specs.Claim.{number_lines, coefficient_lines, ids_of}
use Rattle.matching.specs.Verdict.{mismatch_at, near, unequal_vertex, unlike_vertex, far_vertex}
use Rattle.matching.specs.Calls.{no_decimal}
use Rattle.matching.specs.Good.{CompleteClaim, Shuffled, line_by_line}
use Rattle.matching.proofs.Meaning.{accepted, first-within, unlike-within, own-verdict}
use Rattle.matching.proofs.Orders.{order-free, still-complete, same-fault}
use Rattle.verdicts.specs.Reference.{coefficient_at, coefficients, bfs_reference, wcc_reference, cdlp_reference, lcc_reference}
use Rattle.verdicts.specs.Call.{room_for, verdict_call}
use Rattle.verdicts.proofs.Kernels.{bfs-length}
use Rattle.verdicts.proofs.Meaning.{says-judged, bfs-says, wcc-says, cdlp-says, lcc-says}
use Rattle.verdicts.proofs.Meaning.{bfs-judged, wcc-judged, cdlp-judged, lcc-judged}

-- calls on a sound graph with room in their areas
module _ (most : ℕ) (g : Graph) (parameter : ℤ) (R C : List ℤ) (F S T L : List ℕ) (sound : sound_graph g ≡ true)
    (room : room_for g.vertices R C F S T L ≡ true) where
  -- ---- two claims, the lines of the one in another order in the other: both match or neither; the second is complete if the first is;
  -- and a mismatch of the first at a line is one of the second at that line, wherever it stands
  module _ (s t : List ℕ) (h : Shuffled s t) where
    pub bfs-reordered : is_there (place_in (names g) parameter) ≡ true
        → ((verdict_call most g 1 parameter s R C F S T L).said ≡ accepted)
        ↔ ((verdict_call most g 1 parameter t R C F S T L).said ≡ accepted)
    bfs-reordered e = order-free (bfs-judged most g parameter s R C F S T L sound room e)
        (bfs-judged most g parameter t R C F S T L sound room e) h

    pub bfs-complete : is_there (place_in (names g) parameter) ≡ true
        → CompleteClaim ident_of (pos 0) most (names g) s
        → ((verdict_call most g 1 parameter t R C F S T L).said ≡ accepted)
        ⊎ ((i : ℕ) × ((verdict_call most g 1 parameter t R C F S T L).said ≡ gives (mismatch_at (suc i))))
    bfs-complete e = still-complete (bfs-judged most g parameter s R C F S T L sound room e)
        (bfs-judged most g parameter t R C F S T L sound room e) h

    pub bfs-same-fault : is_there (place_in (names g) parameter) ≡ true
        → (i : ℕ) → (verdict_call most g 1 parameter s R C F S T L).said ≡ gives (mismatch_at (suc i))
        → (j : ℕ) × (get_or h.others j [] ≡ get_or h.lines i [])
        × ((verdict_call most g 1 parameter t R C F S T L).said ≡ gives (mismatch_at (suc j)))
    bfs-same-fault e = same-fault (bfs-judged most g parameter s R C F S T L sound room e)
        (bfs-judged most g parameter t R C F S T L sound room e) h

    pub wcc-reordered : ((verdict_call most g 2 parameter s R C F S T L).said ≡ accepted)
        ↔ ((verdict_call most g 2 parameter t R C F S T L).said ≡ accepted)
    wcc-reordered = order-free (wcc-judged most g parameter s R C F S T L sound room)
        (wcc-judged most g parameter t R C F S T L sound room) h

    pub wcc-complete : CompleteClaim ident_of (pos 0) most (names g) s
        → ((verdict_call most g 2 parameter t R C F S T L).said ≡ accepted)
        ⊎ ((i : ℕ) × ((verdict_call most g 2 parameter t R C F S T L).said ≡ gives (mismatch_at (suc i))))
    wcc-complete = still-complete (wcc-judged most g parameter s R C F S T L sound room)
        (wcc-judged most g parameter t R C F S T L sound room) h

    pub wcc-same-fault : (i : ℕ) → (verdict_call most g 2 parameter s R C F S T L).said ≡ gives (mismatch_at (suc i))
        → (j : ℕ) × (get_or h.others j [] ≡ get_or h.lines i [])
        × ((verdict_call most g 2 parameter t R C F S T L).said ≡ gives (mismatch_at (suc j)))
    wcc-same-fault = same-fault (wcc-judged most g parameter s R C F S T L sound room)
        (wcc-judged most g parameter t R C F S T L sound room) h

    pub cdlp-reordered : good_rounds parameter ≡ true
        → ((verdict_call most g 3 parameter s R C F S T L).said ≡ accepted)
        ↔ ((verdict_call most g 3 parameter t R C F S T L).said ≡ accepted)
    cdlp-reordered e = order-free (cdlp-judged most g parameter s R C F S T L sound room e)
        (cdlp-judged most g parameter t R C F S T L sound room e) h

    pub cdlp-complete : good_rounds parameter ≡ true
        → CompleteClaim ident_of (pos 0) most (names g) s
        → ((verdict_call most g 3 parameter t R C F S T L).said ≡ accepted)
        ⊎ ((i : ℕ) × ((verdict_call most g 3 parameter t R C F S T L).said ≡ gives (mismatch_at (suc i))))
    cdlp-complete e = still-complete (cdlp-judged most g parameter s R C F S T L sound room e)
        (cdlp-judged most g parameter t R C F S T L sound room e) h

    pub cdlp-same-fault : good_rounds parameter ≡ true
        → (i : ℕ) → (verdict_call most g 3 parameter s R C F S T L).said ≡ gives (mismatch_at (suc i))
        → (j : ℕ) × (get_or h.others j [] ≡ get_or h.lines i [])
        × ((verdict_call most g 3 parameter t R C F S T L).said ≡ gives (mismatch_at (suc j)))
    cdlp-same-fault e = same-fault (cdlp-judged most g parameter s R C F S T L sound room e)
        (cdlp-judged most g parameter t R C F S T L sound room e) h

    pub lcc-reordered : ((verdict_call most g 4 parameter s R C F S T L).said ≡ accepted)
        ↔ ((verdict_call most g 4 parameter t R C F S T L).said ≡ accepted)
    lcc-reordered = order-free (lcc-judged most g parameter s R C F S T L sound room)
        (lcc-judged most g parameter t R C F S T L sound room) h

    pub lcc-complete : CompleteClaim decimal_of no_decimal most (names g) s
        → ((verdict_call most g 4 parameter t R C F S T L).said ≡ accepted)
        ⊎ ((i : ℕ) × ((verdict_call most g 4 parameter t R C F S T L).said ≡ gives (mismatch_at (suc i))))
    lcc-complete = still-complete (lcc-judged most g parameter s R C F S T L sound room)
        (lcc-judged most g parameter t R C F S T L sound room) h

    pub lcc-same-fault : (i : ℕ) → (verdict_call most g 4 parameter s R C F S T L).said ≡ gives (mismatch_at (suc i))
        → (j : ℕ) × (get_or h.others j [] ≡ get_or h.lines i [])
        × ((verdict_call most g 4 parameter t R C F S T L).said ≡ gives (mismatch_at (suc j)))
    lcc-same-fault = same-fault (lcc-judged most g parameter s R C F S T L sound room)
        (lcc-judged most g parameter t R C F S T L sound room) h

  -- ---- a claim that names the vertices in vertex order: the rules' verdict, line by line
  module _ (s : List ℕ) where
    many : length (names g) ≡ g.vertices
    many = names-length g (sound-of g sound)

    module _ (l : List (ℤ × ℤ)) (read : number_lines most s ≡ gives l) (in_order : ids_of l ≡ names g) where
      pub bfs-in-order : is_there (place_in (names g) parameter) ≡ true
          → (verdict_call most g 1 parameter s R C F S T L).said
          ≡ line_by_line (names g) (unequal_vertex (depths_from g (place_in (names g) parameter))) (number_lines most s)
      bfs-in-order e =
          let values = depths_from g (place_in (names g) parameter) in
          bfs-says most g parameter s R C F S T L sound room ∙ says-judged (bfs_reference most g s parameter) e
          ∙ rw read
          (own-verdict (names g) (sound-of g sound).ids_rise (pos 0) l in_order (unequal_vertex values)
          (first-within (names g) same_z values (bfs-length g (place_in (names g) parameter) e ∙ sym many)))

      pub wcc-in-order : (verdict_call most g 2 parameter s R C F S T L).said
          ≡ line_by_line (names g) (unlike_vertex (wcc_of g)) (number_lines most s)
      wcc-in-order =
          wcc-says most g parameter s R C F S T L sound room ∙ says-judged (wcc_reference most g s) refl
          ∙ rw read
          (own-verdict (names g) (sound-of g sound).ids_rise (pos 0) l in_order (unlike_vertex (wcc_of g))
          (unlike-within (names g) (wcc_of g) (wcc-length g (sound-of g sound) ∙ sym many)))

      pub cdlp-in-order : good_rounds parameter ≡ true
          → (verdict_call most g 3 parameter s R C F S T L).said
          ≡ line_by_line (names g) (unequal_vertex (cdlp_of g (nat_abs parameter))) (number_lines most s)
      cdlp-in-order e =
          let values = cdlp_of g (nat_abs parameter) in
          cdlp-says most g parameter s R C F S T L sound room ∙ says-judged (cdlp_reference most g s parameter) e
          ∙ rw read
          (own-verdict (names g) (sound-of g sound).ids_rise (pos 0) l in_order (unequal_vertex values)
          (first-within (names g) same_z values (cdlp-length g (sound-of g sound) (nat_abs parameter) ∙ sym many)))

    pub lcc-in-order : (l : List (ℤ × Decimal)) → coefficient_lines most s ≡ gives l → ids_of l ≡ names g
        → (verdict_call most g 4 parameter s R C F S T L).said
        ≡ line_by_line (names g) (far_vertex (coefficients g)) (coefficient_lines most s)
    lcc-in-order l read in_order =
        lcc-says most g parameter s R C F S T L sound room ∙ says-judged (lcc_reference most g s) refl
        ∙ rw read
        (own-verdict (names g) (sound-of g sound).ids_rise no_decimal l in_order (far_vertex (coefficients g))
        (first-within (names g) near (coefficients g) (column-length (coefficient_at g) 0 g.vertices ∙ sym many)))
