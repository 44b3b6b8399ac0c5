-- What a verdict means, kernel by kernel. Assumes nothing.
use mathlib.Core.Path.{◌≡◌, refl, sym, ap, ◌∙◌, subst}
use mathlib.Core.Bool.{Bool, true, false, cond}
use mathlib.Core.Logic.{◌↔◌}
use mathlib.Core.List.{List, map}
use Prim.Native.Nat.{ℕ, ◌≤◌}
use lib.Dec.{eqb}
use lib.IntN.{ℤ, pos, nat_abs}
use lib.ListN.{length}
use Rattle.basis.specs.Order.{same_z, rising_z}
use Rattle.basis.proofs.Areas.{column-length}
use Rattle.text.specs.Word.{ident_of}
use Rattle.text.specs.Decimal.{decimal_of}
use Rattle.text.specs.declared.decimal.Decimal.{Decimal}
use Rattle.graph.specs.Find.{place_in, is_there}
use Rattle.graph.specs.Sound.{Graph, names, outward, sound_graph, Sound}
use Rattle.graph.proofs.Sounds.{sound-of, names-length}
use Rattle.kernels.specs.Answer.{kernel_says}
use Rattle.bfs.specs.Call.{depths_from}
use Rattle.wcc.specs.Component.{LinkedAmong, wcc_of}
use Rattle.wcc.proofs.Meaning.{wcc-length, labels-same}
use Rattle.cdlp.specs.Call.{good_rounds}
use Rattle.cdlp.specs.Rounds.{cdlp_of}
use Rattle.cdlp.proofs.Runs.{cdlp-length}
use Rattle.matching.specs.Claim.{ids_of, claimed_of}
use Rattle.matching.specs.Verdict.{near}
use Rattle.matching.specs.Calls.{no_decimal}
use Rattle.matching.specs.Good.{Alike, Differs, Disagrees, EqualWhere, GoodClaim, Judges}
use Rattle.matching.proofs.Meaning.{accepted, map-length}
use Rattle.matching.proofs.Claims.{exact-judged, equivalence-judged, epsilon-judged}
use Rattle.matching.proofs.Listing.{WrittenLine, claim_text, pairs_of, listed, AllFit, AllSpelled, exact-own, equivalence-own, epsilon-own}
use Rattle.verdicts.specs.Reference.{Reference, coefficient_at, coefficients, bfs_reference, wcc_reference, cdlp_reference, lcc_reference}
use Rattle.verdicts.specs.Call.{room_for, verdict_says, left_by, call_on, unknown_call, verdict_call}
use Rattle.verdicts.proofs.Kernels.{bfs-length}
use Rattle.verdicts.proofs.Ranges.{bfs-fits, cdlp-fits}

-- a graph that is sound, a parameter that is good and room enough: what is said is the claim's verdict
pub says-judged : (k : Reference) → k.given ≡ true → verdict_says k true true ≡ k.judged
unfolding verdict_says kernel_says
says-judged k e = rw e

-- what a call on a sound graph with room in its areas says, by the kernel's number
module _ (most : ℕ) (g : Graph) (parameter : ℤ) (s : List ℕ) (R C : List ℤ) (F S T L : List ℕ) (sound : sound_graph g ≡ true)
    (room : room_for g.vertices R C F S T L ≡ true) where
  pub bfs-says : (verdict_call most g 1 parameter s R C F S T L).said ≡ verdict_says (bfs_reference most g s parameter) true true
  unfolding verdict_call call_on left_by
  bfs-says = rw (sound, room)

  pub wcc-says : (verdict_call most g 2 parameter s R C F S T L).said ≡ verdict_says (wcc_reference most g s) true true
  unfolding verdict_call call_on left_by
  wcc-says = rw (sound, room)

  pub cdlp-says : (verdict_call most g 3 parameter s R C F S T L).said ≡ verdict_says (cdlp_reference most g s parameter) true true
  unfolding verdict_call call_on left_by
  cdlp-says = rw (sound, room)

  pub lcc-says : (verdict_call most g 4 parameter s R C F S T L).said ≡ verdict_says (lcc_reference most g s) true true
  unfolding verdict_call call_on left_by
  lcc-says = rw (sound, room)

  rises : rising_z (names g) ≡ true
  rises = (sound-of g sound).ids_rise

  many : length (names g) ≡ g.vertices
  many = names-length g (sound-of g sound)

  -- ---- each answer is given exactly where the claim's bytes are of its kind:
  -- accepted, incomplete or a mismatch at a line, refused at its first fault
  -- "BFS and CDLP: equal numbers."
  pub bfs-judged : is_there (place_in (names g) parameter) ≡ true
      → Judges ident_of (pos 0) most (names g) (λ vs. vs ≡ depths_from g (place_in (names g) parameter))
      (Differs same_z (pos 0) (pos 0) (depths_from g (place_in (names g) parameter))) s
      (verdict_call most g 1 parameter s R C F S T L).said
  bfs-judged e =
      rw (bfs-says, says-judged (bfs_reference most g s parameter) e)
      (exact-judged most (names g) rises (depths_from g (place_in (names g) parameter))
      (bfs-length g (place_in (names g) parameter) e ∙ sym many) s)

  pub cdlp-judged : good_rounds parameter ≡ true
      → Judges ident_of (pos 0) most (names g) (λ vs. vs ≡ cdlp_of g (nat_abs parameter))
      (Differs same_z (pos 0) (pos 0) (cdlp_of g (nat_abs parameter))) s
      (verdict_call most g 3 parameter s R C F S T L).said
  cdlp-judged e =
      rw (cdlp-says, says-judged (cdlp_reference most g s parameter) e)
      (exact-judged most (names g) rises (cdlp_of g (nat_abs parameter)) (cdlp-length g (sound-of g sound) (nat_abs parameter) ∙ sym many)
      s)

  -- "WCC: equal claims exactly where components are equal."
  pub wcc-judged : Judges ident_of (pos 0) most (names g) (EqualWhere g.vertices (LinkedAmong g.vertices (outward g)))
      (Disagrees (wcc_of g)) s
      (verdict_call most g 2 parameter s R C F S T L).said
  wcc-judged =
      rw (wcc-says, says-judged (wcc_reference most g s) refl)
      (subst (λ (n : ℕ). Judges ident_of (pos 0) most (names g) (EqualWhere n (LinkedAmong g.vertices (outward g))) (Disagrees
      (wcc_of g)) s
      (wcc_reference most g s).judged) many
      (equivalence-judged most (names g) rises (wcc_of g) (wcc-length g (sound-of g sound) ∙ sym many)
      (LinkedAmong g.vertices (outward g))
      (subst (λ (n : ℕ). EqualWhere n (LinkedAmong g.vertices (outward g)) (wcc_of g)) (sym many) (labels-same g (sound-of g sound))) s))

  -- "LCC: 10,000 times |r-s| at most r, with r the exact fraction and s the exact decimal."
  pub lcc-judged : Judges decimal_of no_decimal most (names g) (Alike near (0, 1) no_decimal (coefficients g))
      (Differs near (0, 1) no_decimal (coefficients g)) s
      (verdict_call most g 4 parameter s R C F S T L).said
  lcc-judged =
      rw (lcc-says, says-judged (lcc_reference most g s) refl)
      (epsilon-judged most (names g) rises no_decimal (coefficients g) (column-length (coefficient_at g) 0 g.vertices ∙ sym many) s)

  -- ---- accepted exactly where it matches: the bytes name each of the graph's vertices once, in any order, with values that match,
  -- in at most so many lines
  pub bfs-accepted : is_there (place_in (names g) parameter) ≡ true
      → ((verdict_call most g 1 parameter s R C F S T L).said ≡ accepted)
      ↔ GoodClaim ident_of (pos 0) most (names g) (λ vs. vs ≡ depths_from g (place_in (names g) parameter)) s
  bfs-accepted e = (bfs-judged e).accepted

  pub cdlp-accepted : good_rounds parameter ≡ true
      → ((verdict_call most g 3 parameter s R C F S T L).said ≡ accepted)
      ↔ GoodClaim ident_of (pos 0) most (names g) (λ vs. vs ≡ cdlp_of g (nat_abs parameter)) s
  cdlp-accepted e = (cdlp-judged e).accepted

  pub wcc-accepted : ((verdict_call most g 2 parameter s R C F S T L).said ≡ accepted)
      ↔ GoodClaim ident_of (pos 0) most (names g) (EqualWhere g.vertices (LinkedAmong g.vertices (outward g))) s
  wcc-accepted = wcc-judged.accepted

  pub lcc-accepted : ((verdict_call most g 4 parameter s R C F S T L).said ≡ accepted)
      ↔ GoodClaim decimal_of no_decimal most (names g) (Alike near (0, 1) no_decimal (coefficients g)) s
  lcc-accepted = lcc-judged.accepted

-- ---- the claim that lists the kernel's own result is accepted
module _ (most : ℕ) (g : Graph) (sound : Sound g) (few : g.vertices ≤ most) (fits : AllFit (names g)) where
  names-few : length (names g) ≤ most
  names-few = rw (names-length g sound) few

  pub bfs-own : (root : ℤ) → is_there (place_in (names g) root) ≡ true
      → verdict_says (bfs_reference most g (claim_text (listed (names g) (depths_from g (place_in (names g) root)))) root) true true
      ≡ accepted
  bfs-own root e =
      let values = depths_from g (place_in (names g) root) in
      says-judged (bfs_reference most g (claim_text (listed (names g) values)) root) e
      ∙ exact-own most (names g) sound.ids_rise names-few fits values
      (names-length g sound ∙ sym (bfs-length g (place_in (names g) root) e))
      (bfs-fits g sound.few_vertices (place_in (names g) root))

  pub cdlp-own : (iterations : ℤ) → good_rounds iterations ≡ true
      → verdict_says (cdlp_reference most g (claim_text (listed (names g) (cdlp_of g (nat_abs iterations)))) iterations) true true
      ≡ accepted
  cdlp-own iterations e =
      let values = cdlp_of g (nat_abs iterations) in
      says-judged (cdlp_reference most g (claim_text (listed (names g) values)) iterations) e
      ∙ exact-own most (names g) sound.ids_rise names-few fits values (names-length g sound ∙ sym (cdlp-length g sound
      (nat_abs iterations)))
      (cdlp-fits g fits (nat_abs iterations))

  -- under any renaming that keeps labels apart and in range
  pub wcc-own : (f : ℤ → ℤ) → ((x y : ℤ) → f x ≡ f y → x ≡ y) → AllFit (map f (wcc_of g))
      → verdict_says (wcc_reference most g (claim_text (listed (names g) (map f (wcc_of g))))) true true ≡ accepted
  wcc-own f apart fit =
      says-judged (wcc_reference most g (claim_text (listed (names g) (map f (wcc_of g))))) refl
      ∙ equivalence-own most (names g) sound.ids_rise names-few fits (map f (wcc_of g))
      (names-length g sound ∙ sym (wcc-length g sound) ∙ sym (map-length f (wcc_of g))) fit f apart (wcc_of g)
      (wcc-length g sound ∙ sym (names-length g sound)) refl

  -- with any decimals, in any spelling, that are close to the coefficients
  pub lcc-own : (l : List (WrittenLine Decimal)) → AllSpelled decimal_of l → length l ≤ most → ids_of (pairs_of l) ≡ names g
      → Alike near (0, 1) no_decimal (coefficients g) (claimed_of (pairs_of l))
      → verdict_says (lcc_reference most g (claim_text l)) true true ≡ accepted
  lcc-own l h f e a =
      says-judged (lcc_reference most g (claim_text l)) refl
      ∙ epsilon-own most (names g) sound.ids_rise names-few fits no_decimal (coefficients g)
      (column-length (coefficient_at g) 0 g.vertices ∙ sym (names-length g sound)) l h f e a

-- ---- what is said does not depend on the areas lent, as long as both calls have room or both lack it
pub areas-apart : (most : ℕ) (g : Graph) (kernel : ℕ) (parameter : ℤ) (s : List ℕ) (R C R' C' : List ℤ) (F S T L F' S' T' L' : List ℕ)
    → room_for g.vertices R C F S T L ≡ room_for g.vertices R' C' F' S' T' L'
    → (verdict_call most g kernel parameter s R C F S T L).said ≡ (verdict_call most g kernel parameter s R' C' F' S' T' L').said
unfolding verdict_call call_on left_by unknown_call
areas-apart most g kernel parameter s R C R' C' F S T L F' S' T' L' e = by (eqb kernel 1) (eqb kernel 2) (eqb kernel 3) (eqb kernel 4)
  where
    by : (a b c d : Bool)
        → (cond a (call_on (bfs_reference most g s parameter) g R C F S T L)
        (cond b (call_on (wcc_reference most g s) g R C F S T L)
        (cond c (call_on (cdlp_reference most g s parameter) g R C F S T L)
        (cond d (call_on (lcc_reference most g s) g R C F S T L) (unknown_call R C F S T L))))).said
        ≡ (cond a (call_on (bfs_reference most g s parameter) g R' C' F' S' T' L')
        (cond b (call_on (wcc_reference most g s) g R' C' F' S' T' L')
        (cond c (call_on (cdlp_reference most g s parameter) g R' C' F' S' T' L')
        (cond d (call_on (lcc_reference most g s) g R' C' F' S' T' L') (unknown_call R' C' F' S' T' L'))))).said
    by true b c d = ap (verdict_says (bfs_reference most g s parameter) (sound_graph g)) e
    by false true c d = ap (verdict_says (wcc_reference most g s) (sound_graph g)) e
    by false false true d = ap (verdict_says (cdlp_reference most g s parameter) (sound_graph g)) e
    by false false false true = ap (verdict_says (lcc_reference most g s) (sound_graph g)) e
    by false false false false = refl
