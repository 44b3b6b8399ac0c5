-- Laws of the public verdict: room in six areas, and one law for each kernel. Assumes nothing.
use Rattle.std.specs.Prelude.{Result, Ok, Err}
use mathlib.Core.Path.{◌≡◌, refl, sym, ap, ◌∙◌}
use mathlib.Core.Bool.{Bool, true, ◌&&◌}
use mathlib.Core.List.{List, []}
use Prim.Native.Nat.{ℕ}
use native.Mathlib.Nat.{sub-zero}
use lib.Dec.{leb}
use lib.IntN.{ℤ, pos}
use lib.ListN.{length, replicate}
use borrow.Author.Tests.{leb-true, ne_eqb}
use Rattle.basis.specs.Refusal.{Said, gives, refuses, plain, unknown_number}
use Rattle.basis.specs.declared.refusal.Refusal.{Refusal}
use Rattle.basis.specs.Area.{leaves, cleared, cleared_z}
use Rattle.basis.proofs.Tests.{and_first, and_second}
use Rattle.graph.specs.Sound.{Graph, sound_graph}
use Rattle.kernels.specs.declared.Kernel.{Kernel}
use Rattle.kernels.specs.declared.UnknownKernel.{UnknownKernel}
use Rattle.kernels.specs.Kernel.{number_of, Named}
use Rattle.matching.specs.Verdict.{Verdict}
use Rattle.verdicts.specs.Reference.{Reference, bfs_reference, wcc_reference, cdlp_reference, lcc_reference}
use Rattle.verdicts.specs.Call.{Outcome, outcome, room_for, verdict_says, left_by, call_on, unknown_call, verdict_call}
use Rattle.verdicts.specs.Steps.{Roomy, Numbers, numbers, numbers_verdict, Terms, terms, terms_verdict}

-- ---- room in areas of six lengths
module _ (n a b c d e l : ℕ) where
  -- what the answer says of each
  module _ {room : Bool} (p : room ≡ (leb n a && (leb n b && (leb n c && (leb n d && (leb n e && leb n l)))))) where
    from_second : room ≡ true → (leb n b && (leb n c && (leb n d && (leb n e && leb n l)))) ≡ true
    from_second t = and_second (leb n a) _ (sym p ∙ t)

    from-third : room ≡ true → (leb n c && (leb n d && (leb n e && leb n l))) ≡ true
    from-third t = and_second (leb n b) _ (from_second t)

    from-fourth : room ≡ true → (leb n d && (leb n e && leb n l)) ≡ true
    from-fourth t = and_second (leb n c) _ (from-third t)

    from-fifth : room ≡ true → (leb n e && leb n l) ≡ true
    from-fifth t = and_second (leb n d) _ (from-fourth t)

    -- the two areas for values, the three of whole numbers, and the record
    pub roomy : (Roomy room n a × Roomy room n b) × (Roomy room n c × Roomy room n d × Roomy room n e) × Roomy room n l
    roomy = (
      (λ t. leb-true n a (and_first (leb n a) _ (sym p ∙ t)), λ t. leb-true n b (and_first (leb n b) _ (from_second t))),
      (
        λ t. leb-true n c (and_first (leb n c) _ (from-third t)),
        λ t. leb-true n d (and_first (leb n d) _ (from-fourth t)),
        λ t. leb-true n e (and_first (leb n e) (leb n l) (from-fifth t)),
      ),
      λ t. leb-true n l (and_second (leb n e) (leb n l) (from-fifth t)),
    )

-- ---- the outcome from its parts
all_same : {x y : Said Verdict} {R R' C C' : List ℤ} {F F' S S' T T' L L' : List ℕ} → x ≡ y → R ≡ R' → C ≡ C' → F ≡ F' → S ≡ S'
    → T ≡ T' → L ≡ L'
    → outcome x R C F S T L ≡ outcome y R' C' F' S' T' L'
all_same a b c d e f g = cc

-- no results of this kind
leaves_none : {A : Type 0} (x : Said Verdict) (z : A) (size : ℕ) → replicate size z ≡ leaves x z size []
leaves_none (gives v) z size = ap (λ (k : ℕ). replicate k z) (sym (sub-zero size))
leaves_none (refuses r) z size = refl

module _ (k : Reference) (g : Graph) (R C : List ℤ) (F S T L : List ℕ) {room : Bool} (p : room ≡ room_for g.vertices R C F S T L)
    {x : Said Verdict} {R' C' : List ℤ} {F' S' T' L' : List ℕ} where
  numbers-call : k.numerators ≡ [] → k.denominators ≡ [] → numbers x R' C' L' ≡ numbers_verdict k (sound_graph g) room R C L
      → F' ≡ cleared F
      → S' ≡ cleared S → T' ≡ cleared T
      → outcome x R' C' F' S' T' L' ≡ call_on k g R C F S T L
  unfolding numbers_verdict call_on left_by
  numbers-call u w h f s t =
      let y = verdict_says k (sound_graph g) room in
      rw (← p)
      (all_same (ap (λ (o : Numbers). o.said) h) (ap (λ (o : Numbers). o.result) h) (ap (λ (o : Numbers). o.claimed) h)
      (f ∙ leaves_none y 0 (length F) ∙ ap (leaves y 0 (length F)) (sym u))
      (s ∙ leaves_none y 0 (length S) ∙ ap (leaves y 0 (length S)) (sym w)) t (ap (λ (o : Numbers). o.lines) h))

  terms-call : k.values ≡ [] → terms x F' S' L' ≡ terms_verdict k (sound_graph g) room F S L → R' ≡ cleared_z R → C' ≡ cleared_z C
      → T' ≡ cleared T
      → outcome x R' C' F' S' T' L' ≡ call_on k g R C F S T L
  unfolding terms_verdict call_on left_by
  terms-call u h r c t =
      let y = verdict_says k (sound_graph g) room in
      rw (← p)
      (all_same (ap (λ (o : Terms). o.said) h) (r ∙ leaves_none y (pos 0) (length R) ∙ ap (leaves y (pos 0) (length R)) (sym u)) c
      (ap (λ (o : Terms). o.first) h) (ap (λ (o : Terms). o.second) h) t (ap (λ (o : Terms). o.lines) h))

-- ---- by the kernel's number
module _ (kernel : ℕ) (r : Result Kernel UnknownKernel) (h : Named kernel r) where
  pub named-as : {found : Kernel} (k : Kernel) → r ≡ Ok found → found ≡ k → kernel ≡ number_of k
  named-as k e f = sym (rw (e, f) at h)

  pub named-none : {u : UnknownKernel} → r ≡ Err u → (k : Kernel) → kernel ≡ number_of k → ⊥
  named-none e k f = let n = rw e at h in n.1 k (sym f)

module _ (most : ℕ) (g : Graph) (kernel : ℕ) (parameter : ℤ) (s : List ℕ) (R C : List ℤ) (F S T L : List ℕ) where
  pub verdict-unknown : (kernel ≡ 1 → ⊥) → (kernel ≡ 2 → ⊥) → (kernel ≡ 3 → ⊥) → (kernel ≡ 4 → ⊥) → {x : Outcome}
      → x ≡ unknown_call R C F S T L
      → x ≡ verdict_call most g kernel parameter s R C F S T L
  unfolding verdict_call
  verdict-unknown a b c d h = rw (ne_eqb kernel 1 a, ne_eqb kernel 2 b, ne_eqb kernel 3 c, ne_eqb kernel 4 d) h

  -- SSSP has no rule of matching
  pub verdict-sssp : kernel ≡ 5 → {x : Outcome} → x ≡ unknown_call R C F S T L → x ≡ verdict_call most g kernel parameter s R C F S T L
  unfolding verdict_call
  verdict-sssp e h = rw e h

  module _ {room : Bool}
      (p : room
      ≡ (leb g.vertices (length R) && (leb g.vertices (length C)
      && (leb g.vertices (length F) && (leb g.vertices (length S)
      && (leb g.vertices (length T) && leb g.vertices (length L)))))))
      {x : Said Verdict} {R' C' : List ℤ} {F' S' T' L' : List ℕ} where
    pub verdict-bfs : {parameter' : ℤ} → parameter' ≡ parameter → kernel ≡ 1
        → numbers x R' C' L' ≡ numbers_verdict (bfs_reference most g s parameter') (sound_graph g) room R C L → F' ≡ cleared F → S'
        ≡ cleared S
        → T' ≡ cleared T
        → outcome x R' C' F' S' T' L' ≡ verdict_call most g kernel parameter s R C F S T L
    unfolding verdict_call room_for
    verdict-bfs {parameter'} q e h a b c =
        numbers-call (bfs_reference most g s parameter') g R C F S T L p refl refl h a b c
        ∙ rw (e, q)

    pub verdict-wcc : kernel ≡ 2 → numbers x R' C' L'
        ≡ numbers_verdict (wcc_reference most g s) (sound_graph g) room R C L
        → F' ≡ cleared F → S' ≡ cleared S → T' ≡ cleared T → outcome x R' C' F' S' T' L'
        ≡ verdict_call most g kernel parameter s R C F S T L
    unfolding verdict_call room_for
    verdict-wcc e h a b c =
        numbers-call (wcc_reference most g s) g R C F S T L p refl refl h a b c
        ∙ rw e

    pub verdict-cdlp : {parameter' : ℤ} → parameter' ≡ parameter → kernel ≡ 3
        → numbers x R' C' L' ≡ numbers_verdict (cdlp_reference most g s parameter') (sound_graph g) room R C L
        → (F' ≡ cleared F) × (S' ≡ cleared S) × (T' ≡ cleared T)
        → outcome x R' C' F' S' T' L' ≡ verdict_call most g kernel parameter s R C F S T L
    unfolding verdict_call room_for
    verdict-cdlp {parameter'} q e h a =
        numbers-call (cdlp_reference most g s parameter') g R C F S T L p refl refl h a.0 a.1 a.2
        ∙ rw (e, q)

    pub verdict-lcc : kernel ≡ 4
        → terms x F' S' L' ≡ terms_verdict (lcc_reference most g s) (sound_graph g) room F S L
        → R' ≡ cleared_z R → C' ≡ cleared_z C → T' ≡ cleared T
        → outcome x R' C' F' S' T' L' ≡ verdict_call most g kernel parameter s R C F S T L
    unfolding verdict_call room_for
    verdict-lcc e h a b c =
        terms-call (lcc_reference most g s) g R C F S T L p refl h a b c
        ∙ rw e

pub unknown-all : (R C : List ℤ) (F S T L : List ℕ) {R' C' : List ℤ} {F' S' T' L' : List ℕ} {r : Refusal} → r ≡ plain unknown_number
    → R' ≡ cleared_z R → C' ≡ cleared_z C → F' ≡ cleared F → S' ≡ cleared S → T' ≡ cleared T → L' ≡ cleared L
    → outcome (refuses r) R' C' F' S' T' L' ≡ unknown_call R C F S T L
unfolding unknown_call
unknown-all R C F S T L e a b c d f g = all_same (ap refuses e) a b c d f g
