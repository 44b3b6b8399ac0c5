-- The rules "Claims and verdicts" and Graphalytics, 2.4: what each kernel brings to a verdict, its reference output and the rule by which a
-- claim matches.
use Rattle.std.specs.Prelude.{ℕ, Bool, true, List, [], ℤ, pos, nat_abs, length}
use Rattle.basis.specs.Refusal.{Said, not_there, bad_rounds}
use Rattle.basis.specs.Area.{column}
use Rattle.graph.specs.Find.{place_in, is_there}
use Rattle.graph.specs.Sound.{Graph, outward, inward, names}
use Rattle.bfs.specs.Call.{depths_from}
use Rattle.wcc.specs.Component.{wcc_of}
use Rattle.cdlp.specs.Call.{good_rounds}
use Rattle.cdlp.specs.Rounds.{cdlp_of}
use Rattle.lcc.specs.Lcc.{numerator, denominator, numerators, denominators}
use Rattle.matching.specs.Claim.{number_lines, coefficient_lines}
use Rattle.matching.specs.Calls.{no_decimal}
use Rattle.matching.specs.Verdict.{Verdict, Fraction, unequal_vertex, unlike_vertex, far_vertex, judged_by}

-- whether the parameter is good, else the number of its refusal; the result areas' content; what is said of the claim
pub record Reference : Type 0 where
  pub given : Bool
  pub number : ℕ
  pub values : List ℤ
  pub numerators : List ℕ
  pub denominators : List ℕ
  pub judged : Said Verdict

-- what is said of a claim's lines on the vertices of a graph: "every verdict uses this record in place of the line-by-line rule"
abbrev pub judged_on : {A : Type 0} → Graph → A → (List A → ℕ) → Said (List (ℤ × A)) → Said Verdict
judged_on g z mismatch read = judged_by (place_in (names g)) (length (names g)) z mismatch read

-- the coefficient of a vertex, "in lowest terms"
abbrev pub coefficient_at : Graph → ℕ → Fraction
coefficient_at g v = (numerator g.vertices (outward g) (inward g) v, denominator g.vertices (outward g) (inward g) v)

-- those of all vertices, in vertex order
abbrev pub coefficients : Graph → List Fraction
coefficients g = column (coefficient_at g) 0 g.vertices

-- a claim of at most so many lines on a graph, "parameter (root or iterations, else ignored)"
module _ (most : ℕ) (g : Graph) (s : List ℕ) where
  -- "BFS and CDLP: equal numbers."
  abbrev pub bfs_reference : ℤ → Reference
  bfs_reference root =
      record {
        given = is_there (place_in (names g) root);
        number = not_there;
        values = depths_from g (place_in (names g) root);
        numerators = [];
        denominators = [];
        judged = judged_on g (pos 0) (unequal_vertex (depths_from g (place_in (names g) root))) (number_lines most s);
      }

  -- "WCC: equal claims exactly where components are equal."
  abbrev pub wcc_reference : Reference
  wcc_reference =
      record {
        given = true;
        number = 0;
        values = wcc_of g;
        numerators = [];
        denominators = [];
        judged = judged_on g (pos 0) (unlike_vertex (wcc_of g)) (number_lines most s);
      }

  -- "BFS and CDLP: equal numbers.": the labels after so many iterations
  abbrev pub cdlp_reference : ℤ → Reference
  cdlp_reference iterations =
      record {
        given = good_rounds iterations;
        number = bad_rounds;
        values = cdlp_of g (nat_abs iterations);
        numerators = [];
        denominators = [];
        judged = judged_on g (pos 0) (unequal_vertex (cdlp_of g (nat_abs iterations))) (number_lines most s);
      }

  -- "LCC: 10,000 times |r-s| at most r"
  abbrev pub lcc_reference : Reference
  lcc_reference =
      record {
        given = true;
        number = 0;
        values = [];
        numerators = numerators g;
        denominators = denominators g;
        judged = judged_on g no_decimal (far_vertex (coefficients g)) (coefficient_lines most s);
      }
