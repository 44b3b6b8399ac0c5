-- The rules "Checked examples": P1 to P12 as one list. Each entry has what the definitions that the promises cite compute, and then what
-- the rules say that it is.
use Rattle.std.specs.Prelude.{ℕ, List, [], ◌∷◌, ℤ, pos, negsuc, replicate}
use Rattle.basis.specs.Refusal.{Said, gives, refuses, plain, no_room}
use Rattle.text.specs.Bytes.{bytes}
use Rattle.text.specs.Word.{minus_of}
use Rattle.text.specs.Line.{LineSaid, line, fault, vertex_line}
use Rattle.book.specs.One.{one, one_book}
use Rattle.book.specs.Rules.{group_count}
use Rattle.book.specs.Series.{Call, state, run}
use Rattle.bfs.specs.Call as B
use Rattle.wcc.specs.Call as W
use Rattle.cdlp.specs.Call as C
use Rattle.lcc.specs.Call as L
use Rattle.matching.specs.declared.numbers.Rule.TheVariants.{Equivalence}
use Rattle.matching.specs.Verdict.{Verdict, matched, mismatch_at}
use Rattle.matching.specs.Calls.{numbers_call, coefficients_call}
use Rattle.verdicts.specs.Call.{most_lines}
use Rattle.cases.specs.SheetGraph.{sheet_graph}

-- what is computed: a line read; a kernel's answer and what stands in its result area, or in the two of LCC; a verdict; a book's area
-- and its group count
pub data Value : Type 0 where
  reads : LineSaid ℤ → Value
  results : Said (Unit {0}) → List ℤ → Value
  fractions : Said (Unit {0}) → List ℕ → List ℕ → Value
  judges : Said Verdict → Value
  books : List ℤ → Said ℕ → Value

-- an entry of the list: what the definitions compute, and what the rules say that it is
pub record Case : Type 0 where
  pub computed : Value
  pub expected : Value

infix 20 ◌is◌
-- the same, by its fields in order
abbrev pub ◌is◌ : Value → Value → Case
computed is expected = record { computed = computed; expected = expected }

-- an area of five places, one for each vertex of the sheet's graph
abbrev lent_z : List ℤ
lent_z = replicate 5 (pos 0)

-- the same of whole numbers
abbrev lent_n : List ℕ
lent_n = replicate 5 0

-- BFS from a root, on the sheet's graph: the answer, and the depths in the result area
abbrev bfs_from : ℤ → Value
bfs_from root = let o = B.bfs_call sheet_graph root lent_z lent_n in results o.said o.depth

-- WCC: the answer, and the components' labels in the result area
abbrev wcc_labels : Value
wcc_labels = let o = W.wcc_call sheet_graph lent_z lent_n in results o.said o.result

-- CDLP of so many rounds: the answer, and the labels in the result area
abbrev cdlp_after : ℤ → Value
cdlp_after rounds = let o = C.cdlp_call sheet_graph rounds lent_z lent_n lent_n lent_n in results o.said o.result

-- LCC: the answer, and the numerators and denominators in the two result areas
abbrev lcc_fractions : Value
lcc_fractions = let o = L.lcc_call sheet_graph lent_n lent_n lent_n in fractions o.said o.numerators o.denominators

-- the verdict on a claim on vertex 1, whose coefficient is a / b
abbrev coefficient_claim : ℕ → ℕ → List ℕ → Value
coefficient_claim a b claim = judges (coefficients_call most_lines (pos 1 ∷ []) (a ∷ []) (b ∷ []) claim (0 ∷ [])).said

-- the verdict on a claim on vertices 1, 2 and 3, of components a, a and b: their smallest identifiers are 1, 1 and 3
abbrev component_claim : List ℕ → Value
component_claim claim =
    judges
    (numbers_call Equivalence most_lines (pos 1 ∷ pos 2 ∷ pos 3 ∷ []) (pos 1 ∷ pos 1 ∷ pos 3 ∷ []) claim (replicate 3 (pos 0))
    (replicate 3 0)
    ).said

-- a book of four vertices after a series of calls, its area holding anything before
abbrev book_after : List Call → Value
book_after calls =
    let s = run one_book (state (pos 7 ∷ negsuc 6 ∷ pos 0 ∷ negsuc 9223372036854775807 ∷ []) (refuses (plain no_room)) [] 0) calls in
    books s.area (group_count (one s.area))

-- a vertex file of one line
abbrev vertex_of : List ℕ → Value
vertex_of file = reads (vertex_line file 0)

-- "Prove cases P1 to P12 as one list": the list, of two entries each for P9, P10 and P11
abbrev pub cases : List Case
cases =
    -- P1 "`-9223372036854775808` reads": the number, and the place past the line
    (vertex_of (bytes "-9223372036854775808\n") is reads (line (minus_of 9223372036854775808) 21))
    -- P2 "`9223372036854775808` is 3"
    ∷ (vertex_of (bytes "9223372036854775808\n") is reads (fault 3 0 0))
    -- P3 "`-0` is 2"
    ∷ (vertex_of (bytes "-0\n") is reads (fault 2 2 0))
    -- P4 `bfs 2 / 5 / -3 9223372036854775807 / 2 0 / 5 1 / 9 1 / 20 2`
    ∷ (bfs_from (pos 2) is results (gives tt) (pos 9223372036854775807 ∷ pos 0 ∷ pos 1 ∷ pos 1 ∷ pos 2 ∷ []))
    -- P5 `wcc / 5 / -3 -3 / 2 2 / 5 2 / 9 2 / 20 2`
    ∷ (wcc_labels is results (gives tt) (minus_of 3 ∷ pos 2 ∷ pos 2 ∷ pos 2 ∷ pos 2 ∷ []))
    -- P6 `cdlp 2 / 5 / -3 -3 / 2 2 / 5 5 / 9 2 / 20 2`
    ∷ (cdlp_after (pos 2) is results (gives tt) (minus_of 3 ∷ pos 2 ∷ pos 5 ∷ pos 2 ∷ pos 2 ∷ []))
    -- P7 `lcc / 5 / -3 0/1 / 2 1/2 / 5 1/2 / 9 1/3 / 20 0/1`
    ∷ (lcc_fractions is fractions (gives tt) (0 ∷ 1 ∷ 1 ∷ 1 ∷ 0 ∷ []) (1 ∷ 2 ∷ 2 ∷ 3 ∷ 1 ∷ []))
    -- P8 "CDLP 1 gives -3, 5, 2, 2, 9"
    ∷ (cdlp_after (pos 1) is results (gives tt) (minus_of 3 ∷ pos 5 ∷ pos 2 ∷ pos 2 ∷ pos 9 ∷ []))
    -- P9 "r = 1/2 matches 0.50005 and not 0.500051"
    ∷ (coefficient_claim 1 2 (bytes "1 0.50005\n") is judges (gives matched))
    ∷ (coefficient_claim 1 2 (bytes "1 0.500051\n") is judges (gives (mismatch_at 1)))
    -- P10 "r = 1/3 matches 0.3333 and not 0.3332999"
    ∷ (coefficient_claim 1 3 (bytes "1 0.3333\n") is judges (gives matched))
    ∷ (coefficient_claim 1 3 (bytes "1 0.3332999\n") is judges (gives (mismatch_at 1)))
    -- P11 "labels 7 7 3 match components a a b; 7 7 7 fails at line 3"
    ∷ (component_claim (bytes "1 7\n2 7\n3 3\n") is judges (gives matched))
    ∷ (component_claim (bytes "1 7\n2 7\n3 7\n") is judges (gives (mismatch_at 3)))
    -- P12 "four vertices, joins 0-1, 2-3, 1-3 give", of one area by change K9, "P12 ends as -4 0 0 2", "count 1"
    ∷ (book_after (Call.opening ∷ Call.joining 0 1 ∷ Call.joining 2 3 ∷ Call.joining 1 3 ∷ [])
    is books (negsuc 3 ∷ pos 0 ∷ pos 0 ∷ pos 2 ∷ []) (gives 1))
    ∷ []

-- the first side: what the definitions compute, of every entry
abbrev pub computeds : List Case → List Value
computeds [] = []
computeds (c ∷ l) = c.computed ∷ computeds l

-- the second side: what the rules say, of every entry
abbrev pub expecteds : List Case → List Value
expecteds [] = []
expecteds (c ∷ l) = c.expected ∷ expecteds l
