-- One outcome for every public call. `Reads.Learnt` is what Rattle tells a caller by the `ensures`; of a returned part it is the part's
-- list that is promised, not where it lies. Assumes nothing.
use mathlib.Core.Path.{◌≡◌, refl, sym, ap, ap₂, ◌∙◌}
use denote.RattleType.{RattleType}
use denote.Param.Laws.{Laws, IsCopy}
use mir.Syntax.{Dict}
use Rattle.std.specs.declared.clone.Clone as Clone
use Rattle.basis.specs.declared.area.Zero as Zero
use Rattle.graph.specs.Part.{part_of}
use Rattle.basis.specs.contracts.refusal.Refusal.plain as basis-plain
use Rattle.basis.proofs.refusal.Refusal.plain.Reads as basis-plain-reads
use Rattle.basis.specs.contracts.refusal.Refusal.at as basis-at
use Rattle.basis.proofs.refusal.Refusal.at.Reads as basis-at-reads
use Rattle.basis.specs.contracts.refusal.Refusal.at_column as basis-at_column
use Rattle.basis.proofs.refusal.Refusal.at_column.Reads as basis-at_column-reads
use Rattle.basis.specs.contracts.order.less as basis-less
use Rattle.basis.proofs.order.less.Reads as basis-less-reads
use Rattle.basis.specs.contracts.order.same as basis-same
use Rattle.basis.proofs.order.same.Reads as basis-same-reads
use Rattle.basis.specs.contracts.order.lesser as basis-lesser
use Rattle.basis.proofs.order.lesser.Reads as basis-lesser-reads
use Rattle.basis.specs.contracts.area.number_at as basis-number_at
use Rattle.basis.proofs.area.number_at.Reads as basis-number_at-reads
use Rattle.basis.specs.contracts.area.fill as basis-fill
use Rattle.basis.proofs.area.fill.Reads as basis-fill-reads
use Rattle.basis.specs.contracts.area.clear as basis-clear
use Rattle.basis.proofs.area.clear.Reads as basis-clear-reads
use Rattle.basis.specs.contracts.area.copy as basis-copy
use Rattle.basis.proofs.area.copy.Reads as basis-copy-reads
use Rattle.text.specs.contracts.count.has as text-has
use Rattle.text.proofs.count.has.Reads as text-has-reads
use Rattle.text.specs.contracts.count.line_end as text-line_end
use Rattle.text.proofs.count.line_end.Reads as text-line_end-reads
use Rattle.text.specs.contracts.count.count as text-count
use Rattle.text.proofs.count.count.Reads as text-count-reads
use Rattle.text.specs.contracts.ident.field as text-field
use Rattle.text.proofs.ident.field.Reads as text-field-reads
use Rattle.text.specs.contracts.line.Cursor.vertex as text-vertex
use Rattle.text.proofs.line.Cursor.vertex.Reads as text-vertex-reads
use Rattle.text.specs.contracts.line.Cursor.edge as text-edge
use Rattle.text.proofs.line.Cursor.edge.Reads as text-edge-reads
use Rattle.text.specs.contracts.line.Cursor.claim as text-claim
use Rattle.text.proofs.line.Cursor.claim.Reads as text-claim-reads
use Rattle.text.specs.contracts.line.Cursor.coefficient_claim as text-coefficient_claim
use Rattle.text.proofs.line.Cursor.coefficient_claim.Reads as text-coefficient_claim-reads
use Rattle.write.specs.contracts.bytes.put as write-put
use Rattle.write.proofs.bytes.put.Reads as write-put-reads
use Rattle.write.specs.contracts.bytes.put_bytes as write-put_bytes
use Rattle.write.proofs.bytes.put_bytes.Reads as write-put_bytes-reads
use Rattle.write.specs.contracts.numbers.put_number as write-put_number
use Rattle.write.proofs.numbers.put_number.Reads as write-put_number-reads
use Rattle.write.specs.contracts.numbers.put_signed as write-put_signed
use Rattle.write.proofs.numbers.put_signed.Reads as write-put_signed-reads
use Rattle.book.specs.contracts.opening.open_book as book-open_book
use Rattle.book.proofs.opening.open_book.Reads as book-open_book-reads
use Rattle.book.specs.contracts.joining.join as book-join
use Rattle.book.proofs.joining.join.Reads as book-join-reads
use Rattle.book.specs.contracts.joining.join_each as book-join_each
use Rattle.book.proofs.joining.join_each.Reads as book-join_each-reads
use Rattle.book.specs.contracts.readings.head as book-head
use Rattle.book.proofs.readings.head.Reads as book-head-reads
use Rattle.book.specs.contracts.readings.same_group as book-same_group
use Rattle.book.proofs.readings.same_group.Reads as book-same_group-reads
use Rattle.book.specs.contracts.readings.group_size as book-group_size
use Rattle.book.proofs.readings.group_size.Reads as book-group_size-reads
use Rattle.book.specs.contracts.readings.group_count as book-group_count
use Rattle.book.proofs.readings.group_count.Reads as book-group_count-reads
use Rattle.book.specs.contracts.readings.step_limit as book-step_limit
use Rattle.book.proofs.readings.step_limit.Reads as book-step_limit-reads
use Rattle.graph.specs.contracts.find.find as graph-find
use Rattle.graph.proofs.find.find.Reads as graph-find-reads
use Rattle.graph.specs.contracts.sound.sound as graph-sound
use Rattle.graph.proofs.sound.sound.Reads as graph-sound-reads
use Rattle.graph.specs.contracts.walk.sound_over as graph-sound_over
use Rattle.graph.proofs.walk.sound_over.Reads as graph-sound_over-reads
use Rattle.graph.specs.contracts.part.part as graph-part
use Rattle.graph.proofs.part.part.Reads as graph-part-reads
use Rattle.view.specs.contracts.held.view_of as view-view_of
use Rattle.view.specs.contracts.held.of_vertex as view-of_vertex
use Rattle.view.specs.contracts.neighbours as view-neighbours
use Rattle.view.proofs.neighbours.Reads as view-neighbours-reads
use Rattle.store.specs.contracts.spread.lacks as store-lacks
use Rattle.store.proofs.spread.lacks.Reads as store-lacks-reads
use Rattle.store.specs.contracts.spread.spread as store-spread
use Rattle.store.proofs.spread.spread.Reads as store-spread-reads
use Rattle.store.specs.contracts.sums.sum_up as store-sum_up
use Rattle.store.proofs.sums.sum_up.Reads as store-sum_up-reads
use Rattle.lists.specs.contracts.vertices.read_vertices as lists-read_vertices
use Rattle.lists.proofs.vertices.read_vertices.Reads as lists-read_vertices-reads
use Rattle.lists.specs.contracts.edges.read_edges as lists-read_edges
use Rattle.lists.proofs.edges.read_edges.Reads as lists-read_edges-reads
use Rattle.load.specs.contracts.load_within as load-load_within
use Rattle.load.proofs.load_within.Reads as load-load_within-reads
use Rattle.load.specs.contracts.load as load-load
use Rattle.load.proofs.load.Reads as load-load-reads
use Rattle.kernels.specs.contracts.refused as kernels-refused
use Rattle.kernels.proofs.refused.Reads as kernels-refused-reads
use Rattle.bfs.specs.contracts.bfs as bfs-bfs
use Rattle.bfs.proofs.bfs.Reads as bfs-bfs-reads
use Rattle.wcc.specs.contracts.wcc as wcc-wcc
use Rattle.wcc.proofs.wcc.Reads as wcc-wcc-reads
use Rattle.cdlp.specs.contracts.cdlp as cdlp-cdlp
use Rattle.cdlp.proofs.cdlp.Reads as cdlp-cdlp-reads
use Rattle.lcc.specs.contracts.lcc as lcc-lcc
use Rattle.lcc.proofs.lcc.Reads as lcc-lcc-reads
use Rattle.lcc.specs.contracts.common.common as lcc-common
use Rattle.lcc.proofs.common.common.Reads as lcc-common-reads
use Rattle.lcc.specs.contracts.ratio.gcd as lcc-gcd
use Rattle.lcc.proofs.ratio.gcd.Reads as lcc-gcd-reads
use Rattle.lcc.specs.contracts.ratio.reduced as lcc-reduced
use Rattle.lcc.proofs.ratio.reduced.Reads as lcc-reduced-reads
use Rattle.matching.specs.contracts.close.close as matching-close
use Rattle.matching.proofs.close.close.Reads as matching-close-reads
use Rattle.matching.specs.contracts.numbers.judge_numbers as matching-judge_numbers
use Rattle.matching.proofs.numbers.judge_numbers.Reads as matching-judge_numbers-reads
use Rattle.matching.specs.contracts.coefficients.judge_coefficients as matching-judge_coefficients
use Rattle.matching.proofs.coefficients.judge_coefficients.Reads as matching-judge_coefficients-reads
use Rattle.verdicts.specs.contracts.verdict.verdict_within as verdicts-verdict_within
use Rattle.verdicts.proofs.verdict.verdict_within.Reads as verdicts-verdict_within-reads
use Rattle.verdicts.specs.contracts.verdict.verdict as verdicts-verdict
use Rattle.verdicts.proofs.verdict.verdict.Reads as verdicts-verdict-reads
use Rattle.plan.specs.contracts.job.read_job as plan-read_job
use Rattle.plan.proofs.job.read_job.Reads as plan-read_job-reads
use Rattle.plan.specs.contracts.sections.read_sections as plan-read_sections
use Rattle.plan.proofs.sections.read_sections.Reads as plan-read_sections-reads
use Rattle.plan.specs.contracts.sections.check as plan-check
use Rattle.plan.proofs.sections.check.Reads as plan-check-reads
use Rattle.plan.specs.contracts.line.line_number as plan-line_number
use Rattle.plan.proofs.line.line_number.Reads as plan-line_number-reads
use Rattle.plan.specs.contracts.line.sheet_fault as plan-sheet_fault
use Rattle.plan.proofs.line.sheet_fault.Reads as plan-sheet_fault-reads
use Rattle.plan.specs.contracts.line.begins_at as plan-begins_at
use Rattle.plan.proofs.line.begins_at.Reads as plan-begins_at-reads
use Rattle.listing.specs.contracts.refused.put_spaced as listing-put_spaced
use Rattle.listing.proofs.refused.put_spaced.Reads as listing-put_spaced-reads
use Rattle.listing.specs.contracts.refused.put_refused as listing-put_refused
use Rattle.listing.proofs.refused.put_refused.Reads as listing-put_refused-reads
use Rattle.listing.specs.contracts.results.put_head as listing-put_head
use Rattle.listing.proofs.results.put_head.Reads as listing-put_head-reads
use Rattle.listing.specs.contracts.results.put_pair as listing-put_pair
use Rattle.listing.proofs.results.put_pair.Reads as listing-put_pair-reads
use Rattle.listing.specs.contracts.results.put_ratio as listing-put_ratio
use Rattle.listing.proofs.results.put_ratio.Reads as listing-put_ratio-reads
use Rattle.listing.specs.contracts.results.put_pairs as listing-put_pairs
use Rattle.listing.proofs.results.put_pairs.Reads as listing-put_pairs-reads
use Rattle.listing.specs.contracts.results.put_ratios as listing-put_ratios
use Rattle.listing.proofs.results.put_ratios.Reads as listing-put_ratios-reads
use Rattle.sheet.specs.contracts.jobs.run_jobs as sheet-run_jobs
use Rattle.sheet.proofs.jobs.run_jobs.Reads as sheet-run_jobs-reads
use Rattle.sheet.specs.contracts.answer as sheet-answer
use Rattle.sheet.proofs.answer.Reads as sheet-answer-reads
use Rattle.trace.specs.contracts.loading.trace_load as trace-trace_load
use Rattle.trace.proofs.loading.trace_load.Reads as trace-trace_load-reads
use Rattle.trace.specs.contracts.four_kernels.trace_bfs as trace-trace_bfs
use Rattle.trace.proofs.four_kernels.trace_bfs.Reads as trace-trace_bfs-reads
use Rattle.trace.specs.contracts.four_kernels.trace_wcc as trace-trace_wcc
use Rattle.trace.proofs.four_kernels.trace_wcc.Reads as trace-trace_wcc-reads
use Rattle.trace.specs.contracts.four_kernels.trace_cdlp as trace-trace_cdlp
use Rattle.trace.proofs.four_kernels.trace_cdlp.Reads as trace-trace_cdlp-reads
use Rattle.trace.specs.contracts.four_kernels.trace_lcc as trace-trace_lcc
use Rattle.trace.proofs.four_kernels.trace_lcc.Reads as trace-trace_lcc-reads
use Rattle.trace.specs.contracts.group_book.trace_book_open as trace-opened
use Rattle.trace.proofs.group_book.trace_book_open.Reads as trace-opened-reads
use Rattle.trace.specs.contracts.group_book.trace_book_join as trace-trace_book_join
use Rattle.trace.proofs.group_book.trace_book_join.Reads as trace-trace_book_join-reads
use Rattle.trace.specs.contracts.group_book.trace_book_head as trace-trace_book_head
use Rattle.trace.proofs.group_book.trace_book_head.Reads as trace-trace_book_head-reads
use Rattle.trace.specs.contracts.group_book.trace_book_same as trace-trace_book_same
use Rattle.trace.proofs.group_book.trace_book_same.Reads as trace-trace_book_same-reads
use Rattle.trace.specs.contracts.group_book.trace_book_size as trace-trace_book_size
use Rattle.trace.proofs.group_book.trace_book_size.Reads as trace-trace_book_size-reads
use Rattle.trace.specs.contracts.group_book.trace_book_count as trace-trace_book_count
use Rattle.trace.proofs.group_book.trace_book_count.Reads as trace-trace_book_count-reads
use Rattle.trace.specs.contracts.group_book.trace_book_limit as trace-trace_book_limit
use Rattle.trace.proofs.group_book.trace_book_limit.Reads as trace-trace_book_limit-reads
use Rattle.trace.specs.contracts.judging.trace_judge as trace-trace_judge
use Rattle.trace.proofs.judging.trace_judge.Reads as trace-trace_judge-reads
use Rattle.trace.specs.contracts.judging.trace_verdict as trace-trace_verdict
use Rattle.trace.proofs.judging.trace_verdict.Reads as trace-trace_verdict-reads
use Rattle.graph.specs.contracts.weights.is_weighted as graph-is_weighted
use Rattle.graph.proofs.weights.is_weighted.Reads as graph-is_weighted-reads
use Rattle.graph.specs.contracts.weights.weighted_sound_over as graph-weighted_sound_over
use Rattle.graph.proofs.weights.weighted_sound_over.Reads as graph-weighted_sound_over-reads
use Rattle.sssp.specs.contracts.sssp as sssp-sssp
use Rattle.sssp.proofs.sssp.Reads as sssp-sssp-reads
use Rattle.store.specs.contracts.weigh.spread_weighed as store-spread_weighed
use Rattle.store.proofs.weigh.spread_weighed.Reads as store-spread_weighed-reads
use Rattle.text.specs.contracts.line.Cursor.distance_claim as text-distance_claim
use Rattle.text.proofs.line.Cursor.distance_claim.Reads as text-distance_claim-reads
use Rattle.text.specs.contracts.line.has_weights as text-has_weights
use Rattle.text.proofs.line.has_weights.Reads as text-has_weights-reads
use Rattle.text.specs.contracts.line.Cursor.listed_edge as text-listed_edge
use Rattle.text.proofs.line.Cursor.listed_edge.Reads as text-listed_edge-reads
use Rattle.write.specs.contracts.millionths.put_millionths as write-put_millionths
use Rattle.write.proofs.millionths.put_millionths.Reads as write-put_millionths-reads
use Rattle.text.proofs.Saids.{count-one, scan-one, reader-one, weighed-one}
use Rattle.graph.proofs.Finds.{searched-is}
use Rattle.book.proofs.Answers.{one-opened, one-joined, one-joined_each, one-headed, one-compared, one-reading}
use Rattle.cases.specs.Outcome.{One, OneAs}
use Rattle.cases.proofs.Answers.{one-said}
use Rattle.matching.proofs.Judging.{says-apart}

-- two that a promise fixes as one third; of records, then, each field
pub meet : {A : Type 0} {x y d : A} → x ≡ d → y ≡ d → x ≡ y
meet p q = p ∙ sym q

infixr 20 ◌&◌
-- what stands at exit, argument by argument: an area, or nothing where none is lent for writing
abbrev ◌&◌ : {A B : Type 0} → A → B → A × B
x & rest = (x, rest)

-- ---- basis
pub basis-plain-one : One basis-plain.ended (λ M 𝓤 𝓛. basis-plain.clauses 𝓛)
basis-plain-one = record {
  promise = basis-plain-reads.Learnt;
  told = refl;
  one = λ _ _ _ _ _ _ p q. (meet p q, refl);
}

pub basis-at-one : One basis-at.ended (λ M 𝓤 𝓛. basis-at.clauses 𝓛)
basis-at-one = record {
  promise = basis-at-reads.Learnt;
  told = refl;
  one = λ _ _ _ _ _ _ p q. (meet p q, refl);
}

pub basis-at_column-one : One basis-at_column.ended (λ M 𝓤 𝓛. basis-at_column.clauses 𝓛)
basis-at_column-one = record {
  promise = basis-at_column-reads.Learnt;
  told = refl;
  one = λ _ _ _ _ _ _ p q. (meet p q, refl);
}

pub basis-less-one : One basis-less.ended (λ M 𝓤 𝓛. basis-less.clauses 𝓛)
basis-less-one = record {
  promise = basis-less-reads.Learnt;
  told = refl;
  one = λ _ _ _ _ _ _ p q. (meet p q, refl);
}

pub basis-same-one : One basis-same.ended (λ M 𝓤 𝓛. basis-same.clauses 𝓛)
basis-same-one = record {
  promise = basis-same-reads.Learnt;
  told = refl;
  one = λ _ _ _ _ _ _ p q. (meet p q, refl);
}

pub basis-lesser-one : One basis-lesser.ended (λ M 𝓤 𝓛. basis-lesser.clauses 𝓛)
basis-lesser-one = record {
  promise = basis-lesser-reads.Learnt;
  told = refl;
  one = λ _ _ _ _ _ _ p q. (meet p q, refl);
}

pub basis-number_at-one : One basis-number_at.ended (λ M 𝓤 𝓛. basis-number_at.clauses 𝓛)
basis-number_at-one = record {
  promise = basis-number_at-reads.Learnt;
  told = refl;
  one = λ _ _ _ _ _ _ p q. (meet p q, refl);
}

-- of every type of numbers, with whatever the type brings
pub basis-fill-one : (T : RattleType) → Laws T → IsCopy T → (C : Clone.Ghosts T.Denot) (c : Dict)
    → One (basis-fill.ended T C c) (λ M 𝓤 𝓛. basis-fill.clauses T C c 𝓛)
basis-fill-one T L I C c = record {
  promise = basis-fill-reads.Learnt T L I C c;
  told = refl;
  one = λ _ _ _ _ _ _ p q. (refl, ap (λ l. l & tt & tt) (meet p q));
}

pub basis-clear-one : (T : RattleType) → Laws T → IsCopy T → (Z : Zero.Ghosts T.Denot) (z : Dict) (C : Clone.Ghosts T.Denot) (c : Dict)
    → One (basis-clear.ended T Z z C c) (λ M 𝓤 𝓛. basis-clear.clauses T Z z C c 𝓛)
basis-clear-one T L I Z z C c = record {
  promise = basis-clear-reads.Learnt T L I Z z C c;
  told = refl;
  one = λ _ _ _ _ _ _ p q. (refl, ap (λ l. l & tt) (meet p q));
}

pub basis-copy-one : One basis-copy.ended (λ M 𝓤 𝓛. basis-copy.clauses 𝓛)
basis-copy-one = record {
  promise = basis-copy-reads.Learnt;
  told = refl;
  one = λ _ _ _ _ _ _ p q. (refl, ap (λ l. tt & tt & l & tt) (meet p q));
}

-- ---- text
pub text-has-one : One text-has.ended (λ M 𝓤 𝓛. text-has.clauses 𝓛)
text-has-one = record {
  promise = text-has-reads.Learnt;
  told = refl;
  one = λ _ _ _ _ _ _ p q. (meet p q, refl);
}

pub text-line_end-one : One text-line_end.ended (λ M 𝓤 𝓛. text-line_end.clauses 𝓛)
text-line_end-one = record {
  promise = text-line_end-reads.Learnt;
  told = refl;
  one = λ _ _ _ _ _ _ p q. (meet p q, refl);
}

pub text-count-one : One text-count.ended (λ M 𝓤 𝓛. text-count.clauses 𝓛)
text-count-one = record {
  promise = text-count-reads.Learnt;
  told = refl;
  one = λ _ _ z z' _ _ p q. (count-one z z' (meet p q), refl);
}

pub text-field-one : One text-field.ended (λ M 𝓤 𝓛. text-field.clauses 𝓛)
text-field-one = record {
  promise = text-field-reads.Learnt;
  told = refl;
  one = λ _ _ z z' _ _ p q. (scan-one z z' (meet p q), refl);
}

pub text-vertex-one : One text-vertex.ended (λ M 𝓤 𝓛. text-vertex.clauses 𝓛)
text-vertex-one = record {
  promise = text-vertex-reads.Learnt;
  told = refl;
  one = λ _ _ z z' _ _ p q. let h = reader-one _ _ z.0 z'.0 (meet p q) in (ap₂ (λ x k. (x, k)) h.0 h.1, refl);
}

pub text-edge-one : One text-edge.ended (λ M 𝓤 𝓛. text-edge.clauses 𝓛)
text-edge-one = record {
  promise = text-edge-reads.Learnt;
  told = refl;
  one = λ _ _ z z' _ _ p q. let h = reader-one _ _ z.0 z'.0 (meet p q) in (ap₂ (λ x k. (x, k)) h.0 h.1, refl);
}

pub text-claim-one : One text-claim.ended (λ M 𝓤 𝓛. text-claim.clauses 𝓛)
text-claim-one = record {
  promise = text-claim-reads.Learnt;
  told = refl;
  one = λ _ _ z z' _ _ p q. let h = reader-one _ _ z.0 z'.0 (meet p q) in (ap₂ (λ x k. (x, k)) h.0 h.1, refl);
}

pub text-coefficient_claim-one : One text-coefficient_claim.ended (λ M 𝓤 𝓛. text-coefficient_claim.clauses 𝓛)
text-coefficient_claim-one = record {
  promise = text-coefficient_claim-reads.Learnt;
  told = refl;
  one = λ _ _ z z' _ _ p q. let h = reader-one _ _ z.0 z'.0 (meet p q) in (ap₂ (λ x k. (x, k)) h.0 h.1, refl);
}

pub text-listed_edge-one : One text-listed_edge.ended (λ M 𝓤 𝓛. text-listed_edge.clauses 𝓛)
text-listed_edge-one = record {
  promise = text-listed_edge-reads.Learnt;
  told = refl;
  one = λ _ _ z z' _ _ p q. let h = weighed-one _ _ z.0 z'.0 (meet p q) in (ap₂ (λ x k. (x, k)) h.0 h.1, refl);
}

pub text-distance_claim-one : One text-distance_claim.ended (λ M 𝓤 𝓛. text-distance_claim.clauses 𝓛)
text-distance_claim-one = record {
  promise = text-distance_claim-reads.Learnt;
  told = refl;
  one = λ _ _ z z' _ _ p q. let h = reader-one _ _ z.0 z'.0 (meet p q) in (ap₂ (λ x k. (x, k)) h.0 h.1, refl);
}

pub text-has_weights-one : One text-has_weights.ended (λ M 𝓤 𝓛. text-has_weights.clauses 𝓛)
text-has_weights-one = record {
  promise = text-has_weights-reads.Learnt;
  told = refl;
  one = λ _ _ _ _ _ _ p q. (meet p q, refl);
}

-- ---- write
pub write-put-one : One write-put.ended (λ M 𝓤 𝓛. write-put.clauses 𝓛)
write-put-one = record {
  promise = write-put-reads.Learnt;
  told = refl;
  one = λ _ _ _ _ _ _ p q. (
    ap (λ o. o.next) (meet p q),
    ap (λ o. o.area & tt & tt & tt) (meet p q),
  );
}

pub write-put_bytes-one : One write-put_bytes.ended (λ M 𝓤 𝓛. write-put_bytes.clauses 𝓛)
write-put_bytes-one = record {
  promise = write-put_bytes-reads.Learnt;
  told = refl;
  one = λ _ _ _ _ _ _ p q. (
    ap (λ o. o.next) (meet p q),
    ap (λ o. o.area & tt & tt & tt) (meet p q),
  );
}

pub write-put_number-one : One write-put_number.ended (λ M 𝓤 𝓛. write-put_number.clauses 𝓛)
write-put_number-one = record {
  promise = write-put_number-reads.Learnt;
  told = refl;
  one = λ _ _ _ _ _ _ p q. (
    ap (λ o. o.next) (meet p q),
    ap (λ o. o.area & tt & tt & tt) (meet p q),
  );
}

pub write-put_signed-one : One write-put_signed.ended (λ M 𝓤 𝓛. write-put_signed.clauses 𝓛)
write-put_signed-one = record {
  promise = write-put_signed-reads.Learnt;
  told = refl;
  one = λ _ _ _ _ _ _ p q. (
    ap (λ o. o.next) (meet p q),
    ap (λ o. o.area & tt & tt & tt) (meet p q),
  );
}

pub write-put_millionths-one : One write-put_millionths.ended (λ M 𝓤 𝓛. write-put_millionths.clauses 𝓛)
write-put_millionths-one = record {
  promise = write-put_millionths-reads.Learnt;
  told = refl;
  one = λ _ _ _ _ _ _ p q. (
    ap (λ o. o.next) (meet p q),
    ap (λ o. o.area & tt & tt & tt) (meet p q),
  );
}

-- ---- book
pub book-open_book-one : One book-open_book.ended (λ M 𝓤 𝓛. book-open_book.clauses 𝓛)
book-open_book-one = record {
  promise = book-open_book-reads.Learnt;
  told = refl;
  one = λ _ _ z z' _ _ p q. (
    one-opened z z' (ap (λ o. o.said) (meet p q)),
    ap (λ o. o.area & tt) (meet p q),
  );
}

pub book-join-one : One book-join.ended (λ M 𝓤 𝓛. book-join.clauses 𝓛)
book-join-one = record {
  promise = book-join-reads.Learnt;
  told = refl;
  one = λ _ _ z z' _ _ p q. (
    one-joined z z' (ap (λ o. o.said) (meet p q)),
    ap (λ o. o.area & tt & tt & tt) (meet p q),
  );
}

pub book-join_each-one : One book-join_each.ended (λ M 𝓤 𝓛. book-join_each.clauses 𝓛)
book-join_each-one = record {
  promise = book-join_each-reads.Learnt;
  told = refl;
  one = λ _ _ z z' _ _ p q. (
    one-joined_each z z' (ap (λ o. o.said) (meet p q)),
    ap (λ o. o.area & tt & tt & tt) (meet p q),
  );
}

pub book-head-one : One book-head.ended (λ M 𝓤 𝓛. book-head.clauses 𝓛)
book-head-one = record {
  promise = book-head-reads.Learnt;
  told = refl;
  one = λ _ _ z z' _ _ p q. (one-headed z z' (meet p q), refl);
}

pub book-same_group-one : One book-same_group.ended (λ M 𝓤 𝓛. book-same_group.clauses 𝓛)
book-same_group-one = record {
  promise = book-same_group-reads.Learnt;
  told = refl;
  one = λ _ _ z z' _ _ p q. (one-compared z z' (meet p q), refl);
}

pub book-group_size-one : One book-group_size.ended (λ M 𝓤 𝓛. book-group_size.clauses 𝓛)
book-group_size-one = record {
  promise = book-group_size-reads.Learnt;
  told = refl;
  one = λ _ _ z z' _ _ p q. (one-reading z z' (meet p q), refl);
}

pub book-group_count-one : One book-group_count.ended (λ M 𝓤 𝓛. book-group_count.clauses 𝓛)
book-group_count-one = record {
  promise = book-group_count-reads.Learnt;
  told = refl;
  one = λ _ _ z z' _ _ p q. (one-reading z z' (meet p q), refl);
}

pub book-step_limit-one : One book-step_limit.ended (λ M 𝓤 𝓛. book-step_limit.clauses 𝓛)
book-step_limit-one = record {
  promise = book-step_limit-reads.Learnt;
  told = refl;
  one = λ _ _ z z' _ _ p q. (one-reading z z' (meet p q), refl);
}

-- ---- graph
pub graph-find-one : One graph-find.ended (λ M 𝓤 𝓛. graph-find.clauses 𝓛)
graph-find-one = record {
  promise = graph-find-reads.Learnt;
  told = refl;
  one = λ _ _ _ _ _ _ p q. (meet (searched-is p) (searched-is q), refl);
}

pub graph-sound-one : One graph-sound.ended (λ M 𝓤 𝓛. graph-sound.clauses 𝓛)
graph-sound-one = record {
  promise = graph-sound-reads.Learnt;
  told = refl;
  one = λ _ _ _ _ _ _ p q. (meet p q, refl);
}

pub graph-sound_over-one : One graph-sound_over.ended (λ M 𝓤 𝓛. graph-sound_over.clauses 𝓛)
graph-sound_over-one = record {
  promise = graph-sound_over-reads.Learnt;
  told = refl;
  one = λ _ _ _ _ _ _ p q. (
    ap (λ o. o.sound) (meet p q),
    ap (λ o. tt & o.cursors & tt) (meet p q),
  );
}

pub graph-part-one : OneAs graph-part.ended (λ M 𝓤 𝓛. graph-part.clauses 𝓛) (λ κs z. z.now)
graph-part-one = record {
  promise = graph-part-reads.Learnt;
  told = refl;
  one = λ _ _ _ _ _ _ p q. (meet p q, refl);
}

pub graph-is_weighted-one : One graph-is_weighted.ended (λ M 𝓤 𝓛. graph-is_weighted.clauses 𝓛)
graph-is_weighted-one = record {
  promise = graph-is_weighted-reads.Learnt;
  told = refl;
  one = λ _ _ _ _ _ _ p q. (meet p q, refl);
}

pub graph-weighted_sound_over-one : One graph-weighted_sound_over.ended (λ M 𝓤 𝓛. graph-weighted_sound_over.clauses 𝓛)
graph-weighted_sound_over-one = record {
  promise = graph-weighted_sound_over-reads.Learnt;
  told = refl;
  one = λ _ _ _ _ _ _ p q. (
    ap (λ o. o.sound) (meet p q),
    ap (λ o. tt & o.cursors & tt) (meet p q),
  );
}

-- ---- view
pub view-view_of-one : One view-view_of.ended (λ M 𝓤 𝓛. view-view_of.clauses 𝓛)
view-view_of-one = record {
  promise = λ κs a z e. z.targets ≡ a.0;
  told = refl;
  one = λ _ _ _ _ _ _ p q. (ap (λ t. record { targets = t }) (meet p q), refl);
}

pub view-of_vertex-one : OneAs view-of_vertex.ended (λ M 𝓤 𝓛. view-of_vertex.clauses 𝓛) (λ κs z. z.now)
view-of_vertex-one = record {
  promise = λ κs a z e. z.now ≡ part_of a.1.1.0 a.1.0.now a.0.targets.now a.1.1.1.0;
  told = refl;
  one = λ _ _ _ _ _ _ p q. (meet p q, refl);
}

pub view-neighbours-one : OneAs view-neighbours.ended (λ M 𝓤 𝓛. view-neighbours.clauses 𝓛) (λ κs z. z.now)
view-neighbours-one = record {
  promise = view-neighbours-reads.Learnt;
  told = refl;
  one = λ _ _ _ _ _ _ p q. (meet p q, refl);
}

-- ---- store
pub store-lacks-one : One store-lacks.ended (λ M 𝓤 𝓛. store-lacks.clauses 𝓛)
store-lacks-one = record {
  promise = store-lacks-reads.Learnt;
  told = refl;
  one = λ _ _ _ _ _ _ p q. (meet p q, refl);
}

pub store-spread-one : One store-spread.ended (λ M 𝓤 𝓛. store-spread.clauses 𝓛)
store-spread-one = record {
  promise = store-spread-reads.Learnt;
  told = refl;
  one = λ _ _ _ _ _ _ p q. (
    ap (λ o. o.done) (meet p q),
    ap (λ o. o.offsets & o.targets & tt & tt) (meet p q),
  );
}

pub store-sum_up-one : One store-sum_up.ended (λ M 𝓤 𝓛. store-sum_up.clauses 𝓛)
store-sum_up-one = record {
  promise = store-sum_up-reads.Learnt;
  told = refl;
  one = λ _ _ _ _ _ _ p q. (refl, ap (λ l. l & tt & tt) (meet p q));
}

pub store-spread_weighed-one : One store-spread_weighed.ended (λ M 𝓤 𝓛. store-spread_weighed.clauses 𝓛)
store-spread_weighed-one = record {
  promise = store-spread_weighed-reads.Learnt;
  told = refl;
  one = λ _ _ _ _ _ _ p q. (
    ap (λ o. o.done) (meet p q),
    ap (λ o. o.offsets & o.targets & o.weights & tt & tt & tt) (meet p q),
  );
}

-- ---- lists
pub lists-read_vertices-one : One lists-read_vertices.ended (λ M 𝓤 𝓛. lists-read_vertices.clauses 𝓛)
lists-read_vertices-one = record {
  promise = lists-read_vertices-reads.Learnt;
  told = refl;
  one = λ _ _ z z' _ _ p q. (
    one-said z z' (ap (λ o. o.answer) (meet p q)),
    ap (λ o. tt & tt & o.ids & tt) (meet p q),
  );
}

pub lists-read_edges-one : One lists-read_edges.ended (λ M 𝓤 𝓛. lists-read_edges.clauses 𝓛)
lists-read_edges-one = record {
  promise = lists-read_edges-reads.Learnt;
  told = refl;
  one = λ _ _ z z' _ _ p q. (
    one-said z z' (ap (λ o. o.answer) (meet p q)),
    ap (λ o. tt & tt & tt & tt & o.counts & o.targets & tt) (meet p q),
  );
}

-- ---- load
pub load-load_within-one : One load-load_within.ended (λ M 𝓤 𝓛. load-load_within.clauses 𝓛)
load-load_within-one = record {
  promise = load-load_within-reads.Learnt;
  told = refl;
  one = λ _ _ z z' _ _ p q. (
    one-said z z' (ap (λ o. o.answer) (meet p q)),
    ap (λ o. tt & tt & tt & tt & o.ids & o.out_offsets & o.out_targets & o.in_offsets & o.in_sources & tt) (meet p q),
  );
}

pub load-load-one : One load-load.ended (λ M 𝓤 𝓛. load-load.clauses 𝓛)
load-load-one = record {
  promise = load-load-reads.Learnt;
  told = refl;
  one = λ _ _ z z' _ _ p q. (
    one-said z z' (ap (λ o. o.answer) (meet p q)),
    ap (λ o. tt & tt & tt & o.ids & o.out_offsets & o.out_targets & o.in_offsets & o.in_sources & tt) (meet p q),
  );
}

-- ---- kernels
pub kernels-refused-one : One kernels-refused.ended (λ M 𝓤 𝓛. kernels-refused.clauses 𝓛)
kernels-refused-one = record {
  promise = kernels-refused-reads.Learnt;
  told = refl;
  one = λ _ _ z z' _ _ p q. (one-said z z' (meet p q), refl);
}

-- ---- bfs
pub bfs-bfs-one : One bfs-bfs.ended (λ M 𝓤 𝓛. bfs-bfs.clauses 𝓛)
bfs-bfs-one = record {
  promise = bfs-bfs-reads.Learnt;
  told = refl;
  one = λ _ _ z z' _ _ p q. (
    one-said z z' (ap (λ o. o.said) (meet p q)),
    ap (λ o. tt & tt & o.depth & o.queue & tt) (meet p q),
  );
}

-- ---- wcc
pub wcc-wcc-one : One wcc-wcc.ended (λ M 𝓤 𝓛. wcc-wcc.clauses 𝓛)
wcc-wcc-one = record {
  promise = wcc-wcc-reads.Learnt;
  told = refl;
  one = λ _ _ z z' _ _ p q. (
    one-said z z' (ap (λ o. o.said) (meet p q)),
    ap (λ o. tt & o.result & o.heads & tt) (meet p q),
  );
}

-- ---- cdlp
pub cdlp-cdlp-one : One cdlp-cdlp.ended (λ M 𝓤 𝓛. cdlp-cdlp.clauses 𝓛)
cdlp-cdlp-one = record {
  promise = cdlp-cdlp-reads.Learnt;
  told = refl;
  one = λ _ _ z z' _ _ p q. (
    one-said z z' (ap (λ o. o.said) (meet p q)),
    ap (λ o. tt & tt & o.result & o.labels & o.next & o.counts & tt) (meet p q),
  );
}

-- ---- lcc
pub lcc-lcc-one : One lcc-lcc.ended (λ M 𝓤 𝓛. lcc-lcc.clauses 𝓛)
lcc-lcc-one = record {
  promise = lcc-lcc-reads.Learnt;
  told = refl;
  one = λ _ _ z z' _ _ p q. (
    one-said z z' (ap (λ o. o.said) (meet p q)),
    ap (λ o. tt & o.numerators & o.denominators & o.work & tt) (meet p q),
  );
}

pub lcc-common-one : One lcc-common.ended (λ M 𝓤 𝓛. lcc-common.clauses 𝓛)
lcc-common-one = record {
  promise = lcc-common-reads.Learnt;
  told = refl;
  one = λ _ _ _ _ _ _ p q. (meet p q, refl);
}

pub lcc-gcd-one : One lcc-gcd.ended (λ M 𝓤 𝓛. lcc-gcd.clauses 𝓛)
lcc-gcd-one = record {
  promise = lcc-gcd-reads.Learnt;
  told = refl;
  one = λ _ _ _ _ _ _ p q. (meet p q, refl);
}

pub lcc-reduced-one : One lcc-reduced.ended (λ M 𝓤 𝓛. lcc-reduced.clauses 𝓛)
lcc-reduced-one = record {
  promise = lcc-reduced-reads.Learnt;
  told = refl;
  one = λ _ _ _ _ _ _ p q. (meet p q, refl);
}

pub sssp-sssp-one : One sssp-sssp.ended (λ M 𝓤 𝓛. sssp-sssp.clauses 𝓛)
sssp-sssp-one = record {
  promise = sssp-sssp-reads.Learnt;
  told = refl;
  one = λ _ _ z z' _ _ p q. (
    one-said z z' (ap (λ o. o.said) (meet p q)),
    ap (λ o. tt & tt & o.distance & o.settled & o.waiting & o.tree & tt) (meet p q),
  );
}

-- ---- matching
pub matching-close-one : One matching-close.ended (λ M 𝓤 𝓛. matching-close.clauses 𝓛)
matching-close-one = record {
  promise = matching-close-reads.Learnt;
  told = refl;
  one = λ _ _ _ _ _ _ p q. (meet p q, refl);
}

pub matching-judge_numbers-one : One matching-judge_numbers.ended (λ M 𝓤 𝓛. matching-judge_numbers.clauses 𝓛)
matching-judge_numbers-one = record {
  promise = matching-judge_numbers-reads.Learnt;
  told = refl;
  one = λ _ _ z z' _ _ p q. (
    says-apart z z' (ap (λ o. o.said) (meet p q)),
    ap (λ o. tt & tt & tt & tt & tt & o.claimed & o.lines & tt) (meet p q),
  );
}

pub matching-judge_coefficients-one : One matching-judge_coefficients.ended (λ M 𝓤 𝓛. matching-judge_coefficients.clauses 𝓛)
matching-judge_coefficients-one = record {
  promise = matching-judge_coefficients-reads.Learnt;
  told = refl;
  one = λ _ _ z z' _ _ p q. (
    says-apart z z' (ap (λ o. o.said) (meet p q)),
    ap (λ o. tt & tt & tt & tt & tt & o.lines & tt) (meet p q),
  );
}

-- ---- verdicts
pub verdicts-verdict_within-one : One verdicts-verdict_within.ended (λ M 𝓤 𝓛. verdicts-verdict_within.clauses 𝓛)
verdicts-verdict_within-one = record {
  promise = verdicts-verdict_within-reads.Learnt;
  told = refl;
  one = λ _ _ z z' _ _ p q. (
    says-apart z z' (ap (λ o. o.said) (meet p q)),
    ap
        (λ o. tt & tt & tt & tt & tt & o.result & o.claimed & o.first & o.second & o.third & o.lines & tt)
        (meet p q),
  );
}

pub verdicts-verdict-one : One verdicts-verdict.ended (λ M 𝓤 𝓛. verdicts-verdict.clauses 𝓛)
verdicts-verdict-one = record {
  promise = verdicts-verdict-reads.Learnt;
  told = refl;
  one = λ _ _ z z' _ _ p q. (
    says-apart z z' (ap (λ o. o.said) (meet p q)),
    ap
        (λ o. tt & tt & tt & tt & o.result & o.claimed & o.first & o.second & o.third & o.lines & tt)
        (meet p q),
  );
}

-- ---- plan
pub plan-read_job-one : One plan-read_job.ended (λ M 𝓤 𝓛. plan-read_job.clauses 𝓛)
plan-read_job-one = record {
  promise = plan-read_job-reads.Learnt;
  told = refl;
  one = λ _ _ z z' _ _ p q. (one-said z z' (meet p q), refl);
}

pub plan-read_sections-one : One plan-read_sections.ended (λ M 𝓤 𝓛. plan-read_sections.clauses 𝓛)
plan-read_sections-one = record {
  promise = plan-read_sections-reads.Learnt;
  told = refl;
  one = λ _ _ z z' _ _ p q. (one-said z z' (meet p q), refl);
}

pub plan-check-one : One plan-check.ended (λ M 𝓤 𝓛. plan-check.clauses 𝓛)
plan-check-one = record {
  promise = plan-check-reads.Learnt;
  told = refl;
  one = λ _ _ z z' _ _ p q. (one-said z z' (meet p q), refl);
}

pub plan-line_number-one : One plan-line_number.ended (λ M 𝓤 𝓛. plan-line_number.clauses 𝓛)
plan-line_number-one = record {
  promise = plan-line_number-reads.Learnt;
  told = refl;
  one = λ _ _ _ _ _ _ p q. (meet p q, refl);
}

pub plan-sheet_fault-one : One plan-sheet_fault.ended (λ M 𝓤 𝓛. plan-sheet_fault.clauses 𝓛)
plan-sheet_fault-one = record {
  promise = plan-sheet_fault-reads.Learnt;
  told = refl;
  one = λ _ _ _ _ _ _ p q. (meet p q, refl);
}

pub plan-begins_at-one : One plan-begins_at.ended (λ M 𝓤 𝓛. plan-begins_at.clauses 𝓛)
plan-begins_at-one = record {
  promise = plan-begins_at-reads.Learnt;
  told = refl;
  one = λ _ _ _ _ _ _ p q. (meet p q, refl);
}

-- ---- listing
pub listing-put_spaced-one : One listing-put_spaced.ended (λ M 𝓤 𝓛. listing-put_spaced.clauses 𝓛)
listing-put_spaced-one = record {
  promise = listing-put_spaced-reads.Learnt;
  told = refl;
  one = λ _ _ _ _ _ _ p q. (
    ap (λ o. o.next) (meet p q),
    ap (λ o. o.area & tt & tt & tt) (meet p q),
  );
}

pub listing-put_refused-one : One listing-put_refused.ended (λ M 𝓤 𝓛. listing-put_refused.clauses 𝓛)
listing-put_refused-one = record {
  promise = listing-put_refused-reads.Learnt;
  told = refl;
  one = λ _ _ _ _ _ _ p q. (
    ap (λ o. o.next) (meet p q),
    ap (λ o. o.area & tt & tt & tt) (meet p q),
  );
}

pub listing-put_head-one : One listing-put_head.ended (λ M 𝓤 𝓛. listing-put_head.clauses 𝓛)
listing-put_head-one = record {
  promise = listing-put_head-reads.Learnt;
  told = refl;
  one = λ _ _ _ _ _ _ p q. (
    ap (λ o. o.next) (meet p q),
    ap (λ o. o.area & tt & tt & tt & tt) (meet p q),
  );
}

pub listing-put_pair-one : One listing-put_pair.ended (λ M 𝓤 𝓛. listing-put_pair.clauses 𝓛)
listing-put_pair-one = record {
  promise = listing-put_pair-reads.Learnt;
  told = refl;
  one = λ _ _ _ _ _ _ p q. (
    ap (λ o. o.next) (meet p q),
    ap (λ o. o.area & tt & tt & tt & tt) (meet p q),
  );
}

pub listing-put_ratio-one : One listing-put_ratio.ended (λ M 𝓤 𝓛. listing-put_ratio.clauses 𝓛)
listing-put_ratio-one = record {
  promise = listing-put_ratio-reads.Learnt;
  told = refl;
  one = λ _ _ _ _ _ _ p q. (
    ap (λ o. o.next) (meet p q),
    ap (λ o. o.area & tt & tt & tt & tt & tt) (meet p q),
  );
}

pub listing-put_pairs-one : One listing-put_pairs.ended (λ M 𝓤 𝓛. listing-put_pairs.clauses 𝓛)
listing-put_pairs-one = record {
  promise = listing-put_pairs-reads.Learnt;
  told = refl;
  one = λ _ _ _ _ _ _ p q. (
    ap (λ o. o.next) (meet p q),
    ap (λ o. o.area & tt & tt & tt & tt) (meet p q),
  );
}

pub listing-put_ratios-one : One listing-put_ratios.ended (λ M 𝓤 𝓛. listing-put_ratios.clauses 𝓛)
listing-put_ratios-one = record {
  promise = listing-put_ratios-reads.Learnt;
  told = refl;
  one = λ _ _ _ _ _ _ p q. (
    ap (λ o. o.next) (meet p q),
    ap (λ o. o.area & tt & tt & tt & tt & tt) (meet p q),
  );
}

-- ---- sheet
pub sheet-run_jobs-one : One sheet-run_jobs.ended (λ M 𝓤 𝓛. sheet-run_jobs.clauses 𝓛)
sheet-run_jobs-one = record {
  promise = sheet-run_jobs-reads.Learnt;
  told = refl;
  one = λ _ _ _ _ _ _ p q. (
    ap (λ o. o.next) (meet p q),
    ap (λ o. tt & tt & tt & tt & o.area & tt & tt) (meet p q),
  );
}

pub sheet-answer-one : One sheet-answer.ended (λ M 𝓤 𝓛. sheet-answer.clauses 𝓛)
sheet-answer-one = record {
  promise = sheet-answer-reads.Learnt;
  told = refl;
  one = λ _ _ _ _ _ _ p q. (
    ap (λ o. o.next) (meet p q),
    ap (λ o. tt & o.area & tt) (meet p q),
  );
}

-- ---- trace
pub trace-trace_load-one : One trace-trace_load.ended (λ M 𝓤 𝓛. trace-trace_load.clauses 𝓛)
trace-trace_load-one = record {
  promise = trace-trace_load-reads.Learnt;
  told = refl;
  one = λ _ _ _ _ _ _ p q. (
    ap (λ o. o.answer) (meet p q),
    ap (λ o. tt & tt & tt & o.ids & o.out_offsets & o.out_targets & o.in_offsets & o.in_sources & tt) (meet p q),
  );
}

pub trace-trace_bfs-one : One trace-trace_bfs.ended (λ M 𝓤 𝓛. trace-trace_bfs.clauses 𝓛)
trace-trace_bfs-one = record {
  promise = trace-trace_bfs-reads.Learnt;
  told = refl;
  one = λ _ _ _ _ _ _ p q. (
    ap (λ o. o.answer) (meet p q),
    ap (λ o. tt & tt & tt & tt & tt & tt & tt & tt & o.depth & o.queue & tt) (meet p q),
  );
}

pub trace-trace_wcc-one : One trace-trace_wcc.ended (λ M 𝓤 𝓛. trace-trace_wcc.clauses 𝓛)
trace-trace_wcc-one = record {
  promise = trace-trace_wcc-reads.Learnt;
  told = refl;
  one = λ _ _ _ _ _ _ p q. (
    ap (λ o. o.answer) (meet p q),
    ap (λ o. tt & tt & tt & tt & tt & tt & tt & o.result & o.heads & tt) (meet p q),
  );
}

pub trace-trace_cdlp-one : One trace-trace_cdlp.ended (λ M 𝓤 𝓛. trace-trace_cdlp.clauses 𝓛)
trace-trace_cdlp-one = record {
  promise = trace-trace_cdlp-reads.Learnt;
  told = refl;
  one = λ _ _ _ _ _ _ p q. (
    ap (λ o. o.answer) (meet p q),
    ap (λ o. tt & tt & tt & tt & tt & tt & tt & tt & o.result & o.labels & o.next & o.counts & tt) (meet p q),
  );
}

pub trace-trace_lcc-one : One trace-trace_lcc.ended (λ M 𝓤 𝓛. trace-trace_lcc.clauses 𝓛)
trace-trace_lcc-one = record {
  promise = trace-trace_lcc-reads.Learnt;
  told = refl;
  one = λ _ _ _ _ _ _ p q. (
    ap (λ o. o.answer) (meet p q),
    ap (λ o. tt & tt & tt & tt & tt & tt & tt & o.numerators & o.denominators & o.work & tt) (meet p q),
  );
}

pub trace-trace_book_open-one : One trace-opened.ended (λ M 𝓤 𝓛. trace-opened.clauses 𝓛)
trace-trace_book_open-one = record {
  promise = trace-opened-reads.Learnt;
  told = refl;
  one = λ _ _ _ _ _ _ p q. (
    ap (λ o. o.answer) (meet p q),
    ap (λ o. o.entries & tt) (meet p q),
  );
}

pub trace-trace_book_join-one : One trace-trace_book_join.ended (λ M 𝓤 𝓛. trace-trace_book_join.clauses 𝓛)
trace-trace_book_join-one = record {
  promise = trace-trace_book_join-reads.Learnt;
  told = refl;
  one = λ _ _ _ _ _ _ p q. (
    ap (λ o. o.answer) (meet p q),
    ap (λ o. o.entries & tt & tt & tt) (meet p q),
  );
}

pub trace-trace_book_head-one : One trace-trace_book_head.ended (λ M 𝓤 𝓛. trace-trace_book_head.clauses 𝓛)
trace-trace_book_head-one = record {
  promise = trace-trace_book_head-reads.Learnt;
  told = refl;
  one = λ _ _ _ _ _ _ p q. (meet p q, refl);
}

pub trace-trace_book_same-one : One trace-trace_book_same.ended (λ M 𝓤 𝓛. trace-trace_book_same.clauses 𝓛)
trace-trace_book_same-one = record {
  promise = trace-trace_book_same-reads.Learnt;
  told = refl;
  one = λ _ _ _ _ _ _ p q. (meet p q, refl);
}

pub trace-trace_book_size-one : One trace-trace_book_size.ended (λ M 𝓤 𝓛. trace-trace_book_size.clauses 𝓛)
trace-trace_book_size-one = record {
  promise = trace-trace_book_size-reads.Learnt;
  told = refl;
  one = λ _ _ _ _ _ _ p q. (meet p q, refl);
}

pub trace-trace_book_count-one : One trace-trace_book_count.ended (λ M 𝓤 𝓛. trace-trace_book_count.clauses 𝓛)
trace-trace_book_count-one = record {
  promise = trace-trace_book_count-reads.Learnt;
  told = refl;
  one = λ _ _ _ _ _ _ p q. (meet p q, refl);
}

pub trace-trace_book_limit-one : One trace-trace_book_limit.ended (λ M 𝓤 𝓛. trace-trace_book_limit.clauses 𝓛)
trace-trace_book_limit-one = record {
  promise = trace-trace_book_limit-reads.Learnt;
  told = refl;
  one = λ _ _ _ _ _ _ p q. (meet p q, refl);
}

pub trace-trace_judge-one : One trace-trace_judge.ended (λ M 𝓤 𝓛. trace-trace_judge.clauses 𝓛)
trace-trace_judge-one = record {
  promise = trace-trace_judge-reads.Learnt;
  told = refl;
  one = λ _ _ _ _ _ _ p q. (
    ap (λ o. o.answer) (meet p q),
    ap
        (λ o. tt & tt & tt & tt & tt & tt & tt & tt & tt & tt & o.result & o.claimed & o.first & o.second & o.third & o.lines & tt)
        (meet p q),
  );
}

pub trace-trace_verdict-one : One trace-trace_verdict.ended (λ M 𝓤 𝓛. trace-trace_verdict.clauses 𝓛)
trace-trace_verdict-one = record {
  promise = trace-trace_verdict-reads.Learnt;
  told = refl;
  one = λ _ _ _ _ _ _ p q. (meet p q, refl);
}
