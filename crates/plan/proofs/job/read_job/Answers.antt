use Rattle.std.proofs.Common.{true, false}
use Rattle.plan.proofs.Jobs.{job-bfs, job-cdlp, job-wcc, job-lcc, job-none}
use Rattle.plan.proofs.Words.{word_at}
use native.Mathlib.Omega.{arith}
use Rattle.plan.proofs.job.read_job.Goals as goal

pub overflow_add-at : goal.overflow_add-at
overflow_add-at c =
    omega (
      arith,
      word_at c.args.s.now c.args.at _ _ _ c.begins_at.ensures c.if-begins_at.true,
    )

pub returns-then-begins_at : goal.returns-then-begins_at
returns-then-begins_at c = job-bfs _ _ _ c.begins_at.ensures c.if-begins_at.true _ (c.numbered.ensures true (λ z j h. h))

pub overflow_add-at-then-begins_at-2 : goal.overflow_add-at-then-begins_at-2
overflow_add-at-then-begins_at-2 c =
    omega (
      arith,
      word_at c.args.s.now c.args.at _ _ _ c.begins_at-2.ensures c.if-begins_at-2.true,
    )

pub returns-then-begins_at-2 : goal.returns-then-begins_at-2
returns-then-begins_at-2 c =
    job-cdlp _ _ _ c.begins_at.ensures c.if-begins_at.false _ c.begins_at-2.ensures c.if-begins_at-2.true _
    (c.numbered-then-begins_at-2.ensures false (λ z j h. h))

pub overflow_add-result : goal.overflow_add-result
overflow_add-result c =
    omega (
      arith,
      word_at c.args.s.now c.args.at _ _ _ c.begins_at-3.ensures c.if-begins_at-3.true,
    )

pub returns-then-begins_at-3 : goal.returns-then-begins_at-3
returns-then-begins_at-3 c = search job-wcc

pub overflow_add-result-then-begins_at-4 : goal.overflow_add-result-then-begins_at-4
overflow_add-result-then-begins_at-4 c =
    omega (
      arith,
      word_at c.args.s.now c.args.at _ _ _ c.begins_at-4.ensures c.if-begins_at-4.true,
    )

pub returns-then-begins_at-4 : goal.returns-then-begins_at-4
returns-then-begins_at-4 c =
    job-lcc c.args.s.now c.args.at _ c.begins_at.ensures c.if-begins_at.false _
    c.begins_at-2.ensures
    c.if-begins_at-2.false _ c.begins_at-3.ensures
    c.if-begins_at-3.false _ c.begins_at-4.ensures c.if-begins_at-4.true

pub returns : goal.returns
returns c = search job-none
