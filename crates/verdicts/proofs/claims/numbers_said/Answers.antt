use Rattle.std.specs.Prelude.{Err}
use mathlib.Core.Path.{◌≡◌}
use borrow.Author.Rules.{rules}
use Rattle.verdicts.proofs.Settling.{numbers-refused, numbers-short, numbers-done}
use Rattle.verdicts.proofs.claims.numbers_said.Goals as goal

pub returns-in_err-answer-clause-value : goal.returns-in_err-answer-clause-value
returns-in_err-answer-clause-value c =
    let e : c.from_residual.result ≡ Err c.in_err-answer.field-0.0 = search rules in
    rw e (numbers-refused c.args.answer c.args.room c.args.rule c.args.most c.args.n c.args.ids.now c.args.claim.now c.args.res.now _
    c.in_err-answer.was)

pub returns-then-not-room-clause-value : goal.returns-then-not-room-clause-value
returns-then-not-room-clause-value c =
    numbers-short c.args.answer c.args.room c.args.rule c.args.most c.args.n c.args.ids.now c.args.claim.now c.args.res.now
    c.in_ok-answer.was c.if-not-room.true _ c.plain.ensures

pub returns : goal.returns
returns c =
    let e =
    numbers-done c.args.answer c.args.room c.args.rule c.args.most c.args.n c.args.ids.now c.args.claim.now c.args.res.now
    c.args.claimed.now c.args.lines.now c.in_ok-answer.was c.requires.known c.if-not-room.false c.requires.roomy
    c.judge_numbers.result _ _ c.judge_numbers.ensures in record {
      value = e.0;
      areas_after = e.1;
    }
