use Rattle.std.specs.Prelude.{Err}
use mathlib.Core.Path.{◌≡◌}
use borrow.Author.Rules.{rules}
use Rattle.verdicts.proofs.Settling.{terms-refused, terms-short, terms-done}
use Rattle.verdicts.proofs.claims.terms_said.Goals as goal

pub returns-in_err-answer-clause-value : goal.returns-in_err-answer-clause-value
returns-in_err-answer-clause-value c =
    let e : c.from_residual.result ≡ Err c.in_err-answer.field-0.0 = search rules in
    rw e (terms-refused c.args.answer c.args.room c.args.most c.args.n c.args.ids.now c.args.claim.now c.args.first.now
    c.args.second.now _ c.in_err-answer.was)

pub returns-then-not-room-clause-value : goal.returns-then-not-room-clause-value
returns-then-not-room-clause-value c =
    terms-short c.args.answer c.args.room c.args.most c.args.n c.args.ids.now c.args.claim.now c.args.first.now c.args.second.now
    c.in_ok-answer.was c.if-not-room.true _ c.plain.ensures

pub returns : goal.returns
returns c =
    let e =
    terms-done c.args.answer c.args.room c.args.most c.args.n c.args.ids.now c.args.claim.now c.args.first.now
    c.args.second.now c.args.lines.now c.in_ok-answer.was c.requires.known c.if-not-room.false c.requires.roomy
    c.judge_coefficients.result _ c.judge_coefficients.ensures in record {
      value = e.0;
      lines_after = e.1;
    }
