use mathlib.Core.Path.{refl}
use Rattle.std.proofs.lemmas.Result.{err_from_is_err_and}
use Rattle.book.specs.One.{one}
use Rattle.book.proofs.Calls.{heads-unlent, heads-missing, heads-missing2, heads-walked}
use Rattle.book.proofs.heads.Goals as goal
use Rattle.book.proofs.heads.Goals.{then-entries-u-via-then-entries-u, then-entries-u-via-else-entries-u+then-entries-v}

pub returns-then-not-well_lent : goal.returns-then-not-well_lent
unfolding one
returns-then-not-well_lent c = search heads-unlent

pub returns-then-entries-u : goal.returns-then-entries-u
unfolding one
returns-then-entries-u c =
    let w = c.well_lent in
    let t = c.if-not-well_lent.false in
    elim c.then-entries-u.branch [
      | then-entries-u-via-then-entries-u o ↦
          heads-missing _ _ _ w.result w.ensures _ t o.if-entries-u.true c.plain-then-entries-u.ensures
      | then-entries-u-via-else-entries-u+then-entries-v o ↦
          heads-missing2 _ _ _ w.result w.ensures _ t o.if-entries-u.false o.if-entries-v.true c.plain-then-entries-u.ensures
    ]

pub returns-in_err-first : goal.returns-in_err-first
unfolding one
returns-in_err-first c =
    let p = err_from_is_err_and c.from_residual.result c.from_residual.ensures.1 in
    let w = c.well_lent in
    rw (p.1, p.2)
    (heads-walked _ _ _ w.result w.ensures _ _ c.if-not-well_lent.false c.if-entries-u.false c.if-entries-v.false c.in_err-first.ensures
    refl)

pub returns-in_err-second : goal.returns-in_err-second
unfolding one
returns-in_err-second c =
    let p = err_from_is_err_and c.from_residual-in_err-second.result c.from_residual-in_err-second.ensures.1 in
    let w = c.well_lent in
    rw (p.1, p.2)
    (heads-walked _ _ _ w.result w.ensures _ _ c.if-not-well_lent.false c.if-entries-u.false c.if-entries-v.false c.in_ok-first.ensures
    c.in_err-second.ensures)

pub returns : goal.returns
unfolding one
returns c =
    let w = c.well_lent in
    heads-walked _ _ _ w.result w.ensures _ _ c.if-not-well_lent.false c.if-entries-u.false c.if-entries-v.false c.in_ok-first.ensures
    c.in_ok-second.ensures
