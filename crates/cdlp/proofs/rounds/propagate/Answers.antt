use Rattle.cdlp.proofs.Runs.{run-runnable, run-nameable, run-named}
use Rattle.cdlp.proofs.rounds.propagate.Goals as goal

pub turns-requires : goal.turns-requires
turns-requires c = search run-runnable

pub name-requires : goal.name-requires
name-requires c =
    run-nameable c.requires
    c.number.ensures c.clear.ensures _ c.turns.ensures

pub returns : goal.returns
returns c =
    run-named c.requires
    c.number.ensures
    c.clear.ensures c.args.k
    c.turns.ensures c.name.ensures
