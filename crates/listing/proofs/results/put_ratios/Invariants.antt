use mathlib.Core.Path.{◌≡◌}
use Rattle.write.specs.Put.{put_at}
use Rattle.listing.specs.Listing.{ratio_lines}
use Rattle.listing.proofs.results.put_ratios.Given as goal

abbrev pub invariant-loop-id : goal.invariant-loop-id
invariant-loop-id l =
    put_at l.out l.next (ratio_lines l.id-iterator.a.a.rest.now l.id-iterator.a.b.rest.now l.id-iterator.b.rest.now)
    ≡ put_at l.initial.out l.at (ratio_lines l.ids l.numerators l.denominators)
