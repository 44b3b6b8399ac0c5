use mathlib.Core.Path.{◌≡◌}
use Rattle.write.specs.Put.{put_at}
use Rattle.listing.specs.Listing.{pair_lines}
use Rattle.listing.proofs.results.put_pairs.Given as goal

abbrev pub invariant-loop-id : goal.invariant-loop-id
invariant-loop-id l =
    put_at l.out l.next (pair_lines l.id-iterator.a.rest.now l.id-iterator.b.rest.now)
    ≡ put_at l.initial.out l.at (pair_lines l.ids l.values)
