use mathlib.Core.Path.{◌≡◌}
use lib.ListN.{drop}
use Rattle.write.specs.Put.{put_at}
use Rattle.write.proofs.bytes.put_bytes.Given as goal

abbrev pub invariant-loop-byte : goal.invariant-loop-byte
invariant-loop-byte l = put_at l.out l.next (drop l.byte-index l.text) ≡ put_at l.initial.out l.at l.text
