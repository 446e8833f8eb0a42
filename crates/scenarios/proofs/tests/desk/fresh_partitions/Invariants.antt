use Rattle.std.proofs.Common.{◌≡◌, map, take}
use Rattle.scenarios.proofs.tests.desk.fresh_partitions.Given as goal

abbrev pub invariant-loop-guest : goal.invariant-loop-guest
invariant-loop-guest l = map (λ p. p.capacity) l.partitions.items
    ≡ map (λ g. g.capacity) (take l.guest-index l.guest-items)
