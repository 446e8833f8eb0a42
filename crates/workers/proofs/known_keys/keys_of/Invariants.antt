use Rattle.std.proofs.Common.{◌≡◌, length}
use Rattle.workers.specs.Keeping.{HasKeys}
use Rattle.workers.proofs.known_keys.keys_of.Given as goal

abbrev pub invariant-loop-guest : goal.invariant-loop-guest
invariant-loop-guest l = HasKeys l.guest l.book l.keys.items × (length l.keys.items ≡ l.guest)
