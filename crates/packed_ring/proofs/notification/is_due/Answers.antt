use Rattle.std.proofs.Common.{arith, ◌+◌}
use Rattle.chains.proofs.Helds.{held_part}
use Rattle.packed_ring.proofs.notification.is_due.Goals as goal

pub word_at-flags-requires-clause-held : goal.word_at-flags-requires-clause-held
word_at-flags-requires-clause-held c = held_part c.args.memory.now c.args.places.now.driver 4
    (c.args.places.now.driver + 2) 2 c.requires.held (omega arith) (omega arith)

pub word_at-requires-clause-held : goal.word_at-requires-clause-held
word_at-requires-clause-held c = held_part c.args.memory.now c.args.places.now.driver 4
    c.args.places.now.driver 2 c.requires.held (omega arith) (omega arith)
