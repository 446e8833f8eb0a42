use Rattle.std.proofs.Common.{arith}
use Rattle.chains.proofs.Helds.{held_part}
use Rattle.chains.proofs.descriptor.Descriptors.descriptor.Goals as goal

pub descriptor-bytes-requires-clause-held : goal.descriptor-bytes-requires-clause-held
descriptor-bytes-requires-clause-held c =
    held_part c.args.memory.now _ _ _ 16 c.requires.held (omega arith) (omega arith)
