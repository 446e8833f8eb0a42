use Rattle.std.proofs.Common.{rules, length}
use Rattle.guest_memory.proofs.Copies.{holds_still}
use Rattle.guest_memory.proofs.memory.Memory.tell.Goals as goal

pub returns-clause-held : goal.returns-clause-held
returns-clause-held c =
    holds_still c.args.self.now c.put.new.self _ c.args.at (length c.args.bytes.now)
    c.put.ensures.value (search rules)
