use Rattle.std.proofs.Common.{rules}
use Rattle.disk.proofs.OutboxLemmas.{take_view}
use Rattle.disk.proofs.outbox.Outbox.take.Goals as goal

pub returns-else-is_empty : goal.returns-else-is_empty
returns-else-is_empty c =
    take_view c.self.inside.heads.items c.pop_front.new.self.items c.in-Some.head
    c.self.inside.bytes.items c.self.inside.from c.args.self.now c.self.view_is
    c.in-Some.ensures.items (search rules)
