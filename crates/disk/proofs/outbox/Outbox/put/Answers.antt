use Rattle.disk.proofs.OutboxLemmas.{put_sound, put_view}
use Rattle.disk.proofs.outbox.Outbox.put.Goals as goal

pub invariant_of-self : goal.invariant_of-self
invariant_of-self c =
    put_sound c.self.inside.heads.items c.self.inside.bytes.items c.args.bytes.now
    c.self.inside.from c.args.at _ _ c.args.self.now c.self.view_is c.requires c.self.invariant
    _ _ _ _ c.push_back_reserved.ensures.items c.in-Ok.ensures.items
    c.push_back_reserved.ensures.capacity c.in-Ok.ensures.capacity

pub returns : goal.returns
returns c =
    put_view c.self.inside.heads.items c.self.inside.bytes.items c.args.bytes.now c.self.inside.from
    c.args.at _ _ c.args.self.now c.self.view_is c.requires c.self.invariant
    _ _ c.push_back_reserved.ensures.items c.in-Ok.ensures.items
