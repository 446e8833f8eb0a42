use Rattle.std.proofs.Common.{length, subst}
use Rattle.mmio_transport.proofs.Common.{QueueState}
use Rattle.mmio_transport.specs.declared.queue.AnyRing.TheVariants as any
use Rattle.mmio_transport.specs.Queue.{TellsFrom}
use Rattle.mmio_transport.proofs.Areas.{seen, split_areas, packed_areas, split_says, packed_says}
use Rattle.mmio_transport.proofs.queue.Queue.is_due.Goals as goal

pub is_due-requires-clause-areas : goal.is_due-requires-clause-areas
is_due-requires-clause-areas c = split_areas (length c.args.memory.now.bytes) c.args.self.now
    c.self.inside.ring c.in-Split.ring c.self.view_is c.in-Split.is c.requires.areas

pub is_due-requires-in-Packed-clause-areas : goal.is_due-requires-in-Packed-clause-areas
is_due-requires-in-Packed-clause-areas c = packed_areas (length c.args.memory.now.bytes)
    c.args.self.now c.self.inside.ring c.in-Packed.ring c.self.view_is c.in-Packed.is
    c.requires.areas

pub is_due-requires-clause-held : goal.is_due-requires-clause-held
is_due-requires-clause-held c = split_says c.args.memory.now c.args.self.now c.self.inside.ring
    c.in-Split.ring c.self.view_is c.in-Split.is c.requires.held

pub is_due-requires-in-Packed-clause-held : goal.is_due-requires-in-Packed-clause-held
is_due-requires-in-Packed-clause-held c = packed_says c.args.memory.now c.args.self.now
    c.self.inside.ring c.in-Packed.ring c.self.view_is c.in-Packed.is c.requires.held

pub returns-in-Packed : goal.returns-in-Packed
returns-in-Packed c =
    let P : QueueState → Type 0 = λ q. TellsFrom q.kind c.args.memory.now.bytes q.ring c.args.old
    q.ring.used c.is_due-in-Packed.result in
    subst P (seen c.args.self.now c.self.inside.ring (any.Packed c.in-Packed.ring) c.self.view_is
    c.in-Packed.is) c.is_due-in-Packed.ensures
