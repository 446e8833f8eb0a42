use Rattle.std.proofs.Common.{subst}
use Rattle.mmio_transport.proofs.Common.{QueueState, IsRing}
use Rattle.mmio_transport.specs.declared.queue.AnyRing.TheVariants as any
use Rattle.mmio_transport.proofs.Areas.{seen}
use Rattle.mmio_transport.proofs.queue.Queue.at_rest.Goals as goal

pub returns-in-Split-clause-ring : goal.returns-in-Split-clause-ring
returns-in-Split-clause-ring c =
    let P : QueueState → Type 0 = λ q. IsRing q.kind q.ring.places q.ring.size in
    subst P (seen c.args.self.now c.self.inside.ring (any.Split c.in-Split.ring) c.self.view_is
    c.in-Split.is) c.counts.ensures.sound

pub returns-in-Packed-clause-ring : goal.returns-in-Packed-clause-ring
returns-in-Packed-clause-ring c =
    let P : QueueState → Type 0 = λ q. IsRing q.kind q.ring.places q.ring.size in
    subst P (seen c.args.self.now c.self.inside.ring (any.Packed c.in-Packed.ring) c.self.view_is
    c.in-Packed.is) c.counts-in-Packed.ensures.sound
