use Rattle.std.proofs.Common.{◌≡◌, ◌∙◌, Bool, None, Option, Some, ap, arith, false, refl, sym}
use Rattle.std.proofs.Common.{if◌then◌else◌, true, ℕ}
use Rattle.std.proofs.lemmas.List.Elements.{All-replicate}
use Rattle.mmio_transport.specs.Queue.{QueueState, popped_by, popped_of}
use Rattle.mmio_transport.specs.declared.ring_kind.RingKind.{RingKind}
use Rattle.mmio_transport.specs.declared.ring_kind.RingKind.TheVariants.{Packed, Split}
use Rattle.chains.specs.Ring.{RingState}
use Rattle.machine.proofs.Common.{AskingState, Range, Still, standing}
use Rattle.machine.specs.Serving.{ByAPop}
use Rattle.machine.proofs.Moved.{told_runs}
use Rattle.machine.proofs.taking.tell_event.Goals.{in-None, in-Some}
use Rattle.machine.proofs.taking.tell_event.Goals as goal

-- avail_event has 2 bytes
abbrev len_of : Option Range → ℕ
len_of None = 2
len_of (Some part) = part.len

two_where : (b : Bool) (part : Range) → part.len ≡ 2
    → len_of (if b then Some part else None) ≡ 2
two_where true part two = two
two_where false part two = refl

two_of : (kind : RingKind) (ring : RingState) → len_of (popped_of kind ring) ≡ 2
two_of Split ring = two_where ring.places.event_idx _ refl
two_of Packed ring = refl

two_bytes : (o : Option QueueState) → len_of (popped_by o) ≡ 2
two_bytes None = refl
two_bytes (Some queue) = two_of queue.kind queue.ring

abbrev popped_at : Option AskingState → Option Range
popped_at None = None
popped_at (Some a) = popped_by a.device.queue

pub returns-in-Some-event-clause-runs : goal.returns-in-Some-event-clause-runs
returns-in-Some-event-clause-runs c most ps g w =
    let d = c.device.result.now in
    let part = c.in-Some-event.part in
    let own : popped_by d.device.queue ≡ Some part = elim c.match-device_of.branch [
      | in-Some w ↦ sym (ap popped_at (w.in-Some.ensures ∙ c.device.ensures.device))
          ∙ sym w.written_by_pop-event.ensures ∙ sym w.event-is ∙ c.in-Some-event.is
      | in-None w ↦ absurd (let a = w.event-is in let b = c.in-Some-event.is in cc)
    ] in
    let two = sym (ap len_of own) ∙ two_bytes d.device.queue in
    told_runs c.args.guest c.args.board.now d c.tell.new.self c.device.ensures.device most ps g w
    part
    _
    c.tell.result (ByAPop own) (omega (arith, two)) (All-replicate (λ (v : ℕ). v ≡ 0) 2 0 refl)
    c.tell.ensures.ok c.tell.ensures.unchanged

pub returns-in_default-clause-runs : goal.returns-in_default-clause-runs
returns-in_default-clause-runs c most ps g w = Still (standing ps g w) c.args.board.now
