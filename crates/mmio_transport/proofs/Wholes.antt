-- What a device that has all of its memory asks for: nothing.
use Rattle.std.proofs.Common.{ℕ, ◌+◌, ◌-◌, ◌≤◌, ◌<◌, min, List, [], ◌∷◌, length, Option, None}
use Rattle.std.proofs.Common.{Some, arith}
use Rattle.std.proofs.lemmas.Nat.{mod_below}
use Rattle.std.proofs.lemmas.List.Elements.{All-head, All-tail}
use Rattle.guest_memory.specs.Memory.{Known, IsWhole}
use Rattle.chains.specs.declared.range.Range.{Range}
use Rattle.chains.specs.Range.{AreHeld, AreInside}
use Rattle.chains.specs.Ring.{RingState}
use Rattle.chains.proofs.Helds.{whole_held}
use Rattle.mmio_transport.specs.declared.ring_kind.RingKind.{RingKind}
use Rattle.mmio_transport.specs.declared.ring_kind.RingKind.TheVariants as kinds
use Rattle.mmio_transport.specs.Queue.{QueueState, AreasInside, used_held}
use Rattle.mmio_transport.specs.Job.{Done}
use Rattle.mmio_transport.specs.Device.{IsDevice}
use Rattle.mmio_transport.specs.Publishing.{IsDueIn}
use Rattle.mmio_transport.specs.Asking.{AskingState, known, HasRoomIn}

-- ranges that lie in a whole memory are there
ranges_held : (m : Known) (ranges : List Range) (count : ℕ) → IsWhole m → AreInside
    (length m.bytes) ranges
    → AreHeld m ranges count
ranges_held m [] count whole inside = tt
ranges_held m (r ∷ rs) count whole inside =
    let lies : Range → Type 0 = λ x. x.at + x.len ≤ length m.bytes in
    let here : r.at + r.len ≤ length m.bytes = All-head lies r rs inside in (
      λ some. whole_held m r.at (min r.len count) whole (grind (arith, here)),
      ranges_held m rs (count - r.len) whole (All-tail lies r rs inside),
    )

-- and so are the used fields of a queue
used_there : (kind : RingKind) (m : Known) (ring : RingState) → IsWhole m → 0 < ring.size
    → AreasInside kind (length m.bytes) ring → used_held kind m ring
used_there kinds.Split m ring whole some areas =
    let place = mod_below ring.used ring.size some in
    let lies = areas.device in
    record {
      element = whole_held m _ 8 whole (omega (arith, place, lies));
      idx = whole_held m _ 2 whole (omega (arith, lies));
    }
used_there kinds.Packed m ring whole some areas =
    let place = mod_below ring.used ring.size some in
    let lies = areas.descriptors in
    whole_held m _ 8 whole (omega (arith, place, lies))

pub whole_room : (a : AskingState) (queue : Option QueueState) (readiness pops : ℕ) (done : Done)
    → IsWhole (known a) → IsDevice (length a.device.memory) readiness pops queue
    → IsDueIn queue a.device done → HasRoomIn queue a done
whole_room a None readiness pops done whole sound due = tt
whole_room a (Some q) readiness pops done whole sound due = record {
  reply = ranges_held (known a) done.writable (length done.reply) whole due.inside;
  used = used_there q.kind (known a) q.ring whole sound.some sound.areas;
}
