-- What a reply that is handed to its device is to copy out.
use Rattle.std.proofs.Common.{◌≡◌, refl, ap, sym, subst, ◌∙◌, ℕ, List, [], ◌++◌}
use Rattle.std.proofs.Common.{Option, Some, length, map, IfSome, Bool, true, false}
use Rattle.std.proofs.Common.{length-set}
use Rattle.std.specs.Prelude.{option_map, IsSome, None}
use Rattle.machine.proofs.Common.{slice_get, AskingState, Boards, Done, Hands, HandsOne, HandsReply}
use Rattle.machine.proofs.Common.{OutboxMakes, Range, Runs, Still, in_place, outbox_state}
use Rattle.machine.proofs.Common.{Stand, standing}
use Rattle.board.proofs.Common.{append_assoc, slice_get-map}
use Rattle.mmio_transport.specs.Queue.{QueueState}
use Rattle.mmio_transport.specs.Written.{queue_parts}
use Rattle.mmio_transport.specs.declared.done.Published.{Published}
use Rattle.machine.specs.Serving.{ByReply, DoesSome, IsNoted, QueuesStay, due_parts}
use Rattle.machine.specs.Turn.{filled_parts, reply_parts}

module _ (guest most : ℕ) (w : Bool) (qs : List Range) (t : Stand) (published : Published)
    (b b' : Boards) (h : HandsReply outbox_state OutboxMakes guest published b b')
    (over : t ≡ standing qs false w) (parts : qs ≡ reply_parts h.device.device h.done published)
  where
    hands_one : HandsOne guest b qs b'
    hands_one = record { published = published; hands = h; parts_are = parts }

    pub hands_by : Runs guest most (standing [] true w) b t b'
    hands_by = subst (λ r. Runs guest most (standing [] true w) b r b') (sym over)
        (Hands (standing [] true w) qs w b b b' (Still (standing [] true w) b) hands_one)

    pub hands_does : DoesSome guest most (standing [] true w) b t b'
    hands_does = subst (λ r. DoesSome guest most (standing [] true w) b r b') (sym over)
        (ByReply (standing [] true w) (standing qs false w) qs w b b b' b'
        (Still (standing [] true w) b) hands_one (Still (standing qs false w) b'))

pub handed_count : (guest : ℕ) (published : Published) (b b' : Boards)
    → HandsReply outbox_state OutboxMakes guest published b b'
    → length b'.devices ≡ length b.devices
handed_count guest published b b' h =
    ap (λ x. length x.devices) h.after ∙ length-set b.devices guest h.device'

pub noted_reply : (guest : ℕ) (ps : List Range) (b : Boards) (d : AskingState) (done : Done)
    → IsNoted guest ps b → in_place (slice_get b.rest.dones guest) ≡ Some done
    → slice_get b.devices guest ≡ Some d
    → ps ≡ filled_parts done.writable (length done.reply) ++ queue_parts d.device.queue
noted_reply guest ps b d done noted lay its =
    let queue_of : AskingState → Option QueueState = λ a. a.device.queue in
    subst (λ (o : Option (Option QueueState)). IfSome o (λ queue.
    ps ≡ filled_parts done.writable (length done.reply) ++ queue_parts queue))
    (slice_get-map queue_of b.devices guest ∙ ap (option_map queue_of) its)
    (subst (λ (o : Option Done). IfSome o (λ r.
    IfSome (slice_get (map queue_of b.devices) guest) (λ queue.
    ps ≡ filled_parts r.writable (length r.reply) ++ queue_parts queue))) lay noted)

pub noted_by : (guest : ℕ) (ps : List Range) (b : Boards) (d : AskingState) (done : Done)
    → in_place (slice_get b.rest.dones guest) ≡ Some done → slice_get b.devices guest ≡ Some d
    → ps ≡ filled_parts done.writable (length done.reply) ++ queue_parts d.device.queue
    → IsNoted guest ps b
noted_by guest ps b d done lay its parts =
    let queue_of : AskingState → Option QueueState = λ a. a.device.queue in
    subst (λ (o : Option Done). IfSome o (λ r.
    IfSome (slice_get (map queue_of b.devices) guest) (λ queue.
    ps ≡ filled_parts r.writable (length r.reply) ++ queue_parts queue))) (sym lay)
    (subst (λ (o : Option (Option QueueState)). IfSome o (λ queue.
    ps ≡ filled_parts done.writable (length done.reply) ++ queue_parts queue))
    (sym (slice_get-map queue_of b.devices guest ∙ ap (option_map queue_of) its)) parts)

-- what was noted one after another
pub noted_in_turn : (p0 p1 p2 p3 filled ws is : List Range) → p0 ≡ [] → p1 ≡ p0 ++ filled
    → p2 ≡ p1 ++ ws → p3 ≡ p2 ++ is → p3 ≡ filled ++ (ws ++ is)
noted_in_turn p0 p1 p2 p3 filled ws is none first second third =
    third ∙ ap (λ p. p ++ is) (second ∙ ap (λ p. p ++ ws) (first ∙ ap (λ p. p ++ filled) none))
    ∙ append_assoc filled ws is

-- where the device alone was told bytes, what was noted is what it is to write
pub noted_same : (guest : ℕ) (ps : List Range) (a b : Boards) → b.rest ≡ a.rest
    → QueuesStay a b → IsNoted guest ps a → IsNoted guest ps b
noted_same guest ps a b rest queues noted =
    subst (λ r. IfSome (in_place (slice_get r.dones guest)) (λ done.
    IfSome (slice_get (map (λ x. x.device.queue) b.devices) guest) (λ queue.
    ps ≡ filled_parts done.writable (length done.reply) ++ queue_parts queue))) (sym rest)
    (subst (λ (qs : List (Option QueueState)). IfSome (in_place (slice_get a.rest.dones guest))
    (λ done. IfSome (slice_get qs guest) (λ queue.
    ps ≡ filled_parts done.writable (length done.reply) ++ queue_parts queue))) (sym queues) noted)

some_in : {X : Type 0} (o : Option X) → IsSome o → (x : X) × (o ≡ Some x)
some_in None is = absurd (let no = is in cc)
some_in (Some x) is = (x, refl)

pub due_noted : (guest : ℕ) (ps : List Range) (b : Boards) (d : AskingState)
    → IsSome (in_place (slice_get b.rest.dones guest)) → IsNoted guest ps b
    → slice_get b.devices guest ≡ Some d
    → due_parts (in_place (slice_get b.rest.dones guest)) d.device ≡ ps
due_noted guest ps b d lies noted its =
    let done = some_in (in_place (slice_get b.rest.dones guest)) lies in
    ap (λ o. due_parts o d.device) done.1 ∙ sym (noted_reply guest ps b d done.0 noted done.1 its)
