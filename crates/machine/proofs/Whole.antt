-- No call of the disk that a serve makes fails by itself.
use Rattle.std.proofs.Common.{◌≡◌, ◌<◌, ◌≤◌, ◌^◌, ◌-◌, refl, ap, sym, subst, ◌∙◌, ℕ, Bool, true}
use Rattle.std.proofs.Common.{false}
use Rattle.std.proofs.Common.{List, [], Option, Some, None, arith, inl, inr}
use Rattle.std.specs.Prelude.{◌&&◌, not, nat_lt}
use Rattle.board.proofs.Common.{nat_tests}
use Rattle.disk.specs.Outbox.{OutboxView, has_room}
use Rattle.disk.specs.OutboxDisk.{after_write, counted, ends, failures_after, write_succeeds}
use Rattle.flusher.proofs.Endings.{write_of}
use Rattle.flusher.specs.Progress.{Wrote}
use Rattle.flusher.specs.Round.{Ends, planned}
use Rattle.flusher.specs.Store.{next_call}
use Rattle.flusher.specs.declared.progress.Call.{Call}
use Rattle.flusher.specs.declared.progress.Call.TheVariants as call
use Rattle.machine.proofs.Common.{AdvancesUnder, Answer, BoardState, Boards, CollectsInto, Does}
use Rattle.machine.proofs.Common.{Done}
use Rattle.machine.proofs.Common.{Fault, GivesWhere, Intent, IsShare, Job, Marks, OutboxMakes}
use Rattle.machine.proofs.Common.{OutboxState, Report, Runs, SettlesBy, Stand, Step, SubmitsFrom}
use Rattle.machine.proofs.Common.{TakesInto, Tally, board_of, outbox_state, standing}
use Rattle.machine.proofs.Common.{GivesUp, Hands, LearnsOf, Calls, Pops, PopsInto, Still, Then}
use Rattle.machine.proofs.Common.{Voids}
use Rattle.mmio_transport.specs.Device.{DeviceState}
use Rattle.board.specs.declared.step.Step.TheVariants as step
use Rattle.board.specs.Steps.{Advances}
use Rattle.machine.specs.Serving.{FailsNone, MayWrite, is_write}
use Rattle.machine.specs.Ending.{Begins, GoesOn, Stops, Tells}

whole_same : (a b : BoardState OutboxState) → b.store ≡ a.store → FailsNone a b
whole_same a b same failed few = (
  ap (λ s. s.disk.failed) same ∙ failed,
  ap (λ s. s.disk.failures) same,
  ap (λ s. s.broken) same,
)

pub whole_twice : (a b c : BoardState OutboxState) → FailsNone a b → FailsNone b c → FailsNone a c
whole_twice a b c first more failed few =
    let one = first failed few in
    let two = more one.0 (subst (λ n. n < 2 ^ 64 - 1) (sym one.1) few) in
    (two.0, two.1 ∙ one.1, two.2 ∙ one.2)

-- 1. A write for which there is room

room_for : (n : ℕ) (o : OutboxView) → n ≤ 16648 → has_room 16648 o ≡ true → has_room n o ≡ true
unfolding has_room
room_for n o few room = grind (arith, nat_tests, few, room)

succeeds : (n : ℕ) (d : OutboxState) → n ≤ 16648 → has_room 16648 d.outbox ≡ true
    → d.failed ≡ false → d.failures < 2 ^ 64 - 1 → write_succeeds n d ≡ true
unfolding write_succeeds ends
succeeds n d few room failed below =
    ap (λ v. v && not d.failed && nat_lt d.failures (2 ^ 64 - 1)) (room_for n d.outbox few room)
    ∙ ap (λ v. true && not v && nat_lt d.failures (2 ^ 64 - 1)) failed
    ∙ (grind (arith, nat_tests, below))

wrote_well : (at : ℕ) (bytes : List ℕ) (d d' : OutboxState) (ok : Bool) → ok ≡ true
    → d' ≡ after_write at bytes ok d → (d'.failed ≡ false) × (d'.failures ≡ d.failures)
unfolding after_write counted failures_after
wrote_well at bytes d d' true is value = (ap (λ o. o.failed) value, ap (λ o. o.failures) value)
wrote_well at bytes d d' false is value = absurd (let no = is in cc)

is_call : (c : Call) → is_write c ≡ true → c ≡ call.Write
is_call call.Write is = refl
is_call call.Sync is = absurd (let no = is in cc)
is_call call.None is = absurd (let no = is in cc)

advances : (v : Bool) (answer : Answer) (old new : BoardState OutboxState) → old.store.broken ≡ v
    → is_write (next_call v old.store.guests) ≡ true → has_room 16648 old.store.disk.outbox ≡ true
    → Advances outbox_state OutboxMakes answer old new → FailsNone old new
advances true answer old new broken write room does = absurd (let no = write in cc)
advances false answer old new broken write room does = λ failed few.
    let round = (write_of OutboxMakes (planned old.store.guests) old.store.disk does.store.disk
    old.store.guests does.store.guests does.progress does.store.broken (is_call _ write)
    (does.round broken)).1 in
    let slot = round.wrote in
    let ok = slot.call.due ∙ succeeds _ old.store.disk slot.few room failed few in
    let well = wrote_well slot.at slot.bytes old.store.disk does.store.disk round.ok ok
    slot.call.value in
    let ends_well = subst (λ o. Ends o Wrote does.progress does.store.broken) ok round.ends in (
      ap (λ b. b.store.disk.failed) does.after ∙ well.0,
      ap (λ b. b.store.disk.failures) does.after ∙ well.1,
      ap (λ b. b.store.broken) does.after ∙ ends_well.1 ∙ sym broken,
    )

-- 2. Each step

module _ (old new : BoardState OutboxState) (answer : Answer) where
  advance_whole : MayWrite old → (r : Option Report)
      → AdvancesUnder outbox_state OutboxMakes r answer old new → FailsNone old new
  advance_whole may (Some r) does = whole_same old new (ap (λ b. b.store) does.1)
  advance_whole may None does =
      advances old.store.broken answer old new refl may.write may.room does

  settle_whole : (r : Option Report) → SettlesBy r answer old new → FailsNone old new
  settle_whole None does = whole_same old new (ap (λ b. b.store) does.1)
  settle_whole (Some (Marks marks)) does = whole_same old new (ap (λ b. b.store) does.1)
  settle_whole (Some Fault) does = whole_same old new (ap (λ b. b.store) does.1)

  take_whole : (g : ℕ) (place : Option (Option Intent)) → TakesInto g place answer old new
      → FailsNone old new
  take_whole g None does = whole_same old new (ap (λ b. b.store) does.1)
  take_whole g (Some (Some i)) does = whole_same old new (ap (λ b. b.store) does.1)
  take_whole g (Some None) does = whole_same old new (ap (λ b. b.store) does.1)

  give_whole : (g : ℕ) (free : Bool) (i : Option Intent) → GivesWhere g free i answer old new
      → FailsNone old new
  give_whole g false i does = whole_same old new (ap (λ b. b.store) does.1)
  give_whole g true None does = whole_same old new (ap (λ b. b.store) does.1)
  give_whole g true (Some i) does = λ failed few. (
    ap (λ b. b.store.disk.failed) does.1 ∙ failed,
    ap (λ b. b.store.disk.failures) does.1,
    ap (λ b. b.store.broken) does.1,
  )

  collect_whole : (g : ℕ) (place : Option (Option Done)) → CollectsInto g place answer old new
      → FailsNone old new
  collect_whole g None does = whole_same old new (ap (λ b. b.store) does.1)
  collect_whole g (Some (Some r)) does = whole_same old new (ap (λ b. b.store) does.1)
  collect_whole g (Some None) does = whole_same old new (ap (λ b. b.store) does.1)

  submit_whole : (g : ℕ) (job : Option Job) (tally : Option Tally)
      → SubmitsFrom g job tally answer old new → FailsNone old new
  submit_whole g job None does = whole_same old new (ap (λ b. b.store) does.1)
  submit_whole g None (Some tally) does = whole_same old new (ap (λ b. b.store) does.1)
  submit_whole g (Some job) (Some tally) does = elim does [
    | inl went ↦ whole_same old new (ap (λ b. b.store) went.2)
    | inr refused ↦ whole_same old new (ap (λ b. b.store) refused.1)
  ]

  pop_whole : (g : ℕ) (place : Option (Option Job)) (o : Option DeviceState)
      → PopsInto g place o answer old new → FailsNone old new
  pop_whole g None o does = whole_same old new (ap (λ b. b.store) does.1)
  pop_whole g (Some (Some job)) o does = whole_same old new (ap (λ b. b.store) does.1)
  pop_whole g (Some None) None does = whole_same old new (ap (λ b. b.store) does.1)
  pop_whole g (Some None) (Some d) does = whole_same old new (ap (λ b. b.store) does.after)

module _ (guest : ℕ) where
  step_whole : (s : Step) (answer : Answer) (a b : Boards) → IsShare guest s a
      → Does outbox_state OutboxMakes s answer (board_of a) (board_of b) → FailsNone a.rest b.rest
  step_whole (step.Drive g act) answer a b share does = absurd share
  step_whole (step.Pop g) answer a b share does = absurd share
  step_whole (step.Submit g) answer a b share does =
      submit_whole (board_of a) (board_of b) answer g _ _ does
  step_whole (step.Collect g) answer a b share does =
      collect_whole (board_of a) (board_of b) answer g _ does
  step_whole (step.Publish g) answer a b share does = absurd share
  step_whole (step.Take g) answer a b share does =
      take_whole (board_of a) (board_of b) answer g _ does
  step_whole (step.Give g) answer a b share does =
      give_whole (board_of a) (board_of b) answer g _ _ does
  step_whole step.Advance answer a b share does =
      advance_whole (board_of a) (board_of b) answer
      (record { write = share.write; room = share.room }) _ does
  step_whole step.Settle answer a b share does =
      settle_whole (board_of a) (board_of b) answer _ does

  pub runs_whole : (most : ℕ) (s t : Stand) (a b : Boards) → Runs guest most s a t b
      → FailsNone a.rest b.rest
  runs_whole most s t a b (Still r d) = whole_same d.rest d.rest refl
  runs_whole most s t a b (Then q r x y z o answer runs share makes) =
      whole_twice x.rest y.rest z.rest (runs_whole most q r x y runs)
      (step_whole o answer y z share makes.steps.does)
  runs_whole most s t a b (Pops q r l m x y z answer runs pops) =
      whole_twice x.rest y.rest z.rest (runs_whole most q (standing [] true l) x y runs)
      (pop_whole (board_of y) (board_of z) answer guest _ _ pops.makes.steps.does)
  runs_whole most s t a b (Hands q r l x y z runs hands) =
      whole_twice x.rest y.rest z.rest (runs_whole most q (standing [] true l) x y runs)
      (whole_same y.rest z.rest (ap (λ b. b.rest.store) hands.hands.after))
  runs_whole most s t a b (LearnsOf q r g h l x y z none runs knows) =
      whole_twice x.rest y.rest z.rest (runs_whole most q (standing r g l) x y runs)
      (whole_same y.rest z.rest (ap (λ b. b.rest.store) knows.after))
  runs_whole most s t a b (GivesUp q r g l x y runs) = runs_whole most q (standing r g l) x y runs
  runs_whole most s t a b (Calls q r l x y z runs notified) =
      whole_twice x.rest y.rest z.rest (runs_whole most q (standing r true l) x y runs)
      (whole_same y.rest z.rest (ap (λ b. b.rest.store) notified.after))
  runs_whole most s t a b (Voids q r g l x y z runs why refuses) =
      whole_twice x.rest y.rest z.rest (runs_whole most q (standing r g l) x y runs)
      (whole_same y.rest z.rest (ap (λ b. b.rest.store) refuses.after))

  pub begins_whole : (s t : Stand) (a b : Boards) → Begins guest s a t b
      → FailsNone a.rest b.rest
  begins_whole s t a b (GoesOn same left) =
      whole_same a.rest b.rest (ap (λ x. x.rest.store) same)
  begins_whole s t a b (Tells at bytes tells left) =
      whole_same a.rest b.rest (ap (λ x. x.rest.store) tells.after)
  begins_whole s t a b (Stops refuses left) =
      whole_same a.rest b.rest (ap (λ x. x.rest.store) refuses.after)
