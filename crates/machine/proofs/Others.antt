-- What the steps of one guest leave of the others.
use Rattle.std.proofs.Common.{◌≡◌, ◌≢◌, refl, sym, subst, ap, ◌∙◌, inl, inr, ℕ, Bool, true, false}
use Rattle.std.proofs.Common.{List}
use Rattle.std.proofs.Common.{[], Option, Some, None}
use Rattle.machine.proofs.Common.{slice_get, slice_set, DiskCall, DiskState, Intent, DeviceState}
use Rattle.machine.proofs.Common.{Done, Job, Tally, BoardState, Fault, Marks, Report, put}
use Rattle.machine.proofs.Common.{AdvancesUnder, Answer, CollectsInto, Does, GivesWhere, PopsInto}
use Rattle.machine.proofs.Common.{SettlesBy, SubmitsFrom, TakesInto, Step, IsShare, Runs, Still}
use Rattle.machine.proofs.Common.{Then, Pops, Hands, LearnsOf, Calls, Voids, Boards, Range, Knows}
use Rattle.machine.proofs.Common.{AskingState, GivesUp, Stand, standing}
use Rattle.machine.proofs.Common.{HandsOne, OutboxMakes, OutboxState, outbox_state, board_of}
use Rattle.machine.proofs.Common.{with_devices, get_set_other, OthersStay}
use Rattle.board.specs.declared.step.Step.TheVariants as step
use Rattle.board.proofs.AskingSteps.{device_in, map-set}
use Rattle.machine.specs.Ending.{Begins, GoesOn, Stops, Tells}

-- something is put into one place
put_other : {X : Type 0} (places : List (Option X)) (g k : ℕ) (o : Option X) → k ≢ g
    → slice_get (put places g o) k ≡ slice_get places k
put_other places g k None other = refl
put_other places g k (Some x) other = get_set_other places g k (Some x) other

module _ {D : Type 0} (shows : D → DiskState) (makes : D → DiskCall → D → Type 0) (g : ℕ) where
  stays_same : (old new : BoardState D) → new ≡ old → OthersStay g old new
  stays_same old new is = subst (OthersStay g old) (sym is)
      (record {
        devices = λ k other. refl;
        jobs = λ k other. refl;
        dones = λ k other. refl;
        intents = λ k other. refl;
      })

  pub stays_twice : (a b c : BoardState D) → OthersStay g a b → OthersStay g b c → OthersStay g a c
  stays_twice a b c p q = record {
    devices = λ k other. q.devices k other ∙ p.devices k other;
    jobs = λ k other. q.jobs k other ∙ p.jobs k other;
    dones = λ k other. q.dones k other ∙ p.dones k other;
    intents = λ k other. q.intents k other ∙ p.intents k other;
  }

  module _ (old : BoardState D) where
    pop_stays : (answer : Answer) (new : BoardState D) (place : Option (Option Job))
        (o : Option DeviceState) → PopsInto g place o answer old new → OthersStay g old new
    pop_stays answer new None o does = stays_same old new does.1
    pop_stays answer new (Some (Some job)) o does = stays_same old new does.1
    pop_stays answer new (Some None) None does = stays_same old new does.1
    pop_stays answer new (Some None) (Some d) does =
        subst (OthersStay g old) (sym does.after) (record {
          devices = λ k other. get_set_other old.devices g k does.device other;
          jobs = λ k other. put_other old.jobs g k _ other;
          dones = λ k other. refl;
          intents = λ k other. refl;
        })

    submit_stays : (answer : Answer) (new : BoardState D) (job : Option Job) (tally : Option Tally)
        → SubmitsFrom g job tally answer old new → OthersStay g old new
    submit_stays answer new job None does = stays_same old new does.1
    submit_stays answer new None (Some tally) does = stays_same old new does.1
    submit_stays answer new (Some job) (Some tally) (inl went) =
        subst (OthersStay g old) (sym went.2) (record {
          devices = λ k other. refl;
          jobs = λ k other. get_set_other old.jobs g k None other;
          dones = λ k other. refl;
          intents = λ k other. refl;
        })
    submit_stays answer new (Some job) (Some tally) (inr refused) = stays_same old new refused.1

    collect_stays : (answer : Answer) (new : BoardState D) (place : Option (Option Done))
        → CollectsInto g place answer old new → OthersStay g old new
    collect_stays answer new None does = stays_same old new does.1
    collect_stays answer new (Some (Some r)) does = stays_same old new does.1
    collect_stays answer new (Some None) does = subst (OthersStay g old) (sym does.1) (record {
      devices = λ k other. refl;
      jobs = λ k other. refl;
      dones = λ k other. put_other old.dones g k _ other;
      intents = λ k other. refl;
    })

    take_stays : (answer : Answer) (new : BoardState D) (place : Option (Option Intent))
        → TakesInto g place answer old new → OthersStay g old new
    take_stays answer new None does = stays_same old new does.1
    take_stays answer new (Some (Some i)) does = stays_same old new does.1
    take_stays answer new (Some None) does = subst (OthersStay g old) (sym does.1) (record {
      devices = λ k other. refl;
      jobs = λ k other. refl;
      dones = λ k other. refl;
      intents = λ k other. put_other old.intents g k _ other;
    })

    give_stays : (answer : Answer) (new : BoardState D) (free : Bool) (intent : Option Intent)
        → GivesWhere g free intent answer old new → OthersStay g old new
    give_stays answer new false intent does = stays_same old new does.1
    give_stays answer new true None does = stays_same old new does.1
    give_stays answer new true (Some i) does = subst (OthersStay g old) (sym does.1) (record {
      devices = λ k other. refl;
      jobs = λ k other. refl;
      dones = λ k other. refl;
      intents = λ k other. get_set_other old.intents g k None other;
    })

    advance_stays : (answer : Answer) (new : BoardState D) (report : Option Report)
        → AdvancesUnder shows makes report answer old new → OthersStay g old new
    advance_stays answer new (Some r) does = stays_same old new does.1
    advance_stays answer new None does =
        subst (OthersStay g old) (sym does.after)
        (record {
          devices = λ k other. refl;
          jobs = λ k other. refl;
          dones = λ k other. refl;
          intents = λ k other. refl;
        })

    settle_stays : (answer : Answer) (new : BoardState D) (report : Option Report)
        → SettlesBy report answer old new → OthersStay g old new
    settle_stays answer new None does = stays_same old new does.1
    settle_stays answer new (Some (Marks marks)) does =
        subst (OthersStay g old) (sym does.1) (record {
          devices = λ k other. refl;
          jobs = λ k other.
              refl;
          dones = λ k other. refl;
          intents = λ k other. refl;
        })
    settle_stays answer new (Some Fault) does =
        subst (OthersStay g old) (sym does.1) (record {
          devices = λ k other. refl;
          jobs = λ k other.
              refl;
          dones = λ k other. refl;
          intents = λ k other. refl;
        })

-- the guest of a step is the one that is served
module _ (guest : ℕ) where
  one_stays : (s : Step) (answer : Answer) (b : Boards) (old new : BoardState OutboxState)
      → IsShare guest s b → Does outbox_state OutboxMakes s answer old new
      → OthersStay guest old new
  one_stays (step.Drive g act) answer b old new share does = absurd share
  one_stays (step.Pop g) answer b old new share does = absurd share
  one_stays (step.Submit g) answer b old new share does = subst (λ n. OthersStay n old new) share
      (submit_stays outbox_state OutboxMakes g old answer new _ _ does)
  one_stays (step.Collect g) answer b old new share does = subst (λ n. OthersStay n old new) share
      (collect_stays outbox_state OutboxMakes g old answer new _ does)
  one_stays (step.Publish g) answer b old new share does = absurd share
  one_stays (step.Take g) answer b old new share does = subst (λ n. OthersStay n old new) share
      (take_stays outbox_state OutboxMakes g old answer new _ does)
  one_stays (step.Give g) answer b old new share does = subst (λ n. OthersStay n old new) share
      (give_stays outbox_state OutboxMakes g old answer new _ _ does)
  one_stays step.Advance answer b old new share does =
      advance_stays outbox_state OutboxMakes guest old answer new _ does
  one_stays step.Settle answer b old new share does =
      settle_stays outbox_state OutboxMakes guest old answer new _ does

  -- a device that was moved alone, or with the reply in its place
  device_stays : (a b : Boards) (d : AskingState)
      → b ≡ record a { devices = slice_set a.devices guest d }
      → OthersStay guest (board_of a) (board_of b)
  device_stays a b d after =
      let devices = map-set device_in a.devices guest d in
      subst (λ (v : BoardState OutboxState). OthersStay guest (board_of a) v)
      (sym (ap board_of after ∙ ap (λ ds. with_devices ds a.rest) devices))
      (record {
        devices = λ k other. get_set_other _ guest k d.device other;
        jobs = λ k other. refl;
        dones = λ k other. refl;
        intents = λ k other. refl;
      })

  known_stays : (g h : Bool) (a b : Boards) → Knows guest g a h b
      → OthersStay guest (board_of a) (board_of b)
  known_stays g h a b knows = device_stays a b knows.device' knows.after

  hands_stay : (a b : Boards) (ps : List Range) → HandsOne guest a ps b
      → OthersStay guest (board_of a) (board_of b)
  hands_stay a b ps hands =
      let h = hands.hands in
      let dones = slice_set a.rest.dones guest None in
      subst (λ (v : BoardState OutboxState). OthersStay guest (board_of a) v)
      (sym (ap board_of h.after ∙ ap (λ ds. with_devices ds (record a.rest { dones = dones }))
      (map-set device_in a.devices guest h.device')))
      (record {
        devices = λ k other. get_set_other _ guest k h.device'.device other;
        jobs = λ k other. refl;
        dones = λ k other. get_set_other a.rest.dones guest k None other;
        intents = λ k other. refl;
      })

  pub others_stay : (most : ℕ) (s t : Stand) (a b : Boards) → Runs guest most s a t b
      → OthersStay guest (board_of a) (board_of b)
  others_stay most s t a b (Still r d) =
      stays_same outbox_state OutboxMakes guest (board_of d) (board_of d) refl
  others_stay most s t a b (Then q r x y z o answer runs share makes) =
      stays_twice outbox_state OutboxMakes guest (board_of x) (board_of y) (board_of z)
      (others_stay most q r x y runs)
      (one_stays o answer y (board_of y) (board_of z) share makes.steps.does)
  others_stay most s t a b (Pops q r l m x y z answer runs pops) =
      stays_twice outbox_state OutboxMakes guest (board_of x) (board_of y) (board_of z)
      (others_stay most q (standing [] true l) x y runs)
      (pop_stays outbox_state OutboxMakes guest (board_of y) answer (board_of z) _ _
      pops.makes.steps.does)
  others_stay most s t a b (Hands q r l x y z runs hands) =
      stays_twice outbox_state OutboxMakes guest (board_of x) (board_of y) (board_of z)
      (others_stay most q (standing [] true l) x y runs) (hands_stay y z r hands)
  others_stay most s t a b (LearnsOf q r g h l x y z none runs knows) =
      stays_twice outbox_state OutboxMakes guest (board_of x) (board_of y) (board_of z)
      (others_stay most q (standing r g l) x y runs) (known_stays g h y z knows)
  others_stay most s t a b (GivesUp q r g l x y runs) = others_stay most q (standing r g l) x y runs
  others_stay most s t a b (Calls q r l x y z runs notified) =
      stays_twice outbox_state OutboxMakes guest (board_of x) (board_of y) (board_of z)
      (others_stay most q (standing r true l) x y runs)
      (device_stays y z notified.device' notified.after)
  others_stay most s t a b (Voids q r g l x y z runs why refuses) =
      stays_twice outbox_state OutboxMakes guest (board_of x) (board_of y) (board_of z)
      (others_stay most q (standing r g l) x y runs) (device_stays y z _ refuses.after)

  pub begins_stay : (s t : Stand) (a b : Boards) → Begins guest s a t b
      → OthersStay guest (board_of a) (board_of b)
  begins_stay s t a b (GoesOn same left) =
      stays_same outbox_state OutboxMakes guest (board_of a) (board_of b) (ap board_of same)
  begins_stay s t a b (Tells at bytes tells left) = device_stays a b _ tells.after
  begins_stay s t a b (Stops refuses left) = device_stays a b _ refuses.after
