-- What a step does to a part of a board, it does to the board: a keeper's step to all but the
-- devices, and theirs to the whole.
use Rattle.std.proofs.Common.{◌≡◌, inl, inr, ℕ, Bool, true, false, List, Option, Some, None, ap}
use Rattle.board.proofs.Common.{slice_get, in_place, is_free, DeviceState, DiskCall}
use Rattle.board.proofs.Common.{DiskState, Effect, BoardState, Answer, Intent, Job, Done, Tally}
use Rattle.board.proofs.Common.{Report, SubmitsFrom, CollectsInto, TakesInto, GivesWhere}
use Rattle.board.proofs.Common.{AdvancesUnder, SettlesBy, Idles, Marks, Fault, Does, Step, IsSound}
use Rattle.board.specs.Board.{IsKnown}
use Rattle.board.specs.Moving.{Steps}
use Rattle.board.specs.State.{with_devices}
use Rattle.board.specs.declared.step.Step.TheVariants as step
use Rattle.board.proofs.Moving.{made, steps_sound}

-- 1. A keeper's steps, whatever stands beside the book and the keeper

module _ {D : Type 0} (ds : List DeviceState → List DeviceState) (ts : List Tally → List Tally)
    (js : List (Option Job) → List (Option Job)) (rs : List (Option Done) → List (Option Done))
  where
    abbrev pub beside : BoardState D → BoardState D
    beside b = record b {
      devices = ds b.devices;
      tallies = ts b.tallies;
      jobs = js b.jobs;
      dones = rs b.dones;
    }

    module _ (answer : Answer) (old new : BoardState D) where
      idles : Idles answer old new → Idles answer (beside old) (beside new)
      idles i = (i.0, ap beside i.1)

      pub takes : (g : ℕ) (place : Option (Option Intent)) → TakesInto g place answer old new
          → TakesInto g place answer (beside old) (beside new)
      takes g None does = idles does
      takes g (Some (Some i)) does = idles does
      takes g (Some None) does = (does.0, ap beside does.1)

      pub gives : (g : ℕ) (free : Bool) (intent : Option Intent)
          → GivesWhere g free intent answer old new
          → GivesWhere g free intent answer (beside old) (beside new)
      gives g false intent does = idles does
      gives g true None does = idles does
      gives g true (Some i) does = (does.0, ap beside does.1)

      pub advances : (shows : D → DiskState) (makes : D → DiskCall → D → Type 0)
          (report : Option Report) → AdvancesUnder shows makes report answer old new
          → AdvancesUnder shows makes report answer (beside old) (beside new)
      advances shows makes (Some report) does = idles does
      advances shows makes None a = record {
        progress = a.progress;
        store = a.store;
        round = a.round;
        refused = a.refused;
        cause = a.cause;
        moves = a.moves;
        moments = a.moments;
        held = a.held;
        front = a.front;
        answers = a.answers;
        after = ap beside a.after;
      }

      pub settles : (report : Option Report) → SettlesBy report answer old new
          → SettlesBy report answer (beside old) (beside new)
      settles None does = idles does
      settles (Some (Marks marks)) does = (does.0, ap beside does.1)
      settles (Some Fault) does = (does.0, ap beside does.1)

-- 2. The steps of all but the devices

-- no device takes part in the step
abbrev pub IsOfRest : Step → Type 0
IsOfRest (step.Drive g act) = ⊥
IsOfRest (step.Pop g) = ⊥
IsOfRest (step.Submit g) = Unit {0}
IsOfRest (step.Collect g) = Unit {0}
IsOfRest (step.Publish g) = ⊥
IsOfRest (step.Take g) = Unit {0}
IsOfRest (step.Give g) = Unit {0}
IsOfRest step.Advance = Unit {0}
IsOfRest step.Settle = Unit {0}

module _ {D : Type 0} (ds : List DeviceState) (answer : Answer) (old new : BoardState D) where
  submits : (g : ℕ) (job : Option Job) (tally : Option Tally)
      → SubmitsFrom g job tally answer old new
      → SubmitsFrom g job tally answer (with_devices ds old) (with_devices ds new)
  submits g job None does = (does.0, ap (with_devices ds) does.1)
  submits g None (Some tally) does = (does.0, ap (with_devices ds) does.1)
  submits g (Some job) (Some tally) (inl (allowed, is, after)) =
      inl (allowed, is, ap (with_devices ds) after)
  submits g (Some job) (Some tally) (inr (is, after)) = inr (is, ap (with_devices ds) after)

  collects : (g : ℕ) (place : Option (Option Done)) → CollectsInto g place answer old new
      → CollectsInto g place answer (with_devices ds old) (with_devices ds new)
  collects g None does = (does.0, ap (with_devices ds) does.1)
  collects g (Some (Some done)) does = (does.0, ap (with_devices ds) does.1)
  collects g (Some None) does = (does.0, ap (with_devices ds) does.1)

  lifts : (shows : D → DiskState) (makes : D → DiskCall → D → Type 0) (s : Step) → IsOfRest s
      → Does shows makes s answer old new
      → Does shows makes s answer (with_devices ds old) (with_devices ds new)
  lifts shows makes (step.Drive g act) is does = absurd is
  lifts shows makes (step.Pop g) is does = absurd is
  lifts shows makes (step.Publish g) is does = absurd is
  lifts shows makes (step.Submit g) is does =
      submits g (in_place (slice_get old.jobs g)) (slice_get old.tallies g) does
  lifts shows makes (step.Collect g) is does = collects g (slice_get old.dones g) does
  lifts shows makes (step.Take g) is does =
      takes (λ l. ds) (λ t. t) (λ j. j) (λ r. r) answer old new g (slice_get old.intents g) does
  lifts shows makes (step.Give g) is does =
      gives (λ l. ds) (λ t. t) (λ j. j) (λ r. r) answer old new g (is_free old.store.guests g)
      (in_place (slice_get old.intents g)) does
  lifts shows makes step.Advance is does =
      advances (λ l. ds) (λ t. t) (λ j. j) (λ r. r) answer old new shows makes old.report does
  lifts shows makes step.Settle is does =
      settles (λ l. ds) (λ t. t) (λ j. j) (λ r. r) answer old new old.report does

-- all that such a step of a sound board gives
module _ {D : Type 0} (shows : D → DiskState) (makes : D → DiskCall → D → Type 0)
    (effect : (a b : D) (call : DiskCall) → makes a call b → Effect (shows a) call (shows b))
    (ds : List DeviceState) (rest : BoardState D) (sound : IsSound shows (with_devices ds rest))
    (known : IsKnown rest.book) (s : Step) (is : IsOfRest s) (answer : Answer)
    (rest' : BoardState D) (does : Does shows makes s answer rest rest') where
  -- as a contract sees the board that it began with
  pub rest_steps : (seen : BoardState D) → with_devices ds rest ≡ seen
      → Steps shows makes s answer seen (with_devices ds rest')
  rest_steps seen same = made shows makes effect s answer (with_devices ds rest) seen
      (with_devices ds rest') same sound known
      (lifts ds answer rest rest' shows makes s is does)

  pub rest_sound : IsSound shows (with_devices ds rest')
  rest_sound = steps_sound shows makes effect s answer (with_devices ds rest)
      (with_devices ds rest') sound known
      (lifts ds answer rest rest' shows makes s is does)
