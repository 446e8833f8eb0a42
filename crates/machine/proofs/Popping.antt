-- What a pop of the guest's device comes to.
use Rattle.std.proofs.Common.{◌≡◌, ◌<◌, ◌⊎◌, ap, inl, inr, sym, subst, ◌∙◌, ℕ, Bool, true, false}
use Rattle.std.proofs.Common.{List, [], ◌∷◌, ◌++◌, Option, Some, None, Result, Ok, Err, length}
use Rattle.std.proofs.Common.{get_or}
use Rattle.std.proofs.Common.{arith, IfSome, refl, if◌then◌else◌}
use Rattle.machine.proofs.Common.{slice_get, slice_set, Answer, AskingState, BoardState, Boards}
use Rattle.machine.proofs.Common.{DeviceState, HasNoJob, IsSound, Job, Makes, OutboxState}
use Rattle.machine.proofs.Common.{Pops, PopsInto, PopsOne, Range, Runs, Still, board_of}
use Rattle.machine.proofs.Common.{get_set_same}
use Rattle.machine.proofs.Common.{in_place, outbox_state, put, GivesUp, Stand, standing}
use Rattle.board.proofs.AskingSteps.{device_in}
use Rattle.board.proofs.Common.{option_map, slice_get-get_or, slice_get-map, length-map}
use Rattle.mmio_transport.specs.declared.fault.DeviceFault.{DeviceFault}
use Rattle.mmio_transport.specs.Popping.{GivesFrom, GivesJob, is_stopped, live_queue}
use Rattle.mmio_transport.specs.Queue.{QueueState}
use Rattle.board.specs.Steps.{job_of, pop_answer}
use Rattle.board.specs.declared.step.Seen.TheVariants.{Did, Nothing}
use Rattle.board.specs.declared.step.Step.TheVariants as step
use Rattle.machine.specs.Ending.{FindsNone}
use Rattle.machine.specs.Serving.{ByPop, DoesSome, MayTake, NoEvent, NotLive, Stands, WritesNone}
use Rattle.machine.specs.Turn.{pop_parts}

-- there is an element at each index below the length
pub some_at : {X : Type 0} (xs : List X) (k : ℕ) → k < length xs
    → (x : X) × (slice_get xs k ≡ Some x)
some_at [] k below = absurd (omega (arith, below))
some_at (y ∷ ys) k below = (get_or (y ∷ ys) k y, slice_get-get_or (y ∷ ys) k y below)

pub still_by : (guest most : ℕ) (g v : Bool) (t : Stand) (b b' : Boards) → t ≡ standing [] g v
    → b' ≡ b → Runs guest most (standing [] g v) b t b'
still_by guest most g v t b b' none same =
    subst (λ r. Runs guest most (standing [] g v) b r b') (sym none)
    (subst (λ x. Runs guest most (standing [] g v) b (standing [] g v) x) (sym same)
    (Still (standing [] g v) b))

-- a step that was begun is given up
pub gives_up : (guest most : ℕ) (ps : List Range) (g v : Bool) (t : Stand) (b : Boards)
    → t ≡ standing ps false v → Runs guest most (standing ps g v) b t b
gives_up guest most ps g v t b over =
    subst (λ r. Runs guest most (standing ps g v) b r b) (sym over)
    (GivesUp (standing ps g v) ps g v b b (Still (standing ps g v) b))

pub pops_by : (guest most : ℕ) (v w : Bool) (qs : List Range) (t : Stand) (answer : Answer)
    (b b' : Boards) → PopsOne guest most v answer b qs w b' → t ≡ standing qs false w
    → Runs guest most (standing [] true v) b t b'
pops_by guest most v w qs t answer b b' pops over =
    subst (λ r. Runs guest most (standing [] true v) b r b') (sym over)
    (Pops (standing [] true v) qs v w b b b' answer (Still (standing [] true v) b) pops)

-- and where it gave a chain something was done
pub pops_does : (guest most : ℕ) (v w : Bool) (qs : List Range) (t : Stand) (b b' : Boards)
    → PopsOne guest most v (Ok Did) b qs w b' → t ≡ standing qs false w
    → DoesSome guest most (standing [] true v) b t b'
pops_does guest most v w qs t b b' pops over =
    subst (λ r. DoesSome guest most (standing [] true v) b r b') (sym over)
    (ByPop (standing [] true v) (standing qs false w) qs v w b b b' b' (Ok Did)
    (Still (standing [] true v) b) pops refl (Still (standing qs false w) b'))

-- what is noted before a pop is as it writes it, where nothing was noted before
pub writes_none : (v live l : Bool) (ps : List Range) (d : AskingState) → l ≡ v
    → ps ≡ pop_parts d.device
    → (live ≡ false → d.device.registers.status.driver_ok ≡ false)
    → (live ≡ false) ⊎ ((l ≡ true) ⊎ (ps ≡ [])) → WritesNone v d
writes_none v live l ps d same parts dead (inl off) = NotLive (dead off)
writes_none v live l ps d same parts dead (inr (inl stands)) = Stands (sym same ∙ stands)
writes_none v live l ps d same parts dead (inr (inr none)) = NoEvent (sym parts ∙ none)

-- a pop that found no chain, and wrote nothing new
pub finds_none : (guest most : ℕ) (v : Bool) (b b' : Boards) (d : AskingState)
    → Makes (step.Pop guest) (Ok Nothing) b b' → slice_get b.devices guest ≡ Some d
    → slice_get b.rest.jobs guest ≡ Some None → MayTake guest most b → WritesNone v d
    → PopsOne guest most v (Ok Nothing) b [] v b'
finds_none guest most v b b' d makes its empty fewer none = record {
  makes = makes;
  device = d;
  its = its;
  empty = empty;
  fewer = fewer;
  parts_are = inr (record {
    none = refl;
    gave_none = λ same. absurd (let no = same in cc);
    same = refl;
    nothing = λ is. none;
  });
}

-- the parts that were noted of the guest's device
pub noted_at : (o : Option AskingState) (d : AskingState) (ps qs : List Range) → o ≡ Some d
    → qs ≡ [] → IfSome o (λ x. ps ≡ qs ++ pop_parts x.device) → ps ≡ pop_parts d.device
noted_at o d ps qs is none noted =
    subst (λ p. IfSome p (λ x. ps ≡ qs ++ pop_parts x.device)) is noted
    ∙ ap (λ rs. rs ++ pop_parts d.device) none

module _ (guest : ℕ) (old new : BoardState OutboxState) (d : DeviceState) where
  none_of : (popped : Result (Option Job) DeviceFault) (device : DeviceState)
      → GivesJob d popped device → Ok Nothing ≡ pop_answer popped
      → slice_get old.devices guest ≡ Some d
      → new ≡ record old {
        devices = slice_set old.devices guest device;
        jobs = put old.jobs guest (job_of popped);
      }
      → (x : DeviceState) × (slice_get new.devices guest ≡ Some x) × GivesJob d (Ok None) x
      × (new.jobs ≡ old.jobs)
  none_of (Ok None) device gives answers its after = (
    device,
    ap (λ b. slice_get b.devices guest) after ∙ get_set_same old.devices guest d device its,
    gives,
    ap (λ b. b.jobs) after,
  )
  none_of (Ok (Some job)) device gives answers its after = absurd (let no = answers in cc)
  none_of (Err e) device gives answers its after = absurd (let no = answers in cc)

-- a chain is found only behind DRIVER_OK
did_where : (b : Bool) (d : DeviceState) (queue : Option QueueState) (job : Job) (d' : DeviceState)
    → GivesFrom false (if b then queue else None) d (Ok (Some job)) d' → b ≡ true
did_where true d queue job d' gives = refl
did_where false d queue job d' gives = absurd (let no = gives.0 in cc)

did_from : (stopped : Bool) (d : DeviceState) (job : Job) (d' : DeviceState)
    → GivesFrom stopped (live_queue d) d (Ok (Some job)) d' → d.registers.status.driver_ok ≡ true
did_from true d job d' gives = absurd (let no = gives.0 in cc)
did_from false d job d' gives = did_where d.registers.status.driver_ok d d.queue job d' gives

did_of : (d : DeviceState) (popped : Result (Option Job) DeviceFault) (device : DeviceState)
    → GivesJob d popped device → Ok Did ≡ pop_answer popped → d.registers.status.driver_ok ≡ true
did_of d (Ok None) device gives is = absurd (let no = is in cc)
did_of d (Ok (Some job)) device gives is = did_from (is_stopped d) d job device gives
did_of d (Err e) device gives is = absurd (let no = is in cc)

-- and where none is found the registers stay
none_where : (b : Bool) (d : DeviceState) (queue : Option QueueState) (d' : DeviceState)
    → GivesFrom false (if b then queue else None) d (Ok None) d' → d'.registers ≡ d.registers
none_where true d None d' gives = ap (λ (x : DeviceState). x.registers) gives.1
none_where true d (Some q) d' gives = ap (λ (x : DeviceState). x.registers) gives.after
none_where false d queue d' gives = ap (λ (x : DeviceState). x.registers) gives.1

none_from : (stopped : Bool) (d d' : DeviceState) → GivesFrom stopped (live_queue d) d (Ok None) d'
    → d'.registers ≡ d.registers
none_from true d d' gives = ap (λ (x : DeviceState). x.registers) gives.1
none_from false d d' gives = none_where d.registers.status.driver_ok d d.queue d' gives

live_in : (v : Bool) (o : Option AskingState) (x : DeviceState) → option_map device_in o ≡ Some x
    → IfSome o (λ d. d.device.registers.status.driver_ok ≡ v)
    → x.registers.status.driver_ok ≡ v
live_in v None x is live = absurd (let no = is in cc)
live_in v (Some d) x is live =
    let same : d.device ≡ x = (let all = is in cc) in
    subst (λ (y : DeviceState). y.registers.status.driver_ok ≡ v) same live

module _ (guest : ℕ) (old new : Boards) (d : AskingState)
    (its : slice_get old.devices guest ≡ Some d)
    (empty : slice_get old.rest.jobs guest ≡ Some None) where
  its_device : slice_get (board_of old).devices guest ≡ Some d.device
  its_device = slice_get-map device_in old.devices guest ∙ ap (option_map device_in) its

  pops_into : (answer : Answer) → Makes (step.Pop guest) answer old new
      → PopsInto guest (Some None) (Some d.device) answer (board_of old) (board_of new)
  pops_into answer makes =
      subst (λ o. PopsInto guest (Some None) o answer (board_of old) (board_of new)) its_device
      (subst (λ p. PopsInto guest p (slice_get (board_of old).devices guest) answer (board_of old)
      (board_of new)) empty makes.steps.does)

  pub popped_live : Makes (step.Pop guest) (Ok Did) old new
      → d.device.registers.status.driver_ok ≡ true
  popped_live makes =
      let pops = pops_into (Ok Did) makes in
      did_of d.device pops.popped pops.device pops.gives pops.answers

  pub looked_live : (v : Bool) → Makes (step.Pop guest) (Ok Nothing) old new
      → IfSome (slice_get new.devices guest) (λ x. x.device.registers.status.driver_ok ≡ v)
      → d.device.registers.status.driver_ok ≡ v
  looked_live v makes live =
      let pops = pops_into (Ok Nothing) makes in
      let found = none_of guest (board_of old) (board_of new) d.device pops.popped pops.device
      pops.gives pops.answers its_device pops.after in
      sym (ap (λ r. r.status.driver_ok)
      (none_from (is_stopped d.device) d.device found.0 found.2))
      ∙ live_in v (slice_get new.devices guest) found.0
      (sym (slice_get-map device_in new.devices guest) ∙ found.1) live

-- the guest's place for a job is there, and empty
pub empty_place : (guest : ℕ) (old : Boards) → IsSound outbox_state (board_of old)
    → guest < length old.devices → HasNoJob guest old.rest
    → slice_get old.rest.jobs guest ≡ Some None
empty_place guest old sound below no_job =
    let many = sound.linked.places.devices in
    let jobs = sound.linked.places.jobs in
    let long = length-map old.devices (λ (a : AskingState). a.device) in
    let job = some_at old.rest.jobs guest (omega (arith, below, many, jobs, long)) in
    job.1 ∙ ap Some (ap in_place (sym job.1) ∙ no_job)

pub found_none : (guest : ℕ) (old new : Boards) → IsSound outbox_state (board_of old)
    → guest < length old.devices → HasNoJob guest old.rest
    → Makes (step.Pop guest) (Ok Nothing) old new → FindsNone guest new × HasNoJob guest new.rest
found_none guest old new sound below no_job makes =
    let b = board_of old in
    let long = length-map old.devices (λ (a : AskingState). a.device) in
    let dev = some_at b.devices guest (omega (arith, below, long)) in
    let empty = empty_place guest old sound below no_job in
    let pops = subst (λ o. PopsInto guest (Some None) o (Ok Nothing) b (board_of new)) dev.1
    (subst (λ p. PopsInto guest p (slice_get b.devices guest) (Ok Nothing) b (board_of new)) empty
    makes.steps.does) in
    let found = none_of guest b (board_of new) dev.0 pops.popped pops.device pops.gives pops.answers
    dev.1 pops.after in (
      record { device = found.0; its = found.1; before = dev.0; none = found.2 },
      ap (λ js. in_place (slice_get js guest)) found.3 ∙ no_job,
    )
