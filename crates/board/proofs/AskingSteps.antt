-- Steps of a board whose devices ask, seen as a board.
use Rattle.std.proofs.Common.{◌≡◌, ◌≤◌, ◌<◌, ◌+◌, ℕ, zero, suc, List, [], ◌∷◌, Option, Some, None}
use Rattle.std.proofs.Common.{Result, Ok, Err, length, map, refl, ap, sym, subst, ◌∙◌}
use Rattle.std.proofs.Common.{length-set, IfSome}
use Rattle.board.proofs.Common.{slice_get, slice_set, slice_get-map, DiskCall, DiskState, Effect}
use Rattle.board.proofs.Common.{DeviceState, Job, Done, BoardState, Answer, PopsInto, job_of, put}
use Rattle.board.proofs.Common.{IsSound, in_place, option_map, length-map, Does}
use Rattle.board.proofs.Common.{Step, slice_index_or, slice_get-get_or, GuestConfig}
use Rattle.board.proofs.Common.{Begins, bases_of, parts_of}
use Rattle.board.specs.Board.{IsKnown}
use Rattle.mmio_transport.specs.Asking.{AskingState, GivesOrAsks, HasRoomIn, PublishesAsked}
use Rattle.mmio_transport.specs.Asking.{SeesFor}
use Rattle.mmio_transport.specs.Publishing.{IsDueIn}
use Rattle.mmio_transport.specs.Job.{room_in}
use Rattle.mmio_transport.specs.Popping.{GivesJob}
use Rattle.mmio_transport.specs.declared.done.Published.{Published}
use Rattle.mmio_transport.specs.declared.fault.DeviceFault.{DeviceFault}
use Rattle.mmio_transport.specs.declared.fault.PopFault.{PopFault}
use Rattle.mmio_transport.specs.declared.fault.PopFault.TheVariants.{Missing, Refused}
use Rattle.board.specs.Asking.{AskingBoardState, StepsAsked, HandsReply, PopsAsked, board_of}
use Rattle.board.specs.Asking.{SeesAs, SeesBy, first_asked, knowledge}
use Rattle.board.specs.declared.step.Seen.TheVariants.{Nothing}
use Rattle.board.specs.declared.step.StepFault.TheVariants as fault
use Rattle.board.specs.Steps.{pop_answer}
use Rattle.board.specs.Moving.{Moves}
use Rattle.board.specs.State.{with_devices}
use Rattle.board.specs.declared.step.Step.TheVariants as step
use Rattle.board.proofs.Doing.{set_same, full_at}
use Rattle.board.proofs.Lifting.{IsOfRest, rest_steps}
use Rattle.board.proofs.Moving.{made, left_moves, sound_moved, still_moves}
use Rattle.board.specs.Opening.{begun}

-- one element is another
pub map-set : {X Y : Type 0} (f : X → Y) (xs : List X) (k : ℕ) (x : X)
    → map f (slice_set xs k x) ≡ slice_set (map f xs) k (f x)
map-set f [] zero x = refl
map-set f [] (suc k) x = refl
map-set f (y ∷ ys) zero x = refl
map-set f (y ∷ ys) (suc k) x = ap (λ l. f y ∷ l) (map-set f ys k x)

get_mapped : {X Y : Type 0} (f : X → Y) (xs : List X) (k : ℕ) (x : X) → slice_get xs k ≡ Some x
    → slice_get (map f xs) k ≡ Some (f x)
get_mapped f xs k x at = slice_get-map f xs k ∙ ap (option_map f) at

-- of which a mapping sees nothing
pub unseen : {X Y : Type 0} (f : X → Y) (xs : List X) (k : ℕ) (x x' : X)
    → slice_get xs k ≡ Some x → f x' ≡ f x → map f (slice_set xs k x') ≡ map f xs
unseen f xs k x x' at same =
    map-set f xs k x' ∙ ap (slice_set (map f xs) k) same
    ∙ set_same (map f xs) k (f x) (get_mapped f xs k x at)

abbrev pub device_in : AskingState → DeviceState
device_in a = a.device

-- a device that was moved, and the rest, as a board
moved_board : {D : Type 0} (ds : List AskingState) (g : ℕ) (a' : AskingState) (rest : BoardState D)
    → with_devices (map device_in (slice_set ds g a')) rest
    ≡ with_devices (slice_set (map device_in ds) g a'.device) rest
moved_board ds g a' rest = ap (λ l. with_devices l rest) (map-set device_in ds g a')

-- in a step of the rest no device looks for a chain
rest_sees : {D : Type 0} (s : Step) → IsOfRest s → (answer : Answer) (b : AskingBoardState D)
    → SeesAs s answer b
rest_sees (step.Drive g act) is answer b = tt
rest_sees (step.Pop g) is answer b = absurd is
rest_sees (step.Submit g) is answer b = tt
rest_sees (step.Collect g) is answer b = tt
rest_sees (step.Publish g) is answer b = tt
rest_sees (step.Take g) is answer b = tt
rest_sees (step.Give g) is answer b = tt
rest_sees step.Advance is answer b = tt
rest_sees step.Settle is answer b = tt

-- these devices and the rest
abbrev pub asked : {D : Type 0} → List AskingState → BoardState D → AskingBoardState D
asked ds rest = record { devices = ds; rest = rest }

module _ {D : Type 0} (shows : D → DiskState) (makes : D → DiskCall → D → Type 0)
    (effect : (a b : D) (call : DiskCall) → makes a call b → Effect (shows a) call (shows b))
    (b : AskingBoardState D) (sound : IsSound shows (board_of b))
    (known : IsKnown b.rest.book) where
  -- any step that leaves the copies
  pub steps_asked : (s : Step) (answer : Answer) (new : AskingBoardState D)
      → Does shows makes s answer (board_of b) (board_of new)
      → map knowledge new.devices ≡ map knowledge b.devices → SeesAs s answer b
      → StepsAsked shows makes s answer b new
  steps_asked s answer new does held sees = record {
    steps = made shows makes effect s answer (board_of b) (board_of b) (board_of new) refl sound
        known does;
    held = held;
    sees = sees;
  }

  -- one in which no device takes part, as a contract sees the board that it began with
  pub rest_asked : (s : Step) → IsOfRest s → (answer : Answer) (rest' : BoardState D)
      → Does shows makes s answer b.rest rest' → (seen : AskingBoardState D) → b ≡ seen
      → StepsAsked shows makes s answer seen (asked b.devices rest')
  rest_asked s is answer rest' does seen same = subst (λ v. StepsAsked shows makes s answer v
      (asked b.devices rest')) same
      (record {
        steps = rest_steps shows makes effect (map device_in b.devices) b.rest sound known s is
            answer rest' does (board_of b) refl;
        held = refl;
        sees = rest_sees s is answer b;
      })

  -- a pop of a device
  pub pop_steps : (g : ℕ) (a a' : AskingState) (popped : Result (Option Job) DeviceFault)
      (answer : Answer) (jobs' : List (Option Job))
      → slice_get b.rest.jobs g ≡ Some None → slice_get b.devices g ≡ Some a
      → GivesJob a.device popped a'.device → a' ≡ record a { device = a'.device }
      → answer ≡ pop_answer popped → jobs' ≡ put b.rest.jobs g (job_of popped)
      → SeesBy answer a
      → StepsAsked shows makes (step.Pop g) answer b
      (record { devices = slice_set b.devices g a'; rest = record b.rest { jobs = jobs' } })
  pop_steps g a a' popped answer jobs' empty at gives same is jobs sees =
      steps_asked (step.Pop g) answer
      (record { devices = slice_set b.devices g a'; rest = record b.rest { jobs = jobs' } })
      (subst (λ p. PopsInto g p (slice_get (map device_in b.devices) g) answer (board_of b) new)
      (sym empty)
      (subst (λ o. PopsInto g (Some None) o answer (board_of b) new)
      (sym (get_mapped device_in b.devices g a at))
      (record {
        popped = popped;
        device = a'.device;
        gives = gives;
        answers = is;
        after = moved_board b.devices g a' (record b.rest { jobs = jobs' })
            ∙ ap (λ js. with_devices (slice_set (map device_in b.devices) g a'.device)
            (record b.rest { jobs = js })) jobs;
      })))
      (unseen knowledge b.devices g a a' at (ap knowledge same))
      (λ place. subst (λ o. IfSome o (SeesBy answer)) (sym at) sees)
    where
      new : BoardState D
      new = with_devices (map device_in (slice_set b.devices g a'))
          (record b.rest { jobs = jobs' })

  -- a reply that was handed to its device
  pub hands : (g : ℕ) (a a' : AskingState) (done : Done) (published : Published)
      (dones' : List (Option Done))
      → in_place (slice_get b.rest.dones g) ≡ Some done → slice_get b.devices g ≡ Some a
      → PublishesAsked a done published a' → length done.reply ≤ room_in done.writable
      → (IsDueIn a.device.queue a.device done → HasRoomIn a.device.queue a done)
      → dones' ≡ slice_set b.rest.dones g None
      → HandsReply shows makes g published b
      (record { devices = slice_set b.devices g a'; rest = record b.rest { dones = dones' } })
  hands g a a' done published dones' lay at publishes fits room left = record {
    device = a;
    its = at;
    done = done;
    lay = lay;
    device' = a';
    publishes = publishes;
    room = room;
    fits = fits;
    after = ap (λ ds. (let v : AskingBoardState D = record {
      devices = slice_set b.devices g a';
      rest = record b.rest { dones = ds };
    } in v)) left;
    moves = subst (λ v. Moves shows makes (board_of b) v)
        (ap (λ ds. with_devices (map device_in (slice_set b.devices g a'))
        (record b.rest { dones = ds })) (sym left))
        (left_moves shows makes (board_of b) g done (map device_in (slice_set b.devices g a'))
        (full_at (slice_get b.rest.dones g) done (sym lay))
        (length-map (slice_set b.devices g a') device_in ∙ length-set b.devices g a'
        ∙ sym (length-map b.devices device_in)));
  }

  -- a pop that finds its place full, or not there, or no device
  pub pop_idle : (g : ℕ) → (slice_get b.rest.jobs g ≡ Some None → ⊥)
      → StepsAsked shows makes (step.Pop g) (Ok Nothing) b b
  pop_idle g full =
      steps_asked (step.Pop g) (Ok Nothing) b
      (by (slice_get b.rest.jobs g) (slice_get (map device_in b.devices) g) full) refl
      (λ empty. absurd (full empty))
    where
      by : (place : Option (Option Job)) (o : Option DeviceState) → (place ≡ Some None → ⊥)
          → PopsInto g place o (Ok Nothing) (board_of b) (board_of b)
      by None o full = (refl, refl)
      by (Some (Some job)) o full = (refl, refl)
      by (Some None) o full = absurd (full refl)

  pub pop_absent : (g : ℕ) → slice_get b.devices g ≡ None
      → StepsAsked shows makes (step.Pop g) (Ok Nothing) b b
  pop_absent g none =
      steps_asked (step.Pop g) (Ok Nothing) b
      (subst (λ o. PopsInto g (slice_get b.rest.jobs g) o (Ok Nothing) (board_of b) (board_of b))
      (sym (slice_get-map device_in b.devices g ∙ ap (option_map device_in) none))
      (by (slice_get b.rest.jobs g))) refl
      (λ place. subst (λ o. IfSome o (SeesBy (Ok Nothing))) (sym none) tt)
    where
      by : (place : Option (Option Job))
          → PopsInto g place None (Ok Nothing) (board_of b) (board_of b)
      by None = (refl, refl)
      by (Some (Some job)) = (refl, refl)
      by (Some None) = (refl, refl)

  -- one that is refused, or asks
  pub pop_refused : (g : ℕ) (a a' : AskingState) (why : PopFault)
      → slice_get b.rest.jobs g ≡ Some None → slice_get b.devices g ≡ Some a
      → GivesOrAsks a (Err why) a' → SeesFor {X = Option Job} a (Err why)
      → PopsAsked shows makes g (Err why) b (asked (slice_set b.devices g a') b.rest)
  pop_refused g a a' (Refused e) empty at gives sees =
      pop_steps g a a' (Err e) (Err (fault.Device e)) b.rest.jobs empty at gives.step gives.same
      refl refl sees
  pop_refused g a a' (Missing ask) empty at gives sees = record {
    device = a;
    its = at;
    asks = gives.missing;
    needed = gives.needed;
    same = ap (λ ds. asked ds b.rest)
        (ap (slice_set b.devices g) gives.same ∙ set_same b.devices g a at);
  }

-- a device that is lent is that of its place
pub lent : (ds : List AskingState) (at : ℕ) (a : AskingState) → at < length ds
    → a ≡ slice_index_or ds at a → slice_get ds at ≡ Some a
lent ds at a below read = slice_get-get_or ds at a below ∙ ap Some (sym read)

-- the device and the reply that were looked at are those that are written
pub room_of : (ds : List AskingState) (at : ℕ) (a a' : AskingState) (place : Option Done)
    (done done' : Done) → slice_get ds at ≡ Some a → slice_get ds at ≡ Some a'
    → place ≡ Some done → place ≡ Some done'
    → (IsDueIn a.device.queue a.device done → HasRoomIn a.device.queue a done)
    → IsDueIn a'.device.queue a'.device done' → HasRoomIn a'.device.queue a' done'
room_of ds at a a' place done done' first second lay lay' =
    let same : a ≡ a' = (let p = first in let q = second in cc) in
    let one : done ≡ done' = (let p = lay in let q = lay' in cc) in
    λ room. subst (λ d. IsDueIn a'.device.queue a'.device d → HasRoomIn a'.device.queue a' d) one
    (subst (λ (v : AskingState). IsDueIn v.device.queue v.device done
    → HasRoomIn v.device.queue v done) same room)

first_asked_count : (n : ℕ) (cs : List GuestConfig) → length (first_asked n cs) ≡ length cs
first_asked_count n [] = refl
first_asked_count n (c ∷ cs) = ap suc (first_asked_count (n + 1) cs)

-- a board that was opened, with devices of its own
pub asked_sound : {D : Type 0} (shows : D → DiskState) (makes : D → DiskCall → D → Type 0)
    (life : ℕ) (config devices : List GuestConfig) (rest : BoardState D)
    → length devices ≡ length config → Begins shows life config (begun config rest)
    → IsSound shows (with_devices (map device_in (first_asked 0 devices)) rest)
asked_sound shows makes life config devices rest many begins =
    let b = begun config rest in
    let ds = map device_in (first_asked 0 devices) in
    sound_moved shows makes b (with_devices ds rest)
    (record {
      config = config;
      bases = bases_of begins.partitions;
      accepted = λ g. [];
      parts = parts_of begins.partitions;
      linked = begins.linked;
    })
    (still_moves shows makes b ds b.jobs
    (length-map (first_asked 0 devices) device_in ∙ first_asked_count 0 devices ∙ many
    ∙ sym begins.linked.places.devices) refl)
