-- A world: a board over a disk that can fail and be cut, through steps, stops and openings; and
-- what was accepted and published over all its lives.
use Rattle.std.specs.Prelude.{◌≡◌, ◌⊎◌, ℕ, zero, suc, ◌+◌, ◌^◌, ◌-◌, ◌<◌, ◌==◌, if◌then◌else◌, List}
use Rattle.std.specs.Prelude.{[], ◌∷◌, ◌++◌, length, slice_get, option_map, nat_lt, ◌&&◌, Bool}
use Rattle.std.specs.Prelude.{true, false, Result, Option, Some, None, Ok, Err}
use Rattle.std.specs.Option.{option_or}
use Rattle.rpmb_frame.specs.Request.{Request}
use Rattle.rpmb_frame.specs.Partition.{Partition}
use Rattle.rpmb_frame.specs.declared.config.GuestConfig.{GuestConfig}
use Rattle.disk.specs.Content.{content_of}
use Rattle.disk.specs.CutDisk.{CutMakes, CutState, Stops, cut_state}
use Rattle.disk.specs.Disk.{HasRisen, MayLeave}
use Rattle.disk.specs.declared.filler.Filler.{Filler}
use Rattle.flusher.specs.declared.progress.Call.{Call}
use Rattle.flusher.specs.declared.progress.Call.TheVariants as call
use Rattle.flusher.specs.Store.{next_call}
use Rattle.mmio_transport.specs.Job.{Job, Done}
use Rattle.mmio_transport.specs.declared.done.Published.TheVariants.{Wrote, Dropped}
use Rattle.mmio_transport.specs.declared.fault.DeviceFault.TheVariants as device_fault
use Rattle.intent_slots.specs.Layout.{capacities_of}
use Rattle.recovery.specs.Opening.{AnswersFault, IsAtRest, Untouched}
use Rattle.recovery.specs.Reading.{is_disk}
use Rattle.recovery.specs.Upgrade.{AnswersUpgrade, CountsFailures, LeavesAsBefore, UpgradeCalls}
use Rattle.recovery.specs.declared.upgrading.Upgraded.{Upgraded}
use Rattle.recovery.specs.declared.fault.OpenFault.{OpenFault}
use Rattle.recovery.specs.declared.fault.OpenFault.TheVariants as open_fault
use Rattle.rpmb_book.specs.Book.{state}
use Rattle.rpmb_book.specs.Sound.{AreOfBoard, IsSound}
use Rattle.rpmb_book.specs.declared.refused.Refused.TheVariants as refused
use Rattle.world.specs.declared.event.Event.{Event}
use Rattle.world.specs.declared.event.Event.TheVariants as event
use Rattle.world.specs.declared.event.Refusal.{Refusal}
use Rattle.world.specs.declared.event.Refusal.TheVariants as refusal
use Rattle.world.specs.declared.home.Home.{Home}
use Rattle.world.specs.declared.home.Home.TheVariants.{Up, Down}
use Rattle.world.specs.declared.log.Pop.{Pop}
use Rattle.world.specs.declared.log.Publication.{Publication}
use Rattle.board.specs.Telling.{choosing_call}
use Rattle.board.specs.declared.step.Step.{Step}
use Rattle.board.specs.declared.step.Step.TheVariants as step
use Rattle.board.specs.declared.step.Seen.TheVariants as seen
use Rattle.board.specs.declared.step.StepFault.TheVariants as fault
use Rattle.board.specs.State.{BoardState, HasJob, guests, in_place}
use Rattle.board.specs.Steps.{Advances, Answer, Does}
use Rattle.board.specs.Board.{LeavesPrefixes, accepted_after}
use Rattle.board.specs.Opening.{AreRequests, Begins, Calls, CallsRefused, GoesOn, Stands, bases_of}
use Rattle.board.specs.Opening.{kept_of}

pub record WorldState : Type 0 where
  pub config : List GuestConfig
  -- a board in its life; or the disk alone, before the first opening or after one that was refused
  pub home : Home
  -- of each guest: the partition that the first opening gave, what was accepted since, what was
  -- published, and what was popped
  pub bases : ℕ → Partition
  pub accepted : ℕ → List Request
  pub published : ℕ → List Publication
  pub popped : ℕ → List Pop
  -- how many openings succeeded, as far as 64 bits count them
  pub openings : ℕ

-- one more, where 64 bits hold it
unfoldable pub raised : ℕ → ℕ
raised n = if n == 2 ^ 64 - 1 then n else n + 1

-- a guest's partition in an open world
abbrev pub partition_in : Home → ℕ → Option Partition
partition_in (Up b) g = option_map (λ x. x.core.partition) (slice_get (guests b) g)
partition_in (Down d) g = None

-- a guest's base in a world that was opened
abbrev pub base_in : WorldState → ℕ → Option Partition
base_in w g = if nat_lt 0 w.openings && nat_lt g (length w.config) then Some (w.bases g) else None

abbrev pub disk_of : Home → CutState
disk_of (Up b) = b.store.disk
disk_of (Down d) = d

-- 1. Steps

-- the pop of a job in this life, and that of the job to which a reply belongs
abbrev pub pop_of : ℕ → Job → Pop
pop_of life job =
    record { life = life; session = job.session; readiness = job.readiness; number = job.number }

abbrev pub pop_of_reply : ℕ → Done → Pop
pop_of_reply life done = record {
  life = life;
  session = done.session;
  readiness = done.readiness;
  number = done.number;
}

abbrev pub with_pop : ℕ → Option Job → List Pop → List Pop
with_pop life None list = list
with_pop life (Some job) list = list ++ pop_of life job ∷ []

-- what was popped once a step has left this board
abbrev pub popped_after : {D : Type 0} → ℕ → Step → Answer → BoardState D → (ℕ → List Pop) → ℕ
    → List Pop
popped_after life (step.Pop n) (Ok seen.Did) b popped g =
    if g == n then with_pop life (in_place (slice_get b.jobs n)) (popped g) else popped g
popped_after life (step.Pop n) (Ok seen.Nothing) b popped g = popped g
popped_after life (step.Pop n) (Ok (seen.Value v)) b popped g = popped g
popped_after life (step.Pop n) (Ok (seen.Published p)) b popped g = popped g
popped_after life (step.Pop n) (Err e) b popped g = popped g
popped_after life (step.Drive n act) answer b popped g = popped g
popped_after life (step.Submit n) answer b popped g = popped g
popped_after life (step.Collect n) answer b popped g = popped g
popped_after life (step.Publish n) answer b popped g = popped g
popped_after life (step.Take n) answer b popped g = popped g
popped_after life (step.Give n) answer b popped g = popped g
popped_after life step.Advance answer b popped g = popped g
popped_after life step.Settle answer b popped g = popped g

abbrev pub publication_of : ℕ → Done → Publication
publication_of life done =
    record {
      id = done.id;
      length = length done.reply;
      need = done.need;
      pop = pop_of_reply life done;
    }

abbrev pub with_publication : ℕ → Option Done → List Publication → List Publication
with_publication life None list = list
with_publication life (Some done) list = list ++ publication_of life done ∷ []

abbrev pub published_after : {D : Type 0} → ℕ → Step → Answer → BoardState D
    → (ℕ → List Publication) → ℕ → List Publication
published_after life (step.Publish n) (Ok (seen.Published (Wrote notify))) b published g =
    if g == n then with_publication life (in_place (slice_get b.dones n)) (published g)
    else published g
published_after life (step.Publish n) (Ok (seen.Published Dropped)) b published g = published g
published_after life (step.Publish n) (Ok (seen.Value v)) b published g = published g
published_after life (step.Publish n) (Ok seen.Did) b published g = published g
published_after life (step.Publish n) (Ok seen.Nothing) b published g = published g
published_after life (step.Publish n) (Err e) b published g = published g
published_after life (step.Drive n act) answer b published g = published g
published_after life (step.Pop n) answer b published g = published g
published_after life (step.Submit n) answer b published g = published g
published_after life (step.Collect n) answer b published g = published g
published_after life (step.Take n) answer b published g = published g
published_after life (step.Give n) answer b published g = published g
published_after life step.Advance answer b published g = published g
published_after life step.Settle answer b published g = published g

-- what is told of a step
abbrev pub refusal_of : Answer → Option Refusal
refusal_of (Ok seen) = None
refusal_of (Err e) = Some (refusal.Step e)

-- the step, and what is noted of it
pub record StepsIn (s : Step) (b : BoardState CutState) (old : WorldState) (told : Option Refusal)
    (new : WorldState) : Type 0 where
  -- what always holds of the book
  pub sound : IsSound (state b.book)
  pub of_board : AreOfBoard (state b.book)
  pub answer : Answer
  pub board : BoardState CutState
  pub does : Does cut_state CutMakes s answer b board
  pub tells : told ≡ refusal_of answer
  pub after : new ≡ record old {
    home = Up board;
    accepted = accepted_after s answer b old.accepted;
    published = published_after old.openings s answer b old.published;
    popped = popped_after old.openings s answer board old.popped;
  }

-- guest n is there, and no job of it lies between two steps
abbrev pub HasEmptyPlace : {D : Type 0} → ℕ → BoardState D → Type 0
HasEmptyPlace n b = slice_get b.jobs n ≡ Some None

-- A Pop into an empty place, or a Submit of a job, is refused where there is no memory for what is
-- noted of it, and then nothing changes. No other step is.
abbrev pub LacksRoom : Step → BoardState CutState → WorldState → Option Refusal → WorldState
    → Type 0
LacksRoom (step.Submit n) b old told new = HasJob n b
    × (told ≡ Some (refusal.Step (fault.Book refused.NoMemory))) × (new ≡ old)
LacksRoom (step.Drive n act) b old told new = ⊥
LacksRoom (step.Pop n) b old told new = HasEmptyPlace n b
    × (told ≡ Some (refusal.Step (fault.Device device_fault.NoMemory))) × (new ≡ old)
LacksRoom (step.Collect n) b old told new = ⊥
LacksRoom (step.Publish n) b old told new = ⊥
LacksRoom (step.Take n) b old told new = ⊥
LacksRoom (step.Give n) b old told new = ⊥
LacksRoom step.Advance b old told new = ⊥
LacksRoom step.Settle b old told new = ⊥

-- A step of a closed world is nothing.
abbrev pub StepsAt : Step → Home → WorldState → Option Refusal → WorldState → Type 0
StepsAt s (Up b) old told new = StepsIn s b old told new ⊎ LacksRoom s b old told new
StepsAt s (Down d) old told new = (told ≡ None) × (new ≡ old)

abbrev pub choosing : ℕ → Home → Home
choosing k (Up b) = Up (choosing_call k b)
choosing k (Down d) = Down (record d { chosen = k })

-- 2. Stops

-- the disk is cut
pub record CutsTo (filler : Filler) (d left : CutState) : Type 0 where
  pub stops : Stops filler d left
  pub leaves : MayLeave (cut_state d) (content_of left.seen)

-- within the next advance: a write has been made, or has failed; a sync has done nothing
pub record CutIn (b : BoardState CutState) (filler : Filler) (left : CutState) : Type 0 where
  pub answer : Answer
  pub after : BoardState CutState
  pub advances : Advances cut_state CutMakes answer b after
  pub cuts : CutsTo filler after.store.disk left

abbrev pub CutBy : Call → BoardState CutState → Filler → CutState → Type 0
CutBy call.Write b filler left = CutIn b filler left
CutBy call.Sync b filler left = CutsTo filler b.store.disk left
CutBy call.None b filler left = CutsTo filler b.store.disk left

abbrev pub CutWithin : Home → Filler → CutState → Type 0
CutWithin (Up b) filler left = CutBy (next_call b.store.broken b.store.guests) b filler left
CutWithin (Down d) filler left = CutsTo filler d left

-- 3. Openings

-- the first opening gives the bases; each later one cuts what was accepted to what the partition
-- counts
abbrev pub opened_world : ℕ → WorldState → BoardState CutState → List Partition → WorldState
opened_world zero old b partitions =
    record old {
      home = Up b;
      bases = bases_of partitions;
      accepted = λ g. [];
      openings = raised old.openings;
    }
opened_world (suc n) old b partitions =
    record old {
      home = Up b;
      accepted = kept_of old.bases old.accepted b;
      openings = raised old.openings;
    }

-- an opening that succeeded
pub record Opens (d : CutState) (old : WorldState) (told : Option Refusal)
    (new : WorldState) : Type 0 where
  pub tells : told ≡ None
  pub board : BoardState CutState
  pub begins : Begins cut_state (raised old.openings) old.config board
  pub goes_on : (bases : ℕ → Partition) (accepted : ℕ → List Request) (least : ℕ → ℕ)
      → ((g : ℕ) → g < length old.config → AreRequests old.config g (bases g) (accepted g))
      → LeavesPrefixes old.config bases accepted least (cut_state d)
      → GoesOn cut_state old.config bases accepted least board
  -- each guest's partition is what reads of the disk gave
  pub stand : Stands old.config (content_of d.seen) board
  pub calls : Calls CutMakes d (Ok board)
  -- none of them failed
  pub unfailed : board.store.disk.failures ≡ d.failures
  -- every stop leaves an image of the board then
  pub rest : IsAtRest (capacities_of old.config) (cut_state board.store.disk)
  pub after : new ≡ opened_world old.openings old board begins.partitions

-- one that was refused: every stop leaves what it could leave before, and DiskFault is told only
-- where a call failed
pub record Refuses (d : CutState) (old : WorldState) (told : Option Refusal)
    (new : WorldState) : Type 0 where
  pub fault : OpenFault
  pub tells : told ≡ Some (refusal.Open fault)
  pub disk : CutState
  pub untouched : Untouched (cut_state d) (cut_state disk)
  pub calls : CallsRefused CutMakes d disk fault
  pub cause : fault ≡ open_fault.DiskFault → HasRisen d.failures disk.failures
  pub unfailed : is_disk fault ≡ false → disk.failures ≡ d.failures
  -- and the others by what reads give
  pub reason : AnswersFault (capacities_of old.config) (length d.seen) (content_of d.seen) fault
  pub after : new ≡ record old { home = Down disk }

abbrev pub OpensOrNot : CutState → WorldState → Option Refusal → WorldState → Type 0
OpensOrNot d old told new = Opens d old told new ⊎ Refuses d old told new

-- 4. Upgrades

-- what is told of an upgrade
abbrev pub refusal_of_upgrade : Result Upgraded OpenFault → Option Refusal
refusal_of_upgrade (Ok done) = None
refusal_of_upgrade (Err e) = Some (refusal.Upgrade e)

-- an upgrade of the disk: its calls, by its answer, which is told, and is DiskFault exactly where
-- one of them failed; and each content that a stop then leaves has the header and the partitions of
-- one that a stop could leave before
pub record UpgradesDisk (config : List GuestConfig) (old : CutState) (said : Option Refusal)
    (new : CutState) : Type 0 where
  pub answer : Result Upgraded OpenFault
  pub calls : UpgradeCalls CutMakes (capacities_of config) old new answer
  pub answers : AnswersUpgrade (capacities_of config) (length old.seen) (content_of old.seen) answer
  pub failures : CountsFailures (cut_state old) (cut_state new) answer
  pub back : LeavesAsBefore (capacities_of config) (cut_state old) (cut_state new)
  pub tells : said ≡ refusal_of_upgrade answer

-- Whether an upgrade made its k-th call, which was to fail, by how many calls had failed before it
-- and after it. Where no further failure can be counted every call fails, so it made one alone.
abbrev pub is_met : (k before after : ℕ) → Bool
is_met k before after = if before == 2 ^ 64 - 1 then k == 1 else nat_lt before after

-- Where the chosen call was made, the disk is cut, and nobody is left to be told anything; else the
-- choice is taken back, and what the upgrade answered is told.
abbrev pub EndsUpgrade : Bool → Filler → CutState → (answered said : Option Refusal) → CutState
    → Type 0
EndsUpgrade true filler reached answered said left = CutsTo filler reached left × (said ≡ None)
EndsUpgrade false filler reached answered said left =
    (left ≡ record reached { chosen = 0 }) × (said ≡ answered)

pub record StopsUpgrade (config : List GuestConfig) (k : ℕ) (filler : Filler) (d : CutState)
    (said : Option Refusal) (left : CutState) : Type 0 where
  pub reached : CutState
  pub answered : Option Refusal
  pub upgrades : UpgradesDisk config (record d { chosen = k }) answered reached
  pub ends : EndsUpgrade (is_met k d.failures reached.failures) filler reached answered said left

abbrev pub UpgradesTo : List GuestConfig → Option (ℕ × Filler) → CutState → Option Refusal
    → CutState → Type 0
UpgradesTo config None d said left = UpgradesDisk config d said left
UpgradesTo config (Some stop) d said left = StopsUpgrade config stop.0 stop.1 d said left

-- an upgrade, and the opening that follows it: the first refusal of the two is told
pub record UpgradesAndOpens (old : WorldState) (stop : Option (ℕ × Filler))
    (told : Option Refusal) (new : WorldState) : Type 0 where
  pub left : CutState
  pub said : Option Refusal
  pub opened : Option Refusal
  pub upgrades : UpgradesTo old.config stop (disk_of old.home) said left
  pub opens : OpensOrNot left old opened new
  pub tells : told ≡ option_or said opened

-- 5. Events

abbrev pub Happens : WorldState → Event → Option Refusal → WorldState → Type 0
Happens old (event.Do s) told new = StepsAt s old.home old told new
Happens old (event.Fail k) told new =
    (told ≡ None) × (new ≡ record old { home = choosing k old.home })
Happens old (event.Stop filler) told new =
    (left : CutState) × CutsTo filler (disk_of old.home) left × OpensOrNot left old told new
Happens old (event.StopIn filler) told new =
    (left : CutState) × CutWithin old.home filler left × OpensOrNot left old told new
Happens old event.Open told new = OpensOrNot (disk_of old.home) old told new
Happens old (event.Upgrade stop) told new = UpgradesAndOpens old stop told new

-- The events in turn, each from the world that the one before it left, and the first refusal of
-- all.
pub record Starts (old : WorldState) (e : Event) (told rest : Option Refusal)
    (mid : WorldState) : Type 0 where
  pub one : Option Refusal
  pub happens : Happens old e one mid
  pub tells : told ≡ option_or one rest

-- a first event, and what its world goes on to
pub record StartsRun (old : WorldState) (e : Event) (told : Option Refusal)
    (Goes : WorldState → Option Refusal → Type 0) : Type 0 where
  pub mid : WorldState
  pub later : Option Refusal
  pub first : Starts old e told later mid
  pub rest : Goes mid later

abbrev pub Runs : WorldState → List Event → Option Refusal → WorldState → Type 0
Runs old [] told new = (told ≡ None) × (new ≡ old)
Runs old (e ∷ es) told new = StartsRun old e told (λ mid later. Runs mid es later new)
