-- What one turn of a guest's worker does to what it keeps to itself.
use Rattle.std.specs.Prelude.{◌≡◌, ℕ, ◌+◌, Bool, true, false, List, [], ◌∷◌, ◌++◌, length}
use Rattle.std.specs.Prelude.{Option, Some, None, is_some, Result, Ok, Err}
use Rattle.std.specs.Option.{option_to_list}
use Rattle.mmio_transport.specs.Job.{Job, Done}
use Rattle.mmio_transport.specs.declared.fault.DeviceFault.{DeviceFault}
use Rattle.mmio_transport.specs.declared.fault.DeviceFault.TheVariants.{Refused, NoMemory}
use Rattle.mmio_transport.specs.declared.fault.DeviceFault.TheVariants.{NeedsReset}
use Rattle.mmio_transport.specs.declared.done.Published.{Published}
use Rattle.mmio_transport.specs.Device.{DeviceState}
use Rattle.mmio_transport.specs.Publishing.{Publishes}
use Rattle.rpmb_book.specs.Book.{BookView, due_of, after_collect}
use Rattle.workers.specs.declared.backlog.Handed.{Handed}
use Rattle.workers.specs.declared.backlog.Handed.TheVariants.{Answered, Nothing, Busy, Full}
use Rattle.workers.specs.declared.seat.Next.{Next}
use Rattle.workers.specs.declared.seat.Next.TheVariants.{Again, Rest, End}

-- A line of jobs, or of replies: what lay there, and so many that came behind it, are so many that
-- went from its front, and what lies there now.
pub record Flows {A : Type 0} (old : List A) (came went : ℕ) (new : List A) : Type 0 where
  pub added : List A
  pub gone : List A
  pub all : old ++ added ≡ gone ++ new
  pub as_many_came : length added ≡ came
  pub as_many_went : length gone ≡ went

-- What a worker takes of the answer to a pop: the job waits behind the others. That the device
-- stopped is the driver's to tell, and a want of memory is a fault.
abbrev pub Takes : List Job → Result (Option Job) DeviceFault → Bool → List Job → Type 0
Takes old (Ok (Some job)) popped new = (popped ≡ true) × (new ≡ old ++ job ∷ [])
Takes old (Ok None) popped new = (popped ≡ false) × (new ≡ old)
Takes old (Err (Refused fault)) popped new = (popped ≡ false) × (new ≡ old)
Takes old (Err NeedsReset) popped new = (popped ≡ false) × (new ≡ old)
Takes old (Err NoMemory) popped new = ⊥

-- The first reply of a line is handed to the device, where there is one.
abbrev pub HandsOver : List Done → DeviceState → Bool → DeviceState → Type 0
HandsOver [] d handed d' = (handed ≡ false) × (d' ≡ d)
HandsOver (done ∷ dones) d handed d' =
    (handed ≡ true) × ((result : Published) × Publishes d done result d')

-- how many jobs the book answered then
abbrev pub answered_of : Handed → ℕ
answered_of Answered = 1
answered_of Nothing = 0
answered_of Busy = 0
answered_of Full = 0

-- a look for a reply that may leave: what the book lets go of this guest waits behind the others
pub record Collects (b : BookView) (guest : ℕ) (old : List Done) (collected : Bool) (b' : BookView)
    (new : List Done) : Type 0 where
  pub is : collected ≡ is_some (due_of b guest)
  pub book : b' ≡ after_collect b guest
  pub replies : new ≡ old ++ option_to_list (due_of b guest)

-- A worker that rests or ends did nothing, and one that ends has neither a job nor a reply.
abbrev pub IsNext : Next → (popped answered collected published : ℕ) → List Job → List Done → Type 0
IsNext Again popped answered collected published jobs dones = Unit {0}
IsNext Rest popped answered collected published jobs dones =
    (popped ≡ 0) × (answered ≡ 0) × (collected ≡ 0) × (published ≡ 0)
IsNext End popped answered collected published jobs dones =
    (popped ≡ 0) × (answered ≡ 0) × (collected ≡ 0) × (published ≡ 0) × (jobs ≡ []) × (dones ≡ [])

-- One turn of a worker. No job is lost: each that it had or popped was answered, the oldest first,
-- or lies there still. No reply is: each that it had or collected was handed to its device, the
-- oldest first, or lies there still.
pub record Works (next : Next) (count : ℕ) (jobs : List Job) (dones : List Done)
    (count' : ℕ) (jobs' : List Job) (dones' : List Done) : Type 0 where
  pub popped : ℕ
  pub answered : ℕ
  pub collected : ℕ
  pub published : ℕ
  pub of_jobs : Flows jobs popped answered jobs'
  pub of_replies : Flows dones collected published dones'
  pub counted : count' ≡ count + answered
  pub is : IsNext next popped answered collected published jobs' dones'
