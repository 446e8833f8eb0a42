-- With IN_ORDER a queue's replies are published in the order of its pops.
use Rattle.std.specs.Prelude.{◌≡◌, ◌⊎◌, ℕ, ◌≤◌, ◌<◌, ◌==◌, ◌&&◌, if◌then◌else◌, Bool, true, List}
use Rattle.std.specs.Prelude.{[], ◌∷◌, ◌++◌, map, slice_get, Option, Some}
use Rattle.disk.specs.CutDisk.{CutState}
use Rattle.mmio_transport.specs.Queue.{QueueState}
use Rattle.mmio_transport.specs.Device.{DeviceState, last_count}
use Rattle.board.specs.State.{BoardState}
use Rattle.world.specs.declared.event.Event.{Event}
use Rattle.world.specs.declared.event.Refusal.{Refusal}
use Rattle.world.specs.declared.home.Home.{Home}
use Rattle.world.specs.declared.home.Home.TheVariants.{Up, Down}
use Rattle.world.specs.declared.log.Pop.{Pop}
use Rattle.world.specs.declared.log.Publication.{Publication}
use Rattle.world.specs.World.{Runs, WorldState}

-- whether a pop was of the queue that was ready in this life, session and readiness
abbrev pub is_of : ℕ → ℕ → ℕ → Pop → Bool
is_of life session readiness p = p.life == life && p.session == session && p.readiness == readiness

-- the numbers of those pops, in their order
abbrev pub numbers_of : ℕ → ℕ → ℕ → List Pop → List ℕ
numbers_of life session readiness [] = []
numbers_of life session readiness (p ∷ ps) =
    if is_of life session readiness p then p.number ∷ numbers_of life session readiness ps
    else numbers_of life session readiness ps

-- the pops whose replies were published
abbrev pub pops_of : List Publication → List Pop
pops_of published = map (λ p. p.pop) published

-- The k-th reply that was published of this queue is that of its k-th pop.
abbrev pub AreInOrder : ℕ → ℕ → ℕ → List Pop → List Publication → Type 0
AreInOrder life session readiness popped published = (k n : ℕ)
    → slice_get (numbers_of life session readiness (pops_of published)) k ≡ Some n
    → slice_get (numbers_of life session readiness popped) k ≡ Some n

-- So it is of each queue that is ready with IN_ORDER, of each guest, at this moment. A life is
-- numbered by the openings, whose count stands at 2^64 - 1: from then on a number names several
-- lives.
abbrev pub IsInOrderAt : WorldState → Home → Type 0
IsInOrderAt w (Up b) =
    (g : ℕ) (d : DeviceState) (q : QueueState) → slice_get b.devices g ≡ Some d → d.queue ≡ Some q
    → q.ring.places.in_order ≡ true → w.openings < last_count → d.readiness < last_count
    → AreInOrder w.openings d.session d.readiness (w.popped g) (w.published g)
IsInOrderAt w (Down d) = Unit {0}

-- at each event of a run
abbrev pub AllInOrder : (old : WorldState) (es : List Event) (told : Option Refusal)
    (new : WorldState) → Runs old es told new → Type 0
AllInOrder old [] told new run = IsInOrderAt new new.home
AllInOrder old (e ∷ es) told new run =
    IsInOrderAt old old.home × AllInOrder run.mid es run.later new run.rest

-- a queue, by its guest and by when it was ready
pub record QueueName : Type 0 where
  pub guest : ℕ
  pub life : ℕ
  pub session : ℕ
  pub readiness : ℕ

-- it is ready now, with IN_ORDER
pub record IsReadyIn (n : QueueName) (w : WorldState) (b : BoardState CutState) : Type 0 where
  pub device : DeviceState
  pub queue : QueueState
  pub there : slice_get b.devices n.guest ≡ Some device
  pub ready : device.queue ≡ Some queue
  pub order : queue.ring.places.in_order ≡ true
  pub life : n.life ≡ w.openings
  pub session : n.session ≡ device.session
  pub readiness : n.readiness ≡ device.readiness
  -- no count stands at its end
  pub lives : n.life < last_count
  pub readied : n.readiness < last_count

abbrev pub IsReadyAt : QueueName → WorldState → Home → Type 0
IsReadyAt n w (Up b) = IsReadyIn n w b
IsReadyAt n w (Down d) = ⊥

-- it was so at some moment of a run
abbrev pub WasReady : QueueName
    → (old : WorldState) (es : List Event) (told : Option Refusal) (new : WorldState)
    → Runs old es told new → Type 0
WasReady n old [] told new run = IsReadyAt n old old.home
WasReady n old (e ∷ es) told new run =
    IsReadyAt n old old.home ⊎ WasReady n run.mid es run.later new run.rest

-- The replies of each queue that ever was ready with IN_ORDER are in the order of its pops.
abbrev pub EndsInOrder : (old : WorldState) (es : List Event) (told : Option Refusal)
    (new : WorldState) → Runs old es told new → Type 0
EndsInOrder old es told new run = (n : QueueName) → WasReady n old es told new run
    → AreInOrder n.life n.session n.readiness (new.popped n.guest) (new.published n.guest)

-- these pops are of no later life; and of no later readiness of this life
abbrev pub AreLived : ℕ → List Pop → Type 0
AreLived life [] = Unit {0}
AreLived life (p ∷ ps) = (p.life ≤ life) × AreLived life ps

abbrev pub AreBefore : ℕ → ℕ → List Pop → Type 0
AreBefore life readiness [] = Unit {0}
AreBefore life readiness (p ∷ ps) =
    (p.life ≡ life → p.readiness ≤ readiness) × AreBefore life readiness ps

-- What ties a device to what was popped and published: nothing is of a later readiness; and the
-- pops of a queue that is ready with IN_ORDER are those whose replies were published, and then
-- those that are outstanding.
pub record IsTiedTo (life : ℕ) (popped : List Pop) (published : List Publication)
    (d : DeviceState) : Type 0 where
  pub popped_before : AreBefore life d.readiness popped
  pub published_before : AreBefore life d.readiness (pops_of published)
  pub tied : (q : QueueState) → d.queue ≡ Some q → q.ring.places.in_order ≡ true
      → d.readiness < last_count
      → numbers_of life d.session d.readiness popped
      ≡ numbers_of life d.session d.readiness (pops_of published)
      ++ map (λ o. o.number) q.ring.outstanding

abbrev pub IsTiedAt : WorldState → Home → Type 0
IsTiedAt w (Up b) =
    (g : ℕ) (d : DeviceState) → slice_get b.devices g ≡ Some d → w.openings < last_count
    → IsTiedTo w.openings (w.popped g) (w.published g) d
IsTiedAt w (Down d) = Unit {0}

pub record IsTied (w : WorldState) : Type 0 where
  pub popped : (g : ℕ) → AreLived w.openings (w.popped g)
  pub published : (g : ℕ) → AreLived w.openings (pops_of (w.published g))
  pub now : IsTiedAt w w.home

-- For every list of events, from every world that began as a disk alone.
abbrev pub InOrderOfRuns : Type 0
InOrderOfRuns = (old new : WorldState) (events : List Event) (told : Option Refusal) → IsTied old
    → (run : Runs old events told new)
    → AllInOrder old events told new run × EndsInOrder old events told new run × IsTied new
