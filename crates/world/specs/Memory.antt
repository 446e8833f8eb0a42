-- Memory that is refused to a Pop or a Submit changes nothing.
use Rattle.std.specs.Prelude.{◌≡◌, List, [], ◌∷◌, Option, Some}
use Rattle.mmio_transport.specs.declared.fault.DeviceFault.TheVariants as device_fault
use Rattle.rpmb_book.specs.declared.refused.Refused.TheVariants as refused
use Rattle.world.specs.declared.event.Event.{Event}
use Rattle.world.specs.declared.event.Event.TheVariants as event
use Rattle.world.specs.declared.event.Refusal.{Refusal}
use Rattle.world.specs.declared.event.Refusal.TheVariants as refusal
use Rattle.board.specs.declared.step.Step.{Step}
use Rattle.board.specs.declared.step.Step.TheVariants as step
use Rattle.board.specs.declared.step.StepFault.TheVariants as fault
use Rattle.world.specs.World.{Runs, WorldState}

-- the step was refused memory; all others take none
abbrev pub LacksMemory : Step → Option Refusal → Type 0
LacksMemory (step.Pop n) told = told ≡ Some (refusal.Step (fault.Device device_fault.NoMemory))
LacksMemory (step.Submit n) told = told ≡ Some (refusal.Step (fault.Book refused.NoMemory))
LacksMemory (step.Drive n act) told = ⊥
LacksMemory (step.Collect n) told = ⊥
LacksMemory (step.Publish n) told = ⊥
LacksMemory (step.Take n) told = ⊥
LacksMemory (step.Give n) told = ⊥
LacksMemory step.Advance told = ⊥
LacksMemory step.Settle told = ⊥

abbrev pub KeptWithout : WorldState → Event → Option Refusal → WorldState → Type 0
KeptWithout old (event.Do s) told new = LacksMemory s told → new ≡ old
KeptWithout old (event.Fail k) told new = Unit {0}
KeptWithout old (event.Stop filler) told new = Unit {0}
KeptWithout old (event.StopIn filler) told new = Unit {0}
KeptWithout old event.Open told new = Unit {0}
KeptWithout old (event.Upgrade stop) told new = Unit {0}

-- at each event of a run
abbrev pub AllKeptWithout : (old : WorldState) (es : List Event) (told : Option Refusal)
    (new : WorldState) → Runs old es told new → Type 0
AllKeptWithout old [] told new run = Unit {0}
AllKeptWithout old (e ∷ es) told new run =
    KeptWithout old e run.first.one run.mid × AllKeptWithout run.mid es run.later new run.rest
