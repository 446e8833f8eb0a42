-- What the calls answer that save a guest's device, and let it go on (own).
use Rattle.std.specs.Prelude.{◌≡◌, ◌⊎◌, ℕ, List}
use Rattle.machine.specs.Machine.{MachineState}
use Rattle.machine.specs.Resting.{HasLoadingFault, HasNoPlace, HasSavingFault, IsSavedIn, LoadsOf}
use Rattle.machine.specs.Resting.{MovesTo, RestsAtPlace, StaysThere}
use Rattle.machine.specs.declared.fault.MachineFault.{MachineFault}
use Rattle.rpmb_host.specs.Calls.{Fact, Relation}
use Rattle.rpmb_host.specs.Numbers.{fault_number}

-- these words are the state of the guest's device
abbrev pub Saves : ℕ → List ℕ → Fact
Saves guest words m = IsSavedIn m guest words

-- the number is that of a fault, for which nothing is saved in so many words
pub record RefusesSaving (guest room number : ℕ) (m : MachineState) : Type 0 where
  pub fault : MachineFault
  pub numbered : number ≡ fault_number fault
  pub cause : HasSavingFault m guest room fault

abbrev pub Unsaved : (guest room number : ℕ) → Fact
Unsaved guest room number m = RefusesSaving guest room number m

-- its device goes on as the one that was saved
abbrev pub Loads : ℕ → List ℕ → Relation
Loads guest words old new = LoadsOf guest words old new

-- the number is that of a fault, for which it doesn't
pub record RefusesState (guest number : ℕ) (words : List ℕ) (m : MachineState) : Type 0 where
  pub fault : MachineFault
  pub numbered : number ≡ fault_number fault
  pub cause : HasLoadingFault m guest words fault

abbrev pub Unloaded : (guest number : ℕ) → List ℕ → Fact
Unloaded guest number words m = RefusesState guest number words m

-- the place at which its queue rests; all ones in 32 bits where it has none now
abbrev pub StandsAt : (guest place : ℕ) → Fact
StandsAt guest place m =
    RestsAtPlace m guest place ⊎ ((place ≡ 4294967295) × HasNoPlace m guest)

-- its queue goes on at another place; or it doesn't
abbrev pub GoesTo : (guest place : ℕ) → Relation
GoesTo guest place old new = MovesTo guest place old new

abbrev pub Stays : (guest place : ℕ) → Fact
Stays guest place m = StaysThere m guest place
