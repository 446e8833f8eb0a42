-- What drivers leave of their scripts.
use Rattle.std.specs.Prelude.{◌≡◌, ◌<◌, ℕ, Bool, true, false, List, [], length, slice_index_or}
use Rattle.std.specs.Prelude.{Option, Some, None, Result, Ok, Err}
use Rattle.guest_driver.specs.declared.config.DriverConfig.{DriverConfig}
use Rattle.queue_looks.specs.declared.fault.HostFault.{HostFault}
use Rattle.host.specs.declared.front.Answer.{Answer}
use Rattle.workers.specs.Driving.{Ran}
use Rattle.workers.specs.declared.driver.DriverEnd.{DriverEnd}
use Rattle.workers.specs.declared.order.Order.{Order}

-- whether a driver came to the end of its script, and the fault that it ended by, by how it worked
abbrev pub completes : Result Bool HostFault → Bool
completes (Ok complete) = complete
completes (Err fault) = false

abbrev pub fault_in : Result Bool HostFault → Option HostFault
fault_in (Ok complete) = None
fault_in (Err fault) = Some fault

-- a driver of this guest, and of this configuration, that came to the end of its script ran it
pub record LeavesAll (number : ℕ) (config : DriverConfig) (complete : Bool) (answers : List Answer)
    (script : List Order) : Type 0 where
  pub ran : complete ≡ true → Ran number config script answers

-- the same of each guest's driver and its script
abbrev pub Left : List DriverEnd → List DriverConfig → List (List Order) → Type 0
Left ends configs scripts = (i : ℕ) (d : DriverEnd) (c : DriverConfig) → i < length scripts
    → LeavesAll i (slice_index_or configs i c) (slice_index_or ends i d).complete
    (slice_index_or ends i d).answers.items (slice_index_or scripts i [])

-- each guest's driver ran its script
abbrev pub HaveAll : List DriverEnd → List DriverConfig → List (List Order) → Type 0
HaveAll ends configs scripts = (i : ℕ) (d : DriverEnd) (c : DriverConfig) → i < length scripts
    → Ran i (slice_index_or configs i c) (slice_index_or scripts i [])
    (slice_index_or ends i d).answers.items
