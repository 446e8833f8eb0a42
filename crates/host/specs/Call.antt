-- What the calls of a host do.
use Rattle.std.specs.Prelude.{◌≡◌, ℕ, List, Result, slice_get}
use Rattle.queue_looks.specs.Calm.{is_broken}
use Rattle.host.specs.Host.{HostAnswers, HostChains, HostResets, HostResetsGuest, HostState}
use Rattle.host.specs.Host.{HostStores, seen}
use Rattle.host.specs.Reasons.{HostExplains, HostKeeps}
use Rattle.host.specs.Spares.{Spares, most_at}
use Rattle.queue_looks.specs.declared.fault.HostFault.{HostFault}
use Rattle.host.specs.declared.front.Answer.{Answer}

-- what the host's call for a chain does, and what it says
pub record ChainCall {D : Type 0} (h : HostState D) (guest : ℕ) (readable : List ℕ)
    (writable : ℕ) (told : Result Answer HostFault) (h' : HostState D) : Type 0 where
  -- where all guests are ready
  pub answer : HostAnswers (is_broken h.board) (is_broken h'.board)
      (seen h) guest readable writable told (seen h')
  -- where this one is, or is stuck
  pub own : HostChains (is_broken h.board) (is_broken h'.board)
      (seen h) guest readable writable told (seen h')
  -- whatever its rings hold
  pub reason : HostExplains (seen h) guest readable writable told (seen h')
  -- and what it leaves of the others; a board that broke stays so
  pub others : Spares guest (most_at (slice_get h.fronts guest)) h.board h'.board

-- the same of a store
pub record StoreCall {D : Type 0} (h : HostState D) (guest at : ℕ) (bytes : List ℕ)
    (told : Result (Unit {0}) HostFault) (h' : HostState D) : Type 0 where
  pub own : HostStores (seen h) guest at bytes told (seen h')
  pub guests : HostKeeps (seen h) (seen h')
  pub same : is_broken h'.board ≡ is_broken h.board

-- and of a reset
pub record ResetCall {D : Type 0} (h : HostState D) (guest : ℕ)
    (told : Result (Unit {0}) HostFault) (h' : HostState D) : Type 0 where
  pub own : HostResetsGuest (seen h) guest told (seen h')
  -- where all guests were ready
  pub ready : HostResets (seen h) guest told (seen h')
  pub guests : HostKeeps (seen h) (seen h')
  pub same : is_broken h'.board ≡ is_broken h.board
