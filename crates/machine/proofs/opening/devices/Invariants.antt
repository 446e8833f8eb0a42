use Rattle.machine.proofs.Common.{◌≡◌, map, take}
use Rattle.machine.proofs.opening.devices.Given as goal

abbrev pub invariant-loop-setup : goal.invariant-loop-setup
invariant-loop-setup l = l.devices.items ≡ map (λ s. s.config) (take l.setup-index l.setups)
