use Rattle.machine.proofs.Common.{◌≡◌, map, take}
use Rattle.machine.specs.Opening.{on_board}
use Rattle.machine.proofs.opening.configs.Given as goal

abbrev pub invariant-loop-setup : goal.invariant-loop-setup
invariant-loop-setup l = l.guests.items ≡ map on_board (take l.setup-index l.setups)
