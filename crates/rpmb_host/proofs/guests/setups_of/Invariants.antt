use Rattle.std.proofs.Common.{◌≡◌, map, take}
use Rattle.rpmb_host.specs.Guests.{setup_of}
use Rattle.rpmb_host.proofs.guests.setups_of.Given as goal

abbrev pub invariant-loop-guest : goal.invariant-loop-guest
invariant-loop-guest l = l.setups.items ≡ map setup_of (take l.guest-index l.guests)
