use Rattle.std.proofs.Common.{◌≡◌, drop}
use Rattle.rpmb_client.specs.Keys.{key_at, pairs_of}
use Rattle.rpmb_client.proofs.keys.key_at.Given as goal

abbrev pub invariant-loop-entry : goal.invariant-loop-entry
invariant-loop-entry l = key_at (pairs_of (drop l.entry-index l.keys)) l.guest
    ≡ key_at (pairs_of l.keys) l.guest
