use Rattle.std.proofs.Common.{map}
use Rattle.rpmb_client.specs.Finding.{IsFinder}
use Rattle.rpmb_client.proofs.choosing.find_answer.Given as goal

abbrev pub invariant-loop-line : goal.invariant-loop-line
invariant-loop-line l = IsFinder l.nonce (map (λ t. t.now) l.yielded) l.finder
