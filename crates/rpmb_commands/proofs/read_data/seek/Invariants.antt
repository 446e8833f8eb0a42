use Rattle.rpmb_commands.proofs.WholeText.{SoughtSoFar}
use Rattle.rpmb_commands.proofs.read_data.seek.Given as goal

abbrev pub invariant-loop-number : goal.invariant-loop-number
invariant-loop-number g l =
    SoughtSoFar l.nonce (g.B.Read.remaining l.fn.input) (g.B.Read.remaining l.input) l.finder
