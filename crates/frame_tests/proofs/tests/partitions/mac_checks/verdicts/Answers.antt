use Rattle.std.proofs.Common.{sym, subst}
use Rattle.rpmb_frame.specs.Request.{Request}
use Rattle.rpmb_core.specs.MacCheck.{SaysOf}
use Rattle.rpmb_core.proofs.Checking.{says_of}
use Rattle.frame_tests.proofs.tests.partitions.mac_checks.verdicts.Goals as goal

pub verdict_by-requires-2 : goal.verdict_by-requires-2
verdict_by-requires-2 c =
    let ones = c.of_bytes-ones in
    subst (λ (r : Request). SaysOf r ones.result) (sym c.classify-request.ensures)
    (says_of c.args.bytes.now 512 c.args.limits ones.result ones.ensures.says)

pub verdict_by-requires-3 : goal.verdict_by-requires-3
verdict_by-requires-3 c =
    let twos = c.of_bytes-twos in
    subst (λ (r : Request). SaysOf r twos.result) (sym c.classify-request.ensures)
    (says_of c.args.bytes.now 512 c.args.limits twos.result twos.ensures.says)
