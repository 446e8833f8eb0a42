use Rattle.std.proofs.Common.{refl}
use Rattle.rpmb_core.proofs.Checking.{says_nothing, says_nothing_of}
use Rattle.rpmb_core.proofs.mac_check.MacCheck.none.Goals as goal

pub returns-clause-frames : goal.returns-clause-frames
returns-clause-frames c = λ frames. says_nothing frames _ refl

pub returns-clause-request : goal.returns-clause-request
returns-clause-request c = λ r. says_nothing_of r _ refl
