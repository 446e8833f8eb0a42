use Rattle.std.proofs.Common.{refl}
use Rattle.rpmb_commands.specs.KeySaid.{content_file}
use Rattle.rpmb_commands.proofs.source.content_of.Goals as goal

pub returns-in-Err : goal.returns-in-Err
returns-in-Err g c = record { ok = tt; most = tt; err = content_file c.in-Err.why refl }
