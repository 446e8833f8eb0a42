use Rattle.std.proofs.Common.{refl}
use Rattle.rpmb_commands.specs.KeySaid.{digits_file}
use Rattle.rpmb_commands.proofs.reading.key_in_digits.Goals as goal

pub returns-in-Err : goal.returns-in-Err
returns-in-Err g c = record {
  ok = tt;
  err = digits_file c.in-Err.field-0 c.in-Err.ensures.err refl;
}
