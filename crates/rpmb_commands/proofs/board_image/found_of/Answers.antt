use Rattle.std.proofs.Common.{refl}
use Rattle.rpmb_commands.proofs.board_image.found_of.Goals as goal

pub returns-in-Ok-2-clause-none : goal.returns-in-Ok-2-clause-none
returns-in-Ok-2-clause-none c = λ long none version is. none 2 refl

pub returns-in-Ok-3-clause-none : goal.returns-in-Ok-3-clause-none
returns-in-Ok-3-clause-none c = λ long none version is. none 1 refl
