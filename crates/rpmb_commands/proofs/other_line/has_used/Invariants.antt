use Rattle.std.proofs.Common.{◌≡◌, map}
use Rattle.std.specs.List.{list_any}
use Rattle.rpmb_commands.specs.Explaining.{is_used}
use Rattle.rpmb_commands.proofs.other_line.has_used.Given as goal

abbrev pub invariant-loop-word : goal.invariant-loop-word
invariant-loop-word l = l.has_one ≡ list_any is_used (map (λ t. t.now) l.yielded)
