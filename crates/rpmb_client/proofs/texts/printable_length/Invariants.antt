use Rattle.std.proofs.Common.{◌≡◌, ℕ, ◌<◌, false, get_or, not}
use Rattle.rpmb_client.specs.Explained.{is_printable}
use Rattle.rpmb_client.proofs.texts.printable_length.Given as goal

abbrev pub invariant-loop-i : goal.invariant-loop-i
invariant-loop-i l = (k : ℕ) → k < l.i → not (is_printable (get_or l.bytes k 0)) ≡ false
