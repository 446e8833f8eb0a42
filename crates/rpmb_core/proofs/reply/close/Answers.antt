use Rattle.std.proofs.Common.{◌≡◌, ◌+◌, ◌-◌, ◌*◌, ◌/◌, ◌∙◌, arith, length}
use Rattle.rpmb_core.proofs.Closing.{close_is, closed_nothing}
use Rattle.rpmb_core.proofs.reply.close.Goals as goal

pub returns-then-count-eq0-clause-value : goal.returns-then-count-eq0-clause-value
returns-then-count-eq0-clause-value c =
    closed_nothing c.args.key.now c.args.reply.now
    (omega (arith, c.if-count-eq0.true, c.as_chunks.ensures.front_len, c.requires.whole))

pub returns-clause-value : goal.returns-clause-value
returns-clause-value c =
    let bytes = c.args.reply.now in
    let count = length c.as_chunks.result.0.now in
    let at = 512 * (count - 1) + 196 in
    let counted : count ≡ length bytes / 512 = omega (arith, c.as_chunks.ensures.front_len) in
    close_is c.args.key.now (at + 32 - at) count c.as_chunks.result.0.now c.copy_from_slice.new.self
    bytes (omega (arith, c.if-count-eq0.false, counted)) counted c.requires.whole (omega arith)
    c.as_chunks.ensures.front (c.copy_from_slice.ensures.after ∙ c.mac-mac.ensures)
