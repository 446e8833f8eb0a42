use Rattle.std.proofs.Common.{IfSome}
use Rattle.rpmb_client.specs.Seen.{used_seen}
use Rattle.rpmb_commands.specs.ReadingData.{WhyNoBlocks, WhyNotRead, blocks_answer, blocks_read}
use Rattle.rpmb_commands.proofs.DataLemmas.{map_some}
use Rattle.rpmb_commands.proofs.Refused.{if_err, passed}
use Rattle.rpmb_commands.proofs.read_data.blocks_answered.Goals as goal

pub returns-in_err-used-clause-err : goal.returns-in_err-used-clause-err
returns-in_err-used-clause-err g c =
    let given = g.B.Read.remaining c.args.input.now in
    passed c.from_residual.result c.in_err-used.field-0.0 (λ r.
    IfSome given (λ text. WhyNoBlocks c.args.key.now c.args.nonce.now text r))
    c.from_residual.ensures.1
    (map_some given _ _ c.in_err-used.ensures.err (λ text why. blocks_answer why))

pub returns-clause-err : goal.returns-clause-err
returns-clause-err g c =
    let given = g.B.Read.remaining c.args.input.now in
    let key = c.args.key.now in
    let nonce = c.args.nonce.now in
    if_err c.blocks_read.result (WhyNotRead key nonce c.in_ok-used.used.reply.items) (λ r.
    IfSome given (λ text. WhyNoBlocks key nonce text r)) c.blocks_read.ensures.err
    (λ r why. map_some given _ _ c.in_ok-used.ensures.ok (λ text is.
    blocks_read (used_seen c.in_ok-used.used) is why))
