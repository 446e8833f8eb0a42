use Rattle.std.proofs.Common.{subst}
use Rattle.rpmb_commands.specs.KeySaid.{SaysKey}
use Rattle.rpmb_commands.specs.ReadingData.{WhyNoData, WhyNotGiven, data_blocks, data_first}
use Rattle.rpmb_commands.specs.ReadingData.{data_nonce}
use Rattle.rpmb_commands.proofs.Refused.{if_err, passed}
use Rattle.rpmb_commands.proofs.read_data.give_data.Goals as goal

pub returns-in_err-nonce-clause-refused : goal.returns-in_err-nonce-clause-refused
returns-in_err-nonce-clause-refused g c =
    let gives = g.S.Source.gives c.args.source.now in
    let said = subst (λ w. SaysKey gives w c.in_ok-key.key) c.key.ensures c.in_ok-key.ensures.ok in
    passed c.from_residual-in_err-nonce.result c.in_err-nonce.field-0.0
    (WhyNoData gives c.args.words.now (g.B.Read.remaining c.args.input.now))
    c.from_residual-in_err-nonce.ensures.1
    (data_nonce c.in_ok-key.key said c.in_err-nonce.ensures.err)

pub returns-in_err-blocks-clause-refused : goal.returns-in_err-blocks-clause-refused
returns-in_err-blocks-clause-refused g c =
    let gives = g.S.Source.gives c.args.source.now in
    let said = subst (λ w. SaysKey gives w c.in_ok-key.key) c.key.ensures c.in_ok-key.ensures.ok in
    passed c.from_residual-in_err-blocks.result c.in_err-blocks.field-0.0
    (WhyNoData gives c.args.words.now (g.B.Read.remaining c.args.input.now))
    c.from_residual-in_err-blocks.ensures.1
    (data_blocks c.in_ok-key.key c.in_ok-nonce.nonce said c.in_ok-nonce.ensures.ok
    c.in_err-blocks.ensures.err)

pub returns-clause-refused : goal.returns-clause-refused
returns-clause-refused g c =
    let gives = g.S.Source.gives c.args.source.now in
    let said = subst (λ w. SaysKey gives w c.in_ok-key.key) c.key.ensures c.in_ok-key.ensures.ok in
    let length = c.args.words.now.length in
    if_err c.give_first.result (WhyNotGiven length c.as_slice.result.now)
    (WhyNoData gives c.args.words.now (g.B.Read.remaining c.args.input.now))
    c.give_first.ensures.err
    (λ r why. data_first c.in_ok-key.key c.in_ok-nonce.nonce c.in_ok-blocks.blocks.items said
    c.in_ok-nonce.ensures.ok c.in_ok-blocks.ensures.ok
    (subst (λ all. WhyNotGiven length all r) c.as_slice.ensures.value why))
