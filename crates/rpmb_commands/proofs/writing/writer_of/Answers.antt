use Rattle.std.proofs.Common.{subst, sym}
use Rattle.rpmb_commands.specs.KeySaid.{IsWhyNoKeySaid, SaysKey}
use Rattle.rpmb_commands.specs.Writing.{IsWhyNoWriter, writer_address, writer_counter, writer_key}
use Rattle.rpmb_commands.proofs.Refused.{is_ok, passed}
use Rattle.rpmb_commands.proofs.writing.writer_of.Goals as goal

pub returns-in_err-key-clause-err : goal.returns-in_err-key-clause-err
returns-in_err-key-clause-err g c =
    let gives = g.S.Source.gives c.args.source.now in
    let told = c.in_err-key.field-0.0 in
    passed c.from_residual-in_err-key.result told (IsWhyNoWriter gives c.args.words.now)
    c.from_residual-in_err-key.ensures.1
    (writer_key (is_ok _ _ c.in_ok-guest.ensures)
    (subst (λ w. IsWhyNoKeySaid gives w told) c.key.ensures c.in_err-key.ensures.err))

pub returns-in_err-counter-clause-err : goal.returns-in_err-counter-clause-err
returns-in_err-counter-clause-err g c =
    let gives = g.S.Source.gives c.args.source.now in
    let said = subst (λ w. SaysKey gives w c.in_ok-key.key) c.key.ensures c.in_ok-key.ensures.ok in
    passed c.from_residual-in_err-counter.result c.in_err-counter.field-0.0
    (IsWhyNoWriter gives c.args.words.now) c.from_residual-in_err-counter.ensures.1
    (writer_counter (is_ok _ _ c.in_ok-guest.ensures) c.in_ok-key.key said
    (sym c.in_err-counter.ensures))

pub returns-in_err-address-clause-err : goal.returns-in_err-address-clause-err
returns-in_err-address-clause-err g c =
    let gives = g.S.Source.gives c.args.source.now in
    let said = subst (λ w. SaysKey gives w c.in_ok-key.key) c.key.ensures c.in_ok-key.ensures.ok in
    passed c.from_residual-in_err-address.result c.in_err-address.field-0.0
    (IsWhyNoWriter gives c.args.words.now) c.from_residual-in_err-address.ensures.1
    (writer_address (is_ok _ _ c.in_ok-guest.ensures) c.in_ok-key.key said
    (is_ok _ _ c.in_ok-counter.ensures) (sym c.in_err-address.ensures))
