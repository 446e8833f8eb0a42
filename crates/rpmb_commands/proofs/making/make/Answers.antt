use Rattle.rpmb_commands.specs.Making.{WhyNoLine, line_request, line_unwritten}
use Rattle.rpmb_commands.proofs.Refused.{is_ok, passed, unwritten}
use Rattle.rpmb_commands.proofs.making.make.Goals as goal

pub returns-in_err-request-clause-refused : goal.returns-in_err-request-clause-refused
returns-in_err-request-clause-refused g c =
    let gives = g.S.Source.gives c.args.source.now in
    passed c.from_residual-in_err-request.result c.in_err-request.field-0.0
    (WhyNoLine gives c.args.making c.args.words.now)
    c.from_residual-in_err-request.ensures.1
    (line_request (is_ok _ _ c.in_ok-guest.ensures) c.in_err-request.ensures.err)

pub returns-clause-refused : goal.returns-clause-refused
returns-clause-refused g c =
    let gives = g.S.Source.gives c.args.source.now in
    unwritten c.write_line.result c.told.result (WhyNoLine gives c.args.making c.args.words.now)
    c.told.ensures
    (λ x of. line_unwritten (is_ok _ _ c.in_ok-guest.ensures) c.in_ok-request.request
    c.in_ok-request.ensures.ok of)
