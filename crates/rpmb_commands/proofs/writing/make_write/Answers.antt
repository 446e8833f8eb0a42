use Rattle.std.proofs.Common.{sym, subst}
use Rattle.std.proofs.KnownBytes.{Keeps-refl}
use Rattle.rpmb_commands.specs.Writing.{IsStopped, SaysBytes, WhyNoWriteLines, write_bytes}
use Rattle.rpmb_commands.specs.Writing.{write_most, write_stopped, write_writer}
use Rattle.rpmb_commands.proofs.Refused.{if_err, is_ok, passed}
use Rattle.rpmb_commands.proofs.writing.make_write.Goals as goal

pub returns-in_err-writer-clause-refused : goal.returns-in_err-writer-clause-refused
returns-in_err-writer-clause-refused g c =
    let gives = g.S.Source.gives c.args.source.now in
    let start = g.W.Write.contents c.args.out.now in
    passed c.from_residual.result c.in_err-writer.field-0.0 (λ r.
    WhyNoWriteLines gives c.args.words.now r start start) c.from_residual.ensures.1
    (write_writer c.in_err-writer.ensures.err (Keeps-refl start))

pub returns-in_err-most-clause-refused : goal.returns-in_err-most-clause-refused
returns-in_err-most-clause-refused g c =
    let gives = g.S.Source.gives c.args.source.now in
    let start = g.W.Write.contents c.args.out.now in
    passed c.from_residual-in_err-most.result c.in_err-most.field-0.0 (λ r.
    WhyNoWriteLines gives c.args.words.now r start start) c.from_residual-in_err-most.ensures.1
    (write_most c.in_ok-writer.writer c.in_ok-writer.ensures.ok (sym c.in_err-most.ensures.said)
    (Keeps-refl start))

pub returns-in_err-bytes-clause-refused : goal.returns-in_err-bytes-clause-refused
returns-in_err-bytes-clause-refused g c =
    let gives = g.S.Source.gives c.args.source.now in
    let start = g.W.Write.contents c.args.out.now in
    passed c.from_residual-in_err-bytes.result c.in_err-bytes.field-0.0 (λ r.
    WhyNoWriteLines gives c.args.words.now r start start) c.from_residual-in_err-bytes.ensures.1
    (write_bytes c.in_ok-writer.writer c.in_ok-writer.ensures.ok
    (is_ok _ _ c.in_ok-most.ensures.said) c.in_err-bytes.ensures.err (Keeps-refl start))

pub returns-clause-refused : goal.returns-clause-refused
returns-clause-refused g c =
    let gives = g.S.Source.gives c.args.source.now in
    let start = g.W.Write.contents c.args.out.now in
    let now = g.W.Write.contents c.write_bytes.new.out in
    let said = subst (SaysBytes gives c.args.words.now) (sym c.as_slice.ensures.value)
    c.in_ok-bytes.ensures.ok in
    if_err c.write_bytes.result (λ r. IsStopped c.in_ok-writer.writer c.in_ok-most.most
    c.as_slice.result.now r start now)
    (λ r. WhyNoWriteLines gives c.args.words.now r start now) c.write_bytes.ensures.err
    (λ r stopped. write_stopped c.in_ok-writer.writer c.in_ok-most.most c.as_slice.result.now
    c.in_ok-writer.ensures.ok (sym c.in_ok-most.ensures.said) said stopped)
