use Rattle.std.proofs.Common.{subst}
use Rattle.rpmb_client.specs.Options.{IsWhyNoRawKey}
use Rattle.rpmb_commands.specs.KeySaid.{IsWhyNoRawKeyFile, raw_no_key, raw_unread}
use Rattle.rpmb_commands.proofs.Refused.{passed}
use Rattle.rpmb_commands.proofs.reading.key_in_raw_file.Goals as goal

pub returns-in_err-content-clause-err : goal.returns-in_err-content-clause-err
returns-in_err-content-clause-err g c =
    passed c.from_residual.result c.in_err-content.field-0.0
    (IsWhyNoRawKeyFile (g.S.Source.gives c.args.source.now) c.args.name) c.from_residual.ensures.1
    (raw_unread c.in_err-content.ensures.err)

pub returns-clause-err : goal.returns-clause-err
returns-clause-err g c =
    raw_no_key c.in_ok-content.content.items c.in_ok-content.ensures.ok (record {
      told = c.in-Err.told;
      refused = c.from.ensures;
      why = subst (λ bytes. IsWhyNoRawKey c.args.name bytes c.in-Err.told) c.as_slice.ensures.value
          c.in-Err.ensures.err;
    })
