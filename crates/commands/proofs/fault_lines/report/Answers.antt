use Rattle.std.proofs.Common.{◌++◌, ◌∙◌, ap, subst}
use Rattle.commands.proofs.Common.{Takes}
use Rattle.std.proofs.lemmas.Fmt.{contents_after_writes}
use Rattle.arrayvec.specs.declared.array_string.ArrayString.{ArrayString}
use Rattle.commands.specs.Fault.{fault_line}
use Rattle.commands.proofs.fault_lines.report.Goals as goal

pub returns-in-Ok-clause-told : goal.returns-in-Ok-clause-told
returns-in-Ok-clause-told g c =
    let line = contents_after_writes _ (λ (s : ArrayString 64). s.bytes) (λ w bs v h. h) _ _ _
    c.in-Ok.ensures.writes in
    let text = c.as_bytes.ensures.value ∙ c.deref.ensures.0 ∙ line
    ∙ ap (λ x. x ++ fault_line c.args.fault) c.new-line.ensures in
    subst (Takes (g.E.Write.contents c.args.err.now) (g.E.Write.contents c.write_front.new.err))
    text c.write_front.ensures
