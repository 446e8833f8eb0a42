use Rattle.std.proofs.Common.{◌∙◌, ◌+◌, ap, length}
use Rattle.std.specs.Prelude.{nat_le}
use Rattle.disk.specs.Content.{bytes_at, content_of}
use Rattle.disk.specs.Kept.{file_after}
use Rattle.disk.proofs.OutboxCalls.{reads_same, there_of}
use Rattle.disk.proofs.outbox_disk.OutboxDiskDisk.read_at.Goals as goal

pub returns-clause-ok : goal.returns-clause-ok
returns-clause-ok c known =
    let n = length c.args.out.now in
    let inside = there_of c.args.at n (length c.self.inside.image.items) _ _ _
    (c.is_there-there.ensures
    ∙ ap (λ l. nat_le (c.args.at + n) (length l)) c.deref.ensures.value)
    c.in_ok-ended.ensures.ok in
    c.copy_out.ensures ∙ ap (λ l. bytes_at (content_of l) c.args.at n) c.deref-2.ensures.value
    ∙ reads_same _ _ (length c.self.inside.image.items) c.args.at n c.self.invariant.same inside
    ∙ ap (λ o. bytes_at (file_after o.kept).seen c.args.at n) c.self.view_is
