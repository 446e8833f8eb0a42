use Rattle.std.proofs.Common.{ap, subst, sym, List, OnOk, length, ◌≤◌}
use Rattle.commands.proofs.Common.{Appends, listing, All, Ends, IsReadAlone, Synced, showing}
use Rattle.commands.proofs.Common.{IsWhole, Partition}
use Rattle.commands.proofs.Ended.{read_alone, show_ends}
use Rattle.commands.proofs.Listed.{all_small, few, lists}
use Rattle.commands.proofs.showing.show.Goals as goal

pub write_listing-written-requires-clause-few : goal.write_listing-written-requires-clause-few
write_listing-written-requires-clause-few g c =
    subst (λ (l : List Partition). length l ≤ 64) (sym c.as_slice.ensures.value)
    (few c.args.board.now c.in-Ok.store.guests c.in-Ok.partitions.items
    c.guests-guests.ensures.in_range c.in-Ok.ensures.opened.begun)

pub write_listing-written-requires-clause-small : goal.write_listing-written-requires-clause-small
write_listing-written-requires-clause-small g c =
    subst (λ (l : List Partition). All (λ p. p.capacity ≤ 128) l) (sym c.as_slice.ensures.value)
    (all_small c.args.board.now c.in-Ok.store.guests c.in-Ok.partitions.items
    c.guests-guests.ensures.in_range c.in-Ok.ensures.opened.begun)

pub returns-in-Ok-clause-shown : goal.returns-in-Ok-clause-shown
returns-in-Ok-clause-shown g c =
    let listed = λ (l : List Partition).
    OnOk c.write_listing-written.result
    (Appends (g.W.Write.contents c.args.out.now)
    (g.W.Write.contents c.write_listing-written.new.out) (listing c.args.as_json l)) in
    let are_whole = λ (l : List Partition). OnOk c.write_listing-written.result (All IsWhole l) in
    lists c.args.as_json _ (g.D.Disk.state c.args.disk) c.in-Ok.store.guests
    c.in-Ok.partitions.items _ _
    c.write_listing-written.result c.in-Ok.ensures.opened.begun c.in-Ok.ensures.opened.stand
    (subst listed c.as_slice.ensures.value c.write_listing-written.ensures.printed)
    (subst are_whole c.as_slice.ensures.value c.write_listing-written.ensures.whole)

pub returns-in-Ok-clause-calls : goal.returns-in-Ok-clause-calls
returns-in-Ok-clause-calls g c =
    subst (IsReadAlone g.D.Disk.makes c.args.disk) (sym c.into_disk.ensures)
    (Synced c.in-Ok.ensures.calls)

pub returns-in-Err-clause-ends : goal.returns-in-Err-clause-ends
returns-in-Err-clause-ends g c =
    let s = g.D.Disk.state in
    subst (Ends showing c.args.board.now (s c.args.disk) (s c.in-Err.disk)) (sym c.of_image.ensures)
    (show_ends c.args.board.now (s c.args.disk) (s c.in-Err.disk) c.in-Err.fault (λ e.
    ap s (c.in-Err.ensures.no_memory e)) c.in-Err.ensures.cause c.in-Err.ensures.answers)

pub returns-in-Err-clause-calls : goal.returns-in-Err-clause-calls
returns-in-Err-clause-calls g c = read_alone g.D.Disk.makes c.args.disk c.in-Err.disk c.in-Err.fault
    c.in-Err.ensures.calls
