use Rattle.std.proofs.Common.{◌≡◌, ◌∙◌, refl, sym, true}
use Rattle.board.proofs.Common.{Untouched, Begins, Finds, new_board}
use Rattle.board.specs.Opening.{begun}
use Rattle.board.specs.State.{without_devices}
use Rattle.board.proofs.Openings.{calls_over}
use Rattle.board.proofs.Opened.{begins, goes_on, of_new, stands_as, within_end}
use Rattle.board.proofs.rest.Rest.open.Goals as goal

pub returns-clause-begins : goal.returns-clause-begins
returns-clause-begins g c =
    let e = c.in_ok-store.ensures in
    let config = c.args.config.now in
    let ps = c.in_ok-store.partitions.items in
    let store = c.in_ok-store.store in
    let end = within_end g.D.Disk.state g.D.Disk.makes (Untouched (g.D.Disk.state c.args.disk))
    c.args.disk store.disk e.any_moment in
    of_new (λ r. Begins g.D.Disk.state c.args.life config (begun config r)) _
    (without_devices (new_board c.args.life config ps store))
    c.over.result c.over.ensures.rest c.over.ensures.of_board
    (λ boards. begins g.D.Disk.state c.args.life config ps store e.opened.begun (λ known.
    e.opened.held (sym end.faithful ∙ known)) boards e.opened.unbroken)

pub returns-clause-found : goal.returns-clause-found
returns-clause-found g c =
    let e = c.in_ok-store.ensures in
    let shows = g.D.Disk.state in
    let config = c.args.config.now in
    let ps = c.in_ok-store.partitions.items in
    let store = c.in_ok-store.store in
    let before = shows c.args.disk in
    let end = within_end shows g.D.Disk.makes (Untouched before) c.args.disk store.disk e.any_moment
    in
    of_new (λ r. before.faithful ≡ true → Finds shows config before (begun config r)) _
    (without_devices (new_board c.args.life config ps store)) c.over.result c.over.ensures.rest
    c.over.ensures.of_board
    (λ boards known. record {
      stands = stands_as shows c.args.life config ps store e.opened.begun (λ k.
          e.opened.held (sym end.faithful ∙ k)) before.seen (e.opened.stand known);
      goes_on = λ bases accepted least requests prefixes.
          goes_on shows c.args.life config ps store e.opened.begun (λ k.
          e.opened.held (sym end.faithful ∙ k)) boards before (e.opened.stand known) bases accepted
          least requests prefixes;
      rests = e.opened.rest known;
    })

pub returns-clause-calls : goal.returns-clause-calls
returns-clause-calls g c = calls_over g.D.Disk.makes c.args.disk c.in_ok-store.store
    (without_devices (new_board c.args.life c.args.config.now c.in_ok-store.partitions.items
    c.in_ok-store.store)) c.over.result refl c.over.ensures.rest c.over.ensures.refused
    c.in_ok-store.ensures.calls
