use Rattle.std.proofs.Common.{ℕ, List, refl, subst, sym}
use Rattle.commands.proofs.Common.{GuestConfig, IsOpened, OpeningEnds, Partition, Request}
use Rattle.commands.proofs.Common.{StaysLinked}
use Rattle.commands.proofs.Opened.{opened_host, opening_ends}
use Rattle.guest_driver.specs.Config.{SetupState}
use Rattle.host.specs.Opening.{IsFirstHost}
use Rattle.commands.proofs.running.open_host.Goals as goal

pub returns-in-Ok-new-clause-opened : goal.returns-in-Ok-new-clause-opened
returns-in-Ok-new-clause-opened g c =
    let e = c.in-Ok.ensures in
    let n = c.in-Ok-new.ensures in
    let host = c.in-Ok-new.host in
    let on : List GuestConfig → SetupState = λ cs. record {
      board = cs;
      drivers = c.args.setup.now.drivers;
    } in
    subst (λ (cs : List GuestConfig).
    IsOpened g.D.Disk.state g.D.Disk.makes (on cs) c.args.disk host) c.board.ensures
    (opened_host g.D.Disk.state g.D.Disk.makes (on c.board.result.now) c.args.disk c.in-Ok.opened
    host 1 e.begins (λ known. (e.found known).stands) e.answers e.any_moment (e.unfailed refl)
    (subst (λ (cs : List GuestConfig). IsFirstHost (on cs) c.in-Ok.opened host)
    (sym c.board.ensures) n.first)
    (subst (λ (cs : List GuestConfig). (bases : ℕ → Partition) (accepted : ℕ → List Request)
    → StaysLinked g.D.Disk.state cs bases accepted c.in-Ok.opened
    → StaysLinked g.D.Disk.state cs bases accepted host.board) (sym c.board.ensures) n.linked))

pub returns-in-Err-clause-ends : goal.returns-in-Err-clause-ends
returns-in-Err-clause-ends g c =
    let s = g.D.Disk.state in
    rw (sym c.board.ensures) (subst (OpeningEnds _ (s c.args.disk) (s c.in-Err.disk))
    (sym c.of_image.ensures)
    (opening_ends _ (s c.args.disk) (s c.in-Err.disk) c.in-Err.fault c.in-Err.ensures.cause
    c.in-Err.ensures.answers))
