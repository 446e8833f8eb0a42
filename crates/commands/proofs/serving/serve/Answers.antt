use Rattle.std.proofs.Common.{Err, ap, length, subst, sym}
use Rattle.commands.proofs.Common.{on_ok_weaker, served_line_of, lines_of, PrintsEach, IfErr-weaker}
use Rattle.commands.proofs.Common.{DiskState, Ends, serving}
use Rattle.commands.proofs.EachTold.{EndsServe, serve_prints, unread_ends, unread_prints}
use Rattle.commands.proofs.ServedImage.{reading_is_no_call, uncalled_keeps}
use Rattle.commands.proofs.Printing.{none_bad, not_bad, says_same}
use Rattle.commands.proofs.serving.serve.Goals as goal

pub returns-in-Ok-clause-printed : goal.returns-in-Ok-clause-printed
returns-in-Ok-clause-printed g c =
    rw (sym c.board-board.ensures, sym c.drivers.ensures.value) (on_ok_weaker c.serve_on.result.0
    (λ printed lines is.
    subst (λ x. PrintsEach (length c.board-board.result.now) c.drivers.result.now x
    (g.W.Write.contents c.args.out.now) (g.W.Write.contents c.serve_on.new.out))
    (sym (says_same lines c.in-Ok.lines.items _ is c.in-Ok.ensures.ok)) printed)
    c.serve_on.ensures.printed)

pub returns-in-Ok-clause-ends : goal.returns-in-Ok-clause-ends
returns-in-Ok-clause-ends g c =
    rw (sym c.board-board.ensures) (let s = g.D.Disk.state c.args.disk in
    IfErr-weaker c.serve_on.result.0 (EndsServe c.board-board.result.now s) (λ f. (new : DiskState)
    → Ends (serving c.args.script.now) c.board-board.result.now s new f)
    (λ f ends new. ends c.args.script.now new
    (none_bad (served_line_of (length c.board-board.result.now))
    c.in-Ok.lines.items (lines_of c.args.script.now) c.in-Ok.ensures.ok))
    c.serve_on.ensures.ends)

pub returns-in-Err-clause-ends : goal.returns-in-Err-clause-ends
returns-in-Err-clause-ends g c =
    rw (sym c.board-board.ensures) (λ new. unread_ends c.board-board.result.now
    c.args.script.now (g.D.Disk.state c.args.disk) new c.in-Err.fault
    c.in-Err.ensures.reads (λ n is. c.in-Err.ensures.bad n (ap Err is)))

pub returns-in-Ok-clause-prints : goal.returns-in-Ok-clause-prints
returns-in-Ok-clause-prints g c =
    rw (sym c.board-board.ensures, sym c.drivers.ensures.value) (serve_prints
    c.board-board.result.now c.drivers.result.now c.args.script.now
    c.in-Ok.lines.items
    (g.W.Write.contents c.args.out.now) (g.W.Write.contents c.serve_on.new.out)
    c.serve_on.result.0 c.in-Ok.ensures.ok c.serve_on.ensures.prints)

pub returns-in-Ok-clause-bad : goal.returns-in-Ok-clause-bad
returns-in-Ok-clause-bad g c =
    rw (sym c.board-board.ensures) (λ n bad. absurd (not_bad n _
    (none_bad (served_line_of (length c.board-board.result.now)) c.in-Ok.lines.items
    (lines_of c.args.script.now) c.in-Ok.ensures.ok) bad))

pub returns-in-Err-clause-prints : goal.returns-in-Err-clause-prints
returns-in-Err-clause-prints g c =
    rw (sym c.board-board.ensures) (unread_prints c.board-board.result.now
    c.args.setup.now.drivers c.args.script.now
    c.in-Err.fault
    (g.W.Write.contents c.args.out.now) c.in-Err.ensures.reads)

pub returns-in-Err-clause-keeps : goal.returns-in-Err-clause-keeps
returns-in-Err-clause-keeps g c =
    rw (sym c.board-board.ensures) (uncalled_keeps g.D.Disk.state g.D.Disk.makes
    c.board-board.result.now
    c.args.disk c.in-Err.fault (reading_is_no_call c.in-Err.fault c.in-Err.ensures.reads))
