use Rattle.std.proofs.Common.{◌≡◌, ℕ, List, Err, ap, inl, length, map, refl, subst, sym}
use Rattle.commands.proofs.Common.{Keeps-refl, Said, lines_of, Ends, RunPrints, running, AnyMoment}
use Rattle.script.specs.Line.{line_of, said}
use Rattle.commands.specs.Transcript.{IsBadAt}
use Rattle.commands.specs.declared.fault.Fault.TheVariants as fault
use Rattle.commands.proofs.Cases.{reading_cases}
use Rattle.commands.proofs.Laws.{all_ends, all_prints, all_ran}
use Rattle.commands.proofs.Printing.{none_bad, not_bad, said_good, says_same}
use Rattle.commands.proofs.Walking.{run_unread}
use Rattle.commands.proofs.running.run.Goals as goal

pub returns-in-Ok-clause-ran : goal.returns-in-Ok-clause-ran
returns-in-Ok-clause-ran g c =
    let lines = c.in-Ok.lines.items in
    all_ran g.D.Disk.state g.D.Disk.makes c.args.setup.now c.args.script.now (map said lines)
    c.args.disk (g.W.Write.contents c.args.out.now) c.run_on.result.1
    (g.W.Write.contents c.run_on.new.out) (λ ls says.
    says_same ls lines _ says c.in-Ok.ensures.ok)
    c.run_on.result.0 c.run_on.ensures

pub returns-in-Ok-clause-bad : goal.returns-in-Ok-clause-bad
returns-in-Ok-clause-bad g c n bad =
    absurd (not_bad n _ (none_bad (line_of (length c.args.setup.now.board)) c.in-Ok.lines.items
    (lines_of c.args.script.now) c.in-Ok.ensures.ok) bad)

pub returns-in-Ok-clause-ends : goal.returns-in-Ok-clause-ends
returns-in-Ok-clause-ends g c =
    let lines = c.in-Ok.lines.items in
    all_ends g.D.Disk.state g.D.Disk.makes c.args.setup.now c.args.script.now (map said lines)
    c.args.disk (g.W.Write.contents c.args.out.now) c.run_on.result.1
    (g.W.Write.contents c.run_on.new.out) (λ ls says.
    says_same ls lines _ says c.in-Ok.ensures.ok)
    (none_bad (line_of (length c.args.setup.now.board)) lines (lines_of c.args.script.now)
    c.in-Ok.ensures.ok) c.run_on.result.0 c.run_on.ensures

pub returns-in-Ok-clause-stopped : goal.returns-in-Ok-clause-stopped
returns-in-Ok-clause-stopped g c =
    let lines = c.in-Ok.lines.items in
    all_prints g.D.Disk.state g.D.Disk.makes c.args.setup.now c.args.script.now
    (map said lines) c.args.disk (g.W.Write.contents c.args.out.now) c.run_on.result.1
    (g.W.Write.contents c.run_on.new.out) (λ ls says.
    says_same ls lines _ says c.in-Ok.ensures.ok)
    c.run_on.result.0 c.run_on.ensures

pub returns-in-Ok-clause-moments : goal.returns-in-Ok-clause-moments
returns-in-Ok-clause-moments g c lines is =
    subst (λ (x : List Said). AnyMoment g.D.Disk.state g.D.Disk.makes c.args.setup.now x
    c.args.disk (g.W.Write.contents c.args.out.now) c.run_on.result.0 c.run_on.result.1
    (g.W.Write.contents c.run_on.new.out))
    (sym (says_same lines c.in-Ok.lines.items _ is c.in-Ok.ensures.ok)) c.run_on.ensures

pub returns-in-Err-clause-stopped : goal.returns-in-Err-clause-stopped
returns-in-Err-clause-stopped g c =
    let start = g.W.Write.contents c.args.out.now in
    let s = g.D.Disk.state c.args.disk in
    reading_cases (λ f. RunPrints c.args.setup.now.board c.args.script.now s s f start start)
    (inl (Keeps-refl start)) (λ n. Keeps-refl start) c.in-Err.fault c.in-Err.ensures.reads

pub returns-in-Err-clause-ends : goal.returns-in-Err-clause-ends
returns-in-Err-clause-ends g c =
    let s = g.D.Disk.state c.args.disk in
    reading_cases (λ f. ((n : ℕ) → f ≡ fault.BadScript n
    → IsBadAt c.args.setup.now.board c.args.script.now n)
    → Ends (running c.args.script.now) c.args.setup.now.board s s f) (λ bad. tt) (λ n bad.
    bad n refl)
    c.in-Err.fault c.in-Err.ensures.reads (λ n same. c.in-Err.ensures.bad n (ap Err same))

pub returns-in-Err-clause-moments : goal.returns-in-Err-clause-moments
returns-in-Err-clause-moments g c lines is =
    let start = g.W.Write.contents c.args.out.now in
    reading_cases (λ f. ((n : ℕ) → f ≡ fault.BadScript n
    → IsBadAt c.args.setup.now.board c.args.script.now n)
    → AnyMoment g.D.Disk.state g.D.Disk.makes c.args.setup.now lines c.args.disk start (Err f)
    c.args.disk start)
    (λ bad. run_unread g.D.Disk.state g.D.Disk.makes c.args.setup.now lines c.args.disk start)
    (λ n bad. absurd (not_bad n _ (said_good (line_of (length c.args.setup.now.board)) lines
    (lines_of c.args.script.now) is) (bad n refl)))
    c.in-Err.fault c.in-Err.ensures.reads (λ n same. c.in-Err.ensures.bad n (ap Err same))
