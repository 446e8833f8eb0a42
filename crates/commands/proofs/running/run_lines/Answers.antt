use Rattle.std.proofs.Common.{◌≡◌, ◌+◌, ◌<◌, Err, List, [], Ok, ap, length, map, subst, sym, arith}
use Rattle.commands.proofs.Common.{All, length-map, last_count, Line, seen, moves_none, moves_twice}
use Rattle.commands.proofs.Common.{LineRuns, NextFails, NextEnds, Walked, moment_of, AreWithin}
use Rattle.commands.proofs.Common.{IsSized}
use Rattle.std.proofs.lemmas.Result.{err_from_is_err_and}
use Rattle.script.specs.Line.{said}
use Rattle.commands.proofs.Printing.{head_within, none_left, rest_sized, rest_within}
use Rattle.commands.proofs.Reasons.{line_ends}
use Rattle.commands.proofs.Walking.{done_at, walk_begins, walk_on}
use Rattle.commands.proofs.running.run_lines.Goals as goal

pub loop-line-init : goal.loop-line-init
loop-line-init g c =
    let same = sym c.into_iter-line-iterator.ensures.into_iter_gives.0 in
    let start = g.W.Write.contents c.args.out.now in
    let all = map said c.args.lines.items in
    let sized : List Line → Type 0 = λ ls. All (λ l. IsSized (said l)) ls in (
      subst sized same c.requires,
      (λ guests within. subst (AreWithin guests) same within),
      moves_none g.D.Disk.state g.D.Disk.makes c.args.host.now.board,
      (λ setup partitions starts within.
          subst (λ ls. Walked g.D.Disk.state g.D.Disk.makes setup partitions all start
          (moment_of (λ k. []) c.args.host.now start) ls c.args.host.now start) (ap (map said) same)
          (walk_begins g.D.Disk.state g.D.Disk.makes setup partitions c.args.host.now all start
          starts)),
    )

pub loop-line-preserved : goal.loop-line-preserved
loop-line-preserved g c =
    let now = c.loop-line in
    let all = map said c.args.lines.items in
    let start = g.W.Write.contents c.args.out.now in
    let here = g.W.Write.contents now.out in
    let next = g.W.Write.contents c.run_line.new.out in
    let few : length all + 2 < last_count = omega (
      arith,
      length-map c.args.lines.items said,
      c.args.lines.ok,
      c.args.lines.small,
    ) in
    let rest = c.in-Some.ensures.steps.0 in
    let left = c.next.new.self.rest.items in
    let ran : LineRuns g.D.Disk.state g.D.Disk.makes (said c.in-Some.line) now.host here (Ok tt)
    next c.run_line.new.host = c.in_ok-run_line.ensures in
    let sized : List Line → Type 0 = λ ls. All (λ l. IsSized (said l)) ls in (
      rest_sized c.in-Some.line left (subst sized rest now.invariant.0),
      (λ guests within. rest_within guests c.in-Some.line left
          (subst (AreWithin guests) rest (now.invariant.1 guests within))),
      moves_twice g.D.Disk.state g.D.Disk.makes c.args.host.now.board now.host.board
          c.run_line.new.host.board now.invariant.2 ran.moves,
      (λ setup partitions starts within.
          let first = moment_of (λ k. []) c.args.host.now start in
          let so = subst (λ ls. Walked g.D.Disk.state g.D.Disk.makes setup partitions all start
          first ls now.host here) (ap (map said) rest)
          (now.invariant.3 setup partitions starts within) in
          walk_on g.D.Disk.state g.D.Disk.makes setup partitions all start first
          (said c.in-Some.line) (map said left) now.host c.run_line.new.host here next few so
          ran
          (head_within (length setup.board) c.in-Some.line left
          (subst (AreWithin (length setup.board)) rest
          (now.invariant.1 (length setup.board) within)))),
    )

pub returns-clause-moments : goal.returns-clause-moments
returns-clause-moments g c setup partitions starts within =
    let now = c.loop-line in
    let start = g.W.Write.contents c.args.out.now in
    let left = now.line-iterator.rest in
    let long : left.len ≡ length left.items = omega (arith, left.ok) in
    let rest = ap (map said) (none_left left.items left.len c.in-None.ensures.steps.0 long) in
    subst (λ ls. Walked g.D.Disk.state g.D.Disk.makes setup partitions (map said c.args.lines.items)
    start (moment_of (λ k. []) c.args.host.now start) ls now.host (g.W.Write.contents now.out))
    rest (now.invariant.3 setup partitions starts within)

pub returns-in_err-run_line-clause-moves : goal.returns-in_err-run_line-clause-moves
returns-in_err-run_line-clause-moves g c =
    moves_twice g.D.Disk.state g.D.Disk.makes c.args.host.now.board c.loop-line.host.board
    c.run_line.new.host.board c.loop-line.invariant.2 c.in_err-run_line.ensures.moves

pub returns-in_err-run_line-clause-moments : goal.returns-in_err-run_line-clause-moments
returns-in_err-run_line-clause-moments g c =
    let now = c.loop-line in
    let rest = c.in-Some.ensures.steps.0 in
    let f = c.in_err-run_line.field-0.0 in
    let h = c.run_line.new.host in
    let ran : LineRuns g.D.Disk.state g.D.Disk.makes (said c.in-Some.line) now.host
    (g.W.Write.contents now.out) (Err f) (g.W.Write.contents c.run_line.new.out) h =
    c.in_err-run_line.ensures in
    let p = err_from_is_err_and c.from_residual.result c.from_residual.ensures.1 in
    rw (p.1, p.2) (λ setup partitions starts within.
    let walked = now.invariant.3 setup partitions starts within in
    record {
      rest = map said now.line-iterator.rest.items;
      before = now.host;
      printed = g.W.Write.contents now.out;
      walked = walked;
      moves = ran.moves;
      silent = ran.did.1;
      reason = subst (NextEnds setup.board (seen h).runner.answered f)
          (sym (ap (map said) rest))
          (line_ends setup (said c.in-Some.line) now.host h f ran.did.0
          (done_at {first = moment_of (λ k. []) c.args.host.now (g.W.Write.contents c.args.out.now)}
          walked.trail).guests
          (head_within (length setup.board) c.in-Some.line c.next.new.self.rest.items
          (subst (AreWithin (length setup.board)) rest
          (now.invariant.1 (length setup.board) within))));
      fails = subst (λ ls. NextFails ls now.host f h) (sym (ap (map said) rest)) ran.did.0;
    })
