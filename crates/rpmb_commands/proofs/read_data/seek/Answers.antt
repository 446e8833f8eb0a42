use Rattle.std.proofs.Common.{IfSome, string_bytes, subst, sym, true}
use Rattle.rpmb_commands.specs.Explaining.{IsNext}
use Rattle.rpmb_commands.proofs.WholeText.{sought_all, sought_more, sought_none}
use Rattle.rpmb_commands.proofs.read_data.seek.Goals as goal

pub loop-number-init : goal.loop-number-init
loop-number-init g c =
    sought_none c.args.nonce.now (g.B.Read.remaining c.args.input.now) c.new-finder.result
    c.new-finder.ensures

pub loop-number-preserved : goal.loop-number-preserved
loop-number-preserved g c =
    let left = g.B.Read.remaining c.loop-number.input in
    let after = g.B.Read.remaining c.next_line.new.input in
    let more = subst (λ b. IfSome left (λ text. IsNext text b (string_bytes c.next_line.new.line)
    after)) c.if-not-branch.false c.in_ok-next_line.ensures.next in
    let text = subst (λ l. IfSome left (λ text. IsNext text true l after))
    (sym c.as_str.ensures.value) more in
    sought_more c.args.nonce.now (g.B.Read.remaining c.args.input.now) left after
    c.as_str.result.now c.loop-number.finder c.take_line.new.finder c.loop-number.invariant text
    c.in_ok-take_line.ensures.taken

pub returns-then-not-branch-clause-found : goal.returns-then-not-branch-clause-found
returns-then-not-branch-clause-found g c =
    let left = g.B.Read.remaining c.loop-number.input in
    let after = g.B.Read.remaining c.next_line.new.input in
    let line = string_bytes c.next_line.new.line in
    let none = subst (λ b. IfSome left (λ text. IsNext text b line after)) c.if-not-branch.true
    c.in_ok-next_line.ensures.next in
    sought_all c.args.nonce.now (g.B.Read.remaining c.args.input.now) left after line
    c.loop-number.finder c.loop-number.invariant none
