use Rattle.std.proofs.Common.{List, Option, ℕ, Result, Ok, Err, OnOk, subst}
use Rattle.commands.proofs.Common.{IfErr, Keeps-refl, Appends, chain, ChainCall, HostState, Answer}
use Rattle.commands.proofs.Common.{Stuck, Used, IsOfWriting, KeepsUnless, answer_line, used_line}
use Rattle.commands.proofs.Common.{Fault}
use Rattle.commands.specs.Calling.{LineEnded}
use Rattle.commands.proofs.running.run_chain.Goals as goal

-- the answer was written, or not
written : {D : Type 0} (h h' : HostState D) (guest : ℕ) (readable : List ℕ) (writable : ℕ)
    (answer : Answer) (start now : Option (List ℕ)) (r : Result (Unit {0}) Fault)
    → ChainCall h guest readable writable (Ok answer) h'
    → OnOk r (Appends start now (answer_line guest answer)) → IfErr r IsOfWriting
    → IfErr r (λ f. KeepsUnless f start now) → LineEnded (chain guest readable writable) h start
    r now h'
written h h' guest readable writable answer start now (Ok done) call printed of silent =
    record { answer = answer; call = call; printed = printed }
written h h' guest readable writable answer start now (Err f) call printed of silent =
    (record { told = Ok answer; call = call; cause = of }, silent)

pub returns-in-Ok-Used : goal.returns-in-Ok-Used
returns-in-Ok-Used g c =
    let start = g.W.Write.contents c.args.out.now in
    let now = g.W.Write.contents c.write_reply.new.out in
    let r = c.write_reply in
    record {
      did = written c.args.host.now c.chain.new.self c.args.guest c.args.readable.now
          c.args.writable (Used c.in-Ok-Used.reply) start now r.result
          (subst (λ x. ChainCall c.args.host.now c.args.guest c.args.readable.now c.args.writable
          (Ok x) c.chain.new.self) c.in-Ok-Used.field-0-is c.in-Ok-Used.ensures.call)
          (subst (λ x. OnOk r.result (Appends start now (used_line c.args.guest x)))
          c.as_slice.ensures.value r.ensures.printed) r.ensures.ends r.ensures.silent;
      moves = c.chain.ensures.moves;
      whole = c.chain.ensures.call.others.whole;
      calm = λ before. c.chain.ensures.calm;
    }

pub returns-in-Ok-Stuck : goal.returns-in-Ok-Stuck
returns-in-Ok-Stuck g c =
    let r = c.write_stuck in
    record {
      did = written c.args.host.now c.chain.new.self c.args.guest c.args.readable.now
          c.args.writable (Stuck c.in-Ok-Stuck.stuck) (g.W.Write.contents c.args.out.now)
          (g.W.Write.contents r.new.out) r.result
          (subst (λ x. ChainCall c.args.host.now c.args.guest c.args.readable.now c.args.writable
          (Ok x) c.chain.new.self) c.in-Ok-Stuck.field-0-is c.in-Ok-Stuck.ensures.call)
          r.ensures.printed r.ensures.ends r.ensures.silent;
      moves = c.chain.ensures.moves;
      whole = c.chain.ensures.call.others.whole;
      calm = λ before. c.chain.ensures.calm;
    }

pub returns-in-Err : goal.returns-in-Err
returns-in-Err g c =
    let e = c.in-Err.ensures in
    record {
      did = (
        record { told = Err c.in-Err.fault; call = e.call; cause = c.of.ensures },
        λ not. Keeps-refl (g.W.Write.contents c.args.out.now),
      );
      moves = c.chain.ensures.moves;
      whole = c.chain.ensures.call.others.whole;
      calm = λ before. c.chain.ensures.calm;
    }
