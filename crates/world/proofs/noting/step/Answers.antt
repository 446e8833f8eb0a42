use Rattle.std.proofs.Common.{arith, subst, sym}
use Rattle.world.proofs.Logged.{pop_is, pop_past, publish_is, publish_past, quiet_others}
use Rattle.world.proofs.Logged.{room_for_one, submit_is, submit_past}
use Rattle.world.proofs.Noted.{IsQuiet, quiet_noted}
use Rattle.world.proofs.noting.step.Goals as goal

pub returns-then-at-len-clause-noted : goal.returns-then-at-len-clause-noted
returns-then-at-len-clause-noted c config bases accepted parts linked =
    let past = c.if-at-len.true in
    let long = c.len.ensures in
    let quiet = submit_past config bases accepted parts c.args.board.now linked
    c.args.logs.now.items c.requires.many c.requires.room c.in-Submit.guest c.from-at.result
    c.from-at.ensures (omega (arith, past, long)) in
    quiet_noted config c.args.life c.args.step.now c.step.result c.args.board.now c.step.new.self
    c.args.logs.now.items (subst (λ s. IsQuiet s c.args.board.now) (sym c.in-Submit.is) quiet)
    c.step.ensures.does c.requires.room

pub returns-then-at-len-3-clause-noted : goal.returns-then-at-len-3-clause-noted
returns-then-at-len-3-clause-noted c config bases accepted parts linked =
    let past = c.if-at-len-3.true in
    let long = c.len-in-Publish.ensures in
    let quiet = publish_past config bases accepted parts c.args.board.now linked
    c.args.logs.now.items c.requires.many c.requires.room c.in-Publish.guest
    c.from-at-in-Publish.result c.from-at-in-Publish.ensures (omega (arith, past, long)) in
    quiet_noted config c.args.life c.args.step.now c.step-then-at-len-3.result c.args.board.now
    c.step-then-at-len-3.new.self c.args.logs.now.items
    (subst (λ s. IsQuiet s c.args.board.now) (sym c.in-Publish.is) quiet)
    c.step-then-at-len-3.ensures.does c.requires.room

pub publish-requires : goal.publish-requires
publish-requires c =
    let below = c.if-at-len-3.false in
    let long = c.len-in-Publish.ensures in
    record {
      room = room_for_one c.args.board.now c.args.logs.now.items c.in-Publish.guest
          c.from-at-in-Publish.result c.index_mut-in-Publish.result.now c.requires.many
          c.requires.room c.from-at-in-Publish.ensures (omega (arith, below, long))
          c.index_mut-in-Publish.ensures.value;
    }

pub returns-else-at-len-clause-noted : goal.returns-else-at-len-clause-noted
returns-else-at-len-clause-noted c config bases accepted parts linked =
    let below = c.if-at-len.false in
    let long = c.len.ensures in
    submit_is config bases accepted parts c.args.board.now linked c.args.logs.now.items
    c.requires.many c.requires.room c.args.life c.args.step.now c.in-Submit.guest
    c.from-at.result c.submit.result c.submit.new.board c.index_mut.result.now c.submit.new.log
    c.in-Submit.is c.from-at.ensures (omega (arith, below, long)) c.index_mut.ensures.value
    c.submit.ensures.submits

pub returns-else-at-len-3-clause-noted : goal.returns-else-at-len-3-clause-noted
returns-else-at-len-3-clause-noted c config bases accepted parts linked =
    let below = c.if-at-len-3.false in
    let long = c.len-in-Publish.ensures in
    publish_is config bases accepted parts c.args.board.now linked c.args.logs.now.items
    c.requires.many c.requires.room c.args.life c.args.step.now c.in-Publish.guest
    c.from-at-in-Publish.result c.publish.result c.publish.new.board
    c.index_mut-in-Publish.result.now c.publish.new.log
    c.in-Publish.is c.from-at-in-Publish.ensures (omega (arith, below, long))
    c.index_mut-in-Publish.ensures.value c.publish.ensures.does c.publish.ensures.log

pub returns-in-Drive-clause-noted : goal.returns-in-Drive-clause-noted
returns-in-Drive-clause-noted c config bases accepted parts linked =
    quiet_noted config c.args.life c.args.step.now c.step-in-Drive.result c.args.board.now
    c.step-in-Drive.new.self c.args.logs.now.items
    (quiet_others c.args.step.now c.args.board.now c.in-Drive.is) c.step-in-Drive.ensures.does
    c.requires.room

pub returns-then-at-len-2-clause-noted : goal.returns-then-at-len-2-clause-noted
returns-then-at-len-2-clause-noted c config bases accepted parts linked =
    let past = c.if-at-len-2.true in
    let long = c.len-in-Pop.ensures in
    let quiet = pop_past config bases accepted parts c.args.board.now linked c.args.logs.now.items
    c.requires.many c.requires.room c.in-Pop.guest c.from-at-in-Pop.result
    c.from-at-in-Pop.ensures (omega (arith, past, long)) in
    quiet_noted config c.args.life c.args.step.now c.step-then-at-len-2.result c.args.board.now
    c.step-then-at-len-2.new.self c.args.logs.now.items
    (subst (λ s. IsQuiet s c.args.board.now) (sym c.in-Pop.is) quiet)
    c.step-then-at-len-2.ensures.does c.requires.room

pub returns-else-at-len-2-clause-noted : goal.returns-else-at-len-2-clause-noted
returns-else-at-len-2-clause-noted c config bases accepted parts linked =
    let below = c.if-at-len-2.false in
    let long = c.len-in-Pop.ensures in
    pop_is config bases accepted parts c.args.board.now linked c.args.logs.now.items c.requires.many
    c.requires.room c.args.life c.args.step.now c.in-Pop.guest c.from-at-in-Pop.result
    c.pop.result c.pop.new.board c.index_mut-in-Pop.result.now c.pop.new.log
    c.in-Pop.is c.from-at-in-Pop.ensures (omega (arith, below, long))
    c.index_mut-in-Pop.ensures.value c.pop.ensures.pops
