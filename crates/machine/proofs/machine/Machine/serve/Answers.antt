use Rattle.std.proofs.Common.{◌≡◌, ◌∙◌, ap, false, sym, subst, arith, rules}
use Rattle.machine.proofs.Common.{slice_get_read, IsServed, MachineState, slice_set}
use Rattle.machine.specs.Machine.{HasCopies, TellsOf, has_guest}
use Rattle.machine.specs.Turn.{stand_of}
use Rattle.machine.proofs.Copies.{copies_of, copies_set, served_copied, served_know}
use Rattle.machine.proofs.Completing.{serves, serves_none}
use Rattle.machine.proofs.Popping.{some_at}
use Rattle.machine.proofs.Told.{has_all, no_device, no_setup, no_turn, tells_absent, tells_of}
use Rattle.machine.proofs.Told.{tells_room}
use Rattle.machine.proofs.machine.Machine.serve.Goals.{then-at-len-via-then-at-len}
use Rattle.machine.proofs.machine.Machine.serve.Goals.{then-at-len-via-else-at-len+then-at-len-2}
use Rattle.machine.proofs.machine.Machine.serve.Goals.{then-at-len-via-else-at-len+else-at-len-2+then-at-guests}
use Rattle.machine.proofs.machine.Machine.serve.Goals as goal

pub returns-then-at-len-clause-served : goal.returns-then-at-len-clause-served
returns-then-at-len-clause-served c = serves_none c.args.guest c.args.self.now

pub returns-then-at-len-clause-tells : goal.returns-then-at-len-clause-tells
returns-then-at-len-clause-tells c =
    let m : MachineState = record {
      board = c.self.inside.board;
      setups = c.self.inside.setups.items;
      turns = c.self.inside.turns.items;
    } in
    let g = c.args.guest in
    let same = c.from-at.ensures in
    let gone : has_guest m g ≡ false = elim c.then-at-len.branch [
      | then-at-len-via-then-at-len w ↦ (let past = w.if-at-len.true in let long = c.len.ensures in
          no_setup m g (omega (arith, past, long, same)))
      | then-at-len-via-else-at-len+then-at-len-2 w ↦ (let past = w.if-at-len-2.true in
          let long = w.len-else-at-len.ensures in no_turn m g (omega (arith, past, long, same)))
      | then-at-len-via-else-at-len+else-at-len-2+then-at-guests w ↦
          (let past = w.if-at-guests.true in let long = w.guests.ensures in
          no_device m g (omega (arith, past, long, same)))
    ] in
    tells_absent c.args.self.now g c.args.is_there c.args.bytes.now c.served.result
    (ap (λ (x : MachineState). has_guest x g) (sym c.self.view_is) ∙ gone)
    c.served.ensures.next c.served.ensures.sync c.served.ensures.waiting

pub returns-then-bytes-lt-LARGEST_PART-clause-served : goal.returns-then-bytes-lt-LARGEST_PART-clause-served
returns-then-bytes-lt-LARGEST_PART-clause-served c = serves_none c.args.guest c.args.self.now

pub returns-then-bytes-lt-LARGEST_PART-clause-tells : goal.returns-then-bytes-lt-LARGEST_PART-clause-tells
returns-then-bytes-lt-LARGEST_PART-clause-tells c =
    let m : MachineState = record {
      board = c.self.inside.board;
      setups = c.self.inside.setups.items;
      turns = c.self.inside.turns.items;
    } in
    let g = c.args.guest in
    let same = c.from-at.ensures in
    let s = c.served-then-bytes-lt-LARGEST_PART in
    let in_setups = c.if-at-len.false in
    let many_setups = c.len.ensures in
    let in_turns = c.if-at-len-2.false in
    let many_turns = c.len-else-at-len.ensures in
    let in_devices = c.if-at-guests.false in
    let many_devices = c.guests.ensures in
    let setup = some_at m.setups g (omega (arith, in_setups, many_setups, same)) in
    let turn = some_at m.turns g (omega (arith, in_turns, many_turns, same)) in
    let device = some_at m.board.devices g (omega (arith, in_devices, many_devices, same)) in
    let short = c.if-bytes-lt-LARGEST_PART.true in
    tells_room c.args.self.now g c.args.is_there c.args.bytes.now s.result
    (ap (λ (x : MachineState). has_guest x g) (sym c.self.view_is)
    ∙ has_all m g setup.0 turn.0 device.0 setup.1 turn.1 device.1) (omega (arith, short))
    s.ensures.next s.ensures.sync s.ensures.waiting

pub returns-clause-served : goal.returns-clause-served
returns-clause-served c =
    let g = c.args.guest in
    let m : MachineState = record {
      board = c.self.inside.board;
      setups = c.self.inside.setups.items;
      turns = c.self.inside.turns.items;
    } in
    let s = c.serve_turn-next in
    let its = slice_get_read m.turns c.len-else-at-len.result g c.index_mut-turn.result.now
    (search rules) (search rules) (search rules) in
    subst (λ (x : MachineState). IsServed g x (record m {
      board = s.new.board;
      turns = slice_set m.turns c.from-at.result s.new.turn;
    })) c.self.view_is
    (subst (λ k. IsServed g m (record m {
      board = s.new.board;
      turns = slice_set m.turns k s.new.turn;
    })) (sym c.from-at.ensures)
    (serves g c.most-most.result m c.index_mut-turn.result.now s.new.turn s.ensures.heard.left _
    s.ensures.heard.heard
    s.new.board its s.ensures.heard.begins s.ensures.heard.runs))

pub returns-clause-tells : goal.returns-clause-tells
returns-clause-tells c =
    let g = c.args.guest in
    let m : MachineState = record {
      board = c.self.inside.board;
      setups = c.self.inside.setups.items;
      turns = c.self.inside.turns.items;
    } in
    let s = c.serve_turn-next in
    let its = slice_get_read m.turns c.len-else-at-len.result g c.index_mut-turn.result.now
    (search rules) (search rules) (search rules) in
    let setup = slice_get_read m.setups c.len.result g c.index.result.now
    (search rules) (search rules) (search rules) in
    let below = c.if-at-guests.false in
    let long = c.guests.ensures in
    let same = c.from-at.ensures in
    let device = some_at m.board.devices g (omega (arith, below, long, same)) in
    let there = c.args.is_there in
    let given = c.args.bytes.now in
    let room = c.if-bytes-lt-LARGEST_PART.false in
    subst (λ (x : MachineState). TellsOf g there given c.served-2.result s.new.bytes x (record m {
      board = s.new.board;
      turns = slice_set m.turns c.from-at.result s.new.turn;
    })) c.self.view_is
    (subst (λ k. TellsOf g there given c.served-2.result s.new.bytes m (record m {
      board = s.new.board;
      turns = slice_set m.turns k s.new.turn;
    })) (sym same)
    (tells_of m g c.most-most.result c.index.result.now c.index_mut-turn.result.now s.new.turn there
    given s.new.board s.new.bytes s.result c.served-2.result c.most-most.ensures setup its
    (has_all m g c.index.result.now c.index_mut-turn.result.now device.0 setup its device.1)
    (omega (arith, room)) c.served-2.ensures.next s.ensures.heard
    c.served-2.ensures.sync c.served-2.ensures.waiting))

pub invariant_of-self : goal.invariant_of-self
invariant_of-self c =
    let g = c.args.guest in
    let turns = c.self.inside.turns.items in
    let board = c.self.inside.board in
    let s = c.serve_turn-next in
    let h = s.ensures.heard in
    let turn = c.index_mut-turn.result.now in
    let its = slice_get_read turns c.len-else-at-len.result g turn
    (search rules) (search rules) (search rules) in
    subst (λ k. HasCopies (slice_set turns k s.new.turn) s.new.board) (sym c.from-at.ensures)
    (copies_set turns g s.new.turn board s.new.board
    (served_know g c.most-most.result (stand_of turn) h.left board h.heard s.new.board s.result
    s.new.turn h.begins
    h.runs)
    (served_copied g c.most-most.result (stand_of turn) h.left board h.heard s.new.board s.result
    s.new.turn h.begins
    h.runs (copies_of turns board g turn c.self.invariant its))
    c.self.invariant)
