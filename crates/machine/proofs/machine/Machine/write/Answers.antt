use Rattle.std.proofs.Common.{◌≡◌, ap, refl, sym, ◌∙◌, arith, rules, true, false}
use Rattle.machine.proofs.Common.{slice_get_read, slice_set, is_some, AskingState, Boards}
use Rattle.machine.proofs.Common.{MachineState}
use Rattle.mmio_transport.specs.Device.{is_ready, kick_of}
use Rattle.machine.specs.Machine.{kick_in, written_in}
use Rattle.machine.specs.Settings.{device_after}
use Rattle.machine.proofs.Copies.{copies_lent}
use Rattle.machine.proofs.Popping.{some_at}
use Rattle.machine.proofs.Writing.{kick_written, ready_of, written_fresh, written_ready}
use Rattle.machine.proofs.machine.Machine.write.Goals as goal

pub invariant_of-self-else-not-is_ready : goal.invariant_of-self-else-not-is_ready
invariant_of-self-else-not-is_ready c =
    let g = c.args.guest in
    let turns = c.self.inside.turns.items in
    let board = c.self.inside.board in
    let below = c.if-at-len-2.false in
    let long = c.len-else-at-len.ensures in
    let same = c.from-at.ensures in
    let turn = some_at turns g (omega (arith, below, long, same)) in
    let d' = c.write-kick.new.self in
    let after : d' ≡ device_after c.index-setup.result.now c.device-device.result.now c.args.offset
    c.args.width c.args.value = search rules in
    copies_lent turns g turn.0 board (record board { devices = slice_set board.devices g d' })
    c.device-device.result.now d' turn.1 c.device-device.ensures.device refl
    (ap (λ (x : AskingState). x.held) after) c.self.invariant

pub returns-else-not-is_ready-clause-state : goal.returns-else-not-is_ready-clause-state
returns-else-not-is_ready-clause-state c =
    let g = c.args.guest in
    let m : MachineState = record {
      board = c.self.inside.board;
      setups = c.self.inside.setups.items;
      turns = c.self.inside.turns.items;
    } in
    let setup = slice_get_read m.setups c.len.result g c.index-setup.result.now
    (search rules) (search rules) (search rules) in
    let below = c.if-at-len-2.false in
    let long = c.len-else-at-len.ensures in
    let same = c.from-at.ensures in
    let turn = some_at m.turns g (omega (arith, below, long, same)) in
    let d' = c.write-kick.new.self in
    let after : d' ≡ device_after c.index-setup.result.now c.device-device.result.now c.args.offset
    c.args.width c.args.value = search rules in
    let ready : is_ready d'.device.queue ≡ true = sym (ready_of d'.device.queue)
    ∙ ap is_some (sym c.written.ensures.names) ∙ sym c.is_some-is_ready.ensures
    ∙ c.if-not-is_ready.false in
    written_ready m g c.args.offset c.args.width c.args.value c.index-setup.result.now
    c.device-device.result.now d' turn.0 setup c.device-device.ensures.device turn.1 after ready
    ∙ ap (λ (x : MachineState). written_in x g c.args.offset c.args.width c.args.value)
    c.self.view_is

pub returns-else-not-is_ready-clause-kick : goal.returns-else-not-is_ready-clause-kick
returns-else-not-is_ready-clause-kick c =
    let g = c.args.guest in
    let m : MachineState = record {
      board = c.self.inside.board;
      setups = c.self.inside.setups.items;
      turns = c.self.inside.turns.items;
    } in
    let setup = slice_get_read m.setups c.len.result g c.index-setup.result.now
    (search rules) (search rules) (search rules) in
    let below = c.if-at-len-2.false in
    let long = c.len-else-at-len.ensures in
    let same = c.from-at.ensures in
    let turn = some_at m.turns g (omega (arith, below, long, same)) in
    c.write-kick.ensures.kick
    ∙ ap (kick_of c.args.offset c.args.width) c.taken-taken.ensures.value
    ∙ kick_written m g c.args.offset c.args.width c.args.value c.index-setup.result.now
    c.device-device.result.now c.write-kick.new.self turn.0 setup c.device-device.ensures.device
    turn.1
    ∙ ap (λ (x : MachineState). kick_in x g c.args.offset c.args.width c.args.value)
    c.self.view_is

pub returns-then-not-is_ready-clause-kick : goal.returns-then-not-is_ready-clause-kick
returns-then-not-is_ready-clause-kick c =
    let g = c.args.guest in
    let m : MachineState = record {
      board = c.self.inside.board;
      setups = c.self.inside.setups.items;
      turns = c.self.inside.turns.items;
    } in
    let setup = slice_get_read m.setups c.len.result g c.index-setup.result.now
    (search rules) (search rules) (search rules) in
    let below = c.if-at-len-2.false in
    let long = c.len-else-at-len.ensures in
    let same = c.from-at.ensures in
    let turn = some_at m.turns g (omega (arith, below, long, same)) in
    c.write-kick.ensures.kick
    ∙ ap (kick_of c.args.offset c.args.width) c.taken-taken.ensures.value
    ∙ kick_written m g c.args.offset c.args.width c.args.value c.index-setup.result.now
    c.device-device.result.now c.write-kick.new.self turn.0 setup c.device-device.ensures.device
    turn.1
    ∙ ap (λ (x : MachineState). kick_in x g c.args.offset c.args.width c.args.value)
    c.self.view_is

pub returns-then-not-is_ready-clause-state : goal.returns-then-not-is_ready-clause-state
returns-then-not-is_ready-clause-state c =
    let g = c.args.guest in
    let m : MachineState = record {
      board = c.self.inside.board;
      setups = c.self.inside.setups.items;
      turns = c.self.inside.turns.items;
    } in
    let setup = slice_get_read m.setups c.len.result g c.index-setup.result.now
    (search rules) (search rules) (search rules) in
    let below = c.if-at-len-2.false in
    let long = c.len-else-at-len.ensures in
    let same = c.from-at.ensures in
    let turn = some_at m.turns g (omega (arith, below, long, same)) in
    let d' = c.write-kick.new.self in
    let after : d' ≡ device_after c.index-setup.result.now c.device-device.result.now c.args.offset
    c.args.width c.args.value = search rules in
    let not_ready : is_ready d'.device.queue ≡ false = sym (ready_of d'.device.queue)
    ∙ ap is_some (sym c.written.ensures.names) ∙ sym c.is_some-is_ready.ensures
    ∙ c.if-not-is_ready.true in
    let board : Boards = record m.board { devices = slice_set m.board.devices g d' } in
    ap (λ k. (let x : MachineState = record m {
      board = board;
      turns = slice_set m.turns k c.cancel.new.self;
    } in x)) same
    ∙ ap (λ t. (let x : MachineState = record m {
      board = board;
      turns = slice_set m.turns g t;
    } in x)) c.cancel.ensures
    ∙ written_fresh m g c.args.offset c.args.width c.args.value c.index-setup.result.now
    c.device-device.result.now d' turn.0 setup c.device-device.ensures.device turn.1 after not_ready
    ∙ ap (λ (x : MachineState). written_in x g c.args.offset c.args.width c.args.value)
    c.self.view_is
