use Rattle.std.proofs.Common.{refl, subst}
use Rattle.machine.proofs.Common.{MachineState}
use Rattle.disk.specs.declared.outbox_disk.Told.TheVariants.{Failed, Synced}
use Rattle.machine.specs.Machine.{Completes}
use Rattle.machine.proofs.Completing.{completes}
use Rattle.machine.proofs.machine.Machine.completed.Goals as goal

pub returns-then-not-succeeded-clause-failed : goal.returns-then-not-succeeded-clause-failed
returns-then-not-succeeded-clause-failed c not =
    let m : MachineState = record {
      board = c.self.inside.board;
      setups = c.self.inside.setups.items;
      turns = c.self.inside.turns.items;
    } in (
      refl,
      subst (λ (x : MachineState). Completes Failed x (record m { board = c.go_on.new.board }))
          c.self.view_is
          (completes Failed m c.tell.new.self c.go_on.new.board c.tell.ensures
          c.go_on.ensures.hears c.go_on.ensures.devices),
    )

pub returns-clause-synced : goal.returns-clause-synced
returns-clause-synced c succeeded awaited =
    let m : MachineState = record {
      board = c.self.inside.board;
      setups = c.self.inside.setups.items;
      turns = c.self.inside.turns.items;
    } in (
      refl,
      subst (λ (x : MachineState). Completes Synced x (record m { board = c.go_on-2.new.board }))
          c.self.view_is
          (completes Synced m c.tell-2.new.self c.go_on-2.new.board c.tell-2.ensures
          c.go_on-2.ensures.hears c.go_on-2.ensures.devices),
    )
