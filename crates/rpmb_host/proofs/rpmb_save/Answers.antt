use Rattle.std.proofs.Common.{length, subst}
use Rattle.machine.specs.Resting.{HasSavingFault}
use Rattle.rpmb_host.specs.Calls.{Holds}
use Rattle.rpmb_host.specs.States.{Unsaved}
use Rattle.rpmb_host.proofs.rpmb_save.Goals as goal

pub returns-in-Err-clause-refused : goal.returns-in-Err-clause-refused
returns-in-Err-clause-refused c some =
    subst (λ o. Holds o (Unsaved c.args.guest (length c.args.state.now) c.fault_number.result))
    c.take-machine.ensures.machine
    (record {
      fault = c.in-Err.fault;
      numbered = c.fault_number.ensures.value;
      cause = subst (λ m. HasSavingFault m c.args.guest (length c.args.state.now) c.in-Err.fault)
          c.deref.ensures c.in-Err.ensures.cause;
    })
