use Rattle.std.proofs.Common.{subst}
use Rattle.machine.specs.Resting.{HasLoadingFault}
use Rattle.rpmb_host.specs.Calls.{Holds}
use Rattle.rpmb_host.specs.States.{Unloaded}
use Rattle.rpmb_host.proofs.rpmb_load.Goals as goal

pub returns-in-Err-clause-refused : goal.returns-in-Err-clause-refused
returns-in-Err-clause-refused c some =
    subst (λ o. Holds o (Unloaded c.args.guest c.fault_number.result c.args.state.now))
    c.take-machine.ensures.machine
    (record {
      fault = c.in-Err.fault;
      numbered = c.fault_number.ensures.value;
      cause = subst (λ m. HasLoadingFault m c.args.guest c.args.state.now c.in-Err.fault)
          c.deref_mut.ensures.value c.in-Err.ensures.cause;
    })
