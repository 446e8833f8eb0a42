use Rattle.std.proofs.Common.{◌++◌, ap, refl}
use Rattle.mmio_transport.specs.Asking.{first_asking}
use Rattle.board.specs.Asking.{first_asked}
use Rattle.board.proofs.Openings.{first_more, first_all}
use Rattle.board.proofs.opening.asking_devices.Goals as goal

pub loop-i-init : goal.loop-i-init
loop-i-init c = ap (λ x. x ++ first_asked 0 c.args.guests.now) c.in_ok-devices.ensures.items

pub loop-i-preserved : goal.loop-i-preserved
loop-i-preserved c =
    let configs = c.args.guests.now in
    first_more first_asking first_asked (λ n. refl) (λ n c cs. refl) c.loop-i.devices.items
    c.push.new.self.items (first_asked 0 configs) c.loop-i.i configs _ c.new.result
    c.loop-i-test.true c.new.ensures
    c.in_ok-push.ensures.items c.loop-i.invariant

pub returns : goal.returns
returns c =
    let configs = c.args.guests.now in
    first_all first_asking first_asked (λ n. refl) (λ n c cs. refl) c.loop-i.devices.items
    (first_asked 0 configs) c.loop-i.i configs c.loop-i-test.false c.loop-i.invariant
