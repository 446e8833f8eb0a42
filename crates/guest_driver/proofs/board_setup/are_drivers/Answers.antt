use Rattle.std.proofs.Common.{arith, refl}
use Rattle.std.proofs.lemmas.Option.{slice_get_within}
use Rattle.guest_driver.proofs.BoardSetups.{one_more_fits}
use Rattle.guest_driver.proofs.board_setup.are_drivers.Goals as goal

pub loop-i-preserved : goal.loop-i-preserved
loop-i-preserved c =
    one_more_fits c.args.guests.now c.args.drivers.now c.loop-i.i _ _ c.loop-i.invariant
    (c.fits.ensures.0 c.if-not-fits.false)

pub returns : goal.returns
returns c = (
  λ yes. record {
    count = c.if-drivers-guests.false;
    each = λ n g d at there.
        let within = slice_get_within c.args.guests.now n g at in
        let all = c.loop-i-test.false in
        c.loop-i.invariant n g d (omega (arith, within, all)) at there;
  },
  λ are. refl,
)
