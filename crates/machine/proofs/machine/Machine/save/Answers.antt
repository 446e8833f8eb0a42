use Rattle.std.proofs.Common.{◌≡◌, ◌%◌, ◌∙◌, ap, refl, sym, subst, rules, length, Some}
use Rattle.machine.proofs.Common.{slice_get}
use Rattle.machine.proofs.States.{device_back, its, small_of, whole}
use Rattle.machine.specs.Resting.{NotYet, RestsAs, is_its_by}
use Rattle.machine.specs.State.{device_in, is_of, is_state, words_of}
use Rattle.machine.proofs.machine.Machine.save.Goals as goal

pub returns-in_default-rest_at-clause-cause : goal.returns-in_default-rest_at-clause-cause
returns-in_default-rest_at-clause-cause c =
    NotYet refl (sym c.if-not-has.ensures) (search rules)
    (c.rest_at.ensures.none c.in_default-rest_at.is)

pub returns-clause-saved : goal.returns-clause-saved
returns-clause-saved c =
    let m = c.args.self.now in
    let g = c.args.guest in
    let s = c.in-Some.setup.now in
    let it = c.in-Some-rest_at.it in
    let out = c.write_state.new.out in
    let rests = c.in-Some-rest_at.ensures.some in
    let count = length m.setups % 65536 in
    let words : out ≡ words_of count g s it =
    c.write_state.ensures ∙ ap (λ n. words_of n g s it) c.guests.ensures in
    let set_up : slice_get m.setups g ≡ Some s = search rules in
    let back = ap device_in words
    ∙ device_back count g s it (small_of (length rests.device.device.memory) it.queue rests.may) in
    record {
      rests_as = subst (RestsAs m g) (sym back) rests;
      whole = ap is_state words ∙ whole count g s it;
      of_guest = ap (λ o. is_its_by o count g out) set_up ∙ ap (is_of count g s) words
          ∙ its count g s it;
    }
