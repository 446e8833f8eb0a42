-- A guest at rest, and a device that goes on.
use Rattle.std.proofs.Common.{◌≡◌, refl, ap, sym, ◌∙◌, ℕ, Bool, true, false, Option, Some, None}
use Rattle.std.proofs.Common.{length, IfSome, List}
use Rattle.std.specs.Prelude.{if◌then◌else◌}
use Rattle.machine.proofs.Common.{slice_get, slice_set, is_some, AskingState, MachineState}
use Rattle.board.proofs.Doing.{set_same}
use Rattle.mmio_transport.specs.Device.{is_ready}
use Rattle.mmio_transport.specs.Resting.{IsSaved, MayGoOn, going_on}
use Rattle.mmio_transport.specs.declared.saving.RestingDevice.{RestingDevice}
use Rattle.machine.specs.Machine.{with_device}
use Rattle.machine.specs.Resting.{HasGuest, IsUnrested, RestsAs, Unrested}
use Rattle.machine.specs.Resting.{goes_on, rests}
use Rattle.machine.specs.Turn.{TurnState, fresh_turn}
use Rattle.machine.specs.declared.settings.Setup.{Setup}

module _ (m : MachineState) (guest : ℕ) (s : Setup) (turn : TurnState) (a : AskingState)
    (its : HasGuest m guest s turn a) where
  pub rests_as : (r : Option RestingDevice) → is_some r ≡ rests turn a → IfSome r (IsSaved a)
      → IfSome r (λ it. MayGoOn (length a.device.memory) it.queue) → IfSome r (RestsAs m guest)
  rests_as (Some it) is saved may = record {
    setup = s;
    turn = turn;
    device = a;
    its = its;
    rests_then = sym is;
    saved = saved;
    may = may;
  }
  rests_as None is saved may = tt

  pub unrested : (r : Option RestingDevice) → is_some r ≡ rests turn a → r ≡ None
      → IsUnrested m guest
  unrested r is none = Unrested s turn a its (sym is ∙ ap is_some none)

either : {X : Type 0} (b : Bool) (x : X) → x ≡ (if b then x else x)
either true x = refl
either false x = refl

-- the machine once a device goes on and its serve is over
pub goes : (m : MachineState) (guest : ℕ) (a d : AskingState) (it : RestingDevice)
    → d ≡ going_on a it
    → (let x : MachineState = record m {
      board = record m.board { devices = slice_set m.board.devices guest d };
      turns = slice_set m.turns guest fresh_turn;
    } in x) ≡ goes_on m guest a it
goes m guest a d it is =
    ap (λ t. (let x : MachineState = record m {
      board = record m.board { devices = slice_set m.board.devices guest d };
      turns = slice_set m.turns guest t;
    } in x)) (either (is_ready d.device.queue) fresh_turn)
    ∙ ap (λ e. with_device m guest e fresh_turn) is

-- and where it stayed
pub stays : (m : MachineState) (guest : ℕ) (a d : AskingState) → d ≡ a
    → slice_get m.board.devices guest ≡ Some a
    → (let x : MachineState = record m {
      board = record m.board { devices = slice_set m.board.devices guest d };
    } in x) ≡ m
stays m guest a d is its =
    let with_ : List AskingState → MachineState =
    λ ds. record m { board = record m.board { devices = ds } } in
    ap (λ e. with_ (slice_set m.board.devices guest e)) is
    ∙ ap with_ (set_same m.board.devices guest a its)
