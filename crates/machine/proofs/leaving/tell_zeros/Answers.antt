use Rattle.std.proofs.Common.{◌≡◌, ◌∙◌, ◌≤◌, ℕ, List, ap, arith, length, refl, rules, subst, sym}
use Rattle.std.proofs.lemmas.List.{length-take}
use Rattle.std.specs.Prelude.{min}
use Rattle.std.proofs.lemmas.List.Elements.{All-replicate, All-take}
use Rattle.std.specs.Prelude.{All, IsSome, replicate, take, Some}
use Rattle.machine.proofs.Common.{AskingState, Boards, Range, Still, slice_get, slice_get_read}
use Rattle.machine.proofs.Common.{in_place, standing}
use Rattle.std.proofs.Common.{length-set}
use Rattle.machine.specs.Serving.{ByAReply, IsNoted, IsToWrite, QueuesStay}
use Rattle.machine.proofs.Moved.{moved, told_queues, told_runs}
use Rattle.machine.proofs.Replies.{due_noted, noted_same}
use Rattle.machine.proofs.Runs.{runs_twice}
use Rattle.machine.proofs.leaving.tell_zeros.Goals as goal

-- the front of so many zeros
zeros : (n : ℕ) → All (λ (v : ℕ). v ≡ 0) (take n (replicate 8192 0))
zeros n =
    All-take (λ (v : ℕ). v ≡ 0) n (replicate 8192 0) (All-replicate (λ (v : ℕ). v ≡ 0) 8192 0 refl)

-- they are as many as the part has bytes, or fewer
few_zeros : (n len : ℕ) → n ≡ min len 8192
    → length {A = ℕ} (take n (replicate 8192 0)) ≤ len
few_zeros n len is =
    let long = length-take {A = ℕ} n (replicate 8192 0) in omega (arith, long, is)

-- the part is one of those that were noted
own_part : (guest i : ℕ) (ps : List Range) (a b : Boards) (d : AskingState) (part : Range)
    → IsSome (in_place (slice_get a.rest.dones guest)) → IsNoted guest ps a → b.rest ≡ a.rest
    → QueuesStay a b → slice_get b.devices guest ≡ Some d → slice_get ps i ≡ Some part
    → IsToWrite guest b d part
own_part guest i ps a b d part lies noted rest queues its at =
    ByAReply i (ap (λ qs. slice_get qs i)
    (due_noted guest ps b d (subst (λ r. IsSome (in_place (slice_get r.dones guest)))
    (sym rest) lies)
    (noted_same guest ps a b rest queues noted) its) ∙ at)

pub loop-i-init : goal.loop-i-init
loop-i-init c = ((λ most ps v w. Still (standing ps v w) c.args.board.now), refl, refl, refl)

pub loop-i-preserved : goal.loop-i-preserved
loop-i-preserved c =
    let g = c.args.guest in
    let b = c.loop-i.board in
    let t = c.tell.ensures in
    let part = c.index-part.result.now in
    let at : slice_get c.turn.inside.parts.items c.loop-i.i ≡ Some part =
    slice_get_read c.turn.inside.parts.items c.len-i-end.result c.loop-i.i part (search rules)
    (search rules) (search rules) in
    let own = own_part g c.loop-i.i c.args.turn.now.parts c.args.board.now b c.device.result.now
    part
    c.requires.lies c.requires.noted c.loop-i.invariant.1 c.loop-i.invariant.2
    c.device.ensures.device
    (ap (λ v. slice_get v.parts c.loop-i.i) (sym c.turn.view_is) ∙ at) in (
      (λ most ps v w. runs_twice g most (standing ps v w) (standing ps v w)
          (standing ps v w) c.args.board.now b
          (moved b g c.tell.new.self) (c.loop-i.invariant.0 most ps v w)
          (told_runs g b c.device.result.now c.tell.new.self c.device.ensures.device most ps v w
          part _
          c.tell.result own (few_zeros c.min-count.result part.len c.min-count.ensures)
          (zeros c.min-count.result) t.ok t.unchanged)),
      c.loop-i.invariant.1,
      told_queues g b c.device.result.now c.tell.new.self c.device.ensures.device part.at _
          c.tell.result t.ok t.unchanged ∙ c.loop-i.invariant.2,
      length-set b.devices g c.tell.new.self ∙ c.loop-i.invariant.3,
    )

pub returns-then-is_err-clause-runs : goal.returns-then-is_err-clause-runs
returns-then-is_err-clause-runs c most ps v w =
    let g = c.args.guest in
    let b = c.loop-i.board in
    let t = c.tell.ensures in
    let part = c.index-part.result.now in
    let at : slice_get c.turn.inside.parts.items c.loop-i.i ≡ Some part =
    slice_get_read c.turn.inside.parts.items c.len-i-end.result c.loop-i.i part (search rules)
    (search rules) (search rules) in
    let own = own_part g c.loop-i.i c.args.turn.now.parts c.args.board.now b c.device.result.now
    part
    c.requires.lies c.requires.noted c.loop-i.invariant.1 c.loop-i.invariant.2
    c.device.ensures.device
    (ap (λ v. slice_get v.parts c.loop-i.i) (sym c.turn.view_is) ∙ at) in
    runs_twice g most (standing ps v w) (standing ps v w) (standing ps v w) c.args.board.now b
    (moved b g c.tell.new.self) (c.loop-i.invariant.0 most ps v w)
    (told_runs g b c.device.result.now c.tell.new.self c.device.ensures.device most ps v w part _
    c.tell.result own (few_zeros c.min-count.result part.len c.min-count.ensures)
    (zeros c.min-count.result) t.ok t.unchanged)

pub returns-then-is_err-clause-queues : goal.returns-then-is_err-clause-queues
returns-then-is_err-clause-queues c =
    let t = c.tell.ensures in
    told_queues c.args.guest c.loop-i.board c.device.result.now c.tell.new.self
    c.device.ensures.device c.index-part.result.now.at _ c.tell.result t.ok t.unchanged
    ∙ c.loop-i.invariant.2
