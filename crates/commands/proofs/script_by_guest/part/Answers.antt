use Rattle.std.proofs.Common.{◌≡◌, ◌∙◌, ◌++◌, List, [], map, ap, subst, arith}
use Rattle.commands.proofs.Common.{All, slice_index_or, IsServed, IsWithin, Line, append_assoc}
use Rattle.commands.proofs.Common.{asks, asked_by, asked_of}
use Rattle.script.specs.Line.{said}
use Rattle.commands.proofs.Handed.{rest_all}
use Rattle.commands.proofs.script_by_guest.part.Goals as goal

pub loop-line-preserved : goal.loop-line-preserved
loop-line-preserved c =
    let now = c.loop-line in
    let rest = c.in-Some.ensures.steps.0 in
    let left = c.next.new.self.rest.items in
    let handed = c.in_ok-hand_out.ensures in
    let is_within : Line → Type 0 = λ line. IsWithin c.args.guests (said line) in
    let is_served : Line → Type 0 = λ line. IsServed (said line) in (
      rest_all is_within c.in-Some.line left (subst (All is_within) rest now.invariant.0),
      rest_all is_served c.in-Some.line left (subst (All is_served) rest now.invariant.1),
      omega (arith, handed.many, now.invariant.2),
      (λ g below.
          let before = subst (λ (ls : List Line).
          map (asks g) (slice_index_or now.scripts.items g []) ++ asked_of g (map said ls)
          ≡ asked_of g (map said c.args.lines.items)) rest (now.invariant.3 g below) in
          let more = handed.each g (omega (arith, below, now.invariant.2)) in
          ap (λ v. v ++ asked_of g (map said left)) more
          ∙ append_assoc (map (asks g) (slice_index_or now.scripts.items g []))
          (asked_by g (said c.in-Some.line)) (asked_of g (map said left)) ∙ before),
    )
