use Rattle.std.proofs.Common.{◌≡◌, ◌<◌, ◌-◌, ◌/◌, List, ℕ, Option, length, sym, subst, arith}
use Rattle.rpmb_frame.specs.Frame.{with_bytes}
use Rattle.rpmb_core.specs.Reply.{closed}
use Rattle.rpmb_book.proofs.Closing.{mac_closes, nothing_closes, open_closes}
use Rattle.rpmb_book.proofs.receipt.TurnView.mac.Goals as goal

pub returns-then-frames-eq0-clause-closes : goal.returns-then-frames-eq0-clause-closes
returns-then-frames-eq0-clause-closes c =
    nothing_closes c.args.self.now.key c.args.self.now.reply.now
    (omega (arith, c.if-frames-eq0.true, c.as_chunks.ensures.front_len, c.requires))

pub returns-in-None-clause-closes : goal.returns-in-None-clause-closes
returns-in-None-clause-closes c =
    let bytes = c.args.self.now.reply.now in
    subst (λ (k : Option (List ℕ)). closed k bytes ≡ bytes) (sym c.in-None.is) (open_closes bytes)

pub returns-in-Some-clause-closes : goal.returns-in-Some-clause-closes
returns-in-Some-clause-closes c =
    let bytes = c.args.self.now.reply.now in
    let some : 0 < length bytes / 512 =
    omega (arith, c.if-frames-eq0.false, c.as_chunks.ensures.front_len) in
    subst (λ (k : Option (List ℕ)). closed k bytes ≡ with_bytes (length bytes - 316) 32
    c.mac_of.result bytes) (sym c.in-Some.is)
    (mac_closes c.in-Some.key c.mac_of.result bytes c.as_chunks.result.0.now c.requires some
    c.as_chunks.ensures.front c.mac_of.ensures)
