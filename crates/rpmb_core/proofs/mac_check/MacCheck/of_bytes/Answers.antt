use Rattle.std.proofs.Common.{◌≡◌, ◌≢◌, ◌≤◌, ◌-◌, length, ap, sym, ◌∙◌, subst, arith}
use Rattle.rpmb_core.proofs.Common.{req_result_read, req_resp_of, first_of, last_of, Says}
use Rattle.rpmb_core.proofs.Checking.{says_first, covers_empty, covers_other, covers_first}
use Rattle.rpmb_core.proofs.Checking.{covers_all}
use Rattle.rpmb_core.proofs.mac_check.MacCheck.of_bytes.Goals as goal
use Rattle.rpmb_core.proofs.mac_check.MacCheck.of_bytes.Goals.{then-count-eq0-via-then-count-eq0}
use Rattle.rpmb_core.proofs.mac_check.MacCheck.of_bytes.Goals.{then-count-eq0-via-else-count-eq0+then-req_resp-ne-DATA_WRITE}
use Rattle.rpmb_core.proofs.mac_check.MacCheck.of_bytes.Goals.{else-count-gt1-via-then-count-gt1+else-asks_result}
use Rattle.rpmb_core.proofs.mac_check.MacCheck.of_bytes.Goals.{else-count-gt1-via-else-count-gt1}

pub returns-then-count-eq0-clause-covers : goal.returns-then-count-eq0-clause-covers
returns-then-count-eq0-clause-covers c =
    let all = c.as_chunks.result.0.now in
    elim c.then-count-eq0.branch [
      | then-count-eq0-via-then-count-eq0 w ↦ covers_empty c.args.bytes.now c.args.key.now
          c.none.result all c.as_chunks.ensures.front w.if-count-eq0.true
      | then-count-eq0-via-else-count-eq0+then-req_resp-ne-DATA_WRITE w ↦
          (let type : w.req_resp.result ≡ req_resp_of (first_of all) = w.req_resp.ensures
          ∙ ap req_resp_of w.from_bytes.ensures in
          covers_other c.args.bytes.now c.args.key.now c.none.result all c.as_chunks.ensures.front
          (λ is. w.if-req_resp-ne-DATA_WRITE.true (type ∙ is)))
    ]

pub returns-then-asks_result-clause-says : goal.returns-then-asks_result-clause-says
returns-then-asks_result-clause-says c =
    let all = c.as_chunks.result.0.now in
    subst (λ frames. Says frames c.of.result) c.as_chunks.ensures.front
    (says_first (length all - 1) all c.of.result c.of.ensures.says c.of.ensures.count)

pub returns-then-asks_result-clause-covers : goal.returns-then-asks_result-clause-covers
returns-then-asks_result-clause-covers c =
    let all = c.as_chunks.result.0.now in
    let type : req_resp_of (last_of all) ≡ req_result_read =
    sym (c.req_resp-asks_result.ensures ∙ ap req_resp_of c.from_bytes-2.ensures)
    ∙ c.if-asks_result.true in
    covers_first c.args.bytes.now c.args.key.now c.of.result all c.as_chunks.ensures.front
    (omega (arith, c.if-count-gt1.true)) type (c.of.ensures.count, c.of.ensures.key)

pub returns-else-count-gt1-clause-covers : goal.returns-else-count-gt1-clause-covers
returns-else-count-gt1-clause-covers c =
    let all = c.as_chunks.result.0.now in
    let type : c.req_resp-asks_result.result ≡ req_resp_of (last_of all) =
    c.req_resp-asks_result.ensures ∙ ap req_resp_of c.from_bytes-2.ensures in
    let none : 2 ≤ length all → req_resp_of (last_of all) ≢ req_result_read =
    elim c.else-count-gt1.branch [
      | else-count-gt1-via-then-count-gt1+else-asks_result w ↦ (λ two is.
          w.if-asks_result.false (type ∙ is))
      | else-count-gt1-via-else-count-gt1 w ↦ (λ two is.
          absurd (omega (arith, two, w.if-count-gt1.false)))
    ] in
    covers_all c.args.bytes.now c.args.key.now c.of-else-count-gt1.result all
    c.as_chunks.ensures.front none (
      c.of-else-count-gt1.ensures.count,
      c.of-else-count-gt1.ensures.key,
    )
