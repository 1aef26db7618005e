use Rattle.std.proofs.Common.{◌≡◌, sym, ap, ◌∙◌, string_bytes, true, false, Some}
use Rattle.std.proofs.lemmas.Map.Iter.{rest_more}
use Rattle.std.specs.Map.Iter.{deref_pair}
use Rattle.serde_json.specs.View.{members_view}
use Rattle.td_job.specs.Jobs.{is_known, first_unknown, first_unknown_in}
use Rattle.td_job.proofs.Members.{known_first, unknown_first}
use Rattle.td_job.proofs.checks.unknown_name.Goals as goal

pub loop-name-init : goal.loop-name-init
loop-name-init c =
    let keys = c.args.keys.now in
    ap (first_unknown keys) (sym c.in_ok-members.ensures) ∙ ap (λ es. first_unknown_in keys (members_view es)) (sym c.into_iter-name-iterator.ensures.into_iter_gives.0)

pub loop-name-preserved : goal.loop-name-preserved
loop-name-preserved c =
    let keys = c.args.keys.now in
    let name = c.in-Some.name.now in
    let known : is_known keys (string_bytes name) ≡ true = ap (is_known keys) (sym c.as_str.ensures.value) ∙ sym c.if-not-is_known.ensures in
    let next = rest_more deref_pair c.loop-name.name-iterator c.next.new.self c.next.result (c.in-Some.name, c.in-Some.field-0-1) c.in-Some.is c.next.ensures.steps in
    c.loop-name.invariant ∙ ap (λ es. first_unknown_in keys (members_view es)) next ∙ known_first keys name c.in-Some.field-0-1.now c.next.new.self known

pub returns-then-not-is_known : goal.returns-then-not-is_known
returns-then-not-is_known c =
    let keys = c.args.keys.now in
    let name = c.in-Some.name.now in
    let known : is_known keys (string_bytes name) ≡ false = ap (is_known keys) (sym c.as_str.ensures.value) ∙ sym c.if-not-is_known.ensures in
    let next = rest_more deref_pair c.loop-name.name-iterator c.next.new.self c.next.result (c.in-Some.name, c.in-Some.field-0-1) c.in-Some.is c.next.ensures.steps in
    let spelled = c.as_str-then-not-is_known.ensures.value in
    sym (c.loop-name.invariant
    ∙ ap (λ es. first_unknown_in keys (members_view es)) next
    ∙ unknown_first keys name c.in-Some.field-0-1.now c.next.new.self known
    ∙ ap Some (sym spelled))
