use Rattle.std.proofs.lemmas.Bool.{false≢true}
use Rattle.td_core.proofs.Ends.{other_end, no_dot, joined_is, part_is}
use Rattle.td_core.proofs.full_name.is_joined.Goals as goal

pub returns-in_default : goal.returns-in_default
returns-in_default c = ((λ h. absurd (false≢true h)), (λ e. absurd (other_end c.args.part.now c.args.own.now c.args.bytes.now c.in_default.ensures e)))

pub returns-in_default-before : goal.returns-in_default-before
returns-in_default-before c = ((λ h. absurd (false≢true h)), (λ e. absurd (no_dot c.args.part.now c.args.own.now c.args.bytes.now c.in-Some.front.now c.in-Some.ensures c.in_default-before.ensures e)))

pub returns : goal.returns
returns c =
    let part = c.args.part.now in
    let own = c.args.own.now in
    let bytes = c.args.bytes.now in
    let front = c.in-Some.front.now in
    let first = c.in-Some-before.front.now in (
      (λ h. joined_is part own bytes front first c.in-Some.ensures c.in-Some-before.ensures (c.is_equal.ensures.0 h)),
      (λ e. c.is_equal.ensures.1 (part_is part own bytes front first c.in-Some.ensures c.in-Some-before.ensures e)),
    )
