use Rattle.std.proofs.lemmas.Bool.{false≢true, eqb-true}
use Rattle.std.proofs.Common.{length, sym}
use Rattle.td_core.proofs.Ends.{other_names, same_parts, same_names, some_there, undotted, longer_part, longer_names}
use Rattle.td_core.proofs.full_name.are_same.Goals as goal

pub returns-in_default : goal.returns-in_default
returns-in_default c = ((λ h. absurd (false≢true h)), (λ e. absurd (other_names c.args.part.now c.args.own.now c.args.other_part.now c.args.other.now c.requires c.in_default.ensures e)))

pub returns-then-is_empty : goal.returns-then-is_empty
returns-then-is_empty c =
    let part = c.args.part.now in
    let own = c.args.own.now in
    let second = c.args.other_part.now in
    let other = c.args.other.now in
    let front = c.in-Some.front.now in
    let empty = eqb-true (length front) 0 (sym c.if-is_empty.ensures) in (
      (λ h. same_names part own second other front c.in-Some.ensures empty (c.is_equal.ensures.0 h)),
      (λ e. c.is_equal.ensures.1 (same_parts part own second other front c.in-Some.ensures empty e)),
    )

pub returns-in-Some-before : goal.returns-in-Some-before
returns-in-Some-before c =
    let part = c.args.part.now in
    let own = c.args.own.now in
    let second = c.args.other_part.now in
    let other = c.args.other.now in
    let front = c.in-Some.front.now in
    let first = c.in-Some-before.front.now in (
      (λ h. longer_names part own second other front first c.in-Some.ensures c.in-Some-before.ensures (c.is_joined.ensures.0 h)),
      (λ e. c.is_joined.ensures.1 (longer_part part own second other front first c.in-Some.ensures c.in-Some-before.ensures e)),
    )

pub returns-in-None : goal.returns-in-None
returns-in-None c =
    let front = c.in-Some.front.now in (
      (λ h. absurd (false≢true h)),
      (λ e. absurd (undotted c.args.part.now c.args.own.now c.args.other_part.now c.args.other.now front c.in-Some.ensures (some_there front (sym c.if-is_empty.ensures)) c.in-None.ensures e)),
    )
