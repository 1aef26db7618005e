-- What an input is answered: it is admitted or has one refusal, and where it is linked that of its one tree.
use Rattle.std.proofs.Common.{◌≡◌, Option, Some, None, Ok, Err, ◌⊎◌, inl, inr, refl, ap, ◌∙◌}
use Rattle.td_ast.specs.declared.token.Span.{Span}
use Rattle.td_front.specs.Imports.{ModuleTree, InputTree, Excess, Twice}
use Rattle.td_ast.specs.declared.parts.InputTree.TheVariants.{Module as Parsed}
use Rattle.td_limits.specs.Counts.{counts_passed}
use Rattle.td_front_flat.specs.Flat.{flat, written, spelled_names, IsTwice, IsCycle, IsLinked}
use Rattle.td_front_flat.specs.Laws.{HasAnswer, EachAnswered}
use Rattle.td_front_flat_facts.specs.Laws.{OneAnswerEach}
use Rattle.td_front.specs.declared.error.FrontError.{FrontError}
use Rattle.td_front.specs.declared.error.FrontError.TheVariants.{BadByte, OpenComment, BigNumber, Unexpected, Deep, Limit, Broken, Cycle, ZeroElement, RestNotLast, Unsafe, Room, Value, NoMemory}
use Rattle.td_front.specs.Passes.{RefusesTree}
use Rattle.td_front.specs.Inputs.{HasInputCounts, IsAdmittedInput, RefusedByCounts, RefusedByParts, RefusesInput, with_names, input_module}
use Rattle.td_front.proofs.Trees.{Firsts, Judgement, judged, admitted_judged, refused_judged, Decided, decided}

-- what the crates below say of breaches and of parts
pub record Parting : Type 0 where
  pub firsts : Firsts
  pub answered : EachAnswered
  pub once : OneAnswerEach

-- ---- the answer

-- what the one tree is answered, with names as they are spelled
abbrev told : InputTree → Judgement → Judgement
told input (Ok m) = Ok (with_names (spelled_names input m.names) m)
told input (Err e) = Err e

abbrev linked : Parting → (input : InputTree) → HasAnswer input → Judgement
linked below input (inl h) = told input (judged below.firsts (flat input))
linked below input (inr (inl (at, h))) = Err (Broken Twice at)
linked below input (inr (inr (at, h))) = Err (Cycle at)

abbrev counted : Parting → InputTree → Option Excess → Judgement
counted below input None = linked below input (below.answered input)
counted below input (Some e) = Err (Limit e.limit e.span)

abbrev pub judged_input : Parting → InputTree → Judgement
judged_input below input = counted below input (counts_passed (written input))

-- ---- how far it comes

if_linked : (below : Parting) (input : InputTree) → IsLinked input → (a : HasAnswer input) → linked below input a ≡ told input (judged below.firsts (flat input))
if_linked below input h (inl k) = refl
if_linked below input h (inr (inl (at, k))) = absurd ((below.once input).not_twice at h k)
if_linked below input h (inr (inr (at, k))) = absurd ((below.once input).not_cycle at h k)

if_twice : (below : Parting) (input : InputTree) (at : Span) → IsTwice input at → (a : HasAnswer input) → linked below input a ≡ Err (Broken Twice at)
if_twice below input at h (inl k) = absurd ((below.once input).not_twice at k h)
if_twice below input at h (inr (inl (other, k))) = ap (λ (x : Span). let r : Judgement = Err (Broken Twice x) in r) ((below.once input).twice_once other at k h)
if_twice below input at h (inr (inr (other, k))) = absurd ((below.once input).not_both at other h k)

if_cycle : (below : Parting) (input : InputTree) (at : Span) → IsCycle input at → (a : HasAnswer input) → linked below input a ≡ Err (Cycle at)
if_cycle below input at h (inl k) = absurd ((below.once input).not_cycle at k h)
if_cycle below input at h (inr (inl (other, k))) = absurd ((below.once input).not_both other at k h)
if_cycle below input at h (inr (inr (other, k))) = ap (λ (x : Span). let r : Judgement = Err (Cycle x) in r) ((below.once input).cycle_once other at k h)

to_linked : (below : Parting) (input : InputTree) → HasInputCounts input → judged_input below input ≡ linked below input (below.answered input)
to_linked below input h = ap (counted below input) h

pub admitted_input : (below : Parting) (input : InputTree) → IsAdmittedInput input → judged_input below input ≡ Ok (input_module input)
admitted_input below input h = to_linked below input h.0 ∙ if_linked below input h.1 (below.answered input) ∙ ap (told input) (admitted_judged below.firsts (flat input) h.2)

by_counts : (below : Parting) (input : InputTree) (e : FrontError) → RefusedByCounts input e → judged_input below input ≡ Err e
by_counts below input (Limit limit span) h = ap (counted below input) h
by_counts below input _ h = absurd h

by_parts : (below : Parting) (input : InputTree) (e : FrontError) → HasInputCounts input → RefusedByParts input e → judged_input below input ≡ Err e
by_parts below input (Broken Twice span) has h = to_linked below input has ∙ if_twice below input span h (below.answered input)
by_parts below input (Cycle span) has h = to_linked below input has ∙ if_cycle below input span h (below.answered input)
by_parts below input _ has h = absurd h

pub refused_input : (below : Parting) (input : InputTree) (e : FrontError) → RefusesInput input e → judged_input below input ≡ Err e
refused_input below input e (inl h) = by_counts below input e h
refused_input below input e (inr (has, inl h)) = by_parts below input e has h
refused_input below input e (inr (has, inr (linked, h))) = to_linked below input has ∙ if_linked below input linked (below.answered input) ∙ ap (told input) (refused_judged below.firsts (flat input) e h)

-- ---- one of both

abbrev pub DecidedInput : InputTree → Type 0
DecidedInput input = IsAdmittedInput input ⊎ ((e : FrontError) × RefusesInput input e)

of_flat : (input : InputTree) → HasInputCounts input → IsLinked input → Decided (flat input) → DecidedInput input
of_flat input has linked (inl h) = inl (has, linked, h)
of_flat input has linked (inr (e, h)) = inr (e, inr (has, inr (linked, h)))

of_answer : (below : Parting) (input : InputTree) → HasInputCounts input → HasAnswer input → DecidedInput input
of_answer below input has (inl linked) = of_flat input has linked (decided below.firsts (flat input))
of_answer below input has (inr (inl (at, h))) = inr (Broken Twice at, inr (has, inl h))
of_answer below input has (inr (inr (at, h))) = inr (Cycle at, inr (has, inl h))

of_counts : (below : Parting) (input : InputTree) (o : Option Excess) → counts_passed (written input) ≡ o → DecidedInput input
of_counts below input None e = of_answer below input e (below.answered input)
of_counts below input (Some x) e = inr (Limit x.limit x.span, inl e)

pub decided_input : (below : Parting) (input : InputTree) → DecidedInput input
decided_input below input = of_counts below input (counts_passed (written input)) refl

-- ---- a module without a name

-- what refuses its tree refuses it
pub alone_refused : (tree : ModuleTree) (e : FrontError) → RefusesTree tree e → RefusesInput (Parsed tree) e
alone_refused tree (BadByte at) h = absurd h
alone_refused tree (OpenComment at) h = absurd h
alone_refused tree (BigNumber at) h = absurd h
alone_refused tree (Unexpected token at) h = absurd h
alone_refused tree (Deep token at) h = absurd h
alone_refused tree (Limit limit span) (inl h) = inl h
alone_refused tree (Limit limit span) (inr h) = inr (h.0.0.0.0, inr (tt, inr h))
alone_refused tree (Broken rule span) h = inr (h.0, inr (tt, h))
alone_refused tree (Cycle span) h = absurd h
alone_refused tree (ZeroElement span) h = inr (h.0.0, inr (tt, h))
alone_refused tree (RestNotLast span) h = inr (h.0.0, inr (tt, h))
alone_refused tree (Unsafe span op) h = inr (h.0.0.0, inr (tt, h))
alone_refused tree (Room span) h = inr (h.0.0.0, inr (tt, h))
alone_refused tree (Value span) h = inr (h.0.0.0, inr (tt, h))
alone_refused tree NoMemory h = absurd h
