-- What a tree is answered, pass by pass: it is admitted or has one refusal.
use Rattle.std.proofs.Common.{◌≡◌, List, [], ◌∷◌, length, Option, Some, None, Result, Ok, Err, ◌⊎◌, inl, inr, refl, sym, ap, ◌∙◌, arith}
use Rattle.td_front.specs.Imports.{ModuleTree, Module, Excess}
use Rattle.td_expr.specs.declared.safety.Unsafe as unsafes
use Rattle.td_expr.specs.declared.safety.Unsafe.TheVariants as finding
use Rattle.td_limits.specs.Counts.{counts_passed}
use Rattle.td_limits.specs.Sizes.{sizes_passed}
use Rattle.td_elab_rules.specs.declared.breach.Breach.{Breach}
use Rattle.td_elab_rules.specs.Breach.{IsFirst}
use Rattle.td_elab_rules.specs.Modules.{breaches, module_of}
use Rattle.td_elab.specs.Firsts.{IsFirstIn, breaches_in, all_of}
use Rattle.td_elab.specs.Laws.{OneIsFirst, SomeIsFirst, BreachesAreAll}
use Rattle.td_num.proofs.Lists.{left_none, right_none}
use Rattle.td_kinds.specs.declared.error.KindFault.{KindFault}
use Rattle.td_kinds.specs.declared.error.KindFault.TheVariants as kind
use Rattle.td_kinds.specs.KindRules.{kind_faults, first_fault}
use Rattle.td_arith.specs.SafeModule.{module_unsafe}
use Rattle.td_front.specs.declared.error.FrontError.{FrontError}
use Rattle.td_front.specs.declared.error.FrontError.TheVariants.{BadByte, OpenComment, BigNumber, Unexpected, Deep, Limit, Broken, Cycle, ZeroElement, RestNotLast, Unsafe, Room, Value, NoMemory}
use Rattle.td_front.specs.Passes.{HasCounts, HasModule, HasKinds, HasSafety, IsAdmitted, RefusesTree}

-- what td_elab says of first breaches
pub record Firsts : Type 0 where
  pub one : OneIsFirst
  pub some : SomeIsFirst
  pub all : BreachesAreAll

-- ---- the answer

abbrev pub Judgement : Type 0
Judgement = Result Module FrontError

abbrev sized : ModuleTree → Option Excess → Judgement
sized tree None = Ok (module_of tree)
sized tree (Some e) = Err (Limit e.limit e.span)

abbrev safe : ModuleTree → Option unsafes.Unsafe → Judgement
safe tree None = sized tree (sizes_passed tree)
safe tree (Some (finding.Operator span op)) = Err (Unsafe span op)
safe tree (Some (finding.Room span)) = Err (Room span)
safe tree (Some (finding.Value span)) = Err (Value span)

abbrev kinded : ModuleTree → Option KindFault → Judgement
kinded tree None = safe tree (module_unsafe (module_of tree))
kinded tree (Some (kind.ZeroElement span)) = Err (ZeroElement span)
kinded tree (Some (kind.RestNotLast span)) = Err (RestNotLast span)

abbrev FirstBreach : ModuleTree → Type 0
FirstBreach tree = (breaches tree ≡ []) ⊎ ((b : Breach) × IsFirstIn b (breaches_in tree))

pub first_breach : Firsts → (tree : ModuleTree) → FirstBreach tree
first_breach firsts tree = elim (firsts.some (breaches_in tree)) [ inl none ↦ inl (sym (firsts.all tree) ∙ none) | inr first ↦ inr first ]

abbrev ruled : (tree : ModuleTree) → FirstBreach tree → Judgement
ruled tree (inl none) = kinded tree (first_fault (kind_faults (module_of tree)))
ruled tree (inr (b, first)) = Err (Broken b.rule b.span)

abbrev counted : Firsts → ModuleTree → Option Excess → Judgement
counted firsts tree None = ruled tree (first_breach firsts tree)
counted firsts tree (Some e) = Err (Limit e.limit e.span)

abbrev pub judged : Firsts → ModuleTree → Judgement
judged firsts tree = counted firsts tree (counts_passed tree)

-- ---- how far it comes

-- a tree without breaches has no first
unbroken : (b : Breach) (bs : List Breach) → bs ≡ [] → IsFirst b bs → ⊥
unbroken b bs e h = let none = ap length e in let some = h.0.1 in omega (arith, some, none)

none_first : (b : Breach) (bss : List (List Breach)) → all_of bss ≡ [] → IsFirstIn b bss → ⊥
none_first b [] e h = absurd h
none_first b (bs ∷ bss) e (inl h) = unbroken b bs (left_none bs (all_of bss) e) h
none_first b (bs ∷ bss) e (inr h) = none_first b bss (right_none bs (all_of bss) e) h.1

whole : Firsts → (tree : ModuleTree) (b : Breach) → breaches tree ≡ [] → IsFirstIn b (breaches_in tree) → ⊥
whole firsts tree b e h = none_first b (breaches_in tree) (firsts.all tree ∙ e) h

ruled_none : Firsts → (tree : ModuleTree) (r : FirstBreach tree) → breaches tree ≡ [] → ruled tree r ≡ kinded tree (first_fault (kind_faults (module_of tree)))
ruled_none firsts tree (inl none) e = refl
ruled_none firsts tree (inr (b, first)) e = absurd (whole firsts tree b e first)

ruled_first : Firsts → (tree : ModuleTree) (r : FirstBreach tree) (b : Breach) → IsFirstIn b (breaches_in tree) → ruled tree r ≡ Err (Broken b.rule b.span)
ruled_first firsts tree (inl none) b first = absurd (whole firsts tree b none first)
ruled_first firsts tree (inr (c, other)) b first = ap (λ (d : Breach). let r : Judgement = Err (Broken d.rule d.span) in r) (firsts.one (breaches_in tree) c b other first)

to_ruled : (firsts : Firsts) (tree : ModuleTree) → HasCounts tree → judged firsts tree ≡ ruled tree (first_breach firsts tree)
to_ruled firsts tree h = ap (counted firsts tree) h

to_kinded : (firsts : Firsts) (tree : ModuleTree) → HasModule tree → judged firsts tree ≡ kinded tree (first_fault (kind_faults (module_of tree)))
to_kinded firsts tree h = to_ruled firsts tree h.0 ∙ ruled_none firsts tree (first_breach firsts tree) h.1

to_safe : (firsts : Firsts) (tree : ModuleTree) → HasKinds tree → judged firsts tree ≡ safe tree (module_unsafe (module_of tree))
to_safe firsts tree h = to_kinded firsts tree h.0 ∙ ap (λ (fs : List KindFault). kinded tree (first_fault fs)) h.1

to_sized : (firsts : Firsts) (tree : ModuleTree) → HasSafety tree → judged firsts tree ≡ sized tree (sizes_passed tree)
to_sized firsts tree h = to_safe firsts tree h.0 ∙ ap (safe tree) h.1

pub admitted_judged : (firsts : Firsts) (tree : ModuleTree) → IsAdmitted tree → judged firsts tree ≡ Ok (module_of tree)
admitted_judged firsts tree h = to_sized firsts tree h.0 ∙ ap (sized tree) h.1

pub refused_judged : (firsts : Firsts) (tree : ModuleTree) (e : FrontError) → RefusesTree tree e → judged firsts tree ≡ Err e
refused_judged firsts tree (BadByte at) h = absurd h
refused_judged firsts tree (OpenComment at) h = absurd h
refused_judged firsts tree (BigNumber at) h = absurd h
refused_judged firsts tree (Unexpected token at) h = absurd h
refused_judged firsts tree (Deep token at) h = absurd h
refused_judged firsts tree (Limit limit span) (inl h) = ap (counted firsts tree) h
refused_judged firsts tree (Limit limit span) (inr (has, h)) = to_sized firsts tree has ∙ ap (sized tree) h
refused_judged firsts tree (Broken rule span) (has, first) =
    to_ruled firsts tree has ∙ ruled_first firsts tree (first_breach firsts tree) (record { rule = rule; span = span }) first
refused_judged firsts tree (Cycle span) h = absurd h
refused_judged firsts tree (ZeroElement span) (has, h) = to_kinded firsts tree has ∙ ap (kinded tree) h
refused_judged firsts tree (RestNotLast span) (has, h) = to_kinded firsts tree has ∙ ap (kinded tree) h
refused_judged firsts tree (Unsafe span op) (has, h) = to_safe firsts tree has ∙ ap (safe tree) h
refused_judged firsts tree (Room span) (has, h) = to_safe firsts tree has ∙ ap (safe tree) h
refused_judged firsts tree (Value span) (has, h) = to_safe firsts tree has ∙ ap (safe tree) h
refused_judged firsts tree NoMemory h = absurd h

-- ---- one of both

abbrev pub Decided : ModuleTree → Type 0
Decided tree = IsAdmitted tree ⊎ ((e : FrontError) × RefusesTree tree e)

by_sizes : (tree : ModuleTree) → HasSafety tree → (o : Option Excess) → sizes_passed tree ≡ o → Decided tree
by_sizes tree has None e = inl (has, e)
by_sizes tree has (Some x) e = inr (Limit x.limit x.span, inr (has, e))

by_safety : (tree : ModuleTree) → HasKinds tree → (o : Option unsafes.Unsafe) → module_unsafe (module_of tree) ≡ o → Decided tree
by_safety tree has None e = by_sizes tree (has, e) (sizes_passed tree) refl
by_safety tree has (Some (finding.Operator span op)) e = inr (Unsafe span op, (has, e))
by_safety tree has (Some (finding.Room span)) e = inr (Room span, (has, e))
by_safety tree has (Some (finding.Value span)) e = inr (Value span, (has, e))

by_kinds : (tree : ModuleTree) → HasModule tree → (fs : List KindFault) → kind_faults (module_of tree) ≡ fs → Decided tree
by_kinds tree has [] e = by_safety tree (has, e) (module_unsafe (module_of tree)) refl
by_kinds tree has (kind.ZeroElement span ∷ fs) e = inr (ZeroElement span, (has, ap first_fault e))
by_kinds tree has (kind.RestNotLast span ∷ fs) e = inr (RestNotLast span, (has, ap first_fault e))

by_rules : (tree : ModuleTree) → HasCounts tree → FirstBreach tree → Decided tree
by_rules tree has (inl none) = by_kinds tree (has, none) (kind_faults (module_of tree)) refl
by_rules tree has (inr (b, first)) = inr (Broken b.rule b.span, (has, first))

by_counts : Firsts → (tree : ModuleTree) (o : Option Excess) → counts_passed tree ≡ o → Decided tree
by_counts firsts tree None e = by_rules tree e (first_breach firsts tree)
by_counts firsts tree (Some x) e = inr (Limit x.limit x.span, inl e)

pub decided : Firsts → (tree : ModuleTree) → Decided tree
decided firsts tree = by_counts firsts tree (counts_passed tree) refl
