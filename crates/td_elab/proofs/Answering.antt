-- What the answer of elaboration says of the tree.
use Rattle.std.proofs.Common.{◌≡◌, List, [], Option, Some, None, Result, Ok, Err, inl, inr, refl, sym, ap, subst, ◌∙◌}
use Rattle.std.specs.Prelude.{MatchOption, MatchResult, IfOk, IfErr}
use Rattle.td_ast.specs.declared.definitions.ModuleTree.{ModuleTree}
use Rattle.td_core.specs.declared.module.Module.{Module}
use Rattle.td_elab_rules.specs.declared.breach.Breach.{Breach}
use Rattle.td_elab.specs.declared.elaborate.ElabError.{ElabError}
use Rattle.td_elab.specs.declared.elaborate.ElabError.TheVariants.{NoMemory}
use Rattle.td_elab_rules.specs.Known.{nothing_known}
use Rattle.td_elab_rules.specs.Modules.{breaches, names_of, module_of, StandsFor}
use Rattle.td_elab.specs.Firsts.{breaches_in, first_among, all_of, IsFirstIn}
use Rattle.td_elab.specs.Elaborates.{error_of, IsCause, IsOnly}
use Rattle.td_elab.proofs.First.{found_first_in, none_found_in, none_among, one_first_in, first_is_there, each_is_all}

abbrev pub Answers : Option Breach → Module → Result Module ElabError → Type 0
Answers first m r = MatchOption first (r ≡ Ok m) (λ b. r ≡ Err (error_of b))

-- an error that names a breach isn't want of memory
pub answer_memory : (o : Option Breach) (m : Module) (r : Result Module ElabError) → Answers o m r → r ≡ Err NoMemory → ⊥
answer_memory None m r h e = cc (h, e)
answer_memory (Some b) m r h e = cc (h, e)

module _ (tree : ModuleTree) (m : Module) (core : m ≡ module_of tree) where
  all_are : all_of (breaches_in tree) ≡ breaches tree
  all_are = each_is_all (names_of tree) nothing_known tree.definitions

  found : (b : Breach) → first_among None (breaches_in tree) ≡ Some b → IsFirstIn b (breaches_in tree)
  found b e = elim (found_first_in (breaches_in tree) None b e) [ inl h ↦ absurd (cc h) | inr h ↦ h.1 ]

  none_left : first_among None (breaches_in tree) ≡ None → breaches tree ≡ []
  none_left e = sym all_are ∙ (none_found_in (breaches_in tree) None e).1

  not_first : breaches tree ≡ [] → (b : Breach) → IsFirstIn b (breaches_in tree) → ⊥
  not_first e b h = none_among (all_of (breaches_in tree)) b (all_are ∙ e) (first_is_there (breaches_in tree) b h)

  pub answer_stands : (o : Option Breach) (r : Result Module ElabError) → first_among None (breaches_in tree) ≡ o → Answers o m r → IfOk r (λ m. StandsFor tree m)
  answer_stands None r e h = rw h (none_left e, core)
  answer_stands (Some b) r e h = rw h tt

  pub answer_cause : (o : Option Breach) (r : Result Module ElabError) → first_among None (breaches_in tree) ≡ o → Answers o m r → IfErr r (λ e. IsCause (breaches_in tree) e)
  answer_cause None r e h = rw h tt
  answer_cause (Some b) r e h = rw h (inr (b, (found b e, refl)))

  pub answer_complete : (o : Option Breach) (r : Result Module ElabError) → first_among None (breaches_in tree) ≡ o → Answers o m r → (x : Module) → StandsFor tree x → MatchResult r (λ y. y ≡ x) (λ e. e ≡ NoMemory)
  answer_complete None r e h x s = rw h (core ∙ sym s.1)
  answer_complete (Some b) r e h x s = absurd (not_first s.0 b (found b e))

  pub answer_refused : (o : Option Breach) (r : Result Module ElabError) → first_among None (breaches_in tree) ≡ o → Answers o m r → (b : Breach) → IsFirstIn b (breaches_in tree) → IsOnly b r
  answer_refused None r e h b first = absurd (not_first (none_left e) b first)
  answer_refused (Some c) r e h b first = rw h (inr (ap error_of (one_first_in (breaches_in tree) c b (found c e) first)))

  -- what holds of the module that the tree stands for
  pub answer_holds : (P : Module → Type 0) → P (module_of tree) → (o : Option Breach) (r : Result Module ElabError) → Answers o m r → IfOk r (λ m. P m)
  answer_holds P p None r h = rw h (subst P (sym core) p)
  answer_holds P p (Some b) r h = rw h tt
