-- What the answer says of a module's kinds.
use Rattle.std.proofs.Common.{◌≡◌, List, Option, Some, None, Result, Ok, Err, refl, sym}
use Rattle.std.specs.Prelude.{MatchOption, IfOk, IfErr}
use Rattle.std.specs.Global.{Vec}
use Rattle.td_core.specs.declared.kind.Kind.{Kind}
use Rattle.td_kinds.specs.declared.error.KindFault.{KindFault}
use Rattle.td_kinds.specs.declared.error.KindFault.TheVariants.{ZeroElement, RestNotLast}
use Rattle.td_kinds.specs.declared.error.KindError.{KindError}
use Rattle.td_kinds.specs.declared.error.KindError.TheVariants.{NoMemory}
use Rattle.td_kinds.specs.KindRules.{first_fault, error_of, IsCause}

abbrev pub Answers : Option KindFault → Vec Kind → Result (Vec Kind) KindError → Type 0
Answers first kinds r = MatchOption first (r ≡ Ok kinds) (λ fault. r ≡ Err (error_of fault))

-- what holds of the kinds where nothing is refused holds of what is answered
pub answer_ok : (P : Vec Kind → Type 0) (o : Option KindFault) (kinds : Vec Kind) (r : Result (Vec Kind) KindError) → Answers o kinds r → (o ≡ None → P kinds) → IfOk r (λ ks. P ks)
answer_ok P None kinds r h p = rw h (p refl)
answer_ok P (Some fault) kinds r h p = rw h tt

-- an error names the first fault
pub answer_cause : (faults : List KindFault) (o : Option KindFault) (kinds : Vec Kind) (r : Result (Vec Kind) KindError) → o ≡ first_fault faults → Answers o kinds r → IfErr r (λ e. IsCause faults e)
answer_cause faults None kinds r is h = rw h tt
answer_cause faults (Some (ZeroElement span)) kinds r is h = rw h (sym is)
answer_cause faults (Some (RestNotLast span)) kinds r is h = rw h (sym is)

-- an error that names a fault isn't want of memory
pub answer_memory : (o : Option KindFault) (kinds : Vec Kind) (r : Result (Vec Kind) KindError) → Answers o kinds r → r ≡ Err NoMemory → ⊥
answer_memory None kinds r h e = cc (h, e)
answer_memory (Some (ZeroElement span)) kinds r h e = cc (h, e)
answer_memory (Some (RestNotLast span)) kinds r h e = cc (h, e)
