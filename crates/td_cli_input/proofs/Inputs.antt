-- What the first marker of an input, and what is known of its two parts, say of the whole. Cited by other crates.
use Rattle.std.proofs.Common.{◌≡◌, ◌⊎◌, inl, inr, ℕ, List, subst, sym, ap, Result, Ok, Err}
use Rattle.std.proofs.lemmas.Bool.{cases_order}
use Rattle.td_cli_input.specs.Imports.{Module, FrontError, JobError}
use Rattle.td_front.specs.declared.error.FrontError.TheVariants as front
use Rattle.td_front.specs.ModuleText.{IsModuleText, RefusedBy}
use Rattle.td_job.specs.declared.error.JobError.TheVariants as jobs
use Rattle.td_cli_input.specs.declared.refusal.Refusal.{Refusal}
use Rattle.td_cli_input.specs.declared.refusal.Refusal.TheVariants.{TooLong, NoJob, BadModule, BadJob, NoRing}
use Rattle.td_cli_input.specs.declared.refusal.InputError.{InputError}
use Rattle.td_cli_input.specs.declared.refusal.InputError.TheVariants.{Refused, NoMemory}
use Rattle.td_cli_input.specs.Marker.{IsFirstMarker, module_part, job_part}
use Rattle.td_cli_input.specs.Causes.{HasCause, of_module, of_job}
use Rattle.td_cli_input.specs.Inputs.{IsInputOf, RefusesText, RefusesInput}

-- what bytes are, for jobs of some kind
abbrev pub Kind : Type 0 → Type 1
Kind J = List ℕ → Module → J → Type 0

abbrev pub Faults : Type 1
Faults = List ℕ → Module → JobError → Type 0

-- an input has one first marker
pub one_marker : (input : List ℕ) (n m : ℕ) → IsFirstMarker input n → IsFirstMarker input m → n ≡ m
one_marker input n m a b =
    elim (cases_order n m) [
      | inl same ↦ same
      | inr other ↦ elim other [ inl below ↦ absurd (b.before n below a.marker) | inr above ↦ absurd (a.before m above b.marker) ]
    ]

-- what holds of the text before some first marker holds of that before this one
pub text_there : (P : List ℕ → Type 0) (input : List ℕ) (n m : ℕ) → IsFirstMarker input n → IsFirstMarker input m → P (module_part input n) → P (module_part input m)
text_there P input n m a b = subst (λ (k : ℕ). P (module_part input k)) (one_marker input n m a b)

pub job_there : (P : List ℕ → Type 0) (input : List ℕ) (n m : ℕ) → IsFirstMarker input n → IsFirstMarker input m → P (job_part input n) → P (job_part input m)
job_there P input n m a b = subst (λ (k : ℕ). P (job_part input k)) (one_marker input n m a b)

-- where the bytes behind the first marker are no job for the one module of the text before it, the input is none
pub job_errors : {J : Type 0} (Is : Kind J) (input : List ℕ) (n : ℕ) (m : Module) (e : JobError) (none : JobError) → IsFirstMarker input n
    → ((x : Module) → IsModuleText (module_part input n) x → m ≡ x)
    → ((j : J) → Is (job_part input n) m j → e ≡ none)
    → (types : Module) (job : J) → IsInputOf Is input types job → of_job e ≡ of_job none
job_errors Is input n m e none marker one only types job given =
    let same : m ≡ types = one types (text_there (λ (text : List ℕ). IsModuleText text types) input given.place n given.marker marker given.text) in
    let good : Is (job_part input n) types job = job_there (λ (bytes : List ℕ). Is bytes types job) input given.place n given.marker marker given.good in
    ap of_job (only job (subst (λ (x : Module). Is (job_part input n) x job) (sym same) good))

-- where the text is a module, nothing refuses it
pub text_not_refused : (input : List ℕ) (n : ℕ) → IsFirstMarker input n → ((e : FrontError) → RefusedBy (module_part input n) e → ⊥) → (refusal : Refusal) → RefusesText input refusal → ⊥
text_not_refused input n marker text TooLong h = h
text_not_refused input n marker text NoJob h = h n marker.marker
text_not_refused input n marker text (BadModule e) h = text e (text_there (λ (t : List ℕ). RefusedBy t e) input h.0 n h.1 marker h.2)
text_not_refused input n marker text (BadJob e) h = h
text_not_refused input n marker text NoRing h = h

-- what refuses the text of an input refuses the input
text_refuses : (Bad : Faults) (input : List ℕ) (refusal : Refusal) → RefusesText input refusal → RefusesInput Bad input refusal
text_refuses Bad input TooLong h = h
text_refuses Bad input NoJob h = h
text_refuses Bad input (BadModule e) h = h
text_refuses Bad input (BadJob e) h = absurd h
text_refuses Bad input NoRing h = h

pub text_cause : (Bad : Faults) (input : List ℕ) (e : InputError) → HasCause (RefusesText input) e → HasCause (RefusesInput Bad input) e
text_cause Bad input (Refused refusal) h = text_refuses Bad input refusal h
text_cause Bad input NoMemory h = tt

-- where the text is a module, and the bytes behind it are a job for it, nothing refuses the input
pub nothing_refuses : (Bad : Faults) (input : List ℕ) (n : ℕ) (m : Module) → IsFirstMarker input n
    → ((x : Module) → IsModuleText (module_part input n) x → m ≡ x)
    → ((e : FrontError) → RefusedBy (module_part input n) e → ⊥)
    → ((e : JobError) → Bad (job_part input n) m e → ⊥)
    → (refusal : Refusal) → RefusesInput Bad input refusal → ⊥
nothing_refuses Bad input n m marker one text job TooLong h = h
nothing_refuses Bad input n m marker one text job NoJob h = h n marker.marker
nothing_refuses Bad input n m marker one text job (BadModule e) h = text_not_refused input n marker text (BadModule e) h
nothing_refuses Bad input n m marker one text job (BadJob e) h =
    let same : m ≡ h.1 = one h.1 (text_there (λ (t : List ℕ). IsModuleText t h.1) input h.0 n h.2 marker h.3) in
    let bad : Bad (job_part input n) h.1 e = job_there (λ (t : List ℕ). Bad t h.1 e) input h.0 n h.2 marker h.4 in
    job e (subst (λ (x : Module). Bad (job_part input n) x e) (sym same) bad)
nothing_refuses Bad input n m marker one text job NoRing h = h

-- an error of a module text says that there was no memory, or what is known of its refusal is its cause
pub module_cause : (Refuses : Refusal → Type 0) (e : FrontError) → (e ≡ front.NoMemory) ⊎ Refuses (BadModule e) → HasCause Refuses (of_module e)
module_cause Refuses e (inl none) = let P : FrontError → Type 0 = λ x. HasCause Refuses (of_module x) in subst P (sym none) tt
module_cause Refuses front.NoMemory (inr refused) = tt
module_cause Refuses (front.BadByte at) (inr refused) = refused
module_cause Refuses (front.OpenComment at) (inr refused) = refused
module_cause Refuses (front.BigNumber at) (inr refused) = refused
module_cause Refuses (front.Unexpected token at) (inr refused) = refused
module_cause Refuses (front.Deep token at) (inr refused) = refused
module_cause Refuses (front.Limit limit span) (inr refused) = refused
module_cause Refuses (front.Broken rule span) (inr refused) = refused
module_cause Refuses (front.Cycle span) (inr refused) = refused
module_cause Refuses (front.ZeroElement span) (inr refused) = refused
module_cause Refuses (front.RestNotLast span) (inr refused) = refused
module_cause Refuses (front.Unsafe span op) (inr refused) = refused
module_cause Refuses (front.Room span) (inr refused) = refused
module_cause Refuses (front.Value span) (inr refused) = refused

-- the same of an error of a job
pub job_cause : (Refuses : Refusal → Type 0) (e : JobError) → (e ≡ jobs.NoMemory) ⊎ Refuses (BadJob e) → HasCause Refuses (of_job e)
job_cause Refuses e (inl none) = let P : JobError → Type 0 = λ x. HasCause Refuses (of_job x) in subst P (sym none) tt
job_cause Refuses jobs.NoMemory (inr refused) = tt
job_cause Refuses (jobs.Fault rule path) (inr refused) = refused

-- so an error of an input's module text, or of its job, has its cause
pub text_error : (input : List ℕ) (n : ℕ) (e : FrontError) → IsFirstMarker input n → (e ≡ front.NoMemory) ⊎ RefusedBy (module_part input n) e → HasCause (RefusesText input) (of_module e)
text_error input n e marker (inl none) = module_cause (RefusesText input) e (inl none)
text_error input n e marker (inr refused) = module_cause (RefusesText input) e (inr (n, marker, refused))

pub job_error : (Bad : Faults) (input : List ℕ) (n : ℕ) (m : Module) (e : JobError) → IsFirstMarker input n → IsModuleText (module_part input n) m → (e ≡ jobs.NoMemory) ⊎ Bad (job_part input n) m e → HasCause (RefusesInput Bad input) (of_job e)
job_error Bad input n m e marker text (inl none) = job_cause (RefusesInput Bad input) e (inl none)
job_error Bad input n m e marker text (inr refused) = job_cause (RefusesInput Bad input) e (inr (n, m, marker, text, refused))

-- a job that is answered is no error
pub no_error : {J : Type 0} (j : J) (e f : JobError) → (let r : Result J JobError = Ok j in r ≡ Err e) ⊎ (let r : Result J JobError = Ok j in r ≡ Err f) → ⊥
no_error j e f (inl same) = cc
no_error j e f (inr same) = cc
