-- An input is refused for one reason alone, and never where it is served. Cited by other crates.
use Rattle.std.proofs.Common.{◌≡◌, ◌⊎◌, inl, inr, ℕ, List, [], ◌∷◌, Option, sym, ap, subst}
use Rattle.td_core.specs.declared.module.Module.{Module}
use Rattle.td_front.specs.ModuleText.{IsModuleText}
use Rattle.td_front.specs.Laws.{OneModuleEach}
use Rattle.td_posts.specs.declared.job.HostJob.{HostJob}
use Rattle.td_posts.specs.declared.ring.RingJob.{RingJob}
use Rattle.td_job_host.specs.HostJobs.{IsHostJob}
use Rattle.td_job_host.specs.Laws.{OneHostJobEach}
use Rattle.td_cli_input.specs.declared.refusal.Refusal.{Refusal}
use Rattle.td_cli_input.specs.declared.refusal.Refusal.TheVariants.{TooLong, NoJob, BadModule, BadJob, NoRing}
use Rattle.td_cli_input.specs.declared.refusal.InputError.{InputError}
use Rattle.td_cli_input.specs.declared.refusal.InputError.TheVariants.{Refused, NoMemory}
use Rattle.td_cli_input.specs.Causes.{HasCause}
use Rattle.td_cli_input.specs.Inputs.{IsHostInput, RefusesHost}
use Rattle.td_cli_input.specs.Marker.{module_part, job_part}
use Rattle.td_cli_input.proofs.Inputs.{text_there, job_there}
use Rattle.td_cli_host.specs.Rings.{RingsAreRead, NoRingModule, IsRingOf}
use Rattle.td_cli_host.specs.ServedInput.{RefusesServing}

-- an input stands for one job
pub same_rings : OneModuleEach → OneHostJobEach → (input : List ℕ) (m n : Module) (job other : HostJob) → IsHostInput input m job → IsHostInput input n other → job.rings ≡ other.rings
same_rings modules one input m n job other a b =
    let text : IsModuleText (module_part input a.place) n = text_there (λ (t : List ℕ). IsModuleText t n) input b.place a.place b.marker a.marker b.text in
    let same : m ≡ n = modules (module_part input a.place) m n a.text text in
    let good : IsHostJob (job_part input a.place) n other = job_there (λ (t : List ℕ). IsHostJob t n other) input b.place a.place b.marker a.marker b.good in
    ap (λ (j : HostJob). j.rings) (one (job_part input a.place) n job other (subst (λ (x : Module). IsHostJob (job_part input a.place) x job) same a.good) good)

-- rings that were read
pub read_by : (rings : List RingJob) (m : Module) (ring : Option Module) → IsRingOf rings m ring → RingsAreRead rings
read_by [] m ring h = tt
read_by (r ∷ rings) m ring h = (m, h.0)

-- aren't those that can't be read
pub never_both : (rings : List RingJob) → RingsAreRead rings → NoRingModule rings → ⊥
never_both [] h none = none
never_both (r ∷ rings) h none = none h.0 h.1

-- what refuses an input as one of host jobs refuses it here
pub refuses_here : (input : List ℕ) (e : InputError) → HasCause (RefusesHost input) e → HasCause (RefusesServing input) e
refuses_here input NoMemory h = tt
refuses_here input (Refused TooLong) h = h
refuses_here input (Refused NoJob) h = h
refuses_here input (Refused (BadModule e)) h = h
refuses_here input (Refused (BadJob e)) h = h
refuses_here input (Refused NoRing) h = absurd h

-- that rings can't be read is told as such
pub ring_cause : (input : List ℕ) (m : Module) (job : HostJob) (e : InputError) → IsHostInput input m job → (e ≡ NoMemory) ⊎ ((e ≡ Refused NoRing) × NoRingModule job.rings) → HasCause (RefusesServing input) e
ring_cause input m job e is (inl none) = subst (HasCause (RefusesServing input)) (sym none) tt
ring_cause input m job e is (inr ring) = subst (HasCause (RefusesServing input)) (sym ring.0) (m, job, is, ring.1)

-- and it isn't where they are read
pub ring_memory : (rings : List RingJob) (e : InputError) → RingsAreRead rings → (e ≡ NoMemory) ⊎ ((e ≡ Refused NoRing) × NoRingModule rings) → e ≡ NoMemory
ring_memory rings e read (inl none) = none
ring_memory rings e read (inr ring) = absurd (never_both rings read ring.1)

-- an input whose job's rings were read isn't refused
pub none_refuses : OneModuleEach → OneHostJobEach → (input : List ℕ) (m : Module) (job : HostJob) → IsHostInput input m job → RingsAreRead job.rings → ((refusal : Refusal) → RefusesHost input refusal → ⊥)
    → (refusal : Refusal) → RefusesServing input refusal → ⊥
none_refuses modules one input m job is read never TooLong h = never TooLong h
none_refuses modules one input m job is read never NoJob h = never NoJob h
none_refuses modules one input m job is read never (BadModule e) h = never (BadModule e) h
none_refuses modules one input m job is read never (BadJob e) h = never (BadJob e) h
none_refuses modules one input m job is read never NoRing h =
    never_both h.1.rings (subst (λ (rings : List RingJob). RingsAreRead rings) (same_rings modules one input m h.0 job h.1 is h.2) read) h.3
