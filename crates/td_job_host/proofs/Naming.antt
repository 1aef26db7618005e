-- Faults that begin with a field of another name, and jobs whose fields were tested.
use Rattle.std.proofs.Common.{◌≡◌, ℕ, ◌+◌, ◌<◌, List, [], ◌∷◌, ◌++◌, length, drop, get_or, Option, Some, None, Result, Ok, Err, ◌⊎◌, inl, inr, refl, sym, subst, ◌∙◌}
use Rattle.std.proofs.lemmas.List.{at_drop_more}
use Rattle.std.specs.Prelude.{IsSomeAnd, IsErrAnd, IfErr}
use Rattle.serde_json.specs.Data.{Data, Members}
use Rattle.serde_json.specs.View.{view, items_view}
use Rattle.serde_json.specs.declared.value.Value.{Value}
use Rattle.td_job_host.specs.Imports.{Module, Entry, JobError, NoMemory, Path}
use Rattle.td_core.specs.Entries.{entry_definition}
use Rattle.td_core.specs.Formed.{params_at}
use Rattle.td_job.specs.declared.error.Key.TheVariants as key
use Rattle.td_job.specs.declared.error.Path.TheVariants as path
use Rattle.td_job.specs.Fields.{IsFirst, field_of, number_of, text_of}
use Rattle.td_job.specs.Values.{args_faults}
use Rattle.td_job.specs.Jobs.{bytes_faults, first_unknown, unknown_faults}
use Rattle.td_job.proofs.Numbers.{both_empty, first_of_more}
use Rattle.td_job_host.specs.Guests.{BeginsWithName, each_guest_faults, guest_faults, guests_faults, listed_in, object_faults, script_faults, workers_faults}
use Rattle.td_job_host.specs.Rings.{ring_keys, fields_faults, ring_faults_by, ring_faults, each_ring_faults, rings_faults}
use Rattle.td_job_host.specs.Swaps.{swaps_faults}
use Rattle.td_job_host.specs.HostJobs.{buffer_words, HasGoodFields, before_faults, FirstFault, rest_faults}

-- a name that is found has a fault of its own
pub name_first : (place : List ℕ → Path) (found : Option (List ℕ)) → ((name : List ℕ) → (place name ≡ path.Unknown name) ⊎ ((i : ℕ) × ((place name ≡ path.UnknownOf i name) ⊎ (place name ≡ path.UnknownOfRing i name))))
    → IsSomeAnd found (λ (name : List ℕ). 0 < length name) → BeginsWithName (unknown_faults place found)
name_first place None names h = absurd h
name_first place (Some name) names h = record { name = name; some = h; place = place name; names = names name; first = record { others = []; is = refl } }

pub name_of_job : (found : Option (List ℕ)) → IsSomeAnd found (λ (name : List ℕ). 0 < length name) → BeginsWithName (unknown_faults path.Unknown found)
name_of_job found h = name_first path.Unknown found (λ name. inl refl) h

pub name_of_guest : (guest : ℕ) (found : Option (List ℕ)) → IsSomeAnd found (λ (name : List ℕ). 0 < length name) → BeginsWithName (unknown_faults (path.UnknownOf guest) found)
name_of_guest guest found h = name_first (path.UnknownOf guest) found (λ name. inr (guest, inl refl)) h

pub name_of_ring : (ring : ℕ) (found : Option (List ℕ)) → IsSomeAnd found (λ (name : List ℕ). 0 < length name) → BeginsWithName (unknown_faults (path.UnknownOfRing ring) found)
name_of_ring ring found h = name_first (path.UnknownOfRing ring) found (λ name. inr (ring, inr refl)) h

-- the error that a call hands on
pub handed : {T : Type 0} (r : Result T JobError) (e : JobError) → IsErrAnd r (λ (x : JobError). x ≡ e) → r ≡ Err NoMemory → e ≡ NoMemory
handed (Ok t) e gives told = absurd gives
handed (Err x) e gives told = let is : x ≡ NoMemory = cc in sym gives ∙ is

-- what holds of an error holds of that which is handed on
pub handed_on : {T : Type 0} (r : Result T JobError) (e : JobError) (P : JobError → Type 0) → IsErrAnd r (λ (x : JobError). x ≡ e) → P e → IfErr r P
handed_on (Ok t) e P gives h = tt
handed_on (Err x) e P gives h = subst P (sym gives) h

-- more faults after it
pub name_before : (a b : List JobError) → BeginsWithName a → BeginsWithName (a ++ b)
name_before a b h = record { name = h.name; some = h.some; place = h.place; names = h.names; first = first_of_more a b _ h.first }

-- no faults before it
pub name_after : (a b : List JobError) → a ≡ [] → BeginsWithName b → BeginsWithName (a ++ b)
name_after a b none h = rw none h

-- a guest whose script has no fault
pub guest_named : (words guest : ℕ) (value : Data) (members : Option Members) → script_faults words guest (listed_in key.Script value) ≡ []
    → IsSomeAnd (first_unknown (key.Script ∷ []) members) (λ (name : List ℕ). 0 < length name) → BeginsWithName (object_faults words guest value members)
guest_named words guest value None script h = absurd h
guest_named words guest value (Some ms) script h = name_after _ _ script (name_of_guest guest (first_unknown (key.Script ∷ []) (Some ms)) h)

-- a ring whose fields have no fault
pub ring_named : (words ring : ℕ) (value : Data) (members : Option Members) → fields_faults ring value ≡ []
    → IsSomeAnd (first_unknown ring_keys members) (λ (name : List ℕ). 0 < length name) → BeginsWithName (ring_faults_by words ring value members)
ring_named words ring value None fields h = absurd h
ring_named words ring value (Some ms) fields h = name_before _ _ (name_after _ _ fields (name_of_ring ring (first_unknown ring_keys (Some ms)) h))

-- the script of a guest without a fault has none
pub script_tested : (words guest : ℕ) (value : Data) (members : Option Members) → object_faults words guest value members ≡ [] → script_faults words guest (listed_in key.Script value) ≡ []
script_tested words guest value None h = absurd (cc)
script_tested words guest value (Some ms) h = (both_empty _ _ h).0

-- the guest at a place, and those after it
pub at_guest : (words : ℕ) (values : List Value) (i : ℕ) (d : Value) → i < length values
    → each_guest_faults words i (items_view (drop i values)) ≡ guest_faults words i (view (get_or values i d)) ++ each_guest_faults words (i + 1) (items_view (drop (i + 1) values))
at_guest words values i d h = at_drop_more (λ vs. each_guest_faults words i (items_view vs)) values i d h

-- the ring at a place, and those after it
pub at_ring : (words : ℕ) (values : List Value) (i : ℕ) (d : Value) → i < length values
    → each_ring_faults words i (items_view (drop i values)) ≡ ring_faults words i (view (get_or values i d)) ++ each_ring_faults words (i + 1) (items_view (drop (i + 1) values))
at_ring words values i d h = at_drop_more (λ vs. each_ring_faults words i (items_view vs)) values i d h

pub both_none : {a b : List JobError} → a ≡ [] → b ≡ [] → a ++ b ≡ []
both_none ha hb = rw (ha, hb) refl

last_of : (a b c d e f : List JobError) → a ≡ [] → b ≡ [] → c ≡ [] → a ++ b ++ c ++ d ++ e ++ f ≡ d ++ e ++ f
last_of a b c d e f ha hb hc = rw (ha, hb, hc) refl

module _ (m : Module) (job : Data) (entry : Entry) (good : HasGoodFields m job entry) where
  -- after good fields the faults are the others
  rest_alone : before_faults (entry_definition m entry.number) job ≡ rest_faults (buffer_words job) job
  rest_alone =
      last_of (args_faults (params_at (entry_definition m entry.number)) (field_of key.Args job)) (bytes_faults key.Buffer (text_of key.Buffer job)) (workers_faults (number_of key.Workers job))
      (guests_faults (buffer_words job) (listed_in key.Guests job)) (rings_faults (buffer_words job) (field_of key.Rings job)) (swaps_faults (field_of key.Swaps job))
      good.args good.buffer good.workers

  pub first_of_rest : (e : JobError) → IsFirst (rest_faults (buffer_words job) job) e → FirstFault m job e
  first_of_rest e first = inr (entry, good.named, inl (record { others = first.others; is = rest_alone ∙ first.is }))

  pub none_of_rest : rest_faults (buffer_words job) job ≡ [] → before_faults (entry_definition m entry.number) job ≡ []
  none_of_rest none = rest_alone ∙ none
