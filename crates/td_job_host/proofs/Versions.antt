-- Each version of a host job has an entry point of its own, which takes and fills what that of version 0 does.
use Rattle.std.proofs.Common.{◌≡◌, ℕ, zero, suc, List, [], ◌∷◌, length, map, Option, Some, None, Result, Ok, Err, ◌⊎◌, inl, inr, refl, sym, ap, ◌∙◌, subst}
use Rattle.std.specs.Prelude.{IfOk, slice_get}
use Rattle.std.specs.List.{All}
use Rattle.std.proofs.lemmas.List.Elements.{All-nil, All-cons}
use Rattle.serde_json.specs.Data.{Data, Items, no_items, item}
use Rattle.td_job_host.specs.Imports.{Module, Entry, TypeDef, Param, Cell, JobError, HostJob}
use Rattle.td_core.specs.Entries.{entry_definition}
use Rattle.td_core.specs.Formed.{Bound, AllFit, cell_bound, param_bounds, cell_bounds, params_at, cells_at}
use Rattle.td_job.specs.declared.error.Key.TheVariants as key
use Rattle.td_job.specs.Fields.{text_of, field_of}
use Rattle.td_job.proofs.Numbers.{both_empty, args_fit}
use Rattle.td_job.proofs.Unique.{named_within}
use Rattle.td_posts.specs.Posts.{IsVersion}
use Rattle.td_job_host.specs.Swaps.{Named, NamedRoom, named_param, named_cell, named_buffer, params_named, cells_named, buffers_named, given_swaps, Replaces, IsSwap, AreSwaps}
use Rattle.td_job_host.specs.HostJobs.{rooms_in, IsHost, IsHostJob, IsOrStands, HasVersionValues, HasHostValues}
use Rattle.td_job_host.proofs.Swapping.{as_many_formats, as_many_entries}

-- ---- what is named bounds the values

abbrev bound_of : Named → Bound
bound_of n = cell_bound n.kind

map_twice : {A B C : Type 0} (h : B → C) (g : A → B) (xs : List A) → map (λ x. h (g x)) xs ≡ map h (map g xs)
map_twice h g [] = refl
map_twice h g (x ∷ xs) = ap (λ l. h (g x) ∷ l) (map_twice h g xs)

args_named : (m : Module) (d : Option TypeDef) → params_at d ≡ map bound_of (params_named m d)
args_named m None = refl
args_named m (Some d) = map_twice bound_of (named_param m) d.params

bounds_named : (m : Module) (d : Option TypeDef) → cells_at d ≡ map bound_of (cells_named m d)
bounds_named m None = refl
bounds_named m (Some d) = map_twice bound_of (named_cell m) d.cells

same_args : (m : Module) (entry : Entry) (name : Option (List ℕ)) (f : Module) (g : Entry) → Replaces m entry name f g → params_at (entry_definition m entry.number) ≡ params_at (entry_definition f g.number)
same_args m entry name f g h =
    args_named m (entry_definition m entry.number) ∙ (ap (map bound_of) (sym h.params) ∙ sym (args_named f (entry_definition f g.number)))

same_cells : (m : Module) (entry : Entry) (name : Option (List ℕ)) (f : Module) (g : Entry) → Replaces m entry name f g → cells_at (entry_definition m entry.number) ≡ cells_at (entry_definition f g.number)
same_cells m entry name f g h =
    bounds_named m (entry_definition m entry.number) ∙ (ap (map bound_of) (sym h.cells) ∙ sym (bounds_named f (entry_definition f g.number)))

rooms_named : (m : Module) (d : Option TypeDef) → rooms_in d ≡ map (λ (n : NamedRoom). n.room) (buffers_named m d)
rooms_named m None = refl
rooms_named m (Some d) = map_twice (λ (n : NamedRoom). n.room) (named_buffer m) d.buffers

same_rooms : (m : Module) (entry : Entry) (name : Option (List ℕ)) (f : Module) (g : Entry) → Replaces m entry name f g → rooms_in (entry_definition m entry.number) ≡ rooms_in (entry_definition f g.number)
same_rooms m entry name f g h =
    rooms_named m (entry_definition m entry.number) ∙ (ap (map (λ (n : NamedRoom). n.room)) (sym h.buffers) ∙ sym (rooms_named f (entry_definition f g.number)))

-- ---- versions by their numbers

abbrev SwapAt : Module → Entry → Option (List ℕ) → Module → Entry → Type 0
SwapAt m entry name f g = (text : List ℕ) × IsSwap m entry name text f g

module _ (m : Module) (entry : Entry) (name : Option (List ℕ)) where
  all_stand : (values : Items) (fs : List Module) (gs : List Entry) → AreSwaps m entry name values fs gs → All (IsOrStands m) fs
  all_stand no_items [] gs h = All-nil (IsOrStands m)
  all_stand no_items (f ∷ fs) gs h = absurd h
  all_stand (item value values) [] gs h = absurd h
  all_stand (item value values) (f ∷ fs) [] h = absurd h
  all_stand (item value values) (f ∷ fs) (g ∷ gs) h = All-cons (IsOrStands m) f fs (inr (h.0.0, h.0.2.0)) (all_stand values fs gs h.1)

  swap_at : (values : Items) (fs : List Module) (gs : List Entry) → AreSwaps m entry name values fs gs → (k : ℕ) (f : Module) (g : Entry) → slice_get fs k ≡ Some f → slice_get gs k ≡ Some g → SwapAt m entry name f g
  swap_at no_items [] [] h k f g hf hg = absurd (cc)
  swap_at no_items [] (y ∷ ys) h k f g hf hg = absurd h
  swap_at no_items (x ∷ xs) gs h k f g hf hg = absurd h
  swap_at (item value values) [] gs h k f g hf hg = absurd h
  swap_at (item value values) (x ∷ xs) [] h k f g hf hg = absurd h
  swap_at (item value values) (x ∷ xs) (y ∷ ys) h zero f g hf hg =
      let one : x ≡ f = cc in
      let other : y ≡ g = cc in
      (h.0.0, subst (λ (z : Module). IsSwap m entry name h.0.0 z g) one (subst (λ (z : Entry). IsSwap m entry name h.0.0 x z) other h.0.2))
  swap_at (item value values) (x ∷ xs) (y ∷ ys) h (suc k) f g hf hg = swap_at values xs ys h.1 k f g hf hg

values_of_first : (m : Module) (job : Data) (j : HostJob) → (h : IsHost m job j) → HasVersionValues j m h.entry
values_of_first m job j h =
    let d = entry_definition m h.entry.number in
    let list = both_empty _ _ h.before in
    let rings = both_empty _ _ list.0 in
    let guests = both_empty _ _ rings.0 in
    let workers = both_empty _ _ guests.0 in
    let lists = both_empty _ _ workers.0 in
    record {
      entry = named_within m (text_of key.Entry job) h.entry h.named;
      args = subst (AllFit (params_at d)) (sym h.args) (args_fit (params_at d) (field_of key.Args job) lists.0);
      cells = h.cells;
      rooms = h.roomy;
    }

values_of_swap : (m : Module) (job : Data) (j : HostJob) → (h : IsHost m job j) → (f : Module) (g : Entry) → Replaces m h.entry (text_of key.Entry job) f g → HasVersionValues j f g
values_of_swap m job j h f g is =
    let first = values_of_first m job j h in
    record {
      entry = named_within f (text_of key.Entry job) g is.named;
      args = subst (λ (bounds : List Bound). AllFit bounds j.args) (same_args m h.entry (text_of key.Entry job) f g is) first.args;
      cells = first.cells ∙ ap (length {A = Bound}) (same_cells m h.entry (text_of key.Entry job) f g is);
      rooms = first.rooms ∙ same_rooms m h.entry (text_of key.Entry job) f g is;
    }

each_version : (m : Module) (job : Data) (j : HostJob) → (h : IsHost m job j) → (n : ℕ) (f : Module) (g : Entry) → slice_get (m ∷ h.formats) n ≡ Some f → slice_get (h.entry ∷ h.entries) n ≡ Some g → HasVersionValues j f g
each_version m job j h zero f g hf hg =
    let one : m ≡ f = cc in
    let other : h.entry ≡ g = cc in
    subst (λ (x : Module). HasVersionValues j x g) one (subst (λ (y : Entry). HasVersionValues j m y) other (values_of_first m job j h))
each_version m job j h (suc k) f g hf hg =
    let swap = swap_at m h.entry (text_of key.Entry job) (given_swaps job) h.formats h.entries h.swaps k f g hf hg in
    values_of_swap m job j h f g swap.1.1

pub host_values : (m : Module) (job : Data) (j : HostJob) → IsHost m job j → HasHostValues m j
host_values m job j h =
    let name = text_of key.Entry job in
    let as_many : length h.entries ≡ length h.formats = as_many_entries m h.entry name (given_swaps job) h.formats h.entries h.swaps ∙ sym (as_many_formats m h.entry name (given_swaps job) h.formats h.entries h.swaps) in
    record {
      first = ap (λ (fs : List Module). slice_get fs 0) h.by;
      as_many = ap (length {A = Entry}) h.begins ∙ (ap suc as_many ∙ sym (ap (length {A = Module}) h.by));
      stand = subst (All (IsOrStands m)) (sym h.by) (All-cons (IsOrStands m) m h.formats (inl refl) (all_stand m h.entry name (given_swaps job) h.formats h.entries h.swaps));
      each = λ n f g version. each_version m job j h n f g (ap (λ (fs : List Module). slice_get fs n) (sym h.by) ∙ version.0) (ap (λ (gs : List Entry). slice_get gs n) (sym h.begins) ∙ version.1);
    }

-- the entry point of each version of a job is its module's, and each parameter has a value that fits
pub all_fit : (bytes : List ℕ) (m : Module) (answer : Result HostJob JobError) → IfOk answer (IsHostJob bytes m) → IfOk answer (HasHostValues m)
all_fit bytes m (Ok j) h = host_values m h.0 j h.2
all_fit bytes m (Err e) h = tt
