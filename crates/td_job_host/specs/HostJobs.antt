-- What a host job is, and what is wrong with one (own rule).
--
-- A host job is a JSON object with the fields `entry`, `args`, `buffer`, `workers`, `guests`, `rings` and `swaps`. Its faults stand in
-- that order, each field looked at for all that can be wrong with it (a list first for its length, and then element by element),
-- then the fields of other names, and at last the totals `posts`, `stores`, `words` and `copies` over all scripts and rings; at one
-- place the lower code stands first. The answer is the first fault. `entry` and `args` are those of a run job, and `buffer` is as its
-- `bytes`.
use Rattle.std.specs.Prelude.{◌≡◌, ℕ, ◌+◌, ◌<◌, ◌≤◌, ◌^◌, ◌⊎◌, List, [], ◌∷◌, ◌++◌, map, length, slice_get, Option, Some}
use Rattle.std.specs.List.{All}
use Rattle.serde_json.specs.Data.{Data}
use Rattle.serde_json.specs.Find.{as_object}
use Rattle.td_job_host.specs.Imports.{Module, Entry, TypeDef, Buffer, Key, JobError, Fault, HostJob, Mail}
use Rattle.td_core.specs.Entries.{entry_definition}
use Rattle.td_core.specs.Formed.{AllFit, params_at, cells_at}
use Rattle.td_front.specs.ModuleText.{IsModuleText}
use Rattle.td_job.specs.declared.checks.TheConstants.{MOST_BYTES}
use Rattle.td_job.specs.declared.error.Key.TheVariants as key
use Rattle.td_job.specs.declared.error.Path.TheVariants as path
use Rattle.td_job.specs.declared.error.JobRule.TheVariants as rule
use Rattle.td_job.specs.Fields.{Reads, field_of, text_of, number_of, IsFirst}
use Rattle.td_job.specs.Values.{args_faults, given_args}
use Rattle.td_job.specs.Words.{IsFilled}
use Rattle.td_job.specs.Jobs.{EntryFault, IsEntry, bytes_faults, spelled_bytes, first_unknown, unknown_faults}
use Rattle.td_posts.specs.declared.limits.TheConstants.{MOST_GUESTS, MOST_SWAPS, MOST_POSTS, MOST_RINGS}
use Rattle.td_stream.specs.declared.layout.TheConstants.{MOST_STRETCHES}
use Rattle.td_stream.specs.Layouts.{length_in}
use Rattle.td_posts.specs.Posts.{IsVersion, words_in, layout_of}
use Rattle.td_posts.specs.Servable.{job_mails, room_in, IsRingWithin}
use Rattle.td_job_host.specs.Guests.{listed_in, workers_faults, guests_faults, given_guests, BeginsWithName}
use Rattle.td_job_host.specs.Swaps.{buffers_in, swaps_faults, given_swaps, AreSwaps, FirstSwapFault, MayLackSwap}
use Rattle.td_job_host.specs.Rings.{rings_faults, given_rings}
use Rattle.td_job_host.specs.Totals.{totals_faults}

-- the bytes of the buffer, and how many words they fill
abbrev pub given_buffer : Data → List ℕ
given_buffer job = spelled_bytes (text_of key.Buffer job)

abbrev pub buffer_words : Data → ℕ
buffer_words job = words_in (length (given_buffer job))

-- the fields of a host job
abbrev pub host_keys : List Key
host_keys = key.Entry ∷ key.Args ∷ key.Buffer ∷ key.Workers ∷ key.Guests ∷ key.Rings ∷ key.Swaps ∷ []

-- the faults of a job after those of `entry`, whose definition this is, and before those of the elements of `swaps`
abbrev pub before_faults : Option TypeDef → Data → List JobError
before_faults d job =
    args_faults (params_at d) (field_of key.Args job)
    ++ bytes_faults key.Buffer (text_of key.Buffer job)
    ++ workers_faults (number_of key.Workers job)
    ++ guests_faults (buffer_words job) (listed_in key.Guests job)
    ++ rings_faults (buffer_words job) (field_of key.Rings job)
    ++ swaps_faults (field_of key.Swaps job)

-- the rooms of the copy buffers of an entry point with this definition
abbrev pub rooms_in : Option TypeDef → List ℕ
rooms_in d = map (λ (b : Buffer). b.room) (buffers_in d)

-- the faults after those of the elements of `swaps`
abbrev pub after_faults : Option TypeDef → Data → List JobError
after_faults d job = unknown_faults path.Unknown (first_unknown host_keys (as_object job)) ++ totals_faults (room_in (rooms_in d)) (given_guests job) (given_rings job)

-- the elements of `swaps` stand for these modules and entry points, which may replace the module with this entry point
abbrev pub AreSwapsOf : Module → Data → Entry → List Module → List Entry → Type 0
AreSwapsOf m job entry formats entries = AreSwaps m entry (text_of key.Entry job) (given_swaps job) formats entries

-- the first fault of a job after those of `entry`
abbrev pub LaterFault : Module → Data → Entry → JobError → Type 0
LaterFault m job entry e =
    IsFirst (before_faults (entry_definition m entry.number) job) e
    ⊎ ((before_faults (entry_definition m entry.number) job ≡ [])
    × (FirstSwapFault m entry (text_of key.Entry job) 0 (given_swaps job) e
    ⊎ ((formats : List Module) × (entries : List Entry) × AreSwapsOf m job entry formats entries × IsFirst (after_faults (entry_definition m entry.number) job) e)))

-- the first fault of a job
abbrev pub FirstFault : Module → Data → JobError → Type 0
FirstFault m job e = EntryFault m (text_of key.Entry job) e ⊎ ((entry : Entry) × IsEntry m (text_of key.Entry job) entry × LaterFault m job entry e)

-- the first fields of a host job, up to `workers`, have no fault, and this is its entry point
pub record HasGoodFields (m : Module) (job : Data) (entry : Entry) : Type 0 where
  pub named : IsEntry m (text_of key.Entry job) entry
  pub args : args_faults (params_at (entry_definition m entry.number)) (field_of key.Args job) ≡ []
  pub buffer : bytes_faults key.Buffer (text_of key.Buffer job) ≡ []
  pub workers : workers_faults (number_of key.Workers job) ≡ []

-- the faults after those fields and before the elements of `swaps`, with a buffer of so many words
abbrev pub rest_faults : ℕ → Data → List JobError
rest_faults words job = guests_faults words (listed_in key.Guests job) ++ rings_faults words (field_of key.Rings job) ++ swaps_faults (field_of key.Swaps job)

-- Memory may be lacking for a job whose first fields have no fault: where its buffer has too many words for any memory; where the
-- first fault of a guest or of a ring is a field of another name, which is copied; where a swap's text is to be looked at; and where all up to the
-- swaps has no fault, and then there is none, or the first one is a field of another name.
abbrev pub LacksRest : Module → Data → Entry → Type 0
LacksRest m job entry =
    (2 ^ 32 ≤ buffer_words job)
    ⊎ (BeginsWithName (rest_faults (buffer_words job) job)
    ⊎ ((rest_faults (buffer_words job) job ≡ [])
    × (MayLackSwap m entry (text_of key.Entry job) (given_swaps job)
    ⊎ ((formats : List Module) × (entries : List Entry) × AreSwapsOf m job entry formats entries × ((after_faults (entry_definition m entry.number) job ≡ []) ⊎ BeginsWithName (after_faults (entry_definition m entry.number) job))))))

pub record MayLackMemory (m : Module) (job : Data) : Type 0 where
  pub entry : Entry
  pub good : HasGoodFields m job entry
  pub rest : LacksRest m job entry

-- the host job that a job without a fault is: version 0 is the module with its entry point, and the others are the swaps
pub record IsHost (m : Module) (job : Data) (j : HostJob) : Type 0 where
  pub entry : Entry
  pub formats : List Module
  pub entries : List Entry
  pub named : IsEntry m (text_of key.Entry job) entry
  pub before : before_faults (entry_definition m entry.number) job ≡ []
  pub swaps : AreSwapsOf m job entry formats entries
  pub after : after_faults (entry_definition m entry.number) job ≡ []
  pub by : j.formats ≡ m ∷ formats
  pub begins : j.entries ≡ entry ∷ entries
  pub args : j.args ≡ given_args (entry_definition m entry.number) job
  pub cells : j.cells ≡ length (cells_at (entry_definition m entry.number))
  pub roomy : j.rooms ≡ rooms_in (entry_definition m entry.number)
  pub filled : IsFilled (given_buffer job) (buffer_words job) j.words
  pub worked : number_of key.Workers job ≡ Some j.workers
  pub scripted : j.guests ≡ given_guests job
  pub looked_at : j.rings ≡ given_rings job

-- the host job that the bytes stand for
abbrev pub IsHostJob : List ℕ → Module → HostJob → Type 0
IsHostJob bytes m j = (job : Data) × Reads bytes job × IsHost m job j

-- how the bytes are refused: they aren't JSON (J1), or stand for a job with a fault, of which it is the first
abbrev pub RefusedHostJob : List ℕ → Module → JobError → Type 0
RefusedHostJob bytes m e =
    ((e ≡ Fault rule.NotJson path.Job) × ((job : Data) → Reads bytes job → ⊥))
    ⊎ ((job : Data) × Reads bytes job × FirstFault m job e)

-- the entry point is this module's, each of its parameters has its value, which fits there, its cells are so many, and its copy
-- buffers have these rooms
pub record HasVersionValues (j : HostJob) (f : Module) (g : Entry) : Type 0 where
  pub entry : g.number < length f.entries
  pub args : AllFit (params_at (entry_definition f g.number)) j.args
  pub cells : j.cells ≡ length (cells_at (entry_definition f g.number))
  pub rooms : j.rooms ≡ rooms_in (entry_definition f g.number)

-- the module itself, or one for which a text stands
abbrev pub IsOrStands : Module → Module → Type 0
IsOrStands m f = (f ≡ m) ⊎ ((text : List ℕ) × IsModuleText text f)

-- version 0 is the module itself, each other one is that, too, or a module for which a text stands, and each version has its values
pub record HasHostValues (m : Module) (j : HostJob) : Type 0 where
  pub first : slice_get j.formats 0 ≡ Some m
  pub as_many : length j.entries ≡ length j.formats
  pub stand : All (IsOrStands m) j.formats
  pub each : (n : ℕ) (f : Module) (g : Entry) → IsVersion j n f g → HasVersionValues j f g

-- a message of at most a MiB, and of few stretches
pub record IsShort (mail : Mail) : Type 0 where
  pub bytes : length_in (layout_of mail) ≤ MOST_BYTES
  pub stretches : length (layout_of mail) ≤ MOST_STRETCHES

abbrev pub HasShortMessages : HostJob → Type 0
HasShortMessages j = All IsShort (job_mails j)

-- the entry point of each version is its own, with a value for each parameter; its messages are short, its versions, guests, posts and
-- rings few, and each ring lies in the buffer and is within its limits
pub record KeepsLimits (m : Module) (j : HostJob) : Type 0 where
  pub values : HasHostValues m j
  pub short : HasShortMessages j
  pub few_versions : length j.formats ≤ MOST_SWAPS + 1
  pub few_guests : length j.guests ≤ MOST_GUESTS
  pub few_posts : length (job_mails j) ≤ MOST_POSTS
  pub few_rings : length j.rings ≤ MOST_RINGS
  pub rings : All (IsRingWithin (length j.words)) j.rings
