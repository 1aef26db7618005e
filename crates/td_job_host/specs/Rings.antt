-- The rings of a host job, and what is wrong with them (own rule).
--
-- `rings` is a list (J2) of at most 16 rings (J8); it may be left out. A ring is an object (J2) with the whole numbers `base`,
-- `entries`, `most` and `takes`, each of which is looked at in this order (J2), and no other field (J2). Its count and its entries, of
-- two words each, lie in the buffer (J7). It has 1 to 1,024 entries, messages of at most 1,048,576 bytes, and at most 4,096 takes (J8).
use Rattle.std.specs.Prelude.{ℕ, ◌+◌, ◌*◌, List, [], ◌∷◌, ◌++◌, Bool, ◌||◌, nat_eq, nat_lt, Option, Some, None}
use Rattle.serde_json.specs.Data.{Data, Items, no_items, item, Members}
use Rattle.serde_json.specs.Events.{items_len}
use Rattle.serde_json.specs.Find.{as_array, as_object}
use Rattle.td_job_host.specs.Imports.{Key, JobError, Fault, Path, RingJob}
use Rattle.td_job.specs.declared.error.Key.TheVariants as key
use Rattle.td_job.specs.declared.error.JobRule.TheVariants as rule
use Rattle.td_job.specs.declared.error.Path.TheVariants as path
use Rattle.td_job.specs.Fields.{field_of, number_of, fault_if, fault_if_none}
use Rattle.td_job.specs.Jobs.{first_unknown, unknown_faults}
use Rattle.td_posts.specs.declared.limits.TheConstants.{MOST_RINGS, MOST_ENTRIES, MOST_RING_MESSAGE, MOST_TAKES}
use Rattle.td_job_host.specs.declared.rings.SpelledRing.{SpelledRing}
use Rattle.td_job_host.specs.Guests.{listed_in}

-- ---- a ring

-- its fields
abbrev pub ring_keys : List Key
ring_keys = key.Base ∷ key.Entries ∷ key.Most ∷ key.Takes ∷ []

-- a field is a whole number
abbrev pub field_faults : ℕ → Key → Data → List JobError
field_faults ring k value = fault_if_none (number_of k value) (Fault rule.Form (path.RingField ring k))

abbrev pub fields_faults : ℕ → Data → List JobError
fields_faults ring value = field_faults ring key.Base value ++ field_faults ring key.Entries value ++ field_faults ring key.Most value ++ field_faults ring key.Takes value

-- the ring of these numbers; a field that is no number counts as 0
abbrev pub or_zero : Option ℕ → ℕ
or_zero None = 0
or_zero (Some n) = n

abbrev pub given_ring : Data → RingJob
given_ring value = record {
  base = or_zero (number_of key.Base value);
  entries = or_zero (number_of key.Entries value);
  most = or_zero (number_of key.Most value);
  takes = or_zero (number_of key.Takes value);
}

-- the ring that a job spells so
abbrev pub ring_in : SpelledRing → RingJob
ring_in s = record { base = s.base; entries = s.entries; most = s.most; takes = s.takes }

-- it passes the end of a buffer of so many words
abbrev pub is_past : ℕ → RingJob → Bool
is_past words ring = nat_lt words (ring.base + 1 + 2 * ring.entries)

-- it has no entry, or more of something than it may have
abbrev pub is_past_limit : RingJob → Bool
is_past_limit ring = nat_eq ring.entries 0 || nat_lt MOST_ENTRIES ring.entries || nat_lt MOST_RING_MESSAGE ring.most || nat_lt MOST_TAKES ring.takes

abbrev pub place_faults : ℕ → Path → RingJob → List JobError
place_faults words place ring = fault_if (is_past words ring) (Fault rule.PastBytes place) ++ fault_if (is_past_limit ring) (Fault rule.Limit place)

-- a ring with these members
abbrev pub ring_faults_by : ℕ → ℕ → Data → Option Members → List JobError
ring_faults_by words ring value None = Fault rule.Form (path.Element key.Rings ring) ∷ []
ring_faults_by words ring value (Some members) =
    fields_faults ring value ++ unknown_faults (path.UnknownOfRing ring) (first_unknown ring_keys (Some members)) ++ place_faults words (path.Element key.Rings ring) (given_ring value)

abbrev pub ring_faults : ℕ → ℕ → Data → List JobError
ring_faults words ring value = ring_faults_by words ring value (as_object value)

-- ---- the list

abbrev pub each_ring_faults : ℕ → ℕ → Items → List JobError
each_ring_faults words ring no_items = []
each_ring_faults words ring (item value values) = ring_faults words ring value ++ each_ring_faults words (ring + 1) values

abbrev pub ring_list_faults : ℕ → Option Items → List JobError
ring_list_faults words None = Fault rule.Form (path.Whole key.Rings) ∷ []
ring_list_faults words (Some values) = fault_if (nat_lt MOST_RINGS (items_len values)) (Fault rule.Limit (path.Whole key.Rings)) ++ each_ring_faults words 0 values

-- of the field, where it stands, for a buffer of so many words
abbrev pub rings_faults : ℕ → Option Data → List JobError
rings_faults words None = []
rings_faults words (Some value) = ring_list_faults words (as_array value)

-- the rings
abbrev pub each_ring : Items → List RingJob
each_ring no_items = []
each_ring (item value values) = given_ring value ∷ each_ring values

abbrev pub listed_rings : Option Items → List RingJob
listed_rings None = []
listed_rings (Some values) = each_ring values

abbrev pub given_rings : Data → List RingJob
given_rings job = listed_rings (listed_in key.Rings job)
