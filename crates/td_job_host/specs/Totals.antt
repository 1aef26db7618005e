-- The totals over a host job (own rule): at most 4,096 posts, 65,536 stores, and messages of 1,048,576 words in all, those included
-- that its rings' takes can have, and copy buffers of 16,777,216 bytes in all, those of each post and of each take (J8).
use Rattle.std.specs.Prelude.{ℕ, ◌+◌, ◌*◌, List, ◌++◌, nat_lt}
use Rattle.std.specs.List.{sum_by}
use Rattle.td_job_host.specs.Imports.{Key, JobError, Fault, Step, Store, Post, Scatter, RingJob}
use Rattle.td_job.specs.declared.error.Key.TheVariants as key
use Rattle.td_job.specs.declared.error.JobRule.TheVariants as rule
use Rattle.td_job.specs.declared.error.Path.TheVariants as path
use Rattle.td_job.specs.Fields.{fault_if}
use Rattle.td_posts.specs.declared.limits.TheConstants.{MOST_POSTS, MOST_STORES, MOST_MESSAGE_WORDS, MOST_COPIED_BYTES}
use Rattle.td_posts.specs.Posts.{words_in}
use Rattle.td_posts.specs.Servable.{ring_message_words}
use Rattle.td_stream.specs.Layouts.{count_in}
use Rattle.td_job_host.specs.declared.totals.Total.{Total}
use Rattle.td_job_host.specs.declared.totals.Total.TheVariants.{Posts, Stores, Words, Copies}

-- by how much a step counts: a post is one, a store is one, a message has its words, and a post copy buffers of so many bytes
abbrev pub weight : Total → Step → ℕ
weight Posts (Store word value) = 0
weight Posts (Post base length) = 1
weight Posts (Scatter layout) = 1
weight Stores (Store word value) = 1
weight Stores (Post base length) = 0
weight Stores (Scatter layout) = 0
weight Words (Store word value) = 0
weight Words (Post base length) = words_in length
weight Words (Scatter layout) = count_in layout
weight (Copies room) (Store word value) = 0
weight (Copies room) (Post base length) = room
weight (Copies room) (Scatter layout) = room

abbrev pub most_of : Total → ℕ
most_of Posts = MOST_POSTS
most_of Stores = MOST_STORES
most_of Words = MOST_MESSAGE_WORDS
most_of (Copies room) = MOST_COPIED_BYTES

abbrev pub key_of : Total → Key
key_of Posts = key.Posts
key_of Stores = key.Stores
key_of Words = key.Words
key_of (Copies room) = key.Copies

-- by how much a ring counts: it has the words that the messages of its takes can have, and copy buffers for each take
abbrev pub ring_weight : Total → RingJob → ℕ
ring_weight Posts ring = 0
ring_weight Stores ring = 0
ring_weight Words ring = ring_message_words ring
ring_weight (Copies room) ring = ring.takes * room

-- over the scripts of all guests, and all rings
abbrev pub total : Total → List (List Step) → List RingJob → ℕ
total what guests rings = sum_by (sum_by (weight what)) guests + sum_by (ring_weight what) rings

abbrev pub total_fault : Total → List (List Step) → List RingJob → List JobError
total_fault what guests rings = fault_if (nat_lt (most_of what) (total what guests rings)) (Fault rule.Limit (path.Whole (key_of what)))

-- where the copy buffers of one validation have so many bytes in all
abbrev pub totals_faults : ℕ → List (List Step) → List RingJob → List JobError
totals_faults room guests rings = total_fault Posts guests rings ++ total_fault Stores guests rings ++ total_fault Words guests rings ++ total_fault (Copies room) guests rings
