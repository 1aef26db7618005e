-- Which code does the validations of a host job, under one of its versions (own rule).
use Rattle.std.specs.Prelude.{ℕ, ◌<◌, ◌^◌, List, length}
use Rattle.td_num.specs.Lists.{AreBytes}
use Rattle.td_core.specs.declared.module.Module.{Module}
use Rattle.td_core.specs.declared.module.Entry.{Entry}
use Rattle.td_core.specs.declared.outcome.Outcome.{Outcome}
use Rattle.td_meaning.specs.Copies.{outcome, IsSoundFrom}
use Rattle.td_stream.specs.declared.load.Load.{Load}
use Rattle.td_stream.specs.declared.stretch.Stretch.{Stretch}
use Rattle.td_stream.specs.Loads.{IsFetchedOnce}
use Rattle.td_fetch.specs.Outcomes.{IsMeant}
use Rattle.td_ir.specs.declared.tables.Parts.{Parts}
use Rattle.td_ir.specs.Entries.{Fits}
use Rattle.td_lower_means.specs.CodeRun.{IsCodeOf}
use Rattle.td_posts.specs.declared.job.HostJob.{HostJob}
use Rattle.td_posts.specs.Posts.{IsVersion, zeros, HaveRoom}

-- whatever bytes a message of the job has, each expression that the meaning of this version evaluates lies in its type's range
abbrev pub IsSoundVersion : HostJob → Module → Entry → Type 0
IsSoundVersion job m entry = IsSoundFrom m entry job.args (zeros job.cells)

-- whatever bytes a message of the job has, what this version copies of it fits the job's rooms
abbrev pub HasRoomVersion : HostJob → Module → Entry → Type 0
HasRoomVersion job m entry = (b : List ℕ) → AreBytes b → length b < 2 ^ 32 → HaveRoom job.rooms (outcome m entry job.args (zeros job.cells) b).copies

-- the job can be done by this code under a version of this module and this entry point: it is the module's, the job's arguments and
-- cells of zeros fit the entry point, and its rooms what is copied
pub record VersionCode (c : Parts) (job : HostJob) (m : Module) (entry : Entry) : Type 0 where
  pub code : IsCodeOf c m
  pub fits : Fits c entry job.args (zeros job.cells)
  pub sound : IsSoundVersion job m entry
  pub roomy : HasRoomVersion job m entry

-- a message of the job that lies so was validated under this version, with these loads and this outcome: each word was loaded at most
-- once, in rising order, and on every list of bytes that carries the loads the outcome is the meaning's, from cells of zeros, and exactly
-- the words that this meaning reads were loaded
abbrev pub IsMeantUnder : HostJob → Module → Entry → List Stretch → List Load → Outcome → Type 0
IsMeantUnder job m entry layout loads o = IsFetchedOnce layout loads (λ b. AreBytes b → IsMeant layout m entry job.args (zeros job.cells) b loads o)

-- this code and this entry point are those of the version of this number
pub record IsCodeAt (c : Parts) (job : HostJob) (n : ℕ) (entry : Entry) : Type 0 where
  pub format : Module
  pub version : IsVersion job n format entry
  pub can : VersionCode c job format entry

-- this code does the validations of the messages that rings name: those under version 0
unfoldable pub IsMessageCode : Parts → HostJob → Type 0
IsMessageCode c job = (entry : Entry) × IsCodeAt c job 0 entry
