-- Which codes do a job, and what a reply to one of its posts is (own rule).
use Rattle.std.specs.Prelude.{◌≡◌, ℕ, List, [], ◌∷◌, ◌++◌, length, Option, Some, None, slice_get}
use Rattle.td_core.specs.declared.module.Module.{Module}
use Rattle.td_core.specs.declared.module.Entry.{Entry}
use Rattle.td_stream.specs.declared.load.Load.{Load}
use Rattle.td_stream.specs.declared.stretch.Stretch.{Stretch}
use Rattle.td_stream.specs.Layouts.{buffer_word}
use Rattle.td_posts.specs.declared.name.PostName.{PostName}
use Rattle.td_ir.specs.declared.tables.Parts.{Parts}
use Rattle.td_ring.specs.declared.post.Post.{Post}
use Rattle.td_posts.specs.declared.mail.Mail.{Mail}
use Rattle.td_posts.specs.declared.reply.Reply.{Reply}
use Rattle.td_posts.specs.declared.job.HostJob.{HostJob}
use Rattle.td_takes.specs.Codes.{VersionCode, IsMeantUnder}
use Rattle.td_posts.specs.Posts.{IsVersion, list_of, layout_of, mail_named, reply_name, version_in, outcome_in}

-- there are as many codes as versions, each with a module and an entry point, and the job can be done by each under its version
pub record JobCode (cs : List Parts) (job : HostJob) : Type 0 where
  pub as_many : length cs ≡ length job.formats
  pub as_many_entries : length cs ≡ length job.entries
  pub each : (n : ℕ) (c : Parts) (m : Module) (entry : Entry) → slice_get cs n ≡ Some c → IsVersion job n m entry → VersionCode c job m entry

unfoldable pub IsJobCode : List Parts → HostJob → Type 0
IsJobCode cs job = JobCode cs job

-- the reply to a post under a version that is known, of this module and this entry point: it has the post's list of stretches, and its
-- message was validated under that version
pub record IsReplyUnder (job : HostJob) (format : Module) (entry : Entry) (m : Mail) (r : Reply) : Type 0 where
  pub name : reply_name r ≡ m.name
  pub layout : r.layout ≡ list_of m
  pub fetched : IsMeantUnder job format entry (layout_of m) r.loads.list (outcome_in r)

-- the reply to a post, under the version that it names
pub record IsReplyTo (job : HostJob) (m : Mail) (r : Reply) : Type 0 where
  pub format : Module
  pub entry : Entry
  pub version : IsVersion job (version_in r) format entry
  pub under : IsReplyUnder job format entry m r

-- the replies of a job of one version are those under this version, whose number is 0
abbrev pub OneVersion : Type 0
OneVersion =
    (job : HostJob) (format : Module) (entry : Entry) (m : Mail) (r : Reply) → job.formats ≡ format ∷ [] → job.entries ≡ entry ∷ [] → IsReplyTo job m r
    → (version_in r ≡ 0) × IsReplyUnder job format entry m r

-- ---- the loads
-- loads of a message that lies so in the buffer, each message word named by its word of the buffer
unfoldable pub placed : List Stretch → List Load → List (ℕ × ℕ)
placed layout [] = []
placed layout (l ∷ ls) = (buffer_word layout l.word, l.value) ∷ placed layout ls

abbrev pub layout_or : Option Mail → List Stretch
layout_or None = []
layout_or (Some m) = layout_of m

-- how the message of the post lies to which this is the reply
abbrev pub layout_in : List Mail → Reply → List Stretch
layout_in mails r = layout_or (mail_named (reply_name r) mails)

-- the loads of these replies, directly one piece after the other, each message word named by its word of the buffer
unfoldable pub pieces : List Mail → List Reply → List (ℕ × ℕ)
pieces mails [] = []
pieces mails (r ∷ rs) = placed (layout_in mails r) r.loads.list ++ pieces mails rs

-- ---- the posts
-- a post's name, and the number of stores before it
abbrev pub label : Post → PostName × ℕ
label p = (p.name, p.made)

abbrev pub mail_label : Mail → PostName × ℕ
mail_label m = (m.name, m.made)
