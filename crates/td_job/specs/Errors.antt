-- The codes and the paths of error lines (own rule).
use Rattle.std.specs.Prelude.{ℕ, List, [], ◌++◌, Some, flat_map, codes}
use Rattle.td_core.specs.Paths.{indexed}
use Rattle.td_job.specs.Imports.{WriteRule}
use Rattle.td_write_values.specs.declared.error.WriteRule.TheVariants as write
use Rattle.td_job.specs.declared.error.Key.{Key}
use Rattle.td_job.specs.declared.error.Key.TheVariants as key
use Rattle.td_job.specs.declared.error.JobRule.{JobRule}
use Rattle.td_job.specs.declared.error.JobRule.TheVariants as rule
use Rattle.td_job.specs.declared.error.Path.{Path}
use Rattle.td_job.specs.declared.error.Path.TheVariants as path
use Rattle.td_job.specs.declared.error.JobError.{JobError}
use Rattle.td_job.specs.declared.error.JobError.TheVariants as fault

-- the name of a field in a job
abbrev pub key_name : Key → List ℕ
key_name key.Entry = codes "entry"
key_name key.Args = codes "args"
key_name key.Cells = codes "cells"
key_name key.Bytes = codes "bytes"
key_name key.Length = codes "length"
key_name key.Stretches = codes "stretches"
key_name key.Value = codes "value"
key_name key.Stores = codes "stores"
key_name key.Buffer = codes "buffer"
key_name key.Workers = codes "workers"
key_name key.Guests = codes "guests"
key_name key.Script = codes "script"
key_name key.Rings = codes "rings"
key_name key.Base = codes "base"
key_name key.Entries = codes "entries"
key_name key.Most = codes "most"
key_name key.Takes = codes "takes"
key_name key.Swaps = codes "swaps"
key_name key.Posts = codes "posts"
key_name key.Words = codes "words"
key_name key.Copies = codes "copies"

abbrev pub rule_code : JobRule → List ℕ
rule_code rule.NotJson = codes "J1"
rule_code rule.Form = codes "J2"
rule_code rule.NoEntry = codes "J3"
rule_code rule.Values = codes "J4"
rule_code rule.Digits = codes "J5"
rule_code rule.NoWord = codes "J6"
rule_code rule.PastBytes = codes "J7"
rule_code rule.Limit = codes "J8"
rule_code rule.Swap = codes "J9"
rule_code rule.Written = codes "J10"

-- what is wrong with a value that isn't written
abbrev pub write_code : WriteRule → List ℕ
write_code write.Shape = codes "E1"
write_code write.Range = codes "E2"
write_code (write.Broken reason) = codes "E3"
write_code write.Size = codes "E4"
write_code write.Long = codes "E5"

-- a name, and places behind it, each in brackets
abbrev pub placed : List ℕ → List ℕ → List ℕ
placed name places = name ++ flat_map (λ place. indexed [] (Some place)) places

-- after an element's place in its list and a dot, what stands within the element
abbrev pub within_bytes : Key → ℕ → List ℕ → List ℕ
within_bytes list place within = indexed (key_name list) (Some place) ++ codes "." ++ within

-- `job` for the whole of it, a field's name, an element's place in its list after that, or the name that no job has; and
-- the same within a guest or a ring; and of a value inside the field `value` its places, and after a blank what is wrong with it
abbrev pub path_bytes : Path → List ℕ
path_bytes path.Job = codes "job"
path_bytes (path.Whole k) = key_name k
path_bytes (path.Element k index) = indexed (key_name k) (Some index)
path_bytes (path.Unknown name) = name
path_bytes (path.Script guest) = within_bytes key.Guests guest (key_name key.Script)
path_bytes (path.Step guest index) = within_bytes key.Guests guest (indexed (key_name key.Script) (Some index))
path_bytes (path.UnknownOf guest name) = within_bytes key.Guests guest name
path_bytes (path.RingField ring k) = within_bytes key.Rings ring (key_name k)
path_bytes (path.UnknownOfRing ring name) = within_bytes key.Rings ring name
path_bytes (path.Written fault) = placed (key_name key.Value) fault.places ++ codes " " ++ write_code fault.rule

abbrev pub path_of : JobError → List ℕ
path_of (fault.Fault r place) = path_bytes place
path_of fault.NoMemory = []

abbrev pub code_of : JobError → List ℕ
code_of (fault.Fault r place) = rule_code r
code_of fault.NoMemory = []
