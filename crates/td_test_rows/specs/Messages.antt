-- Rows on messages: what the module of a text says of one, with names as they are written.
use Rattle.std.specs.Prelude.{◌≡◌, ℕ, List, [], map, codes, Some, None, slice_get}
use Rattle.td_test_rows.specs.Imports.{Def, Module, Reason, Field, Where, Switch, TraceFrame}
use Rattle.td_core.specs.declared.module.NameId.{NameId}
use Rattle.td_core.specs.declared.outcome.Spot.{Spot}
use Rattle.td_core.specs.Outcome.{Ending, Accepted, Rejected, Behavior}
use Rattle.td_meaning.specs.Meaning.{meaning}
use Rattle.td_elab_rules.specs.Modules.{module_of}

-- the definition's name, the field's (or `where`, or `switch`), and where that began
abbrev pub FrameText : Type 0
FrameText = List ℕ × (List ℕ × ℕ)

abbrev pub frame : Prim.Native.String.String → Prim.Native.String.String → ℕ → FrameText
frame definition field start = (codes definition, (codes field, start))

-- how it ends, with the cells, and the places of the bytes that are read
pub data Told : Type 0 where
  accepts : (position : ℕ) (cells reads : List ℕ) → Told
  rejects : (reason : Reason) (position : ℕ) (frames : List FrameText) (cells reads : List ℕ) → Told

abbrev text_of : List (List ℕ) → NameId → List ℕ
text_of names n = elim (slice_get names n.number) [ None ↦ [] | Some text ↦ text ]

abbrev spot_text : List (List ℕ) → Spot → List ℕ
spot_text names (Field n) = text_of names n
spot_text names Where = codes "where"
spot_text names Switch = codes "switch"

abbrev frame_text : List (List ℕ) → TraceFrame → FrameText
frame_text names f = (text_of names f.ty, (spot_text names f.field, f.start))

abbrev told : List (List ℕ) → Ending → List ℕ → Told
told names (Accepted position cells) reads = accepts position cells reads
told names (Rejected reason position trace cells) reads = rejects reason position (map (frame_text names) trace) cells reads

abbrev behavior_told : List (List ℕ) → Behavior → Told
behavior_told names b = told names b.ending b.reads

-- a text's first entry point on a message, from these arguments and cells
abbrev module_told : Module → List ℕ → List ℕ → List ℕ → Told
module_told m args cells message = behavior_told m.names (meaning m (record { number = 0 }) args cells message)

pub record MessageRow : Type 0 where
  pub definitions : List Def
  pub args : List ℕ
  pub cells : List ℕ
  pub message : List ℕ
  pub wanted : Told

-- in each row that is what the text says of the message
abbrev pub MessagesHold : List MessageRow → Type 0
MessagesHold rows = map (λ r. module_told (module_of (record { definitions = r.definitions })) r.args r.cells r.message) rows ≡ map (λ r. r.wanted) rows
