-- The texts by which a host job's module is replaced while it is served, and what is wrong with one (own rule).
--
-- `swaps` is a list (J2) of at most 16 elements (J8); it may be left out. Each element is a text (J2) that may replace the job's
-- module (J9): it stands for a module that has the entry point which the job names, with the same parameters, the same cells and the
-- same copy buffers, that is as many, of the same names and widths or rooms, in the same order. Of a cell that is a field of an output
-- record the field's name counts too, and a pointer is no number. The order of a number's bytes, an enum, and another name of a type don't show in them.
use Rattle.std.specs.Prelude.{◌≡◌, ℕ, ◌+◌, ◌-◌, ◌≤◌, ◌^◌, List, [], ◌∷◌, map, length, nat_lt, Option, Some, None, ◌⊎◌}
use Rattle.std.specs.Option.{option_map}
use Rattle.serde_json.specs.Data.{Data, Items, no_items, item}
use Rattle.serde_json.specs.Events.{items_len}
use Rattle.serde_json.specs.Find.{as_array, as_str}
use Rattle.td_job_host.specs.Imports.{Module, Entry, TypeDef, Param, Cell, Buffer, CellKind, Number, FrontError, JobError, Fault}
use Rattle.td_core.specs.Entries.{entry_definition, name_bytes}
use Rattle.td_front.specs.ModuleText.{IsModuleText, RefusedBy}
use Rattle.td_lexer.specs.Splits.{HasToken}
use Rattle.td_job.specs.declared.error.Key.TheVariants as key
use Rattle.td_job.specs.declared.error.JobRule.TheVariants as rule
use Rattle.td_job.specs.declared.error.Path.TheVariants as path
use Rattle.td_job.specs.Fields.{fault_if}
use Rattle.td_job.specs.Jobs.{IsEntry}
use Rattle.td_posts.specs.declared.limits.TheConstants.{MOST_SWAPS}
use Rattle.td_job_host.specs.Guests.{listed_in}

-- ---- the list

abbrev pub swap_list_faults : Option Items → List JobError
swap_list_faults None = Fault rule.Form (path.Whole key.Swaps) ∷ []
swap_list_faults (Some values) = fault_if (nat_lt MOST_SWAPS (items_len values)) (Fault rule.Limit (path.Whole key.Swaps))

-- of the field, where it stands
abbrev pub swaps_faults : Option Data → List JobError
swaps_faults None = []
swaps_faults (Some value) = swap_list_faults (as_array value)

abbrev pub items_or_none : Option Items → Items
items_or_none None = no_items
items_or_none (Some values) = values

-- its elements
abbrev pub given_swaps : Data → Items
given_swaps job = items_or_none (listed_in key.Swaps job)

-- ---- what an entry point takes and fills

-- a parameter or a cell, as a code's tables have it
pub record Named : Type 0 where
  pub name : List ℕ
  pub field : Option (List ℕ)
  pub kind : CellKind

abbrev pub named_param : Module → Param → Named
named_param m p = record { name = name_bytes m p.name; field = None; kind = Number p.width }

abbrev pub named_cell : Module → Cell → Named
named_cell m c = record { name = name_bytes m c.name; field = option_map (name_bytes m) c.field; kind = c.kind }

abbrev pub params_in : Option TypeDef → List Param
params_in None = []
params_in (Some d) = d.params

abbrev pub cells_in : Option TypeDef → List Cell
cells_in None = []
cells_in (Some d) = d.cells

abbrev pub buffers_in : Option TypeDef → List Buffer
buffers_in None = []
buffers_in (Some d) = d.buffers

-- a copy buffer, as a code's tables have it
pub record NamedRoom : Type 0 where
  pub name : List ℕ
  pub room : ℕ

abbrev pub named_buffer : Module → Buffer → NamedRoom
named_buffer m b = record { name = name_bytes m b.name; room = b.room }

abbrev pub params_named : Module → Option TypeDef → List Named
params_named m d = map (named_param m) (params_in d)

abbrev pub cells_named : Module → Option TypeDef → List Named
cells_named m d = map (named_cell m) (cells_in d)

abbrev pub buffers_named : Module → Option TypeDef → List NamedRoom
buffers_named m d = map (named_buffer m) (buffers_in d)

-- ---- a swap

-- module f with entry point g may replace module m with this one, which has this name
pub record Replaces (m : Module) (entry : Entry) (name : Option (List ℕ)) (f : Module) (g : Entry) : Type 0 where
  pub named : IsEntry f name g
  pub params : params_named f (entry_definition f g.number) ≡ params_named m (entry_definition m entry.number)
  pub cells : cells_named f (entry_definition f g.number) ≡ cells_named m (entry_definition m entry.number)
  pub buffers : buffers_named f (entry_definition f g.number) ≡ buffers_named m (entry_definition m entry.number)

-- a text that stands for such a module
abbrev pub IsSwap : Module → Entry → Option (List ℕ) → List ℕ → Module → Entry → Type 0
IsSwap m entry name text f g = IsModuleText text f × Replaces m entry name f g

-- a text that stands for no module, or for one that has no such entry point
abbrev pub NoSwap : Module → Entry → Option (List ℕ) → List ℕ → Type 0
NoSwap m entry name text =
    ((e : FrontError) × RefusedBy text e)
    ⊎ ((f : Module) × IsModuleText text f × ((g : Entry) → Replaces m entry name f g → ⊥))

module _ (m : Module) (entry : Entry) (name : Option (List ℕ)) where
  -- an element that spells this module and this entry point
  abbrev pub Spells : Data → Module → Entry → Type 0
  Spells value f g = (text : List ℕ) × (as_str value ≡ Some text) × IsSwap m entry name text f g

  -- these are the modules and the entry points of the elements
  abbrev pub AreSwaps : Items → List Module → List Entry → Type 0
  AreSwaps no_items [] [] = Unit {0}
  AreSwaps no_items [] (g ∷ gs) = ⊥
  AreSwaps no_items (f ∷ fs) gs = ⊥
  AreSwaps (item value values) [] gs = ⊥
  AreSwaps (item value values) (f ∷ fs) [] = ⊥
  AreSwaps (item value values) (f ∷ fs) (g ∷ gs) = Spells value f g × AreSwaps values fs gs

  -- what is wrong with element i: it is no text (J2), or may not replace the module (J9)
  abbrev pub ElementFault : ℕ → Data → JobError → Type 0
  ElementFault i value e =
      ((as_str value ≡ None) × (e ≡ Fault rule.Form (path.Element key.Swaps i)))
      ⊎ ((text : List ℕ) × (as_str value ≡ Some text) × NoSwap m entry name text × (e ≡ Fault rule.Swap (path.Element key.Swaps i)))

  -- the first fault of the elements, of which the first is element i: all before it are swaps
  abbrev pub FirstSwapFault : ℕ → Items → JobError → Type 0
  FirstSwapFault i no_items e = ⊥
  FirstSwapFault i (item value values) e =
      ElementFault i value e
      ⊎ ((f : Module) × (g : Entry) × Spells value f g × FirstSwapFault (i + 1) values e)

  -- memory may be lacking for the elements: the first is a text with a token, or a swap, or of too many bytes for any memory
  abbrev pub MayLackText : Data → Type 0
  MayLackText value = (text : List ℕ) × (as_str value ≡ Some text) × (HasToken text ⊎ ((2 ^ 32 - 1 ≤ length text) ⊎ ((f : Module) × (g : Entry) × IsSwap m entry name text f g)))

  abbrev pub MayLackSwap : Items → Type 0
  MayLackSwap no_items = ⊥
  MayLackSwap (item value values) = MayLackText value
