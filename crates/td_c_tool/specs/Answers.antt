-- What `tdc` answers an input, and what refuses it (own rule). TooLong comes before BadModule, and that before NoEntry.
use Rattle.std.specs.Prelude.{◌≡◌, ◌≢◌, ℕ, ◌<◌, ◌≤◌, List, [], length}
use Rattle.td_c_tool.specs.Imports.{Module, CFile, Source, Header, Parts, Command, Refusal, BadName, TooLong, BadModule, NoEntry}
use Rattle.td_front.specs.ModuleText.{IsModuleText, RefusedBy}
use Rattle.td_c_text.specs.Texts.{IsCSource, IsCHeader, IsCParts}
use Rattle.td_c_command.specs.Prefix.{IsPrefix}
use Rattle.td_c_tool.specs.declared.tool.TheConstants.{INPUT_LIMIT}

-- the bytes are this file of the module's C
abbrev pub IsFile : CFile → List ℕ → Module → List ℕ → Type 0
IsFile Source prefix m bytes = IsCSource prefix m bytes
IsFile Header prefix m bytes = IsCHeader prefix m bytes
IsFile Parts prefix m bytes = IsCParts prefix m bytes

-- the module has an entry point, which is a function of its C
abbrev pub HasEntry : Module → Type 0
HasEntry m = m.entries ≢ []

-- the input stands for a module with an entry point, and the output is the file of its C
pub record Answers (command : Command) (input output : List ℕ) : Type 0 where
  pub named : IsPrefix command.prefix
  pub short : length input ≤ INPUT_LIMIT
  pub m : Module
  pub stands : IsModuleText input m
  pub has_entry : HasEntry m
  pub file : IsFile command.file command.prefix m output

-- the input is one that the command answers
abbrev pub Admits : Command → List ℕ → Type 0
Admits command input = IsPrefix command.prefix × (length input ≤ INPUT_LIMIT) × (m : Module) × IsModuleText input m × HasEntry m

-- why an input that isn't too long is refused
abbrev pub RefusesText : List ℕ → Refusal → Type 0
RefusesText input BadName = ⊥
RefusesText input TooLong = ⊥
RefusesText input (BadModule e) = RefusedBy input e
RefusesText input NoEntry = (m : Module) × IsModuleText input m × (m.entries ≡ [])

-- the command, whose name can begin names of C, refuses the input for this reason, the first in the order in which an input is looked at
abbrev pub Refuses : List ℕ → Refusal → Type 0
Refuses input TooLong = INPUT_LIMIT < length input
Refuses input refusal = (length input ≤ INPUT_LIMIT) × RefusesText input refusal
