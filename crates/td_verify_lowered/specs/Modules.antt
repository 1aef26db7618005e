-- Code that is a module's blocks, laid out, and that the verifier accepts it.
use Rattle.std.specs.Prelude.{◌≡◌, ℕ, suc, ◌+◌, ◌<◌, ◌≤◌, [], length, Some, slice_get}
use Rattle.td_num.specs.Lists.{Each}
use Rattle.td_verify_lowered.specs.Imports.{TypeDef, Module, Parts}
use Rattle.td_core.specs.declared.limits.TheConstants.{MOST_DEPTH, MOST_WEIGHT}
use Rattle.td_core.specs.Formed.{IsModuleFormed}
use Rattle.td_core.specs.WellFormed.{EachField, IsFieldWhole}
use Rattle.td_core.specs.Copies.{IsCopying}
use Rattle.td_core.specs.Weights.{depth_of, weight_of}
use Rattle.td_kinds.specs.KindRules.{kind_faults}
use Rattle.td_ir.specs.Tables.{end_of}
use Rattle.td_verify.specs.Safe.{before}
use Rattle.td_verify.specs.Verify.{IsSound}
use Rattle.td_verify_lowered.specs.Good.{IsSiteOf}
use Rattle.td_lower_blocks.specs.Lowered.{first_site}
use Rattle.td_lower_blocks.specs.Laid.{IsLaid}
use Rattle.td_lower_blocks.specs.Tabled.{IsTabled}
use Rattle.td_lower_blocks.specs.Placed.{ArePlaced}
use Rattle.td_lower_blocks.specs.Tops.{body_cells, body_bits}

-- the sites of a definition are its routine's, and the tables are as long as a module's sites and enums want them
pub record IsSupplied (c : Parts) (m : Module) : Type 0 where
  pub sites : (n k : ℕ) → n < length m.definitions → first_site m.definitions n ≤ k → k < first_site m.definitions (suc n) → IsSiteOf c n k
  pub maps : length c.sites ≤ length c.maps
  pub sets : length m.listed ≤ length c.sets

-- what the rules of the verifier rest on in a module
pub record IsAdmissible (m : Module) : Type 0 where
  pub formed : IsModuleFormed m
  pub copying : IsCopying m
  pub fields : Each (λ d. EachField (IsFieldWhole (length m.listed)) d.body) m.definitions
  pub depth : (n : ℕ) → depth_of m.definitions n ≤ MOST_DEPTH
  pub weight : (n : ℕ) → weight_of m.definitions n ≤ MOST_WEIGHT
  pub kinds : kind_faults m ≡ []

-- it keeps all rules
abbrev pub ModulesAreAccepted : Type 0
ModulesAreAccepted = (c : Parts) (units : ℕ → ℕ) (m : Module) → IsAdmissible m → IsLaid c units m → IsTabled c m → ArePlaced c units m → IsSupplied c m → IsSound c

-- a routine weighs no more than the definition whose code it is
abbrev pub IsNoHeavier : Parts → Module → Type 0
IsNoHeavier c m = (n : ℕ) → n < length c.routines → before c n (end_of c n) ≤ weight_of m.definitions n

-- so it is of such code
abbrev pub ModulesAreLight : Type 0
ModulesAreLight = (c : Parts) (units : ℕ → ℕ) (m : Module) → IsAdmissible m → IsLaid c units m → IsTabled c m → ArePlaced c units m → IsSupplied c m → IsNoHeavier c m

-- the cells and buffers that a definition's fields name are its own, and the bits of its bit fields are those of a number
abbrev pub OperandsFit : Type 0
OperandsFit =
    (m : Module) (n : ℕ) (d : TypeDef) → IsAdmissible m → slice_get m.definitions n ≡ Some d → (body_cells d.body ≤ length d.cells + length d.buffers) × (body_bits d.body ≤ 64)
