-- Cells and bits of a definition.
use Rattle.std.proofs.Common.{◌≡◌, ℕ, ◌+◌, ◌≤◌, List, [], ◌∷◌, length, slice_get, Option, Some, None, arith}
use Rattle.td_num.specs.Lists.{Each}
use Rattle.td_verify_lowered.specs.Imports.{Bits, CopyOut, Part, Field, Case, Body, Struct, Casetype, TypeDef, Module}
use Rattle.td_core.specs.Copies.{IsCopyWhole, IsFieldCopying, IsDefinitionCopying}
use Rattle.td_core.specs.WellFormed.{OfSome, EachField, IsFieldWhole}
use Rattle.td_lower_blocks.specs.Tops.{copy_cells, fields_cells, default_cells, cases_cells, body_cells, bits_end, parts_bits, fields_bits, default_bits, cases_bits, body_bits}
use Rattle.td_verify_lowered.proofs.Fit.{BitsFit}
use Rattle.td_verify_lowered.specs.Modules.{IsAdmissible}
use Rattle.td_verify_lowered.proofs.Fitting.{parts_low, extent_low, buffer_low, parts_fit}
use Rattle.td_num.proofs.Lists.{each_at}

-- cells and buffers that fields name
module _ (ds : List TypeDef) (d : TypeDef) where
  copy_within : (f : Field) (o : Option CopyOut) → OfSome (IsCopyWhole d f) o → copy_cells o ≤ length d.buffers
  copy_within f None h = omega arith
  copy_within f (Some w) h = let x = buffer_low d f w h in omega (arith, x)

  fields_within : (fs : List Field) → Each (IsFieldCopying ds d) fs → fields_cells fs ≤ length d.cells + length d.buffers
  fields_within [] h = omega arith
  fields_within (f ∷ fs) h =
      let x = parts_low (length d.cells) f.parts h.0.actions in let y = copy_within f f.copy h.0.copy in let u = extent_low (length d.cells) f.extent h.0.source in let z = fields_within fs h.1 in omega (arith, x, y, u, z)

  cases_within : (cs : List Case) → Each (λ c. Each (IsFieldCopying ds d) c.fields) cs → cases_cells cs ≤ length d.cells + length d.buffers
  cases_within [] h = omega arith
  cases_within (c ∷ cs) h = let x = fields_within c.fields h.0 in let y = cases_within cs h.1 in omega (arith, x, y)

  default_within : (o : Option (List Field)) → OfSome (Each (IsFieldCopying ds d)) o → default_cells o ≤ length d.cells + length d.buffers
  default_within None h = omega arith
  default_within (Some fs) h = fields_within fs h

  body_within : (b : Body) → EachField (IsFieldCopying ds d) b → body_cells b ≤ length d.cells + length d.buffers
  body_within (Struct fs) h = fields_within fs h
  body_within (Casetype e cases o) h = let x = cases_within cases h.0 in let y = default_within o h.1 in omega (arith, x, y)

one_end : (o : Option Bits) → BitsFit o → bits_end o ≤ 64
one_end None h = omega arith
one_end (Some b) h = h.0

parts_end : (ps : List Part) → Each (λ p. BitsFit p.bits) ps → parts_bits ps ≤ 64
parts_end [] h = omega arith
parts_end (p ∷ ps) h = let x = one_end p.bits h.0 in let y = parts_end ps h.1 in omega (arith, x, y)

fields_end : (count : ℕ) (fs : List Field) → Each (IsFieldWhole count) fs → fields_bits fs ≤ 64
fields_end count [] h = omega arith
fields_end count (f ∷ fs) h = let x = parts_end f.parts (parts_fit f.element f.extent f.parts h.0.parts) in let y = fields_end count fs h.1 in omega (arith, x, y)

cases_end : (count : ℕ) (cs : List Case) → Each (λ c. Each (IsFieldWhole count) c.fields) cs → cases_bits cs ≤ 64
cases_end count [] h = omega arith
cases_end count (c ∷ cs) h = let x = fields_end count c.fields h.0 in let y = cases_end count cs h.1 in omega (arith, x, y)

default_end : (count : ℕ) (o : Option (List Field)) → OfSome (Each (IsFieldWhole count)) o → default_bits o ≤ 64
default_end count None h = omega arith
default_end count (Some fs) h = fields_end count fs h

body_end : (count : ℕ) (b : Body) → EachField (IsFieldWhole count) b → body_bits b ≤ 64
body_end count (Struct fs) h = fields_end count fs h
body_end count (Casetype e cases o) h = let x = cases_end count cases h.0 in let y = default_end count o h.1 in omega (arith, x, y)

pub operands_fit : (m : Module) (n : ℕ) (d : TypeDef) → IsAdmissible m → slice_get m.definitions n ≡ Some d → (body_cells d.body ≤ length d.cells + length d.buffers) × (body_bits d.body ≤ 64)
operands_fit m n d a e = (
  body_within m.definitions d d.body (each_at (IsDefinitionCopying m.definitions) m.definitions n d a.copying e).fields,
  body_end (length m.listed) d.body (each_at (λ y. EachField (IsFieldWhole (length m.listed)) y.body) m.definitions n d a.fields e),
)
