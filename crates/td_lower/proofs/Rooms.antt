-- A checked module's definitions have room in the operands of instructions. Cited by other crates.
use Rattle.std.proofs.Common.{◌≡◌, ℕ, zero, suc, ◌+◌, ◌*◌, ◌≤◌, List, [], ◌∷◌, length, slice_get, Option, Some, None, subst, arith}
use Rattle.td_lower.specs.Imports.{Field, Case, Body, Struct, Casetype, TypeDef}
use Rattle.td_core.specs.Weights.{fields_nodes, default_nodes, cases_nodes, body_nodes, head_nodes, definitions_nodes}
use Rattle.td_lower_blocks.specs.Lowered.{parts_in, cases_parts, default_parts, body_parts, first_site}
use Rattle.td_lower.proofs.Standing.{first_behind}

parts_less : (fs : List Field) → parts_in fs ≤ fields_nodes fs
parts_less [] = omega arith
parts_less (f ∷ fs) = (let x = parts_less fs in omega (arith, x))

default_less : (o : Option (List Field)) → default_parts o ≤ default_nodes o
default_less None = omega arith
default_less (Some fs) = parts_less fs

cases_less : (cs : List Case) → cases_parts cs ≤ cases_nodes cs
cases_less [] = omega arith
cases_less (c ∷ cs) = (let x = parts_less c.fields in let y = cases_less cs in omega (arith, x, y))

pub body_less : (b : Body) → body_parts b ≤ body_nodes b
body_less (Struct fs) = parts_less fs
body_less (Casetype e cases o) = (let x = cases_less cases in let y = default_less o in omega (arith, x, y))

-- all sites are no more than twice the nodes
pub sites_less : (ds : List TypeDef) → first_site ds (length ds) ≤ 2 * definitions_nodes ds
sites_less [] = omega arith
sites_less (d ∷ ds) = (let x = body_less d.body in let y = sites_less ds in let z = first_behind d ds (length ds) in omega (arith, x, y, z))

-- a definition has some of the nodes
pub own_nodes : (ds : List TypeDef) (n : ℕ) (d : TypeDef) → slice_get ds n ≡ Some d → 1 + (head_nodes d + body_nodes d.body) ≤ definitions_nodes ds
own_nodes [] n d h = absurd (cc)
own_nodes (x ∷ xs) zero d h = (let same : x ≡ d = cc in subst (λ y. 1 + (head_nodes y + body_nodes y.body) ≤ definitions_nodes (x ∷ xs)) same (omega arith))
own_nodes (x ∷ xs) (suc n) d h = (let y = own_nodes xs n d h in omega (arith, y))
