-- The tables of a module's code are no longer than an image's.
use Rattle.std.proofs.Common.{◌≡◌, ℕ, zero, suc, ◌+◌, ◌*◌, ◌^◌, ◌<◌, ◌≤◌, List, [], ◌∷◌, length, Option, Some, None, slice_get, refl, sym, ap, subst, arith, length-append}
use Rattle.std.proofs.lemmas.List.{length-map}
use Rattle.td_num.specs.Lists.{Each}
use Rattle.td_core.specs.declared.limits.TheConstants.{MOST_NODES, MOST_ROOM}
use Rattle.td_core.specs.declared.module.Buffer.{Buffer}
use Rattle.td_image_fits.specs.Imports.{TypeDef}
use Rattle.td_core.specs.Formed.{IsDefinitionFormed}
use Rattle.td_core.specs.Weights.{head_nodes, body_nodes, definitions_nodes}
use Rattle.td_core.specs.Copies.{IsDefinitionCopying}
use Rattle.td_core.specs.WellFormed.{DefinitionWithin, HasParts, EachField}
use Rattle.td_lower_blocks.specs.Block.{size, code}
use Rattle.td_lower_blocks.specs.Laid.{rooms}
use Rattle.td_lower_blocks.specs.Lowered.{definition_block, block_of, first_site}
use Rattle.td_lower.specs.Code.{code_to, routine_for, routines_to}
use Rattle.td_lower.proofs.Heights.{registers_low}
use Rattle.td_lower.proofs.Rooms.{own_nodes}
use Rattle.td_image.specs.Within.{IsRoom, IsSmallRoutine}
use Rattle.td_image_fits.proofs.Blocks.{IsRoomy, AreRoomy, code_roomy}
use Rattle.td_image_fits.proofs.Sizes.{definition_size}
use Rattle.td_num.proofs.Lists.{got, each_at, each_append}
use Rattle.td_lower_blocks.proofs.Laying.{code_size}

-- ---- routines

rooms_small : (bs : List Buffer) → Each (λ b. (0 < b.room) × (b.room ≤ MOST_ROOM)) bs → Each IsRoom (rooms bs)
rooms_small [] h = tt
rooms_small (b ∷ bs) h = ((omega (arith, h.0.0), omega (arith, h.0.1)), rooms_small bs h.1)

-- the definitions that routines are made of
pub record HasRoutines (ds : List TypeDef) : Type 0 where
  pub within : Each DefinitionWithin ds
  pub copying : Each (IsDefinitionCopying ds) ds
  pub nodes : definitions_nodes ds ≤ MOST_NODES
  pub formed : (n : ℕ) (d : TypeDef) → slice_get ds n ≡ Some d → IsDefinitionFormed ds n d

routine_small : (ds : List TypeDef) (count n : ℕ) (o : Option TypeDef) → slice_get ds n ≡ o → HasRoutines ds → IsSmallRoutine (routine_for count o)
routine_small ds count n None e h = record { params = omega arith; cells = omega arith; registers = omega arith; buffers = omega arith; rooms = tt }
routine_small ds count n (Some d) e h =
    let w = each_at DefinitionWithin ds n d h.within e in
    let x = registers_low ds n d (h.formed n d e) in
    let y = own_nodes ds n d e in
    let z = h.nodes in
    let k = length-map d.buffers (λ b. b.room) in
    record {
      params = omega (arith, w.params);
      cells = omega (arith, w.cells);
      registers = omega (arith, x, y, z);
      buffers = omega (arith, k, w.buffers);
      rooms = rooms_small d.buffers (each_at (IsDefinitionCopying ds) ds n d h.copying e).rooms;
    }

pub routines_small : (units : ℕ → ℕ) (ds : List TypeDef) (n : ℕ) → HasRoutines ds → Each IsSmallRoutine (routines_to units ds n)
routines_small units ds zero h = tt
routines_small units ds (suc n) h =
    each_append IsSmallRoutine (routines_to units ds n) (routine_for (size (block_of units ds n)) (slice_get ds n) ∷ []) (routines_small units ds n h)
    (routine_small ds (size (block_of units ds n)) n (slice_get ds n) refl h, tt)

-- ---- instructions

abbrev nodes_in : Option TypeDef → ℕ
nodes_in None = 0
nodes_in (Some d) = 1 + (head_nodes d + body_nodes d.body)

-- the nodes of the first n definitions
abbrev nodes_to : List TypeDef → ℕ → ℕ
nodes_to ds zero = 0
nodes_to ds (suc n) = nodes_to ds n + nodes_in (slice_get ds n)

nodes_behind : (d : TypeDef) (ds : List TypeDef) (n : ℕ) → nodes_to (d ∷ ds) (suc n) ≡ nodes_in (Some d) + nodes_to ds n
nodes_behind d ds zero = omega arith
nodes_behind d ds (suc n) = (let h = nodes_behind d ds n in omega (arith, h))

all_nodes : (ds : List TypeDef) → nodes_to ds (length ds) ≡ definitions_nodes ds
all_nodes [] = refl
all_nodes (d ∷ ds) = (let h = all_nodes ds in let b = nodes_behind d ds (length ds) in omega (arith, h, b))

block_size : (units : ℕ → ℕ) (ds : List TypeDef) (n : ℕ) (d : TypeDef) → slice_get ds n ≡ Some d → EachField (λ f. HasParts f.parts) d.body → size (block_of units ds n) ≤ 16 * nodes_in (Some d)
block_size units ds n d e parts = subst (λ o. size (definition_block (first_site ds n) (units n) o) ≤ 16 * nodes_in (Some d)) (sym e) (definition_size (units n) (first_site ds n) d parts)

code_short : (units : ℕ → ℕ) (ds : List TypeDef) (n : ℕ) → Each (λ d. EachField (λ f. HasParts f.parts) d.body) ds → n ≤ length ds → length (code_to units ds n) ≤ 16 * nodes_to ds n
code_short units ds zero parts h = omega arith
code_short units ds (suc n) parts h =
    let x = got ds n (omega (arith, h)) in
    let before = code_to units ds n in
    let a = length-append before (code (length before) 0 (block_of units ds n)) in
    let b = code_size (length before) 0 (block_of units ds n) in
    let c = block_size units ds n x.0 x.1 (each_at (λ d. EachField (λ f. HasParts f.parts) d.body) ds n x.0 parts x.1) in
    let d = code_short units ds n parts (omega (arith, h)) in
    let e = ap nodes_in x.1 in
    omega (arith, a, b, c, d, e)

pub code_few : (units : ℕ → ℕ) (ds : List TypeDef) → Each (λ d. EachField (λ f. HasParts f.parts) d.body) ds → length (code_to units ds (length ds)) ≤ 16 * definitions_nodes ds
code_few units ds parts = (let x = code_short units ds (length ds) parts (omega arith) in let y = all_nodes ds in omega (arith, x, y))

-- numbers that no rule of the verifier bounds
pub code_to_roomy : (units : ℕ → ℕ) (ds : List TypeDef) (n : ℕ) → ((k : ℕ) → AreRoomy (block_of units ds k)) → length (code_to units ds n) < 2 ^ 32 → Each IsRoomy (code_to units ds n)
code_to_roomy units ds zero blocks h = tt
code_to_roomy units ds (suc n) blocks h =
    let before = code_to units ds n in
    let own = code (length before) 0 (block_of units ds n) in
    let a = length-append before own in
    let b = code_size (length before) 0 (block_of units ds n) in
    each_append IsRoomy before own (code_to_roomy units ds n blocks (omega (arith, a, h))) (code_roomy (length before) 0 (block_of units ds n) (omega (arith, a, b, h)) (omega arith) (blocks n))
