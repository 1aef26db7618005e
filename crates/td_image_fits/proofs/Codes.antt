-- The code of a small checked module is within the format of images.
use Rattle.std.proofs.Common.{◌≡◌, ℕ, ◌*◌, ◌≤◌, [], ◌∷◌, length, codes, Option, Some, None, slice_get, refl, sym, ap, subst, arith, length-append}
use Rattle.td_num.specs.Lists.{Each, AreApart}
use Rattle.td_image_fits.specs.Imports.{TypeDef, Module, Parts}
use Rattle.td_core.specs.declared.limits.TheConstants.{MOST_DEFINITIONS, MOST_NODES}
use Rattle.td_core.specs.WellFormed.{EachField}
use Rattle.td_front.specs.Checked.{IsChecked}
use Rattle.td_ir.specs.WellFormed.{IsCode}
use Rattle.td_verify.specs.Verify.{IsSound}
use Rattle.td_lower_blocks.specs.Lowered.{definition_block, first_site}
use Rattle.td_lower_blocks.specs.Tops.{definition_levels}
use Rattle.td_lower.specs.Code.{unit_in, units_of, IsWritten}
use Rattle.td_lower.specs.Tables.{where_name, switch_name}
use Rattle.td_lower.proofs.Heights.{registers_low}
use Rattle.td_lower.proofs.Rooms.{sites_less, own_nodes}
use Rattle.td_lower.proofs.Standing.{all_sites, all_maps}
use Rattle.td_lower.proofs.Places.{routines_count}
use Rattle.td_image.specs.declared.limits.TheConstants.{MOST_ROWS}
use Rattle.td_image.specs.Within.{IsSpelled, IsSmallMap, IsSmallRoutine, IsWithinFormat}
use Rattle.td_image_fits.specs.Small.{IsWord, IsFieldSmall, HasSmallCases, IsSmall}
use Rattle.td_image_fits.specs.Laws.{CodeIsWithin}
use Rattle.td_image_fits.proofs.Blocks.{IsRoomy, AreRoomy}
use Rattle.td_image_fits.proofs.Fields.{definition_roomy}
use Rattle.td_image_fits.proofs.Operands.{all_small}
use Rattle.td_image_fits.proofs.Sets.{sets_few, sets_small}
use Rattle.td_image_fits.proofs.Maps.{maps_small}
use Rattle.td_image_fits.proofs.Tables.{routines_small, code_few, code_to_roomy}
use Rattle.td_image_fits.proofs.Words.{all_spelled, all_apart}
use Rattle.td_num.proofs.Lists.{each_at}
use Rattle.td_lower.proofs.Codes.{there, entries_count}

module _ (c : Parts) (m : Module) (h : IsChecked m) (s : IsSmall m) (w : IsWritten c m) where
  definitions_few : length m.definitions ≤ MOST_DEFINITIONS
  definitions_few = (let a = h.within.definitions in let b = h.within.written in omega (arith, a, b))

  -- each definition's block
  roomy_at : (n : ℕ) (o : Option TypeDef) → slice_get m.definitions n ≡ o → AreRoomy (definition_block (first_site m.definitions n) (unit_in o) o)
  roomy_at n None e = tt
  roomy_at n (Some d) e =
      let place = there m.definitions n d e in
      let few = definitions_few in
      let formed = h.formed n d e in
      let low = registers_low m.definitions n d formed in
      let nodes = own_nodes m.definitions n d e in
      let all = h.nodes in
      definition_roomy m.definitions n (definition_levels d) (omega (arith, place, few)) (omega (arith, low, nodes, all)) (first_site m.definitions n) d formed
      (each_at (λ x. HasSmallCases x.body) m.definitions n d s.cases e) (each_at (λ x. EachField IsFieldSmall x.body) m.definitions n d s.steps e)

  instructions_few : length c.instructions ≤ 16 * MOST_NODES
  instructions_few = (let a = ap length w.instructions in let b = code_few (units_of m) m.definitions h.whole.parts in let n = h.nodes in omega (arith, a, b, n))

  roomy : Each IsRoomy c.instructions
  roomy =
      let a = ap length w.instructions in
      let b = instructions_few in
      subst (Each IsRoomy) (sym w.instructions)
      (code_to_roomy (units_of m) m.definitions (length m.definitions) (λ k. roomy_at k (slice_get m.definitions k) refl) (omega (arith, a, b)))

  sites_few : length c.sites ≤ MOST_ROWS
  sites_few =
      let a = ap length w.sites in
      let b = all_sites (where_name m) (switch_name m) 0 m.definitions in
      let x = sites_less m.definitions in
      let n = h.nodes in
      omega (arith, a, b, x, n)

  maps_few : length c.maps ≤ MOST_ROWS
  maps_few = (let a = ap length w.maps in let b = all_maps m.definitions in let x = sites_less m.definitions in let n = h.nodes in omega (arith, a, b, x, n))

  sets_count : length c.sets ≤ MOST_ROWS
  sets_count = (let a = w.sets.count in let b = s.enums in omega (arith, a, b))

  routines_are : Each IsSmallRoutine c.routines
  routines_are = subst (Each IsSmallRoutine) (sym w.routines) (routines_small (units_of m) m.definitions (length m.definitions) (record { within = h.within.each; copying = h.copying; nodes = h.nodes; formed = h.formed }))

  within : IsCode c → IsSound c → IsWithinFormat c
  within code sound = record {
    names = let a = ap length w.names in let b = length-append m.names (codes "where" ∷ codes "switch" ∷ []) in let n = s.names in omega (arith, a, b, n);
    sites = omega (arith, sites_few);
    maps = omega (arith, maps_few);
    sets = omega (arith, sets_count);
    routines = let a = ap length w.routines in let b = routines_count (units_of m) m.definitions (length m.definitions) in let n = definitions_few in omega (arith, a, b, n);
    entries = let a = ap length w.entries in let b = entries_count m.definitions m.entries in let n = s.entries in omega (arith, a, b, n);
    instructions = omega (arith, instructions_few);
    spelled = subst (Each IsSpelled) (sym w.names) (all_spelled m.names h.words s.short);
    apart = subst AreApart (sym w.names) (all_apart m.names h.words h.apart);
    small_maps = subst (Each IsSmallMap) (sym w.maps) (maps_small m.definitions h.within.each h.copying h.formed);
    numbers = sets_small IsWord m.listed c.sets w.sets s.numbers;
    few_numbers = let a = sets_few m.listed c.sets w.sets in let b = s.values in omega (arith, a, b);
    small_routines = routines_are;
    small_operands = all_small c code sound sites_few maps_few sets_count routines_are roomy;
  }

pub code_is_within : CodeIsWithin
code_is_within c m checked small written code sound = within c m checked small written code sound
