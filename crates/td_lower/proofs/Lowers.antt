-- The code of a module is accepted, and does what the module means.
use Rattle.std.proofs.Common.{◌≡◌, ℕ, ◌+◌, ◌^◌, ◌<◌, ◌≤◌, List, [], ◌∷◌, length, slice_get, Some, sym, ap, subst, arith}
use Rattle.std.proofs.lemmas.List.{length-append}
use Rattle.td_lower.specs.Imports.{NameId, TypeDef, Module, Parts}
use Rattle.td_lower.specs.Tables.{where_name, switch_name, definition_sites, definitions_sites}
use Rattle.td_lower.proofs.Standing.{all_sites}
use Rattle.td_core.specs.WellFormed.{DefinitionWithin}
use Rattle.td_ir.specs.Tables.{routine_of}
use Rattle.td_ir.specs.WellFormed.{IsCode}
use Rattle.td_verify.specs.Verify.{IsSound}
use Rattle.td_lower_blocks.specs.Lowered.{first_site}
use Rattle.td_lower_blocks.specs.Placed.{IsPlaced, HasPlaced, ArePlaced}
use Rattle.td_lower_blocks.specs.Tops.{definition_levels}
use Rattle.td_verify_lowered.specs.Modules.{IsAdmissible, IsNoHeavier, OperandsFit}
use Rattle.td_lower_means.specs.CodeRun.{IsCodeOf}
use Rattle.td_lower.specs.Code.{unit_in, units_of, IsWritten, HasRoomFor, IsLowerable, MeansModule, HasLaws}
use Rattle.td_lower.proofs.Codes.{there, routine_at, is_code, is_laid, is_tabled, is_supplied}
use Rattle.td_lower.proofs.Rooms.{body_less, sites_less, own_nodes}
use Rattle.td_lower.proofs.Heights.{registers_low}
use Rattle.td_num.proofs.Lists.{got, each_at}
use Rattle.td_verify_lowered.proofs.Modules.{last_site}

admissible : (m : Module) → IsLowerable m → IsAdmissible m
admissible m l = record { formed = l.ready.formed; copying = l.copying; fields = l.ready.fields; depth = l.depth; weight = l.weight; kinds = l.ready.kinds }

-- room in the operands of instructions
pub room_for : OperandsFit → (m : Module) → IsLowerable m → (n : ℕ) (d : TypeDef) → slice_get m.definitions n ≡ Some d → HasRoomFor (first_site m.definitions n) d
room_for law m l n d e =
    let h = there m.definitions n d e in
    let low = registers_low m.definitions n d (l.ready.formed n d e) in
    let nodes = own_nodes m.definitions n d e in
    let all = l.nodes in
    let fit = law m n d (admissible m l) e in
    let w = each_at DefinitionWithin m.definitions n d l.within.each e in
    let p = w.params in
    let c = w.cells in
    let b = w.buffers in
    let cells = fit.0 in
    let last = last_site m.definitions n d h e in
    let sites = sites_less m.definitions in
    let parts = body_less d.body in
    record {
      registers = omega (arith, low, nodes, all);
      cells = omega (arith, cells, c, b);
      bits = fit.1;
      sites = omega (arith, last, sites, all);
      levels = omega (arith, p, parts, nodes, all);
      params = omega (arith, p);
      own = omega (arith, c);
      nodes = omega (arith, nodes, all);
    }

-- a definition has two sites at least
definitions_few : (w s : NameId) (r : ℕ) (ds : List TypeDef) → length ds ≤ length (definitions_sites w s r ds)
definitions_few w s r [] = omega arith
definitions_few w s r (d ∷ ds) =
    let h = definitions_few w s (r + 1) ds in
    let a = length-append (definition_sites w s r d) (definitions_sites w s (r + 1) ds) in
    omega (arith, h, a)

pub definitions_room : (m : Module) → IsLowerable m → 0 + length m.definitions < 4294967296
definitions_room m l = (let x = sites_less m.definitions in let y = l.nodes in let z = definitions_few (where_name m) (switch_name m) 0 m.definitions in let a = all_sites (where_name m) (switch_name m) 0 m.definitions in omega (arith, x, y, z, a))

pub sites_room : (m : Module) → IsLowerable m → first_site m.definitions (length m.definitions) < 2 ^ 32
sites_room m l = (let x = sites_less m.definitions in let y = l.nodes in omega (arith, x, y))

module _ (laws : HasLaws) (c : Parts) (m : Module) (w : IsWritten c m) (l : IsLowerable m) where
  pub code_fits : IsCode c
  code_fits = is_code c m w l laws.laying laws.code

  placed : ArePlaced c (units_of m) m
  placed n h =
      let x = got m.definitions n h in
      let d = x.0 in
      let r = routine_at c m w l laws.laying laws.code n d x.1 in
      let unit : units_of m n ≡ definition_levels d = ap unit_in x.1 in
      let own : IsPlaced m.definitions n (routine_of c n).registers (definition_levels d) d =
      laws.placed m n d (routine_of c n).registers (definition_levels d) l.ready x.1 (omega arith) (let y = ap (λ z. z.registers) r in omega (arith, y)) in
      subst (HasPlaced m.definitions n (routine_of c n).registers (units_of m n)) (sym x.1) (subst (λ t. IsPlaced m.definitions n (routine_of c n).registers t d) (sym unit) own)

  pub sound : IsSound c
  sound =
      laws.accepted c (units_of m) m (admissible m l) (is_laid c m w l laws.laying laws.code) (is_tabled c m w l laws.laying laws.code) placed
      (is_supplied c m w l laws.laying laws.code)

  pub no_heavier : IsNoHeavier c m
  no_heavier =
      laws.light c (units_of m) m (admissible m l) (is_laid c m w l laws.laying laws.code) (is_tabled c m w l laws.laying laws.code) placed
      (is_supplied c m w l laws.laying laws.code)

  pub code_of : IsCodeOf c m
  code_of = record {
    units = units_of m;
    code = code_fits;
    laid = is_laid c m w l laws.laying laws.code;
    tabled = is_tabled c m w l laws.laying laws.code;
    placed = placed;
  }

  pub means : MeansModule c m
  means entry args cells message f h s = laws.means c m entry args cells message code_of f h s
