-- What fits a module's entry point fits that of its code.
use Rattle.std.proofs.Common.{◌≡◌, ℕ, zero, suc, ◌*◌, ◌^◌, ◌<◌, ◌≤◌, List, [], ◌∷◌, length, refl, sym, ap, ◌∙◌, subst, arith, slice_index, slice_index_or, slice_get, Some, None}
use Rattle.std.proofs.lemmas.Option.{slice_get-get_or}
use Rattle.td_num.specs.Numbers.{bytes_in}
use Rattle.td_lower_means.specs.Imports.{Width, One, Two, Four, Eight, Param, Struct, TypeDef}
use Rattle.td_core.specs.declared.module.Cell.{Cell}
use Rattle.td_core.specs.declared.module.CellKind.{CellKind}
use Rattle.td_core.specs.declared.module.CellKind.TheVariants.{Number, Pointer}
use Rattle.td_core.specs.Entries.{definition_at, entry_definition}
use Rattle.td_core.specs.Formed.{AllFit, scalar_of, whole, cell_bound, param_bounds, cell_bounds, params_at, cells_at}
use Rattle.td_ir.specs.Tables.{entry_of}
use Rattle.td_ir.specs.Entries.{cell_bits, AreArguments, AreValues}
use Rattle.td_lower_means.specs.CodeRun.{ArgumentsFit}

width_fits : (w : Width) (v : ℕ) → v ≤ (whole (scalar_of w)).most → v < 2 ^ (8 * bytes_in w)
width_fits One v h = omega (arith, h)
width_fits Two v h = omega (arith, h)
width_fits Four v h = omega (arith, h)
width_fits Eight v h = omega (arith, h)

kind_fits : (k : CellKind) (v : ℕ) → v ≤ (cell_bound k).most → v < 2 ^ cell_bits k
kind_fits (Number w) v h = width_fits w v h
kind_fits Pointer v h = omega (arith, h)

args_count : (params : List Param) (args : List ℕ) → AllFit (param_bounds params) args → length args ≡ length params
args_count [] [] h = refl
args_count [] (v ∷ vs) h = absurd h
args_count (p ∷ ps) [] h = absurd h
args_count (p ∷ ps) (v ∷ vs) h = ap suc (args_count ps vs h.1)

cells_count : (cells : List Cell) (values : List ℕ) → AllFit (cell_bounds cells) values → length values ≡ length cells
cells_count [] [] h = refl
cells_count [] (v ∷ vs) h = absurd h
cells_count (c ∷ cs) [] h = absurd h
cells_count (c ∷ cs) (v ∷ vs) h = ap suc (cells_count cs vs h.1)

args_fit : (params : List Param) (args : List ℕ) → AllFit (param_bounds params) args → AreArguments params args (length args)
args_fit [] [] h k l = absurd (omega (arith, l))
args_fit [] (v ∷ vs) h k l = absurd h
args_fit (p ∷ ps) [] h k l = absurd (omega (arith, l))
args_fit (p ∷ ps) (v ∷ vs) h zero l = width_fits p.width v h.0
args_fit (p ∷ ps) (v ∷ vs) h (suc k) l = args_fit ps vs h.1 k (omega (arith, l))

values_fit : (cells : List Cell) (values : List ℕ) → AllFit (cell_bounds cells) values → AreValues cells values (length values)
values_fit [] [] h k l = absurd (omega (arith, l))
values_fit [] (v ∷ vs) h k l = absurd h
values_fit (c ∷ cs) [] h k l = absurd (omega (arith, l))
values_fit (c ∷ cs) (v ∷ vs) h zero l = kind_fits c.kind v h.0
values_fit (c ∷ cs) (v ∷ vs) h (suc k) l = values_fit cs vs h.1 k (omega (arith, l))

no_definition : TypeDef
no_definition = record { name = record { number = 0 }; params = []; cells = []; buffers = []; guard = None; body = Struct [] }

pub arguments_fit : ArgumentsFit
arguments_fit c m entry args cells of less fit fits =
    let n = entry.number in
    let place = slice_index m.entries n in
    let e : slice_get m.entries n ≡ Some place = slice_get-get_or m.entries n 0 less in
    let here : n < length c.entries = omega (arith, less, of.laid.entry_count) in
    let routine : (entry_of c n).routine ≡ place = of.laid.entries n place e in
    let point = of.code.entries n here in
    let inside : place < length m.definitions = omega (arith, point.there, routine, of.laid.count) in
    let d = slice_index_or m.definitions place no_definition in
    let there : slice_get m.definitions place ≡ Some d = slice_get-get_or m.definitions place no_definition inside in
    let is : entry_definition m n ≡ Some d = ap (definition_at m) e ∙ there in
    let a : AllFit (param_bounds d.params) args = subst (λ o. AllFit (params_at o) args) is fit in
    let b : AllFit (cell_bounds d.cells) cells = subst (λ o. AllFit (cells_at o) cells) is fits in
    let params = of.laid.entry_params n place d e there in
    let own = of.laid.entry_cells n place d e there in
    record {
      there = here;
      arg_count = args_count d.params args a ∙ sym (ap length params);
      cell_count = cells_count d.cells cells b ∙ sym (ap length own);
      args_fit = subst (λ ps. AreArguments ps args (length args)) (sym params) (args_fit d.params args a);
      cells_fit = subst (λ cs. AreValues cs cells (length cells)) (sym own) (values_fit d.cells cells b);
    }
