-- Zeros fit any cells, and no arguments fit where there are no parameters.
use Rattle.std.proofs.Common.{◌≡◌, ℕ, ◌≤◌, List, [], ◌∷◌, length, Option, Some, subst, sym, ap, arith}
use Rattle.std.specs.List.{All}
use Rattle.std.proofs.lemmas.List.Elements.{All-head, All-tail}
use Rattle.td_core.specs.declared.module.Module.{Module}
use Rattle.td_core.specs.declared.module.Entry.{Entry}
use Rattle.td_core.specs.declared.module.TypeDef.{TypeDef}
use Rattle.td_core.specs.declared.module.Param.{Param}
use Rattle.td_core.specs.declared.module.Cell.{Cell}
use Rattle.td_core.specs.Entries.{entry_definition}
use Rattle.td_core.specs.Formed.{AllFit, params_at, cells_at, param_bounds, cell_bound, cell_bounds}
use Rattle.td_use_text.specs.Reports.{Begins}

none_fit : (params : List Param) → length params ≡ 0 → AllFit (param_bounds params) []
none_fit [] h = tt
none_fit (p ∷ params) h = absurd (omega arith)

zeros_fit : (cells : List Cell) (values : List ℕ) → length values ≡ length cells → All (λ v. v ≡ 0) values → AllFit (cell_bounds cells) values
zeros_fit [] [] h zeros = tt
zeros_fit [] (v ∷ values) h zeros = absurd (omega arith)
zeros_fit (c ∷ cells) [] h zeros = absurd (omega arith)
zeros_fit (c ∷ cells) (v ∷ values) h zeros =
    let first : v ≡ 0 = All-head (λ n. n ≡ 0) v values zeros in
    let small : v ≤ (cell_bound c.kind).most = rw first (omega arith) in
    (small, zeros_fit cells values (omega arith) (All-tail (λ n. n ≡ 0) v values zeros))

pub begins : (m : Module) (entry : Entry) (d : TypeDef) (values : List ℕ) → entry_definition m entry.number ≡ Some d → length d.params ≡ 0 → length values ≡ length d.cells → All (λ v. v ≡ 0) values → Begins m entry values
begins m entry d values e none count zeros =
    let P : Option TypeDef → Type 0 = λ o. AllFit (params_at o) [] in
    let Q : Option TypeDef → Type 0 = λ o. AllFit (cells_at o) values in
    record {
      no_arguments = subst P (sym e) (none_fit d.params none);
      cells_fit = subst Q (sym e) (zeros_fit d.cells values count zeros);
    }
