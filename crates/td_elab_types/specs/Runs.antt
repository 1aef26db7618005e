-- The cells of a run, and what one argument is for its parameter.
use Rattle.std.specs.Prelude.{ℕ, Bool, true, List, [], ◌∷◌, Option, Some, None, is_some}
use Rattle.td_num.specs.Numbers.{places_from}
use Rattle.td_ast.specs.Trees.{Tree}
use Rattle.td_core.specs.Term.{Term}
use Rattle.td_elab_rules.specs.declared.breach.Breach.{Breach}
use Rattle.td_elab_rules.specs.declared.known.Parameter.{Parameter}
use Rattle.td_elab_rules.specs.declared.known.Parameter.TheVariants.{Value, Cells, Buffer}
use Rattle.td_elab_rules.specs.declared.known.Known.{Known}
use Rattle.td_elab_rules.specs.declared.known.Scope.{Scope}
use Rattle.td_elab_rules.specs.Sorts.{core_of}
use Rattle.td_elab_rules.specs.ExprRules.{fitting_breaches}
use Rattle.td_elab_rules.specs.Types.{cells_named, cells_or_none, buffer_named, buffer_or_none}
use Rattle.td_elab_types.specs.declared.arguments.CellRun.{CellRun}

abbrev pub run_cells : Option CellRun → Option (List ℕ)
run_cells None = None
run_cells (Some r) = Some (places_from r.first r.count)

abbrev pub is_taken : Known → Scope → Parameter → Tree → Bool
is_taken k s (Value w) e = true
is_taken k s (Cells t) e = is_some (cells_named k s t e)
is_taken k s (Buffer room) e = is_some (buffer_named k s room e)

abbrev pub term_of : Known → Scope → Parameter → Tree → List Term
term_of k s (Value w) e = core_of k s e ∷ []
term_of k s (Cells t) e = []
term_of k s (Buffer room) e = []

abbrev pub arg_breaches : Known → Scope → Parameter → Tree → List Breach
arg_breaches k s (Value w) e = fitting_breaches k s w e
arg_breaches k s (Cells t) e = []
arg_breaches k s (Buffer room) e = []

abbrev pub cells_of : Known → Scope → Parameter → Tree → List ℕ
cells_of k s (Value w) e = []
cells_of k s (Cells t) e = cells_or_none (cells_named k s t e)
cells_of k s (Buffer room) e = []

abbrev pub buffer_of : Known → Scope → Parameter → Tree → List ℕ
buffer_of k s (Value w) e = []
buffer_of k s (Cells t) e = []
buffer_of k s (Buffer room) e = buffer_or_none (buffer_named k s room e)
