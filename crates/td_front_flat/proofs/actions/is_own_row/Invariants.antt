use Rattle.std.proofs.Common.{◌≡◌, drop}
use Rattle.std.specs.List.{list_any}
use Rattle.td_front_flat.specs.Expressions.{is_own_row_at}
use Rattle.td_front_flat.proofs.actions.is_own_row.Given as goal

abbrev pub invariant-loop-param : goal.invariant-loop-param
invariant-loop-param l = list_any (λ q. is_own_row_at q l.name) (drop l.param-index l.params) ≡ list_any (λ q. is_own_row_at q l.name) l.params
