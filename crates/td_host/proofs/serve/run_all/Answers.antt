-- The closure captures the runtime and the desk, each by a reference; each may be looked at by all threads.
use Rattle.std.proofs.Common.{[]}
use denote.Param.{param}
use denote.Param.Send.{shr_sync}
use denote.Struct.Field.{shr_ref_field}
use mir.Syntax.{named}
use Rattle.td_host_actors.specs.contracts.actor.Desk as desk
use Rattle.td_host.proofs.Crossing.{desk_sync, tuple_sync}
use Rattle.td_host.proofs.serve.run_all.Goals as goal

pub for_each_mut-requires-sync-F : goal.for_each_mut-requires-sync-F
for_each_mut-requires-sync-F g c κs within = record {
  shared = λ x b o κ.
      (tuple_sync [] (shr_ref_field (record { mir = named 6; lft = κs.1.1.1.1.1.1.0 }) (param 1 g.row.R) tt).row (shr_ref_field (record { mir = named 7; lft = κs.1.1.1.1.1.1.1.0 }) (desk.the_row (param 0 g.row.J) g.J.Naming) tt).row
      (shr_sync _ _ _ c.type_bounds.sync-R) (shr_sync _ _ _ (desk_sync (param 0 g.row.J) g.J.Naming))).shared x b o κ;
}
