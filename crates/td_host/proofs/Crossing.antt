-- What the threads share may be looked at by all of them at once.
use Rattle.std.proofs.Common.{[], ◌∷◌}
use mir.Syntax.{Sym}
use denote.RattleType.{RattleType}
use denote.Struct.Field.{row_field}
use denote.Struct.Tuple.{TupleAt, type_at}
use denote.Param.Send.{IsSync, sendable}
use denote.Param.SendFields.{variants_sync, declared_sync, as_row_sync}
use Rattle.std.proofs.Crossing as known
use Rattle.td_ast.proofs.token.Span.TheSendSync as span
use Rattle.td_num.proofs.number.NumberType.TheSendSync as number_type
use Rattle.td_num.proofs.items.Items.TheSendSync as items
use Rattle.td_num.proofs.text.Text.TheSendSync as text
use Rattle.td_core.proofs.expressions.Scalar.TheSendSync as scalar
use Rattle.td_core.proofs.expressions.Binary.TheSendSync as binary
use Rattle.td_core.proofs.expressions.Relation.TheSendSync as relation
use Rattle.td_core.proofs.expressions.CoreExpr.TheLaws.TheKnot as expressions
use Rattle.td_core.proofs.actions.Action.TheLaws.TheKnot as actions
use Rattle.td_core.proofs.full_name.FullName.TheSendSync as full_name
use Rattle.td_core.proofs.module.NameId.TheSendSync as name_id
use Rattle.td_core.proofs.module.Bits.TheSendSync as bits
use Rattle.td_core.proofs.module.Param.TheSendSync as param
use Rattle.td_core.proofs.module.Cell.TheSendSync as cell
use Rattle.td_core.proofs.module.Entry.TheSendSync as entry
use Rattle.td_posts.proofs.job.Step.TheSendSync as step
use Rattle.td_posts.proofs.name.PostName.TheSendSync as post_name
use Rattle.td_posts.proofs.ring.RingJob.TheSendSync as ring_job
use Rattle.td_posts.specs.contracts.mail.Mail as mail
use Rattle.td_core.specs.contracts.expressions.CoreExpr as expr
use Rattle.td_core.specs.contracts.actions.Action as action
use Rattle.td_core.specs.contracts.module.Element as element
use Rattle.td_core.specs.contracts.module.Extent as extent
use Rattle.td_core.specs.contracts.module.Part as part
use Rattle.td_core.specs.contracts.module.Field as field
use Rattle.td_core.specs.contracts.module.Case as case
use Rattle.td_core.specs.contracts.module.Body as body
use Rattle.td_core.specs.contracts.module.TypeDef as definition
use Rattle.td_core.specs.contracts.module.Module as all
use Rattle.td_posts.specs.contracts.job.HostJob as host_job
use Rattle.td_words.proofs.shared.Shared.TheSendSync as shared
use Rattle.td_ring.specs.declared.naming.Naming.{Ghosts}
use Rattle.td_ring.proofs.ring.Ring.TheSendSync as ring
use Rattle.td_ring.proofs.tickets.Tickets.TheSendSync as tickets
use Rattle.td_swap.proofs.codes.Codes.TheSendSync as codes
use Rattle.td_host_actors.specs.contracts.actor.Desk as desk

pub ruleset leaves = (known.crosses, known.sync, step.the_sync, step.the_field_sync, post_name.the_sync, post_name.the_field_sync, ring_job.the_sync, ring_job.the_field_sync, span.the_field_sync, span.the_sync, number_type.the_field_sync, number_type.the_sync, items.the_sync, text.the_sync, scalar.the_field_sync, scalar.the_sync, binary.the_field_sync, binary.the_sync, relation.the_field_sync, relation.the_sync, full_name.the_sync, name_id.the_field_sync, name_id.the_sync, bits.the_field_sync, bits.the_sync, param.the_field_sync, param.the_sync, cell.the_field_sync, cell.the_sync, entry.the_field_sync, entry.the_sync)

pub expr_sync : IsSync expr.the_row
expr_sync = search (sendable, leaves, expressions.crosses) depth 12

pub action_sync : IsSync action.the_row
action_sync = search (sendable, leaves, expr_sync, expressions.crosses, actions.crosses) depth 12

pub element_sync : IsSync element.the_row
element_sync = variants_sync element.enum (search (sendable, leaves, as_row_sync, expr_sync) depth 12)

pub extent_sync : IsSync extent.the_row
extent_sync = variants_sync extent.enum (search (sendable, leaves, as_row_sync, expr_sync) depth 12)

pub part_sync : IsSync part.the_row
part_sync = declared_sync part.the_type (search (sendable, leaves, as_row_sync, expr_sync, action_sync) depth 12)

pub field_sync : IsSync field.the_row
field_sync = declared_sync field.the_type (search (sendable, leaves, as_row_sync, element_sync, extent_sync, part_sync) depth 12)

pub case_sync : IsSync case.the_row
case_sync = declared_sync case.the_type (search (sendable, leaves, as_row_sync, field_sync) depth 12)

pub body_sync : IsSync body.the_row
body_sync = variants_sync body.enum (search (sendable, leaves, as_row_sync, expr_sync, field_sync, case_sync) depth 12)

pub definition_sync : IsSync definition.the_row
definition_sync = declared_sync definition.the_type (search (sendable, leaves, as_row_sync, expr_sync, body_sync) depth 12)

pub module_sync : IsSync all.the_row
module_sync = declared_sync all.the_type (search (sendable, leaves, as_row_sync, definition_sync) depth 12)

pub mail_sync : IsSync mail.the_row
mail_sync = declared_sync mail.the_type (search (sendable, leaves, as_row_sync) depth 12)

pub host_job_sync : IsSync host_job.the_row
host_job_sync = declared_sync host_job.the_type (search (sendable, leaves, as_row_sync, module_sync) depth 12)

pub desk_sync : (J : RattleType) (N : Ghosts J.Denot) → IsSync (desk.the_row J N)
desk_sync J N = declared_sync (desk.the_type J N) (search (sendable, leaves, as_row_sync, shared.the_sync, ring.the_sync, tickets.the_sync, codes.the_sync, host_job_sync, mail_sync) depth 12)

-- a closure that captured two things
pub tuple_sync : (ν : Sym) (A B : RattleType) → IsSync A → IsSync B → IsSync (TupleAt ν (A ∷ B ∷ []))
tuple_sync ν A B a b = declared_sync (type_at ν (A ∷ B ∷ [])) (as_row_sync (row_field A) a, (as_row_sync (row_field B) b, tt))
