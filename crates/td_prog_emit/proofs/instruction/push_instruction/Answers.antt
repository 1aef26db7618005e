use Rattle.td_prog_emit.proofs.instruction.push_instruction.Goals as goal
use Rattle.std.proofs.Common.{ap, sym}
use Rattle.td_ir.specs.declared.instructions.Instr.{Instr}
use Rattle.td_prog_emit.proofs.Texts.{recut}
use Rattle.td_prog_emit.specs.Written.{pieces_of}
use Rattle.td_prog_text.specs.Expressions.{text}

pub returns-in-Const : goal.returns-in-Const
returns-in-Const c whole = recut (c.push_const.ensures c.args.parts.now c.args.n whole) (ap (λ (j : Instr). text (pieces_of c.args.parts.now c.args.n whole c.args.depth j)) (sym c.in-Const.is))

pub returns-in-Member : goal.returns-in-Member
returns-in-Member c whole = recut (c.push_member.ensures c.args.n whole) (ap (λ (j : Instr). text (pieces_of c.args.parts.now c.args.n whole c.args.depth j)) (sym c.in-Member.is))

pub returns-in-Op : goal.returns-in-Op
returns-in-Op c whole = recut (c.push_op.ensures c.args.parts.now c.args.n whole) (ap (λ (j : Instr). text (pieces_of c.args.parts.now c.args.n whole c.args.depth j)) (sym c.in-Op.is))

pub returns-in-Bits : goal.returns-in-Bits
returns-in-Bits c whole = recut (c.push_bits.ensures c.args.parts.now c.args.n whole) (ap (λ (j : Instr). text (pieces_of c.args.parts.now c.args.n whole c.args.depth j)) (sym c.in-Bits.is))

pub returns-in-Pos : goal.returns-in-Pos
returns-in-Pos c whole = recut (c.push_pos.ensures c.args.parts.now c.args.n whole) (ap (λ (j : Instr). text (pieces_of c.args.parts.now c.args.n whole c.args.depth j)) (sym c.in-Pos.is))

pub returns-in-Jump : goal.returns-in-Jump
returns-in-Jump c whole = recut (c.push_jump.ensures c.args.parts.now c.args.n whole) (ap (λ (j : Instr). text (pieces_of c.args.parts.now c.args.n whole c.args.depth j)) (sym c.in-Jump.is))

pub returns-in-JumpIf : goal.returns-in-JumpIf
returns-in-JumpIf c whole = recut (c.push_jump_if.ensures c.args.parts.now c.args.n whole) (ap (λ (j : Instr). text (pieces_of c.args.parts.now c.args.n whole c.args.depth j)) (sym c.in-JumpIf.is))

pub returns-in-JumpUnless : goal.returns-in-JumpUnless
returns-in-JumpUnless c whole = recut (c.push_jump_unless.ensures c.args.parts.now c.args.n whole) (ap (λ (j : Instr). text (pieces_of c.args.parts.now c.args.n whole c.args.depth j)) (sym c.in-JumpUnless.is))

pub returns-in-Call : goal.returns-in-Call
returns-in-Call c whole = recut (c.push_call.ensures whole) (ap (λ (j : Instr). text (pieces_of c.args.parts.now c.args.n whole c.args.depth j)) (sym c.in-Call.is))

pub returns-in-Return : goal.returns-in-Return
returns-in-Return c whole = recut (c.push_return.ensures c.args.parts.now c.args.n whole) (ap (λ (j : Instr). text (pieces_of c.args.parts.now c.args.n whole c.args.depth j)) (sym c.in-Return.is))

pub returns-in-Fetch : goal.returns-in-Fetch
returns-in-Fetch c whole = recut (c.push_fetch.ensures c.args.n whole) (ap (λ (j : Instr). text (pieces_of c.args.parts.now c.args.n whole c.args.depth j)) (sym c.in-Fetch.is))

pub returns-in-SkipK : goal.returns-in-SkipK
returns-in-SkipK c whole = recut (c.push_skip_by.ensures c.args.n whole) (ap (λ (j : Instr). text (pieces_of c.args.parts.now c.args.n whole c.args.depth j)) (sym c.in-SkipK.is))

pub returns-in-Skip : goal.returns-in-Skip
returns-in-Skip c whole = recut (c.push_skip.ensures c.args.n whole) (ap (λ (j : Instr). text (pieces_of c.args.parts.now c.args.n whole c.args.depth j)) (sym c.in-Skip.is))

pub returns-in-Rest : goal.returns-in-Rest
returns-in-Rest c whole = recut (c.push_rest.ensures c.args.parts.now c.args.n whole) (ap (λ (j : Instr). text (pieces_of c.args.parts.now c.args.n whole c.args.depth j)) (sym c.in-Rest.is))

pub returns-in-Zeros : goal.returns-in-Zeros
returns-in-Zeros c whole = recut (c.push_zeros.ensures c.args.n whole) (ap (λ (j : Instr). text (pieces_of c.args.parts.now c.args.n whole c.args.depth j)) (sym c.in-Zeros.is))

pub returns-in-Zeroterm : goal.returns-in-Zeroterm
returns-in-Zeroterm c whole = recut (c.push_zeroterm.ensures c.args.n whole) (ap (λ (j : Instr). text (pieces_of c.args.parts.now c.args.n whole c.args.depth j)) (sym c.in-Zeroterm.is))

pub returns-in-NarrowK : goal.returns-in-NarrowK
returns-in-NarrowK c whole = recut (c.push_narrow_by.ensures c.args.n whole) (ap (λ (j : Instr). text (pieces_of c.args.parts.now c.args.n whole c.args.depth j)) (sym c.in-NarrowK.is))

pub returns-in-Narrow : goal.returns-in-Narrow
returns-in-Narrow c whole = recut (c.push_narrow.ensures c.args.n whole) (ap (λ (j : Instr). text (pieces_of c.args.parts.now c.args.n whole c.args.depth j)) (sym c.in-Narrow.is))

pub returns-in-Divides : goal.returns-in-Divides
returns-in-Divides c whole = recut (c.push_divides.ensures c.args.n whole) (ap (λ (j : Instr). text (pieces_of c.args.parts.now c.args.n whole c.args.depth j)) (sym c.in-Divides.is))

pub returns-in-Widen : goal.returns-in-Widen
returns-in-Widen c whole = recut (c.push_widen.ensures c.args.n whole) (ap (λ (j : Instr). text (pieces_of c.args.parts.now c.args.n whole c.args.depth j)) (sym c.in-Widen.is))

pub returns-in-Fail : goal.returns-in-Fail
returns-in-Fail c whole = recut (c.push_fail.ensures c.args.n whole) (ap (λ (j : Instr). text (pieces_of c.args.parts.now c.args.n whole c.args.depth j)) (sym c.in-Fail.is))

pub returns-in-Get : goal.returns-in-Get
returns-in-Get c whole = recut (c.push_get.ensures c.args.parts.now c.args.n whole) (ap (λ (j : Instr). text (pieces_of c.args.parts.now c.args.n whole c.args.depth j)) (sym c.in-Get.is))

pub returns-in-Set : goal.returns-in-Set
returns-in-Set c whole = recut (c.push_set.ensures c.args.parts.now c.args.n whole) (ap (λ (j : Instr). text (pieces_of c.args.parts.now c.args.n whole c.args.depth j)) (sym c.in-Set.is))

pub returns-in-Mark : goal.returns-in-Mark
returns-in-Mark c whole = recut (c.push_mark.ensures c.args.parts.now c.args.n whole) (ap (λ (j : Instr). text (pieces_of c.args.parts.now c.args.n whole c.args.depth j)) (sym c.in-Mark.is))

pub returns-in-Copy : goal.returns-in-Copy
returns-in-Copy c whole = recut (c.push_copy.ensures whole) (ap (λ (j : Instr). text (pieces_of c.args.parts.now c.args.n whole c.args.depth j)) (sym c.in-Copy.is))

pub returns-in-Left : goal.returns-in-Left
returns-in-Left c whole = recut (c.push_left.ensures c.args.parts.now c.args.n whole) (ap (λ (j : Instr). text (pieces_of c.args.parts.now c.args.n whole c.args.depth j)) (sym c.in-Left.is))
