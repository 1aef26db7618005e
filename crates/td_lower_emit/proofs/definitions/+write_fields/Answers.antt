use Rattle.std.proofs.Common.{rules, ◌≡◌, ◌+◌, length, ◌∷◌, [], List, false, refl, sym, ap, subst, ◌∙◌, arith}
use Rattle.td_ir.specs.declared.instructions.Instr.TheVariants as i
use Rattle.td_core.specs.declared.module.Field.{Field}
use Rattle.td_meaning.specs.Naming.{is_needed}
use Rattle.td_lower_blocks.specs.Block.{Then}
use Rattle.td_lower_blocks.specs.Constructs.{steps}
use Rattle.td_lower_blocks.specs.Lowered.{number_slot, is_read, parts_steps, content_step, fields_steps}
use Rattle.td_lower_emit.specs.Emission.{laid, EndsSteps, GoesOn}
use Rattle.td_lower_emit.proofs.Writing.{one_written, stop_written}
use Rattle.td_lower_emit.proofs.definitions.+write_fields.Goals as goal

none_of : (xs : List Field) → length xs ≡ 0 → xs ≡ []
none_of [] h = refl
none_of (x ∷ xs) h = absurd (omega (arith, h))

pub returns-in_default : goal.returns-in_default
returns-in_default t c = λ x.
    let a0 = c.args.code.now in
    let l : length c.args.fields.now ≡ 0 = c.in_default.ensures.cases in
    let e = none_of c.args.fields.now l in
    stop_written a0 c.write.new.self i.Return x c.in_ok-write.ensures ∙ ap (λ fs. laid a0 x (steps (fields_steps c.args.t c.args.site c.args.level fs))) (sym e)

pub returns-then-not-branch : goal.returns-then-not-branch
returns-then-not-branch t c = λ x.
    let T = c.args.t in
    let site = c.args.site in
    let level = c.args.level in
    let a0 = c.args.code.now in
    let F = c.in-Some.field.now in
    let L = c.in-Some.later.now in
    let y1 = c.write-2.new.self in
    let y2 = c.write_content.new.code in
    let need = c.in-Some-split_first.need.now in
    let slot = c.number_slot-slot.result in
    let e : c.args.fields.now ≡ F ∷ L = search rules in
    let n : need ≡ is_needed level F.parts L = search rules in
    let s : slot ≡ number_slot level T F.parts = search rules in
    let off : c.in_ok-write_content.field-0 ≡ false = search rules in
    let w : EndsSteps y1 y2 (content_step T F.element F.extent F.copy need slot site) = subst (λ b. GoesOn b y1 y2 (content_step T F.element F.extent F.copy need slot site)) off c.in_ok-write_content.ensures in
    let nd = is_needed level F.parts L in
    let K = parts_steps T (is_read F.element F.extent nd) site level F.parts (fields_steps T (length F.parts + site) (length F.parts + level) L) in
    w x K
    ∙ (one_written a0 y1 i.Mark x (steps (content_step T F.element F.extent F.copy need slot site K)) c.in_ok-write-2.ensures
    ∙ (ap (λ q. laid a0 x (Then i.Mark (steps (content_step T F.element F.extent F.copy q slot site K)))) n
    ∙ (ap (λ q. laid a0 x (Then i.Mark (steps (content_step T F.element F.extent F.copy nd q site K)))) s
    ∙ ap (λ fs. laid a0 x (steps (fields_steps T site level fs))) (sym e))))
