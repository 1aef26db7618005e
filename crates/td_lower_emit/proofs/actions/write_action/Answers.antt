use Rattle.std.proofs.Common.{◌≡◌, length, take, ap, subst, ◌∙◌, arith}
use Rattle.td_lower_blocks.specs.Block.{Done}
use Rattle.td_lower_blocks.specs.Constructs.{acts}
use Rattle.td_lower_blocks.specs.Lowered.{action_of}
use Rattle.td_lower_emit.specs.Emission.{Finishes}
use Rattle.td_lower_emit.proofs.Writing.{scope_written, taken_back, longer}
use Rattle.td_lower_emit.proofs.actions.write_action.Goals as goal

pub shorten-requires : goal.shorten-requires
shorten-requires c =
    let m = acts c.args.t c.args.site (action_of c.args.level c.args.action.now) Done in
    let l = longer 0 c.args.code.now c.write_statements.new.code m c.in_ok-write_statements.ensures in
    let e : c.place-begin.result ≡ length c.args.code.now = c.place-begin.ensures in
    omega (arith, l, e)

pub returns : goal.returns
returns c = λ x k.
    let a0 = c.args.code.now in
    let y1 = c.write_statements.new.code in
    let y2 = c.shorten.new.self in
    let y3 = c.write_statements-2.new.code in
    let m = acts c.args.t c.args.site (action_of c.args.level c.args.action.now) Done in
    let h1 : Finishes 0 a0 y1 m = c.in_ok-write_statements.ensures in
    let same : y2 ≡ a0 = c.shorten.ensures ∙ (ap (λ n. take n y1) c.place-begin.ensures ∙ taken_back 0 a0 y1 m h1) in
    let h3 : Finishes c.place-end.result y2 y3 m = c.in_ok-write_statements-2.ensures in
    let h4 : Finishes c.place-end.result a0 y3 m = subst (λ z. Finishes c.place-end.result z y3 m) same h3 in
    let end : c.place-end.result ≡ length y1 = c.place-end.ensures in
    scope_written 0 x a0 y1 y3 m k h1 (subst (λ n. Finishes n a0 y3 m) end h4)
