use Rattle.std.proofs.Common.{rules, ◌≡◌, ◌<◌, ◌≤◌, length, ◌++◌, ◌∷◌, [], List, slice_set, false, ap, ◌∙◌, arith, length-append}
use Rattle.td_ir.specs.declared.instructions.Instr.{Instr}
use Rattle.td_ir.specs.declared.instructions.Instr.TheVariants as i
use Rattle.td_lower_blocks.specs.Block.{Block, Done, Leave, Guard, Scope, guard}
use Rattle.td_lower_blocks.specs.Constructs.{value}
use Rattle.td_lower_blocks.specs.Lowered.{expr_of}
use Rattle.td_lower_emit.specs.Emission.{Writes}
use Rattle.td_lower_emit.proofs.Writing.{grown, guard_written, choice_written}
use Rattle.td_lower_emit.proofs.expressions.+value.Goals as goal

-- a place stands in what was written behind it
behind : (y1 y2 y3 : List Instr) (place : _) (f : Block → Block) → place ≡ length y1 → y2 ≡ y1 ++ i.Mark ∷ [] → Writes y2 y3 f → place < length y3
behind y1 y2 y3 place f h e w = let a = grown y2 y3 f w in let b = ap length e in let d = length-append y1 (i.Mark ∷ []) in omega (arith, a, b, d, h)

pub write_both-land-requires : goal.write_both-land-requires
write_both-land-requires t c =
    behind c.write_value.new.code c.write.new.self c.write_value-2.new.code c.place-place.result (value c.args.t (expr_of c.args.b.now))
    c.place-place.ensures c.in_ok-write.ensures c.in_ok-write_value-2.ensures

pub write_both-returns : goal.write_both-returns
write_both-returns t c = λ x k.
    let T = c.args.t in
    let A = expr_of c.args.a.now in
    let B = expr_of c.args.b.now in
    let y1 = c.write_value.new.code in
    let y3 = c.write_value-2.new.code in
    let w1 : Writes c.args.code.now y1 (value T A) = c.in_ok-write_value.ensures in
    let w3 : Writes c.write.new.self y3 (value T B) = c.in_ok-write_value-2.ensures in
    let s = c.land.ensures ∙ ap (λ n. slice_set y3 n (guard c.args.when T (length y3))) c.place-place.ensures in
    guard_written y1 c.write.new.self y3 c.land.new.code c.args.when T x i.Mark (value T B Done) k c.in_ok-write.ensures (w3 x Done) s
    ∙ w1 x (Guard c.args.when T (value T B Done) k)

pub write_choice-land-requires : goal.write_choice-land-requires
write_choice-land-requires t c =
    let y1 = c.write_value.new.code in
    let y3 = c.write_value-2.new.code in
    let y4 = c.write-2.new.self in
    let l : c.place-place.result < length y3 =
    behind y1 c.write.new.self y3 c.place-place.result (value c.args.t (expr_of c.args.a.now)) c.place-place.ensures c.in_ok-write.ensures c.in_ok-write_value-2.ensures in
    let e : y4 ≡ y3 ++ i.Mark ∷ [] = c.in_ok-write-2.ensures in
    let b = ap length e in let d = length-append y3 (i.Mark ∷ []) in omega (arith, l, b, d)

pub write_choice-set-requires : goal.write_choice-set-requires
write_choice-set-requires t c =
    let y3 = c.write_value-2.new.code in
    let y4 = c.write-2.new.self in
    let y5 = c.land.new.code in
    let y6 = c.write_value-3.new.code in
    let e : y4 ≡ y3 ++ i.Mark ∷ [] = c.in_ok-write-2.ensures in
    let b = ap length e in let d = length-append y3 (i.Mark ∷ []) in
    let s : length y5 ≡ length y4 = search rules in
    let g : length y5 ≤ length y6 = grown y5 y6 (value c.args.t (expr_of c.args.b.now)) c.in_ok-write_value-3.ensures in
    let p : c.place-last.result ≡ length y3 = c.place-last.ensures in
    omega (arith, b, d, s, g, p)

pub write_choice-returns : goal.write_choice-returns
write_choice-returns t c = λ x k.
    let T = c.args.t in
    let D = expr_of c.args.c.now in
    let A = expr_of c.args.a.now in
    let B = expr_of c.args.b.now in
    let y1 = c.write_value.new.code in
    let y3 = c.write_value-2.new.code in
    let y4 = c.write-2.new.self in
    let y5 = c.land.new.code in
    let y6 = c.write_value-3.new.code in
    let w1 : Writes c.args.code.now y1 (value T D) = c.in_ok-write_value.ensures in
    let w3 : Writes c.write.new.self y3 (value T A) = c.in_ok-write_value-2.ensures in
    let w6 : Writes y5 y6 (value T B) = c.in_ok-write_value-3.ensures in
    let s = c.land.ensures ∙ ap (λ n. slice_set y4 n (guard false T (length y4))) c.place-place.ensures in
    let last : c.set.new.self ≡ slice_set y6 (length y3) (i.Jump (length y6)) =
    c.set.ensures ∙ (ap (λ n. slice_set y6 n (i.Jump c.place-end.result)) c.place-last.ensures ∙ ap (λ n. slice_set y6 (length y3) (i.Jump n)) c.place-end.ensures) in
    choice_written y1 c.write.new.self y3 y4 y5 y6 c.set.new.self T x i.Mark i.Mark (value T A) (value T B) k c.in_ok-write.ensures w3 c.in_ok-write-2.ensures s w6 last
    ∙ w1 x (Scope (Guard false T (value T A Leave) (value T B Done)) k)
