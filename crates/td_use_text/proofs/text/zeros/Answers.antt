use Rattle.std.proofs.Common.{rules, ◌≡◌, ℕ, List, length, subst, sym, refl, arith}
use Rattle.std.specs.List.{All}
use Rattle.std.proofs.Math.ListN.{replicate}
use Rattle.std.proofs.lemmas.List.Elements.{All-replicate}
use Rattle.td_use_text.proofs.Beginning.{begins}
use Rattle.td_use_text.proofs.text.zeros.Goals as goal

pub returns : goal.returns
returns c =
    let d = c.in-Some.definition.now in
    let made = c.in_ok-vec in
    let n = c.len-2.result in
    let zeros : made.field-0.items ≡ replicate n 0 = made.ensures.items_if_clones_equal (λ y e. e) in
    let all : All (λ v. v ≡ 0) made.field-0.items = subst (All (λ v. v ≡ 0)) (sym zeros) (All-replicate (λ v. v ≡ 0) n 0 refl) in
    let none : length d.params ≡ 0 = omega (arith, c.if-len-gt0.false, c.len.ensures) in
    (begins c.args.m.now c.args.entry d made.field-0.items c.in-Some.ensures none (search rules) all, all)
