use Rattle.std.proofs.Common.{rules, ◌≡◌, ℕ, ◌-◌, List, [], ◌∷◌, ◌++◌, length, ap, ◌∙◌, arith}
use Rattle.td_lower.specs.Imports.{NameId, Routine}
use Rattle.td_lower_blocks.specs.Block.{size}
use Rattle.td_lower_blocks.specs.Constructs.{body}
use Rattle.td_lower_blocks.specs.Lowered.{definition_body}
use Rattle.td_lower_blocks.specs.Laid.{rooms}
use Rattle.td_lower_blocks.specs.Tops.{definition_levels, definition_top}
use Rattle.td_lower_emit.proofs.Writing.{grown_to, longer}
use Rattle.td_lower.proofs.routines.write_routine.Goals as goal

pub overflow_sub-place : goal.overflow_sub-place
overflow_sub-place c =
    let m = body (definition_body c.args.first c.definition_levels-unit.result c.args.d.now) in
    let l = longer 0 c.args.code.now c.write_definition.new.code m (c.in_ok-write_definition.ensures 0) in
    let a : c.place-begin.result ≡ length c.args.code.now = c.place-begin.ensures in
    let b : c.place.result ≡ length c.write_definition.new.code = c.place.ensures in
    omega (arith, l, a, b)

-- a routine by its counts
abbrev routine : NameId → (p q g l : ℕ) → List ℕ → Routine
routine name p q g l b = record { name = name; params = p; cells = q; registers = g; buffers = b; length = l }

pub returns-clause-routine : goal.returns-clause-routine
returns-clause-routine c =
    let d = c.args.d.now in
    let u : c.definition_levels-unit.result ≡ definition_levels d = c.definition_levels-unit.ensures in
    let m = λ (t : ℕ). body (definition_body c.args.first t d) in
    let w = grown_to 0 c.args.code.now c.write_definition.new.code (m c.definition_levels-unit.result) (c.in_ok-write_definition.ensures 0) in
    let a : c.place-begin.result ≡ length c.args.code.now = c.place-begin.ensures in
    let b : c.place.result ≡ length c.write_definition.new.code = c.place.ensures in
    let s : size (m c.definition_levels-unit.result) ≡ size (m (definition_levels d)) = ap (λ t. size (m t)) u in
    let p : c.len.result ≡ length d.params = search rules in
    let q : c.len-2.result ≡ length d.cells = search rules in
    let g : c.definition_top-registers.result ≡ definition_top (definition_levels d) d = c.definition_top-registers.ensures ∙ ap (λ t. definition_top t d) u in
    let l : c.place.result - c.place-begin.result ≡ size (m (definition_levels d)) = omega (arith, w, a, b, s) in
    let b' : c.in_ok-buffers.buffers ≡ rooms d.buffers = search rules in
    c.in_ok-push.ensures.ok
    ∙ (ap (λ n. c.args.routines.now ++ routine d.name n c.len-2.result c.definition_top-registers.result (c.place.result - c.place-begin.result) c.in_ok-buffers.buffers ∷ []) p
    ∙ (ap (λ n. c.args.routines.now ++ routine d.name (length d.params) n c.definition_top-registers.result (c.place.result - c.place-begin.result) c.in_ok-buffers.buffers ∷ []) q
    ∙ (ap (λ n. c.args.routines.now ++ routine d.name (length d.params) (length d.cells) n (c.place.result - c.place-begin.result) c.in_ok-buffers.buffers ∷ []) g
    ∙ (ap (λ n. c.args.routines.now ++ routine d.name (length d.params) (length d.cells) (definition_top (definition_levels d) d) n c.in_ok-buffers.buffers ∷ []) l
    ∙ ap (λ n. c.args.routines.now ++ routine d.name (length d.params) (length d.cells) (definition_top (definition_levels d) d) (size (m (definition_levels d))) n ∷ []) b'))))
