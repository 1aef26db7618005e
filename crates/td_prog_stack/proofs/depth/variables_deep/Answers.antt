use Rattle.std.proofs.Common.{ℕ, ◌+◌, ◌∙◌, ap, refl}
use Rattle.std.proofs.Math.Path.{fun_ext}
use Rattle.td_ir.specs.declared.tables.Parts.{Parts}
use Rattle.td_vm.specs.Need.{most_need}
use Rattle.td_prog_stack.specs.declared.depth.Counted.TheVariants.{Variables}
use Rattle.td_prog_stack.specs.Counted.{counted_of}
use Rattle.td_prog_stack.proofs.depth.variables_deep.Goals as goal

pub returns : goal.returns
returns c =
    ap (λ n. n + 7)
    (c.in_ok-deepest.ensures.is ∙ ap (λ (p : Parts). most_need (counted_of Variables p) p) c.parts_of.ensures.same
    ∙ ap (λ (f : ℕ → ℕ). most_need f c.args.code.now) (fun_ext (λ n. refl)))
