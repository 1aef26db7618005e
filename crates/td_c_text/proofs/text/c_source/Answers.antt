use Rattle.std.proofs.Common.{ℕ, List, ◌++◌, ap, ◌∙◌}
use Rattle.td_code.specs.Compile.{IsCodeFor}
use Rattle.td_prog_text.specs.Files.{c_file}
use Rattle.td_prog_stack.specs.Depth.{functions_deep, variables_deep}
use Rattle.td_c_text.specs.Texts.{head_of}
use Rattle.td_c_text.proofs.text.c_source.Goals as goal

pub returns : goal.returns
returns c = λ text short stands.
    let of : IsCodeFor c.in_ok-verified.verified c.args.m.now = record { written = c.in_ok-verified.ensures.written; sound = c.code-code.ensures.sound; means = c.in_ok-verified.ensures.means } in
    record {
      code = c.in_ok-verified.verified;
      of = of;
      tells = c.texts_tell_in_c.ensures text c.args.m.now c.in_ok-verified.verified short stands c.in_ok-verified.ensures.code.code of;
      bytes_are =
          c.of.ensures ∙ c.in_ok-whole.ensures
          ∙ ap (λ (l : List ℕ). c.in_ok-lines.lines.items ++ l) (c.deref.ensures.value ∙ c.in_ok-file.ensures)
          ∙ ap (λ (l : List ℕ). l ++ c_file c.args.prefix.now c.in_ok-verified.verified) (c.in_ok-lines.ensures
          ∙ ap (λ (n : ℕ). head_of n c.in_ok-variables.variables) c.in_ok-functions.ensures
          ∙ ap (λ (n : ℕ). head_of (functions_deep c.in_ok-verified.verified) n) c.in_ok-variables.ensures);
    }
