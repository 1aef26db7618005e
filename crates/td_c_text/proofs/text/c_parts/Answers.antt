use Rattle.std.proofs.Common.{◌∙◌}
use Rattle.td_code.specs.Compile.{IsCodeFor}
use Rattle.td_c_text.proofs.text.c_parts.Goals as goal

pub returns : goal.returns
returns c = λ text short stands.
    let of : IsCodeFor c.in_ok-verified.verified c.args.m.now = record { written = c.in_ok-verified.ensures.written; sound = c.code-code.ensures.sound; means = c.in_ok-verified.ensures.means } in
    record {
      code = c.in_ok-verified.verified;
      of = of;
      tells = c.texts_tell_in_parts.ensures text c.args.m.now c.in_ok-verified.verified short stands c.in_ok-verified.ensures.code.code of;
      bytes_are = c.of.ensures ∙ c.in_ok-file.ensures;
    }
