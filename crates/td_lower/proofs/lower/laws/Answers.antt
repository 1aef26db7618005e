use Rattle.td_lower.proofs.lower.laws.Goals as goal

pub returns : goal.returns
returns c =
    record {
      laying = c.laying_out.ensures;
      code = c.blocks_have_code.ensures;
      accepted = c.modules_are_accepted.ensures;
      light = c.modules_are_light.ensures;
      placed = c.definitions_are_placed.ensures;
      means = c.code_means.ensures;
    }
