use Rattle.td_front.proofs.Checked.{checked}
use Rattle.td_front.proofs.laws.modules_are_checked.Goals as goal

pub returns : goal.returns
returns c =
    checked (record {
      formed = c.modules_are_formed.ensures;
      copying = c.modules_are_copying.ensures;
      sorted = c.modules_are_sorted.ensures;
      whole = c.modules_are_whole.ensures;
      fields = c.fields_are_whole.ensures;
      steps = c.steps_are_sizes.ensures;
      named = c.modules_are_named.ensures;
      apart = c.spelled_names_are_apart.ensures;
      words = c.names_are_words.ensures.all;
      types = c.types_are_alike.ensures;
      within = c.modules_are_within.ensures;
      nodes = c.nodes_are_within.ensures;
      depth = c.depths_are_within.ensures;
      weight = c.weights_are_within.ensures;
    })
