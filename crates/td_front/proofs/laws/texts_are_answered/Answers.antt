use Rattle.td_front.proofs.Texts.{Below, one_module, one_refusal, never_both, always_one, parts_flat, modules_alone}
use Rattle.td_front.proofs.laws.texts_are_answered.Goals as goal

pub returns : goal.returns
returns c =
    let below : Below = record {
      tokens = c.tokens_are_the_splitting.ensures.tokens;
      refusals = c.tokens_are_the_splitting.ensures.refusals;
      answered = c.each_answered.ensures;
      one_tree = c.one_tree.ensures;
      one_refused = c.one_refused.ensures;
      one_deep = c.one_too_deep.ensures;
      never_both = c.never_both.ensures;
      parting = record {
        firsts = record { one = c.one_is_first.ensures; some = c.some_is_first.ensures; all = c.breaches_are_all.ensures };
        answered = c.each_answered-2.ensures;
        once = c.one_answer_each.ensures;
      };
    } in
    record { one_module = one_module below; one_refusal = one_refusal below; never_both = never_both below; always_one = always_one below; parts = parts_flat below; alone = modules_alone below }
