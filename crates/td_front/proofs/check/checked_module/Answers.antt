use Rattle.td_front.proofs.Memory.{input_token}
use Rattle.td_front.proofs.Passing.{few_inputs, stands_from, refused_from}
use Rattle.td_front.proofs.check.checked_module.Goals as goal

pub input_module-requires : goal.input_module-requires
input_module-requires c = few_inputs c.either_form.ensures.form c.tokens_are_the_splitting.ensures.tokens c.args.text.now c.args.input.now c.requires.short c.requires.spelled

pub returns-clause-stands : goal.returns-clause-stands
returns-clause-stands c = stands_from c.args.text.now c.args.input.now c.requires.spelled c.input_module.result c.input_module.ensures.admitted c.input_module.ensures.value

pub returns-clause-refused : goal.returns-clause-refused
returns-clause-refused c = refused_from c.args.text.now c.args.input.now c.requires.spelled c.input_module.result c.input_module.ensures.err

pub returns-clause-memory : goal.returns-clause-memory
returns-clause-memory c = λ same. input_token c.one_tree.ensures c.either_form.ensures.form c.args.text.now c.args.input.now c.requires.spelled (c.input_module.ensures.memory same)
