use Rattle.std.proofs.Common.{◌≡◌, [], ◌∙◌, sym}
use Rattle.td_kinds.specs.KindRules.{kind_list, kind_faults}
use Rattle.td_kinds.proofs.Listing.{no_faults}
use Rattle.td_kinds.proofs.Answering.{answer_ok, answer_cause, answer_memory}
use Rattle.td_kinds.proofs.modules.kinds.Goals as goal

pub returns-clause-kinds : goal.returns-clause-kinds
returns-clause-kinds c =
    answer_ok (λ ks. ks.items ≡ kind_list c.args.m.now) c.first_fault-first.result c.in_ok-kinds.kinds c.answer.result c.answer.ensures
    (λ none. c.in_ok-kinds.ensures.kinds)

pub returns-clause-admitted : goal.returns-clause-admitted
returns-clause-admitted c =
    answer_ok (λ _. kind_faults c.args.m.now ≡ []) c.first_fault-first.result c.in_ok-kinds.kinds c.answer.result c.answer.ensures
    (λ none. no_faults (kind_faults c.args.m.now) (sym c.first_fault-first.ensures ∙ none))

pub returns-clause-cause : goal.returns-clause-cause
returns-clause-cause c =
    answer_cause (kind_faults c.args.m.now) c.first_fault-first.result c.in_ok-kinds.kinds c.answer.result c.first_fault-first.ensures c.answer.ensures

pub returns-clause-memory : goal.returns-clause-memory
returns-clause-memory c = λ e. absurd (answer_memory c.first_fault-first.result c.in_ok-kinds.kinds c.answer.result c.answer.ensures e)
