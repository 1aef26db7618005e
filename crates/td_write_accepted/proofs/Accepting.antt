-- What was written is accepted.
use Rattle.std.proofs.Common.{◌≡◌, sym, ap, ◌∙◌}
use Rattle.td_num.proofs.Digits.{are_bytes}
use Rattle.td_core.specs.declared.outcome.Outcome.{Outcome}
use Rattle.td_meaning.specs.Copies.{opened}
use Rattle.td_write_spells.specs.Laws.{SpelledAreBytes}
use Rattle.td_write_accepted.specs.Laws.{WrittenIsAccepted}

pub written_is_accepted : SpelledAreBytes → WrittenIsAccepted
written_is_accepted law m entry args cells v bytes layout loads answer h a carries meant =
    let same = (meant bytes (are_bytes bytes (law m entry args (opened m entry cells) v bytes h a.spelled)) carries).same in
    (ap (λ (o : Outcome). o.verdict) (sym same) ∙ a.accepted, sym same)
