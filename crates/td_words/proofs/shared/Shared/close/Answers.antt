use Rattle.std.proofs.Common.{◌≡◌, List, subst, ◌∙◌}
use Rattle.td_words.specs.History.{Entry, memory_after}
use Rattle.td_words.specs.Gathered.{IsHistoryOf}
use Rattle.td_words.specs.Seats.{HostState}
use Rattle.td_words.proofs.Ends.{closes}
use Rattle.td_words.proofs.shared.Shared.close.Goals as goal

pub returns-clause-told : goal.returns-clause-told
returns-clause-told c =
    let r = closes _ _ _ _ c.host.invariant c.close_with.ensures.values.2 in
    subst (λ (x : HostState). (log : List Entry) × IsHistoryOf x.view log × (c.new.result ≡ memory_after x.view.opened log)) c.host.view_is (r.0, r.1, c.new.ensures.words ∙ r.2)
