use Rattle.std.proofs.Common.{List, sym, ap, ◌∙◌, subst}
use Rattle.td_words.specs.History.{Entry}
use Rattle.td_words.specs.Gathered.{IsHistoryOf}
use Rattle.td_words.specs.Seats.{HostState, BufferState}
use Rattle.td_words.proofs.Makes.{learns}
use Rattle.td_words.proofs.Fetches.{fetches}
use Rattle.td_words.proofs.shared.Shared.learn.Goals as goal

pub load-requires : goal.load-requires
load-requires c = (ap (λ (x : HostState). x.table) c.host.view_is ∙ (c.requires ∙ sym (ap (λ (x : BufferState). x.table) c.self.view_is)), c.self.invariant.0, learns _ _ _ c.host.invariant)

pub returns-clause-fetched : goal.returns-clause-fetched
returns-clause-fetched c = fetches c.args.host.now.view (subst (λ (x : HostState). (log : List Entry) × IsHistoryOf x.view log) c.host.view_is c.load.ensures.2.1)
