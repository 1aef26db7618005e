use Rattle.std.proofs.Common.{sym, ap, ◌∙◌, false}
use Rattle.td_words.specs.Seats.{HostState, BufferState}
use Rattle.td_words.proofs.Makes.{splits}
use Rattle.td_words.proofs.shared.Shared.split_reader.Goals as goal

pub split_seat-requires : goal.split_seat-requires
split_seat-requires c = (ap (λ (x : HostState). x.table) c.host.view_is ∙ (c.requires ∙ sym (ap (λ (x : BufferState). x.table) c.self.view_is)), c.self.invariant.0, splits _ _ false c.host.invariant)
