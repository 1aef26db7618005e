use Rattle.std.proofs.Common.{◌≡◌, ◌++◌, take, drop, ap, ◌∙◌}
use Rattle.std.proofs.lemmas.List.{take-take}
use Rattle.td_cli_host.specs.declared.gates.TheConstants.{GATES_OF_EACH}
use Rattle.td_cli_host.proofs.gates.gates_of.Goals as goal

pub returns-clause-first : goal.returns-clause-first
returns-clause-first g c =
    let all = c.args.gates.items in
    let first : c.truncate.new.self.items ≡ take c.args.workers all =
    c.truncate.ensures.items ∙ ap (take c.args.workers) c.in_ok-of_guests.ensures.items ∙ take-take c.args.workers GATES_OF_EACH all c.requires.workers in
    let second : c.truncate-2.new.self.items ≡ take c.args.guests (drop GATES_OF_EACH all) =
    c.truncate-2.ensures.items ∙ ap (take c.args.guests) c.in_ok-of_guests.ensures.tail in
    c.in_ok-append.ensures.items ∙ ap (λ l. l ++ c.truncate-2.new.self.items) first ∙ ap (λ l. take c.args.workers all ++ l) second
