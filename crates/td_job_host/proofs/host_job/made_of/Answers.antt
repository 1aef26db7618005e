use Rattle.std.proofs.Common.{ℕ, [], length, sym, ap, subst, ◌∙◌, ◌≡◌}
use Rattle.serde_json.specs.View.{view}
use Rattle.td_core.specs.Formed.{cells_at}
use Rattle.td_job.specs.Values.{given_args}
use Rattle.td_job.specs.Words.{IsFilled}
use Rattle.td_job_host.specs.HostJobs.{given_buffer, rest_faults, rooms_in}
use Rattle.td_job_host.proofs.Naming.{none_of_rest}
use Rattle.td_job_host.proofs.host_job.made_of.Goals as goal

pub parts_of-requires-clause-rest : goal.parts_of-requires-clause-rest
parts_of-requires-clause-rest c = subst (λ (n : ℕ). rest_faults n (view c.args.job.now) ≡ []) c.requires.words c.requires.rest

pub parts_of-requires-clause-faultless : goal.parts_of-requires-clause-faultless
parts_of-requires-clause-faultless c = c.requires.good.buffer

pub parts_of-requires-clause-words : goal.parts_of-requires-clause-words
parts_of-requires-clause-words c = c.requires.words

pub returns-in-Ok-clause-ok : goal.returns-in-Ok-clause-ok
returns-in-Ok-clause-ok c =
    let m = c.args.m.now in
    let job = view c.args.job.now in
    let entry = c.args.tested.entry in
    let own = c.definition_of.ensures in
    record {
      entry = entry;
      formats = c.args.tested.swaps.formats.items;
      entries = c.args.tested.swaps.entries.items;
      named = c.requires.good.named;
      before = none_of_rest m job entry c.requires.good c.requires.rest;
      swaps = c.requires.swaps;
      after = c.requires.after;
      by = c.in_ok-served.ensures.formats;
      begins = c.in_ok-served.ensures.entries;
      args = c.in-Ok.ensures.args ∙ ap (λ d. given_args d job) own;
      cells = c.in-Ok.ensures.cells ∙ ap (λ d. length (cells_at d)) own;
      roomy = c.in-Ok.ensures.rooms ∙ ap rooms_in own;
      filled = subst (λ (n : ℕ). IsFilled (given_buffer job) n c.in-Ok.filled) (sym c.requires.words) c.in-Ok.ensures.filled;
      worked = c.requires.workers;
      scripted = c.in-Ok.ensures.guests;
      looked_at = c.in-Ok.ensures.rings;
    }
