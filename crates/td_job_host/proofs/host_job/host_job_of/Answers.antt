use Rattle.std.proofs.Common.{Err, inl, inr, ap, ◌∙◌}
use Rattle.td_job_host.proofs.host_job.host_job_of.Goals as goal

pub returns-clause-memory : goal.returns-clause-memory
returns-clause-memory c = λ memory.
    let found = c.in_ok-found.found in
    record {
      entry = found.entry;
      good = c.in_ok-found.ensures.good;
      rest = inr (inr (c.in_ok-found.ensures.rest, inr (found.swaps.formats.items, found.swaps.entries.items, c.in_ok-found.ensures.swaps, inl c.in_ok-found.ensures.after)));
    }
