use Rattle.td_job_host.proofs.Counting.{store_counts, no_store_counts}
use Rattle.td_job_host.proofs.totals.Total.of_text.Goals as goal

pub returns-in-None : goal.returns-in-None
returns-in-None c = λ word. no_store_counts c.args.self word c.args.text.now c.in-None.ensures

pub returns-in-Some : goal.returns-in-Some
returns-in-Some c = λ word. store_counts c.args.self word c.in-Some.field-0 c.of_store.result c.args.text.now c.in-Some.ensures (c.of_store.ensures word c.in-Some.field-0)
