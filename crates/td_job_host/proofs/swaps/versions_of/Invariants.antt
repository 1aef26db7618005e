use Rattle.serde_json.specs.View.{view}
use Rattle.td_job.specs.declared.error.Key.TheVariants as key
use Rattle.td_job.specs.Fields.{text_of}
use Rattle.td_job_host.proofs.Looping.{ReadSo}
use Rattle.td_job_host.proofs.swaps.versions_of.Given as goal

abbrev pub invariant-loop-index : goal.invariant-loop-index
invariant-loop-index l = ReadSo l.m l.entry (text_of key.Entry (view l.job)) l.values l.index l.versions.formats.items l.versions.entries.items
