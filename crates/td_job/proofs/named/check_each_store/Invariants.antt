use Rattle.std.proofs.Common.{◌≡◌, drop}
use Rattle.td_job.specs.Named.{each_word_faults}
use Rattle.td_job.proofs.named.check_each_store.Given as goal

-- what is left of the stores, from here, decides
abbrev pub invariant-loop-index : goal.invariant-loop-index
invariant-loop-index l = each_word_faults l.words 0 l.stores ≡ each_word_faults l.words l.index (drop l.index l.stores)
