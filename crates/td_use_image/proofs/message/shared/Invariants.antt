use Rattle.std.proofs.Common.{◌≡◌, take}
use Rattle.td_use_image.specs.Answers.{firsts}
use Rattle.td_use_image.proofs.message.shared.Given as goal

abbrev pub invariant-loop-word : goal.invariant-loop-word
invariant-loop-word l = firsts l.words.items ≡ take l.word-index l.word-items
