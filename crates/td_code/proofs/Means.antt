-- Cited by other crates.
-- Lowered code does what a checked module means.
use Rattle.std.proofs.Common.{Result, Ok, Err, IfOk}
use Rattle.td_core.specs.declared.module.Module.{Module}
use Rattle.td_arith.specs.Laws.{EvaluatedIsSound}
use Rattle.td_front.specs.Checked.{IsChecked}
use Rattle.td_ir.specs.declared.tables.Parts.{Parts}
use Rattle.td_lower_means.specs.CodeRun.{IsCodeOf, ArgumentsFit}
use Rattle.td_lower.specs.Code.{IsLowerable, MeansModule}
use Rattle.td_code.specs.Compile.{DoesWhatItMeans}
use Rattle.td_arith.proofs.Entering.{entry_is_sound}

pub lowerable : (m : Module) → IsChecked m → IsLowerable m
lowerable m h = record {
  ready = record { formed = h.formed; sorted = h.sorted; fields = h.fields; steps = h.steps; kinds = h.kinds };
  copying = h.copying;
  whole = h.whole;
  named = h.named;
  words = h.words;
  within = h.within;
  nodes = h.nodes;
  depth = h.depth;
  weight = h.weight;
}

pub does : (c : Parts) (m : Module) → EvaluatedIsSound → ArgumentsFit → IsChecked m → IsCodeOf c m → MeansModule c m → DoesWhatItMeans c m
does c m law fitting checked code means = λ entry args cells message inside fits_args fits_cells bytes short.
    means entry args cells message (fitting c m entry args cells code inside fits_args fits_cells) short (entry_is_sound m entry args cells law checked.formed checked.copying checked.safe checked.whole inside fits_args fits_cells message bytes short)

pub written_does : {E : Type 0} (r : Result Parts E) (m : Module) → EvaluatedIsSound → ArgumentsFit → IsChecked m → IfOk r (λ c. IsCodeOf c m) → IfOk r (λ c. MeansModule c m) → IfOk r (λ c. DoesWhatItMeans c m)
written_does (Ok c) m law fitting checked code means = does c m law fitting checked code means
written_does (Err e) m law fitting checked code means = tt
