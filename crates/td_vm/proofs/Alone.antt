-- A validation from an entry point without buffers leaves no copies. Cited by other crates.
use Rattle.std.proofs.Common.{◌≡◌, ℕ, ap}
use Rattle.std.specs.Prelude.{[]}
use Rattle.td_vm.specs.Imports.{Verdict}
use Rattle.td_vm.specs.Frames.{FrameView, outcome_in}

pub no_copies : (f : FrameView) (k : ℕ) (v : Verdict) → k ≡ 0 → outcome_in f k v ≡ record { verdict = v; trace = f.trace; cells = f.cells; copies = [] }
no_copies f k v e = ap (λ j. outcome_in f j v) e
