-- A listing, one line on.
use Rattle.std.proofs.Common.{◌≡◌, ℕ, zero, suc, ◌+◌, ◌<◌, List, [], ◌∷◌, ◌++◌, length, sym, ap, ◌∙◌, arith, take, append_assoc, append-nil}
use Rattle.std.specs.Prelude.{slice_index_or}
use Rattle.td_ir.specs.declared.instructions.Instr.{Instr}
use Rattle.td_ir.specs.Listing.{line, lines}

lines_more : (n : ℕ) (js : List Instr) (k : ℕ) (d : Instr) → k < length js → lines n (take (suc k) js) ≡ lines n (take k js) ++ line (n + k) (slice_index_or js k d)
lines_more n [] k d h = absurd (omega arith)
lines_more n (x ∷ js) zero d h =
    let there : n ≡ n + 0 = omega arith in
    append-nil (line n x) ∙ ap (λ m. line m x) there
lines_more n (x ∷ js) (suc k) d h =
    let there : n + 1 + k ≡ n + suc k = omega arith in
    ap (λ r. line n x ++ r) (lines_more (n + 1) js k d (omega (arith, h)) ∙ ap (λ m. lines (n + 1) (take k js) ++ line m (slice_index_or js k d)) there)
    ∙ sym (append_assoc (line n x) (lines (n + 1) (take k js)) (line (n + suc k) (slice_index_or js k d)))

pub lines_next : (js : List Instr) (k : ℕ) (d : Instr) → k < length js → lines 0 (take (k + 1) js) ≡ lines 0 (take k js) ++ line k (slice_index_or js k d)
lines_next js k d h =
    let next : k + 1 ≡ suc k = omega arith in
    let there : 0 + k ≡ k = omega arith in
    ap (λ m. lines 0 (take m js)) next ∙ lines_more 0 js k d h ∙ ap (λ m. lines 0 (take k js) ++ line m (slice_index_or js k d)) there
