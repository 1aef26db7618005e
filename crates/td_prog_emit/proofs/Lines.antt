-- The line of an entry point's cells, where there are some.
use Rattle.std.proofs.Common.{◌≡◌, ◌≢◌, ℕ, zero, suc, List, [], ◌∷◌, ◌++◌, codes, decimal, Bool, true, false, cond, Result, refl, ap, sym}
use Rattle.std.specs.declared.alloc.AllocError.{AllocError}
use Rattle.td_prog_emit.proofs.Texts.{recut}
use Rattle.td_prog_emit.specs.Written.{Wrote}
use Rattle.td_ir.specs.declared.tables.EntryPoint.{EntryPoint}
use Rattle.td_prog_text.specs.Entries.{cells_line, indexed, initial, lines, no_place}
use Rattle.td_prog_text.specs.Expressions.{Pieces, text}

pub line_is :
    (e : EntryPoint) (names members : List (List ℕ)) (n : ℕ) → n ≢ 0
    → text (codes "    uint64_t td_cells[" ∷ decimal n ∷ codes "] = {" ∷ (lines (indexed (initial e names members) 0 e.cells) ++ (lines (indexed (no_place e names) 0 e.buffers) ++ codes "};\n" ∷ [])))
    ≡ text (cells_line e names members n)
line_is e names members zero h = absurd (h refl)
line_is e names members (suc n) h = refl

-- what is written in one case alone
pub chosen : {r : Result (Unit {0}) AllocError} {o n : List ℕ} {ps : Pieces} (qs : Pieces) (b : Bool) → b ≡ true → Wrote r o n ps → Wrote r o n (cond b ps qs)
chosen {r} {o} {n} {ps} qs b e w = recut w (ap (λ (z : Bool). text (cond z ps qs)) (sym e))

pub other : {r : Result (Unit {0}) AllocError} {o n : List ℕ} (ps : Pieces) {qs : Pieces} (b : Bool) → b ≡ false → Wrote r o n qs → Wrote r o n (cond b ps qs)
other {r} {o} {n} ps {qs} b e w = recut w (ap (λ (z : Bool). text (cond z ps qs)) (sym e))
