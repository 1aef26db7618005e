-- Texts of a call's arguments.
use Rattle.std.proofs.Common.{◌≡◌, ℕ, zero, suc, ◌+◌, ◌*◌, ◌<◌, List, [], ◌∷◌, ◌++◌, map, take, drop, codes, decimal, flat_map, refl, sym, ap, ◌∙◌, append_assoc, arith}
use Rattle.std.specs.Prelude.{slice_index_or}
use Rattle.std.proofs.lemmas.List.{append-nil}
use Rattle.std.proofs.lemmas.Grind.{flat_map-append}
use Rattle.td_ir.specs.declared.tables.Parts.{Parts}
use Rattle.td_ir.specs.declared.tables.Routine.{Routine}
use Rattle.td_ir.specs.Tables.{buffer_cells, own_cells}
use Rattle.td_prog.specs.Syntax.{Function}
use Rattle.td_prog_code.specs.Program.{functions}
use Rattle.td_prog_emit.specs.Written.{buffer_text, cell_text, pair_text}
use Rattle.td_prog_text.specs.Expressions.{text}
use Rattle.td_prog_text.specs.Statements.{registers_text, cells_text, buffers_text}

-- one register more
register_at : (a b : ℕ) → a ≡ b → codes ", r" ++ decimal a ≡ codes ", r" ++ decimal b
register_at a b e = ap (λ (n : ℕ). codes ", r" ++ decimal n) e

more_registers : (first k : ℕ) → registers_text first (suc k) ≡ registers_text first k ++ (codes ", r" ++ decimal (first + k))
more_registers first zero = append-nil (codes ", r" ++ decimal first) ∙ register_at first (first + 0) (omega arith)
more_registers first (suc k) =
    ap (λ (l : List ℕ). codes ", r" ++ decimal first ++ l) (more_registers (first + 1) k)
    ∙ sym (append_assoc (codes ", r" ++ decimal first) (registers_text (first + 1) k) (codes ", r" ++ decimal (first + 1 + k)))
    ∙ ap (λ (l : List ℕ). registers_text first (suc k) ++ l) (register_at (first + 1 + k) (first + suc k) (omega arith))

pub registers_more : (first k : ℕ) → registers_text first (k + 1) ≡ registers_text first k ++ (codes ", r" ++ decimal (first + k))
registers_more first k = let e : k + 1 ≡ suc k = omega arith in ap (registers_text first) e ∙ more_registers first k

-- the cells of buffers
pairs : (own : ℕ) (bs : List ℕ) → flat_map (pair_text own) bs ≡ cells_text (buffer_cells own bs)
pairs own [] = refl
pairs own (b ∷ bs) =
    append_assoc (cell_text (own + 2 * b)) (cell_text (own + 2 * b + 1)) (flat_map (pair_text own) bs)
    ∙ ap (λ (l : List ℕ). cell_text (own + 2 * b) ++ (cell_text (own + 2 * b + 1) ++ l)) (pairs own bs)

cells_are : (own count : ℕ) (numbers : List ℕ) → flat_map cell_text (take count numbers) ++ flat_map (pair_text own) (drop count numbers) ≡ cells_text (own_cells own count numbers)
cells_are own count numbers =
    ap (λ (l : List ℕ). flat_map cell_text (take count numbers) ++ l) (pairs own (drop count numbers)) ∙ sym (flat_map-append cell_text (take count numbers) (buffer_cells own (drop count numbers)))

given_texts : (a x y b : List ℕ) → text (a ∷ x ∷ y ∷ b ∷ []) ≡ text (a ∷ (x ++ y) ∷ b ∷ [])
given_texts a x y b = ap (λ (l : List ℕ). a ++ l) (sym (append_assoc x y (b ++ [])))

pub arguments_are : (first : ℕ) (r s r' s' : Routine) (numbers numbers' cells buffers : List ℕ) → cells ≡ take r.cells numbers → buffers ≡ drop r.cells numbers → r ≡ r' → s ≡ s' → numbers ≡ numbers' →
    text (registers_text first r.params ∷ flat_map cell_text cells ∷ flat_map (pair_text s.cells) buffers ∷ flat_map buffer_text buffers ∷ []) ≡ text (registers_text first r'.params ∷ cells_text (own_cells s'.cells r'.cells numbers') ∷ buffers_text (drop r'.cells numbers') ∷ [])
arguments_are first r s r' s' numbers numbers' cells buffers e f g h i =
    ap (λ (l : List ℕ). text (registers_text first r.params ∷ flat_map cell_text l ∷ flat_map (pair_text s.cells) buffers ∷ flat_map buffer_text buffers ∷ [])) e
    ∙ ap (λ (l : List ℕ). text (registers_text first r.params ∷ flat_map cell_text (take r.cells numbers) ∷ flat_map (pair_text s.cells) l ∷ flat_map buffer_text l ∷ [])) f
    ∙ given_texts (registers_text first r.params) (flat_map cell_text (take r.cells numbers)) (flat_map (pair_text s.cells) (drop r.cells numbers)) (flat_map buffer_text (drop r.cells numbers))
    ∙ ap (λ (l : List ℕ). text (registers_text first r.params ∷ l ∷ flat_map buffer_text (drop r.cells numbers) ∷ [])) (cells_are s.cells r.cells numbers)
    ∙ ap (λ (q : Routine). text (registers_text first q.params ∷ cells_text (own_cells s.cells q.cells numbers) ∷ buffers_text (drop q.cells numbers) ∷ [])) g
    ∙ ap (λ (q : Routine). text (registers_text first r'.params ∷ cells_text (own_cells q.cells r'.cells numbers) ∷ buffers_text (drop r'.cells numbers) ∷ [])) h
    ∙ ap (λ (l : List ℕ). text (registers_text first r'.params ∷ cells_text (own_cells s'.cells r'.cells l) ∷ buffers_text (drop r'.cells l) ∷ [])) i

-- the names of routines, by their numbers
names_from : (c : Parts) (names : ℕ → List ℕ) (first count k : ℕ) → k < count → slice_index_or (map (λ (f : Function). f.name) (functions c names first count)) k [] ≡ names (first + k)
names_from c names first zero k h = absurd (omega (arith, h))
names_from c names first (suc n) zero h = let e : first ≡ first + 0 = omega arith in ap names e
names_from c names first (suc n) (suc k) h =
    let e : first + 1 + k ≡ first + suc k = omega arith in
    names_from c names (first + 1) n k (omega (arith, h)) ∙ ap names e

pub name_there : (c : Parts) (names : ℕ → List ℕ) (count k : ℕ) → k < count → names k ≡ slice_index_or (map (λ (f : Function). f.name) (functions c names 0 count)) k []
name_there c names count k h = let e : 0 + k ≡ k = omega arith in sym (names_from c names 0 count k h ∙ ap names e)
