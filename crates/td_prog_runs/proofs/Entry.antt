-- The sentence, from entry points.
use Rattle.std.proofs.Common.{◌≡◌, ℕ, zero, suc, ◌+◌, ◌*◌, ◌/◌, ◌^◌, ◌<◌, ◌≤◌, List, [], ◌∷◌, length, length-append, map, take, drop, replicate, refl, sym, ap, ◌∙◌, subst, arith, slice_index}
use Rattle.std.specs.Prelude.{slice_index_or}
use Rattle.std.specs.List.{All}
use Rattle.std.proofs.lemmas.List.{get_or-append-add, get_or-drop, length-drop, length-replicate, length-map}
use Rattle.std.proofs.Math.Nat.{pow-le-pow_right}
use Rattle.td_num.specs.Numbers.{bytes_in, places_from}
use Rattle.td_num.specs.declared.number.Width.{Width}
use Rattle.td_num.specs.declared.number.Width.TheVariants.{One, Two, Four, Eight}
use Rattle.td_num.specs.Lists.{Each}
use Rattle.td_num.proofs.Lists.{each_at, each_by, each_append, index_zeros}
use Rattle.td_core.specs.declared.module.Entry.{Entry}
use Rattle.td_core.specs.declared.module.CellKind.{CellKind}
use Rattle.td_core.specs.declared.module.CellKind.TheVariants.{Number, Pointer}
use Rattle.td_core.specs.Outcome.{copies_by}
use Rattle.td_ir.specs.declared.instructions.Instr.TheVariants as i
use Rattle.td_ir.specs.declared.tables.Parts.{Parts}
use Rattle.td_ir.specs.Tables.{entry_of, routine_of, param_of, cell_of}
use Rattle.td_ir.specs.Entries.{Fits, cell_bits, opened_by, buffers_of}
use Rattle.td_ir.specs.WellFormed.{IsCode}
use Rattle.td_ir.specs.State.{Way, Returned, Turned, Failed, Stuck}
use Rattle.td_ir.specs.Run.{run_routine}
use Rattle.td_prog.specs.Means.{Out, Gave, Refused, Undefined}
use Rattle.td_prog.specs.Run.{free_run}
use Rattle.td_prog.specs.Pieces.{free_run_in}
use Rattle.td_prog_code.specs.Program.{program}
use Rattle.td_prog_code.specs.PartsPrelude.{parts_program}
use Rattle.td_stream.specs.declared.load.Load.{Load}
use Rattle.td_stream.specs.Layouts.{length_in, count_in}
use Rattle.td_stream.proofs.Plain.{plain_is}
use Rattle.td_prog_code.specs.Sentence.{held, IsEnd, rooms_of, HasNumber, HasNumbers, ProgramRuns}
use Rattle.td_prog_code.specs.PartsSentence.{ProgramRunsInParts}
use Rattle.td_prog_steps.specs.Laid.{AreNumbers}
use Rattle.td_prog_trees.specs.Agree.{Basis, IsKept}
use Rattle.td_prog_runs.specs.Theorem.{Start, IsStart, AreEmpty, IsLeftBy, way_on, SoundCodeInC, SoundCodeInParts}
use Rattle.td_prog_steps.specs.Laws.{basis_of}
use Rattle.td_prog_trees.specs.Laws.{StaysBelow}
use Rattle.td_prog_trees.proofs.Guarded.{unguarded}

zeros_small : (k : ℕ) → Each (λ v. v < 2 ^ 64) (replicate k 0)
zeros_small zero = tt
zeros_small (suc k) = (omega arith, zeros_small k)

numbers : (c : Parts) → HasNumbers c → AreNumbers c
numbers c h p into value e = each_at (HasNumber c) c.instructions p (i.Const into value) h.instructions e

width_small : (w : Width) → 8 * bytes_in w ≤ 64
width_small One = omega arith
width_small Two = omega arith
width_small Four = omega arith
width_small Eight = omega arith

kind_small : (k : CellKind) → cell_bits k ≤ 64
kind_small (Number w) = width_small w
kind_small Pointer = omega arith

power_small : (v k : ℕ) → v < 2 ^ k → k ≤ 64 → v < 2 ^ 64
power_small v k h l = let some : 0 < 2 = omega arith in let p : 2 ^ k ≤ 2 ^ 64 = pow-le-pow_right {n = 2} some l in omega (arith, h, p)

-- what buffers hold, by their cells
abbrev Hold : (message ds : List ℕ) → List (List ℕ) → Type 0
Hold message ds bs =
    (b : ℕ) → b < length bs → take (slice_index ds (2 * b + 1)) (slice_index_or bs b []) ≡ map (slice_index message)
    (places_from (slice_index ds (2 * b)) (slice_index ds (2 * b + 1)))

held_copies : (message ds : List ℕ) (bs : List (List ℕ)) → length ds ≡ 2 * length bs → Hold message ds bs → held ds bs ≡ copies_by message ds
held_copies message [] bs l h = refl
held_copies message (p ∷ []) bs l h = refl
held_copies message (p ∷ q ∷ ds) [] l h = absurd (omega (arith, l))
held_copies message (p ∷ q ∷ ds) (x ∷ bs) l h =
    (λ i. h 0 (omega arith) i ∷ held_copies message ds bs (omega (arith, l)) (λ b less.
    let e : 2 * suc b + 1 ≡ suc (suc (2 * b + 1)) = omega arith in
    let f : 2 * suc b ≡ suc (suc (2 * b)) = omega arith in
    (λ j. take (slice_index (p ∷ q ∷ ds) (sym e j)) (slice_index_or bs b [])) ∙ h (suc b) (omega (arith, less))
    ∙ (λ j. map (slice_index message) (places_from (slice_index (p ∷ q ∷ ds) (f j)) (slice_index (p ∷ q ∷ ds) (e j))))) i)

kept_copies : (basis : Basis) (cells : List ℕ) (bs : List (List ℕ)) → IsKept basis cells bs
    → held (drop basis.first cells) bs ≡ copies_by basis.message (drop basis.first cells)
kept_copies basis cells bs k =
    let count : length bs ≡ length basis.lengths =
    (let e = length-map bs length in let f = ap (λ (xs : List ℕ). length xs) k.lengths in omega (arith, e, f)) in
    let d = length-drop basis.first cells in
    let m = k.many in
    held_copies basis.message (drop basis.first cells) bs (omega (arith, d, m, count)) (λ b h.
    let at : (j : ℕ) → slice_index (drop basis.first cells) j ≡ slice_index cells (basis.first + j) = λ j. get_or-drop basis.first cells j 0 in
    let e : basis.first + (2 * b + 1) ≡ basis.first + 2 * b + 1 = omega arith in
    (λ z. take ((at (2 * b + 1) ∙ ap (slice_index cells) e) z) (slice_index_or bs b [])) ∙ k.copies b (omega (arith, h, count))
    ∙ (λ z. map (slice_index basis.message) (places_from (sym (at (2 * b)) z) (sym (at (2 * b + 1) ∙ ap (slice_index cells) e) z))))

ends : (basis : Basis) (y : Out) (w : Way) → IsLeftBy basis y w → IsEnd basis.first basis.lengths basis.message y w
ends basis (Gave v s) (Returned pos cells) h =
    (h.0, h.1, h.2.lengths, kept_copies basis s.cells s.buffers h.2 ∙ ap (λ cs. copies_by basis.message (drop basis.first cs)) h.1)
ends basis (Gave v s) (Turned t) h = h
ends basis (Gave v s) (Failed reason pos trace cells) h = h
ends basis (Gave v s) Stuck h = h
ends basis (Refused reason pos trace s) (Returned pos' cells) h = h
ends basis (Refused reason pos trace s) (Turned t) h = h
ends basis (Refused reason pos trace s) (Failed reason' pos' trace' cells) h = (h.0, h.1, h.2)
ends basis (Refused reason pos trace s) Stuck h = h
ends basis Undefined w h = absurd h

-- a run from an entry point: the routine's own cells are the entry point's, and buffers hold nothing
module _ (c : Parts) (names : ℕ → List ℕ) (entry : Entry) (size most : ℕ) (args cells : List ℕ) (buffers : List (List ℕ)) (code : IsCode c)
    (fits : Fits c entry args cells) where
  abbrev start : Start
  start = record {
    names = names;
    limit = most;
    routine = (entry_of c entry.number).routine;
    size = size;
    args = args;
    cells = opened_by c entry cells;
    buffers = buffers;
  }

  front : length cells ≡ (routine_of c (entry_of c entry.number).routine).cells
  front = fits.cell_count ∙ (code.entries entry.number fits.there).cell_count

  is_start : size < 2 ^ 32 → size + 1 < most → map length buffers ≡ rooms_of c entry → IsStart c start
  is_start short enough rooms =
      let e = entry_of c entry.number in
      let n = e.routine in
      let is = code.entries entry.number fits.there in
      let behind = length-append cells (replicate (2 * buffers_of c entry) 0) in
      let zeros = length-replicate {A = ℕ} (2 * buffers_of c entry) 0 in
      let sa = each_by (λ v. v < 2 ^ 64) args 0
      (λ k h. power_small (slice_index args k) (8 * bytes_in (param_of e.params k).width) (fits.args_fit k h) (width_small (param_of e.params k).width)) in
      let sc = each_append (λ v. v < 2 ^ 64) cells (replicate (2 * buffers_of c entry) 0)
      (each_by (λ v. v < 2 ^ 64) cells 0
      (λ k h. power_small (slice_index cells k) (cell_bits (cell_of e.cells k).kind) (fits.cells_fit k h) (kind_small (cell_of e.cells k).kind)))
      (zeros_small (2 * buffers_of c entry)) in
      let empty : AreEmpty (routine_of c n).cells (length (routine_of c n).buffers) (opened_by c entry cells) = λ b h.
      (let z : (routine_of c n).cells + 2 * b + 1 ≡ length cells + (2 * b + 1) = omega (arith, front) in ap (slice_index (opened_by c entry cells)) z)
      ∙ get_or-append-add cells (replicate (2 * buffers_of c entry) 0) (2 * b + 1) 0 ∙ index_zeros (2 * buffers_of c entry) (2 * b + 1) in
      record {
        there = is.there;
        short = short;
        enough = enough;
        rooms = rooms;
        many = omega (arith, behind, zeros, front);
        empty = empty;
        args = sa;
        cells = sc;
      }

  -- what is left, in the words of the sentence
  left_so : (b : List ℕ) (out : Out) → IsLeftBy (basis_of c (entry_of c entry.number).routine b buffers) out (way_on c start b)
      → IsEnd (length cells) (map length buffers) b out (way_on c start b)
  left_so b out h =
      subst (λ k. IsEnd k (map length buffers) b out (way_on c start b)) (sym front)
      (ends (basis_of c (entry_of c entry.number).routine b buffers) out (way_on c start b) h)

pub program_runs : SoundCodeInC → ProgramRuns
program_runs sound_code c names entry size most args cells buffers loads out code sound nums fits short enough rooms plays values =
    let begin = start c names entry size most args cells buffers code fits in
    let tree = free_run most (program c names) (entry_of c entry.number).routine size args (opened_by c entry cells) buffers in
    let runs = sound_code c begin code sound (numbers c nums) (is_start c names entry size most args cells buffers code fits short enough rooms) in
    let below : StaysBelow ((size + 7) / 8) tree = λ ls y q s. subst (λ k. All (λ (l : Load). l.word < k) ls) ((plain_is size).count)
    (runs ls y q s).inside in
    let r = runs loads out (unguarded ((size + 7) / 8) tree loads out below values plays) values in
    record {
      rising = r.rising;
      inside = r.inside;
      holds = λ b carries bytes.
          let q = r.holds b carries bytes in (left_so c names entry size most args cells buffers code fits b out q.0, q.1);
    }

pub program_runs_in_parts : SoundCodeInParts → ProgramRunsInParts
program_runs_in_parts sound_code c names entry layout most args cells buffers loads out code sound nums fits short enough rooms plays values =
    let size = length_in layout in
    let begin = start c names entry size most args cells buffers code fits in
    let tree = free_run_in layout most (parts_program c names) (entry_of c entry.number).routine args (opened_by c entry cells) buffers in
    let runs = sound_code c begin layout refl code sound (numbers c nums)
    (is_start c names entry size most args cells buffers code fits short enough rooms) in
    let below : StaysBelow (count_in layout) tree = λ ls y q s. (runs ls y q s).inside in
    let r = runs loads out (unguarded (count_in layout) tree loads out below values plays) values in
    record {
      rising = r.rising;
      inside = r.inside;
      holds = λ b carries bytes.
          let q = r.holds b carries bytes in (left_so c names entry size most args cells buffers code fits b out q.0, q.1);
    }
