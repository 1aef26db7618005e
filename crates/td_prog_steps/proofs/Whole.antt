-- The whole program, on memory that stays. Cited by other crates.
use Rattle.std.proofs.Common.{◌≡◌, ℕ, zero, suc, ◌+◌, ◌-◌, ◌*◌, ◌^◌, ◌<◌, ◌≤◌, cond, List, [], length, slice_index, replicate, refl, sym, ap, ◌∙◌, subst, arith}
use Rattle.std.specs.Prelude.{nat_eq}
use Rattle.td_num.specs.Numbers.{places_from}
use Rattle.td_num.specs.Lists.{Each}
use Rattle.std.proofs.lemmas.List.{length-map}
use Rattle.td_num.proofs.Lists.{each_append, index_places}
use Rattle.td_num.proofs.Truths.{eq_is}
use Rattle.td_num.proofs.Equals.{below_other}
use Rattle.td_ir.specs.declared.tables.Parts.{Parts}
use Rattle.td_ir.specs.Tables.{routine_of, lengths_of, first_of}
use Rattle.td_ir.specs.State.{Exit}
use Rattle.td_ir.specs.Run.{block, run_routine}
use Rattle.td_ir.specs.Run as ir
use Rattle.td_ir.proofs.Begins.{begin_up}
use Rattle.std.specs.Prelude.{slice_get, Some, Option}
use Rattle.td_prog.specs.Tree.{Tree}
use Rattle.td_prog.specs.Syntax.{Function}
use Rattle.td_prog.specs.Values.{Locals}
use Rattle.td_prog.specs.Means.{Out, Helpers, Routines, nowhere, given, block_means}
use Rattle.td_prog.specs.Run.{entered, routines_over, started, run_from}
use Rattle.td_prog_code.specs.Program.{body, function, functions}
use Rattle.td_prog_trees.specs.Memory.{HasHeld}
use Rattle.td_prog_trees.specs.Readers.{IsReader}
use Rattle.td_prog_trees.specs.Agree.{Numbering, reached, Basis, Extent, IsWithin, called_at, IsKept, state_of, IsGood, Agrees}
use Rattle.td_prog_steps.specs.Laid.{IsWellLaid, OwnFits}
use Rattle.td_prog_steps.specs.Laws.{ProgramAgrees, basis_of}
use Rattle.td_prog_trees.proofs.Composing.{by_cases}
use Rattle.td_prog_steps.proofs.Activation.{Activation, IsActive}
use Rattle.td_prog_steps.proofs.Blocks.{body_right}

zeros_small : (k : ℕ) → Each (λ v. v < 2 ^ 64) (replicate k 0)
zeros_small zero = tt
zeros_small (suc k) = (omega arith, zeros_small k)

-- what a callee needs of its caller's variables
record IsCaller (numbering : Numbering) (memory : ℕ → ℕ) (basis : Basis) (s : Locals) : Type 0 where
  within : s.pos ≤ s.end
  short : s.end ≤ length basis.message
  ahead : s.next ≤ reached numbering.word s.pos
  held : HasHeld memory s
  cells : Each (λ v. v < 2 ^ 64) s.cells
  kept : IsKept basis s.cells s.buffers

good_caller : (extent : Extent) (s : Locals) → IsWithin extent → IsGood extent s → IsCaller extent.numbering extent.memory extent.basis s
good_caller extent s within g = record {
  within = g.within;
  short = omega (arith, within.inside, g.window, g.short);
  ahead = g.ahead;
  held = g.held;
  cells = g.cells;
  kept = g.kept;
}

-- a function's first variables
good_opened : (extent : Extent) (registers : ℕ) (args : List ℕ) (s : Locals) → Each (λ v. v < 2 ^ 64) args → IsCaller extent.numbering extent.memory extent.basis s
    → IsGood (called_at extent s) (record (entered registers args s) { start = s.pos; outer = s.end })
good_opened extent registers args s small g = record {
  begun = omega arith;
  started = omega arith;
  within = g.within;
  window = omega arith;
  short = omega arith;
  ahead = g.ahead;
  held = g.held;
  regs = each_append (λ v. v < 2 ^ 64) args (replicate (registers - length args) 0) small (zeros_small (registers - length args));
  cells = g.cells;
  kept = g.kept;
}

-- the functions of routines
pub function_at : (c : Parts) (names : ℕ → List ℕ) (count first k : ℕ) → k < count
    → slice_get (functions c names first count) k ≡ Some (function c names (first + k))
function_at c names zero first k h = absurd (omega (arith, h))
function_at c names (suc count) first zero h = let e : first ≡ first + 0 = omega arith in ap (λ n. Some (function c names n)) e
function_at c names (suc count) first (suc k) h =
    let e : first + 1 + k ≡ first + suc k = omega arith in
    function_at c names count (first + 1) k (omega (arith, h)) ∙ ap (λ n. Some (function c names n)) e

function_count : (c : Parts) (names : ℕ → List ℕ) (count first : ℕ) → length (functions c names first count) ≡ count
function_count c names zero first = refl
function_count c names (suc count) first = ap suc (function_count c names count (first + 1))

module _ (numbering : Numbering) (memory : ℕ → ℕ) (basis : Basis) (c : Parts) (names : ℕ → List ℕ) (limit : ℕ) (helpers : Helpers)
    (reads : IsReader numbering memory basis limit helpers)
    (short : length basis.message < 2 ^ 32) (enough : length basis.message + 1 < limit) (laid : IsWellLaid c) where
  open basis use {message}

  -- the whole message
  abbrev extent : Extent
  extent = record { memory = memory; numbering = numbering; basis = basis; from = 0; to = length message }

  abbrev table : ℕ → Routines
  table k = routines_over helpers limit (functions c names 0 (length c.routines)) k

  -- the code's exit from a routine that is called with these variables
  abbrev exit : ℕ → (args places : List ℕ) → Locals → Exit
  exit m args places s = block c message m places (first_of c m) (ir.entered (routine_of c m) args (state_of s))

  -- the functions of routines below k do what the routines do
  abbrev Calls : ℕ → Type 0
  Calls k =
      (m : ℕ) → m < k → (args places own : List ℕ) (s : Locals) → OwnFits c basis m places own → IsCaller numbering memory basis s → Each (λ v. v < 2 ^ 64) args →
      Agrees (called_at extent s) s.next (table k m args places own s) (exit m args places s)

  -- routine k, where those below it do what they should
  one : (k : ℕ) → k < length c.routines → Calls k → (args places own : List ℕ) (s : Locals) → OwnFits c basis k places own → IsCaller numbering memory basis s
      → Each (λ v. v < 2 ^ 64) args
      → Agrees (called_at extent s) s.next
      ((block_means limit helpers (table k) places own (body c k) nowhere []).0 (entered (routine_of c k).registers args s))
      (exit k args places s)
  one k l ih args places own s fit g small =
      body_right activation is (laid.divided k l) (begin_up (lengths_of c) k (suc k) (omega arith)) (laid.laid message places k l) (laid.some k l)
      (entered (routine_of c k).registers args s) (good_opened extent (routine_of c k).registers args s small g)
    where
      activation : Activation
      activation = record { extent = called_at extent s; code = c; number = k; places = places; own = own; limit = limit; helpers = helpers; routines = table k }

      inside : IsWithin (called_at extent s)
      inside = record { short = short; inside = g.short }

      is : IsActive activation
      is = record {
        within = inside;
        reads = reads;
        enough = enough;
        fits = fit;
        below = λ m h args places own u fits v sm. ih m h args places own u fits (good_caller (called_at extent s) u inside v) sm;
      }

  calls_right : (k : ℕ) → k ≤ length c.routines → Calls k
  calls_right zero l m h args places own s fit g small = absurd (omega (arith, h))
  calls_right (suc k) l m h args places own s fit g small =
      by_cases (λ b. Agrees (called_at extent s) s.next (cond b (called (slice_get (functions c names 0 (length c.routines)) k)) (table k m args places own s))
      (exit m args places s)) (nat_eq m k)
      (λ e.
      subst (λ o. Agrees (called_at extent s) s.next (called o) (exit m args places s)) (sym there)
      (subst (λ j. Agrees (called_at extent s) s.next (called (Some (function c names k))) (exit j args places s)) (sym (eq_is m k e))
      (one k l (calls_right k (omega (arith, l))) args places own s (subst (λ j. OwnFits c basis j places own) (eq_is m k e) fit) g small)))
      (λ e. calls_right k (omega (arith, l)) m (below_other m k h e) args places own s fit g small)
    where
      called : Option Function → Tree Out
      called o = given o (λ f. (block_means limit helpers (table k) places own f.body nowhere []).0 (entered f.registers args s))

      there : slice_get (functions c names 0 (length c.routines)) k ≡ Some (function c names k)
      there = function_at c names (length c.routines) 0 k (omega (arith, l)) ∙ (let e : 0 + k ≡ k = omega arith in ap (λ n. Some (function c names n)) e)

  run_right : (n : ℕ) → n < length c.routines → (args cells : List ℕ) (buffers : List (List ℕ)) → IsKept basis cells buffers
      → basis.lengths ≡ (routine_of c n).buffers → basis.first ≡ (routine_of c n).cells
      → Each (λ v. v < 2 ^ 64) args → Each (λ v. v < 2 ^ 64) cells
      → Agrees extent 0 (run_from (table (length (functions c names 0 (length c.routines)))) n (length message) args cells buffers)
      (run_routine c n args cells message)
  run_right n l args cells buffers kept same front sa sc =
      let s = started (length message) cells buffers in
      subst (λ k. Agrees extent 0 (table k n args (places_from 0 (length cells)) (places_from 0 (length buffers)) s) (run_routine c n args cells message))
      (sym (function_count c names (length c.routines) 0))
      (calls_right (length c.routines) (omega arith) n l args (places_from 0 (length cells)) (places_from 0 (length buffers)) s own_fits
      (record { within = omega arith; short = omega arith; ahead = omega arith; held = λ w e. absurd (omega (arith, e)); cells = sc; kept = kept }) sa)
    where
      rooms_count : length basis.lengths ≡ length (routine_of c n).buffers
      rooms_count = ap (λ (xs : List ℕ). length xs) same

      buffer_count : length buffers ≡ length basis.lengths
      buffer_count = let e = length-map buffers length in sym e ∙ ap (λ (xs : List ℕ). length xs) kept.lengths

      own_at : (b : ℕ) → b < length (routine_of c n).buffers → slice_index (places_from 0 (length buffers)) b ≡ b
      own_at b h = index_places (length buffers) b 0 (omega (arith, h, rooms_count, buffer_count)) ∙ omega arith

      place_at : (k : ℕ) → k < length cells → slice_index (places_from 0 (length cells)) k ≡ k
      place_at k h = index_places (length cells) k 0 h ∙ omega arith

      own_fits : OwnFits c basis n (places_from 0 (length cells)) (places_from 0 (length buffers))
      own_fits = record {
        rooms = λ b h. ap (slice_index basis.lengths) (own_at b h) ∙ ap (λ xs. slice_index xs b) same;
        there = λ b h. let e = own_at b h in omega (arith, e, h, rooms_count);
        cells = λ k h. let m = kept.many in let e = place_at k (omega (arith, h, front, m)) in omega (arith, e, h, front);
        place = λ b h. let m = kept.many in let e = own_at b h in place_at ((routine_of c n).cells + 2 * b) (omega (arith, h, front, m, rooms_count))
            ∙ omega (arith, e, front);
        count = λ b h. let m = kept.many in let e = own_at b h in place_at ((routine_of c n).cells + 2 * b + 1) (omega (arith, h, front, m, rooms_count))
            ∙ omega (arith, e, front);
      }

pub program_agrees : ProgramAgrees
program_agrees numbering memory c names helpers message limit n args cells buffers reads short enough laid there rooms kept small small_cells =
    run_right numbering memory (basis_of c n message buffers) c names limit helpers reads short enough laid n there args cells buffers kept rooms refl
    small small_cells
