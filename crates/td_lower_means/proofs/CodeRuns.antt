-- A module's code, in its places, does what the module means.
use Rattle.std.proofs.Common.{◌≡◌, ℕ, zero, suc, ◌+◌, ◌-◌, ◌<◌, ◌≤◌, ◌^◌, Bool, true, false, cond, List, ◌++◌, length, map, replicate, refl, sym, ap, ◌∙◌, subst, arith, nat_eq, slice_index, slice_get, Option, Some, None}
use Rattle.std.proofs.lemmas.List.{get_or_append_left, length-append, length-replicate}
use Rattle.std.proofs.lemmas.Option.{slice_get-get_or}
use Rattle.std.proofs.lemmas.Bool.{eqb-true, false≢true}
use Rattle.td_num.specs.Numbers.{places_from}
use Rattle.td_lower_means.specs.Imports.{TypeDef, Module, Parts}
use Rattle.td_expr.specs.Sound.{Sound}
use Rattle.td_meaning.specs.Meaning.{below, pick, entry_place, meaning, definition_meaning}
use Rattle.td_meaning.specs.Copies.{opened}
use Rattle.td_meaning.specs.Throughout.{OnDefinition, through_below, pick_through}
use Rattle.td_ir.specs.declared.tables.Routine.{Routine}
use Rattle.td_ir.specs.WellFormed.{IsCode}
use Rattle.td_ir.specs.Tables.{routine_of, cells_by, lengths_of, first_of, end_of, entry_of}
use Rattle.td_ir.specs.State.{State, registers_from}
use Rattle.td_ir.specs.Run as run
use Rattle.td_ir.specs.Entries.{opened_by}
use Rattle.td_ir.proofs.Begins.{begin_next, begin_up}
use Rattle.td_lower_blocks.specs.Block.{size}
use Rattle.td_lower_blocks.specs.Lowered.{definition_block, block_of, first_site}
use Rattle.td_lower_blocks.specs.Placed.{OptionExpr, BodyPlaced, HasPlaced, ArePlaced, params_of, count_of}
use Rattle.td_lower_blocks.specs.Tabled.{IsTabled, DefinitionSited}
use Rattle.td_lower_blocks.specs.Laid.{IsLaid}
use Rattle.td_lower_means.proofs.BlockRun.{Passage, passage, Calling, ran, nowhere, passage_of}
use Rattle.td_lower_means.specs.CodeRun.{CodeMeans}
use Rattle.td_lower_means.proofs.Definitions.{guard_runs}
use Rattle.td_lower_means.proofs.Laid.{stands_run}
use Rattle.td_lower_means.proofs.Forming.{block_forms, block_ends}
use Rattle.td_lower_means.proofs.Opening.{opened_same}

less_of : (n d : ℕ) → d < suc n → nat_eq d n ≡ false → d < n
less_of n d h e = grind arith

module _ (T : Parts) (units : ℕ → ℕ) (m : Module) (message : List ℕ) (code : IsCode T) (laid : IsLaid T units m) (tabled : IsTabled T m) (placed : ArePlaced T units m) where
  abbrev ds : List TypeDef
  ds = m.definitions

  -- routine d of those below n, from its first instruction on
  abbrev entering : ℕ → ℕ → List ℕ → List ℕ → State → Passage
  entering n d places args u = passage (run.below T message n d places (run.entered (routine_of T d) args u))

  abbrev Runs : ℕ → Type 0
  Runs n = (d : ℕ) → d < n → (places args : List ℕ) (u : State) → u.end < 2 ^ 32 → length args ≡ params_of ds d → through_below Sound m.listed ds n d args places u.cells message u.pos u.end
      → entering n d places args u ≡ passage_of (below m.listed ds n d args places u.cells message u.pos u.end)

  abbrev callees : ℕ → List ℕ → Calling
  callees n places first k w u = passage (run.calls_of T message n places first k w u)

  -- one definition's block
  one_runs : (n : ℕ) → n ≤ length ds → Runs n → (o : Option TypeDef) (first : ℕ) → DefinitionSited T n first o → (r : Routine) (t : ℕ) → HasPlaced ds n r.registers t o → (places args : List ℕ) (u : State) → u.end < 2 ^ 32 → length args ≡ count_of o
      → OnDefinition Sound m.listed (below m.listed ds n) (through_below Sound m.listed ds n) o args places u.cells message u.pos u.end
      → ran T n message places (callees n places) (definition_block first t o) nowhere nowhere (run.entered r args u)
      ≡ passage_of (definition_meaning m.listed (below m.listed ds n) o args places u.cells message u.pos u.end)
  one_runs n room ih None first sd r t x places args u small count on = absurd x
  one_runs n room ih (Some d) first sd r t x places args u small count on =
      let R = r.registers in
      let regs = args ++ replicate (R - length args) 0 in
      let size : length regs ≡ R = length-append args (replicate (R - length args) 0) ∙ ap (λ z. length args + z) (length-replicate (R - length args) 0) ∙ omega (arith, count, x.levels, x.room) in
      guard_runs T n message places (callees n places) t t (omega arith) m.listed (below m.listed ds n) (through_below Sound m.listed ds n) d.name n (params_of ds) tabled.listed
      (λ k first w s vs low less same here th.
      let many : (routine_of T k).params ≡ length vs = laid.params k (omega (arith, less, room)) ∙ same in
      ap (λ z. entering n k (run.places_by places (cells_by T n k w)) z s) (ap (registers_from s.regs first) many ∙ here)
      ∙ ih k less (map (slice_index places) (cells_by T n k w)) vs s low (sym same) th)
      d.guard d.body first (first + 1) (first + 2) (length d.params) args regs u.cells u.pos u.end u.end nowhere nowhere small sd.0 sd.1 count x.levels (omega (arith, x.room, size))
      (subst (λ z. OptionExpr z (length d.params) (suc t) d.guard) (sym size) x.guard)
      (subst (λ z. BodyPlaced n (params_of ds) z t (length d.params) t d.body) (sym size) x.inside)
      (λ j l. get_or_append_left args (replicate (R - length args) 0) 0 j l)
      on.0 on.1

  -- the routine in its place
  routine_runs : (n : ℕ) → n < length ds → (places : List ℕ) (s : State)
      → passage (run.block T message n places (first_of T n) s) ≡ ran T n message places (callees n places) (block_of units ds n) nowhere nowhere s
  routine_runs n less places s =
      let b = block_of units ds n in
      let within : end_of T n ≤ length T.instructions =
      subst (λ z. end_of T n ≤ z) code.whole (begin_up (lengths_of T) (suc n) (length T.routines) (omega (arith, less, laid.count))) in
      let here : end_of T n ≡ first_of T n + size b = begin_next T n ∙ ap (λ z. first_of T n + z) (laid.sizes n less) in
      stands_run T message places n within b (first_of T n) 0 false true nowhere nowhere (laid.stands n less) (block_forms (first_site ds n) (units n) (slice_get ds n))
      (record {
        whole = omega (arith, here);
        near = λ e. absurd (false≢true e);
        inside = λ e. absurd (false≢true e);
        out = λ e. absurd (false≢true e);
        over = λ e. block_ends (first_site ds n) (units n) (slice_get ds n);
        more = λ e. absurd (false≢true (sym e));
        on = λ e. absurd (false≢true (sym e));
      }) s

  all_run : (n : ℕ) → n ≤ length ds → Runs n
  unfolding below through_below
  all_run zero le d h places args u small count on = absurd (omega (arith, h))
  all_run (suc n) le d h places args u small count on = by (all_run n (omega (arith, le))) (nat_eq d n) refl on
    where
      by : Runs n → (b : Bool) → nat_eq d n ≡ b
          → pick_through Sound b (OnDefinition Sound m.listed (below m.listed ds n) (through_below Sound m.listed ds n) (slice_get ds n)) (through_below Sound m.listed ds n d) args places u.cells message u.pos u.end
          → passage (cond b (run.block T message n places (first_of T n) (run.entered (routine_of T d) args u)) (run.below T message n d places (run.entered (routine_of T d) args u)))
          ≡ passage_of (pick b (definition_meaning m.listed (below m.listed ds n) (slice_get ds n)) (below m.listed ds n d) args places u.cells message u.pos u.end)
      by ih true e on =
          let q = eqb-true d n e in
          let less : n < length ds = omega (arith, le) in
          ap (λ z. passage (run.block T message n places (first_of T n) (run.entered (routine_of T z) args u))) q
          ∙ routine_runs n less places (run.entered (routine_of T n) args u)
          ∙ one_runs n (omega (arith, le)) ih (slice_get ds n) (first_site ds n) (tabled.sited n less) (routine_of T n) (units n) (placed n less) places args u small (count ∙ ap (params_of ds) q) on
      by ih false e on = ih d (less_of n d h e) places args u small count on

  -- a routine run from outside
  outside : (d : ℕ) → d < length ds → (args cells : List ℕ) → length message < 2 ^ 32 → length args ≡ params_of ds d
      → through_below Sound m.listed ds (length ds) d args (places_from 0 (length cells)) cells message 0 (length message)
      → passage (run.run_routine T d args cells message) ≡ passage_of (below m.listed ds (length ds) d args (places_from 0 (length cells)) cells message 0 (length message))
  outside d less args cells small count on =
      all_at d less (places_from 0 (length cells)) args (run.started cells message) small count on
    where
      all_at : (d : ℕ) → d < length ds → (places args : List ℕ) (u : State) → u.end < 2 ^ 32 → length args ≡ params_of ds d → through_below Sound m.listed ds (length ds) d args places u.cells message u.pos u.end
          → passage (run.block T message d places (first_of T d) (run.entered (routine_of T d) args u)) ≡ passage_of (below m.listed ds (length ds) d args places u.cells message u.pos u.end)
      all_at d less places args u small count on =
          same (length ds) d less ∙ all_run (length ds) (omega arith) d less places args u small count on
        where
          same : (k d : ℕ) → d < k → passage (run.block T message d places (first_of T d) (run.entered (routine_of T d) args u)) ≡ entering k d places args u
          same zero d h = absurd (omega (arith, h))
          same (suc k) d h = by (λ l. same k d l) (nat_eq d k) refl
            where
              by : (d < k → passage (run.block T message d places (first_of T d) (run.entered (routine_of T d) args u)) ≡ entering k d places args u) → (b : Bool) → nat_eq d k ≡ b
                  → passage (run.block T message d places (first_of T d) (run.entered (routine_of T d) args u))
                  ≡ passage (cond b (run.block T message k places (first_of T k) (run.entered (routine_of T d) args u)) (run.below T message k d places (run.entered (routine_of T d) args u)))
              by next true e = ap (λ z. passage (run.block T message z places (first_of T z) (run.entered (routine_of T d) args u))) (eqb-true d k e)
              by next false e = next (less_of k d h e)

pub code_means : CodeMeans
code_means T m entry args cells message of fits small on =
    let ds = m.definitions in
    let all = opened m entry cells in
    let n = entry.number in
    let place = slice_index m.entries n in
    let e : slice_get m.entries n ≡ Some place = slice_get-get_or m.entries n 0 (omega (arith, fits.there, of.laid.entry_count)) in
    let routine : (entry_of T n).routine ≡ place = of.laid.entries n place e in
    let point = of.code.entries n fits.there in
    let less : place < length ds = omega (arith, point.there, routine, of.laid.count) in
    let many : length args ≡ params_of ds place = fits.arg_count ∙ point.param_count ∙ ap (λ z. (routine_of T z).params) routine ∙ of.laid.params place less in
    let at_entry : entry_place (slice_get m.entries n) (length ds) ≡ place = ap (λ o. entry_place o (length ds)) e in
    let same : passage (run.run T entry args (opened_by T entry cells) message) ≡ passage_of (meaning m entry args all message) =
    ap (λ xs. passage (run.run T entry args xs message)) (opened_same T of.units m entry cells of.code of.laid fits.there)
    ∙ ap (λ k. passage (run.run_routine T k args all message)) routine
    ∙ outside T of.units m message of.code of.laid of.tabled of.placed place less args all small many
    (subst (λ k. through_below Sound m.listed ds (length ds) k args (places_from 0 (length all)) all message 0 (length message)) at_entry on)
    ∙ ap (λ k. passage_of (below m.listed ds (length ds) k args (places_from 0 (length all)) all message 0 (length message))) (sym at_entry) in
    record { way = ap (λ p. p.way) same; touched = ap (λ p. p.touched) same }
