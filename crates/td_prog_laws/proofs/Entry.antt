-- What the caller of an entry point is told, by the program's end.
use Rattle.std.proofs.Common.{◌≡◌, ℕ, zero, suc, ◌+◌, ◌-◌, ◌*◌, ◌%◌, ◌^◌, ◌<◌, ◌≤◌, true, false, cond, List, [], ◌∷◌, ◌++◌, length, length-take, map, Some, None, refl, sym, ap, ◌∙◌, subst, arith, take, drop, replicate}
use Rattle.std.specs.Prelude.{nat_eq, nat_lt, slice_index}
use Rattle.std.proofs.lemmas.Bool.{ne_eqb, lt-ltb}
use Rattle.std.proofs.lemmas.List.{length-map}
use Rattle.std.proofs.Math.Nat.{mod-eq_of_lt}
use Rattle.td_num.specs.Lists.{Each}
use Rattle.td_num.specs.Numbers.{places_from}
use Rattle.td_num.proofs.Lists.{each_index}
use Rattle.td_core.specs.declared.outcome.Reason.{Reason}
use Rattle.td_core.specs.declared.outcome.TraceFrame.{TraceFrame}
use Rattle.td_core.specs.Outcome.{copies_by}
use Rattle.td_stream.specs.declared.load.Load.{Load}
use Rattle.td_stream.specs.Layouts.{length_in}
use Rattle.td_ir.specs.declared.tables.Routine.{Routine}
use Rattle.td_ir.specs.declared.tables.EntryPoint.{EntryPoint}
use Rattle.td_ir.specs.Tables.{no_routine, entry_of}
use Rattle.td_ir.specs.Entries.{opened_by}
use Rattle.td_ir.specs.State.{Way, Returned, Turned, Failed, Stuck}
use Rattle.td_ir.specs.Run as ir
use Rattle.td_verify_runs.specs.Laws.{RunStaysWithin}
use Rattle.td_prog.specs.Tree.{Tree, Done, Loads, bind, Plays}
use Rattle.td_prog.specs.Means.{Out, Gave, Refused, Undefined}
use Rattle.td_prog.specs.Run.{run}
use Rattle.td_prog.specs.Pieces.{run_in}
use Rattle.td_prog_code.specs.Program.{program}
use Rattle.td_prog_code.specs.Sentence.{held, IsEnd, ProgramRuns}
use Rattle.td_prog_code.specs.PartsPrelude.{parts_program}
use Rattle.td_prog_code.specs.PartsSentence.{ProgramRunsInParts}
use Rattle.td_prog_code.specs.PartsEntry.{too_long, EntryRunsInParts}
use Rattle.td_prog_code.specs.Entry.{CallerBuffer, CallerOutcome, Caller, Answered, Lost, narrowed, counted, emptied, answer_to, bytes_of, IsTold, EntryRuns}
use Rattle.td_prog_laws.specs.Frames.{FewFrames}

-- a play that ends with a function of an answer
record IsAfter {X Y : Type 0} (t : Tree X) (g : X → Y) (loads : List Load) (y : Y) : Type 0 where
  first : X
  plays : Plays t loads first
  is : g first ≡ y

plays_bind : {X Y : Type 0} (t : Tree X) (g : X → Y) (loads : List Load) (y : Y) → Plays (bind t (λ x. Done (g x))) loads y → IsAfter t g loads y
plays_bind (Done x) g [] y h = record { first = x; plays = refl; is = h }
plays_bind (Done x) g (l ∷ loads) y h = absurd h
plays_bind (Loads word k) g [] y h = absurd h
plays_bind (Loads word k) g (l ∷ loads) y h = let r = plays_bind (k l.value) g loads y h.1 in record { first = r.first; plays = (h.0, r.plays); is = r.is }

-- the first of a list of lists, and the others
abbrev first_of : List (List ℕ) → List ℕ
first_of [] = []
first_of (x ∷ xs) = x

abbrev others_of : List (List ℕ) → List (List ℕ)
others_of [] = []
others_of (x ∷ xs) = xs

-- buffers of rooms below 2^32
abbrev AreSmall : List (List ℕ) → Type 0
AreSmall buffers = Each (λ (bytes : List ℕ). length bytes < 2 ^ 32) buffers

count_small : (count : ℕ) (bytes message places : List ℕ) → length bytes < 2 ^ 32 → length places ≡ count → take count bytes ≡ map (slice_index message) places → count < 2 ^ 32
count_small count bytes message places h l e =
    let a = length-take count bytes in
    let b = length-map places (slice_index message) in
    let c : length (take count bytes) ≡ length (map (slice_index message) places) = ap (λ (xs : List ℕ). length xs) e in
    omega (arith, h, l, a, b, c)

count_of_places : (p n : ℕ) → length (places_from p n) ≡ n
count_of_places p zero = refl
count_of_places p (suc n) = ap suc (count_of_places (p + 1) n)

counted_held : (message ds : List ℕ) (bs : List (List ℕ)) → AreSmall bs → held ds bs ≡ copies_by message ds → map (λ (b : CallerBuffer). take b.count b.bytes) (counted ds bs) ≡ held ds bs
counted_held message [] bs s e = refl
counted_held message (p ∷ []) bs s e = refl
counted_held message (p ∷ q ∷ ds) [] s e = refl
counted_held message (p ∷ q ∷ ds) (x ∷ bs) s e =
    let front : take q x ≡ map (slice_index message) (places_from p q) = ap first_of e in
    let small : q < 2 ^ 32 = count_small q x message (places_from p q) s.0 (count_of_places p q) front in
    let same : q % 2 ^ 32 ≡ q = mod-eq_of_lt small in
    let more : held ds bs ≡ copies_by message ds = ap others_of e in
    (λ i. take (same i) x ∷ counted_held message ds bs s.1 more i)

no_counts : (bs : List (List ℕ)) → Each (λ (b : CallerBuffer). b.count ≡ 0) (emptied bs)
no_counts [] = tt
no_counts (x ∷ bs) = (refl, no_counts bs)

small_by : (bs : List (List ℕ)) (rooms : List ℕ) → Each (λ v. v < 2 ^ 32) rooms → map length bs ≡ rooms → AreSmall bs
small_by bs rooms h e = spread bs (subst (Each (λ v. v < 2 ^ 32)) (sym e) h)
  where
    spread : (bs : List (List ℕ)) → Each (λ v. v < 2 ^ 32) (map length bs) → AreSmall bs
    spread [] h = tt
    spread (x ∷ bs) h = (h.0, spread bs h.1)

module _ (e : EntryPoint) (before : Caller) (message rooms : List ℕ) (short : length message < 2 ^ 32) (small : Each (λ v. v < 2 ^ 32) rooms) where
  told : (out : Out) (w : Way) → ((pos : ℕ) (cells : List ℕ) → w ≡ Returned pos cells → pos ≤ length message)
      → ((reason : Reason) (pos : ℕ) (trace : List TraceFrame) (cells : List ℕ) → w ≡ Failed reason pos trace cells → length trace ≤ 32)
      → IsEnd (length e.cells) rooms message out w → IsTold e before message (answer_to e before out) w
  told (Gave v s) (Returned pos cells) stays few h =
      let within = stays pos cells refl in
      let is : v ≡ pos = h.0 in
      let else : nat_eq v (2 ^ 64 - 1) ≡ false = ne_eqb v (2 ^ 64 - 1) (λ q. omega (arith, within, is, short, q)) in
      let n = length e.cells in
      let now : Caller = record { cells = narrowed e.cells s.cells; buffers = counted (drop n s.cells) s.buffers; outcome = record { reason = None; position = v % 2 ^ 32; frames = [] } } in
      let low : pos < 2 ^ 32 = omega (arith, within, short) in
      let same : pos % 2 ^ 32 ≡ pos = mod-eq_of_lt low in
      let cut : v % 2 ^ 32 ≡ pos = ap (λ p. p % 2 ^ 32) is ∙ same in
      let holds : held (drop n s.cells) s.buffers ≡ copies_by message (drop n cells) = h.3 in
      let own : held (drop n s.cells) s.buffers ≡ copies_by message (drop n s.cells) = holds ∙ ap (λ cs. copies_by message (drop n cs)) (sym h.1) in
      subst (λ b. IsTold e before message (cond b Lost (Answered true now)) (Returned pos cells)) (sym else) (
        refl,
        ap (λ p. outcome_at p) cut,
        ap (narrowed e.cells) h.1,
        counted_held message (drop n s.cells) s.buffers (small_by s.buffers rooms small h.2) own ∙ holds,
      )
    where
      outcome_at : ℕ → CallerOutcome
      outcome_at p = record { reason = None; position = p; frames = [] }
  told (Gave v s) (Turned t) stays few h = absurd h
  told (Gave v s) (Failed reason pos trace cells) stays few h = absurd h
  told (Gave v s) Stuck stays few h = absurd h
  told (Refused reason pos trace s) (Returned pos' cells) stays few h = absurd h
  told (Refused reason pos trace s) (Turned t) stays few h = absurd h
  told (Refused reason pos trace s) (Failed reason' pos' trace' cells) stays few h =
      let all : take 32 trace' ≡ trace' = take_all 32 trace' (few reason' pos' trace' cells refl) in
      let frames : trace ≡ trace' = h.2 ∙ all in
      (refl, (λ i. record { reason = Some (h.0 i); position = h.1 i; frames = frames i }), refl, no_counts s.buffers)
    where
      take_all : {A : Type 0} (n : ℕ) (xs : List A) → length xs ≤ n → take n xs ≡ xs
      take_all zero [] l = refl
      take_all zero (x ∷ xs) l = absurd (omega (arith, l))
      take_all (suc n) [] l = refl
      take_all (suc n) (x ∷ xs) l = ap (λ ys. x ∷ ys) (take_all n xs (omega (arith, l)))
  told (Refused reason pos trace s) Stuck stays few h = absurd h
  told Undefined w stays few h = absurd h

pub entry_runs : ProgramRuns → RunStaysWithin → FewFrames → EntryRuns
entry_runs runs stays few c names entry size most args before loads answer code sound numbers fits short big rooms plays values =
    let k = entry.number in
    let e = entry_of c k in
    let is = code.entries k fits.there in
    let opened : before.cells ++ replicate (2 * length e.buffers) 0 ≡ opened_by c entry before.cells = ap (λ n. before.cells ++ replicate (2 * n) 0) is.buffer_count in
    let r = plays_bind (run most (program c names) e.routine size args (before.cells ++ replicate (2 * length e.buffers) 0) (bytes_of before.buffers)) (answer_to e before) loads answer plays in
    let p = subst (λ cs. Plays (run most (program c names) e.routine size args cs (bytes_of before.buffers)) loads r.first) opened r.plays in
    let q = runs c names entry size most args before.cells (bytes_of before.buffers) loads r.first code sound numbers fits short big rooms p values in
    let room : Each (λ v. v < 2 ^ 32) (map length (bytes_of before.buffers)) =
    subst (Each (λ v. v < 2 ^ 32)) (sym rooms) (each_index (λ (x : Routine). Each (λ v. v < 2 ^ 32) x.buffers) c.routines no_routine e.routine numbers.rooms is.there) in
    record {
      rising = q.rising;
      inside = q.inside;
      holds = λ b carries bytes.
          let h = q.holds b carries bytes in
          let size_is : length b ≡ size = (let z = carries.size in omega (arith, z)) in
          let long : length b < 2 ^ 32 = omega (arith, size_is, short) in
          let w = (ir.run c entry args (opened_by c entry before.cells) b).way in (
            subst (λ a. IsTold e before b a w) r.is
                (told e before b (map length (bytes_of before.buffers)) long room r.first w (λ pos cells z. stays c e.routine args (opened_by c entry before.cells) b pos cells code sound is.there z)
                (λ reason pos trace cells z. few c entry args (opened_by c entry before.cells) b reason pos trace cells code sound fits.there z)
                (subst (λ n. IsEnd n (map length (bytes_of before.buffers)) b r.first w) fits.cell_count h.0)),
            h.1,
          );
    }

pub entry_runs_in_parts : ProgramRunsInParts → RunStaysWithin → FewFrames → EntryRunsInParts
entry_runs_in_parts runs stays few c names entry layout most args before loads answer code sound numbers fits short big rooms plays values =
    let k = entry.number in
    let e = entry_of c k in
    let is = code.entries k fits.there in
    let opened : before.cells ++ replicate (2 * length e.buffers) 0 ≡ opened_by c entry before.cells = ap (λ n. before.cells ++ replicate (2 * n) 0) is.buffer_count in
    let whole = bind (run_in layout most (parts_program c names) e.routine args (before.cells ++ replicate (2 * length e.buffers) 0) (bytes_of before.buffers)) (λ out. Done (answer_to e before out)) in
    let fit : nat_lt (length_in layout) (2 ^ 32) ≡ true = lt-ltb (length_in layout) (2 ^ 32) short in
    let called : Plays whole loads answer = subst (λ b. Plays (cond b whole (Done (too_long before))) loads answer) fit plays in
    let r = plays_bind (run_in layout most (parts_program c names) e.routine args (before.cells ++ replicate (2 * length e.buffers) 0) (bytes_of before.buffers)) (answer_to e before) loads answer called in
    let p = subst (λ cs. Plays (run_in layout most (parts_program c names) e.routine args cs (bytes_of before.buffers)) loads r.first) opened r.plays in
    let q = runs c names entry layout most args before.cells (bytes_of before.buffers) loads r.first code sound numbers fits short big rooms p values in
    let room : Each (λ v. v < 2 ^ 32) (map length (bytes_of before.buffers)) =
    subst (Each (λ v. v < 2 ^ 32)) (sym rooms) (each_index (λ (x : Routine). Each (λ v. v < 2 ^ 32) x.buffers) c.routines no_routine e.routine numbers.rooms is.there) in
    record {
      rising = q.rising;
      inside = q.inside;
      holds = λ b carries bytes.
          let h = q.holds b carries bytes in
          let size_is = carries.size in
          let long : length b < 2 ^ 32 = omega (arith, size_is, short) in
          let w = (ir.run c entry args (opened_by c entry before.cells) b).way in (
            subst (λ a. IsTold e before b a w) r.is
                (told e before b (map length (bytes_of before.buffers)) long room r.first w (λ pos cells z. stays c e.routine args (opened_by c entry before.cells) b pos cells code sound is.there z)
                (λ reason pos trace cells z. few c entry args (opened_by c entry before.cells) b reason pos trace cells code sound fits.there z)
                (subst (λ n. IsEnd n (map length (bytes_of before.buffers)) b r.first w) fits.cell_count h.0)),
            h.1,
          );
    }
