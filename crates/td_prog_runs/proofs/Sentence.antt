-- The theorem, over memory that gives any words.
use Rattle.std.proofs.Common.{◌≡◌, ℕ, zero, suc, ◌+◌, ◌*◌, ◌/◌, ◌%◌, ◌^◌, ◌<◌, ◌⊎◌, inl, inr, Bool, true, false, cond, List, [], ◌∷◌, length, map, take, refl, sym, ap, ◌∙◌, subst, arith, slice_index}
use Rattle.std.specs.Prelude.{nat_eq, nat_lt, slice_index_or}
use Rattle.td_num.specs.Numbers.{places_from}
use Rattle.std.specs.List.{All, Contains, range_with_len}
use Rattle.std.proofs.lemmas.Bool.{ltb-true}
use Rattle.std.proofs.lemmas.Nat.{mod_below}
use Rattle.std.proofs.lemmas.List.Elements.{All-nil, All-cons, All-head, All-tail}
use Rattle.std.proofs.lemmas.List.FromFn.{length-map-range_with_len, get_or-map-range_with_len}
use Rattle.td_num.specs.Numbers.{byte_of}
use Rattle.td_num.specs.Lists.{Each, AreBytes}
use Rattle.td_num.proofs.Digits.{are_bytes}
use Rattle.td_num.proofs.Truths.{eq_is}
use Rattle.td_stream.specs.declared.load.Load.{Load}
use Rattle.td_stream.specs.declared.stretch.Stretch.{Stretch}
use Rattle.td_stream.specs.Layouts.{plain, length_in, count_in, word_at, offset_at}
use Rattle.td_stream.specs.Loads.{Carries, Agrees as AgreesWith, Inside, IsLoaded, IsTouched, Exactly, IsFetchedOnce}
use Rattle.td_stream.proofs.Carrying.{carried}
use Rattle.td_stream.proofs.Layouts.{word_inside}
use Rattle.td_stream.proofs.Plain.{plain_is}
use Rattle.td_ir.specs.declared.tables.Parts.{Parts}
use Rattle.td_ir.specs.State.{Way, Returned, Turned, Failed, Stuck, Exit}
use Rattle.td_ir.specs.Run.{run_routine}
use Rattle.td_ir.specs.Tables.{routine_of}
use Rattle.td_prog.specs.Tree.{Tree, Plays, answer, loaded}
use Rattle.td_prog.specs.Means.{Out, Gave, Refused, Undefined, Helpers}
use Rattle.td_prog.specs.Run.{helpers_over, helpers_below, routines_over, run_from}
use Rattle.td_prog.specs.Pieces.{from_table}
use Rattle.td_prog_trees.specs.Memory.{AreWords}
use Rattle.td_prog_trees.specs.Readers.{IsReader}
use Rattle.td_prog_trees.specs.Agree.{Numbering, Basis, Extent, IsKept, fresh, behind, IsForward, IsReturn, IsFailure, AgreesBy, Agrees}
use Rattle.td_prog_steps.specs.Laid.{IsWellLaid}
use Rattle.td_prog_code.specs.Prelude.{prelude}
use Rattle.td_prog_code.specs.PartsPrelude.{parts_prelude}
use Rattle.td_prog_code.specs.Program.{functions}
use Rattle.td_prog_runs.specs.Theorem.{Start, IsStart, IsLeftBy, way_on, CodeInC, CodeInParts}
use Rattle.td_prog_steps.specs.Laws.{basis_of, ProgramAgrees}
use Rattle.td_verify_runs.specs.Laws.{IsAnswer}
use Rattle.td_prog_trees.proofs.Composing.{by_cases}
use Rattle.td_prog_trees.proofs.Trees.{carried as carried_tree}
use Rattle.td_prog_trees.specs.Agree.{RisesFrom}
use Rattle.td_prog_trees.proofs.Adversary.{fresh_rises, play_rises, loads_rise, memory_of, memory_wordy, front_memory, front_wordy, memory_holds, digit_of}
use Rattle.td_prog_trees.proofs.Fetching.{eights}
use Rattle.td_prog_trees.proofs.PlainReader.{plain_reader}
use Rattle.td_prog_trees.proofs.PartsReader.{laid as laid_in, parts_reader}
use Rattle.td_prog_runs.proofs.PartsMemory.{memory_in, memory_in_wordy, memory_in_bytes}

-- Lists
first_or_later : {X : Type 0} (x y : X) (xs : List X) → Contains (x ∷ xs) y → (x ≡ y) ⊎ Contains xs y
first_or_later x y xs (zero, lt, e) = inl e
first_or_later x y xs (suc k, lt, e) = inr (k, omega (arith, lt), e)

later : {X : Type 0} (x y : X) (xs : List X) → Contains xs y → Contains (x ∷ xs) y
later x y xs c = (suc c.0, omega (arith, c.1), c.2)

nowhere : {X : Type 0} (x : X) → Contains [] x → ⊥
nowhere x c = absurd (omega (arith, c.1))

abbrev words : List Load → List ℕ
words loads = map (λ (l : Load). l.word) loads

word_loaded : (loads : List Load) (i : ℕ) → Contains (words loads) i → IsLoaded loads i
word_loaded [] i c = absurd (nowhere i c)
word_loaded (l ∷ loads) i c = elim (first_or_later l.word i (words loads) c) [
  | inl e ↦ (l.value, (0, omega arith, λ j. record { word = e j; value = l.value }))
  | inr d ↦ let r = word_loaded loads i d in (r.0, later l (record { word = i; value = r.0 }) loads r.1)
]

loaded_word : (loads : List Load) (i v : ℕ) → Contains loads (record { word = i; value = v }) → Contains (words loads) i
loaded_word [] i v c = absurd (nowhere (record { word = i; value = v }) c)
loaded_word (l ∷ loads) i v c = elim (first_or_later l (record { word = i; value = v }) loads c) [
  | inl e ↦ (0, omega arith, ap (λ (m : Load). m.word) e)
  | inr d ↦ later l.word i (words loads) (loaded_word loads i v d)
]

-- The words of places
fresh_touched : (word : ℕ → ℕ) (next : ℕ) (ps : List ℕ) (i : ℕ) → Contains (fresh word next ps) i → (p : ℕ) × Contains ps p × (word p ≡ i)
fresh_touched word next [] i c = absurd (nowhere i c)
fresh_touched word next (q ∷ ps) i c =
    by_cases (λ b. Contains (cond b (fresh word next ps) (word q ∷ fresh word (word q + 1) ps)) i → (p : ℕ) × Contains (q ∷ ps) p × (word p ≡ i))
    (nat_lt (word q) next)
    (λ e d. on (fresh_touched word next ps i d))
    (λ e d. elim (first_or_later (word q) i (fresh word (word q + 1) ps) d) [
      | inl here ↦ (q, (0, omega arith, refl), here)
      | inr there ↦ on
          (fresh_touched word (word q + 1) ps i there)
    ]) c
  where
    on : (p : ℕ) × Contains ps p × (word p ≡ i) → (p : ℕ) × Contains (q ∷ ps) p × (word p ≡ i)
    on r = (r.0, later q r.0 ps r.1, r.2)

abbrev IsThere : (ℕ → ℕ) → ℕ → ℕ → List ℕ → Type 0
IsThere word p next ws = (suc (word p) ≡ next) ⊎ Contains ws (word p)

touched_fresh : (word : ℕ → ℕ) (to next : ℕ) (ps : List ℕ) → IsForward word to next ps → (p : ℕ) → Contains ps p → IsThere word p next (fresh word next ps)
touched_fresh word to next [] f p c = absurd (nowhere p c)
touched_fresh word to next (q ∷ ps) f p c = by (nat_lt (word q) next) refl (first_or_later q p ps c) (touched_fresh word to (word q + 1) ps f.2 p)
  where
    by : (b : Bool) → nat_lt (word q) next ≡ b → (q ≡ p) ⊎ Contains ps p → (Contains ps p → IsThere word p (word q + 1) (fresh word (word q + 1) ps))
        → IsThere word p next (cond b (fresh word next ps) (word q ∷ fresh word (word q + 1) ps))
    by true e (inl same) h =
        let l = ltb-true (word q) next e in
        let w : word q ≡ word p = ap word same in
        inl (let m = f.0 in omega (arith, l, m, w))
    by true e (inr d) h =
        let l = ltb-true (word q) next e in
        let n : word q + 1 ≡ next = (let m = f.0 in omega (arith, l, m)) in
        subst (λ k. IsThere word p k (fresh word k ps)) n (h d)
    by false e (inl same) h = inr (0, omega arith, ap word same)
    by false e (inr d) h =
        elim (h d) [ inl s ↦ inr (0, omega arith, omega (arith, s)) | inr there ↦ inr (later (word q) (word p) (fresh word (word q + 1) ps) there) ]

forward_below : (word : ℕ → ℕ) (to next : ℕ) (ps : List ℕ) → IsForward word to next ps → (p : ℕ) → Contains ps p → p < to
forward_below word to next [] f p c = absurd (nowhere p c)
forward_below word to next (q ∷ ps) f p c =
    elim (first_or_later q p ps c) [ inl e ↦ (let l = f.1 in omega (arith, e, l)) | inr d ↦ forward_below word to (word q + 1) ps f.2 p d ]

all_of : (loads : List Load) (P : ℕ → Type 0) → ((i : ℕ) → Contains (words loads) i → P i) → All (λ (l : Load). P l.word) loads
all_of [] P h = All-nil (λ (l : Load). P l.word)
all_of (l ∷ loads) P h =
    All-cons (λ (l : Load). P l.word) l loads (h l.word (0, omega arith, refl)) (all_of loads P (λ i c. h i (later l.word i (words loads) c)))

-- What agreeing says of an answer
left_by : (extent : Extent) (x : Tree Out) (touched : List ℕ) (w : Way) (y : Out) → IsAnswer w → AgreesBy extent 0 x touched w → answer extent.memory x ≡ y
    → IsLeftBy extent.basis y w
left_by extent x touched (Returned pos cells) y a h e = by y (subst (λ o. IsReturn extent (behind extent.numbering.word 0 touched) pos cells o) e h.0)
  where
    by : (y : Out) → IsReturn extent (behind extent.numbering.word 0 touched) pos cells y → IsLeftBy extent.basis y (Returned pos cells)
    by (Gave v s) r = (r.0, r.1.same, r.1.good.kept)
    by (Refused reason at trace s) r = r
    by Undefined r = r
left_by extent x touched (Turned t) y a h e = absurd a
left_by extent x touched (Failed reason pos trace cells) y a h e = by y (subst (λ o. IsFailure reason pos trace cells o) e h.0)
  where
    by : (y : Out) → IsFailure reason pos trace cells y → IsLeftBy extent.basis y (Failed reason pos trace cells)
    by (Gave v s) r = r
    by (Refused reason' at trace' s) r = r
    by Undefined r = r
left_by extent x touched Stuck y a h e = absurd a

words_are : (extent : Extent) (x : Tree Out) (touched : List ℕ) (w : Way) → IsAnswer w → AgreesBy extent 0 x touched w
    → (loaded extent.memory x ≡ fresh extent.numbering.word 0 touched) × IsForward extent.numbering.word extent.to 0 touched
words_are extent x touched (Returned pos cells) a h = (h.1, h.2)
words_are extent x touched (Turned t) a h = absurd a
words_are extent x touched (Failed reason pos trace cells) a h = (h.1, h.2)
words_are extent x touched Stuck a h = absurd a

all_bytes : (f : ℕ → ℕ) → ((j : ℕ) → f j < 256) → (from n : ℕ) → All (λ x. x < 256) (map f (range_with_len from n))
all_bytes f h from zero = All-nil (λ x. x < 256)
all_bytes f h from (suc n) = All-cons (λ x. x < 256) (f from) (map f (range_with_len (from + 1) n)) (h from) (all_bytes f h (from + 1) n)

-- How a message is read: it lies so, with these numbers of words; these helpers read it, of each memory that holds it; and there is such a memory for each list of bytes
pub record IsRead (layout : List Stretch) (size limit : ℕ) (basis : List ℕ → Basis) (numbering : Numbering) (helpers : Helpers) : Type 0 where
  pub same_size : size ≡ length_in layout
  pub same_word : (j : ℕ) → j < size → word_at layout j ≡ numbering.word j
  pub reader : (memory : ℕ → ℕ) (b : List ℕ) → length b ≡ size → AreWords memory
      → ((j : ℕ) → j < size → byte_of (memory (numbering.word j)) (offset_at layout j) ≡ slice_index b j)
      → IsReader numbering memory (basis b) limit helpers
  pub filled : List ℕ → ℕ → ℕ
  pub filled_wordy : (b : List ℕ) → AreBytes b → AreWords (filled b)
  pub filled_bytes : (b : List ℕ) → AreBytes b → length b ≡ size → (j : ℕ) → j < size
      → byte_of (filled b (numbering.word j)) (offset_at layout j) ≡ slice_index b j

module _ (agrees : ProgramAgrees) (c : Parts) (start : Start) (laid : IsWellLaid c) (is : IsStart c start)
    (answers : (b : List ℕ) → length b ≡ start.size → AreBytes b → IsAnswer (way_on c start b))
    (layout : List Stretch) (numbering : Numbering) (helpers : Helpers)
    (reads : IsRead layout start.size start.limit (λ b. basis_of c start.routine b start.buffers) numbering helpers) where
  open start use {names, limit, routine as n, size, args, cells, buffers}
  open numbering use {word}

  abbrev tree : Tree Out
  tree = run_from (routines_over helpers limit (functions c names 0 (length c.routines)) (length (functions c names 0 (length c.routines)))) n size args cells buffers

  abbrev exit : List ℕ → Exit
  exit b = run_routine c n args cells b

  abbrev basis : List ℕ → Basis
  basis b = basis_of c n b buffers

  -- the whole of a message, on memory that stays
  abbrev extent_of : (ℕ → ℕ) → List ℕ → Extent
  extent_of memory b = record { memory = memory; numbering = numbering; basis = basis b; from = 0; to = size }

  -- buffers hold nothing at first
  begun : (b : List ℕ) → IsKept (basis b) cells buffers
  begun b = record {
    lengths = refl;
    many = let m = is.many in let e = ap (λ (xs : List ℕ). length xs) is.rooms in omega (arith, m, e);
    copies = λ k h. let e = ap (λ (xs : List ℕ). length xs) is.rooms in let z = is.empty k (omega (arith, h, e)) in
        (λ i. take (z i) (slice_index_or buffers k [])) ∙
        (λ i. map (slice_index b) (places_from (slice_index cells ((routine_of c n).cells + 2 * k)) (sym z i)));
  }

  -- memory that holds a message
  abbrev Holds_message : (ℕ → ℕ) → List ℕ → Type 0
  Holds_message memory b = (j : ℕ) → j < size → byte_of (memory (word j)) (offset_at layout j) ≡ slice_index b j

  -- on memory that stays
  stays : (memory : ℕ → ℕ) (b : List ℕ) → AreWords memory → Holds_message memory b → length b ≡ size → Agrees (extent_of memory b) 0 tree (exit b)
  stays memory b small holds e =
      subst (λ k. Agrees (record { memory = memory; numbering = numbering; basis = basis b; from = 0; to = k }) 0
      (run_from (routines_over helpers limit (functions c names 0 (length c.routines)) (length (functions c names 0 (length c.routines)))) n k args cells buffers)
      (exit b)) e
      (agrees numbering memory c names helpers b limit n args cells buffers (reads.reader memory b e small holds) (let s = is.short in omega (arith, e, s))
      (let m = is.enough in omega (arith, e, m)) laid is.there is.rooms (begun b) is.args is.cells)

  -- the message of a memory
  abbrev byte_in : (ℕ → ℕ) → ℕ → ℕ
  byte_in memory j = byte_of (memory (word j)) (offset_at layout j)

  abbrev message_of : (ℕ → ℕ) → List ℕ
  message_of memory = map (byte_in memory) (range_with_len 0 size)

  message_bytes : (memory : ℕ → ℕ) → Holds_message memory (message_of memory)
  message_bytes memory j h = sym (get_or-map-range_with_len (byte_in memory) 0 size j j 0 h (omega arith))

  on_memory : (memory : ℕ → ℕ) → AreWords memory → RisesFrom 0 (loaded memory tree)
  on_memory memory small =
      let b = message_of memory in
      let long : length b ≡ size = length-map-range_with_len (byte_in memory) 0 size in
      let h = stays memory b small (message_bytes memory) long in
      let a = answers b long (are_bytes b (all_bytes (byte_in memory)
      (λ j. mod_below (memory (word j) / 2 ^ (8 * offset_at layout j)) 256 (omega arith)) 0 size)) in
      let w = words_are (extent_of memory b) tree (exit b).touched (exit b).way a h in
      subst (λ ws. RisesFrom 0 ws) (sym w.0) (fresh_rises word 0 (exit b).touched)

  -- the memory of loads holds a message that carries them
  loaded_bytes : (loads : List Load) (b : List ℕ) → AreBytes b → length b ≡ size → All (AgreesWith layout b) loads → Holds_message (memory_of loads (reads.filled b)) b
  loaded_bytes [] b h e a j l = reads.filled_bytes b h e j l
  loaded_bytes (x ∷ loads) b h e a j l =
      by_cases (λ v. byte_of (cond v x.value (memory_of loads (reads.filled b) (word j))) (offset_at layout j) ≡ slice_index b j) (nat_eq (word j) x.word)
      (λ q. sym (All-head (AgreesWith layout b) x loads a j (omega (arith, l, e)) (reads.same_word j l ∙ eq_is (word j) x.word q)))
      (λ q. loaded_bytes loads b h e (All-tail (AgreesWith layout b) x loads a) j l)

  module _ (loads : List Load) (out : Out) (plays : Plays tree loads out) (values : Each (λ (l : Load). l.value < 2 ^ 64) loads) where
    rising : RisesFrom 0 (words loads)
    rising = play_rises tree loads out 0 on_memory plays values

    -- on a message that carries the loads
    record IsSo (b : List ℕ) : Type 0 where
      left : IsLeftBy (basis b) out (exit b).way
      are : words loads ≡ fresh word 0 (exit b).touched
      forward : IsForward word size 0 (exit b).touched

    on_message : (b : List ℕ) → Carries layout b loads → AreBytes b → IsSo b
    on_message b carries bytes =
        let long : length b ≡ size = carries.size ∙ sym reads.same_size in
        let memory = memory_of loads (reads.filled b) in
        let g = stays memory b (memory_wordy loads (reads.filled b) (reads.filled_wordy b bytes) values) (loaded_bytes loads b bytes long carries.agree) long in
        let a = answers b long bytes in
        let t = carried_tree memory tree loads out plays (memory_holds loads (reads.filled b) 0 rising) in
        let w = words_are (extent_of memory b) tree (exit b).touched (exit b).way a g in
        record { left = left_by (extent_of memory b) tree (exit b).touched (exit b).way out a g t.0; are = sym t.1 ∙ w.0; forward = w.1 }

    exactly : (b : List ℕ) → IsSo b → Exactly layout loads (exit b).touched
    exactly b so i = (there, back)
      where
        there : IsLoaded loads i → IsTouched layout (exit b).touched i
        there h =
            let r = fresh_touched word 0 (exit b).touched i (subst (λ ws. Contains ws i) so.are (loaded_word loads i h.0 h.1)) in
            (r.0, r.1, reads.same_word r.0 (forward_below word size 0 (exit b).touched so.forward r.0 r.1) ∙ r.2)

        back : IsTouched layout (exit b).touched i → IsLoaded loads i
        back t =
            let e : word t.0 ≡ i = sym (reads.same_word t.0 (forward_below word size 0 (exit b).touched so.forward t.0 t.1)) ∙ t.2 in
            let found : Contains (fresh word 0 (exit b).touched) (word t.0) =
            elim (touched_fresh word size 0 (exit b).touched so.forward t.0 t.1) [ inl none ↦ absurd (omega (arith, none)) | inr d ↦ d ] in
            word_loaded loads i (subst (λ k. Contains (words loads) k) e (subst (λ ws. Contains ws (word t.0)) (sym so.are) found))

    inside : Inside layout loads
    inside =
        let r = loads_rise loads 0 rising in
        let x = carried layout loads r in
        let so = on_message x.0 x.1 (are_bytes x.0 x.2) in
        all_of loads (λ w. w < count_in layout) (λ i d.
        let t = fresh_touched word 0 (exit x.0).touched i (subst (λ ws. Contains ws i) so.are d) in
        let lt = forward_below word size 0 (exit x.0).touched so.forward t.0 t.1 in
        let e = reads.same_word t.0 lt ∙ t.2 in
        let m = word_inside layout t.0 (let z = reads.same_size in omega (arith, lt, z)) in
        omega (arith, e, m))

    pub fetched : IsFetchedOnce layout loads (λ b. AreBytes b → IsLeftBy (basis b) out (exit b).way × Exactly layout loads (exit b).touched)
    fetched = record {
      rising = loads_rise loads 0 rising;
      inside = inside;
      holds = λ b carries bytes. let so = on_message b carries bytes in (so.left, exactly b so);
    }

-- a message at the front of a buffer
plain_read : (c : Parts) (n size limit : ℕ) (buffers : List (List ℕ)) → size < 2 ^ 32
    → IsRead (plain size) size limit (λ b. basis_of c n b buffers) eights (helpers_below limit prelude 9)
plain_read c n size limit buffers short = record {
  same_size = sym (plain_is size).size;
  same_word = λ j h. (plain_is size).word j h;
  reader = λ memory b e small holds.
      plain_reader memory (basis_of c n b buffers) limit
      (record {
        bytes = λ j h. let l : j < size = omega (arith, h, e) in ap (byte_of (memory (j / 8))) (sym ((plain_is size).offset j l)) ∙ holds j l;
        words = small;
      }) (omega (arith, short, e));
  filled = front_memory;
  filled_wordy = λ b h. front_wordy b h;
  filled_bytes = λ b h e j l.
      let o = (plain_is size).offset j l in
      let q : 8 * (j / 8) + j % 8 ≡ j = omega arith in
      ap (byte_of (front_memory b (j / 8))) o ∙ digit_of b h 8 (8 * (j / 8)) (j % 8) (mod_below j 8 (omega arith)) ∙ ap (slice_index b) q;
}

pub code_in_c : ProgramAgrees → CodeInC
code_in_c agrees c start laid is answers loads out plays values =
    fetched agrees c start laid is answers (plain start.size) eights (helpers_below start.limit prelude 9)
    (plain_read c start.routine start.size start.limit start.buffers is.short) loads out plays values

-- a message in pieces
parts_read : (c : Parts) (n size limit : ℕ) (buffers : List (List ℕ)) (layout : List Stretch) → size ≡ length_in layout → size < 2 ^ 32
    → IsRead layout size limit (λ b. basis_of c n b buffers) (laid_in layout) (helpers_over (from_table layout 9) limit parts_prelude 9)
parts_read c n size limit buffers layout same short = record {
  same_size = same;
  same_word = λ j h. refl;
  reader = λ memory b e small holds.
      parts_reader layout memory (basis_of c n b buffers) limit (record { bytes = λ j h. holds j (omega (arith, h, e)); words = small }) (omega (arith, short, e))
      (e ∙ same);
  filled = λ b. memory_in layout b;
  filled_wordy = λ b h. memory_in_wordy layout b h;
  filled_bytes = λ b h e j l. memory_in_bytes layout b h (e ∙ same) j (omega (arith, l, e));
}

pub code_in_parts : ProgramAgrees → CodeInParts
code_in_parts agrees c start layout same laid is answers loads out plays values =
    fetched agrees c start laid is answers layout (laid_in layout) (helpers_over (from_table layout 9) start.limit parts_prelude 9)
    (parts_read c start.routine start.size start.limit start.buffers layout same is.short) loads out
    (subst (λ k. Plays (run_from (routines_over (helpers_over (from_table layout 9) start.limit parts_prelude 9) start.limit
    (functions c start.names 0 (length c.routines)) (length (functions c start.names 0 (length c.routines)))) start.routine k start.args start.cells start.buffers)
    loads out) (sym same) plays) values
