-- The copying helper of a message in pieces: byte by byte.
use Rattle.std.proofs.Common.{◌≡◌, ℕ, zero, suc, ◌+◌, ◌-◌, ◌%◌, ◌^◌, ◌<◌, ◌≤◌, true, false, cond, List, [], ◌∷◌, length, map, refl, sym, ap, ◌∙◌, subst, arith, slice_index}
use Rattle.std.specs.Prelude.{nat_lt, nat_eq}
use Rattle.std.proofs.lemmas.Bool.{lt-ltb, le-ltb}
use Rattle.std.proofs.Math.Nat.{mod-eq_of_lt}
use Rattle.td_num.specs.Numbers.{places_from}
use Rattle.td_stream.specs.declared.stretch.Stretch.{Stretch}
use Rattle.td_stream.specs.Layouts.{length_in, word_at}
use Rattle.td_ir.specs.Values.{bit}
use Rattle.td_prog.specs.Tree.{Tree, Done}
use Rattle.td_prog.specs.Syntax.{Pos, Number, Room, Count, Lt, Get, Binary, Block, Ends, Assign, Byte, Return}
use Rattle.td_prog.specs.Values.{Locals, value}
use Rattle.td_prog.specs.Means.{Out, Gave, Continuation, nowhere, given, turns, block_means}
use Rattle.td_prog.specs.Run.{no_routine, helpers_over}
use Rattle.td_prog.specs.Pieces.{from_table}
use Rattle.td_prog_code.specs.Prelude.{plus}
use Rattle.td_prog_code.specs.PartsPrelude.{byte_turn, parts_prelude}
use Rattle.td_prog_trees.specs.Memory.{IsLaidMemory, HasHeld}
use Rattle.td_prog_trees.specs.Agree.{Basis, Extent, reached}
use Rattle.td_prog_trees.proofs.Composing.{Leads}
use Rattle.td_prog_trees.proofs.Leading.{then, same_tree, post, asked, reached_near, reached_is}
use Rattle.td_prog_trees.proofs.Buffers.{IsDone, AreOld, puts, byte_more, old_more}
use Rattle.td_prog_trees.proofs.PartsNumbers.{laid, extent, byte as byte_in, byte_small, byte_is, byte_tree, byte_vars, byte_gives}

module _ (layout : List Stretch) (memory : ℕ → ℕ) (basis : Basis) (limit : ℕ) (holds : IsLaidMemory layout memory basis.message)
    (short : length basis.message < 2 ^ 32) (size : length basis.message ≡ length_in layout) where
  open basis use {message}

  abbrev word : ℕ → ℕ
  word p = word_at layout p

  abbrev part : Extent
  part = extent layout memory basis limit holds short size

  abbrev Lead : (next next' : ℕ) → Tree Out → Tree Out → List ℕ → Type 0
  Lead next next' x y touched = Leads part next next' x y touched

  abbrev byte : ℕ → ℕ
  byte p = byte_in layout memory basis limit holds short size p

  -- td_copy, into a buffer that held old bytes, from a place on
  module _ (buffer base : ℕ) (old : List (List ℕ)) where
    abbrev pub in_copy : Block → Continuation → Continuation
    in_copy b go = (block_means limit (helpers_over (from_table layout 9) limit parts_prelude 8) no_routine [] (buffer ∷ []) b go []).0

    abbrev pub looping : ℕ → Continuation
    looping m =
        turns m (value [] (Binary Lt (Get Count) (Get Room))) (λ again. in_copy byte_turn again) (in_copy (Return (Get Count) Ends) nowhere)

    pub record Ready (u : Locals) (j : ℕ) : Type 0 where
      pub sum : u.count + j ≡ u.room
      pub fits : u.room ≤ slice_index basis.lengths buffer
      pub few : u.room < 2 ^ 32
      pub within : u.pos + j ≤ length message
      pub kept : map length u.buffers ≡ basis.lengths
      pub ahead : u.next ≤ reached (word_at layout) u.pos
      pub held : HasHeld memory u
      pub at : u.pos ≡ base + u.count
      pub done : IsDone message buffer base old u.buffers u.count
      pub others : AreOld message buffer base old u.buffers

    pub record Copied (tree : Tree Out) (u : Locals) (j : ℕ) : Type 0 where
      pub final : Locals
      pub leads : Lead u.next final.next tree (Done (Gave u.room final)) (places_from u.pos j)
      pub cells : final.cells ≡ u.cells
      pub kept : map length final.buffers ≡ basis.lengths
      pub ahead : final.next ≤ reached (word_at layout) (u.pos + j)
      pub held : HasHeld memory final
      pub done : IsDone message buffer base old final.buffers u.room
      pub others : AreOld message buffer base old final.buffers

    all_done : (m : ℕ) (u : Locals) → Ready u 0 → Copied (looping (suc m) u) u 0
    all_done m u r =
        let same : u.count ≡ u.room = (let s = r.sum in omega (arith, s)) in
        let no : nat_lt u.count u.room ≡ false = le-ltb u.count u.room (omega (arith, same)) in
        let at : u.pos ≡ u.pos + 0 = omega arith in
        record {
          final = u;
          leads = same_tree part u.next (looping (suc m) u) (Done (Gave u.room u))
              (ap (λ b. cond (nat_eq (bit b) 0) (Done (Gave u.count u)) (in_copy byte_turn (looping m) u)) no ∙ ap (λ n. Done (Gave n u)) same);
          cells = refl;
          kept = r.kept;
          ahead = subst (λ p. u.next ≤ reached (word_at layout) p) at r.ahead;
          held = r.held;
          done = subst (IsDone message buffer base old u.buffers) same r.done;
          others = r.others;
        }

    one_turn : (m : ℕ) (u : Locals) (j : ℕ) → Ready u (suc j) → ((v : Locals) → Ready v j → Copied (looping m v) v j)
        → Copied (in_copy byte_turn (looping m) u) u (suc j)
    one_turn m u j r rec =
        let p = u.pos in
        let b = byte p in
        let there : p < length message = (let w = r.within in omega (arith, w)) in
        let near = reached_near (laid layout) p in
        let n : u.next ≤ word p + 1 = (let a = r.ahead in omega (arith, a, near)) in
        let next : Block = Assign Pos (plus (Get Pos) 1) (Assign Count (plus (Get Count) 1) Ends) in
        let go : Continuation = in_copy (Byte 0 (Get Count) (Get Number) next) (looping m) in
        let room : u.count < slice_index (map length u.buffers) buffer =
        (let s = r.sum in let f = r.fits in let z = ap (λ ns. slice_index ns buffer) r.kept in omega (arith, s, f, z)) in
        let w = puts u.buffers buffer u.count b room in
        let seen : List (List ℕ) → ℕ → ℕ → Locals = λ bs q c. record u
        { number = b; next = word p + 1; held = memory (word p); buffers = bs; pos = q; count = c } in
        let small_pos : (p + 1) % 2 ^ 64 ≡ p + 1 = mod-eq_of_lt (let z : p + 1 < 2 ^ 64 = omega (arith, there, short) in z) in
        let small_count : (u.count + 1) % 2 ^ 64 ≡ u.count + 1 = mod-eq_of_lt
        (let s = r.sum in let f = r.few in let z : u.count + 1 < 2 ^ 64 = omega (arith, s, f) in z) in
        let on : Locals = seen w.now (p + 1) (u.count + 1) in
        let step : go (seen u.buffers p u.count) ≡ looping m on =
        ap (λ o. given o (λ bs. in_copy next (looping m) (seen bs p u.count))) w.is ∙ (λ i. looping m (seen w.now (small_pos i) (small_count i))) in
        let led = post part u.next (word p + 1) (in_copy byte_turn (looping m) u) (go (seen u.buffers p u.count)) (looping m on) (places_from p 1)
        (asked part u.next (word p + 1) (byte_tree layout memory basis limit holds short size p u) b (byte_vars layout memory basis limit holds short size p (word p + 1) (memory (word p)) u) u Number go (places_from p 1)
        (byte_gives layout memory basis limit holds short size p u there n r.held)) step in
        let near_end : reached (word_at layout) (p + 1) ≡ word p + 1 =
        (let e : p + 1 - 1 ≡ p = omega arith in reached_is (laid layout) p 1 (omega arith) ∙ ap (λ q. word q + 1) e) in
        let digit : b % 256 ≡ slice_index message (base + u.count) =
        (let e : b % 256 ≡ b = (let z = byte_small layout memory basis limit holds short size p in omega (arith, z)) in e ∙ byte_is layout memory basis limit holds short size p there ∙ ap (slice_index message) r.at) in
        let c = rec on (record {
          sum = (let s = r.sum in omega (arith, s));
          fits = r.fits;
          few = r.few;
          within = (let w = r.within in omega (arith, w));
          kept = w.kept ∙ r.kept;
          ahead = omega (arith, near_end);
          held = λ k e. let q : word p ≡ k = omega (arith, e) in ap memory q;
          at = (let a = r.at in omega (arith, a));
          done = byte_more message buffer base old u.buffers u.count b w r.done digit;
          others = old_more message buffer base old u.buffers u.count b w r.others;
        }) in
        let end : p + 1 + j ≡ p + suc j = omega arith in
        record {
          final = c.final;
          leads = then part u.next (word p + 1) c.final.next (in_copy byte_turn (looping m) u) (looping m on) (Done (Gave u.room c.final)) (places_from p 1)
              (places_from (p + 1) j) led c.leads;
          cells = c.cells;
          kept = c.kept;
          ahead = subst (λ q. c.final.next ≤ reached (word_at layout) q) end c.ahead;
          held = c.held;
          done = c.done;
          others = c.others;
        }

    pub all_copied : (m : ℕ) (u : Locals) (j : ℕ) → j < m → Ready u j → Copied (looping m u) u j
    all_copied zero u j l r = absurd (omega (arith, l))
    all_copied (suc m) u zero l r = all_done m u r
    all_copied (suc m) u (suc j) l r =
        let yes : nat_lt u.count u.room ≡ true = lt-ltb u.count u.room (let s = r.sum in omega (arith, s)) in
        let c = one_turn m u j r (λ v q. all_copied m v j (omega (arith, l)) q) in
        subst (λ t. Copied t u (suc j)) (sym (ap (λ b. cond (nat_eq (bit b) 0) (Done (Gave u.count u)) (in_copy byte_turn (looping m) u)) yes)) c
