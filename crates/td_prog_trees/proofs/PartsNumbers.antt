-- The helpers of a message in pieces read a byte, and a number.
use Rattle.std.proofs.Common.{◌≡◌, ℕ, zero, suc, ◌+◌, ◌-◌, ◌*◌, ◌/◌, ◌%◌, ◌^◌, ◌<◌, ◌≤◌, inl, inr, Bool, true, false, cond, List, [], ◌∷◌, length, append-nil, refl, sym, ap, ◌∙◌, subst, arith, slice_index}
use Rattle.std.specs.Prelude.{nat_lt, nat_le, nat_eq, Some, None}
use Rattle.std.specs.Int.{w64, swap_bytes}
use Rattle.std.proofs.lemmas.Bool.{lt-ltb, lt-leb}
use Rattle.std.proofs.lemmas.Nat.{and_mask, mod_below}
use Rattle.td_num.specs.Numbers.{byte_of, places_from, ordered_at}
use Rattle.td_stream.specs.declared.stretch.Stretch.{Stretch}
use Rattle.td_stream.specs.Layouts.{length_in, word_at, offset_at, place_at}
use Rattle.td_stream.specs.Digits.{HasDigits}
use Rattle.td_stream.proofs.Layouts.{word_rises}
use Rattle.td_stream.proofs.Digits.{joined_digits, rising_digits, falling_digits, fits_word}
use Rattle.td_ir.specs.Values.{bit, order_of}
use Rattle.td_verify.specs.Operands.{IsWidth}
use Rattle.td_prog.specs.Tree.{Tree, Done, Loads, bind}
use Rattle.td_prog.specs.Syntax.{Next, Held, Pos, Word, Low, Number, More, Add, Mul, And, Shl, Shr, Le, Num, Get, Binary, Swapped, Block, Ends, Assign, Load, If, Return, CallHelper}
use Rattle.td_prog.specs.Values.{Locals, value, applied, and_then}
use Rattle.td_prog.specs.Means.{Out, Gave, Undefined, Continuation, Helpers, nowhere, given, shared, after_helper, block_means}
use Rattle.td_prog.specs.Run.{declared, no_routine, helpers_over}
use Rattle.td_prog.specs.Pieces.{from_table}
use Rattle.td_prog_code.specs.Prelude.{number_helper}
use Rattle.td_prog_code.specs.PartsPrelude.{td_byte, more_bytes, parts_prelude}
use Rattle.td_prog_trees.specs.Memory.{IsLaidMemory, HasHeld}
use Rattle.td_prog_trees.specs.Agree.{Numbering, Basis, Extent, fresh}
use Rattle.td_prog_trees.specs.Readers.{IsTaken}
use Rattle.td_prog_trees.proofs.Composing.{by_cases, Leads}
use Rattle.td_prog_trees.proofs.Numbers.{quotient_small}
use Rattle.td_prog_trees.proofs.Fetching.{low_is, swap_small}
use Rattle.td_prog_trees.proofs.Leading.{AreInOne, then, same_tree, load_leads, held_leads, pre, post, asked}

-- the words of a layout, by place
abbrev pub laid : List Stretch → Numbering
laid layout = record { word = word_at layout; rises = λ p q h. word_rises layout p q h }

-- a byte above a number of fewer than eight bytes
put_above : (j b n : ℕ) → j < 7 → b < 256 → n < 2 ^ (8 * suc j) → (n + b * 2 ^ (8 * suc j) % 2 ^ 64) % 2 ^ 64 ≡ b * 2 ^ (8 * suc j) + n
put_above zero b n h x y = omega (arith, x, y)
put_above (suc zero) b n h x y = omega (arith, x, y)
put_above (suc (suc zero)) b n h x y = omega (arith, x, y)
put_above (suc (suc (suc zero))) b n h x y = omega (arith, x, y)
put_above (suc (suc (suc (suc zero)))) b n h x y = omega (arith, x, y)
put_above (suc (suc (suc (suc (suc zero))))) b n h x y = omega (arith, x, y)
put_above (suc (suc (suc (suc (suc (suc zero)))))) b n h x y = omega (arith, x, y)
put_above (suc (suc (suc (suc (suc (suc (suc j))))))) b n h x y = absurd (omega (arith, h))

put_fits : (j b n : ℕ) → j < 7 → b < 256 → n < 2 ^ (8 * suc j) → b * 2 ^ (8 * suc j) + n < 2 ^ (8 * suc (suc j))
put_fits zero b n h x y = omega (arith, x, y)
put_fits (suc zero) b n h x y = omega (arith, x, y)
put_fits (suc (suc zero)) b n h x y = omega (arith, x, y)
put_fits (suc (suc (suc zero))) b n h x y = omega (arith, x, y)
put_fits (suc (suc (suc (suc zero)))) b n h x y = omega (arith, x, y)
put_fits (suc (suc (suc (suc (suc zero))))) b n h x y = omega (arith, x, y)
put_fits (suc (suc (suc (suc (suc (suc zero)))))) b n h x y = omega (arith, x, y)
put_fits (suc (suc (suc (suc (suc (suc (suc j))))))) b n h x y = absurd (omega (arith, h))

lowest_byte : (n : ℕ) → n < 256 → byte_of n 0 ≡ n
lowest_byte n h = let one : n / 2 ^ (8 * 0) ≡ n = omega arith in ap (λ m. m % 256) one ∙ omega (arith, h)

module _ (layout : List Stretch) (memory : ℕ → ℕ) (basis : Basis) (limit : ℕ) (holds : IsLaidMemory layout memory basis.message)
    (short : length basis.message < 2 ^ 32) (size : length basis.message ≡ length_in layout) where
  open basis use {message}

  abbrev pub extent : Extent
  extent = record { memory = memory; numbering = laid layout; basis = basis; from = 0; to = length message }

  abbrev word : ℕ → ℕ
  word p = word_at layout p

  abbrev Lead : (next next' : ℕ) → Tree Out → Tree Out → List ℕ → Type 0
  Lead next next' x y touched = Leads extent next next' x y touched

  abbrev table : ℕ → Helpers
  table k = helpers_over (from_table layout 9) limit parts_prelude k

  -- byte p of the message, in its word
  abbrev pub byte : ℕ → ℕ
  byte p = byte_of (memory (word p)) (offset_at layout p)

  pub byte_small : (p : ℕ) → byte p < 256
  byte_small p = mod_below (memory (word p) / 2 ^ (8 * offset_at layout p)) 256 (omega arith)

  pub byte_is : (p : ℕ) → p < length message → byte p ≡ slice_index message p
  byte_is p h = holds.bytes p h

  byte_digit : (p : ℕ) → p < length message → HasDigits message p 1 (byte p)
  byte_digit p h zero l = let e : p ≡ p + 0 = omega arith in lowest_byte (byte p) (byte_small p) ∙ byte_is p h ∙ ap (slice_index message) e
  byte_digit p h (suc j) l = absurd (omega (arith, l))

  -- td_byte
  abbrev pub byte_tree : ℕ → Locals → Tree Out
  byte_tree p s = (block_means limit (table 0) no_routine [] [] td_byte.body nowhere []).0 (record (declared [] s) { pos = p })

  abbrev pub byte_vars : (p n v : ℕ) → Locals → Locals
  byte_vars p n v s = record (declared [] s) { pos = p; word = word p; low = offset_at layout p; next = n; held = v }

  pub byte_gives : (p : ℕ) (s : Locals) → p < length message → s.next ≤ word p + 1 → HasHeld memory s
      → Lead s.next (word p + 1) (byte_tree p s) (Done (Gave (byte p) (byte_vars p (word p + 1) (memory (word p)) s))) (places_from p 1)
  byte_gives p s h n held =
      pre extent s.next (word p + 1) (byte_tree p s) (asked_tree (nat_le s.next (word p))) (got (word p + 1) (memory (word p))) (places_from p 1) tree_is
      (by_cases (λ b. Lead s.next (word p + 1) (asked_tree b) (got (word p + 1) (memory (word p))) (places_from p 1)) (nat_le s.next (word p))
      (λ e.
      let le : s.next ≤ word p = grind (arith, e) in
      post extent s.next (word p + 1) (Loads (word p) (λ v. ready (word p + 1) v)) (ready (word p + 1) (memory (word p)))
      (got (word p + 1) (memory (word p))) (places_from p 1)
      (load_leads extent s.next p 1 (λ v. ready (word p + 1) v) (memory (word p)) refl le (omega arith) one (omega (arith, h)))
      (ready_is (word p + 1) (memory (word p))))
      (λ e.
      let at : s.next ≡ word p + 1 = grind (arith, e, n) in
      held_leads extent s.next p 1 (ready s.next s.held) (got (word p + 1) (memory (word p)))
      ((λ i. ready (at i) (held (word p) at i)) ∙ ready_is (word p + 1) (memory (word p))) at one (omega (arith, h))))
    where
      o : ℕ
      o = offset_at layout p

      there : nat_lt p (length_in layout) ≡ true
      there = lt-ltb p (length_in layout) (omega (arith, h, size))

      first : Locals
      first = record (declared [] s) { pos = p }

      second : Locals
      second = record (declared [] s) { pos = p; word = word p }

      means : Block → Continuation
      means b = (block_means limit (table 0) no_routine [] [] b nowhere []).0

      last : Block
      last = Return (Binary And (Binary Shr (Get Held) (Binary Mul (Get Low) (Num 8))) (Num 255)) Ends

      test : Block
      test = If (Binary Le (Get Next) (Get Word)) (Load Ends) last

      ready : ℕ → ℕ → Tree Out
      ready n v = means last (byte_vars p n v s)

      got : ℕ → ℕ → Tree Out
      got n v = Done (Gave (byte_of v o) (byte_vars p n v s))

      asked_tree : Bool → Tree Out
      asked_tree b = cond (nat_eq (bit b) 0) (ready s.next s.held) (Loads (word p) (λ v. ready (word p + 1) v))

      tree_is : byte_tree p s ≡ asked_tree (nat_le s.next (word p))
      tree_is =
          ap (λ b. bind (cond b (Done (Gave (word p) first)) (Done Undefined))
          (after_helper Word first (means (CallHelper Low 10 (Get Pos ∷ []) [] test)))) there
          ∙ ap (λ b. bind (cond b (Done (Gave o second)) (Done Undefined)) (after_helper Low second (means test))) there

      shr_is : (v : ℕ) → applied Shr v ((o * 8) % 2 ^ 64) ≡ Some (v / 2 ^ (8 * o))
      shr_is v =
          let wide : nat_le 64 (8 * (place_at layout p % 8)) ≡ false = grind arith in
          ap (applied Shr v) (low_is (place_at layout p)) ∙ ap (λ b. cond b None (Some (v / 2 ^ (8 * o)))) wide

      ready_is : (n v : ℕ) → ready n v ≡ got n v
      ready_is n v =
          ap (λ r. given (and_then r (λ m. applied And m 255)) (λ x. Done (Gave x (byte_vars p n v s)))) (shr_is v)
          ∙ ap (λ x. Done (Gave x (byte_vars p n v s))) (and_mask (v / 2 ^ (8 * o)) 8)

      one : AreInOne (word_at layout) p 1
      one q a b = let e : p ≡ q = omega (arith, a, b) in subst (λ x. word x < word p + 1) e (omega arith)

  module _ (helpers : Helpers) (is_byte : (p : ℕ) (s : Locals) → helpers 0 (p ∷ []) [] s ≡ byte_tree p s) where
    abbrev means : Block → Continuation
    means b = (block_means limit helpers no_routine [] [] b nowhere []).0

    -- the variables where byte q was taken last
    abbrev vars : (s : Locals) → (p q number more : ℕ) → Locals
    vars s p q number more = record (declared [] s) { pos = p; number = number; more = more; next = word q + 1; held = memory (word q) }

    -- the bytes from p + suc j on, up to p + last, above a number of suc j bytes
    record Above (s : Locals) (p j left number more last : ℕ) : Type 0 where
      value : ℕ
      most : ℕ
      fits : value < 2 ^ (8 * suc last)
      digits : HasDigits message p (suc last) value
      leads : Lead (word (p + j) + 1) (word (p + last) + 1) (means (more_bytes (suc j) left) (vars s p (p + j) number more))
          (Done (Gave value (vars s p (p + last) value most))) (places_from (p + suc j) left)

    above : (s : Locals) (p left j number more last : ℕ) → last ≡ j + left → last < 8 → p + last < length message → number < 2 ^ (8 * suc j)
        → HasDigits message p (suc j) number
        → Above s p j left number more last
    above s p zero j number more last e few inside fits digits =
        let same : j ≡ last = omega (arith, e) in
        subst (λ x. Above s p j zero number more x) same (record {
          value = number;
          most = more;
          fits = fits;
          digits = digits;
          leads = same_tree extent (word (p + j) + 1) (means (more_bytes (suc j) zero) (vars s p (p + j) number more))
              (Done (Gave number (vars s p (p + j) number more))) refl;
        })
    above s p (suc left) j number more last e few inside fits digits =
        let q = p + suc j in
        let b = byte q in
        let u = vars s p (p + j) number more in
        let low : j < 7 = omega (arith, e, few) in
        let there : q < length message = omega (arith, e, inside) in
        let new = b * 2 ^ (8 * suc j) + number in
        let next : suc j + 1 ≡ suc (suc j) = omega arith in
        let here : q ≡ p + suc j = refl in
        let r = above s p left (suc j) new b last (omega (arith, e)) few inside (put_fits j b number low (byte_small q) fits)
        (subst (λ k. HasDigits message p k new) next (joined_digits message p (suc j) 1 b number fits digits (byte_digit q there))) in
        let go : Continuation = means (Assign Number (Binary Add (Get Number) (Binary Shl (Get More) (Num (8 * suc j)))) (more_bytes (suc (suc j)) left)) in
        let whole : q % 2 ^ 64 ≡ q = omega (arith, there, short) in
        let wide : nat_le 64 (8 * suc j) ≡ false = lt-leb 64 (8 * suc j) (omega (arith, low)) in
        let x : ℕ → Tree Out = λ v. means (more_bytes (suc (suc j)) left) (record (vars s p q number b) { number = v }) in
        let step : go (vars s p q number b) ≡ x new =
        ap (λ c. given (and_then (cond c None (Some (b * 2 ^ (8 * suc j) % 2 ^ 64))) (applied Add number)) x) wide
        ∙ ap x (put_above j b number low (byte_small q) fits) in
        let rising = word_rises layout (p + j) q (omega arith) in
        let taken : Lead (word (p + j) + 1) (word q + 1) (bind (byte_tree q u) (after_helper More u go)) (go (vars s p q number b)) (places_from q 1) =
        asked extent (word (p + j) + 1) (word q + 1) (byte_tree q u) b (byte_vars q (word q + 1) (memory (word q)) u) u More go (places_from q 1)
        (byte_gives q u there (omega (arith, rising)) (λ w f. let k : word (p + j) ≡ w = omega (arith, f) in ap memory k)) in
        let first : Lead (word (p + j) + 1) (word q + 1) (means (more_bytes (suc j) (suc left)) u) (x new) (places_from q 1) =
        pre extent (word (p + j) + 1) (word q + 1) (means (more_bytes (suc j) (suc left)) u) (bind (byte_tree q u) (after_helper More u go)) (x new)
        (places_from q 1)
        (ap (λ z. bind (helpers 0 (z ∷ []) [] u) (after_helper More u go)) whole ∙ ap (λ t. bind t (after_helper More u go)) (is_byte q u))
        (post extent (word (p + j) + 1) (word q + 1) (bind (byte_tree q u) (after_helper More u go)) (go (vars s p q number b)) (x new) (places_from q 1)
        taken step) in
        let places : p + suc (suc j) ≡ p + suc j + 1 = omega arith in
        record {
          value = r.value;
          most = r.most;
          fits = r.fits;
          digits = r.digits;
          leads = subst (λ z. Lead (word (p + j) + 1) (word (p + last) + 1) (means (more_bytes (suc j) (suc left)) u)
              (Done (Gave r.value (vars s p (p + last) r.value r.most))) (q ∷ places_from z left)) places
              (then extent (word (p + j) + 1) (word q + 1) (word (p + last) + 1) (means (more_bytes (suc j) (suc left)) u) (x new)
              (Done (Gave r.value (vars s p (p + last) r.value r.most))) (places_from q 1) (places_from (p + suc (suc j)) left) first r.leads);
        }

    -- a number of suc left bytes
    record Numbered (s : Locals) (tree : Tree Out) (p left : ℕ) : Type 0 where
      value : ℕ
      most : ℕ
      fits : value < 2 ^ (8 * suc left)
      digits : HasDigits message p (suc left) value
      leads : Lead s.next (word (p + left) + 1) tree (Done (Gave value (vars s p (p + left) value most))) (places_from p (suc left))

    abbrev little_tree : (left p : ℕ) → Locals → Tree Out
    little_tree left p s = means (CallHelper Number 0 (Get Pos ∷ []) [] (more_bytes 1 left)) (record (declared [] s) { pos = p })

    little_gives : (s : Locals) (left p : ℕ) → left < 8 → p + left < length message → s.next ≤ word p + 1 → HasHeld memory s
        → Numbered s (little_tree left p s) p left
    little_gives s left p few inside n held =
        let u : Locals = record (declared [] s) { pos = p } in
        let there : p < length message = omega (arith, inside) in
        let b = byte p in
        let at : p ≡ p + 0 = omega arith in
        let go : Continuation = means (more_bytes 1 left) in
        let r = above s p left 0 b 0 left (omega arith) few inside (byte_small p) (byte_digit p there) in
        let first : Lead s.next (word (p + 0) + 1) (little_tree left p s) (go (vars s p (p + 0) b 0)) (places_from p 1) =
        subst (λ q. Lead s.next (word q + 1) (little_tree left p s) (go (vars s p q b 0)) (places_from p 1)) at
        (pre extent s.next (word p + 1) (little_tree left p s) (bind (byte_tree p u) (after_helper Number u go)) (go (vars s p p b 0)) (places_from p 1)
        (ap (λ t. bind t (after_helper Number u go)) (is_byte p u))
        (asked extent s.next (word p + 1) (byte_tree p u) b (byte_vars p (word p + 1) (memory (word p)) u) u Number go (places_from p 1)
        (byte_gives p u there n held))) in
        record {
          value = r.value;
          most = r.most;
          fits = r.fits;
          digits = r.digits;
          leads = then extent s.next (word (p + 0) + 1) (word (p + left) + 1) (little_tree left p s) (go (vars s p (p + 0) b 0))
              (Done (Gave r.value (vars s p (p + left) r.value r.most))) (places_from p 1) (places_from (p + 1) left) first r.leads;
        }

  abbrev Taken : (s : Locals) (tree : Tree Out) (order p w : ℕ) → Type 0
  Taken s tree order p w =
      IsTaken (word_at layout) memory s tree (places_from p w) (ordered_at (order_of order) message p w) (word (p + w - 1))

  abbrev Ordered : (s : Locals) (order p w : ℕ) → Type 0
  Ordered s order p w = Taken s (table 9 (number_helper order w) (p ∷ []) [] s) order p w

  -- the lowest byte first
  rising_taken : (helpers : Helpers) (is_byte : (p : ℕ) (s : Locals) → helpers 0 (p ∷ []) [] s ≡ byte_tree p s) (s : Locals) (tree : Tree Out)
      (left p : ℕ) → tree ≡ little_tree helpers is_byte left p s → left < 8
      → Numbered helpers is_byte s (little_tree helpers is_byte left p s) p left → Taken s tree 0 p (suc left)
  rising_taken helpers is_byte s tree left p e few g =
      let right = rising_digits message p (suc left) g.value g.fits g.digits in
      let last : p + left ≡ p + suc left - 1 = omega arith in
      let final = vars helpers is_byte s p (p + left) g.value g.most in
      subst (λ t. Taken s t 0 p (suc left)) (sym e) (record {
        final = final;
        gives = g.leads.same ∙ ap (λ v. Gave v final) right;
        words = g.leads.words ∙ append-nil (fresh (word_at layout) s.next (places_from p (suc left)));
        then = (λ i. record s { next = word (last i) + 1; held = memory (word (last i)) });
        fits = subst (λ v. v < 2 ^ 64) right (fits_word g.value (suc left) (omega (arith, few)) g.fits);
      })

  -- the highest byte first
  falling_taken : (helpers : Helpers) (is_byte : (p : ℕ) (s : Locals) → helpers 0 (p ∷ []) [] s ≡ byte_tree p s) (outer : Helpers) (number : ℕ)
      (s : Locals) (tree : Tree Out) (x left p : ℕ) → left < 8
      → (let u : Locals = record (declared [] s) { pos = p } in
      tree ≡ bind (little_tree helpers is_byte left p u)
      (after_helper Number u
      (block_means limit outer no_routine [] [] (Return (Binary Shr (Swapped (Get Number)) (Num (64 - 8 * suc left))) Ends) nowhere []).0)
      → Numbered helpers is_byte u (little_tree helpers is_byte left p u) p left → Taken s tree (suc x) p (suc left))
  falling_taken helpers is_byte outer number s tree x left p few e g =
      let u : Locals = record (declared [] s) { pos = p } in
      let rest : Continuation =
      (block_means limit outer no_routine [] [] (Return (Binary Shr (Swapped (Get Number)) (Num (64 - 8 * suc left))) Ends) nowhere []).0 in
      let little = little_tree helpers is_byte left p u in
      let final = vars helpers is_byte u p (p + left) g.value g.most in
      let v = swap_bytes w64 g.value / 2 ^ (64 - 8 * suc left) in
      let t : Locals = record (shared u final) { number = g.value } in
      let last : p + left ≡ p + suc left - 1 = omega arith in
      let right = falling_digits (suc left) message p g.value (omega arith) (omega (arith, few)) g.fits g.digits in
      let narrow : nat_le 64 (64 - 8 * suc left) ≡ false = lt-leb 64 (64 - 8 * suc left) (omega arith) in
      let led = asked extent s.next (word (p + left) + 1) little g.value final u Number rest (places_from p (suc left)) g.leads in
      let step : rest t ≡ Done (Gave v t) = ap (λ b. given (cond b None (Some v)) (λ z. Done (Gave z t))) narrow in
      let all = post extent s.next (word (p + left) + 1) (bind little (after_helper Number u rest)) (rest t) (Done (Gave v t)) (places_from p (suc left))
      led step in
      subst (λ z. Taken s z (suc x) p (suc left)) (sym e) (record {
        final = t;
        gives = all.same ∙ ap (λ z. Gave z t) right;
        words = all.words ∙ append-nil (fresh (word_at layout) s.next (places_from p (suc left)));
        then = (λ i. record s { next = word (last i) + 1; held = memory (word (last i)) });
        fits = subst (λ z. z < 2 ^ 64) right (quotient_small (swap_bytes w64 g.value) (2 ^ (64 - 8 * suc left)) (swap_small g.value));
      })

  module _ (s : Locals) (p : ℕ) (n : s.next ≤ word p + 1) (held : HasHeld memory s) where
    one_byte : p + 1 ≤ length message → Ordered s 0 p 1
    one_byte l =
        rising_taken (table 1) (λ q u. refl) s (table 9 1 (p ∷ []) [] s) 0 p refl (omega arith)
        (little_gives (table 1) (λ q u. refl) s 0 p (omega arith) (omega (arith, l)) n held)

    gives_1 : (order : ℕ) → p + 1 ≤ length message → Ordered s order p 1
    gives_1 zero l = one_byte l
    gives_1 (suc x) l = let t = one_byte l in record { final = t.final; gives = t.gives; words = t.words; then = t.then; fits = t.fits }

    gives_2 : (order : ℕ) → p + 2 ≤ length message → Ordered s order p 2
    gives_2 zero l =
        rising_taken (table 2) (λ q u. refl) s (table 9 2 (p ∷ []) [] s) 1 p refl (omega arith)
        (little_gives (table 2) (λ q u. refl) s 1 p (omega arith) (omega (arith, l)) n held)
    gives_2 (suc x) l =
        falling_taken (table 2) (λ q u. refl) (table 5) 2 s (table 9 5 (p ∷ []) [] s) x 1 p (omega arith) refl
        (little_gives (table 2) (λ q u. refl) (record (declared [] s) { pos = p }) 1 p (omega arith) (omega (arith, l)) n held)

    gives_4 : (order : ℕ) → p + 4 ≤ length message → Ordered s order p 4
    gives_4 zero l =
        rising_taken (table 3) (λ q u. refl) s (table 9 3 (p ∷ []) [] s) 3 p refl (omega arith)
        (little_gives (table 3) (λ q u. refl) s 3 p (omega arith) (omega (arith, l)) n held)
    gives_4 (suc x) l =
        falling_taken (table 3) (λ q u. refl) (table 6) 3 s (table 9 6 (p ∷ []) [] s) x 3 p (omega arith) refl
        (little_gives (table 3) (λ q u. refl) (record (declared [] s) { pos = p }) 3 p (omega arith) (omega (arith, l)) n held)

    gives_8 : (order : ℕ) → p + 8 ≤ length message → Ordered s order p 8
    gives_8 zero l =
        rising_taken (table 4) (λ q u. refl) s (table 9 4 (p ∷ []) [] s) 7 p refl (omega arith)
        (little_gives (table 4) (λ q u. refl) s 7 p (omega arith) (omega (arith, l)) n held)
    gives_8 (suc x) l =
        falling_taken (table 4) (λ q u. refl) (table 7) 4 s (table 9 7 (p ∷ []) [] s) x 7 p (omega arith) refl
        (little_gives (table 4) (λ q u. refl) (record (declared [] s) { pos = p }) 7 p (omega arith) (omega (arith, l)) n held)

    pub number_taken : (order w : ℕ) → IsWidth w → p + w ≤ length message → Ordered s order p w
    number_taken order w (inl e) l = subst (λ k. p + k ≤ length message → Ordered s order p k) (sym e) (gives_1 order) l
    number_taken order w (inr (inl e)) l = subst (λ k. p + k ≤ length message → Ordered s order p k) (sym e) (gives_2 order) l
    number_taken order w (inr (inr (inl e))) l = subst (λ k. p + k ≤ length message → Ordered s order p k) (sym e) (gives_4 order) l
    number_taken order w (inr (inr (inr e))) l = subst (λ k. p + k ≤ length message → Ordered s order p k) (sym e) (gives_8 order) l
