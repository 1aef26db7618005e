-- Helpers: the number at a position, what is loaded for it, and what it is. Cited by other crates.
use Rattle.std.proofs.Common.{◌≡◌, ℕ, zero, suc, ◌+◌, ◌-◌, ◌*◌, ◌/◌, ◌%◌, ◌^◌, ◌<◌, ◌≤◌, inl, inr, Bool, true, false, cond, List, [], ◌∷◌, ◌++◌, length, refl, sym, ap, ◌∙◌, subst, arith}
use Rattle.std.specs.Prelude.{nat_lt, nat_le, nat_eq, Some, None}
use Rattle.std.specs.Int.{w64, swap_bytes}
use Rattle.std.proofs.lemmas.Nat.{and_mask, mod_below, pow_pos}
use Rattle.std.proofs.Math.Nat.{mod-eq_of_lt}
use Rattle.td_num.specs.Numbers.{places_from, ordered_at}
use Rattle.td_stream.specs.Digits.{HasDigits}
use Rattle.td_stream.proofs.Digits.{rising_digits, falling_digits, fits_word}
use Rattle.td_ir.specs.Values.{bit, order_of}
use Rattle.td_verify.specs.Operands.{IsWidth}
use Rattle.td_prog.specs.Tree.{Tree, Done, Loads, bind}
use Rattle.td_prog.specs.Syntax.{Pos, Low, Number, More, Add, Sub, And, Shl, Shr, Lt, Num, Get, Binary, Swapped, Block, Ends, Assign, If, Return, CallHelper}
use Rattle.td_prog.specs.Values.{Locals, and_then, applied}
use Rattle.td_prog.specs.Means.{Out, Gave, Continuation, Helpers, nowhere, given, shared, after_helper, block_means}
use Rattle.td_prog.specs.Run.{declared, no_routine, helpers_below}
use Rattle.td_prog_code.specs.Prelude.{word, plus, td_word, little_body, number_helper, prelude}
use Rattle.td_prog_trees.specs.Memory.{IsMemory}
use Rattle.td_prog_trees.specs.Agree.{Numbering, Basis, Extent}
use Rattle.td_prog_trees.proofs.Composing.{by_cases, Leads}
use Rattle.td_prog_trees.proofs.Numbers.{quotient_small, one_word, two_words, one_digits, two_digits, low_digits, back_is, sum_small}
use Rattle.td_prog_trees.proofs.Leading.{AreInOne, places_split, then, load_leads, held_leads, pre, post, asked}

pub some_width : (w : ℕ) → IsWidth w → 0 < w
some_width w (inl e) = omega (arith, e)
some_width w (inr (inl e)) = omega (arith, e)
some_width w (inr (inr (inl e))) = omega (arith, e)
some_width w (inr (inr (inr e))) = omega (arith, e)

eight_small : (a b c d e f g h : ℕ) → a < 256 → b < 256 → c < 256 → d < 256 → e < 256 → f < 256 → g < 256 → h < 256
    → a * 72057594037927936 + b * 281474976710656 + c * 1099511627776 + d * 4294967296 + e * 16777216 + f * 65536 + g * 256 + h < 2 ^ 64
eight_small a b c d e f g h la lb lc ld le lf lg lh = omega (arith, la, lb, lc, ld, le, lf, lg, lh)

byte_small : (n : ℕ) → n % 256 < 256
byte_small n = omega arith

pub swap_small : (n : ℕ) → swap_bytes w64 n < 2 ^ 64
swap_small n =
    eight_small (n % 256) (n / 256 % 256) (n / 65536 % 256) (n / 16777216 % 256) (n / 4294967296 % 256) (n / 1099511627776 % 256)
    (n / 281474976710656 % 256) (n / 72057594037927936 % 256)
    (byte_small n) (byte_small (n / 256)) (byte_small (n / 65536)) (byte_small (n / 16777216)) (byte_small (n / 4294967296))
    (byte_small (n / 1099511627776)) (byte_small (n / 281474976710656)) (byte_small (n / 72057594037927936))

-- a place's bits in its word
pub low_is : (p : ℕ) → (p % 8 * 8) % 2 ^ 64 ≡ 8 * (p % 8)
low_is p = omega arith

-- td_word, of a word; and the variables that it leaves
abbrev pub word_tree : (most w : ℕ) → Locals → Tree Out
word_tree most w s = (block_means most (helpers_below most prelude 0) no_routine [] [] td_word.body nowhere []).0 (record (declared [] s) { word = w })

abbrev pub held_word : (ℕ → ℕ) → ℕ → Locals → Locals
held_word memory w s = record (declared [] s) { word = w; next = w + 1; held = memory w }

-- a message at the front of a buffer: eight bytes a word
abbrev pub eights : Numbering
eights = record { word = λ p. p / 8; rises = λ p q h. omega (arith, h) }

-- memory that stays, and what a run on it stands on, up to an end
pub record Plainly : Type 0 where
  pub memory : ℕ → ℕ
  pub basis : Basis
  pub to : ℕ

abbrev pub extent_of : Plainly → Extent
extent_of plainly = record { memory = plainly.memory; numbering = eights; basis = plainly.basis; from = 0; to = plainly.to }

-- memory holds a message of less than 2^32 bytes
pub record IsPlain (plainly : Plainly) : Type 0 where
  pub holds : IsMemory plainly.memory plainly.basis.message
  pub short : length plainly.basis.message < 2 ^ 32
  pub inside : plainly.to ≤ length plainly.basis.message

in_one : (p w : ℕ) → p % 8 + w ≤ 8 → AreInOne (λ q. q / 8) p w
in_one p w l q a b = omega (arith, l, a, b)

module _ (plainly : Plainly) where
  open plainly use {memory, basis, to}
  open basis use {message}

  abbrev extent : Extent
  extent = extent_of plainly

  abbrev Leading : (next next' : ℕ) → Tree Out → Tree Out → List ℕ → Type 0
  Leading next next' y x touched = Leads extent next next' y x touched

  module _ (most : ℕ) where
    pub word_gives : (s : Locals) (p a k : ℕ) → p / 8 ≡ k → s.next ≤ k + 1 → ((w : ℕ) → s.next ≡ w + 1 → s.held ≡ memory w) → 0 < a → p % 8 + a ≤ 8
        → p + a ≤ to
        → Leading s.next (k + 1) (word_tree most k s) (Done (Gave (memory k) (held_word memory k s))) (places_from p a)
    word_gives s p a k q n h some l inside =
        by_cases (λ b. Leading s.next (k + 1) (cond (nat_eq (bit b) 0) (ready s.next s.held) (Loads k (λ v. ready (k + 1) v))) (ready (k + 1) (memory k))
        (places_from p a)) (nat_le s.next k)
        (λ e.
        let le : s.next ≤ p / 8 = grind (arith, e, q) in
        subst (λ j. Leading s.next (j + 1) (Loads j (λ v. ready (k + 1) v)) (ready (k + 1) (memory j)) (places_from p a)) q
        (load_leads extent s.next p a (λ v. ready (k + 1) v) (memory (p / 8)) refl le some (in_one p a l) inside))
        (λ e.
        let at : s.next ≡ k + 1 = grind (arith, e, n) in
        let at' : s.next ≡ p / 8 + 1 = omega (arith, at, q) in
        subst (λ j. Leading s.next (j + 1) (ready s.next s.held) (ready (k + 1) (memory k)) (places_from p a)) q
        (held_leads extent s.next p a (ready s.next s.held) (ready (k + 1) (memory k)) (λ i. ready (at i) (h k at i)) at' (in_one p a l) inside))
      where
        ready : ℕ → ℕ → Tree Out
        ready n v = Done (Gave v (record (declared [] s) { word = k; next = n; held = v }))

    -- a helper's run: its value, the word that is held then, the places that it looks at
    pub record Gives (tree : Tree Out) (s : Locals) (k : ℕ) (touched : List ℕ) : Type 0 where
      pub value : ℕ
      pub final : Locals
      pub leads : Leading s.next (k + 1) tree (Done (Gave value final)) touched
      pub back : shared s final ≡ record s { next = k + 1; held = memory k }

    module _ (within : IsPlain plainly) where
      open within use {holds, short, inside}

      pub record IsNumber (p w v : ℕ) : Type 0 where
        pub fits : v < 2 ^ (8 * w)
        pub digits : HasDigits message p w v

      pub record GivesNumber (tree : Tree Out) (s : Locals) (p w : ℕ) : Type 0 where
        pub gives : Gives tree s ((p + w - 1) / 8) (places_from p w)
        pub right : IsNumber p w gives.value

      -- the same in an order
      pub record GivesOrdered (tree : Tree Out) (s : Locals) (order p w : ℕ) : Type 0 where
        pub gives : Gives tree s ((p + w - 1) / 8) (places_from p w)
        pub small : gives.value < 2 ^ 64
        pub right : gives.value ≡ ordered_at (order_of order) message p w

      shr_is : (p m : ℕ) → applied Shr m ((p % 8 * 8) % 2 ^ 64) ≡ Some (m / 2 ^ (8 * (p % 8)))
      shr_is p m =
          let wide : nat_le 64 (8 * (p % 8)) ≡ false = grind arith in
          ap (applied Shr m) (low_is p) ∙ ap (λ b. cond b None (Some (m / 2 ^ (8 * (p % 8))))) wide

      two_is : (p : ℕ) → 0 < p % 8
          → and_then (and_then (applied Sub 64 ((p % 8 * 8) % 2 ^ 64)) (applied Shl (memory (p / 8 + 1)))) (applied Add (one_word memory message holds p))
          ≡ Some (two_words memory message holds p)
      two_is p some =
          let o : p % 8 < 8 = mod_below p 8 (omega arith) in
          let m = memory (p / 8 + 1) in
          let k : (64 + (2 ^ 64 - (p % 8 * 8) % 2 ^ 64)) % 2 ^ 64 ≡ 64 - 8 * (p % 8) = omega arith in
          let wide : nat_le 64 (64 - 8 * (p % 8)) ≡ false = grind arith in
          let back = back_is m (p % 8) o in
          ap (λ n. and_then (applied Shl m n) (applied Add (one_word memory message holds p))) k
          ∙ ap (λ b. and_then (cond b None (Some ((m * 2 ^ (64 - 8 * (p % 8))) % 2 ^ 64))) (applied Add (one_word memory message holds p))) wide
          ∙ ap (λ n. Some ((one_word memory message holds p + n) % 2 ^ 64)) back
          ∙ ap Some (mod-eq_of_lt (sum_small (memory (p / 8)) m (p % 8) o (holds.words (p / 8))))

      module _ (helpers : Helpers) (is_word : (w : ℕ) (s : Locals) → helpers 0 (w ∷ []) [] s ≡ word_tree most w s) where
        abbrev pub little_tree : ℕ → ℕ → Locals → Tree Out
        little_tree w p s = (block_means most helpers no_routine [] [] (little_body w) nowhere []).0 (record (declared [] s) { pos = p })

        pub little_gives : (s : Locals) (p w : ℕ) → s.next ≤ p / 8 + 1 → ((k : ℕ) → s.next ≡ k + 1 → s.held ≡ memory k) → 0 < w → w ≤ 8 → p + w ≤ to
            → GivesNumber (little_tree w p s) s p w
        little_gives s p w n h some few there = by (nat_lt (64 - 8 * w) (8 * (p % 8))) refl
          where
            number : ℕ
            number = one_word memory message holds p

            lo : ℕ
            lo = (p % 8 * 8) % 2 ^ 64

            -- the variables of the helper where word k is held
            vars : (k number more : ℕ) → Locals
            vars k number more = record (declared [] s) { pos = p; low = lo; number = number; more = more; next = k + 1; held = memory k }

            first_vars : Locals
            first_vars = record (declared [] s) { pos = p; low = lo }

            last : Block
            last = Return (Binary And (Get Number) (Num (2 ^ (8 * w) - 1))) Ends

            second : Block
            second = Assign Number (Binary Add (Get Number) (Binary Shl (Get More) (Binary Sub (Num 64) (Get Low)))) Ends

            test : Block
            test = If (Binary Lt (Num (64 - 8 * w)) (Get Low)) (CallHelper More 0 (plus word 1 ∷ []) [] second) last

            means : Block → Continuation
            means b = (block_means most helpers no_routine [] [] b nowhere []).0

            held_small : memory (p / 8) < 2 ^ 64
            held_small = holds.words (p / 8)

            -- the word is held, and its part taken
            to_number : (a : ℕ) → 0 < a → p % 8 + a ≤ 8 → p + a ≤ to
                → Leading s.next (p / 8 + 1) (little_tree w p s) (means test (vars (p / 8) number 0)) (places_from p a)
            to_number a sa l in_it =
                pre extent s.next (p / 8 + 1) (little_tree w p s)
                (bind (word_tree most (p / 8) first_vars)
                (after_helper Number first_vars (means (Assign Number (Binary Shr (Get Number) (Get Low)) test)))) (means test (vars (p / 8) number 0))
                (places_from p a)
                (ap (λ x. bind x (after_helper Number first_vars (means (Assign Number (Binary Shr (Get Number) (Get Low)) test))))
                (is_word (p / 8) first_vars))
                (post extent s.next (p / 8 + 1) (bind (word_tree most (p / 8) first_vars)
                (after_helper Number first_vars (means (Assign Number (Binary Shr (Get Number) (Get Low)) test))))
                (means (Assign Number (Binary Shr (Get Number) (Get Low)) test) (vars (p / 8) (memory (p / 8)) 0)) (means test (vars (p / 8) number 0))
                (places_from p a)
                (asked extent s.next (p / 8 + 1) (word_tree most (p / 8) first_vars) (memory (p / 8)) (held_word memory (p / 8) first_vars) first_vars Number
                (means (Assign Number (Binary Shr (Get Number) (Get Low)) test)) (places_from p a)
                (word_gives first_vars p a (p / 8) refl n h sa l in_it))
                (ap (λ r. given r (λ v. means test (vars (p / 8) v 0))) (shr_is p (memory (p / 8)))))

            more_tree : Tree Out
            more_tree =
                bind (helpers 0 ((p / 8 + 1) % 2 ^ 64 ∷ []) [] (vars (p / 8) number 0))
                (after_helper More (vars (p / 8) number 0) (block_means most helpers no_routine [] [] second (means last) []).0)

            tested : (b : Bool) → nat_lt (64 - 8 * w) (8 * (p % 8)) ≡ b
                → means test (vars (p / 8) number 0) ≡ cond (nat_eq (bit b) 0) (means last (vars (p / 8) number 0)) more_tree
            tested b e = ap (λ x. cond (nat_eq (bit x) 0) (means last (vars (p / 8) number 0)) more_tree) (ap (nat_lt (64 - 8 * w)) (low_is p) ∙ e)

            done : (k v m : ℕ) → means last (vars k v m) ≡ Done (Gave (v % 2 ^ (8 * w)) (vars k v m))
            done k v m = ap (λ x. Done (Gave x (vars k v m))) (and_mask v (8 * w))

            gives : (k v number more : ℕ) → k ≡ (p + w - 1) / 8 → IsNumber p w v
                → Leading s.next (k + 1) (little_tree w p s) (Done (Gave v (vars k number more))) (places_from p w) → GivesNumber (little_tree w p s) s p w
            gives k v number more e right l =
                let x : (x : Gives (little_tree w p s) s ((p + w - 1) / 8) (places_from p w)) × IsNumber p w x.value =
                subst (λ j. (x : Gives (little_tree w p s) s j (places_from p w)) × IsNumber p w x.value) e
                (record { value = v; final = vars k number more; leads = l; back = refl }, right) in
                record { gives = x.0; right = x.1 }

            by : (b : Bool) → nat_lt (64 - 8 * w) (8 * (p % 8)) ≡ b → GivesNumber (little_tree w p s) s p w
            by false e =
                let one : p % 8 + w ≤ 8 = grind (arith, e, few) in
                gives (p / 8) (number % 2 ^ (8 * w)) number 0 (omega (arith, one, some))
                (record {
                  fits = mod_below number (2 ^ (8 * w)) (pow_pos (8 * w));
                  digits = one_digits memory message holds p w few one
                      (omega (arith, there, inside));
                })
                (post extent s.next (p / 8 + 1) (little_tree w p s) (means test (vars (p / 8) number 0))
                (Done (Gave (number % 2 ^ (8 * w)) (vars (p / 8) number 0))) (places_from p w)
                (to_number w some one there)
                (tested false e ∙ done (p / 8) number 0))
            by true e =
                let two : 8 < p % 8 + w = grind (arith, e, few) in
                let a = 8 - p % 8 in
                let k = p / 8 + 1 in
                let whole : k % 2 ^ 64 ≡ k = omega (arith, there, short, inside) in
                let v = two_words memory message holds p in
                let split : a + (w - a) ≡ w = omega (arith, two) in
                let u = vars (p / 8) number 0 in
                let rest : Continuation = (block_means most helpers no_routine [] [] second (means last) []).0 in
                let loads : Tree Out = bind (word_tree most k u) (after_helper More u rest) in
                let first_part = post extent s.next k (little_tree w p s) (means test u) loads (places_from p a)
                (to_number a (omega arith) (omega arith) (omega (arith, there, two)))
                (tested true e ∙ ap (λ x. bind (helpers 0 (x ∷ []) [] u) (after_helper More u rest)) whole ∙ ap (λ x. bind x (after_helper More u rest))
                (is_word k u)) in
                let second_part = asked extent k (k + 1) (word_tree most k u) (memory k) (held_word memory k u) u More rest (places_from (p + a) (w - a))
                (word_gives u (p + a) (w - a) k (omega arith) (omega arith) (λ j q. let r : p / 8 ≡ j = omega (arith, q) in ap memory r)
                (omega (arith, two)) (omega (arith, few)) (omega (arith, there, two))) in
                let last_step : rest (vars k number (memory k)) ≡ Done (Gave (v % 2 ^ (8 * w)) (vars k v (memory k))) =
                ap (λ r. given r (λ x. means last (vars k x (memory k)))) (two_is p (omega (arith, two, few))) ∙ done k v (memory k) in
                let whole_way = then extent s.next k (k + 1) (little_tree w p s) loads (Done (Gave (v % 2 ^ (8 * w)) (vars k v (memory k)))) (places_from p a)
                (places_from (p + a) (w - a)) first_part
                (post extent k (k + 1) loads (rest (vars k number (memory k))) (Done (Gave (v % 2 ^ (8 * w)) (vars k v (memory k))))
                (places_from (p + a) (w - a)) second_part last_step) in
                let places_are : places_from p a ++ places_from (p + a) (w - a) ≡ places_from p w = sym (places_split p a (w - a)) ∙ ap
                (places_from p) split in
                gives k (v % 2 ^ (8 * w)) v (memory k) (omega (arith, two, few))
                (record {
                  fits = mod_below v (2 ^ (8 * w)) (pow_pos (8 * w));
                  digits = low_digits memory message holds p w v
                      (two_digits memory message holds p w few two (omega (arith, there, inside)));
                })
                (subst (λ t. Leading s.next (k + 1) (little_tree w p s) (Done (Gave (v % 2 ^ (8 * w)) (vars k v (memory k)))) t) places_are whole_way)

        rising_gives : (s : Locals) (p w : ℕ) (tree : Tree Out) → tree ≡ little_tree w p s → 0 < w → w ≤ 8 → GivesNumber (little_tree w p s) s p w
            → GivesOrdered tree s 0 p w
        rising_gives s p w tree e some few g = subst (λ t. GivesOrdered t s 0 p w) (sym e) (record {
          gives = g.gives;
          small = fits_word g.gives.value w few g.right.fits;
          right = rising_digits message p w g.gives.value g.right.fits g.right.digits;
        })

        module _ (outer : Helpers) (w number : ℕ) (is_little : (p : ℕ) (s : Locals) → outer number (p ∷ []) [] s ≡ little_tree w p s) where
          abbrev big_tree : ℕ → Locals → Tree Out
          big_tree p s =
              (block_means most outer no_routine [] []
              (CallHelper Number number (Get Pos ∷ []) [] (Return (Binary Shr (Swapped (Get Number)) (Num (64 - 8 * w))) Ends)) nowhere []).0
              (record (declared [] s) { pos = p })

          falling_gives : (s : Locals) (p x : ℕ) (tree : Tree Out) → tree ≡ big_tree p s → 0 < w → w ≤ 8
              → ((u : Locals) → u.next ≡ s.next → ((k : ℕ) → u.next ≡ k + 1 → u.held ≡ memory k) → GivesNumber (little_tree w p u) u p w)
              → ((k : ℕ) → s.next ≡ k + 1 → s.held ≡ memory k) → GivesOrdered tree s (suc x) p w
          falling_gives s p x tree e some few make h = subst (λ t. GivesOrdered t s (suc x) p w) (sym e) (record {
            gives = record {
              value = v;
              final = t;
              leads = leads;
              back = ap
                  (λ (z : Locals). record s { next = z.next; held = z.held; cells = z.cells; buffers = z.buffers }) g.gives.back;
            };
            small = quotient_small (swap_bytes w64 g.gives.value) (2 ^ (64 - 8 * w)) (swap_small g.gives.value);
            right = falling_digits w message p g.gives.value some few g.right.fits g.right.digits;
          })
            where
              u : Locals
              u = record (declared [] s) { pos = p }

              g : GivesNumber (little_tree w p u) u p w
              g = make u refl h

              v : ℕ
              v = swap_bytes w64 g.gives.value / 2 ^ (64 - 8 * w)

              t : Locals
              t = record (shared u g.gives.final) { number = g.gives.value }

              rest : Continuation
              rest = (block_means most outer no_routine [] [] (Return (Binary Shr (Swapped (Get Number)) (Num (64 - 8 * w))) Ends) nowhere []).0

              k : ℕ
              k = (p + w - 1) / 8

              leads : Leading s.next (k + 1) (big_tree p s) (Done (Gave v t)) (places_from p w)
              leads =
                  let narrow : nat_le 64 (64 - 8 * w) ≡ false = grind (arith, some) in
                  pre extent s.next (k + 1) (big_tree p s) (bind (little_tree w p u) (after_helper Number u rest)) (Done (Gave v t)) (places_from p w)
                  (ap (λ z. bind z (after_helper Number u rest)) (is_little p u))
                  (post extent s.next (k + 1) (bind (little_tree w p u) (after_helper Number u rest)) (rest t) (Done (Gave v t)) (places_from p w)
                  (asked extent s.next (k + 1) (little_tree w p u) g.gives.value g.gives.final u Number rest (places_from p w) g.gives.leads)
                  (ap (λ b. given (cond b None (Some v)) (λ z. Done (Gave z t))) narrow))

      abbrev table : ℕ → Helpers
      table k = helpers_below most prelude k

      module _ (s : Locals) (p : ℕ) (n : s.next ≤ p / 8 + 1) (h : (k : ℕ) → s.next ≡ k + 1 → s.held ≡ memory k) where
        abbrev Ordered : ℕ → ℕ → Type 0
        Ordered order w = p + w ≤ to → GivesOrdered (table 9 (number_helper order w) (p ∷ []) [] s) s order p w

        little_one : (k w : ℕ) (is_word : (x : ℕ) (u : Locals) → table k 0 (x ∷ []) [] u ≡ word_tree most x u) → (tree : Tree Out)
            → tree ≡ little_tree (table k) is_word w p s → 0 < w → w ≤ 8 → p + w ≤ to → GivesOrdered tree s 0 p w
        little_one k w is_word tree e some few l =
            rising_gives (table k) is_word s p w tree e some few (little_gives (table k) is_word s p w n h some few l)

        big_one : (k w number x : ℕ) (is_word : (x : ℕ) (u : Locals) → table k 0 (x ∷ []) [] u ≡ word_tree most x u) (outer : Helpers)
            (is_little : (q : ℕ) (u : Locals) → outer number (q ∷ []) [] u ≡ little_tree (table k) is_word w q u)
            → (tree : Tree Out)
            → tree ≡ big_tree (table k) is_word outer w number is_little p s → 0 < w → w ≤ 8 → p + w ≤ to → GivesOrdered tree s (suc x) p w
        big_one k w number x is_word outer is_little tree e some few l =
            falling_gives (table k) is_word outer w number is_little s p x tree e some few
            (λ u same held. little_gives (table k) is_word u p w (subst (λ m. m ≤ p / 8 + 1) (sym same) n) held some few l) h

        one_byte : (x : ℕ) (tree : Tree Out) → GivesOrdered tree s 0 p 1 → GivesOrdered tree s (suc x) p 1
        one_byte x tree g = record { gives = g.gives; small = g.small; right = g.right }

        gives_1 : (order : ℕ) → Ordered order 1
        gives_1 zero l = little_one 1 1 (λ x u. refl) (table 9 1 (p ∷ []) [] s) refl (omega arith) (omega arith) l
        gives_1 (suc x) l = one_byte x (table 9 1 (p ∷ []) [] s) (little_one 1 1 (λ x u. refl) (table 9 1 (p ∷ []) [] s) refl (omega arith) (omega arith) l)

        gives_2 : (order : ℕ) → Ordered order 2
        gives_2 zero l = little_one 2 2 (λ x u. refl) (table 9 2 (p ∷ []) [] s) refl (omega arith) (omega arith) l
        gives_2 (suc x) l = big_one 2 2 2 x (λ x u. refl) (table 5) (λ q u. refl) (table 9 5 (p ∷ []) [] s) refl (omega arith) (omega arith) l

        gives_4 : (order : ℕ) → Ordered order 4
        gives_4 zero l = little_one 3 4 (λ x u. refl) (table 9 3 (p ∷ []) [] s) refl (omega arith) (omega arith) l
        gives_4 (suc x) l = big_one 3 4 3 x (λ x u. refl) (table 6) (λ q u. refl) (table 9 6 (p ∷ []) [] s) refl (omega arith) (omega arith) l

        gives_8 : (order : ℕ) → Ordered order 8
        gives_8 zero l = little_one 4 8 (λ x u. refl) (table 9 4 (p ∷ []) [] s) refl (omega arith) (omega arith) l
        gives_8 (suc x) l = big_one 4 8 4 x (λ x u. refl) (table 7) (λ q u. refl) (table 9 7 (p ∷ []) [] s) refl (omega arith) (omega arith) l

        pub number_gives : (order w : ℕ) → IsWidth w → Ordered order w
        number_gives order w (inl e) = subst (Ordered order) (sym e) (gives_1 order)
        number_gives order w (inr (inl e)) = subst (Ordered order) (sym e) (gives_2 order)
        number_gives order w (inr (inr (inl e))) = subst (Ordered order) (sym e) (gives_4 order)
        number_gives order w (inr (inr (inr e))) = subst (Ordered order) (sym e) (gives_8 order)
