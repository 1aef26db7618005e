-- The helper that copies bytes into a buffer: what it loads, and what the buffer holds. Cited by other crates.
use Rattle.std.proofs.Common.{◌≡◌, ℕ, zero, suc, ◌+◌, ◌-◌, ◌*◌, ◌/◌, ◌%◌, ◌^◌, ◌<◌, ◌≤◌, inl, inr, Bool, true, false, cond, List, [], ◌∷◌, length, map, Some, None, refl, sym, ap, ◌∙◌, subst, arith, slice_index}
use Rattle.std.specs.Prelude.{nat_lt, nat_le, nat_eq}
use Rattle.std.proofs.lemmas.Bool.{lt-ltb, le-ltb, lt-leb, cases_lt}
use Rattle.std.proofs.lemmas.Nat.{mod_below}
use Rattle.std.proofs.Math.Nat.{mod-eq_of_lt}
use Rattle.td_num.specs.Numbers.{places_from}
use Rattle.td_num.proofs.Truths.{eq_is}
use Rattle.td_ir.specs.State.{left}
use Rattle.td_ir.specs.Values.{bit}
use Rattle.td_prog.specs.Tree.{Tree, Done, bind}
use Rattle.td_prog.specs.Syntax.{Low, Number, More, Room, Count, Sub, Shr, Lt, Num, Get, Binary, Block, Ends, Assign, Byte, If, While, Return, CallHelper}
use Rattle.td_prog.specs.Values.{Locals, value, applied, with_byte}
use Rattle.td_prog.specs.Means.{Out, Gave, Continuation, Helpers, nowhere, given, after_helper, turns, block_means}
use Rattle.td_prog.specs.Run.{no_routine}
use Rattle.td_prog_code.specs.Prelude.{word_helper, word, bytes_from, copied_by, copy_word, copy_byte, copy_turn}
use Rattle.td_prog_trees.specs.Agree.{Extent}
use Rattle.td_prog_trees.proofs.Composing.{Leads}
use Rattle.td_prog_trees.proofs.Fetching.{Plainly, IsPlain, extent_of, word_gives, word_tree, held_word, low_is}
use Rattle.td_prog_trees.proofs.Leading.{asked, places_split, then, pre, post, same_tree}
use Rattle.td_prog_trees.proofs.Buffers.{IsDone, AreOld, puts, byte_more, old_more}

-- A call of td_copy: the memory on which it runs, how many turns its loop may take, the run's buffer, the helpers that it may call (td_word is one), where the bytes begin,
-- and what buffers held before.
pub record Copy : Type 0 where
  pub plainly : Plainly
  pub limit : ℕ
  pub buffer : ℕ
  pub helpers : Helpers
  pub base : ℕ
  pub old : List (List ℕ)
  pub within : IsPlain plainly
  pub is_word : (w : ℕ) (s : Locals) → helpers 0 (w ∷ []) [] s ≡ word_tree limit w s

module _ (copy : Copy) where
  open copy use {plainly, limit, buffer, helpers, base, old, within, is_word}
  open plainly use {memory, basis, to}
  open basis use {message}

  abbrev extent : Extent
  extent = extent_of plainly

  abbrev pub Lead : (next next' : ℕ) → Tree Out → Tree Out → List ℕ → Type 0
  Lead next next' y z touched = Leads extent next next' y z touched

  -- what a block means in td_copy, before what comes behind it
  abbrev pub means : Block → Continuation → Continuation
  means b go = (block_means limit helpers no_routine [] (buffer ∷ []) b go []).0

  -- the buffer holds so many bytes of the message, and the others what they held
  abbrev pub HasBytes : List (List ℕ) → ℕ → Type 0
  HasBytes bs n = IsDone message buffer base old bs n

  abbrev pub HasOthers : List (List ℕ) → Type 0
  HasOthers bs = AreOld message buffer base old bs

  -- some bytes are written
  record Written (go : Continuation) (tree : Tree Out) (u : Locals) (b : Block) (n : ℕ) : Type 0 where
    buffers : List (List ℕ)
    is : tree ≡ means b go (record u { buffers = buffers })
    kept : map length buffers ≡ basis.lengths
    done : HasBytes buffers n
    others : HasOthers buffers

  shr_ok : (v k : ℕ) → k < 64 → applied Shr v k ≡ Some (v / 2 ^ k)
  shr_ok v k h = let wide : nat_le 64 k ≡ false = lt_le 64 k h in ap (λ b. cond b None (Some (v / 2 ^ k))) wide
    where
      lt_le : (a b : ℕ) → b < a → nat_le a b ≡ false
      lt_le a b h = lt-leb a b h

  bytes_written : (go : Continuation) (left k : ℕ) (u : Locals) (b : Block) → map length u.buffers ≡ basis.lengths
      → u.count + k + left ≤ slice_index basis.lengths buffer → u.count + 8 < 2 ^ 64 → k + left ≤ 8
      → HasBytes u.buffers (u.count + k) → HasOthers u.buffers
      → ((i : ℕ) → i < 8 → u.number / 2 ^ (8 * i) % 256 ≡ slice_index message (base + (u.count + i)))
      → Written go (means (bytes_from k left b) go u) u b (u.count + k + left)
  bytes_written go zero k u b kept h small few d o are =
      let e : u.count + k + 0 ≡ u.count + k = omega arith in
      record { buffers = u.buffers; is = refl; kept = kept; done = subst (HasBytes u.buffers) (sym e) d; others = o }
  bytes_written go (suc left) k u b kept h small few d o are =
      let whole : (u.count + k) % 2 ^ 64 ≡ u.count + k = mod-eq_of_lt (let z : u.count + k < 2 ^ 64 = omega (arith, small, few) in z) in
      let v = u.number / 2 ^ (8 * k) in
      let size : slice_index (map length u.buffers) buffer ≡ slice_index basis.lengths buffer = ap (λ ns. slice_index ns buffer) kept in
      let p = puts u.buffers buffer (u.count + k) v (omega (arith, h, size)) in
      let next : u.count + k + 1 ≡ u.count + suc k = omega arith in
      let all : u.count + suc k + left ≡ u.count + k + suc left = omega arith in
      let r = bytes_written go left (suc k) (record u { buffers = p.now }) b (p.kept ∙ kept) (omega (arith, h)) small (omega (arith, few))
      (subst (HasBytes p.now) next (byte_more message buffer base old u.buffers (u.count + k) v p d (are k (omega (arith, few)))))
      (old_more message buffer base old u.buffers (u.count + k) v p o) are in
      record {
        buffers = r.buffers;
        is =
            ap (λ n. given (applied Shr u.number (8 * k))
            (λ m. given (with_byte u.buffers buffer n m) (λ bytes. means (bytes_from (suc k) left b) go (record u { buffers = bytes })))) whole
            ∙ ap (λ o. given o (λ m. given (with_byte u.buffers buffer (u.count + k) m)
            (λ bytes. means (bytes_from (suc k) left b) go (record u { buffers = bytes })))) (shr_ok u.number (8 * k) (omega (arith, few)))
            ∙ ap (λ o. given o (λ bytes. means (bytes_from (suc k) left b) go (record u { buffers = bytes }))) p.is
            ∙ r.is;
        kept = r.kept;
        done = subst (HasBytes r.buffers) all r.done;
        others = r.others;
      }

  abbrev pub looping : ℕ → Continuation
  looping m =
      turns m (value [] (Binary Lt (Get Count) (Get Room))) (λ again. means copy_turn again) (means (Return (Get Count) Ends) nowhere)

  pub record Ready (u : Locals) (j : ℕ) : Type 0 where
    pub sum : u.count + j ≡ u.room
    pub fits : u.room ≤ slice_index basis.lengths buffer
    pub few : u.room < 2 ^ 32
    pub enough : u.room < limit
    pub within : u.pos + j ≤ to
    pub kept : map length u.buffers ≡ basis.lengths
    pub ahead : u.next ≤ (u.pos + 7) / 8
    pub held : (w : ℕ) → u.next ≡ w + 1 → u.held ≡ memory w
    pub at : u.pos ≡ base + u.count
    pub done : HasBytes u.buffers u.count
    pub others : HasOthers u.buffers

  pub record Copied (tree : Tree Out) (u : Locals) (j : ℕ) : Type 0 where
    pub final : Locals
    pub leads : Lead u.next final.next tree (Done (Gave u.room final)) (places_from u.pos j)
    pub cells : final.cells ≡ u.cells
    pub kept : map length final.buffers ≡ basis.lengths
    pub ahead : final.next ≤ (u.pos + j + 7) / 8
    pub held : (w : ℕ) → final.next ≡ w + 1 → final.held ≡ memory w
    pub done : HasBytes final.buffers u.room
    pub others : HasOthers final.buffers

  -- some bytes, and then the others
  joined : (tree rest : Tree Out) (u : Locals) (a j : ℕ) (bs : List (List ℕ)) (num mo k : ℕ)
      → (let v : Locals = record u { number = num; more = mo; next = k + 1; held = memory k; buffers = bs; pos = u.pos + a; count = u.count + a } in
      Lead u.next (k + 1) tree rest (places_from u.pos a) → Copied rest v j → Copied tree u (a + j))
  joined tree rest u a j bs num mo k h c = record {
    final = c.final;
    leads = subst (λ t. Lead u.next c.final.next tree (Done (Gave u.room c.final)) t) (sym (places_split u.pos a j))
        (then extent u.next (k + 1) c.final.next tree rest (Done (Gave u.room c.final)) (places_from u.pos a) (places_from (u.pos + a) j) h c.leads);
    cells = c.cells;
    kept = c.kept;
    ahead = (let e = c.ahead in omega (arith, e));
    held = c.held;
    done = c.done;
    others = c.others;
  }

  -- two variables don't matter
  moved : (tree : Tree Out) (u : Locals) (lo mo j : ℕ) → Copied tree (record u { low = lo; more = mo }) j → Copied tree u j
  moved tree u lo mo j c = record { final = c.final; leads = c.leads; cells = c.cells; kept = c.kept; ahead = c.ahead; held = c.held; done = c.done; others = c.others }

  -- nothing is left
  all_done : (m : ℕ) (u : Locals) → Ready u 0 → Copied (looping (suc m) u) u 0
  all_done m u r =
      let same : u.count ≡ u.room = (let s = r.sum in omega (arith, s)) in
      let no : nat_lt u.count u.room ≡ false = le-ltb u.count u.room (omega (arith, same)) in
      record {
        final = u;
        leads = same_tree extent u.next (looping (suc m) u) (Done (Gave u.room u))
            (ap (λ b. cond (nat_eq (bit b) 0) (Done (Gave u.count u)) (means copy_turn (looping m) u)) no ∙ ap (λ n. Done (Gave n u)) same);
        cells = refl;
        kept = r.kept;
        ahead = (let a = r.ahead in omega (arith, a));
        held = r.held;
        done = subst (HasBytes u.buffers) same r.done;
        others = r.others;
      }

  abbrev last_block : Block
  last_block = If (Binary Lt (Get Count) (Get Room)) copy_byte Ends

  abbrev words_block : Block
  words_block = While (Binary Lt (Num 7) (Get More)) copy_word last_block

  abbrev low_block : Block
  low_block = If (Get Low) (Assign More (Num 0) Ends) words_block

  -- the word is held
  word_there : (go : Continuation) (b : Block) (v : Locals) (i : ℕ) → Ready v i → (a : ℕ) → 0 < a → v.pos % 8 + a ≤ 8 → a ≤ i
      → Lead v.next (v.pos / 8 + 1) (means (CallHelper Number word_helper (word ∷ []) [] b) go v)
      (means b go (record v { number = memory (v.pos / 8); next = v.pos / 8 + 1; held = memory (v.pos / 8) })) (places_from v.pos a)
  word_there go b v i r a some l few =
      let k = v.pos / 8 in
      let rest = means b go in
      pre extent v.next (k + 1) (means (CallHelper Number word_helper (word ∷ []) [] b) go v) (bind (word_tree limit k v) (after_helper Number v rest))
      (rest (record v { number = memory k; next = k + 1; held = memory k })) (places_from v.pos a)
      (ap (λ t. bind t (after_helper Number v rest)) (is_word k v))
      (asked extent v.next (k + 1) (word_tree limit k v) (memory k) (held_word memory k v) v Number rest (places_from v.pos a)
      (word_gives plainly limit v v.pos a k refl (let h = r.ahead in omega (arith, h)) r.held some l (let w = r.within in omega (arith, w, few))))

  byte_there : (v : Locals) (i : ℕ) → Ready v i → (q : ℕ) → q < i → (o : ℕ) → o ≡ v.pos % 8 + q → o < 8
      → memory (v.pos / 8) / 2 ^ (8 * o) % 256 ≡ slice_index message (base + (v.count + q))
  byte_there v i r q l o e few =
      let p : v.pos + q ≡ base + (v.count + q) = (let a = r.at in omega (arith, a)) in
      let word_is : v.pos / 8 ≡ (v.pos + q) / 8 = omega (arith, e, few) in
      let place_is : o ≡ (v.pos + q) % 8 = omega (arith, e, few) in
      (λ z. memory (word_is z) / 2 ^ (8 * (place_is z)) % 256) ∙ within.holds.bytes (v.pos + q) (let w = r.within in omega (arith, w, l, within.inside))
      ∙ ap (slice_index message) p

  ready_on : (v : Locals) (i : ℕ) → Ready v i → (a num mo : ℕ) (bs : List (List ℕ)) → map length bs ≡ basis.lengths → HasBytes bs (v.count + a) → HasOthers bs
      → 0 < a → a ≤ i → v.pos % 8 + a ≤ 8
      → Ready (record v { number = num; more = mo; next = v.pos / 8 + 1; held = memory (v.pos / 8); buffers = bs; pos = v.pos + a; count = v.count + a }) (i - a)
  ready_on v i r a num mo bs kept d o some few in_it = record {
    sum = (let s = r.sum in omega (arith, s, few));
    fits = r.fits;
    few = r.few;
    enough = r.enough;
    within = (let w = r.within in omega (arith, w, few));
    kept = kept;
    ahead = omega (arith, some);
    held = λ w e. let q : v.pos / 8 ≡ w = omega (arith, e) in ap memory q;
    at = (let a = r.at in omega (arith, a));
    done = d;
    others = o;
  }

  -- places are small
  small_pos : (v : Locals) (i a : ℕ) → Ready v i → a ≤ i → (v.pos + a) % 2 ^ 64 ≡ v.pos + a
  small_pos v i a r few = mod-eq_of_lt (let w = r.within in let z : v.pos + a < 2 ^ 64 = omega (arith, w, few, within.short, within.inside) in z)

  small_count : (v : Locals) (i a : ℕ) → Ready v i → a ≤ i → (v.count + a) % 2 ^ 64 ≡ v.count + a
  small_count v i a r few = mod-eq_of_lt (let s = r.sum in let f = r.few in let z : v.count + a < 2 ^ 64 = omega (arith, s, f, few) in z)

  -- a turn, where those after it copy what is left
  module _ (m j : ℕ) (rec : (w : Locals) (i : ℕ) → i ≤ j → Ready w i → Copied (looping m w) w i) where
    abbrev doing : Block → Continuation
    doing b = means b (looping m)

    abbrev by_words : ℕ → Continuation
    by_words f = turns f (value [] (Binary Lt (Num 7) (Get More))) (λ again. means copy_word again) (doing last_block)

    -- one byte
    one_byte : (v : Locals) (i : ℕ) → suc i ≤ suc j → Ready v (suc i) → v.low ≡ 8 * (v.pos % 8) → Copied (doing copy_byte v) v (suc i)
    one_byte v i few r low_eq =
        let k = v.pos / 8 in
        let held : Locals = record v { number = memory k; next = k + 1; held = memory k } in
        let room : v.count < slice_index (map length v.buffers) buffer =
        (let s = r.sum in let f = r.fits in let z = ap (λ ns. slice_index ns buffer) r.kept in omega (arith, s, f, z)) in
        let n = memory k / 2 ^ (8 * (v.pos % 8)) in
        let p = puts v.buffers buffer v.count n room in
        let on : ℕ → ℕ → Tree Out = λ q c. looping m (record held { buffers = p.now; pos = q; count = c }) in
        let shifted : applied Shr (memory k) v.low ≡ Some n = ap (applied Shr (memory k)) low_eq ∙ shr_ok (memory k) (8 * (v.pos % 8)) (omega arith) in
        let steps : doing (Byte 0 (Get Count) (Binary Shr (Get Number) (Get Low)) (copied_by 1 Ends)) held ≡ on (v.pos + 1) (v.count + 1) =
        ap (λ o. given o (λ n. given (with_byte v.buffers buffer v.count n) (λ bytes. doing (copied_by 1 Ends) (record held { buffers = bytes })))) shifted
        ∙ ap (λ o. given o (λ bytes. doing (copied_by 1 Ends) (record held { buffers = bytes }))) p.is
        ∙ (λ z. on (small_pos v (suc i) 1 r (omega arith) z) (small_count v (suc i) 1 r (omega arith) z)) in
        let d : HasBytes p.now (v.count + 1) = byte_more message buffer base old v.buffers v.count n p r.done
        (byte_there v (suc i) r 0 (omega arith) (v.pos % 8) (omega arith) (mod_below v.pos 8 (omega arith)) ∙
        (let z : base + (v.count + 0) ≡ base + v.count = omega arith in ap (slice_index message) z)) in
        let less : suc i - 1 ≡ i = omega arith in
        let ready = subst (Ready (record held { buffers = p.now; pos = v.pos + 1; count = v.count + 1 })) less
        (ready_on v (suc i) r 1 (memory k) v.more p.now (p.kept ∙ r.kept) d (old_more message buffer base old v.buffers v.count n p r.others)
        (omega arith) (omega arith) (omega arith)) in
        let all : 1 + i ≡ suc i = omega arith in
        subst (λ n. Copied (doing copy_byte v) v n) all
        (joined (doing copy_byte v) (on (v.pos + 1) (v.count + 1)) v 1 i p.now (memory k) v.more k
        (post extent v.next (k + 1) (doing copy_byte v) (doing (Byte 0 (Get Count) (Binary Shr (Get Number) (Get Low)) (copied_by 1 Ends)) held)
        (on (v.pos + 1) (v.count + 1)) (places_from v.pos 1)
        (word_there (looping m) (Byte 0 (Get Count) (Binary Shr (Get Number) (Get Low)) (copied_by 1 Ends)) v (suc i) r 1 (omega arith) (omega arith) (omega arith)) steps)
        (rec (record held { buffers = p.now; pos = v.pos + 1; count = v.count + 1 }) i (omega (arith, few)) ready))

    -- a byte, if there is one left
    last_byte : (v : Locals) (i : ℕ) → i ≤ suc j → Ready v i → v.low ≡ 8 * (v.pos % 8) → Copied (doing last_block v) v i
    last_byte v zero few r low_eq =
        let no : nat_lt v.count v.room ≡ false = le-ltb v.count v.room (let s = r.sum in omega (arith, s)) in
        subst (λ t. Copied t v 0) (sym (ap (λ b. cond (nat_eq (bit b) 0) (looping m v) (doing copy_byte v)) no)) (rec v 0 (omega arith) r)
    last_byte v (suc i) few r low_eq =
        let yes : nat_lt v.count v.room ≡ true = lt-ltb v.count v.room (let s = r.sum in omega (arith, s)) in
        subst (λ t. Copied t v (suc i)) (sym (ap (λ b. cond (nat_eq (bit b) 0) (looping m v) (doing copy_byte v)) yes)) (one_byte v i few r low_eq)

    -- no whole word is wanted
    no_word : (f : ℕ) → 0 < f → (v : Locals) → v.more < 8 → by_words f v ≡ doing last_block v
    no_word zero some v few = absurd (omega (arith, some))
    no_word (suc f) some v few =
        let no : nat_lt 7 v.more ≡ false = le-ltb 7 v.more (omega (arith, few)) in
        ap (λ b. cond (nat_eq (bit b) 0) (doing last_block v) (means copy_word (by_words f) v)) no

    -- a word, where one begins
    one_word : (f : ℕ) (v : Locals) (i : ℕ) → 8 ≤ i → Ready v i → v.more ≡ i → v.pos % 8 ≡ 0
        → ((w : Locals) → w.more ≡ i - 8 → w.low ≡ v.low → w.pos ≡ v.pos + 8 → Ready w (i - 8) → Copied (by_words f w) w (i - 8))
        → Copied (means copy_word (by_words f) v) v i
    one_word f v i many r wanted whole after =
        let k = v.pos / 8 in
        let held : Locals = record v { number = memory k; next = k + 1; held = memory k } in
        let next : Block = copied_by 8 (Assign More (Binary Sub (Get More) (Num 8)) Ends) in
        let go = by_words f in
        let w = bytes_written go 8 0 held next r.kept
        (let s = r.sum in let f = r.fits in omega (arith, s, f, many)) (let s = r.sum in let f = r.few in omega (arith, s, f, many)) (omega arith)
        (let z : v.count + 0 ≡ v.count = omega arith in subst (HasBytes v.buffers) (sym z) r.done) r.others
        (λ q l. byte_there v i r q (omega (arith, l, many)) q (omega (arith, whole)) l) in
        let on : ℕ → ℕ → ℕ → Tree Out = λ q c n. go (record held { buffers = w.buffers; pos = q; count = c; more = n }) in
        let less : (v.more + (2 ^ 64 - 8)) % 2 ^ 64 ≡ i - 8 = (let s = r.sum in let f = r.few in omega (arith, s, f, wanted, many)) in
        let steps : means (bytes_from 0 8 next) go held ≡ on (v.pos + 8) (v.count + 8) (i - 8) =
        w.is ∙ (λ z. on (small_pos v i 8 r many z) (small_count v i 8 r many z) (less z)) in
        let d : HasBytes w.buffers (v.count + 8) = (let z : v.count + 0 + 8 ≡ v.count + 8 = omega arith in subst (HasBytes w.buffers) z w.done) in
        let all : 8 + (i - 8) ≡ i = omega (arith, many) in
        subst (λ n. Copied (means copy_word go v) v n) all
        (joined (means copy_word go v) (on (v.pos + 8) (v.count + 8) (i - 8)) v 8 (i - 8) w.buffers (memory k) (i - 8) k
        (post extent v.next (k + 1) (means copy_word go v) (means (bytes_from 0 8 next) go held) (on (v.pos + 8) (v.count + 8) (i - 8)) (places_from v.pos 8)
        (word_there go (bytes_from 0 8 next) v i r 8 (omega arith) (omega (arith, whole)) many) steps)
        (after (record held { buffers = w.buffers; pos = v.pos + 8; count = v.count + 8; more = i - 8 }) refl refl refl
        (ready_on v i r 8 (memory k) (i - 8) w.buffers w.kept d w.others (omega arith) many (omega (arith, whole)))))

    -- words, and then a byte
    all_words : (f : ℕ) (v : Locals) (i : ℕ) → i < 8 * f → i ≤ suc j → Ready v i → v.more ≡ i → v.low ≡ 8 * (v.pos % 8) → v.pos % 8 ≡ 0 → Copied (by_words f v) v i
    all_words zero v i enough few r wanted low_eq whole = absurd (omega (arith, enough))
    all_words (suc f) v i enough few r wanted low_eq whole = elim (cases_lt 7 i) [
      | inl many ↦
          let yes : nat_lt 7 v.more ≡ true = lt-ltb 7 v.more (omega (arith, many, wanted)) in
          subst (λ t. Copied t v i) (sym (ap (λ b. cond (nat_eq (bit b) 0) (doing last_block v) (means copy_word (by_words f) v)) yes))
          (one_word f v i (omega (arith, many)) r wanted whole (λ w more_eq low_is pos_is ready.
          let aligned : w.pos % 8 ≡ 0 = omega (arith, pos_is, whole) in
          all_words f w (i - 8) (omega (arith, enough, many)) (omega (arith, few)) ready more_eq (omega (arith, low_is, low_eq, whole, aligned)) aligned))
      | inr none ↦ subst (λ t. Copied t v i) (sym (no_word (suc f) (omega arith) v (omega (arith, none, wanted)))) (last_byte v i few r low_eq)
    ]

    one_turn : (u : Locals) → Ready u (suc j) → Copied (doing copy_turn u) u (suc j)
    one_turn u r =
        subst (λ t. Copied t u (suc j)) (sym left) (by (nat_eq lo 0) refl)
      where
        lo : ℕ
        lo = (u.pos % 8 * 8) % 2 ^ 64

        vars : (mo : ℕ) → Locals
        vars mo = record u { low = lo; more = mo }

        left : doing copy_turn u ≡ doing low_block (vars (suc j))
        left =
            let e : (u.room + (2 ^ 64 - u.count)) % 2 ^ 64 ≡ suc j = (let s = r.sum in let f = r.few in omega (arith, s, f)) in
            ap (λ n. doing low_block (vars n)) e

        ready : (mo : ℕ) → Ready (vars mo) (suc j)
        ready mo = record {
          sum = r.sum;
          fits = r.fits;
          few = r.few;
          enough = r.enough;
          within = r.within;
          kept = r.kept;
          ahead = r.ahead;
          held = r.held;
          at = r.at;
          done = r.done;
          others = r.others;
        }

        by : (b : Bool) → nat_eq lo 0 ≡ b → Copied (doing low_block (vars (suc j))) u (suc j)
        by false e =
            let some : 0 < limit = (let h = r.enough in omega (arith, h)) in
            subst (λ t. Copied t u (suc j)) (sym (ap (λ b. cond b (by_words limit (vars (suc j))) (by_words limit (vars 0))) e ∙ no_word limit some (vars 0) (omega arith)))
            (moved (doing last_block (vars 0)) u lo 0 (suc j) (last_byte (vars 0) (suc j) (omega arith) (ready 0) (low_is u.pos)))
        by true e =
            let none : lo ≡ 0 = eq_is lo 0 e in
            let whole : u.pos % 8 ≡ 0 = (let l = low_is u.pos in omega (arith, none, l)) in
            let enough : suc j < 8 * limit = (let h = r.enough in let s = r.sum in omega (arith, h, s)) in
            subst (λ t. Copied t u (suc j)) (sym (ap (λ b. cond b (by_words limit (vars (suc j))) (by_words limit (vars 0))) e))
            (moved (by_words limit (vars (suc j))) u lo (suc j) (suc j)
            (all_words limit (vars (suc j)) (suc j) enough (omega arith) (ready (suc j)) refl (low_is u.pos) whole))

  -- all of them
  pub all_copied : (m : ℕ) (u : Locals) (j : ℕ) → j < m → Ready u j → Copied (looping m u) u j
  all_copied zero u j l r = absurd (omega (arith, l))
  all_copied (suc m) u zero l r = all_done m u r
  all_copied (suc m) u (suc j) l r =
      let yes : nat_lt u.count u.room ≡ true = lt-ltb u.count u.room (let s = r.sum in omega (arith, s)) in
      let c = one_turn m j (λ v i h q. all_copied m v i (omega (arith, l, h)) q) u r in
      subst (λ t. Copied t u (suc j)) (sym (ap (λ b. cond (nat_eq (bit b) 0) (Done (Gave u.count u)) (means copy_turn (looping m) u)) yes)) c
