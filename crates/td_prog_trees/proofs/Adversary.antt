-- From memory that stays to memory that gives any words. Cited by other crates.
use Rattle.std.proofs.Common.{◌≡◌, ℕ, zero, suc, ◌+◌, ◌*◌, ◌/◌, ◌%◌, ◌^◌, ◌<◌, ◌≤◌, cond, List, [], ◌∷◌, map, refl, sym, ap, ◌∙◌, subst, arith, slice_index}
use Rattle.std.specs.Prelude.{nat_eq, nat_lt}
use Rattle.std.specs.List.{All}
use Rattle.std.proofs.lemmas.Bool.{ne_eqb, eq-eqb, ltb-false}
use Rattle.std.proofs.lemmas.List.Elements.{All-nil, All-cons}
use Rattle.td_num.specs.Numbers.{byte_of, rising_at}
use Rattle.td_num.specs.Lists.{Each, AreBytes}
use Rattle.td_num.proofs.Digits.{rising_small}
use Rattle.td_stream.specs.declared.load.Load.{Load}
use Rattle.td_stream.specs.Loads.{IsRising}
use Rattle.td_stream.proofs.Digits.{shifted}
use Rattle.td_prog.specs.Tree.{Tree, Done, Loads, Plays, loaded, Holds}
use Rattle.td_prog_trees.specs.Memory.{AreWords}
use Rattle.td_prog_trees.specs.Agree.{RisesFrom, fresh}
use Rattle.td_prog_trees.specs.Laws.{PlaysRise}
use Rattle.td_prog_trees.proofs.Composing.{by_cases}

rises_on : (m k : ℕ) (ws : List ℕ) → k ≤ m → RisesFrom m ws → RisesFrom k ws
rises_on m k [] h r = tt
rises_on m k (w ∷ ws) h r = (omega (arith, h, r.0), r.1)

pub fresh_rises : (word : ℕ → ℕ) (next : ℕ) (ps : List ℕ) → RisesFrom next (fresh word next ps)
fresh_rises word next [] = tt
fresh_rises word next (p ∷ ps) =
    by_cases (λ b. RisesFrom next (cond b (fresh word next ps) (word p ∷ fresh word (word p + 1) ps))) (nat_lt (word p) next)
    (λ e. fresh_rises word next ps) (λ e. (ltb-false (word p) next e, fresh_rises word (word p + 1) ps))

-- memory that has another word in one place
abbrev changed : (ℕ → ℕ) → ℕ → ℕ → ℕ → ℕ
changed memory word v i = cond (nat_eq i word) v (memory i)

-- memories that differ below the words that are loaded give the same
same_loaded : {X : Type 0} (memory other : ℕ → ℕ) (t : Tree X) (m : ℕ) → ((i : ℕ) → m ≤ i → memory i ≡ other i) → RisesFrom m (loaded other t)
    → loaded memory t ≡ loaded other t
same_loaded memory other (Done x) m h r = refl
same_loaded memory other (Loads word k) m h r =
    ap (λ v. word ∷ loaded memory (k v)) (h word r.0)
    ∙ ap (λ ws. word ∷ ws) (same_loaded memory other (k (other word)) (word + 1) (λ i l. h i (let q = r.0 in omega (arith, l, q))) r.1)

-- where on each memory that stays the loaded words rise, they do so in each play
pub play_rises : {X : Type 0} (t : Tree X) (loads : List Load) (y : X) (m : ℕ) → ((memory : ℕ → ℕ) → AreWords memory → RisesFrom m (loaded memory t))
    → Plays t loads y → Each (λ (l : Load). l.value < 2 ^ 64) loads
    → RisesFrom m (map (λ (l : Load). l.word) loads)
play_rises (Done x) [] y m h p s = tt
play_rises (Done x) (l ∷ loads) y m h p s = absurd p
play_rises (Loads word k) [] y m h p s = absurd p
play_rises (Loads word k) (l ∷ loads) y m h p s =
    let e : l.word ≡ word = p.0 in
    let first = (h (λ i. 0) (λ i. omega arith)).0 in (
      omega (arith, first, e),
      subst (λ w. RisesFrom (w + 1) (map (λ (l : Load). l.word) loads)) (sym e) (play_rises (k l.value) loads y (word + 1) later p.1 s.1),
    )
  where
    later : (memory : ℕ → ℕ) → AreWords memory → RisesFrom (word + 1) (loaded memory (k l.value))
    later memory small =
        let other = changed memory word l.value in
        let same : other word ≡ l.value = ap (λ b. cond b l.value (memory word)) (eq-eqb word word refl) in
        let wordy : AreWords other = λ i. by_cases (λ b. cond b l.value (memory i) < 2 ^ 64) (nat_eq i word) (λ e. s.0) (λ e. small i) in
        let r : RisesFrom (word + 1) (loaded other (k l.value)) = subst (λ v. RisesFrom (word + 1) (loaded other (k v))) same (h other wordy).1 in
        subst (λ ws. RisesFrom (word + 1) ws)
        (sym (same_loaded memory other (k l.value) (word + 1)
        (λ i le. sym (ap (λ b. cond b l.value (memory i)) (ne_eqb i word (λ q. omega (arith, le, q))))) r)) r

-- loads of rising words
each_above : (loads : List Load) (m k : ℕ) → k < m → RisesFrom m (map (λ (l : Load). l.word) loads) → All (λ (l : Load). k < l.word) loads
each_above [] m k h r = All-nil (λ (l : Load). k < l.word)
each_above (l ∷ loads) m k h r =
    All-cons (λ (l : Load). k < l.word) l loads (let q = r.0 in omega (arith, h, q))
    (each_above loads (l.word + 1) k (let q = r.0 in omega (arith, h, q)) r.1)

pub loads_rise : (loads : List Load) (m : ℕ) → RisesFrom m (map (λ (l : Load). l.word) loads) → IsRising loads
loads_rise [] m r = tt
loads_rise (l ∷ loads) m r = (each_above loads (l.word + 1) l.word (omega arith) r.1, loads_rise loads (l.word + 1) r.1)

pub plays_rise : PlaysRise
plays_rise t loads y h p s = loads_rise loads 0 (play_rises t loads y 0 h p s)

-- the memory of loads, and where there are none another one
abbrev pub memory_of : List Load → (ℕ → ℕ) → ℕ → ℕ
memory_of [] other i = other i
memory_of (l ∷ loads) other i = cond (nat_eq i l.word) l.value (memory_of loads other i)

pub memory_wordy : (loads : List Load) (other : ℕ → ℕ) → AreWords other → Each (λ (l : Load). l.value < 2 ^ 64) loads → AreWords (memory_of loads other)
memory_wordy [] other h s i = h i
memory_wordy (l ∷ loads) other h s i =
    by_cases (λ v. cond v l.value (memory_of loads other i) < 2 ^ 64) (nat_eq i l.word) (λ e. s.0) (λ e. memory_wordy loads other h s.1 i)

-- the memory of a message at the front of a buffer
abbrev pub front_memory : List ℕ → ℕ → ℕ
front_memory b i = rising_at b (8 * i) 8

pub front_wordy : (b : List ℕ) → AreBytes b → AreWords (front_memory b)
front_wordy b h i = rising_small b h (8 * i) 8

holds_more : (loads : List Load) (b : ℕ → ℕ) (x : Load) (m : ℕ) → x.word < m → RisesFrom m (map (λ (l : Load). l.word) loads) → (rest : List Load)
    → Holds (memory_of rest b) loads → Holds (memory_of (x ∷ rest) b) loads
holds_more [] b x m h r rest k = tt
holds_more (l ∷ loads) b x m h r rest k = (
  ap (λ v. cond v x.value (memory_of rest b l.word)) (ne_eqb l.word x.word (λ e. let q = r.0 in omega (arith, e, h, q))) ∙ k.0,
  holds_more loads b x (l.word + 1) (let q = r.0 in omega (arith, h, q)) r.1 rest k.1,
)

pub memory_holds : (loads : List Load) (b : ℕ → ℕ) (m : ℕ) → RisesFrom m (map (λ (l : Load). l.word) loads) → Holds (memory_of loads b) loads
memory_holds [] b m r = tt
memory_holds (l ∷ loads) b m r = (
  ap (λ v. cond v l.value (memory_of loads b l.word)) (eq-eqb l.word l.word refl),
  holds_more loads b l (l.word + 1) (omega arith) r.1 loads (memory_holds loads b (l.word + 1) r.1),
)

-- a digit of a sum of bytes
low_digit : (high x : ℕ) → x < 256 → byte_of (256 * high + x) 0 ≡ x
low_digit high x h = let one : (256 * high + x) / 1 ≡ 256 * high + x = omega arith in ap (λ n. n % 256) one ∙ omega (arith, h)

next_digit : (high x j : ℕ) → x < 256 → byte_of (256 * high + x) (suc j) ≡ byte_of high j
next_digit high x j h =
    let e : 1 + j ≡ suc j = omega arith in
    let d : (256 * high + x) / 256 ≡ high = omega (arith, h) in
    sym (shifted (256 * high + x) 1 j ∙ ap (byte_of (256 * high + x)) e) ∙ ap (λ n. byte_of n j) d

pub digit_of : (b : List ℕ) → AreBytes b → (w p j : ℕ) → j < w → byte_of (rising_at b p w) j ≡ slice_index b (p + j)
digit_of b h zero p j l = absurd (omega (arith, l))
digit_of b h (suc w) p zero l = let e : p ≡ p + 0 = omega arith in low_digit (rising_at b (p + 1) w) (slice_index b p) (h p) ∙ ap (slice_index b) e
digit_of b h (suc w) p (suc j) l =
    let e : p + 1 + j ≡ p + suc j = omega arith in
    next_digit (rising_at b (p + 1) w) (slice_index b p) j (h p) ∙ digit_of b h w (p + 1) j (omega (arith, l)) ∙ ap (slice_index b) e
