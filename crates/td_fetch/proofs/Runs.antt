-- Two runs on one memory load the same words, one after the other.
use Rattle.std.proofs.Common.{◌≡◌, ℕ, zero, suc, ◌+◌, ◌-◌, ◌<◌, ◌≤◌, inl, inr, List, [], ◌∷◌, ◌++◌, length, refl, sym, ap, ◌∙◌, subst, arith}
use Rattle.std.specs.Prelude.{◌⊎◌, slice_index}
use Rattle.std.specs.List.{All, Contains}
use Rattle.std.proofs.lemmas.Bool.{cases_lt, cases_eq}
use Rattle.std.proofs.lemmas.List.{append_assoc}
use Rattle.std.proofs.lemmas.List.Elements.{All-contains, Contains-append_cases, Contains-append_left, Contains-append_right}
use Rattle.td_num.specs.Lists.{Each}
use Rattle.td_stream.specs.declared.load.Load.{Load}
use Rattle.td_stream.specs.declared.stretch.Stretch.{Stretch}
use Rattle.td_stream.specs.Layouts.{length_in, word_at}
use Rattle.td_stream.specs.Loads.{Carries, Agrees, IsRising, IsLoaded, Exactly}
use Rattle.td_stream.proofs.Layouts.{word_rises}
use Rattle.td_stream.proofs.Carrying.{carried}
use Rattle.td_core.specs.declared.module.Module.{Module}
use Rattle.td_core.specs.declared.module.Entry.{Entry}
use Rattle.td_meaning.specs.Meaning.{meaning}
use Rattle.td_meaning.specs.Forward.{IsAt, SameBefore}
use Rattle.td_meaning.proofs.Deciding.{reads_decide}
use Rattle.td_meaning.proofs.Places.{at_each, same_at_each as same_at}
use Rattle.td_meaning.proofs.Forward.{reads_go_forward, reads_are_within}
use Rattle.td_fetch.specs.Runs.{AreGiven, IsFetchRun, RunsAreOne}

-- Lists

nowhere : {X : Type 0} (x : X) → Contains [] x → ⊥
nowhere x c = absurd (omega (arith, c.1))

first_or_later : {X : Type 0} (x y : X) (xs : List X) → Contains (x ∷ xs) y → (x ≡ y) ⊎ Contains xs y
first_or_later x y xs (zero, lt, e) = inl e
first_or_later x y xs (suc k, lt, e) = inr (k, omega (arith, lt), e)

later : {X : Type 0} (x y : X) (xs : List X) → Contains xs y → Contains (x ∷ xs) y
later x y xs c = (suc c.0, omega (arith, c.1), c.2)

at_of : (k : ℕ) (xs : List ℕ) → Contains xs k → IsAt k xs
at_of k [] c = nowhere k c
at_of k (x ∷ xs) c = elim (first_or_later x k xs c) [ inl e ↦ inl (sym e) | inr d ↦ inr (at_of k xs d) ]

contains_of : (k : ℕ) (xs : List ℕ) → IsAt k xs → Contains xs k
contains_of k [] h = absurd h
contains_of k (x ∷ xs) (inl e) = (0, omega arith, sym e)
contains_of k (x ∷ xs) (inr h) = later x k xs (contains_of k xs h)

at_or_not : (k : ℕ) (xs : List ℕ) → IsAt k xs ⊎ (IsAt k xs → ⊥)
at_or_not k [] = inr (λ h. h)
at_or_not k (x ∷ xs) = elim (cases_eq k x) [
  | inl e ↦ inl (inl e)
  | inr apart ↦ elim (at_or_not k xs) [
    | inl h ↦ inl (inr h)
    | inr not ↦ inr (λ h. elim h [ inl e ↦ apart e | inr i ↦ not i ])
  ]
]

each_at : (P : ℕ → Type 0) (xs : List ℕ) → ((k : ℕ) → IsAt k xs → P k) → Each P xs
each_at P [] h = tt
each_at P (x ∷ xs) h = (h x (inl refl), each_at P xs (λ k i. h k (inr i)))

-- Rising loads

abbrev loaded : ℕ → ℕ → Load
loaded i v = record { word = i; value = v }

behind : (pre rest : List Load) → IsRising (pre ++ rest) → IsRising rest
behind [] rest r = r
behind (x ∷ pre) rest r = behind pre rest r.1

-- what stands before a load is of a lower word
lower : (pre r : List Load) (a l : Load) → IsRising (pre ++ a ∷ r) → Contains pre l → l.word < a.word
lower [] r a l h c = absurd (nowhere l c)
lower (x ∷ pre) r a l h c = elim (first_or_later x l pre c) [
  | inl e ↦
      subst (λ (m : Load). m.word < a.word) e
      (All-contains (λ (m : Load). x.word < m.word) (pre ++ a ∷ r) a h.0 (Contains-append_right pre (a ∷ r) a (0, omega arith, refl)))
  | inr d ↦ lower pre r a l h.1 d
]

higher : (pre r : List Load) (a l : Load) → IsRising (pre ++ a ∷ r) → Contains r l → a.word < l.word
higher pre r a l h c = All-contains (λ (m : Load). a.word < m.word) r l (behind pre (a ∷ r) h).0 c

given_at : (memory : ℕ → ℕ → ℕ) (k : ℕ) (pre r : List Load) (a : Load) → AreGiven memory k (pre ++ a ∷ r) → a.value ≡ memory (k + length pre) a.word
given_at memory k [] r a h = let e : k ≡ k + 0 = omega arith in h.0 ∙ ap (λ n. memory n a.word) e
given_at memory k (x ∷ pre) r a h =
    let e : suc k + length pre ≡ k + suc (length pre) = omega arith in
    given_at memory (suc k) pre r a h.1 ∙ ap (λ n. memory n a.word) e

-- the first place of a word that has a place
least : (layout : List Stretch) (p : ℕ) → (q : ℕ) × (q ≤ p) × (word_at layout q ≡ word_at layout p) × ((k : ℕ) → k < q → word_at layout k < word_at layout p)
least layout zero = (0, omega arith, refl, λ k lt. absurd (omega (arith, lt)))
least layout (suc p) =
    let up = word_rises layout p (suc p) (omega arith) in
    elim (cases_lt (word_at layout p) (word_at layout (suc p))) [
      | inl lt ↦ (suc p, omega arith, refl, λ k less. let r = word_rises layout k p (omega (arith, less)) in omega (arith, r, lt))
      | inr ge ↦
          let same : word_at layout p ≡ word_at layout (suc p) = omega (arith, up, ge) in
          let r = least layout p in
          (r.0, (let le = r.1 in omega (arith, le)), r.2 ∙ same, λ k less. let h = r.3 k less in omega (arith, h, same))
    ]

-- both lists carry a load of this place's word
same_byte : (layout : List Stretch) (b c : List ℕ) (one other : List Load) (k v : ℕ) → Carries layout b one → Carries layout c other → Contains one (loaded (word_at layout k) v) → Contains other (loaded (word_at layout k) v)
    → k < length_in layout → slice_index b k ≡ slice_index c k
same_byte layout b c one other k v x y h i lt =
    All-contains (Agrees layout b) one (loaded (word_at layout k) v) x.agree h k (omega (arith, x.size, lt)) refl
    ∙ sym (All-contains (Agrees layout c) other (loaded (word_at layout k) v) y.agree i k (omega (arith, y.size, lt)) refl)

module _ (m : Module) (entry : Entry) (args cells : List ℕ) (layout : List Stretch) (memory : ℕ → ℕ → ℕ) where
  abbrev Run : List Load → Type 0
  Run loads = IsFetchRun m entry args cells layout memory loads

  abbrev reads : List ℕ → List ℕ
  reads b = (meaning m entry args cells b).reads

  in_message : (b : List ℕ) (one : List Load) (k : ℕ) → Carries layout b one → IsAt k (reads b) → k < length_in layout
  in_message b one k x h = let lt = at_each (λ k. k < length b) k (reads b) (reads_are_within m entry args cells b) h in omega (arith, lt, x.size)

  early : (pre r s : List Load) (a : Load) (b c : List ℕ) → Run (pre ++ a ∷ r) → Carries layout b (pre ++ a ∷ r) → Carries layout c (pre ++ s)
      → (k : ℕ) → k < length_in layout → IsLoaded (pre ++ a ∷ r) (word_at layout k) → word_at layout k < a.word → slice_index b k ≡ slice_index c k
  early pre r s a b c run x y k lt h before = elim (Contains-append_cases pre (a ∷ r) (loaded (word_at layout k) h.0) h.1) [
    | inl i ↦ same_byte layout b c (pre ++ a ∷ r) (pre ++ s) k h.0 x y h.1 (Contains-append_left pre s (loaded (word_at layout k) h.0) i) lt
    | inr i ↦ absurd (elim (first_or_later a (loaded (word_at layout k) h.0) r i) [
      | inl e ↦ let w : a.word ≡ word_at layout k = ap (λ (l : Load). l.word) e in omega (arith, w, before)
      | inr d ↦ let w = higher pre r a (loaded (word_at layout k) h.0) run.rising d in omega (arith, w, before)
    ])
  ]

  -- a place of word i that is read of b would be read of c too
  module _ (b c : List ℕ) (M : List Load) (i p : ℕ) (not : IsLoaded M i → ⊥) (exact : Exactly layout M (reads c)) (long : length b ≡ length c) (word : word_at layout p ≡ i) (at : IsAt p (reads b)) where
    found : (q : ℕ) → IsAt q (reads b) → i ≤ word_at layout q → q ≤ p → SameBefore q (reads b) b c → ⊥
    found q h low le same =
        let there = (reads_go_forward m entry args cells b c q long same q (omega arith)).0 h in
        let up = word_rises layout q p le in
        let w : word_at layout q ≡ i = omega (arith, low, up, word) in
        not (subst (IsLoaded M) w ((exact (word_at layout q)).1 (q, contains_of q (reads c) there, refl)))

    more : (q : ℕ) → SameBefore q (reads b) b c → (IsAt q (reads b) → ⊥) → SameBefore (q + 1) (reads b) b c
    more q same none = each_at (λ k. k < q + 1 → slice_index b k ≡ slice_index c k) (reads b) (λ k h lt. elim (cases_lt k q) [
      | inl before ↦ at_each (λ k. k < q → slice_index b k ≡ slice_index c k) k (reads b) same h before
      | inr here ↦ let e : k ≡ q = omega (arith, lt, here) in absurd (none (subst (λ k. IsAt k (reads b)) e h))
    ])

    walk : (fuel q : ℕ) → p ≡ q + fuel → i ≤ word_at layout q → SameBefore q (reads b) b c → ⊥
    walk zero q e low same = let here : p ≡ q = omega (arith, e) in found q (subst (λ k. IsAt k (reads b)) here at) low (omega (arith, e)) same
    walk (suc fuel) q e low same = elim (at_or_not q (reads b)) [
      | inl h ↦ found q h low (omega (arith, e)) same
      | inr none ↦ let up = word_rises layout q (q + 1) (omega arith) in walk fuel (q + 1) (omega (arith, e)) (omega (arith, low, up)) (more q same none)
    ]

  -- of two runs that begin alike, one can't go on with a lower word than the other
  missing : (pre r s : List Load) (a : Load) → Run (pre ++ a ∷ r) → Run (pre ++ s) → ((l : Load) → Contains s l → a.word < l.word) → ⊥
  missing pre r s a one other above =
      let L = pre ++ a ∷ r in
      let M = pre ++ s in
      let x = carried layout L one.rising in
      let y = carried layout M other.rising in
      let exact = one.exact x.0 x.1 x.2 in
      let touched = (exact a.word).0 (a.value, Contains-append_right pre (a ∷ r) a (0, omega arith, refl)) in
      let p = touched.0 in
      let word : word_at layout p ≡ a.word = touched.2 in
      let first = least layout p in
      let q = first.0 in
      let start : SameBefore q (reads x.0) x.0 y.0 = each_at (λ k. k < q → slice_index x.0 k ≡ slice_index y.0 k) (reads x.0)
      (λ k h before. early pre r s a x.0 y.0 one x.1 y.1 k (in_message x.0 L k x.1 h) ((exact (word_at layout k)).1 (k, contains_of k (reads x.0) h, refl)) (let lt = first.3 k before in omega (arith, lt, word))) in
      walk x.0 y.0 M a.word p not_there (other.exact y.0 y.1 y.2) (x.1.size ∙ sym y.1.size) word (at_of p (reads x.0) touched.1)
      (p - q) q (let le = first.1 in omega (arith, le)) (let e = first.2 in omega (arith, e, word)) start
    where
      not_there : IsLoaded (pre ++ s) a.word → ⊥
      not_there h = elim (Contains-append_cases pre s (loaded a.word h.0) h.1) [
        | inl i ↦ let lt = lower pre r a (loaded a.word h.0) one.rising i in omega (arith, lt)
        | inr i ↦ let lt = above (loaded a.word h.0) i in omega (arith, lt)
      ]

  moved : (pre r : List Load) (a : Load) → Run (pre ++ a ∷ r) → Run ((pre ++ a ∷ []) ++ r)
  moved pre r a run = subst Run (sym (append_assoc pre (a ∷ []) r)) run

  above_first : (pre s : List Load) (a b : Load) → Run (pre ++ b ∷ s) → a.word < b.word → (l : Load) → Contains (b ∷ s) l → a.word < l.word
  above_first pre s a b run lt l c = elim (first_or_later b l s c) [
    | inl e ↦ subst (λ (m : Load). a.word < m.word) e lt
    | inr d ↦ let h = higher pre s b l run.rising d in omega (arith, lt, h)
  ]

  same_from : (r s pre : List Load) → Run (pre ++ r) → Run (pre ++ s) → r ≡ s
  same_from [] [] pre one other = refl
  same_from [] (b ∷ s) pre one other = absurd (missing pre s [] b other one (λ l c. absurd (nowhere l c)))
  same_from (a ∷ r) [] pre one other = absurd (missing pre r [] a one other (λ l c. absurd (nowhere l c)))
  same_from (a ∷ r) (b ∷ s) pre one other =
      elim (cases_lt a.word b.word) [
        | inl lt ↦ absurd (missing pre r (b ∷ s) a one other (above_first pre s a b other lt))
        | inr ge ↦ elim (cases_lt b.word a.word) [
          | inl lt ↦ absurd (missing pre s (a ∷ r) b other one (above_first pre r b a one lt))
          | inr le ↦
              let word : a.word ≡ b.word = omega (arith, ge, le) in
              let value : a.value ≡ b.value = given_at memory 0 pre r a one.given ∙ ap (memory (0 + length pre)) word ∙ sym (given_at memory 0 pre s b other.given) in
              let same : a ≡ b = λ i. record { word = word i; value = value i } in
              let other' = subst (λ (l : Load). Run (pre ++ l ∷ s)) (sym same) other in
              ap (λ l. l ∷ r) same ∙ ap (λ rest. b ∷ rest) (same_from r s (pre ++ a ∷ []) (moved pre r a one) (moved pre s a other'))
        ]
      ]

  one_meaning : (loads : List Load) (b c : List ℕ) → Run loads → Carries layout b loads → All (λ x. x < 256) b → Carries layout c loads → meaning m entry args cells b ≡ meaning m entry args cells c
  one_meaning loads b c run x small y =
      let exact = run.exact b x small in
      reads_decide m entry args cells b c (x.size ∙ sym y.size)
      (same_at (reads b) b c (λ k h. let l = (exact (word_at layout k)).1 (k, contains_of k (reads b) h, refl) in same_byte layout b c loads loads k l.0 x y l.1 l.1 (in_message b loads k x h)))

pub runs_are_one : RunsAreOne
runs_are_one m entry args cells layout memory one other x y =
    let same = same_from m entry args cells layout memory one other [] x y in
    (same, λ b c h small i. one_meaning m entry args cells layout memory one b c x h small (subst (Carries layout c) (sym same) i))
