-- What all passes and seats together took and drew.
use Rattle.std.proofs.Common.{◌≡◌, ℕ, zero, suc, ◌+◌, ◌%◌, ◌^◌, ◌<◌, ◌≤◌, cond, ltb, List, [], ◌++◌, length, Some, ap, ◌∙◌, subst, arith, length-append}
use mathlib.Core.Logic.{dite}
use native.Mathlib.Decide.{dec_lt}
use Rattle.std.specs.List.{All, Contains, sum_by}
use Rattle.std.specs.List.Sorted.{IsPermutation}
use Rattle.std.proofs.lemmas.Bool.{lt-ltb}
use Rattle.std.proofs.lemmas.List.Elements.{All-nil, All-push, All-weaker, All-contains}
use Rattle.std.proofs.lemmas.List.Sorted.{IsPermutation-sym, IsPermutation-trans, length_permutation, sum_by-IsPermutation, Contains-permutation}
use Rattle.std.proofs.lemmas.List.Sums.{sum_by_push}
use Rattle.std.proofs.lemmas.List.{append-nil, nil_from_length}
use Rattle.td_ring.specs.declared.roll.Part.{Part}
use Rattle.td_ring.specs.declared.roll.Head.{Head}
use Rattle.td_ring.specs.Roll.{Entry, all_entries, owned}
use Rattle.td_ring.specs.Heads.{AreInLog}
use Rattle.td_ring.specs.declared.post.Post.{Post}
use Rattle.td_ring.specs.declared.view.RingView.{RingView}
use Rattle.td_ring.specs.Ring.{Settled}
use Rattle.td_ring.specs.Laws.{AllGathered}
use Rattle.td_ring.proofs.Shares.{all_owned}
use Rattle.td_ring.specs.declared.view.TicketView.{TicketView}
use Rattle.td_ring.specs.Tickets.{counted, Drawn}

-- ---- the ring
-- where the head's own part added nothing, the others' are all
others_own : {A : Type 0} (log : List (Entry A)) (h : Head A) (p : Part A) → AreInLog log h p → p.own ≡ [] → AllGathered h → IsPermutation (all_entries log) (owned h.ended)
unfolding owned
others_own log h p t none whole = subst (λ l. IsPermutation (all_entries log) (l ++ owned h.ended)) none (all_owned log h p t whole)

-- where as many were taken as were posted, what was taken is what was posted, and nothing is left
pub all_taken : (v : RingView) (items : List Post) (posts takes : Head Post) (p t : Part Post) → Settled v items
    → v.put_head ≡ Some posts → v.put ≡ Some p → v.take_head ≡ Some takes → v.take ≡ Some t → p.own ≡ [] → t.own ≡ []
    → length posts.ended + 1 ≡ posts.made → length takes.ended + 1 ≡ takes.made → length (owned posts.ended) ≤ length (owned takes.ended)
    → IsPermutation (owned takes.ended) (owned posts.ended) × Settled v []
all_taken v items posts takes p t s a b c d none none' whole whole' many =
    let x = others_own s.posted posts p (s.puts posts p a b) none whole in
    let y = others_own s.taken takes t (s.takes takes t c d) none' whole' in
    let l = length_permutation (all_entries s.posted) (owned posts.ended) x in
    let m = length_permutation (all_entries s.taken) (owned takes.ended) y in
    let k : length (all_entries s.posted) ≡ length (all_entries s.taken) + length items = ap length s.queue ∙ length-append (all_entries s.taken) items in
    let z : items ≡ [] = nil_from_length items (omega arith) in
    let same : all_entries s.posted ≡ all_entries s.taken = s.queue ∙ (ap (λ i. all_entries s.taken ++ i) z ∙ append-nil (all_entries s.taken)) in
    let each = IsPermutation-trans (owned takes.ended) (all_entries s.taken) (owned posts.ended)
    (IsPermutation-sym (all_entries s.taken) (owned takes.ended) y)
    (subst (λ q. IsPermutation q (owned posts.ended)) same x) in
    (each, subst (Settled v) z s)

-- ---- the tickets
pub drawn_all : (v : TicketView) (log : List (Entry ℕ)) (h : Head ℕ) (p : Part ℕ) → Drawn v log → v.head ≡ Some h → v.draws ≡ Some p → p.own ≡ [] → length h.ended + 1 ≡ h.made
    → IsPermutation (counted (length log)) (owned h.ended)
drawn_all v log h p t a b none whole =
    subst (λ l. IsPermutation l (owned h.ended)) t.numbers (others_own log h p (t.seats h p a b) none whole)

-- 1 for a number below n
abbrev pub one_below : ℕ → ℕ → ℕ
one_below n x = cond (ltb x n) 1 0

counted_many : (n m l : ℕ) → n < 2 ^ 64 → m ≤ n → m ≤ l → m ≤ sum_by (one_below n) (counted l)
counted_many n m zero small le fits = omega arith
counted_many n m (suc l) small le fits =
    let push = sum_by_push (one_below n) (counted l) (l % 2 ^ 64) in
    dite (dec_lt l m)
    (λ lt.
    let r = counted_many n l l small (omega arith) (omega arith) in
    let one : one_below n (l % 2 ^ 64) ≡ 1 = ap (λ b. cond b 1 0) (lt-ltb (l % 2 ^ 64) n (omega arith)) in
    omega arith)
    (λ ge. let r = counted_many n m l small le (omega arith) in omega arith)

counted_below : (l : ℕ) → All (λ x. x < l) (counted l)
counted_below zero = All-nil (λ x. x < 0)
counted_below (suc l) = All-push (λ x. x < suc l) (counted l) (l % 2 ^ 64) (All-weaker (λ x. x < l) (λ x. x < suc l) (λ x h. omega arith) (counted l) (counted_below l)) (omega arith)

-- where a number was drawn that isn't below n, all numbers below n were drawn
pub drawn_below : (n l last : ℕ) (draws : List ℕ) → n < 2 ^ 64 → IsPermutation (counted l) draws → Contains draws last → n ≤ last → n ≤ sum_by (one_below n) draws
drawn_below n l last draws small p has ge =
    let below : last < l = All-contains (λ x. x < l) (counted l) last (counted_below l) (Contains-permutation draws (counted l) last (IsPermutation-sym (counted l) draws p) has) in
    let many = counted_many n n l small (omega arith) (omega arith) in
    let same = sum_by-IsPermutation (one_below n) (counted l) draws p in
    omega arith
