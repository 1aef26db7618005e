-- How the takers of rings are made.
use Rattle.std.proofs.Common.{◌≡◌, ℕ, zero, suc, ◌+◌, ◌*◌, ◌<◌, ◌≤◌, List, [], ◌∷◌, ◌++◌, length, drop, refl, sym, ap, ◌∙◌, subst, arith}
use Rattle.std.specs.Prelude.{slice_index_or}
use Rattle.std.proofs.lemmas.List.{drop_more, drop_all}
use Rattle.std.proofs.lemmas.List.Sums.{sum_by-cons}
use mathlib.Core.Logic.{dite}
use native.Mathlib.Decide.{dec_lt}
use Rattle.td_posts.specs.declared.job.HostJob.{HostJob}
use Rattle.td_posts.specs.declared.ring.RingJob.{RingJob}
use Rattle.td_descr.specs.Ring.{ReaderView}
use Rattle.td_takes.specs.declared.take.TakeRoom.{TakeRoom}
use Rattle.td_takes.specs.Takes.{IsRoom, AreRooms}
use Rattle.td_host.specs.Gathered.{IsReaderOf, AreReadersOf}
use Rattle.td_host.specs.Hosts.{takes_in}

tail_of : {A : Type 0} → List A → List A
tail_of [] = []
tail_of (x ∷ xs) = xs

head_or : {A : Type 0} → A → List A → A
head_or d [] = d
head_or d (x ∷ xs) = x

-- ---- what a list has from a place on
pub record IsAtDrop {A : Type 0} (xs : List A) (n : ℕ) (x : A) (rest : List A) (d : A) : Type 0 where
  pub less : n < length xs
  pub is : slice_index_or xs n d ≡ x
  pub more : rest ≡ drop (n + 1) xs

pub dropped : {A : Type 0} (xs : List A) (n : ℕ) (x : A) (rest : List A) (d : A) → drop n xs ≡ x ∷ rest → IsAtDrop xs n x rest d
unfolding tail_of head_or
dropped xs n x rest d e = dite (dec_lt n (length xs))
    (λ lt.
    let split = sym (drop_more xs n d lt) ∙ e in
    record { less = lt; is = ap (head_or x) split; more = sym (ap tail_of split) })
    (λ ge. let z = ap length (sym (drop_all n xs (omega (arith, ge))) ∙ e) in absurd (omega (arith, z)))

pub none_left : {A : Type 0} (xs : List A) (n : ℕ) (rest : List A) → drop n xs ≡ rest → length rest ≡ 0 → length xs ≤ n
none_left [] n rest e none = omega arith
none_left (x ∷ xs) n rest e none = dite (dec_lt n (length (x ∷ xs)))
    (λ lt. let z = ap length (sym (drop_more (x ∷ xs) n x lt) ∙ e) in absurd (omega (arith, z, none)))
    (λ ge. omega (arith, ge))

-- ---- readers
pub as_many_readers : (bytes : ℕ) (rings : List RingJob) (readers : List ReaderView) → AreReadersOf bytes rings readers → length readers ≡ length rings
unfolding AreReadersOf
as_many_readers bytes [] [] a = refl
as_many_readers bytes [] (d ∷ ds) a = absurd a
as_many_readers bytes (p ∷ ps) [] a = absurd a
as_many_readers bytes (p ∷ ps) (d ∷ ds) a = ap suc (as_many_readers bytes ps ds a.1)

pub reader_at : (bytes : ℕ) (rings : List RingJob) (readers : List ReaderView) (n : ℕ) (p : RingJob) (d : ReaderView) → AreReadersOf bytes rings readers → n < length rings
    → IsReaderOf bytes (slice_index_or rings n p) (slice_index_or readers n d)
unfolding AreReadersOf
reader_at bytes [] readers n p d a lt = absurd (omega (arith, lt))
reader_at bytes (q ∷ qs) [] n p d a lt = absurd a
reader_at bytes (q ∷ qs) (x ∷ xs) zero p d a lt = a.0
reader_at bytes (q ∷ qs) (x ∷ xs) (suc n) p d a lt = reader_at bytes qs xs n p d a.1 (omega (arith, lt))

-- ---- rooms
pub rooms_push : (job : HostJob) (frames desc_frames most : ℕ) (rooms : List TakeRoom) (r : TakeRoom) → AreRooms job frames desc_frames most rooms → IsRoom job frames desc_frames most r
    → AreRooms job frames desc_frames most (rooms ++ r ∷ [])
unfolding AreRooms
rooms_push job frames desc_frames most [] r a h = (h, tt)
rooms_push job frames desc_frames most (x ∷ rooms) r a h = (a.0, rooms_push job frames desc_frames most rooms r a.1 h)

pub no_rooms : (job : HostJob) (frames desc_frames most : ℕ) (rooms : List TakeRoom) → rooms ≡ [] → AreRooms job frames desc_frames most rooms
unfolding AreRooms
no_rooms job frames desc_frames most rooms e = subst (AreRooms job frames desc_frames most) (sym e) tt

-- ---- how many takes there are
pub record Counting (rings : List RingJob) (n count : ℕ) : Type 0 where
  pub so_far : count + takes_in (drop n rings) ≡ takes_in rings
  pub few : count ≤ n * 4096

pub counts_none : (rings : List RingJob) → Counting rings 0 0
counts_none rings = record { so_far = (let z : 0 + takes_in rings ≡ takes_in rings = omega arith in z); few = omega arith }

pub counts_one : (rings : List RingJob) (n count : ℕ) (ring d : RingJob) (count' : ℕ) → Counting rings n count → n < length rings → slice_index_or rings n d ≡ ring → ring.takes ≤ 4096 → count' ≡ count + ring.takes → Counting rings (n + 1) count'
counts_one rings n count ring d count' c lt is few e =
    let split : drop n rings ≡ ring ∷ drop (n + 1) rings = drop_more rings n d lt ∙ ap (λ r. r ∷ drop (n + 1) rings) is in
    let s = ap takes_in split ∙ sum_by-cons (λ (r : RingJob). r.takes) ring (drop (n + 1) rings) in
    let whole = c.so_far in
    record { so_far = omega (arith, s, whole, e); few = let m = c.few in omega (arith, m, few, e) }

pub counts_all : (rings : List RingJob) (n count : ℕ) → Counting rings n count → length rings ≤ n → count ≡ takes_in rings
counts_all rings n count c le =
    let none = ap takes_in (drop_all n rings le) in
    let whole = c.so_far in
    omega (arith, none, whole)
