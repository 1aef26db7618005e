-- Where the loaded words come from.
use Rattle.std.proofs.Common.{◌≡◌, ◌⊎◌, ℕ, zero, suc, ◌+◌, List, [], ◌∷◌, ◌++◌, refl, sym, ap, ◌∙◌, subst, inl, inr, ⊎_elim}
use Rattle.std.specs.Prelude.{slice_index}
use mathlib.Core.Option.{some, some-injective, some-ne-none}
use lib.ListN.{get_elem?}
use Rattle.td_words.specs.declared.view.Access.{Access}
use Rattle.td_words.specs.declared.view.Access.TheVariants as access
use Rattle.td_words.specs.declared.view.SeatView.{SeatView}
use Rattle.td_words.specs.declared.view.HostView.{HostView}
use Rattle.td_words.specs.History.{loads, stores, Has}
use Rattle.td_words.specs.Gathered.{Fetched}
use Rattle.td_posts.specs.declared.job.Step.{Step}
use Rattle.td_posts.specs.declared.job.HostJob.{HostJob}
use Rattle.td_posts.specs.Posts.{stores_of}
use Rattle.td_host.specs.Served.{In, AreStored, Comes}

module _ {A : Type 0} where
  in_at : (x : A) (xs : List A) → In x xs → (k : ℕ) × (get_elem? xs k ≡ some x)
  unfolding In
  in_at x [] p = absurd p
  in_at x (y ∷ xs) p = ⊎_elim (λ (e : y ≡ x). (0, ap some e)) (λ (q : In x xs). let r = in_at x xs q in (suc r.0, r.1)) p

  at_in : (x : A) (xs : List A) (k : ℕ) → get_elem? xs k ≡ some x → In x xs
  unfolding In
  at_in x [] k e = absurd (some-ne-none x (sym e))
  at_in x (y ∷ xs) zero e = inl (some-injective y x e)
  at_in x (y ∷ xs) (suc k) e = inr (at_in x xs k e)

  in_left : (x : A) (xs ys : List A) → In x xs → In x (xs ++ ys)
  unfolding In
  in_left x [] ys p = absurd p
  in_left x (y ∷ xs) ys p = ⊎_elim (λ (e : y ≡ x). inl e) (λ (q : In x xs). inr (in_left x xs ys q)) p

  in_both : (x : A) (xs ys : List A) → In x (xs ++ ys) → In x xs ⊎ In x ys
  unfolding In
  in_both x [] ys p = inr p
  in_both x (y ∷ xs) ys p = ⊎_elim (λ (e : y ≡ x). inl (inl e)) (λ (q : In x (xs ++ ys)). ⊎_elim (λ (a : In x xs). inl (inr a)) (λ (b : In x ys). inr b) (in_both x xs ys q)) p

  in_right : (x : A) (xs ys : List A) → In x ys → In x (xs ++ ys)
  unfolding In
  in_right x [] ys p = p
  in_right x (y ∷ xs) ys p = inr (in_right x xs ys p)

  among : (x : A) (xs ys zs : List A) → In x (xs ++ zs) → In x (xs ++ (ys ++ zs))
  among x xs ys zs p = ⊎_elim (λ (a : In x xs). in_left x xs (ys ++ zs) a) (λ (b : In x zs). in_right x xs (ys ++ zs) (in_right x ys zs b)) (in_both x xs zs p)

load_in : (l : ℕ × ℕ) (xs : List Access) → In l (loads xs) → (k : ℕ) × (get_elem? xs k ≡ some (access.Load l.0 l.1))
unfolding In
load_in l [] p = absurd p
load_in l (access.Load i w ∷ xs) p = ⊎_elim (λ (e : (i, w) ≡ l). (0, ap (λ (x : ℕ × ℕ). some (access.Load x.0 x.1)) e)) (λ (q : In l (loads xs)). let r = load_in l xs q in (suc r.0, r.1)) p
load_in l (access.Store i w ∷ xs) p = let r = load_in l xs p in (suc r.0, r.1)

IsStore : Access → Type 0
IsStore (access.Load i w) = ⊥
IsStore (access.Store i w) = Unit {0}

stored_pair : Access → ℕ × ℕ
stored_pair (access.Load i w) = (0, 0)
stored_pair (access.Store i w) = (i, w)

store_in : (i w : ℕ) (xs : List Access) (k : ℕ) → get_elem? xs k ≡ some (access.Store i w) → In (i, w) (stores xs)
unfolding In IsStore stored_pair
store_in i w [] k e = absurd (some-ne-none (access.Store i w) (sym e))
store_in i w (access.Load j x ∷ xs) zero e = absurd (subst IsStore (sym (some-injective (access.Load j x) (access.Store i w) e)) tt)
store_in i w (access.Load j x ∷ xs) (suc k) e = store_in i w xs k e
store_in i w (access.Store j x ∷ xs) zero e = inl (ap stored_pair (some-injective (access.Store j x) (access.Store i w) e))
store_in i w (access.Store j x ∷ xs) (suc k) e = inr (store_in i w xs k e)

played_in : (n : ℕ) (ss : List (List Step)) (vs : List SeatView) (u : SeatView) → AreStored n ss vs → In u vs → (s : List Step) × In s ss × (stores u.steps ≡ stores_of s)
unfolding In AreStored
played_in n ss [] u p q = absurd q
played_in n [] (v ∷ vs) u p q = absurd p
played_in n (s ∷ ss) (v ∷ vs) u p q = ⊎_elim
    (λ (e : v ≡ u). (s, inl refl, ap (λ (x : SeatView). stores x.steps) (sym e) ∙ p.2))
    (λ (r : In u vs). let x = played_in (v.number + 1) ss vs u p.4 r in (x.0, inr x.1, x.2)) q

pub fetches : (job : HostJob) (h : HostView) (readers guests takers : List SeatView) → h.ended ≡ readers ++ (guests ++ takers) → h.opened ≡ job.words → Fetched h
    → ((u : SeatView) → In u readers → stores u.steps ≡ []) → AreStored 0 job.guests guests → ((u : SeatView) → In u takers → stores u.steps ≡ [])
    → (v : SeatView) (l : ℕ × ℕ) → In v (readers ++ takers) → In l (loads v.steps) → Comes job l
unfolding In
fetches job h readers guests takers ended opened fetched quiet stored_by still v l p q =
    let all : List SeatView = readers ++ (guests ++ takers) in
    let a = in_at v all (among v readers guests takers p) in
    let b = load_in l v.steps q in
    ⊎_elim
    (λ (e : l.1 ≡ slice_index h.opened l.0). inl (e ∙ ap (λ ws. slice_index ws l.0) opened))
    (λ (x : (k : ℕ) × (u : SeatView) × (get_elem? h.ended k ≡ some u) × Has u.steps (access.Store l.0 l.1)).
    let u = x.1 in
    let s : In (l.0, l.1) (stores u.steps) = store_in l.0 l.1 u.steps x.3.0 x.3.1 in
    let there : In u all = at_in u all x.0 (ap (λ es. get_elem? es x.0) (sym ended) ∙ x.2) in
    ⊎_elim
    (λ (r : In u readers). absurd (subst (In (l.0, l.1)) (quiet u r) s))
    (λ (r : In u (guests ++ takers)).
    ⊎_elim
    (λ (g : In u guests). let y = played_in 0 job.guests guests u stored_by g in inr (y.0, y.1, subst (In (l.0, l.1)) y.2 s))
    (λ (t : In u takers). absurd (subst (In (l.0, l.1)) (still u t) s))
    (in_both u guests takers r))
    (in_both u readers (guests ++ takers) there))
    (fetched a.0 v l.0 l.1 (ap (λ es. get_elem? es a.0) ended ∙ a.1) (b.0, b.1))
