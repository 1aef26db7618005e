-- The code of a module is one: its definition says each table, but for the sets, and numbers that rise are one list.
use Rattle.std.proofs.Common.{◌≡◌, ℕ, suc, ◌≤◌, Bool, true, false, ◌||◌, nat_eq, List, [], ◌∷◌, length, slice_index_or, refl, sym, ap, ap₂, subst, ◌∙◌, arith, true≢false}
use Rattle.td_num.specs.Lists.{is_among}
use Rattle.td_core.specs.declared.module.Module.{Module}
use Rattle.td_ir.specs.declared.tables.Parts.{Parts}
use Rattle.td_ir.specs.Listing.{listing}
use Rattle.td_ir.specs.WellFormed.{Rises}
use Rattle.td_lower.specs.Sets.{IsSetOf, AreSetsOf}
use Rattle.td_lower.specs.Code.{IsWritten}
use Rattle.td_image.specs.Answer as images
use Rattle.td_image.specs.Image.{image}
use Rattle.td_code.specs.Laws.{CodeIsOne, OneListing, OnePacked}
use Rattle.td_num.proofs.Equals.{equal_itself as itself}
use Rattle.td_num.proofs.Truths.{eq_is as same_is}
use Rattle.td_ir.proofs.Rising.{rises_on, rises_above as above}

-- ---- numbers that rise

first_in : (x : ℕ) (xs : List ℕ) → is_among (x ∷ xs) x ≡ true
first_in x xs = ap (λ b. b || is_among xs x) (itself x)

at_least : (x n : ℕ) (xs : List ℕ) → Rises (x ∷ xs) → is_among (x ∷ xs) n ≡ true → x ≤ n
at_least x n xs h a = by (nat_eq n x) refl a
  where
    by : (b : Bool) → nat_eq n x ≡ b → (b || is_among xs n) ≡ true → x ≤ n
    by true e g = let s = same_is n x e in omega (arith, s)
    by false e g = let k = above x n xs h g in omega (arith, k)

not_again : (x n : ℕ) (xs : List ℕ) → Rises (x ∷ xs) → n ≡ x → is_among xs n ≡ false
not_again x n xs h s = by (is_among xs n) refl
  where
    by : (b : Bool) → is_among xs n ≡ b → b ≡ false
    by true e = absurd (let k = above x n xs h e in omega (arith, s, k))
    by false e = refl

-- ---- with the same numbers they are one list

abbrev HaveSame : List ℕ → List ℕ → Type 0
HaveSame xs ys = (n : ℕ) → is_among xs n ≡ is_among ys n

same_head : (x y : ℕ) (xs ys : List ℕ) → Rises (x ∷ xs) → Rises (y ∷ ys) → HaveSame (x ∷ xs) (y ∷ ys) → x ≡ y
same_head x y xs ys h g same =
    let up = at_least y x ys g (sym (same x) ∙ first_in x xs) in
    let down = at_least x y xs h (same y ∙ first_in y ys) in
    omega (arith, up, down)

same_rest : (x : ℕ) (xs ys : List ℕ) → Rises (x ∷ xs) → Rises (x ∷ ys) → HaveSame (x ∷ xs) (x ∷ ys) → HaveSame xs ys
same_rest x xs ys h g same n = by (nat_eq n x) refl (same n)
  where
    by : (b : Bool) → nat_eq n x ≡ b → (b || is_among xs n) ≡ (b || is_among ys n) → is_among xs n ≡ is_among ys n
    by true e k = let s = same_is n x e in not_again x n xs h s ∙ sym (not_again x n ys g s)
    by false e k = k

one_list : (xs ys : List ℕ) → Rises xs → Rises ys → HaveSame xs ys → xs ≡ ys
one_list [] [] h g same = refl
one_list [] (y ∷ ys) h g same = absurd (true≢false (sym (same y ∙ first_in y ys)))
one_list (x ∷ xs) [] h g same = absurd (true≢false (sym (first_in x xs) ∙ same x))
one_list (x ∷ xs) (y ∷ ys) h g same =
    let e : x ≡ y = same_head x y xs ys h g same in
    let k : Rises (x ∷ ys) = subst (λ (z : ℕ). Rises (z ∷ ys)) (sym e) g in
    let s : HaveSame (x ∷ xs) (x ∷ ys) = subst (λ (z : ℕ). HaveSame (x ∷ xs) (z ∷ ys)) (sym e) same in
    let rest : xs ≡ ys = one_list xs ys (rises_on x xs h) (rises_on y ys g) (same_rest x xs ys h k s) in
    ap₂ (λ (z : ℕ) (zs : List ℕ). z ∷ zs) e rest

-- ---- the sets of a module

one_set : (values a b : List ℕ) → IsSetOf values a → IsSetOf values b → a ≡ b
one_set values a b h g = one_list a b h.rises g.rises (λ n. h.same n ∙ sym (g.same n))

same_at_each : (a b : List (List ℕ)) → length a ≡ length b → ((k : ℕ) → slice_index_or a k [] ≡ slice_index_or b k []) → a ≡ b
same_at_each [] [] e h = refl
same_at_each [] (y ∷ ys) e h = absurd (omega (arith, e))
same_at_each (x ∷ xs) [] e h = absurd (omega (arith, e))
same_at_each (x ∷ xs) (y ∷ ys) e h =
    let first : x ≡ y = h 0 in
    let rest : xs ≡ ys = same_at_each xs ys (omega (arith, e)) (λ k. h (suc k)) in
    ap₂ (λ (z : List ℕ) (zs : List (List ℕ)). z ∷ zs) first rest

one_sets : (all a b : List (List ℕ)) → AreSetsOf all a → AreSetsOf all b → a ≡ b
one_sets all a b h g =
    same_at_each a b (h.count ∙ sym g.count) (λ k. one_set (slice_index_or all k []) (slice_index_or a k []) (slice_index_or b k []) (h.each k) (g.each k))

-- ---- the code

same_parts : (c d : Parts) → c.names ≡ d.names → c.sites ≡ d.sites → c.maps ≡ d.maps → c.sets ≡ d.sets → c.routines ≡ d.routines → c.entries ≡ d.entries → c.instructions ≡ d.instructions → c ≡ d
same_parts c d p q r s t u v = λ i. record { names = p i; sites = q i; maps = r i; sets = s i; routines = t i; entries = u i; instructions = v i }

one_written : (c d : Parts) (m : Module) → IsWritten c m → IsWritten d m → c ≡ d
one_written c d m h g =
    same_parts c d
    (h.names ∙ sym g.names)
    (h.sites ∙ sym g.sites)
    (h.maps ∙ sym g.maps)
    (one_sets m.listed c.sets d.sets h.sets g.sets)
    (h.routines ∙ sym g.routines)
    (h.entries ∙ sym g.entries)
    (h.instructions ∙ sym g.instructions)

pub one_code : CodeIsOne
one_code c d m h g = one_written c d m h.written g.written

pub one_listing : OneListing
one_listing m a b h g = h.2 ∙ ap listing (one_code h.0 g.0 m h.1 g.1) ∙ sym g.2

pub one_packed : OnePacked
one_packed m a b h g = h.image_is.1 ∙ ap (λ (p : Parts). image.bytes (images.written p)) (one_code h.code g.code m h.of g.of) ∙ sym g.image_is.1
