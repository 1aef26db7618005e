-- Equal numbers, equal answers, and what equal parts give. Cited by other crates.
use Rattle.std.proofs.Common.{◌≡◌, ℕ, zero, suc, ◌-◌, ◌<◌, pos, negsuc, true, false, cond, nat_eq, Result, Err, ap, ◌∙◌, arith, ◌+◌, ◌*◌}
use Rattle.std.specs.Prelude.{◌-ℤ◌}
use Rattle.std.specs.Ordering.{is_eq, nat_cmp}
use Rattle.std.proofs.lemmas.Bool.{lt-ltb}
use Rattle.std.proofs.lemmas.Bool.Decides.{nat_tests}

pub equal_itself : (n : ℕ) → nat_eq n n ≡ true
equal_itself n = grind (arith, nat_tests)

pub unequal_below : (j k : ℕ) → j < k → nat_eq j k ≡ false
unequal_below j k h = grind (arith, nat_tests)

pub below_other : (n k : ℕ) → n < suc k → nat_eq n k ≡ false → n < k
below_other n k h e = grind (arith, nat_tests)

-- the two tests for equal numbers
pub same_test : (n k : ℕ) → is_eq (nat_cmp k n) ≡ nat_eq n k
same_test n k = grind (arith, nat_tests)

pub next_product : (k w : ℕ) → suc k * w ≡ w + k * w
next_product k w = grind arith

pub same_error : {T E : Type 0} (a b : E) → (let r : Result T E = Err a in r ≡ Err b) → a ≡ b
same_error a b same = cc

pub two_same : {A B C : Type 0} (f : A → B → C) (a a' : A) (b b' : B) → a ≡ a' → b ≡ b' → f a b ≡ f a' b'
two_same f a a' b b' g h = ap (λ x. f x b) g ∙ ap (f a') h

pub three_same : {A B C D : Type 0} (f : A → B → C → D) (a a' : A) (b b' : B) (c c' : C) → a ≡ a' → b ≡ b' → c ≡ c' → f a b c ≡ f a' b' c'
three_same f a a' b b' c c' g h k = ap (λ x. f x b c) g ∙ two_same (f a') b b' c c' h k

-- a difference below 0
pub minus_under : (a b : ℕ) → a < b → pos a -ℤ pos b ≡ negsuc (b - suc a)
minus_under a zero h = absurd (omega (arith, h))
minus_under a (suc b) h = ap (λ t. cond t (negsuc (suc b - suc a)) (pos (a - suc b))) (lt-ltb a (suc b) h)
