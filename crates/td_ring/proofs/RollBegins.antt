-- Rolls of one view.
use Rattle.std.proofs.Common.{◌≡◌, [], ◌∷◌, refl, sym, ap, ◌∙◌, subst, arith}
use mathlib.Core.Option.{Option, none, some, some-injective, some-ne-none}
use Rattle.td_words.proofs.Makes.{placed, put_same}
use Rattle.td_ring.specs.declared.roll.Part.{Part}
use Rattle.td_ring.specs.declared.roll.Head.{Head}
use Rattle.td_ring.specs.Roll.{part_of, head_of, IsInLog, count_of, IsHeld, Roll}
use Rattle.td_ring.proofs.RollViews.{only}

module _ {A V : Type 0} (head : V → Option (Head A)) (part : V → Option (Part A)) where
  -- the one view is the head, and the part 0
  pub begins_own : (v : V) → head v ≡ some (head_of 1 []) → part v ≡ some (part_of 0 []) → Roll head part (v ∷ []) []
  begins_own v is is_part = record {
    host = 0;
    made = 1;
    ended = [];
    place_of = λ n. placed (λ _. none) 0 (some 0) n;
    one_head = (v, refl, is);
    each_head = λ i u h t f. only (λ k w. (g : Head A) → head w ≡ some g → (k ≡ 0) × (g ≡ head_of 1 [])) v (λ g e. (refl, some-injective g _ (sym e ∙ is))) i u t h f;
    each_part = λ i u p t f. only (λ k w. (q : Part A) → part w ≡ some q → IsInLog 1 [] q × (placed (λ _. none) 0 (some 0) q.number ≡ some k)) v
        (λ q e. subst (λ (z : Part A). IsInLog 1 [] z × (placed (λ _. none) 0 (some 0) z.number ≡ some 0)) (some-injective (part_of 0 []) q (sym is_part ∙ e)) ((omega arith, refl), put_same (λ _. none) 0 (some 0))) i u t p f;
    each_ended = λ i p e. absurd (some-ne-none p (sym e));
    apart = λ a b s t ea eb e. absurd (some-ne-none s (sym ea));
    held = λ n lt. let z : n ≡ 0 = omega arith in subst (λ k. IsHeld head part (v ∷ []) [] k (placed (λ _. none) 0 (some 0) k)) (sym z) (subst (IsHeld head part (v ∷ []) [] 0) (sym (put_same (λ _. none) 0 (some 0))) (v, part_of 0 [], refl, is_part, refl));
    none_else = λ n le. refl;
    count = let x : count_of (part v) ≡ 1 = ap count_of is_part in omega arith;
  }
