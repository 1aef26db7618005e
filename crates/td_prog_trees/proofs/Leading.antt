-- Trees that load the words of some places, and then go on. Cited by other crates.
use Rattle.std.proofs.Common.{◌≡◌, ℕ, zero, suc, ◌+◌, ◌-◌, ◌<◌, ◌≤◌, true, false, cond, List, [], ◌∷◌, ◌++◌, append_assoc, append-nil, refl, sym, ap, ◌∙◌, subst, arith}
use Rattle.std.specs.Prelude.{nat_lt}
use Rattle.std.proofs.lemmas.Bool.{lt-ltb, le-ltb}
use Rattle.td_num.specs.Numbers.{places_from}
use Rattle.td_prog.specs.Tree.{Tree, Done, Loads, bind, answer, loaded}
use Rattle.td_prog.specs.Syntax.{Var}
use Rattle.td_prog.specs.Values.{Locals, written}
use Rattle.td_prog.specs.Means.{Out, Gave, Continuation, shared, after_helper}
use Rattle.td_prog_trees.specs.Agree.{Numbering, Extent, fresh, behind, reached, IsForward}
use Rattle.td_prog_trees.specs.Readers.{IsTaken, IsCopied}
use Rattle.td_prog_trees.proofs.Composing.{Leads, fresh_append, behind_place, behind_append, forward_append, answer_bind, loaded_bind}

-- the words of a number's places, where all of them are of words that were loaded
fresh_none : (word : ℕ → ℕ) (next p w : ℕ) → ((q : ℕ) → p ≤ q → q < p + w → word q < next) → fresh word next (places_from p w) ≡ []
fresh_none word next p zero h = refl
fresh_none word next p (suc w) h =
    let l : nat_lt (word p) next ≡ true = lt-ltb (word p) next (h p (omega arith) (omega arith)) in
    ap (λ b. cond b (fresh word next (places_from (p + 1) w)) (word p ∷ fresh word (word p + 1) (places_from (p + 1) w))) l
    ∙ fresh_none word next (p + 1) w (λ q a b. h q (omega (arith, a)) (omega (arith, b)))

behind_none : (word : ℕ → ℕ) (next p w : ℕ) → ((q : ℕ) → p ≤ q → q < p + w → word q < next) → behind word next (places_from p w) ≡ next
behind_none word next p zero h = refl
behind_none word next p (suc w) h =
    let l : nat_lt (word p) next ≡ true = lt-ltb (word p) next (h p (omega arith) (omega arith)) in
    ap (λ b. cond b (behind word next (places_from (p + 1) w)) (behind word (word p + 1) (places_from (p + 1) w))) l
    ∙ behind_none word next (p + 1) w (λ q a b. h q (omega (arith, a)) (omega (arith, b)))

-- all of these places are of the first one's word, or of words before it
abbrev pub AreInOne : (ℕ → ℕ) → (p w : ℕ) → Type 0
AreInOne word p w = (q : ℕ) → p ≤ q → q < p + w → word q < word p + 1

-- of places that begin in a word that isn't held
fresh_new : (word : ℕ → ℕ) (next p w : ℕ) → next ≤ word p → 0 < w → AreInOne word p w → fresh word next (places_from p w) ≡ word p ∷ []
fresh_new word next p zero n s l = absurd (omega (arith, s))
fresh_new word next p (suc w) n s l =
    let b : nat_lt (word p) next ≡ false = le-ltb (word p) next n in
    ap (λ v. cond v (fresh word next (places_from (p + 1) w)) (word p ∷ fresh word (word p + 1) (places_from (p + 1) w))) b
    ∙ ap (λ ws. word p ∷ ws) (fresh_none word (word p + 1) (p + 1) w (λ q a c. l q (omega (arith, a)) (omega (arith, c))))

behind_new : (word : ℕ → ℕ) (next p w : ℕ) → next ≤ word p → 0 < w → AreInOne word p w → behind word next (places_from p w) ≡ word p + 1
behind_new word next p zero n s l = absurd (omega (arith, s))
behind_new word next p (suc w) n s l =
    let b : nat_lt (word p) next ≡ false = le-ltb (word p) next n in
    ap (λ v. cond v (behind word next (places_from (p + 1) w)) (behind word (word p + 1) (places_from (p + 1) w))) b
    ∙ behind_none word (word p + 1) (p + 1) w (λ q a c. l q (omega (arith, a)) (omega (arith, c)))

pub forward_places : (numbering : Numbering) (to next p w : ℕ) → next ≤ numbering.word p + 1 → p + w ≤ to
    → IsForward numbering.word to next (places_from p w)
forward_places numbering to next p zero h l = tt
forward_places numbering to next p (suc w) h l = (
  h,
  omega (arith, l),
  forward_places numbering to (numbering.word p + 1) (p + 1) w (let r = numbering.rises p (p + 1) (omega arith) in omega (arith, r)) (omega (arith, l)),
)

pub behind_places : (numbering : Numbering) (next p w : ℕ) → next ≤ numbering.word p + 1
    → behind numbering.word next (places_from p (suc w)) ≡ numbering.word (p + w) + 1
behind_places numbering next p zero h =
    let e : p ≡ p + 0 = omega arith in
    behind_place numbering.word next p h [] ∙ ap (λ q. numbering.word q + 1) e
behind_places numbering next p (suc w) h =
    let e : p + 1 + w ≡ p + suc w = omega arith in
    let r = numbering.rises p (p + 1) (omega arith) in
    behind_place numbering.word next p h (places_from (p + 1) (suc w))
    ∙ behind_places numbering (numbering.word p + 1) (p + 1) w (omega (arith, r)) ∙ ap (λ q. numbering.word q + 1) e

-- the word behind those before a place
pub reached_rises : (numbering : Numbering) (p q : ℕ) → p ≤ q → reached numbering.word p ≤ reached numbering.word q
reached_rises numbering zero q h = omega arith
reached_rises numbering (suc p) zero h = absurd (omega (arith, h))
reached_rises numbering (suc p) (suc q) h = let r = numbering.rises p q (omega (arith, h)) in omega (arith, r)

pub reached_near : (numbering : Numbering) (p : ℕ) → reached numbering.word p ≤ numbering.word p + 1
reached_near numbering zero = omega arith
reached_near numbering (suc p) = let r = numbering.rises p (suc p) (omega arith) in omega (arith, r)

pub reached_is : (numbering : Numbering) (p w : ℕ) → 0 < w → reached numbering.word (p + w) ≡ numbering.word (p + w - 1) + 1
reached_is numbering p zero h = absurd (omega (arith, h))
reached_is numbering p (suc w) h =
    let e : p + suc w ≡ suc (p + w) = omega arith in
    let f : p + w ≡ p + suc w - 1 = omega arith in
    ap (reached numbering.word) e ∙ ap (λ q. numbering.word q + 1) f

pub places_split : (p a b : ℕ) → places_from p (a + b) ≡ places_from p a ++ places_from (p + a) b
places_split p zero b =
    let e : p ≡ p + 0 = omega arith in
    let z : 0 + b ≡ b = omega arith in
    ap (places_from p) z ∙ ap (λ q. places_from q b) e
places_split p (suc a) b =
    let z : suc a + b ≡ suc (a + b) = omega arith in
    let e : p + 1 + a ≡ p + suc a = omega arith in
    ap (places_from p) z ∙ ap (λ ps. p ∷ ps) (places_split (p + 1) a b ∙ ap (λ q. places_from (p + 1) a ++ places_from q b) e)

module _ (extent : Extent) where
  open extent use {memory, numbering, basis, to}
  open numbering use {word}
  open basis use {message}

  abbrev Leading : (next next' : ℕ) → Tree Out → Tree Out → List ℕ → Type 0
  Leading next next' y x touched = Leads extent next next' y x touched

  pub then : (n1 n2 n3 : ℕ) (x y z : Tree Out) (t u : List ℕ) → Leading n1 n2 x y t → Leading n2 n3 y z u → Leading n1 n3 x z (t ++ u)
  then n1 n2 n3 x y z t u h k = record {
    same = h.same ∙ k.same;
    words =
        h.words ∙ ap (λ ws. fresh word n1 t ++ ws) (k.words ∙ ap (λ n. fresh word n u ++ loaded memory z) (sym h.behind_them))
        ∙ sym (append_assoc (fresh word n1 t) (fresh word (behind word n1 t) u) (loaded memory z)) ∙ ap (λ ws. ws ++ loaded memory z) (sym (fresh_append word n1 t u));
    behind_them = behind_append word n1 t u ∙ ap (λ n. behind word n u) h.behind_them ∙ k.behind_them;
    forward = forward_append word to n1 t u h.forward (subst (λ n. IsForward word to n u) (sym h.behind_them) k.forward);
  }

  -- nothing is loaded
  pub same_tree : (n : ℕ) (x y : Tree Out) → x ≡ y → Leading n n x y []
  same_tree n x y e = record { same = ap (answer memory) e; words = ap (loaded memory) e; behind_them = refl; forward = tt }

  -- a word is loaded
  pub load_leads : (next p w : ℕ) (k : ℕ → Tree Out) (v : ℕ) → memory (word p) ≡ v → next ≤ word p → 0 < w → AreInOne word p w → p + w ≤ to
      → Leading next (word p + 1) (Loads (word p) k) (k v) (places_from p w)
  load_leads next p w k v e n s l inside = record {
    same = ap (λ x. answer memory (k x)) e;
    words = ap (λ x. word p ∷ loaded memory (k x)) e ∙ ap (λ ws. ws ++ loaded memory (k v)) (sym (fresh_new word next p w n s l));
    behind_them = behind_new word next p w n s l;
    forward = forward_places numbering to next p w (omega (arith, n)) inside;
  }

  pub held_leads : (next p w : ℕ) (x y : Tree Out) → x ≡ y → next ≡ word p + 1 → AreInOne word p w → p + w ≤ to
      → Leading next (word p + 1) x y (places_from p w)
  held_leads next p w x y e n l inside =
      let all : (q : ℕ) → p ≤ q → q < p + w → word q < next = λ q a b. let r = l q a b in omega (arith, r, n) in
      record {
        same = ap (answer memory) e;
        words = ap (loaded memory) e ∙ ap (λ ws. ws ++ loaded memory y) (sym (fresh_none word next p w all));
        behind_them = behind_none word next p w all ∙ n;
        forward = forward_places numbering to next p w (omega (arith, n)) inside;
      }

  -- a number is taken
  pub taken_leads : (s : Locals) (tree : Tree Out) (p w v : ℕ) (t : IsTaken word memory s tree (places_from p w) v (word (p + w - 1))) → 0 < w
      → s.next ≤ word p + 1 → p + w ≤ to
      → Leading s.next (word (p + w - 1) + 1) tree (Done (Gave v t.final)) (places_from p w)
  taken_leads s tree p zero v t some n inside = absurd (omega (arith, some))
  taken_leads s tree p (suc w) v t some n inside =
      let e : p + w ≡ p + suc w - 1 = omega arith in
      record {
        same = t.gives;
        words = t.words ∙ sym (append-nil (fresh word s.next (places_from p (suc w))));
        behind_them = behind_places numbering s.next p w n ∙ ap (λ q. word q + 1) e;
        forward = forward_places numbering to s.next p (suc w) n inside;
      }

  -- bytes are copied
  pub copied_leads : (s : Locals) (tree : Tree Out) (buffer p w : ℕ) (t : IsCopied word memory basis s tree buffer p w) → s.next ≤ word p + 1 → p + w ≤ to
      → Leading s.next t.final.next tree (Done (Gave w t.final)) (places_from p w)
  copied_leads s tree buffer p w t n inside = record {
    same = t.gives;
    words = t.words ∙ sym (append-nil (fresh word s.next (places_from p w)));
    behind_them = t.then;
    forward = forward_places numbering to s.next p w n inside;
  }

  pub pre : (n m : ℕ) (x y z : Tree Out) (t : List ℕ) → x ≡ y → Leading n m y z t → Leading n m x z t
  pre n m x y z t e h = subst (λ u. Leading n m u z t) (sym e) h

  pub post : (n m : ℕ) (x y z : Tree Out) (t : List ℕ) → Leading n m x y t → y ≡ z → Leading n m x z t
  post n m x y z t h e = subst (λ u. Leading n m x u t) e h

  -- behind a helper's answer
  pub asked : (n m : ℕ) (tree : Tree Out) (v : ℕ) (t s : Locals) (x : Var) (go : Continuation) (touched : List ℕ)
      → Leading n m tree (Done (Gave v t)) touched → Leading n m (bind tree (after_helper x s go)) (go (written x v (shared s t))) touched
  asked n m tree v t s x go touched h = record {
    same = answer_bind memory tree (after_helper x s go) ∙ ap (λ o. answer memory (after_helper x s go o)) h.same;
    words = loaded_bind memory tree (after_helper x s go) ∙ ap (λ ws. ws ++ loaded memory (after_helper x s go (answer memory tree)))
        (h.words ∙ append-nil (fresh word n touched)) ∙ ap (λ o. fresh word n touched ++ loaded memory (after_helper x s go o)) h.same;
    behind_them = h.behind_them;
    forward = h.forward;
  }
