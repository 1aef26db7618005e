-- Lists of loads that go on.
use Rattle.std.proofs.Common.{◌≡◌, ◌≢◌, ℕ, ◌+◌, List, [], ◌∷◌, ◌++◌, append_assoc, append-nil, refl, sym, ap, ◌∙◌, subst, arith}
use Rattle.std.specs.List.{All}
use Rattle.std.proofs.lemmas.List.Elements.{All-nil, All-cons, All-head, All-tail, All-append, All-push, All-weaker}
use Rattle.td_stream.specs.declared.load.Load.{Load}
use Rattle.td_stream.specs.Room.{LoadsView}
use Rattle.td_chain.specs.Loaded.{Holds, IsFresh, AreApart, Grown, Looked}

-- the first of two parts
pub all_first : (P : Load → Type 0) (xs ys : List Load) → All P (xs ++ ys) → All P xs
all_first P [] ys h = All-nil P
all_first P (x ∷ xs) ys h = All-cons P x xs (All-head P x (xs ++ ys) h) (all_first P xs ys (All-tail P x (xs ++ ys) h))

-- one more, that is new
pub apart_push : (xs : List Load) (l : Load) → AreApart xs → IsFresh l.word xs → AreApart (xs ++ l ∷ [])
apart_push [] l a f = (All-nil (λ (x : Load). x.word ≢ l.word), tt)
apart_push (x ∷ xs) l a f =
    let at : x.word ≢ l.word = All-head (λ (y : Load). y.word ≢ l.word) x xs f in
    (All-push (λ (y : Load). y.word ≢ x.word) xs l a.0 (λ e. at (sym e)), apart_push xs l a.1 (All-tail (λ (y : Load). y.word ≢ l.word) x xs f))

pub grown_itself : (P : ℕ → Type 0) (xs : List Load) → Grown P xs xs
grown_itself P xs = record { more = []; are = sym (append-nil xs); only = All-nil (λ (l : Load). P l.word); apart = λ a. a }

pub grown_by : (P : ℕ → Type 0) (xs : List Load) (l : Load) → P l.word → IsFresh l.word xs → Grown P xs (xs ++ l ∷ [])
grown_by P xs l p f = record {
  more = l ∷ [];
  are = refl;
  only = All-cons (λ (x : Load). P x.word) l [] p (All-nil (λ (x : Load). P x.word));
  apart = λ a. apart_push xs l a f;
}

pub grown_on : (P : ℕ → Type 0) (xs ys zs : List Load) → Grown P xs ys → Grown P ys zs → Grown P xs zs
grown_on P xs ys zs g h = record {
  more = g.more ++ h.more;
  are = h.are ∙ ap (λ us. us ++ h.more) g.are ∙ append_assoc xs g.more h.more;
  only = All-append (λ (l : Load). P l.word) g.more h.more g.only h.only;
  apart = λ a. h.apart (g.apart a);
}

pub grown_weaker : (P Q : ℕ → Type 0) (xs ys : List Load) → ((i : ℕ) → P i → Q i) → Grown P xs ys → Grown Q xs ys
grown_weaker P Q xs ys f g = record {
  more = g.more;
  are = g.are;
  only = All-weaker (λ (l : Load). P l.word) (λ (l : Load). Q l.word) (λ l p. f l.word p) g.more g.only;
  apart = g.apart;
}

-- a memory that holds the later loads holds the earlier ones
pub holds_before : (P : ℕ → Type 0) (m : ℕ → ℕ) (xs ys : List Load) → Grown P xs ys → Holds m ys → Holds m xs
holds_before P m xs ys g h = all_first (λ (l : Load). m l.word ≡ l.value) xs g.more (subst (Holds m) g.are h)

module _ {S : Type 0} (loads_of : S → List Load) (goes : S → S → Type 0) where
  pub looked_on : ((u v w : S) → goes u v → goes v w → goes u w) → (P : ℕ → Type 0) (n k r : ℕ) (s t u : S) (a b c : LoadsView)
      → n + k ≡ r → Looked loads_of goes P n s t a b → Looked loads_of goes P k t u b c → Looked loads_of goes P r s u a c
  looked_on on P n k r s t u a b c e x y = record {
    same = y.same;
    reaches = on s t u x.reaches y.reaches;
    room = omega (arith, e, x.room, y.room);
    grown = grown_on P a.list b.list c.list x.grown y.grown;
  }

  pub looked_weaker : (P Q : ℕ → Type 0) (n : ℕ) (s t : S) (a b : LoadsView) → ((i : ℕ) → P i → Q i)
      → Looked loads_of goes P n s t a b → Looked loads_of goes Q n s t a b
  looked_weaker P Q n s t a b f x = record { same = x.same; reaches = x.reaches; room = x.room; grown = grown_weaker P Q a.list b.list f x.grown }
