-- The loop that reads the items of an enum.
use Rattle.std.proofs.Common.{◌≡◌, ◌<◌, ℕ, Bool, true, false, cond, eqb, eq-eqb, List, [], ◌∷◌, ◌++◌, length, Option, Some, None, refl, sym, ap, ◌∙◌, append_assoc, arith}
use Rattle.std.proofs.lemmas.Bool.{eqb-true}
use Rattle.std.proofs.lemmas.List.{append-nil}
use Rattle.td_ast.specs.declared.token.TokenKind.TheVariants as kinds
use Rattle.td_ast.specs.declared.token.Token.{Token}
use Rattle.td_ast.specs.declared.token.Span.{Span}
use Rattle.td_ast.specs.declared.definitions.ItemTree.{ItemTree}
use Rattle.td_ast.specs.Kinds.{number_of_kind, is_kind}
use Rattle.td_grammar.specs.Sets.{member, comes, any_name, only}
use Rattle.td_grammar.specs.Reading.{Outcome, Got, Bad, Deep, ◌and_then◌, with_first}
use Rattle.td_grammar.specs.Grammar.{maybe}
use Rattle.td_grammar.specs.Definitions.{item}
use Rattle.td_grammar.proofs.All.{shorter}
use Rattle.td_grammar.proofs.Loops.{with_all}
use Rattle.td_grammar.proofs.Defs.{item_exact}
use Rattle.td_grammar.proofs.Lists.{says_last, says_part, says_more, says_bad, says_deep}
use Rattle.td_parser.specs.Pieces.{items, next_item}
use Rattle.td_parser_expr.specs.declared.failure.Failure.{Failure}
use Rattle.td_parser_expr.specs.declared.failure.Failure.TheVariants as failures
use Rattle.td_parser_expr.specs.Giving.{Fails}

-- what is read after an item
abbrev pub read_after : List Token → Outcome (List ItemTree)
read_after [] = Got [] []
read_after (t ∷ tokens) = cond (member (only kinds.Comma) (number_of_kind t.kind)) (cond (comes (only any_name) tokens) (items.reader.read tokens) (Got [] tokens)) (Got [] (t ∷ tokens))

-- reading a list, by its first item
pub first_item : (tokens : List Token) (x : ItemTree) (rest : List Token) → item.reader.read tokens ≡ Got x rest → items.reader.read tokens ≡ with_first x (read_after rest)
unfolding item
first_item tokens x [] e = says_last (only kinds.Comma) item item_exact refl refl tokens x [] e refl
first_item tokens x (t ∷ rest) e = by_tests (member (only kinds.Comma) (number_of_kind t.kind)) (comes (only any_name) rest) refl refl
  where
    by_tests : (b c : Bool) → member (only kinds.Comma) (number_of_kind t.kind) ≡ b → comes (only any_name) rest ≡ c → items.reader.read tokens ≡ with_first x (cond b (cond c (items.reader.read rest) (Got [] rest)) (Got [] (t ∷ rest)))
    by_tests false c m k = says_last (only kinds.Comma) item item_exact refl refl tokens x (t ∷ rest) e m
    by_tests true false m k = says_part (only kinds.Comma) item item_exact refl refl tokens x t rest e m k
    by_tests true true m k = says_more (only kinds.Comma) item item_exact refl refl tokens x t rest e m k

-- a loop that has some
with_one : (x : ItemTree) (o : Outcome (List ItemTree)) → with_all ([] ++ x ∷ []) o ≡ with_first x o
with_one x (Got xs rest) = refl
with_one x (Bad rest) = refl
with_one x (Deep rest) = refl

with_more : (xs : List ItemTree) (x : ItemTree) (o : Outcome (List ItemTree)) → with_all (xs ++ x ∷ []) o ≡ with_all xs (with_first x o)
with_more xs x (Got ys rest) = ap (λ (l : List ItemTree). Got l rest) (append_assoc xs (x ∷ []) ys)
with_more xs x (Bad rest) = refl
with_more xs x (Deep rest) = refl

pub items_begin : (tokens : List Token) (x : ItemTree) (rest : List Token) → item.reader.read tokens ≡ Got x rest → with_all ([] ++ x ∷ []) (read_after rest) ≡ items.reader.read tokens
items_begin tokens x rest e = with_one x (read_after rest) ∙ sym (first_item tokens x rest e)

pub first_stopped : (failure : Failure) (tokens : List Token) → Fails failure (item.reader.read tokens) → Fails failure (items.reader.read tokens)
unfolding item
first_stopped failures.OutOfMemory tokens h = tt
first_stopped (failures.Unexpected rest) tokens h = says_bad (only kinds.Comma) item item_exact refl refl tokens rest.now h
first_stopped (failures.TooDeep rest) tokens h = says_deep (only kinds.Comma) item item_exact refl refl tokens rest.now h

abbrev pair : Span → Option ItemTree → List Token → Outcome (Span × Option ItemTree)
pair span b after = Got (span, b) after

-- what the comma leads to
comma_read : (t : Token) (tokens : List Token) → member (only kinds.Comma) (number_of_kind t.kind) ≡ true → next_item.reader.read (t ∷ tokens) ≡ ((maybe item).reader.read tokens and_then λ o rest. Got o rest)
comma_read t tokens m = by_test (eqb 62 (number_of_kind t.kind)) refl m
  where
    by_test : (b : Bool) → eqb 62 (number_of_kind t.kind) ≡ b → cond b true false ≡ true → next_item.reader.read (t ∷ tokens) ≡ ((maybe item).reader.read tokens and_then λ o rest. Got o rest)
    by_test true e m = let is : is_kind t.kind kinds.Comma ≡ true = eq-eqb (number_of_kind t.kind) 62 (sym (eqb-true 62 (number_of_kind t.kind) e)) in rw is (through ((maybe item).reader.read tokens))
      where
        through : (o : Outcome (Option ItemTree)) → ((o and_then λ b after. pair t.span b after) and_then λ x rest. Got x.1 rest) ≡ (o and_then λ o rest. Got o rest)
        through (Got b after) = refl
        through (Bad after) = refl
        through (Deep after) = refl
    by_test false e m = absurd cc

-- by what stands after the comma
data After (rest : List Token) : Type 0 where
  ends_there : (after : List Token) → read_after rest ≡ Got [] after → next_item.reader.read rest ≡ Got None after → length after < length rest → After rest
  goes_on : (r : List Token) → read_after rest ≡ items.reader.read r → next_item.reader.read rest ≡ (item.reader.read r and_then λ x after. Got (Some x) after) → length r < length rest → After rest

after_comma : (rest : List Token) → comes (only kinds.Comma) rest ≡ true → After rest
unfolding item
after_comma [] c = absurd cc
after_comma (t ∷ r) c = by_test (comes (only any_name) r) refl
  where
    by_test : (b : Bool) → comes (only any_name) r ≡ b → After (t ∷ r)
    by_test false k = let m : member (only kinds.Comma) (number_of_kind t.kind) ≡ true = c in ends_there r (rw (m, k) refl) (comma_read t r c ∙ rw k refl) (omega arith)
    by_test true k = let m : member (only kinds.Comma) (number_of_kind t.kind) ≡ true = c in goes_on r (rw (m, k) refl) (comma_read t r c ∙ rw k (twice (item.reader.read r))) (omega arith)
      where
        twice : (o : Outcome ItemTree) → ((o and_then λ x after. Got (Some x) after) and_then λ o rest. Got o rest) ≡ (o and_then λ x after. Got (Some x) after)
        twice (Got x after) = refl
        twice (Bad after) = refl
        twice (Deep after) = refl

some_got : (o : Outcome ItemTree) (x : Option ItemTree) (after : List Token) → (o and_then λ x after. Got (Some x) after) ≡ Got x after → (y : ItemTree) × (x ≡ Some y) × (o ≡ Got y after)
some_got (Got y rest) x after e = let r : rest ≡ after = cc in (y, cc, ap (λ (l : List Token). Got y l) r)
some_got (Bad rest) x after e = absurd cc
some_got (Deep rest) x after e = absurd cc

module _ (xs : List ItemTree) (rest : List Token) (total : Outcome (List ItemTree)) (c : comes (only kinds.Comma) rest ≡ true) (so_far : with_all xs (read_after rest) ≡ total) where
  pub items_end : (after : List Token) → next_item.reader.read rest ≡ Got None after → total ≡ Got xs after
  items_end after e = by_after (after_comma rest c)
    where
      by_after : After rest → total ≡ Got xs after
      by_after (ends_there a f g lt) = let same : a ≡ after = cc (g, e) in sym so_far ∙ (ap (with_all xs) f ∙ (ap (λ (l : List ItemTree). Got l a) (append-nil xs) ∙ ap (λ (l : List Token). Got xs l) same))
      by_after (goes_on r f g lt) = let p = some_got (item.reader.read r) None after (sym g ∙ e) in absurd (cc (p.1))

  pub items_more : (x : ItemTree) (after : List Token) → next_item.reader.read rest ≡ Got (Some x) after → with_all (xs ++ x ∷ []) (read_after after) ≡ total
  items_more x after e = by_after (after_comma rest c)
    where
      by_after : After rest → with_all (xs ++ x ∷ []) (read_after after) ≡ total
      by_after (ends_there a f g lt) = absurd (cc (g, e))
      by_after (goes_on r f g lt) =
          let p = some_got (item.reader.read r) (Some x) after (sym g ∙ e) in
          let same : p.0 ≡ x = cc (p.1) in
          let read : item.reader.read r ≡ Got x after = p.2 ∙ ap (λ (i : ItemTree). Got i after) same in
          with_more xs x (read_after after) ∙ (ap (with_all xs) (sym (first_item r x after read) ∙ sym f) ∙ so_far)

  pub items_shorter : (o : Option ItemTree) (after : List Token) → next_item.reader.read rest ≡ Got o after → length after < length rest
  unfolding item
  items_shorter o after e = by_after (after_comma rest c)
    where
      by_after : After rest → length after < length rest
      by_after (ends_there a f g lt) = let same : a ≡ after = cc (g, e) in omega (arith, lt, ap length same)
      by_after (goes_on r f g lt) = let p = some_got (item.reader.read r) o after (sym g ∙ e) in omega (arith, lt, shorter item item_exact refl r p.0 after p.2)

  pub items_stopped : (failure : Failure) → Fails failure (next_item.reader.read rest) → Fails failure total
  items_stopped failures.OutOfMemory h = tt
  items_stopped (failures.Unexpected at) h = by_after (after_comma rest c)
    where
      some_bad : (o : Outcome ItemTree) (l : List Token) → (o and_then λ x after. Got (Some x) after) ≡ Bad l → o ≡ Bad l
      some_bad (Got y m) l e = absurd cc
      some_bad (Bad m) l e = cc
      some_bad (Deep m) l e = absurd cc

      by_after : After rest → total ≡ Bad at.now
      by_after (ends_there a f g lt) = absurd (cc (g, h))
      by_after (goes_on r f g lt) = sym so_far ∙ ap (with_all xs) (f ∙ first_stopped (failures.Unexpected at) r (some_bad (item.reader.read r) at.now (sym g ∙ h)))
  items_stopped (failures.TooDeep at) h = by_after (after_comma rest c)
    where
      some_deep : (o : Outcome ItemTree) (l : List Token) → (o and_then λ x after. Got (Some x) after) ≡ Deep l → o ≡ Deep l
      some_deep (Got y m) l e = absurd cc
      some_deep (Bad m) l e = absurd cc
      some_deep (Deep m) l e = cc

      by_after : After rest → total ≡ Deep at.now
      by_after (ends_there a f g lt) = absurd (cc (g, h))
      by_after (goes_on r f g lt) = sym so_far ∙ ap (with_all xs) (f ∙ first_stopped (failures.TooDeep at) r (some_deep (item.reader.read r) at.now (sym g ∙ h)))
