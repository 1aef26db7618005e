-- An expression whose canonical form has few enough operators and parentheses is kept.
use Rattle.std.proofs.Common.{◌≡◌, ℕ, ◌+◌, ◌≤◌, ◌<◌, cond, List, [], ◌∷◌, ◌++◌, length, refl, sym, ap, subst, ◌∙◌, append_assoc, inl, inr, arith}
use Rattle.td_ast.specs.declared.token.Token.{Token}
use Rattle.td_ast.specs.declared.token.TokenKind.{TokenKind}
use Rattle.td_ast.specs.Trees.{Tree}
use Rattle.td_ast.specs.Kinds.{number_of_kind}
use Rattle.td_grammar.specs.Sets.{member}
use Rattle.td_grammar.specs.Limits.{count}
use Rattle.td_grammar.specs.Scan.{counted}
use Rattle.td_grammar.specs.Expressions.{expr}
use Rattle.td_grammar.specs.declared.limits.TheConstants.{OPERATORS}
use Rattle.td_grammar.proofs.Limited.{longer_rest}
use Rattle.td_grammar.proofs.Over.{count-append}
use Rattle.td_grammar.proofs.Scanned.{expr_exact}
use Rattle.td_print_layout.specs.Pieces.{kinds_of}
use Rattle.td_print_layout.specs.Expressions.{expression_pieces}
use Rattle.td_print_layout.proofs.Tokens.{kinds_in}
use Rattle.td_print_layout.proofs.Expressions.{Same, expression_back}
use Rattle.td_print_layout.proofs.Clean.{Clean}
use Rattle.td_print_layout.proofs.Kept.{Kept}
use Rattle.td_print_layout.proofs.Plainly.{begun_of}

-- how many of these kinds are operators or opening parentheses
abbrev pub cost_of : List TokenKind → ℕ
cost_of [] = 0
cost_of (k ∷ ks) = cond (member counted (number_of_kind k)) (cost_of ks + 1) (cost_of ks)

pub count_is_cost : (tokens : List Token) → count counted tokens ≡ cost_of (kinds_in tokens)
count_is_cost [] = refl
count_is_cost (t ∷ tokens) = let ih = count_is_cost tokens in rw ih refl

-- an expression whose canonical form is within the limit
abbrev pub IsLight : Tree → Type 0
IsLight tree = cost_of (kinds_of (expression_pieces tree)) ≤ OPERATORS

-- a token that passes the limit has more before it and itself than the limit
passed_count : (front : List Token) (t : Token) → expr.Passes (front ++ t ∷ []) → count counted (front ++ t ∷ []) ≡ OPERATORS + 1
unfolding expr
passed_count front t (f, last, e, m, c, b) = rw (e, count-append counted f (last ∷ []), c, m) refl

light_clean : (a : Tree) (tokens : List Token) → expr.Spells a tokens → count counted tokens ≤ OPERATORS → Clean expr a tokens
light_clean a tokens s few rest stops =
    elim (expr_exact.again a tokens rest s stops) [
      | inl got ↦ got
      | inr over ↦
          let d = expr_exact.deep (tokens ++ rest) over.0 over.1 in
          let longer = subst (λ (l : List Token). length rest < length l) d.4 over.2 in
          let p = longer_rest tokens rest d.0 (d.1 ∷ d.2) d.3 longer in
          let same : d.1 ≡ p.0 = cc (p.3) in
          let whole : tokens ≡ (d.0 ++ d.1 ∷ []) ++ p.1 = p.2 ∙ (ap (λ (x : Token). d.0 ++ x ∷ p.1) (sym same) ∙ sym (append_assoc d.0 (d.1 ∷ []) p.1)) in
          absurd (omega (arith, few, ap (count counted) whole, count-append counted (d.0 ++ d.1 ∷ []) p.1, passed_count d.0 d.1 d.5))
    ]

pub expression_kept : (tree : Tree) → IsLight tree → Kept expr (expression_pieces tree) (Same tree)
expression_kept tree light = record {
  read = λ tokens e.
      let a = (expression_back tree).read tokens e in
      let few : count counted tokens ≤ OPERATORS = rw (count_is_cost tokens, e) light in
      (a.0, light_clean a.0 tokens a.1 few, begun_of expr expr_exact a.0 tokens a.1, a.2);
}
