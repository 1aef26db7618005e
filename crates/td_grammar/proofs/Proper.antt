-- A production that is exact and unambiguous, and how such ones are combined.
use Rattle.std.proofs.Common.{◌≡◌, ℕ, Bool, true, false, List}
use Rattle.td_ast.specs.declared.token.Token.{Token}
use Rattle.td_ast.specs.declared.token.TokenKind.{TokenKind}
use Rattle.td_ast.specs.Kinds.{is_kind}
use Rattle.td_grammar.specs.Grammar.{Grammar, ◌then◌, ◌making◌, maybe, all_of, ◌or◌, either_by}
use Rattle.td_grammar.specs.Listed.{listed}
use Rattle.td_grammar.specs.Tokens.{terminal, name, literal, number_type}
use Rattle.td_grammar.specs.Expressions.{expr}
use Rattle.td_grammar.specs.Actions.{action}
use Rattle.td_grammar.proofs.Sets.{disjoint}
use Rattle.td_grammar.proofs.Exact.{IsExact, IsApart}
use Rattle.td_grammar.proofs.Then.{then_exact}
use Rattle.td_grammar.proofs.Making.{making_exact}
use Rattle.td_grammar.proofs.Maybe.{maybe_exact}
use Rattle.td_grammar.proofs.All.{all_exact}
use Rattle.td_grammar.proofs.Either.{or_exact}
use Rattle.td_grammar.proofs.Lists.{listed_exact}
use Rattle.td_grammar.proofs.Words.{terminal_exact, name_exact, literal_exact, number_type_exact}
use Rattle.td_grammar.proofs.Scanned.{expr_exact}
use Rattle.td_grammar.proofs.Stmts.{action_exact}
use Rattle.td_grammar.proofs.Tested.{IsTested, tested_exact, tested_one}
use Rattle.td_grammar.proofs.Unambiguous.{IsOne, then_one, making_one, maybe_one, or_one}
use Rattle.td_grammar.proofs.UnambiguousLists.{all_one, listed_one}
use Rattle.td_grammar.proofs.UnambiguousActions.{terminal_one, name_one, literal_one, number_type_one, expr_one, action_one}

pub record IsProper {A : Type 0} (g : Grammar A) : Type 0 where
  pub exact : IsExact g
  pub one : IsOne g

pub terminal_proper : (k : TokenKind) → is_kind k k ≡ true → IsProper (terminal k)
terminal_proper k e = record { exact = terminal_exact k e; one = terminal_one k e }

pub name_proper : IsProper name
name_proper = record { exact = name_exact; one = name_one }

pub literal_proper : IsProper literal
literal_proper = record { exact = literal_exact; one = literal_one }

pub number_type_proper : IsProper number_type
number_type_proper = record { exact = number_type_exact; one = number_type_one }

pub expr_proper : IsProper expr
expr_proper = record { exact = expr_exact; one = expr_one }

pub action_proper : IsProper action
action_proper = record { exact = action_exact; one = action_one }

pub sequel : {A B : Type 0} {g : Grammar A} {h : Grammar B} → IsProper g → IsProper h → IsApart g h → IsProper (g then h)
sequel {A} {B} {g} {h} G H apart = record { exact = then_exact g h G.exact H.exact apart; one = then_one g h G.one H.one apart }

pub making_proper : {A B : Type 0} (g : Grammar A) (f : A → B) → IsProper g → IsProper (g making f)
making_proper g f G = record { exact = making_exact g f G.exact; one = making_one g f G.one }

pub or_proper : {A : Type 0} (g h : Grammar A) → IsProper g → IsProper h → g.reader.may_be_empty ≡ false → h.reader.may_be_empty ≡ false → disjoint h.reader.begins g.reader.begins ≡ true → IsProper (g or h)
or_proper g h G H g_solid h_solid apart = record { exact = or_exact g h G.exact H.exact g_solid h_solid apart; one = or_one g h G.one H.one g_solid h_solid apart }

pub either_proper : {A : Type 0} (test : Token → Bool) (g h : Grammar A) → IsProper g → IsProper h → g.reader.may_be_empty ≡ false → h.reader.may_be_empty ≡ false → IsTested test true g → IsTested test false h → IsProper (either_by test g h)
either_proper test g h G H g_solid h_solid passing failing = record { exact = tested_exact test g h G.exact H.exact g_solid h_solid passing failing; one = tested_one test g h G.one H.one g_solid h_solid passing failing }

module _ {A : Type 0} (g : Grammar A) (G : IsProper g) (solid : g.reader.may_be_empty ≡ false) where
  pub maybe_proper : IsProper (maybe g)
  maybe_proper = record { exact = maybe_exact g G.exact solid; one = maybe_one g G.one solid }

  pub all_proper : IsApart g g → IsProper (all_of g)
  all_proper apart = record { exact = all_exact g G.exact solid apart; one = all_one g G.one solid apart }

  pub listed_proper : (parts : List ℕ) → disjoint parts g.reader.goes_on ≡ true → IsProper (listed parts g)
  listed_proper parts apart = let exact = listed_exact parts g G.exact solid apart in record { exact = exact; one = listed_one parts g G.one exact solid apart }
