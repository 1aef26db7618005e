-- An input has one answer, or it is refused.
use Rattle.std.proofs.Common.{◌≡◌, ◌⊎◌, inl, inr, ℕ, ◌≤◌, List, [], ◌∷◌, length, refl, sym, ap, subst, ◌∙◌}
use Rattle.std.proofs.lemmas.Bool.{cases_lt}
use Rattle.td_c_tool.specs.Imports.{Module, CFile, Source, Header, Parts as InParts, Command, Refusal, TooLong, BadModule, NoEntry}
use Rattle.td_ir.specs.declared.tables.Parts.{Parts}
use Rattle.td_front.specs.ModuleText.{IsModuleText}
use Rattle.td_front.specs.Laws as front
use Rattle.td_code.specs.Laws.{CodeIsOne}
use Rattle.td_c_text.specs.Texts.{IsFileOf, IsPartsFileOf, source}
use Rattle.td_prog_text.specs.Files.{header}
use Rattle.td_prog_text.specs.Parts.{parts_file}
use Rattle.td_c_command.specs.Prefix.{IsPrefix}
use Rattle.td_c_tool.specs.declared.tool.TheConstants.{INPUT_LIMIT}
use Rattle.td_c_tool.specs.Answers.{Admits, Refuses, IsFile}
use Rattle.td_c_tool.specs.Laws.{OneAnswer, NeverBoth, AlwaysOne}
use Rattle.td_c_tool.proofs.Answered.{not_refused, text_of}

-- ---- one answer

same_file : CodeIsOne → (file : Parts → List ℕ) (m : Module) (a b : List ℕ) → IsFileOf file m a → IsFileOf file m b → a ≡ b
same_file one file m a b h g = h.bytes_are ∙ ap file (one h.code g.code m h.of g.of) ∙ sym g.bytes_are

same_parts : CodeIsOne → (file : Parts → List ℕ) (m : Module) (a b : List ℕ) → IsPartsFileOf file m a → IsPartsFileOf file m b → a ≡ b
same_parts one file m a b h g = h.bytes_are ∙ ap file (one h.code g.code m h.of g.of) ∙ sym g.bytes_are

one_file : CodeIsOne → (file : CFile) (prefix : List ℕ) (m : Module) (a b : List ℕ) → IsFile file prefix m a → IsFile file prefix m b → a ≡ b
one_file one Source prefix m a b h g = same_file one (source prefix) m a b h g
one_file one Header prefix m a b h g = same_file one (header prefix) m a b h g
one_file one InParts prefix m a b h g = same_parts one (parts_file prefix) m a b h g

pub one_answer : front.OneModuleEach → CodeIsOne → OneAnswer
one_answer modules codes command input a b h g =
    one_file codes command.file command.prefix g.m a b (subst (λ (x : Module). IsFile command.file command.prefix x a) (modules input h.m g.m h.stands g.stands) h.file) g.file

-- ---- never both

pub never_both : front.NeverBoth → front.OneModuleEach → NeverBoth
never_both never one command input refusal h g = not_refused never one input h.2 h.3 h.4 refusal (text_of input refusal h.1 g)

-- ---- always one

stands_or : (command : Command) (input : List ℕ) (m : Module) → IsPrefix command.prefix → length input ≤ INPUT_LIMIT → IsModuleText input m
    → (entries : List ℕ) → m.entries ≡ entries → Admits command input ⊎ ((refusal : Refusal) × Refuses input refusal)
stands_or command input m named short stands [] none = inr (NoEntry, (short, (m, stands, none)))
stands_or command input m named short stands (n ∷ ns) some = inl (named, short, m, stands, λ none. let no : n ∷ ns ≡ [] = sym some ∙ none in absurd (cc))

short_or : front.AlwaysOne → (command : Command) (input : List ℕ) → IsPrefix command.prefix → length input ≤ INPUT_LIMIT → Admits command input ⊎ ((refusal : Refusal) × Refuses input refusal)
short_or always command input named short = elim (always input) [
  | inl stands ↦ stands_or command input stands.0 named short stands.1 stands.0.entries refl
  | inr refused ↦ inr (BadModule refused.0, (short, refused.1))
]

pub always_one : front.AlwaysOne → AlwaysOne
always_one always command input named = elim (cases_lt INPUT_LIMIT (length input)) [ inl long ↦ inr (TooLong, long) | inr short ↦ short_or always command input named short ]
