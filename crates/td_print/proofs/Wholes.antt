-- Texts of constructs, by their parts.
use Rattle.std.proofs.Common.{◌≡◌, ℕ, List, [], ◌∷◌, ◌++◌, flat_map, codes, refl, sym, ap, ◌∙◌, append_assoc}
use Rattle.td_ast.specs.declared.token.TokenKind.TheVariants as kinds
use Rattle.td_ast.specs.declared.definitions.CasetypeTree.{CasetypeTree}
use Rattle.td_print_layout.specs.Pieces.{Piece, Word, Blank, LineEnd, text_of}
use Rattle.td_print_layout.specs.Sequences.{comma, name_piece, optional, indented}
use Rattle.td_print_layout.specs.Parameters.{head_pieces}
use Rattle.td_print_layout.specs.Definitions.{case_lines, cases_lines, casetype_pieces, closing_pieces, default_lines, entry_pieces, subject_pieces}
use Rattle.td_print.proofs.Texts.{text_append}

pub range_text : (a b c : List Piece) → text_of (Word kinds.IsRangeOkay ∷ Word kinds.OpenParen ∷ (a ++ (comma ++ (b ++ (comma ++ (c ++ Word kinds.CloseParen ∷ []))))))
    ≡ codes "is_range_okay(" ++ (text_of a ++ (text_of (comma ++ b) ++ (text_of (comma ++ c) ++ codes ")")))
range_text a b c =
    let third = c ++ Word kinds.CloseParen ∷ [] in
    let second = b ++ (comma ++ third) in
    rw (text_append a (comma ++ second), text_append b (comma ++ third), text_append c (Word kinds.CloseParen ∷ [])) refl

pub switch_text : (t : CasetypeTree) → text_of (cases_lines t)
    ≡ text_of (subject_pieces t.subject) ++ (text_of (flat_map case_lines t.cases) ++ (text_of (optional default_lines t.default) ++ codes "    }\n"))
switch_text t =
    let s = subject_pieces t.subject in
    let cs = flat_map case_lines t.cases in
    let d = optional default_lines t.default in
    let end = indented 1 (Word kinds.CloseBrace ∷ LineEnd ∷ []) in
    text_append s (cs ++ (d ++ end))
    ∙ ap (λ (l : List ℕ). text_of s ++ l) (text_append cs (d ++ end) ∙ ap (λ (l : List ℕ). text_of cs ++ l) (text_append d end))

-- a definition's first name, its head and the opening brace, before what follows
opening_text : (tag : List ℕ) (head after : List Piece) → tag ++ text_of (head ++ Blank ∷ Word kinds.OpenBrace ∷ LineEnd ∷ after)
    ≡ (tag ++ text_of (head ++ Blank ∷ Word kinds.OpenBrace ∷ LineEnd ∷ [])) ++ text_of after
opening_text tag head after =
    rw (
      text_append head (Blank ∷ Word kinds.OpenBrace ∷ LineEnd ∷ after),
      text_append head (Blank ∷ Word kinds.OpenBrace ∷ LineEnd ∷ []),
      append_assoc tag (text_of head ++ codes " {\n") (text_of after),
      append_assoc (text_of head) (codes " {\n") (text_of after),
    ) refl

pub casetype_text : (t : CasetypeTree) → text_of (casetype_pieces t)
    ≡ text_of (entry_pieces t.entry) ++ (codes "casetype " ++ (text_of (name_piece t.tag ∷ (head_pieces t.head ++ Blank ∷ Word kinds.OpenBrace ∷ LineEnd ∷ [])) ++ (text_of (cases_lines t) ++ text_of (closing_pieces t.name))))
casetype_text t =
    let e = entry_pieces t.entry in
    let h = head_pieces t.head in
    let c = cases_lines t in
    let k = closing_pieces t.name in
    let first : List ℕ → List ℕ = λ l. text_of e ++ (codes "casetype " ++ l) in
    text_append e (Word kinds.Casetype ∷ Blank ∷ name_piece t.tag ∷ (h ++ Blank ∷ Word kinds.OpenBrace ∷ LineEnd ∷ (c ++ k)))
    ∙ ap first (opening_text t.tag.text h (c ++ k))
    ∙ ap (λ (l : List ℕ). first ((t.tag.text ++ text_of (h ++ Blank ∷ Word kinds.OpenBrace ∷ LineEnd ∷ [])) ++ l)) (text_append c k)

-- what was written in four steps
pub four : (o a b c d whole w x y z : List ℕ) → w ≡ o ++ a → x ≡ w ++ b → y ≡ x ++ c → z ≡ y ++ d → whole ≡ a ++ (b ++ (c ++ d)) → z ≡ o ++ whole
four o a b c d whole w x y z first second third last same =
    last ∙ ap (λ (l : List ℕ). l ++ d) (third ∙ ap (λ (l : List ℕ). l ++ c) (second ∙ ap (λ (l : List ℕ). l ++ b) first))
    ∙ append_assoc ((o ++ a) ++ b) c d ∙ append_assoc (o ++ a) b (c ++ d) ∙ append_assoc o a (b ++ (c ++ d))
    ∙ ap (λ (l : List ℕ). o ++ l) (sym same)

-- what was written in five steps
pub five : (o a b c d e whole v w x y z : List ℕ) → v ≡ o ++ a → w ≡ v ++ b → x ≡ w ++ c → y ≡ x ++ d → z ≡ y ++ e → whole ≡ a ++ (b ++ (c ++ (d ++ e))) → z ≡ o ++ whole
five o a b c d e whole v w x y z first second third fourth last same =
    last ∙ ap (λ (l : List ℕ). l ++ e) (fourth ∙ ap (λ (l : List ℕ). l ++ d) (third ∙ ap (λ (l : List ℕ). l ++ c) (second ∙ ap (λ (l : List ℕ). l ++ b) first)))
    ∙ append_assoc (((o ++ a) ++ b) ++ c) d e ∙ append_assoc ((o ++ a) ++ b) c (d ++ e) ∙ append_assoc (o ++ a) b (c ++ (d ++ e)) ∙ append_assoc o a (b ++ (c ++ (d ++ e)))
    ∙ ap (λ (l : List ℕ). o ++ l) (sym same)
