use Rattle.std.proofs.Common.{◌≡◌, List, Option, [], ◌∷◌, ◌++◌, ℕ, refl, ap, sym, ◌∙◌, append_assoc, codes, decimal}
use Rattle.td_core.specs.Paths.{indexed}
use Rattle.td_report.specs.ErrorLine.{after_space}
use Rattle.td_report.proofs.Composing.{writes_as}
use Rattle.td_report.proofs.path_line.write_path.Goals as goal

bracketed : (name index : List ℕ) → name ++ codes "[" ++ index ++ codes "]" ≡ name ++ 91 ∷ (index ++ 93 ∷ [])
bracketed name index = append_assoc (name ++ codes "[") index (codes "]") ∙ append_assoc name (codes "[") (index ++ codes "]")

-- words that end in a bracket aren't empty, so a space stands before them
space_first : (name index : List ℕ) → after_space (name ++ codes "[" ++ index ++ codes "]") ≡ 32 ∷ (name ++ 91 ∷ (index ++ 93 ∷ []))
space_first [] index = refl
space_first (x ∷ name) index = ap (λ (l : List ℕ). 32 ∷ x ∷ l) (bracketed name index)

pub returns : goal.returns
returns g c =
    let text : c.as_bytes-index.result.now ≡ decimal c.in-Some.index = c.as_bytes-index.ensures.value ∙ c.format.ensures.text in
    let whole : after_space (indexed c.args.name.now c.args.index) ≡ 32 ∷ (c.args.name.now ++ 91 ∷ (c.as_bytes-index.result.now ++ 93 ∷ [])) =
    ap (λ (o : Option ℕ). after_space (indexed c.args.name.now o)) c.in-Some.is
    ∙ space_first c.args.name.now (decimal c.in-Some.index)
    ∙ ap (λ (l : List ℕ). 32 ∷ (c.args.name.now ++ 91 ∷ (l ++ 93 ∷ []))) (sym text) in
    writes_as whole c.write_pieces.ensures
