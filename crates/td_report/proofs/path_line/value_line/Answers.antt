use Rattle.std.proofs.Common.{◌≡◌, ℕ, List, [], ◌∷◌, ◌++◌, Some, None, refl, ap, ◌∙◌, append_assoc, flat_map, codes}
use Rattle.td_core.specs.Paths.{indexed}
use Rattle.td_report.specs.ErrorLine.{error_line, after_space}
use Rattle.td_report.proofs.Composing.{writes_both, writes_stopped, writes_as}
use Rattle.td_report.proofs.Parts.{error_line_parts}
use Rattle.td_report.proofs.path_line.value_line.Goals as goal

-- words with a blank in them aren't empty, so a space stands before them
space_first : (name words : List ℕ) → after_space (name ++ codes " " ++ words) ≡ codes " " ++ (name ++ codes " " ++ words)
space_first [] words = refl
space_first (x ∷ name) words = refl

split : (name places words : List ℕ) → (name ++ places ++ codes " " ++ words) ++ codes "\n" ≡ name ++ (places ++ ((codes " " ++ words) ++ codes "\n"))
split name places words =
    append_assoc (name ++ places ++ codes " ") words (codes "\n")
    ∙ append_assoc (name ++ places) (codes " ") (words ++ codes "\n")
    ∙ append_assoc name places (codes " " ++ (words ++ codes "\n"))

whole : (code name places words : List ℕ) → error_line [] None code (name ++ places ++ codes " " ++ words)
    ≡ (codes "error " ++ code) ++ ((codes " " ++ name) ++ (places ++ ((codes " " ++ words) ++ codes "\n")))
whole code name places words =
    error_line_parts [] None code (name ++ places ++ codes " " ++ words)
    ∙ ap (λ l. (codes "error " ++ code) ++ (l ++ codes "\n")) (space_first (name ++ places) words)
    ∙ ap (λ (l : List ℕ). (codes "error " ++ code) ++ (32 ∷ l)) (split name places words)

brackets : List ℕ → List ℕ
brackets places = flat_map (λ place. indexed [] (Some place)) places

pub returns-in_err-write_code : goal.returns-in_err-write_code
unfolding brackets
returns-in_err-write_code g c =
    let a = c.args in
    writes_as (whole a.code.now a.name.now (brackets a.places.now) a.words.now)
    (writes_stopped ((codes " " ++ a.name.now) ++ (brackets a.places.now ++ ((codes " " ++ a.words.now) ++ codes "\n"))) c.from_residual.result c.from_residual.ensures.0 c.in_err-write_code.ensures)

pub returns-in_err-write_name : goal.returns-in_err-write_name
unfolding brackets
returns-in_err-write_name g c =
    let a = c.args in
    writes_as (whole a.code.now a.name.now (brackets a.places.now) a.words.now)
    (writes_both c.in_ok-write_code.ensures
    (writes_stopped (brackets a.places.now ++ ((codes " " ++ a.words.now) ++ codes "\n")) c.from_residual-in_err-write_name.result c.from_residual-in_err-write_name.ensures.0 c.in_err-write_name.ensures))

pub returns-in_err-write_places : goal.returns-in_err-write_places
unfolding brackets
returns-in_err-write_places g c =
    let a = c.args in
    writes_as (whole a.code.now a.name.now (brackets a.places.now) a.words.now)
    (writes_both c.in_ok-write_code.ensures (writes_both c.in_ok-write_name.ensures
    (writes_stopped ((codes " " ++ a.words.now) ++ codes "\n") c.from_residual-in_err-write_places.result c.from_residual-in_err-write_places.ensures.0 c.in_err-write_places.ensures)))

pub returns : goal.returns
unfolding brackets
returns g c =
    let a = c.args in
    writes_as (whole a.code.now a.name.now (brackets a.places.now) a.words.now)
    (writes_both c.in_ok-write_code.ensures (writes_both c.in_ok-write_name.ensures (writes_both c.in_ok-write_places.ensures c.write_pieces.ensures)))
