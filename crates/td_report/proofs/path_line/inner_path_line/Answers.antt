use Rattle.std.proofs.Common.{◌≡◌, ℕ, List, [], ◌∷◌, ◌++◌, Some, None, ap, ◌∙◌, append_assoc, codes, decimal}
use Rattle.td_core.specs.Paths.{indexed}
use Rattle.td_report.specs.ErrorLine.{error_line, after_space}
use Rattle.td_report.proofs.Composing.{writes_both, writes_stopped, writes_as}
use Rattle.td_report.proofs.Parts.{error_line_parts}
use Rattle.td_report.proofs.path_line.inner_path_line.Goals as goal

-- a name with a place isn't empty, so the words after it stand after the same space
space_before : (list place words : List ℕ) → after_space ((list ++ codes "[" ++ place ++ codes "]") ++ codes "." ++ words) ≡ after_space (list ++ codes "[" ++ place ++ codes "]") ++ (codes "." ++ words)
space_before [] place words = ap (λ l. 32 ∷ l) (append_assoc (91 ∷ (place ++ 93 ∷ [])) (codes ".") words)
space_before (x ∷ list) place words = ap (λ l. 32 ∷ l) (append_assoc (x ∷ (list ++ codes "[" ++ place ++ codes "]")) (codes ".") words)

whole : (code list : List ℕ) (place : ℕ) (words : List ℕ) → error_line [] None code (indexed list (Some place) ++ codes "." ++ words)
    ≡ (codes "error " ++ code) ++ (after_space (indexed list (Some place)) ++ ((codes "." ++ words) ++ codes "\n"))
whole code list place words =
    let path = indexed list (Some place) in
    error_line_parts [] None code (path ++ codes "." ++ words)
    ∙ ap (λ l. (codes "error " ++ code) ++ (l ++ codes "\n")) (space_before list (decimal place) words)
    ∙ ap (λ l. (codes "error " ++ code) ++ l) (append_assoc (after_space path) (codes "." ++ words) (codes "\n"))

pub returns-in_err-write_code : goal.returns-in_err-write_code
returns-in_err-write_code g c =
    let words = indexed c.args.name.now c.args.index in
    writes_as (whole c.args.code.now c.args.list.now c.args.place words)
    (writes_stopped (after_space (indexed c.args.list.now (Some c.args.place)) ++ ((codes "." ++ words) ++ codes "\n")) c.from_residual.result c.from_residual.ensures.0 c.in_err-write_code.ensures)

pub returns-in_err-write_path : goal.returns-in_err-write_path
returns-in_err-write_path g c =
    let words = indexed c.args.name.now c.args.index in
    writes_as (whole c.args.code.now c.args.list.now c.args.place words)
    (writes_both c.in_ok-write_code.ensures
    (writes_stopped ((codes "." ++ words) ++ codes "\n") c.from_residual-in_err-write_path.result c.from_residual-in_err-write_path.ensures.0 c.in_err-write_path.ensures))

pub returns-in_err-write_inner : goal.returns-in_err-write_inner
returns-in_err-write_inner g c =
    let words = indexed c.args.name.now c.args.index in
    writes_as (whole c.args.code.now c.args.list.now c.args.place words)
    (writes_both c.in_ok-write_code.ensures (writes_both c.in_ok-write_path.ensures
    (writes_stopped (codes "\n") c.from_residual-in_err-write_inner.result c.from_residual-in_err-write_inner.ensures.0 c.in_err-write_inner.ensures)))

pub returns : goal.returns
returns g c =
    let words = indexed c.args.name.now c.args.index in
    writes_as (whole c.args.code.now c.args.list.now c.args.place words)
    (writes_both c.in_ok-write_code.ensures (writes_both c.in_ok-write_path.ensures (writes_both c.in_ok-write_inner.ensures c.write_pieces.ensures)))
