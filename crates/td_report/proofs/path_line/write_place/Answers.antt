use Rattle.std.proofs.Common.{◌≡◌, List, ℕ, [], ◌∷◌, ◌++◌, ap, sym, ◌∙◌, decimal}
use Rattle.td_report.proofs.Composing.{writes_as}
use Rattle.td_report.proofs.path_line.write_place.Goals as goal

pub returns : goal.returns
returns g c =
    let text : c.as_bytes-place.result.now ≡ decimal c.args.place = c.as_bytes-place.ensures.value ∙ c.format.ensures.text in
    writes_as (ap (λ (l : List ℕ). 91 ∷ (l ++ 93 ∷ [])) (sym text)) c.write_pieces.ensures
