use Rattle.td_code_means.proofs.Image.{image_has_code}
use Rattle.td_code_means.proofs.laws.image_has_code.Goals as goal

pub returns : goal.returns
returns c = image_has_code c.one_spelling.ensures.of_one_code c.one_spelling.ensures.one c.tables_fit.ensures
