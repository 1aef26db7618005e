-- What is read of the image of a module's text is the module's code.
use Rattle.std.proofs.Common.{◌≡◌, subst}
use Rattle.td_ir.specs.WellFormed.{IsCode}
use Rattle.td_image.specs.Answer.{IsImage}
use Rattle.td_image.specs.Laws.{OfOneCode, OneSpelling, TablesFit}
use Rattle.td_code.specs.Compile.{IsCodeFor}
use Rattle.td_code_means.specs.Laws.{ImageHasCode}

pub image_has_code : OfOneCode → OneSpelling → TablesFit → ImageHasCode
image_has_code of_one one fit text bytes c is image =
    let packed = is.2 in
    let own : IsImage packed.code bytes = (one packed.code bytes bytes packed.image_is packed.image_is).1 in
    let same : packed.code ≡ c = of_one bytes packed.code c own image in
    (is.0, is.1, subst IsCode image.2 (fit image.0 image.1.0), subst (λ k. IsCodeFor k is.0) same packed.of)
