-- The numbers of a module text's code are those of the image that it has.
use Rattle.std.proofs.Common.{ℕ, List, refl, subst}
use Rattle.td_front.specs.Laws.{OneModuleEach, ModulesAreChecked}
use Rattle.td_image.specs.Answer as images
use Rattle.td_image.specs.Answer.{IsImage}
use Rattle.td_image.specs.Image.{image}
use Rattle.td_image.specs.Laws.{WithinHasImage}
use Rattle.td_image.proofs.Written.{code_written}
use Rattle.td_image_fits.specs.Laws.{ModulesAreSmall, CodeIsWithin}
use Rattle.td_code.specs.Compile.{IsImageOf}
use Rattle.td_code.proofs.Packed.{spelled, of_text}
use Rattle.td_prog_means.specs.Laws.{TellsWhatIsMeant, TellsInParts, ImagesDoInC, ImagesDoInParts}
use Rattle.td_c_text.specs.Laws.{TextsTellInC, TextsTellInParts}

pub texts_tell : ModulesAreChecked → OneModuleEach → ModulesAreSmall → CodeIsWithin → WithinHasImage → ImagesDoInC → TextsTellInC
texts_tell checked one small within has does text m c short stands code of =
    let bytes : List ℕ = image.bytes (images.written c) in
    let good = checked text m stands in
    let own : images.IsWritten c bytes = (has c code (within c m good (small text m short stands) of.written code of.sound), refl) in
    let packed = of_text small text m bytes (spelled has within c m bytes good of code refl) short stands in
    let there : IsImageOf text bytes = (m, stands, packed) in
    let is : IsImage c bytes = (images.written c, own, code_written c) in
    let r = does text bytes c there is in
    subst (TellsWhatIsMeant c) (one text r.0 m r.1 stands) r.2

pub texts_tell_parts : ModulesAreChecked → OneModuleEach → ModulesAreSmall → CodeIsWithin → WithinHasImage → ImagesDoInParts → TextsTellInParts
texts_tell_parts checked one small within has does text m c short stands code of =
    let bytes : List ℕ = image.bytes (images.written c) in
    let good = checked text m stands in
    let own : images.IsWritten c bytes = (has c code (within c m good (small text m short stands) of.written code of.sound), refl) in
    let packed = of_text small text m bytes (spelled has within c m bytes good of code refl) short stands in
    let there : IsImageOf text bytes = (m, stands, packed) in
    let is : IsImage c bytes = (images.written c, own, code_written c) in
    let r = does text bytes c there is in
    subst (TellsInParts c) (one text r.0 m r.1 stands) r.2
