-- The programs of an image's code are text, and run as the code does.
use Rattle.std.proofs.Common.{ℕ, ◌^◌, ◌<◌, List, [], length, refl, subst, arith}
use Rattle.std.specs.Prelude.{not}
use Rattle.td_names.specs.Names.{is_seen, with_name}
use Rattle.td_ir.specs.declared.tables.Parts.{Parts}
use Rattle.td_ir.specs.WellFormed.{IsCode}
use Rattle.td_front.specs.Laws.{ModulesAreChecked}
use Rattle.td_image.specs.declared.version.ImageVersion.{ImageVersion}
use Rattle.td_image.specs.Versions.{version_for}
use Rattle.td_image.specs.Image as format
use Rattle.td_image.specs.Names.{is_image_name}
use Rattle.td_image.specs.Answer as images
use Rattle.td_image.specs.Answer.{IsImage, code_of, written}
use Rattle.td_image.specs.Laws.{TablesFit, ReadIsWritten, WithinHasImage}
use Rattle.td_image.proofs.Written.{code_written}
use Rattle.td_image_fits.specs.Laws.{ModulesAreSmall, CodeIsWithin}
use Rattle.td_prog.specs.Names.{IsName}
use Rattle.td_prog_means.proofs.Numbers.{each_of, image_numbers}
use Rattle.td_prog_code.specs.PartsSentence.{ProgramRunsInParts}
use Rattle.td_prog_laws.specs.Text.{HasNames, ProgramIsText}
use Rattle.td_prog_laws.specs.PartsText.{PartsProgramIsText}
use Rattle.td_prog_images.specs.Laws.{ImagesAreText, TextsAreText, ImagesRunInParts}
use Rattle.td_prog_images.proofs.Names.{image_name, and_parts}

name_is : (version : ImageVersion) (seen : List (List ℕ)) (name : List ℕ) → (format.name version seen).Fits name → IsName name
unfolding format.name
name_is version seen name h = image_name version name (and_parts (is_image_name version name) (not (is_seen seen name)) h.1.1).0

few_routines : (version : ImageVersion) (c : Parts) → format.header.Fits (format.counts_of version c) → length c.routines < 2 ^ 64
unfolding format.header
few_routines version c h = let few = h.1.1.1.1.1.1.1.0.0 in omega (arith, few)

written_names : (c : Parts) → format.image.Fits (written c) → HasNames c
unfolding format.image
written_names c h =
    let version = version_for c.instructions in
    record { spelled = each_of (format.name version) with_name IsName (name_is version) [] c.names h.1.0.1; few = few_routines version c h.0 }

image_names : ReadIsWritten → (bytes : List ℕ) (c : Parts) → IsImage c bytes → HasNames c
image_names read bytes c image = subst HasNames image.2 (written_names (code_of image.0) (read image.0 image.1.0))

image_code : TablesFit → (bytes : List ℕ) (c : Parts) → IsImage c bytes → IsCode c
image_code fit bytes c image = subst IsCode image.2 (fit image.0 image.1.0)

pub images_are_text : ProgramIsText → PartsProgramIsText → TablesFit → ReadIsWritten → ImagesAreText
images_are_text text parts fit read bytes c image sound =
    let code = image_code fit bytes c image in
    let numbers = image_numbers read bytes c image in
    let names = image_names read bytes c image in
    record { plain = text c code sound numbers names; in_parts = parts c code sound numbers names }

pub images_run_in_parts : ProgramRunsInParts → TablesFit → ReadIsWritten → ImagesRunInParts
images_run_in_parts runs fit read bytes c names entry layout most args cells buffers loads out image sound =
    runs c names entry layout most args cells buffers loads out (image_code fit bytes c image) sound (image_numbers read bytes c image)

pub texts_are_text : ModulesAreChecked → ModulesAreSmall → CodeIsWithin → WithinHasImage → ImagesAreText → TextsAreText
texts_are_text checked small within has texts text m c short stands code of =
    let bytes : List ℕ = format.image.bytes (written c) in
    let own : images.IsWritten c bytes = (has c code (within c m (checked text m stands) (small text m short stands) of.written code of.sound), refl) in
    texts bytes c (written c, own, code_written c) of.sound
