-- A validation by code that does what a module means is the meaning's.
use Rattle.std.proofs.Common.{◌<◌, ◌^◌, length, sym, subst}
use Rattle.td_meaning.specs.Meaning.{meaning}
use Rattle.td_meaning.specs.Copies.{opened}
use Rattle.td_ir.specs.Entries.{opened_by}
use Rattle.td_ir.specs.Run.{run}
use Rattle.td_run.proofs.Behaving.{behaves}
use Rattle.td_code_means.specs.Laws.{CodeDoesAsMeant, ImageHasCode}
use Rattle.td_image_means.specs.Laws.{ValidationsMean, ImagesMean}

pub validations_mean : ValidationsMean
validations_mean c m does entry args cells layout loads outcome short fits valid = record {
  rising = valid.rising;
  inside = valid.inside;
  holds = λ b carries bytes.
      let ran = (valid.holds b carries).ran in
      let mean = does entry args cells b fits bytes (subst (λ n. n < 2 ^ 32) (sym carries.size) short) in
      behaves layout (length cells) b loads (run c entry args (opened_by c entry cells) b) (meaning m entry args (opened m entry cells) b) outcome 0
      (run c entry args (opened_by c entry cells) b).steps ran mean;
}

pub images_mean : ValidationsMean → CodeDoesAsMeant → ImageHasCode → ImagesMean
images_mean validations means has text bytes c is image =
    let h = has text bytes c is image in
    (h.0, h.1, validations c h.0 (means c h.0 h.2 h.3))
