-- The program of a module's code tells what the module means.
use Rattle.std.proofs.Common.{◌≡◌, ℕ, ◌<◌, ◌^◌, List, length, map, take, refl, sym, ap, subst}
use Rattle.td_core.specs.declared.outcome.Verdict.TheVariants.{Accept, Reject}
use Rattle.td_core.specs.Outcome.{Ending, Accepted, Rejected, outcome_of}
use Rattle.td_meaning.specs.Meaning.{meaning}
use Rattle.td_meaning.specs.Copies.{opened}
use Rattle.td_stream.specs.Layouts.{plain}
use Rattle.td_stream.specs.Loads.{Exactly}
use Rattle.td_stream.proofs.Plain.{plain_carries}
use Rattle.td_ir.specs.WellFormed.{IsCode}
use Rattle.td_image.specs.Laws.{TablesFit, ReadIsWritten}
use Rattle.td_lower_means.specs.CodeRun.{way_of}
use Rattle.td_prog.specs.Means.{Out, Gave, Refused, Undefined}
use Rattle.td_prog_code.specs.Sentence.{IsEnd, ProgramRuns}
use Rattle.td_prog_code.specs.PartsSentence.{ProgramRunsInParts}
use Rattle.td_code_means.specs.Laws.{CodeDoesAsMeant, ImageHasCode}
use Rattle.td_prog_means.proofs.Numbers.{image_numbers}
use Rattle.td_prog_means.specs.Laws.{Tells, DoesInC, DoesInParts, ImagesDoInC, ImagesDoInParts, ImagesRunInC}

-- an end of the code's run that is a meaning's is told
told : (n : ℕ) (rooms message : List ℕ) (out : Out) (ending : Ending) → IsEnd n rooms message out (way_of ending)
    → Tells n out (outcome_of n message ending)
told n rooms message (Gave value s) (Accepted position cells) h =
    ((λ i. Accept (sym h.0 i)), ap (take n) h.1, h.3)
told n rooms message (Gave value s) (Rejected reason position trace cells) h = absurd h
told n rooms message (Refused reason pos trace s) (Accepted position cells) h = absurd h
told n rooms message (Refused reason pos trace s) (Rejected reason' position trace' cells) h = ((λ i. Reject (sym h.0 i) (sym h.1 i)), h.2)
told n rooms message Undefined ending h = absurd h

pub does_in_c : ProgramRuns → CodeDoesAsMeant → DoesInC
does_in_c runs means c m code of numbers names entry size most args cells buffers loads out fits short enough rooms plays values =
    let r = runs c names entry size most args cells buffers loads out code of.sound numbers fits short enough rooms plays values in
    record {
      rising = r.rising;
      inside = r.inside;
      holds = λ b carries bytes.
          let q = r.holds b carries bytes in
          let long : length b ≡ size = ((plain_carries size b loads).0 carries).0 in
          let mean = means c m code of entry args cells b fits bytes (subst (λ n. n < 2 ^ 32) (sym long) short) in
          let ending = (meaning m entry args (opened m entry cells) b).ending in (
            outcome_of (length cells) b ending,
            record { same = refl; exact = subst (Exactly (plain size) loads) mean.touched q.1 },
            told (length cells) (map length buffers) b out ending (subst (IsEnd (length cells) (map length buffers) b out) mean.way q.0),
          );
    }

pub does_in_parts : ProgramRunsInParts → CodeDoesAsMeant → DoesInParts
does_in_parts runs means c m code of numbers names entry layout most args cells buffers loads out fits short enough rooms plays values =
    let r = runs c names entry layout most args cells buffers loads out code of.sound numbers fits short enough rooms plays values in
    record {
      rising = r.rising;
      inside = r.inside;
      holds = λ b carries bytes.
          let q = r.holds b carries bytes in
          let mean = means c m code of entry args cells b fits bytes (subst (λ n. n < 2 ^ 32) (sym carries.size) short) in
          let ending = (meaning m entry args (opened m entry cells) b).ending in (
            outcome_of (length cells) b ending,
            record { same = refl; exact = subst (Exactly layout loads) mean.touched q.1 },
            told (length cells) (map length buffers) b out ending (subst (IsEnd (length cells) (map length buffers) b out) mean.way q.0),
          );
    }

pub images_do_in_parts : DoesInParts → ImageHasCode → ReadIsWritten → ImagesDoInParts
images_do_in_parts does has read text bytes c is image =
    let h = has text bytes c is image in
    (h.0, h.1, does c h.0 h.2 h.3 (image_numbers read bytes c image))

pub images_do_in_c : DoesInC → ImageHasCode → ReadIsWritten → ImagesDoInC
images_do_in_c does has read text bytes c is image =
    let h = has text bytes c is image in
    (h.0, h.1, does c h.0 h.2 h.3 (image_numbers read bytes c image))

pub images_run_in_c : ProgramRuns → TablesFit → ReadIsWritten → ImagesRunInC
images_run_in_c runs fit read bytes c names entry size most args cells buffers loads out image sound =
    runs c names entry size most args cells buffers loads out (subst IsCode image.2 (fit image.0 image.1.0)) sound (image_numbers read bytes c image)
