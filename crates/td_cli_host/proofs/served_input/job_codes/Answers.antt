use Rattle.std.proofs.Common.{◌≡◌, List, length, Result, Ok, Err, IfOk, subst}
use Rattle.std.specs.List.{All}
use Rattle.td_front.specs.Checked.{IsChecked}
use Rattle.td_core.specs.declared.module.Module.{Module}
use Rattle.td_posts.specs.declared.job.HostJob.{HostJob}
use Rattle.td_ir.specs.declared.tables.Parts.{Parts}
use Rattle.td_lower_means.specs.CodeRun.{ArgumentsFit}
use Rattle.td_cli_input.specs.Inputs.{IsSoundHost, FitsVersions}
use Rattle.td_host_actors.specs.Replies.{IsJobCode}
use Rattle.td_report_facts.specs.Laws.{CopiesHaveRoom}
use Rattle.td_cli_host.specs.ServedInput.{AreCodesOf}
use Rattle.td_cli_host.proofs.Compiled.{serves}
use Rattle.td_cli_host.proofs.served_input.job_codes.Goals as goal

all_serve : {V E : Type 0} (items : V → List Parts) (r : Result V E) → ArgumentsFit → CopiesHaveRoom → (job : HostJob) → length job.entries ≡ length job.formats → FitsVersions job → IsSoundHost job → All IsChecked job.formats
    → IfOk r (λ v. AreCodesOf (items v) job.formats) → IfOk r (λ v. IsJobCode (items v) job)
all_serve items (Ok v) law room job same fits sound checked codes = serves law room (items v) job same fits sound checked codes
all_serve items (Err e) law room job same fits sound checked codes = tt

pub returns : goal.returns
returns c =
    let job = c.args.job.now in
    let codes = subst (λ (ms : List Module). IfOk c.codes_of.result (λ v. AreCodesOf v.items ms)) c.as_slice.ensures c.codes_of.ensures in
    all_serve (λ v. v.items) c.codes_of.result c.arguments_fit.ensures c.copies_have_room.ensures job c.requires.servable.as_many c.requires.fits c.requires.sound c.requires.checked codes
