-- The codes of a job's modules serve the job.
use Rattle.std.proofs.Common.{◌≡◌, ℕ, zero, suc, List, [], ◌∷◌, ◌++◌, length, Some, refl, sym, ap, ◌∙◌, subst}
use Rattle.std.specs.Prelude.{slice_get}
use Rattle.std.specs.List.{All}
use Rattle.td_front.specs.Checked.{IsChecked}
use Rattle.td_core.specs.Entries.{entry_definition}
use Rattle.td_meaning.specs.Copies.{outcome}
use Rattle.td_job_host.specs.HostJobs.{rooms_in}
use Rattle.td_report_facts.specs.Laws.{CopiesHaveRoom}
use Rattle.td_core.specs.declared.module.Module.{Module}
use Rattle.td_posts.specs.declared.job.HostJob.{HostJob}
use Rattle.td_posts.specs.Posts.{zeros, HaveRoom}
use Rattle.td_ir.specs.declared.tables.Parts.{Parts}
use Rattle.td_lower_means.specs.CodeRun.{IsCodeOf, ArgumentsFit}
use Rattle.td_cli_input.specs.Inputs.{IsSoundHost, FitsVersions}
use Rattle.td_cli_input.proofs.Sounds.{at_version}
use Rattle.td_host_actors.specs.Replies.{IsJobCode}
use Rattle.td_cli_host.specs.ServedInput.{AreCodesOf}

-- one code more, of one module more
pub codes_more : (cs : List Parts) (ms : List Module) (c : Parts) (m : Module) → AreCodesOf cs ms → IsCodeOf c m → AreCodesOf (cs ++ c ∷ []) (ms ++ m ∷ [])
codes_more [] [] c m h is = (is, tt)
codes_more [] (y ∷ ms) c m h is = absurd h
codes_more (x ∷ cs) [] c m h is = absurd h
codes_more (x ∷ cs) (y ∷ ms) c m h is = (h.0, codes_more cs ms c m h.1 is)

as_many : (cs : List Parts) (ms : List Module) → AreCodesOf cs ms → length cs ≡ length ms
as_many [] [] h = refl
as_many [] (m ∷ ms) h = absurd h
as_many (c ∷ cs) [] h = absurd h
as_many (c ∷ cs) (m ∷ ms) h = ap suc (as_many cs ms h.1)

code_at : (cs : List Parts) (ms : List Module) → AreCodesOf cs ms → (n : ℕ) (c : Parts) (m : Module) → slice_get cs n ≡ Some c → slice_get ms n ≡ Some m → IsCodeOf c m
code_at [] [] h n c m hc hm = absurd (cc)
code_at [] (y ∷ ms) h n c m hc hm = absurd h
code_at (x ∷ cs) [] h n c m hc hm = absurd h
code_at (x ∷ cs) (y ∷ ms) h zero c m hc hm =
    let one : x ≡ c = cc in
    let other : y ≡ m = cc in
    subst (λ (k : Parts). IsCodeOf k m) one (subst (λ (f : Module). IsCodeOf x f) other h.0)
code_at (x ∷ cs) (y ∷ ms) h (suc n) c m hc hm = code_at cs ms h.1 n c m hc hm

pub serves : ArgumentsFit → CopiesHaveRoom → (cs : List Parts) (job : HostJob) → length job.entries ≡ length job.formats → FitsVersions job → IsSoundHost job → All IsChecked job.formats → AreCodesOf cs job.formats → IsJobCode cs job
unfolding IsJobCode
serves law room cs job same fits sound checked codes = record {
  as_many = as_many cs job.formats codes;
  as_many_entries = as_many cs job.formats codes ∙ sym same;
  each = λ n c m entry is version.
      let fit = fits n m entry version in
      let code = code_at cs job.formats codes n c m is version.0 in
      record {
        code = code;
        fits = law c m entry job.args (zeros job.cells) code fit.entry_is fit.args fit.cells;
        sound = sound n m entry version;
        roomy = λ b bytes size.
            let held : HaveRoom (rooms_in (entry_definition m entry.number)) (outcome m entry job.args (zeros job.cells) b).copies =
            room m entry job.args (zeros job.cells) b (at_version job.formats n m checked version.0) fit.entry_is fit.args fit.cells bytes size in
            subst (λ rooms. HaveRoom rooms (outcome m entry job.args (zeros job.cells) b).copies) (sym fit.rooms) held;
      };
}
