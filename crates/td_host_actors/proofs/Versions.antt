-- The version that a worker looks up, among the versions of its job. Cited by other crates.
use Rattle.std.proofs.Common.{◌≡◌, ℕ, zero, suc, ◌<◌, ◌≤◌, List, [], ◌∷◌, length, set, get_or, Some, refl, sym, ap, ◌∙◌, subst, arith}
use Rattle.std.specs.Prelude.{slice_get, slice_index_or, map, option_map}
use Rattle.std.proofs.lemmas.Option.{none-some, same_Some, slice_get_within, slice_get-map, slice_get-get_or}
use Rattle.std.proofs.lemmas.List.{length-map, get_or-set_same, get_or-set_other, length-set}
use mathlib.Core.Logic.{dite}
use native.Mathlib.Decide.{ℕ_discrete}
use Rattle.td_num.proofs.Lists.{got}
use Rattle.td_core.specs.declared.module.Module.{Module}
use Rattle.td_core.specs.declared.module.Entry.{Entry}
use Rattle.td_ir.specs.declared.tables.Parts.{Parts}
use Rattle.td_vm.specs.Need.{most_need, level}
use Rattle.td_vm.specs.Frames.{FrameView, IsArmed}
use Rattle.td_swap.specs.declared.version.Version.{Version}
use Rattle.td_swap.specs.Versions.{version_code}
use Rattle.td_posts.specs.declared.job.HostJob.{HostJob}
use Rattle.td_posts.specs.Posts.{version_in}
use Rattle.td_takes.specs.Codes.{IsCodeAt, IsMessageCode}
use Rattle.td_host_actors.specs.Replies.{IsJobCode, JobCode, IsReplyUnder, OneVersion}
use Rattle.td_host_actors.specs.Acting.{most_frames, AreArmed}

-- no code needs more frames than there are at most
pub few_frames : (cs : List Parts) (n : ℕ) (c : Parts) → slice_get cs n ≡ Some c → most_need level c ≤ most_frames cs
few_frames [] n c e = absurd (none-some c e)
few_frames (x ∷ cs) zero c e = let same : most_need level x ≡ most_need level c = ap (most_need level) (same_Some x c e) in omega (arith, same)
few_frames (x ∷ cs) (suc n) c e = let r = few_frames cs n c e in omega (arith, r)

-- the code of a number has a version, which it can do
pub code_at : (cs : List Parts) (job : HostJob) (n : ℕ) (c : Parts) (entry : Entry) → IsJobCode cs job → slice_get cs n ≡ Some c → slice_get job.entries n ≡ Some entry → IsCodeAt c job n entry
unfolding IsJobCode
code_at cs job n c entry does is begins =
    let d : JobCode cs job = does in
    let inside : n < length job.formats = (let a = slice_get_within cs n c is in let b = d.as_many in omega (arith, a, b)) in
    let m = got job.formats n inside in
    record { format = m.0; version = (m.1, begins); can = d.each n c m.0 entry is (m.1, begins) }

-- the code of version 0 does the validations of the messages that rings name
pub message_code : (cs : List Parts) (job : HostJob) (c : Parts) → IsJobCode cs job → slice_get cs 0 ≡ Some c → IsMessageCode c job
unfolding IsJobCode IsMessageCode
message_code cs job c does is =
    let d : JobCode cs job = does in
    let inside : 0 < length job.entries = (let a = slice_get_within cs 0 c is in let b = d.as_many_entries in omega (arith, a, b)) in
    let e = got job.entries 0 inside in
    (e.0, code_at cs job 0 c e.0 does is e.1)

-- the code of a version is that of its number
pub version_at : (vs : List Version) (cs : List Parts) (n : ℕ) (v : Version) → map version_code vs ≡ cs → n < length vs → slice_get cs n ≡ Some (slice_index_or vs n v).code
version_at vs cs n v e lt = ap (λ l. slice_get l n) (sym e) ∙ (slice_get-map version_code vs n ∙ ap (option_map version_code) (slice_get-get_or vs n v lt))

-- the first version's code is the first code
pub first_code : (vs : List Version) (cs : List Parts) (c : Parts) (v : Version) → map version_code vs ≡ cs → slice_get cs 0 ≡ Some c → (slice_index_or vs 0 v).code ≡ c
first_code vs cs c v e is =
    let n = length-map vs version_code in
    let m = ap length e in
    let inside = slice_get_within cs 0 c is in
    same_Some (slice_index_or vs 0 v).code c (sym (version_at vs cs 0 v e (omega (arith, n, m, inside))) ∙ is)

-- a frame is used, and armed for its code again
pub still_armed : (cs : List Parts) (frames : List FrameView) (n : ℕ) (c : Parts) (f : FrameView) → AreArmed cs frames → slice_get cs n ≡ Some c → IsArmed c f → AreArmed cs (set frames n f)
still_armed cs frames n c f are is armed = record {
  as_many = length-set frames n f ∙ are.as_many;
  each = λ k x d e. dite (ℕ_discrete k n)
      (λ same.
      let one : x ≡ c = same_Some x c (sym e ∙ (ap (slice_get cs) same ∙ is)) in
      let less : n < length frames = (let a = slice_get_within cs n c is in omega (arith, a, are.as_many)) in
      subst (λ (y : Parts × FrameView). IsArmed y.0 y.1) (λ i. (sym one i, sym (ap (λ j. get_or (set frames n f) j d) same ∙ get_or-set_same frames n f d less) i)) armed)
      (λ other. subst (IsArmed x) (sym (get_or-set_other frames n k f d other)) (are.each k x d e));
}

-- ---- a job of one version
at_one : {A : Type 0} (x y : A) (n : ℕ) → slice_get (x ∷ []) n ≡ Some y → (n ≡ 0) × (x ≡ y)
at_one x y zero e = (refl, same_Some x y e)
at_one x y (suc n) e = absurd (none-some y e)

pub one_version : OneVersion
one_version job format entry m r one begins h =
    let f = at_one format h.format (version_in r) (ap (λ l. slice_get l (version_in r)) (sym one) ∙ h.version.0) in
    let g = at_one entry h.entry (version_in r) (ap (λ l. slice_get l (version_in r)) (sym begins) ∙ h.version.1) in (
      f.0,
      subst (λ (x : Module × Entry). IsReplyUnder job x.0 x.1 m r) (λ i. (sym f.1 i, sym g.1 i)) h.under,
    )
