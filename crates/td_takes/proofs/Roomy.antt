-- What a validation copies fits the rooms that were taken for it. Cited by other crates.
use Rattle.std.proofs.Common.{◌≡◌, ℕ, ◌<◌, ◌^◌, List, length, map, take, sym, ap, ◌∙◌, subst, arith}
use Rattle.td_num.specs.Lists.{AreBytes}
use Rattle.td_num.proofs.Digits.{are_bytes}
use Rattle.td_core.specs.declared.module.Module.{Module}
use Rattle.td_core.specs.declared.module.Entry.{Entry}
use Rattle.td_core.specs.declared.outcome.Outcome.{Outcome}
use Rattle.td_stream.specs.declared.load.Load.{Load}
use Rattle.td_stream.specs.declared.stretch.Stretch.{Stretch}
use Rattle.td_stream.specs.Copies.{BufferView, empty_with, held_by, rooms_of}
use Rattle.td_stream.specs.Layouts.{length_in}
use Rattle.td_stream.proofs.Carrying.{carried}
use Rattle.td_stream.proofs.Rooms.{rooms_again}
use Rattle.td_ir.specs.declared.tables.Parts.{Parts}
use Rattle.td_run.specs.Validation.{IsValidation}
use Rattle.td_posts.specs.declared.job.HostJob.{HostJob}
use Rattle.td_posts.specs.Posts.{zeros, HaveRoom}
use Rattle.td_posts.proofs.Refilled.{first_fits, first_same}
use Rattle.td_takes.specs.Codes.{HasRoomVersion, VersionCode, IsMeantUnder}

-- what a validation by a version's code says, in the job's words
pub meant_of : (job : HostJob) (c : Parts) (m : Module) (entry used : Entry) (layout : List Stretch) (loads : List Load) (args cells : List ℕ) (o : Outcome) → VersionCode c job m entry
    → used ≡ entry → args ≡ job.args → cells ≡ zeros job.cells → length_in layout < 2 ^ 32 → IsValidation c used args cells layout loads o → IsMeantUnder job m entry layout loads o
meant_of job c m entry used layout loads args cells o can begins a z short validated =
    let v = subst (λ (x : Entry × List ℕ × List ℕ). IsValidation c x.0 x.1 x.2 layout loads o) (λ i. (begins i, a i, z i)) validated in
    record {
      rising = v.rising;
      inside = v.inside;
      holds = λ b h bytes. let size = h.size in (v.holds b h).meant m can.code (can.sound b bytes (omega (arith, size, short)));
    }

-- some message carries the loads, and this is the outcome that is meant of it
pub copies_fit : (job : HostJob) (m : Module) (entry : Entry) (layout : List Stretch) (loads : List Load) (o : Outcome) → HasRoomVersion job m entry → length_in layout < 2 ^ 32
    → IsMeantUnder job m entry layout loads o → HaveRoom job.rooms o.copies
copies_fit job m entry layout loads o roomy short fetched =
    let message = carried layout loads fetched.rising in
    let b : List ℕ = message.0 in
    let bytes : AreBytes b = are_bytes b message.2 in
    let size = message.1.size in
    subst (λ (x : Outcome). HaveRoom job.rooms x.copies) (fetched.holds b message.1 bytes).same (roomy b bytes (omega (arith, size, short)))

-- copies with just these rooms have room for what the first k of some buffers hold, where that fits the rooms
pub kept_fits : (rooms : List ℕ) (k : ℕ) (others buffers copies : List BufferView) → copies ≡ map empty_with rooms → others ≡ buffers → HaveRoom rooms (held_by (take k buffers))
    → HaveRoom (rooms_of copies) (held_by (take (length copies) others))
kept_fits rooms k others buffers copies e f h =
    first_fits rooms k others copies (ap rooms_of e ∙ rooms_again rooms) (subst (λ (x : List BufferView). HaveRoom rooms (held_by (take k x))) (sym f) h)

-- and just that is put into them
pub kept_same : (rooms : List ℕ) (k : ℕ) (others buffers copies : List BufferView) → copies ≡ map empty_with rooms → others ≡ buffers → HaveRoom rooms (held_by (take k buffers))
    → held_by (take (length copies) others) ≡ held_by (take k buffers)
kept_same rooms k others buffers copies e f h =
    ap held_by (first_same rooms k others copies (ap rooms_of e ∙ rooms_again rooms) (subst (λ (x : List BufferView). HaveRoom rooms (held_by (take k x))) (sym f) h) ∙ ap (take k) f)
