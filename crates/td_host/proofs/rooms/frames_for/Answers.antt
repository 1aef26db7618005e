use Rattle.std.proofs.Common.{rules, ◌≡◌, List, length, sym, ap, subst, arith}
use Rattle.std.specs.Prelude.{slice_index_or}
use Rattle.std.proofs.lemmas.List.{length-map}
use Rattle.td_swap.specs.declared.version.Version.{Version}
use Rattle.td_swap.specs.Versions.{version_code}
use Rattle.td_host.proofs.Arms.{code_at, Framing, no_frame, one_frame, all_frames}
use Rattle.td_host.proofs.rooms.frames_for.Goals as goal

pub loop-version-init : goal.loop-version-init
loop-version-init c = subst (Framing c.args.codes.now.codes 0) (sym c.new-frames.ensures.items) (no_frame c.args.codes.now.codes)

pub loop-version-preserved : goal.loop-version-preserved
loop-version-preserved c =
    let vs : List Version = c.versions-versions.result.now in
    let l = c.loop-version in
    let v : Version = c.version-item.result in
    let is : slice_index_or vs l.version-index v ≡ v = search rules in
    let at = code_at vs c.args.codes.now.codes l.version-index v c.versions-versions.ensures.codes c.loop-version-test.true is in
    one_frame c.args.codes.now.codes l.version-index l.frames.items c.push.new.self.items v.code c.in_ok-arm.field-0 l.invariant at c.in_ok-arm.ensures.armed c.in_ok-push.ensures.items

pub returns : goal.returns
returns c =
    let vs : List Version = c.versions-versions.result.now in
    let l = c.loop-version in
    let codes = c.args.codes.now.codes in
    let n = length-map vs version_code in
    let m = ap length c.versions-versions.ensures.codes in
    let most = l.auto.version-index-end in
    let over = c.loop-version-test.false in
    all_frames codes l.version-index l.frames.items l.invariant (omega (arith, n, m, over))
