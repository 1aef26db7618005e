use Rattle.std.proofs.Common.{◌≡◌, ◌⊎◌, Err, inl, inr, get_or, ap, subst}
use Rattle.serde_json.specs.View.{view, items_view}
use Rattle.serde_json.specs.declared.value.Value.{Value}
use Rattle.td_job.specs.declared.error.Key.TheVariants as key
use Rattle.td_job_host.specs.Imports.{JobError, NoMemory}
use Rattle.td_job.specs.Fields.{text_of}
use Rattle.td_job_host.specs.Swaps.{Spells, ElementFault, FirstSwapFault, MayLackText}
use Rattle.td_job_host.proofs.Naming.{handed, handed_on}
use Rattle.td_job_host.proofs.Looping.{fault_here, lacks_here, swap_lacks, read_on, read_all}
use Rattle.td_job_host.proofs.swaps.versions_of.Goals as goal

pub returns-in_err-version-clause-err : goal.returns-in_err-version-clause-err
returns-in_err-version-clause-err c =
    let m = c.args.m.now in
    let entry = c.args.entry in
    let name = text_of key.Entry (view c.args.job.now) in
    let values = c.args.values.now in
    let l = c.loop-index in
    let d = c.index-values-index.result in
    let e = c.in_err-version.field-0.0 in
    handed_on c.from_residual.result e (λ (x : JobError). (x ≡ NoMemory) ⊎ FirstSwapFault m entry name 0 (items_view values) x) c.from_residual.ensures.1
    (elim c.in_err-version.ensures.err [
      | inl memory ↦ inl memory
      | inr wrong ↦
          let here : ElementFault m entry name l.index (view (get_or values l.index d)) e = subst (λ (v : Value). ElementFault m entry name l.index (view v) e) c.index-values-index.is wrong in
          inr (fault_here m entry name values l.index d c.loop-index-test.true l.versions.formats.items l.versions.entries.items l.invariant e here)
    ])

pub returns-in_err-version-clause-memory : goal.returns-in_err-version-clause-memory
returns-in_err-version-clause-memory c = λ memory.
    let m = c.args.m.now in
    let name = text_of key.Entry (view c.args.job.now) in
    let l = c.loop-index in
    let d = c.index-values-index.result in
    let told = handed c.from_residual.result c.in_err-version.field-0.0 c.from_residual.ensures.1 memory in
    let here : MayLackText m c.args.entry name (view (get_or c.args.values.now l.index d)) = subst (λ (v : Value). MayLackText m c.args.entry name (view v)) c.index-values-index.is (c.in_err-version.ensures.memory (ap Err told)) in
    lacks_here m c.args.entry name c.args.values.now l.index d c.loop-index-test.true l.versions.formats.items l.versions.entries.items l.invariant here

pub returns-in_err-push-clause-memory : goal.returns-in_err-push-clause-memory
returns-in_err-push-clause-memory c = λ memory.
    let m = c.args.m.now in
    let name = text_of key.Entry (view c.args.job.now) in
    let l = c.loop-index in
    let d = c.index-values-index.result in
    let v = c.in_ok-version.version in
    let is : Spells m c.args.entry name (view (get_or c.args.values.now l.index d)) v.format v.entry = subst (λ (x : Value). Spells m c.args.entry name (view x) v.format v.entry) c.index-values-index.is c.in_ok-version.ensures.ok in
    swap_lacks m c.args.entry name c.args.values.now l.index d c.loop-index-test.true l.versions.formats.items l.versions.entries.items l.invariant v.format v.entry is

pub loop-index-preserved : goal.loop-index-preserved
loop-index-preserved c =
    let m = c.args.m.now in
    let name = text_of key.Entry (view c.args.job.now) in
    let l = c.loop-index in
    let d = c.index-values-index.result in
    let v = c.in_ok-version.version in
    let is : Spells m c.args.entry name (view (get_or c.args.values.now l.index d)) v.format v.entry = subst (λ (x : Value). Spells m c.args.entry name (view x) v.format v.entry) c.index-values-index.is c.in_ok-version.ensures.ok in
    read_on m c.args.entry name c.args.values.now l.index d c.loop-index-test.true l.versions.formats.items l.versions.entries.items l.invariant v.format v.entry is
    c.push.new.self.formats.items c.push.new.self.entries.items c.in_ok-push.ensures.formats c.in_ok-push.ensures.entries

pub returns-clause-ok : goal.returns-clause-ok
returns-clause-ok c =
    let l = c.loop-index in
    read_all c.args.m.now c.args.entry (text_of key.Entry (view c.args.job.now)) c.args.values.now l.index l.versions.formats.items l.versions.entries.items l.invariant c.loop-index-test.false
