use Rattle.std.proofs.Common.{ap, sym, ◌∙◌, arith}
use Rattle.serde_json.specs.View.{view}
use Rattle.td_job.specs.declared.error.Key.TheVariants as key
use Rattle.td_job.specs.Fields.{field_of}
use Rattle.td_job_host.proofs.Elements.{listed_rings, given_as_listed, too_many_rings, few_rings}
use Rattle.td_job_host.proofs.rings.listed_rings.Goals as goal

pub returns-then-len-gt-MOST_RINGS-clause-err : goal.returns-then-len-gt-MOST_RINGS-clause-err
returns-then-len-gt-MOST_RINGS-clause-err c = λ words.
    let values = c.in-Some-as_array.values.now.items in
    let list = listed_rings words (field_of key.Rings (view c.args.job.now)) (view c.in-Some.value.now) values c.in-Some.ensures c.in-Some-as_array.ensures in
    rw (list, c.at-then-len-gt-MOST_RINGS.ensures) (too_many_rings words values (omega (arith, c.if-len-gt-MOST_RINGS.true, c.len.ensures)))

pub returns-else-len-gt-MOST_RINGS-clause-ok : goal.returns-else-len-gt-MOST_RINGS-clause-ok
returns-else-len-gt-MOST_RINGS-clause-ok c =
    let values = c.in-Some-as_array.values.now.items in
    let field = field_of key.Rings (view c.args.job.now) in
    rw c.as_slice.ensures.value (
      λ words.
          listed_rings words field (view c.in-Some.value.now) values c.in-Some.ensures c.in-Some-as_array.ensures ∙ few_rings words values (omega (arith, c.if-len-gt-MOST_RINGS.false, c.len.ensures)),
      given_as_listed field (view c.in-Some.value.now) values c.in-Some.ensures c.in-Some-as_array.ensures,
    )
