use Rattle.std.proofs.Common.{◌≡◌, ◌+◌, ◌≤◌, ℕ, List, Some, length, refl, sym, ap, ◌∙◌, arith}
use Rattle.std.specs.Prelude.{slice_get}
use Rattle.std.proofs.lemmas.Option.{slice_get_read}
use Rattle.td_ast.specs.declared.names.Name.{Name}
use Rattle.std.proofs.lemmas.Bool.Decides.{nat_tests}
use Rattle.td_front_flat.specs.Firsts.{listed_at, list_or_none}
use Rattle.td_front_flat.proofs.Nones.{parts_all}
use Rattle.td_front_flat.proofs.Lower.{stepped, placed}
use Rattle.td_front_flat.proofs.cycle.first_by_heights.Goals as goal

-- the uses of the part are those that are listed
listed : (all : List (List Name)) (n : ℕ) (uses : List Name) → slice_get all n ≡ Some uses → uses ≡ listed_at all n
listed all n uses e = sym (ap list_or_none e)

pub returns-then-branch : goal.returns-then-branch
returns-then-branch c =
    let uses = c.as_slice-uses.result.now in
    let there = slice_get_read c.args.all.now (length c.args.all.now) c.loop-part.part c.index-all-part.result refl c.loop-part-test.true c.index-all-part.is in
    let use_there = slice_get_read uses (length uses) c.lower_uses-at.result c.index-uses-at.result refl c.if-at-uses.true c.index-uses-at.is in
    placed c.args.names.now c.args.graph.now c.args.heights.now c.args.all.now c.loop-part.part uses c.lower_uses-at.result c.index-uses-at.result
    c.requires.heights (c.as_slice-uses.ensures ∙ listed c.args.all.now c.loop-part.part c.index-all-part.result there) use_there (c.in_ok-is_cyclic.ensures.yes c.if-branch.true) c.lower_uses-at.ensures.lower c.loop-part.invariant.before

pub loop-part-preserved : goal.loop-part-preserved
loop-part-preserved c =
    let whole : length c.as_slice-uses.result.now ≤ c.lower_uses-at.result = grind (arith, nat_tests) in
    let further : c.loop-part.part + 1 ≤ length c.args.all.now = grind (arith, nat_tests) in
    let there = slice_get_read c.args.all.now (length c.args.all.now) c.loop-part.part c.index-all-part.result refl c.loop-part-test.true c.index-all-part.is in
    record {
      within = further;
      before = stepped c.args.names.now c.args.graph.now c.args.heights.now c.args.all.now c.loop-part.part c.as_slice-uses.result.now c.lower_uses-at.result
          c.requires.heights (c.as_slice-uses.ensures ∙ listed c.args.all.now c.loop-part.part c.index-all-part.result there) whole c.lower_uses-at.ensures.lower c.loop-part.invariant.before;
    }

pub returns : goal.returns
returns c =
    let past : length c.args.all.now ≤ c.loop-part.part = grind (arith, nat_tests) in
    parts_all c.args.names.now c.args.graph.now c.args.all.now c.loop-part.part past c.loop-part.invariant.before
