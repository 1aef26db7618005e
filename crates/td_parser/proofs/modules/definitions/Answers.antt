use Rattle.std.proofs.Common.{◌≡◌, true, false, List, []}
use Rattle.std.proofs.Common.{◌∙◌, sym, refl, inl, inr}
use Rattle.std.proofs.lemmas.Result.{err_from_is_err_and}
use Rattle.td_ast.specs.declared.definitions.Def.{Def}
use Rattle.td_grammar.specs.Grammar.{all_of}
use Rattle.td_grammar.specs.Definitions.{def, define, enumeration, typedef, casetype, entrypoint, output}
use Rattle.td_grammar.proofs.Defs.{def_exact}
use Rattle.td_grammar.proofs.Loops.{loop_more, loop_shorter, loop_done}
use Rattle.td_parser_expr.proofs.Loops.{loop_fails}
use Rattle.td_parser.proofs.Beginnings.{begun, memory_where}
use Rattle.td_parser.proofs.modules.definitions.Goals as goal

solid : def.reader.may_be_empty ≡ false
unfolding def define enumeration typedef casetype entrypoint output
solid = refl

pub returns-in_err-next-clause-reading : goal.returns-in_err-next-clause-reading
unfolding def define enumeration typedef casetype entrypoint output
returns-in_err-next-clause-reading c =
    let p = err_from_is_err_and c.from_residual.result c.from_residual.ensures.1 in
    rw (p.1, p.2) (loop_fails def def_exact solid c.loop-alloc.definitions c.loop-alloc.rest.now ((all_of def).reader.read c.args.tokens.now) c.in_err-next.field-0.0 (sym c.peek_is_def.ensures ∙ c.loop-alloc-test.true) c.in_err-next.ensures c.loop-alloc.invariant.0)

pub returns-in_err-next-clause-memory : goal.returns-in_err-next-clause-memory
returns-in_err-next-clause-memory c = memory_where _ _ (begun c.args.tokens.now c.loop-alloc.rest.now c.loop-alloc.invariant.1 (sym c.peek_is_def.ensures ∙ c.loop-alloc-test.true))

pub loop-alloc-smaller : goal.loop-alloc-smaller
loop-alloc-smaller c = loop_shorter def def_exact solid c.loop-alloc.definitions c.loop-alloc.rest.now ((all_of def).reader.read c.args.tokens.now) c.in_ok-next.next c.in_ok-next.after.now c.in_ok-next.ensures

pub loop-alloc-preserved : goal.loop-alloc-preserved
unfolding def define enumeration typedef casetype entrypoint output
loop-alloc-preserved c = (
  rw (c.in_ok-push.ensures.ok) (loop_more def def_exact solid c.loop-alloc.definitions c.loop-alloc.rest.now ((all_of def).reader.read c.args.tokens.now) c.in_ok-next.next c.in_ok-next.after.now (sym c.peek_is_def.ensures ∙ c.loop-alloc-test.true) c.in_ok-next.ensures c.loop-alloc.invariant.0),
  inr (begun c.args.tokens.now c.loop-alloc.rest.now c.loop-alloc.invariant.1 (sym c.peek_is_def.ensures ∙ c.loop-alloc-test.true)),
)

pub returns-clause-reading : goal.returns-clause-reading
unfolding def define enumeration typedef casetype entrypoint output
returns-clause-reading c = loop_done def def_exact solid c.loop-alloc.definitions c.loop-alloc.rest.now ((all_of def).reader.read c.args.tokens.now) (sym c.peek_is_def.ensures ∙ c.loop-alloc-test.false) c.loop-alloc.invariant.0
