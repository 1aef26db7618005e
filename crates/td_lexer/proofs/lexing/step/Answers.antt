use Rattle.std.proofs.Common.{arith, length-drop, refl}
use Rattle.std.proofs.lemmas.Result.{err_from_is_err_and}
use Rattle.td_lexer.proofs.Walk.{tail_whole}
use Rattle.td_lexer.proofs.Stepping.{reach_within, name_token, step_goes, step_stops, step_starves}
use Rattle.td_lexer.proofs.lexing.step.Goals as goal

pub end_of-requires : goal.end_of-requires
end_of-requires c =
    let within = reach_within _ _ (rw tail_whole at c.in_ok-lexeme.ensures.within) in
    omega (arith, within, length-drop c.args.at c.args.bytes.now)

pub returns-in_err-lexeme : goal.returns-in_err-lexeme
returns-in_err-lexeme c =
    let p = err_from_is_err_and c.from_residual.result c.from_residual.ensures.1 in
    rw (p.1, p.2) (step_starves c.args.at c.args.bytes.now c.args.tokens.now.items c.requires.inside _ refl c.args.tokens.now.items (name_token _ (rw tail_whole at c.in_err-lexeme.ensures.memory)))

pub returns-in_err-end : goal.returns-in_err-end
returns-in_err-end c =
    let p = err_from_is_err_and c.from_residual-in_err-end.result c.from_residual-in_err-end.ensures.1 in
    rw (p.1, p.2) (step_stops c.args.at c.args.bytes.now c.args.tokens.now.items c.requires.inside c.in_ok-lexeme.lexeme (rw tail_whole at c.in_ok-lexeme.ensures.lexeme) _ c.args.tokens.now.items c.in_err-end.ensures)

pub returns-in_err-keep : goal.returns-in_err-keep
returns-in_err-keep c =
    let p = err_from_is_err_and c.from_residual-in_err-keep.result c.from_residual-in_err-keep.ensures.1 in
    rw (p.1, p.2) (step_starves c.args.at c.args.bytes.now c.args.tokens.now.items c.requires.inside c.in_ok-lexeme.lexeme (rw tail_whole at c.in_ok-lexeme.ensures.lexeme) c.keep.new.tokens.items c.in_err-keep.ensures.memory)

pub returns : goal.returns
returns c =
    step_goes c.args.at c.args.bytes.now c.args.tokens.now.items c.requires.inside c.in_ok-lexeme.lexeme (rw tail_whole at c.in_ok-lexeme.ensures.lexeme) c.in_ok-end.end c.keep.new.tokens.items (rw tail_whole at c.in_ok-lexeme.ensures.within) c.in_ok-end.ensures c.in_ok-keep.ensures.kept
