use Rattle.std.proofs.Common.{◌≡◌, sym, ap, ◌∙◌, ◌+◌, [], ◌∷◌, ◌++◌, length, drop, append_assoc, arith}
use Rattle.std.proofs.lemmas.Result.{IfOk-weaker}
use Rattle.td_ast.specs.Statements.{block_of, statement_size}
use Rattle.td_ast.specs.StmtView.{statement_at}
use Rattle.td_ast.specs.StatementCode.{block_of_size}
use Rattle.td_elab_rules.specs.Breach.{first_of}
use Rattle.td_elab_rules.specs.Actions.{statement_breaches, block_breaches, vars_after, block_vars, scope_after, block_core}
use Rattle.td_elab_exprs.proofs.Steps.{first_append}
use Rattle.td_elab_actions.specs.Scopes.{cut_back}
use Rattle.td_elab_actions.specs.Pieces.{piece_of, pieces_of, block_scope, chained}
use Rattle.td_elab_actions.proofs.Following.{chain}
use Rattle.td_elab_actions.proofs.Growing.{cut}
use Rattle.td_elab_actions.proofs.Turns.{below, split_block}
use Rattle.td_elab_actions.proofs.actions.+block.Goals as goal

pub pieces-piece-requires : goal.pieces-piece-requires
pieces-piece-requires t c =
    let small = below c.args.statements.now c.loop-statement.statement-index c.statement-item.result (omega arith) c.statement-item.is in
    (omega arith, tt)

pub piece-if_else_piece-requires : goal.piece-if_else_piece-requires
piece-if_else_piece-requires t c =
    let one = block_of_size c.in-IfElse.one in
    let other = block_of_size c.in-IfElse.other in
    let whole = ap statement_size (ap (λ k. statement_at c.statement.inside.span k) (sym c.in-IfElse.is) ∙ c.statement.view_is) in
    omega (arith, one, other, whole)

pub pieces-loop-statement-preserved : goal.pieces-loop-statement-preserved
pieces-loop-statement-preserved t c =
    let l = c.loop-statement in
    let k = c.args.known.now in
    let x = c.statement-item.result in
    let rest = block_of (drop (l.statement-index + 1) c.args.statements.now) in
    let p = c.in_ok-piece.ensures in
    let later = scope_after k l.bindings.scope x in
    let s = sym (split_block c.args.statements.now l.statement-index x (omega arith) c.statement-item.is) in
    record {
      core =
          ap (λ ps. ps ++ pieces_of k c.piece.new.bindings.scope rest) c.in_ok-push.ensures.items
          ∙ append_assoc l.pieces.items (c.in_ok-piece.field-0 ∷ []) (pieces_of k c.piece.new.bindings.scope rest)
          ∙ ap (λ q. l.pieces.items ++ q ∷ pieces_of k c.piece.new.bindings.scope rest) p.core
          ∙ ap (λ u. l.pieces.items ++ piece_of k l.bindings.scope x ∷ pieces_of k u rest) p.scope
          ∙ ap (λ b. l.pieces.items ++ pieces_of k l.bindings.scope b) s
          ∙ l.invariant.core;
      first =
          ap (λ u. first_of c.piece.new.findings.first (block_breaches k c.piece.new.bindings.taken u rest)) p.scope
          ∙ ap (λ u. first_of c.piece.new.findings.first (block_breaches k u later rest)) p.taken
          ∙ ap (λ o. first_of o (block_breaches k (vars_after l.bindings.taken x) later rest)) p.first
          ∙ sym (first_append l.findings.first (statement_breaches k l.bindings.taken l.bindings.scope x) (block_breaches k (vars_after l.bindings.taken x) later rest))
          ∙ ap (λ b. first_of l.findings.first (block_breaches k l.bindings.taken l.bindings.scope b)) s
          ∙ l.invariant.first;
      taken = ap (λ u. block_vars u rest) p.taken ∙ ap (λ b. block_vars l.bindings.taken b) s ∙ l.invariant.taken;
      scope = ap (λ u. block_scope k u rest) p.scope ∙ ap (λ b. block_scope k l.bindings.scope b) s ∙ l.invariant.scope;
    }

pub block-returns-clause-core : goal.block-returns-clause-core
block-returns-clause-core t c =
    let k = c.args.known.now in
    let s = c.args.bindings.now.scope in
    IfOk-weaker c.chained.result (λ a. a ≡ chained c.in_ok-pieces.pieces.items) (λ a. a ≡ block_core k s (block_of c.args.block.now))
    (λ a e. e ∙ ap chained c.in_ok-pieces.ensures.core ∙ chain k s (block_of c.as_slice.result.now) ∙ ap (λ b. block_core k s (block_of b)) c.as_slice.ensures)
    c.chained.ensures

pub block-returns-clause-scope : goal.block-returns-clause-scope
block-returns-clause-scope t c =
    let k = c.args.known.now in
    let s = c.args.bindings.now.scope in
    let back : c.cut_back.new.scope ≡ s =
    c.cut_back.ensures
    ∙ ap (λ n. cut_back n s.levels c.pieces.new.bindings.scope) c.len-names.ensures
    ∙ ap (λ u. cut_back (length s.locals) s.levels u) c.in_ok-pieces.ensures.scope
    ∙ cut k s (block_of c.as_slice.result.now) in
    IfOk-weaker c.chained.result (λ a. a ≡ chained c.in_ok-pieces.pieces.items) (λ a. c.cut_back.new.scope ≡ s) (λ a e. back) c.chained.ensures
