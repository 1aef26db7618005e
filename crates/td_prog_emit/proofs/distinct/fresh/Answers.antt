use Rattle.std.proofs.Common.{◌≡◌, ◌<◌, ◌+◌, ◌-◌, ℕ, suc, List, length, ap, sym, ◌∙◌, arith}
use Rattle.td_prog_emit.proofs.Apart.{fresh_done, fresh_free, fresh_taken}
use Rattle.td_prog_text.specs.Names.{fresh, is_one_of}
use Rattle.td_prog_emit.proofs.distinct.fresh.Goals as goal

pub returns-then-not-among : goal.returns-then-not-among
returns-then-not-among c =
    let h : c.loop-k.k < length c.args.taken.now = omega (arith, c.loop-k-test.true) in
    let e : length c.args.taken.now - c.loop-k.k ≡ suc (length c.args.taken.now - (c.loop-k.k + 1)) = omega (arith, h) in
    sym (fresh_free (length c.args.taken.now - c.loop-k.k) (length c.args.taken.now - (c.loop-k.k + 1)) c.args.taken.now c.loop-k.made.items e (ap (is_one_of c.args.taken.now) (sym c.deref.ensures.value) ∙ sym c.is_among-among.ensures ∙ c.if-not-among.true))
    ∙ c.loop-k.invariant

pub loop-k-preserved : goal.loop-k-preserved
loop-k-preserved c =
    let h : c.loop-k.k < length c.args.taken.now = omega (arith, c.loop-k-test.true) in
    let e : length c.args.taken.now - c.loop-k.k ≡ suc (length c.args.taken.now - (c.loop-k.k + 1)) = omega (arith, h) in
    ap (λ (l : List ℕ). fresh (length c.args.taken.now - (c.loop-k.k + 1)) c.args.taken.now l) ((c.in_ok-push.ensures {u = tt}).items)
    ∙ sym (fresh_taken (length c.args.taken.now - c.loop-k.k) (length c.args.taken.now - (c.loop-k.k + 1)) c.args.taken.now c.loop-k.made.items e (ap (is_one_of c.args.taken.now) (sym c.deref.ensures.value) ∙ sym c.is_among-among.ensures ∙ c.if-not-among.false))
    ∙ c.loop-k.invariant

pub returns : goal.returns
returns c =
    let e : length c.args.taken.now - c.loop-k.k ≡ 0 = omega (arith, c.loop-k-test.false) in
    sym (fresh_done (length c.args.taken.now - c.loop-k.k) c.args.taken.now c.loop-k.made.items e) ∙ c.loop-k.invariant
