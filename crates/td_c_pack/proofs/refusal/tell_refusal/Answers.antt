use Rattle.std.proofs.Common.{◌≡◌, ℕ, ◌<◌, List, length, sym, subst, ◌∙◌, rules, arith}
use Rattle.td_front.specs.Lines.{code_of, words_of}
use Rattle.td_c_pack.proofs.Short.{code_short, words_short}
use Rattle.td_c_pack.proofs.refusal.tell_refusal.Goals as goal

pub put_string-requires : goal.put_string-requires
put_string-requires c =
    let room : length c.args.told.now.code ≡ 8 = search rules in
    let short : length (code_of c.args.error.now) < 8 = code_short c.args.error.now in
    subst (λ (xs : List ℕ). length xs < length c.args.told.now.code) (sym (c.as_bytes.ensures.value ∙ c.in-Some.ensures.code)) (omega (arith, room, short))

pub put_string-requires-2 : goal.put_string-requires-2
put_string-requires-2 c =
    let room : length c.args.told.now.words ≡ 32 = search rules in
    let short : length (words_of c.args.error.now) < 32 = words_short c.args.error.now in
    subst (λ (xs : List ℕ). length xs < length c.args.told.now.words) (sym (c.as_bytes-2.ensures.value ∙ c.in-Some.ensures.words)) (omega (arith, room, short))
