use Rattle.std.proofs.Common.{◌≡◌, ◌+◌, ◌-◌, ◌*◌, ◌%◌, [], ◌∷◌, ◌++◌, length, take, get_or, sym, ap, ◌∙◌, subst, arith}
use Rattle.std.specs.Prelude.{map}
use Rattle.std.proofs.lemmas.List.{map_push, take_more, length_push}
use Rattle.td_stream.specs.declared.stretch.Stretch.{Stretch}
use Rattle.td_stream.specs.declared.layout.Part.{Part}
use Rattle.td_stream.specs.Layouts.{words_in, length_in, count_in}
use Rattle.td_stream.specs.Parts.{stretch_of, IsSound, AreLaid, start_of, first_of}
use Rattle.td_stream.proofs.Layouts.{start_more, first_more, start_within, first_few, laid_push}
use Rattle.td_stream.proofs.layout.Layout.laid.Goals as goal

pub overflow_add-end : goal.overflow_add-end
overflow_add-end c =
    let l = c.args.stretches.now in
    let i = c.stretches.invariant in
    let more = start_more l c.stretches.i (record { place = 0; size = 0 }) c.stretches-test.true in
    let all = start_within l (c.stretches.i + 1) in
    omega (arith, more, all, i.start, c.requires.short)

pub overflow_add-after : goal.overflow_add-after
overflow_add-after c =
    let l = c.args.stretches.now in
    let i = c.stretches.invariant in
    let few = first_few l c.stretches.i in
    omega (arith, few, i.first, c.words_for.ensures.few, c.requires.short, c.requires.few, c.stretches-test.true)

pub stretches-preserved : goal.stretches-preserved
stretches-preserved c =
    let l = c.args.stretches.now in
    let i = c.stretches.invariant in
    let j = c.stretches.i in
    let s : Stretch = get_or l j (record { place = 0; size = 0 }) in
    let lt = c.stretches-test.true in
    let start = start_more l j (record { place = 0; size = 0 }) lt in
    let first = first_more l j (record { place = 0; size = 0 }) lt in
    let all = start_within l (j + 1) in
    let few = first_few l (j + 1) in
    let p : Part = record { word = c.word_of.result; shift = s.place % 8; start = c.stretches.start; end = c.stretches.start + s.size; first = c.stretches.first; after = c.stretches.first + c.words_for.result } in
    let same : ◌≡◌ {A = Stretch} (stretch_of p) s = λ k. record { place = (let e : 8 * c.word_of.result + s.place % 8 ≡ s.place = omega (arith, c.word_of.ensures.word) in e) k; size = (let e : c.stretches.start + s.size - c.stretches.start ≡ s.size = omega arith in e) k } in
    let words : c.words_for.result ≡ words_in s = c.words_for.ensures.words c.word_of.result ∙ ap words_in (λ k. record { place = (let e : 8 * c.word_of.result + s.place % 8 ≡ s.place = omega (arith, c.word_of.ensures.word) in e) k; size = s.size }) in
    let sound : IsSound p = record {
      shift = omega arith;
      some = omega arith;
      words = ap (λ n. c.stretches.first + n) (words ∙ sym (ap words_in same));
      named = omega (arith, c.word_of.ensures.small, start, all, i.start, c.requires.short);
      numbered = omega (arith, few, first, i.first, words, all, c.requires.short, c.requires.few, lt);
    } in
    let long : length_in (map stretch_of c.stretches.parts.items) ≡ start_of l j = ap length_in i.same in
    let many : count_in (map stretch_of c.stretches.parts.items) ≡ first_of l j = ap count_in i.same in
    record {
      reached = omega (arith, lt);
      laid = subst (AreLaid 0 0) (sym c.push_reserved.ensures.items) (laid_push c.stretches.parts.items 0 0 p i.laid (omega (arith, i.start, long)) (omega (arith, i.first, many)) sound);
      same = ap (map stretch_of) c.push_reserved.ensures.items ∙ map_push stretch_of c.stretches.parts.items p ∙ ap (λ ys. ys ++ stretch_of p ∷ []) i.same ∙ ap (λ (x : Stretch). take j l ++ x ∷ []) same ∙ sym (take_more l j (record { place = 0; size = 0 }) lt);
      start = omega (arith, start, i.start);
      first = omega (arith, first, i.first, words);
      room = omega (arith, i.room, c.push_reserved.ensures.capacity);
      made = ap length c.push_reserved.ensures.items ∙ length_push c.stretches.parts.items p ∙ ap (λ n. n + 1) i.made;
    }
