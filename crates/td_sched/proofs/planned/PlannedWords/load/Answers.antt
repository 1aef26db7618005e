use Rattle.std.proofs.Common.{rules, ◌≡◌, ℕ, ◌<◌, ◌≤◌, ◌+◌, Option, Some, None, List, [], ◌∷◌, ◌++◌, length, take, ap, sym, ◌∙◌, subst, arith, refl, slice_index, vec_capacity}
use Rattle.std.specs.Prelude.{option_map}
use Rattle.std.specs.List.{All}
use Rattle.std.proofs.lemmas.List.Elements.{All-weaker}
use Rattle.td_stream.specs.declared.load.Load.{Load}
use Rattle.td_stream.specs.declared.stretch.Stretch.{Stretch}
use Rattle.td_stream.specs.Layouts.{buffer_word_of, loadable}
use Rattle.td_stream.specs.Loads.{IsNext, buffered}
use Rattle.td_stream.proofs.Rising.{few}
use Rattle.td_stream.proofs.Buffered.{in_buffer, buffered_push, buffered_length, named_within, number_of}
use Rattle.td_sched.specs.declared.store.PlannedStore.{PlannedStore}
use Rattle.td_sched.specs.Plan.{ArePlanned, at, last_value, to_word}
use Rattle.td_sched.specs.Invariant.{PlannedInvariant, IsByWord, due}
use Rattle.td_sched.specs.View.{PlannedReaches, PlannedView, size_of}
use Rattle.td_sched.proofs.Turns.{planned_push}
use Rattle.td_sched.proofs.planned.PlannedWords.load.Goals as goal

pub word_named-near-requires : goal.word_named-near-requires
word_named-near-requires c =
    let s = c.self.inside in
    number_of (option_map (λ l. l.now) s.layout) c.args.i (length s.words.now) (subst (λ p. c.args.i < size_of p) (sym c.self.view_is) c.requires.within)

-- the word of the buffer is there
pub word_at-held-requires : goal.word_at-held-requires
word_at-held-requires c =
    let s = c.self.inside in
    let layout : Option (List Stretch) = option_map (λ l. l.now) s.layout in
    let inside = named_within (length s.words.now) layout c.args.i c.self.invariant.over (subst (λ p. c.args.i < size_of p) (sym c.self.view_is) c.requires.within) in
    let stores : length c.as_slice.result.now ≡ length s.stores.items = ap length c.as_slice.ensures.value in
    record { within = omega (arith, inside, c.word_named-near.ensures); began = omega (arith, stores, c.first_for-from.ensures.reached, c.self.invariant.reached) }

pub overflow_add-self : goal.overflow_add-self
overflow_add-self c =
    let s = c.self.inside in
    let layout : Option (List Stretch) = option_map (λ l. l.now) s.layout in
    let inside = named_within (length s.words.now) layout c.args.i c.self.invariant.over (subst (λ p. c.args.i < size_of p) (sym c.self.view_is) c.requires.within) in
    omega (arith, inside, c.word_named-near.ensures, c.self.invariant.small)

pub push_reserved-requires : goal.push_reserved-requires
push_reserved-requires c =
    let n : length c.self.inside.loads.items ≤ c.args.i = few c.args.i c.self.inside.loads.items (subst (λ p. IsNext c.args.i p.loads) (sym c.self.view_is) c.requires.next) in
    let i : c.args.i < loadable (option_map (λ l. l.now) c.self.inside.layout) (length c.self.inside.words.now) = subst (λ p. c.args.i < size_of p) (sym c.self.view_is) c.requires.within in
    omega (arith, n, i, c.self.invariant.space)

pub returns-clause-reaches : goal.returns-clause-reaches
returns-clause-reaches c =
    let s = c.self.inside in
    let layout : Option (List Stretch) = option_map (λ l. l.now) s.layout in
    let plan = c.self.invariant in
    let o = s.words.now in
    let g = s.given.value.items in
    let number : c.len-number.result ≡ length s.loads.items = search rules in
    let stores : c.as_slice.result.now ≡ s.stores.items = c.as_slice.ensures.value in
    let early = c.first_for-from.ensures.early s.stores.items plan.past in
    let word = c.word_named-near.result.1 in
    let is = c.word_at-held.ensures.value (subst (λ ys. IsByWord ys) (sym stores) plan.order) (subst (λ ys. All (λ (t : PlannedStore). t.word < word) (take c.first_for-from.result ys)) (sym stores) early) in
    let l : Load = record { word = c.args.i; value = c.word_at-held.result.value } in
    let z : length s.loads.items ≡ 0 + length (buffered layout s.loads.items) = omega (arith, buffered_length layout s.loads.items) in
    let value : l.value ≡ at o g (0 + length (buffered layout s.loads.items)) (buffer_word_of layout c.args.i) =
    is ∙ (ap (λ (ys : List PlannedStore). last_value (slice_index o word) (due c.len-number.result (to_word word ys))) stores
    ∙ (ap (last_value (slice_index o word)) (sym (plan.of_plan c.len-number.result word)) ∙ (ap (λ k. at o g k word) (number ∙ z) ∙ ap (at o g (0 + length (buffered layout s.loads.items))) c.word_named-near.ensures))) in
    subst (λ (p : PlannedView). PlannedReaches p (record { opening = o; stores = g; layout = layout; loads = c.push_reserved.new.self.items })) c.self.view_is (record {
      opening = refl;
      stores = refl;
      layout = refl;
      planned = λ h. subst (λ ys. ArePlanned o g 0 (buffered layout ys)) (sym c.push_reserved.ensures.items) (subst (ArePlanned o g 0) (sym (buffered_push layout s.loads.items l)) (planned_push o g 0 (buffered layout s.loads.items) (in_buffer layout l) h value));
    })

pub invariant_of-self : goal.invariant_of-self
invariant_of-self c =
    let s = c.self.inside in
    let word = c.word_named-near.result.1 in
    let stores : c.as_slice.result.now ≡ s.stores.items = c.as_slice.ensures.value in
    let early = subst (λ ys. All (λ (t : PlannedStore). t.word < word) (take c.first_for-from.result ys)) (sym stores) (c.first_for-from.ensures.early s.stores.items c.self.invariant.past) in
    let passed = subst (λ ys. All (λ (t : PlannedStore). t.word ≤ word) (take c.word_at-held.result.next ys)) stores (c.word_at-held.ensures.passed early) in
    record {
      order = c.self.invariant.order;
      of_plan = c.self.invariant.of_plan;
      reached = subst (λ ys. c.word_at-held.result.next ≤ length ys) stores c.word_at-held.ensures.reached;
      past = All-weaker (λ (t : PlannedStore). t.word ≤ word) (λ (t : PlannedStore). t.word < word + 1) (λ t h. omega (arith, h)) _ passed;
      over = c.self.invariant.over;
      small = c.self.invariant.small;
      space = subst (λ n. loadable (option_map (λ l. l.now) s.layout) (length s.words.now) ≤ n) (sym c.push_reserved.ensures.capacity) c.self.invariant.space;
    }
