use Rattle.std.proofs.Common.{ℕ, ◌<◌, List, refl, sym, ap, ◌∙◌, subst, arith}
use Rattle.td_stream.specs.declared.load.Load.{Load}
use Rattle.td_stream.specs.declared.stretch.Stretch.{Stretch}
use Rattle.td_stream.specs.Layouts.{count_in, pair_at}
use Rattle.td_foreign.specs.Pieces.{layout_of, count_at, AreLoaded, IsLoad}
use Rattle.td_foreign.proofs.PieceLoads.{piece_within, same_layout, same_whole, loaded_more}
use Rattle.td_foreign.proofs.pieces.PieceWordsWords.load.Goals as goal

pub load_of-value-requires-clause-piece : goal.load_of-value-requires-clause-piece
load_of-value-requires-clause-piece c =
    let s = c.args.self.now in
    let within = piece_within s.pieces.now c.args.i s.whole (subst (λ (l : List Stretch). c.args.i < count_in l) s.laid c.requires.within) in
    let here = within.0 in
    let k = c.word_from-near.ensures.stretch ∙ ap (λ (l : List Stretch). (pair_at l c.args.i).0) s.laid in
    omega (arith, here, k)

pub load_of-value-requires-clause-word : goal.load_of-value-requires-clause-word
load_of-value-requires-clause-word c =
    let s = c.args.self.now in
    let within = piece_within s.pieces.now c.args.i s.whole (subst (λ (l : List Stretch). c.args.i < count_in l) s.laid c.requires.within) in
    let k = c.word_from-near.ensures.stretch ∙ ap (λ (l : List Stretch). (pair_at l c.args.i).0) s.laid in
    let n = c.word_from-near.ensures.word ∙ ap (λ (l : List Stretch). (pair_at l c.args.i).1) s.laid in
    subst (λ (j : ℕ). c.word_from-near.result.1 < count_at s.pieces.now j) (sym k)
    (subst (λ (m : ℕ). m < count_at s.pieces.now (pair_at (layout_of s.pieces.now) c.args.i).0) (sym n) within.1)

pub invariant_of-self : goal.invariant_of-self
invariant_of-self c =
    let s = c.args.self.now in
    let shapes = c.load_of-value.ensures.shapes in
    record {
      whole = same_whole s.pieces.now c.load_of-value.new.pieces shapes s.whole;
      laid = s.laid ∙ sym (same_layout s.pieces.now c.load_of-value.new.pieces shapes);
    }

-- the load is of the piece and the word that the pieces' layout gives its number
pub returns-clause-reaches : goal.returns-clause-reaches
returns-clause-reaches c =
    let s = c.args.self.now in
    let a = s.pieces.now in
    let b = c.load_of-value.new.pieces in
    let l : Load = record { word = c.args.i; value = c.load_of-value.result } in
    let k = c.word_from-near.ensures.stretch ∙ ap (λ (x : List Stretch). (pair_at x c.args.i).0) s.laid in
    let n = c.word_from-near.ensures.word ∙ ap (λ (x : List Stretch). (pair_at x c.args.i).1) s.laid in
    let load : IsLoad a b (pair_at (layout_of a) l.word).0 (pair_at (layout_of a) l.word).1 l.value =
    subst (λ (j : ℕ). IsLoad a b j (pair_at (layout_of a) l.word).1 l.value) k
    (subst (λ (m : ℕ). IsLoad a b c.word_from-near.result.0 m l.value) n c.load_of-value.ensures) in
    (refl, refl, refl, c.load_of-value.ensures.shapes, λ h. subst (AreLoaded b) (sym c.push.ensures) (loaded_more a b s.made.now l load h))
