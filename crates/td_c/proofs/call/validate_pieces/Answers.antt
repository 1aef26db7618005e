use Rattle.std.proofs.Common.{rules, ◌≡◌, List, refl, sym, subst}
use Rattle.td_stream.specs.declared.load.Load.{Load}
use Rattle.td_foreign.specs.declared.pieces.TdPiece.{TdPiece}
use Rattle.td_foreign.specs.Pieces.{AreWhole, AreLoaded, HasLoads, SameShapes}
use Rattle.td_foreign.proofs.PieceLoads.{fresh_loaded}
use Rattle.td_c.proofs.Answered.{answered_inside}
use Rattle.td_c.proofs.call.validate_pieces.Goals as goal

-- loads of pieces, said of what is the same
loads_as : {was a b : List TdPiece} {k l : List Load} → b ≡ a → l ≡ k → HasLoads was a k → HasLoads was b l
loads_as {was} {a} {b} {k} {l} p q h = subst (λ (x : List Load). HasLoads was b x) (sym q) (subst (λ (ps : List TdPiece). HasLoads was ps k) (sym p) h)

pub returns-clause-answered : goal.returns-clause-answered
returns-clause-answered c =
    answered_inside _ (AreWhole c.args.pieces.now) (search rules) (c.requires.whole.0 (search rules)) c.validate-answer.ensures.answered

pub returns-then-not-whole-clause-loaded : goal.returns-then-not-whole-clause-loaded
returns-then-not-whole-clause-loaded c =
    subst (λ (loads : List Load). HasLoads c.args.pieces.now c.args.pieces.now loads) (sym c.new.ensures)
    (record { shapes = refl; made = fresh_loaded c.args.pieces.now c.requires.fresh })

-- the pieces and the list of loads are what the words' references were left with
pub returns-clause-loaded : goal.returns-clause-loaded
returns-clause-loaded c =
    let a = c.args in
    let m = c.over-memory in
    let w = c.validate-answer.new.words in
    let start : AreLoaded m.result.pieces.now m.result.made.now =
    subst (λ (ps : List TdPiece). AreLoaded ps m.result.made.now) (sym m.ensures.pieces)
    (subst (λ (l : List Load). AreLoaded a.pieces.now l) (sym m.ensures.made) (fresh_loaded a.pieces.now c.requires.fresh)) in
    let reached = c.validate-answer.ensures.reaches in
    let loads : HasLoads a.pieces.now w.pieces.now w.made.now = record {
      shapes = subst (λ (ps : List TdPiece). SameShapes ps w.pieces.now) m.ensures.pieces reached.3;
      made = reached.4 start;
    } in
    loads_as (search rules) (search rules) loads
