use Rattle.std.proofs.Common.{◌++◌, [], ◌∷◌, ap, ◌∙◌, arith}
use Rattle.td_foreign.specs.declared.memory.TdWords.{TdWords}
use Rattle.td_foreign.proofs.PieceLoads.{count_of, is_load}
use Rattle.td_foreign.proofs.pieces.load_of.Goals as goal

pub load-requires : goal.load-requires
load-requires c =
    let same = ap (λ (w : TdWords). w.count) c.replace-words.ensures.value in
    let count = count_of c.args.pieces.now c.args.k c.index-pieces-k.result c.requires.piece in
    omega (arith, same, count, c.requires.word)

pub returns : goal.returns
returns c =
    let was = c.replace-words.ensures.value in
    is_load c.args.pieces.now c.args.k c.index-pieces-k.result c.replace-words.new.dest c.load.result.0 c.index-pieces-k-2.result c.args.i c.load.result.1 c.requires.piece
    (c.load.ensures.0 ∙ ap (λ (w : TdWords). w.count) was)
    (c.load.ensures.1 ∙ ap (λ (w : TdWords). w.made ++ (record { word = c.args.i; value = c.load.result.1 }) ∷ []) was)
