use Rattle.std.proofs.Common.{◌≡◌, ◌+◌, ◌%◌, ◌^◌, ◌<◌, List, [], ◌∷◌, ◌++◌, length, slice_set, refl, sym, subst, arith}
use Rattle.td_stream.specs.declared.load.Load.{Load}
use Rattle.td_stream.proofs.Rising.{few}
use Rattle.td_foreign.specs.declared.noted.TdLoad.{TdLoad}
use Rattle.td_foreign.specs.Noted.{row_of, IsNoted}
use Rattle.td_foreign.proofs.Written.{noted}
use Rattle.td_foreign.proofs.noted.NotedWordsWords.load.Goals as goal

-- a load of word i comes after at most i others, and its row is written behind theirs
pub returns-clause-reaches : goal.returns-clause-reaches
returns-clause-reaches g c =
    let s = c.args.self.now in
    let layout = s.layout.now in
    let before = g.W.Words.loads s.words.now in
    let l : Load = record { word = c.args.i; value = c.load-value.result } in
    let row : TdLoad = record { stretch = c.word_from-stretch.result.0; word = c.word_from-stretch.result.1; value = c.load-value.result } in
    let is_row : row ≡ row_of layout l = cc in
    let few_before : length before < 2 ^ 32 = (let n = few c.args.i before c.requires.next in omega (arith, n, c.ranges.i.fits)) in (
      (refl, refl, refl, c.load-value.ensures.reaches),
      λ was h.
          subst (λ (xs : List Load). IsNoted layout xs was ((s.count + 1) % 2 ^ 64) c.put_row.new.rows) (sym c.load-value.ensures.logged)
          (subst (λ (rows : List TdLoad). IsNoted layout (before ++ l ∷ []) was ((s.count + 1) % 2 ^ 64) rows) (sym c.put_row.ensures)
          (subst (λ (r : TdLoad). IsNoted layout (before ++ l ∷ []) was ((s.count + 1) % 2 ^ 64) (slice_set s.rows.now s.count r)) (sym is_row)
          (noted layout before was s.rows.now s.count l h few_before))),
    )
