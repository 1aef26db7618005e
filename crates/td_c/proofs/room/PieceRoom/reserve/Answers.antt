use Rattle.std.proofs.Common.{◌≡◌, ◌+◌, List, [], ◌∷◌, ◌++◌, length, refl, ap, ◌∙◌, arith}
use Rattle.td_stream.specs.declared.stretch.Stretch.{Stretch}
use Rattle.td_stream.specs.Layouts.{length_in}
use Rattle.td_c.proofs.room.PieceRoom.reserve.Goals as goal

-- one stretch more, which has no bytes
more : (list : List Stretch) (s : Stretch) → length (list ++ s ∷ []) ≡ length list + 1
more [] s = refl
more (t ∷ list) s = let r = more list s in omega (arith, r)

no_bytes : (list : List Stretch) (s : Stretch) → s.size ≡ 0 → length_in (list ++ s ∷ []) ≡ length_in list
no_bytes [] s h = omega (arith, h)
no_bytes (t ∷ list) s h = let r = no_bytes list s h in omega (arith, r)

pub loop-at-init : goal.loop-at-init
loop-at-init c = record {
  count = ap length c.take_list-list.ensures;
  bytes = ap length_in c.take_list-list.ensures;
}

pub loop-at-preserved : goal.loop-at-preserved
loop-at-preserved c =
    let s : Stretch = record { place = 0; size = 0 } in
    let list : List Stretch = c.loop-at.list in
    let longer : c.push.new.self ≡ list ++ s ∷ [] = c.in_ok-push.ensures.ok in
    record {
      count = ap length longer ∙ more list s ∙ ap (λ n. n + 1) c.loop-at.invariant.count;
      bytes = ap length_in longer ∙ no_bytes list s refl ∙ c.loop-at.invariant.bytes;
    }

pub lay-requires-clause-few : goal.lay-requires-clause-few
lay-requires-clause-few c = omega (arith, c.loop-at.invariant.count, c.loop-at.auto._at-end, c.requires)

pub lay-requires-clause-short : goal.lay-requires-clause-short
lay-requires-clause-short c = omega (arith, c.loop-at.invariant.bytes)
