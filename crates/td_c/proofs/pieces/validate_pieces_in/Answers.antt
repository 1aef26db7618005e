use Rattle.std.proofs.Common.{rules, ◌≡◌, List, [], inr, pos, Option, None, IsSome, refl, sym, subst}
use Rattle.std.proofs.lemmas.Bool.{false≢true}
use Rattle.td_foreign.specs.declared.noted.TdLoad.{TdLoad}
use Rattle.td_foreign.specs.declared.pieces.TdPiece.{TdPiece}
use Rattle.td_foreign.specs.Pieces.{AreFresh, AreWhole, HasLoads, layout_of}
use Rattle.td_foreign.proofs.PieceLoads.{fresh_loaded}
use Rattle.td_session.specs.declared.session.Session.{Session}
use Rattle.td_c.specs.declared.handle.Slot.{Slot}
use Rattle.td_c.specs.declared.call.TdCall.{TdCall}
use Rattle.td_c.specs.Kept.{IsAnsweredInPieces, answered_by}
use Rattle.td_c.specs.Parts.{IsMessage}
use Rattle.td_c.proofs.pieces.validate_pieces_in.Goals as goal

-- a slot without a session answers 3, and all is as before
closed : (slot : Slot) (call : TdCall) (pieces : List TdPiece) (rows : List TdLoad) → slot.session ≡ None → AreFresh pieces
    → IsAnsweredInPieces slot slot call call pieces pieces rows rows (pos 3)
closed slot call pieces rows none fresh =
    let loads : HasLoads pieces pieces [] = record { shapes = refl; made = fresh_loaded pieces fresh } in
    inr (
      subst (λ (o : Option Session). IsSome o → IsMessage 1024 (layout_of pieces)) (sym none) (λ some. absurd (false≢true some)),
      subst (λ (o : Option Session). answered_by o o slot slot call call (layout_of pieces) (AreWhole pieces) (λ told. HasLoads pieces pieces told) rows rows (pos 3))
          (sym none) (refl, refl, record { call_stays = refl; unloaded = loads; rows_stay = refl }),
    )

pub returns-then-is_none : goal.returns-then-is_none
returns-then-is_none c =
    record { answered = closed c.args.slot.now c.args.call.now c.args.pieces.now c.args.rows.now (search rules) c.requires.fresh }
