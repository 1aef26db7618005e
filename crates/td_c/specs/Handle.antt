-- What C holds (own rule; `td_session` of capi/td.h).
use Rattle.std.specs.Prelude.{ℕ, [], ◌∷◌, Bool, true, false}
use mir.Val.{vptr}
use base.Fml.{Fml, ftrue, ffalse, feq, fsep, fex}
use base.Stored.{Coded}
use denote.RattleType.{RattleType}
use denote.RawPtr.{Ptr, block_ptr, null_ptr}
use denote.Ref.{MutBor}
use denote.Signature.{Slot, type_at, plain}
use denote.Builtin.{RefMutOf}
use Rattle.td_c.specs.contracts.handle.Slot.{the_row as slot}
use Rattle.td_c.specs.declared.handle.Slot.{Slot as Kept}

-- a `&'static mut Slot`
abbrev pub slot_place : Slot 0
slot_place = RefMutOf [] tt (plain (λ _. slot)) (λ _. tt)

abbrev pub slot_ref : RattleType
slot_ref = type_at slot_place tt

-- what one to that place owns
abbrev pub slot_at : ℕ → ℕ → MutBor Kept → Fml
slot_at b o r = slot_ref.own_val r (vptr b o ∷ [])

-- how a slot's value is stored
abbrev pub slot_coded : Coded Kept
slot_coded = slot.coded

-- one that is v now
abbrev pub slot_is : ℕ → ℕ → Kept → MutBor Kept → Fml
slot_is b o v r = fsep (feq Kept r.now v) (slot_at b o r)

-- the slot of a session, whose value is v, or nothing
abbrev pub handle_owns : Ptr → Bool → Kept → Fml
handle_owns p false v = ftrue
handle_owns (block_ptr b o) true v = fex (MutBor Kept) (slot_is b o v)
handle_owns null_ptr true v = ffalse
