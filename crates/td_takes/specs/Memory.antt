-- The memory of the room that was taken for a reply: no list of it is let grow (own rule).
use Rattle.std.specs.Prelude.{◌≡◌, List, [], ◌∷◌, vec_capacity, IfSome}
use Rattle.td_stream.specs.Copies.{rooms_of}
use Rattle.td_posts.specs.declared.reply.Reply.{Reply}
use Rattle.td_takes.specs.declared.take.Take.{Take}
use Rattle.td_takes.specs.declared.take.TakeRoom.{TakeRoom}

-- the reply's lists have just the memory of this room's: for as many frames, cells and copy buffers, and these have the same rooms
pub record KeepsMemory (room r : Reply) : Type 0 where
  pub trace : vec_capacity r.trace ≡ vec_capacity room.trace
  pub cells : vec_capacity r.cells ≡ vec_capacity room.cells
  pub buffers : vec_capacity r.copies.buffers ≡ vec_capacity room.copies.buffers
  pub rooms : rooms_of r.copies.buffers.items ≡ rooms_of room.copies.buffers.items

-- so have the replies of a take, where it has them
pub record KeepsRoom (room : TakeRoom) (t : Take) : Type 0 where
  pub descr : IfSome t.descr (KeepsMemory room.descr)
  pub message : IfSome t.message (KeepsMemory room.message)

-- each of these takes has the next of these rooms
unfoldable pub KeepRooms : List TakeRoom → List Take → Type 0
KeepRooms rooms [] = Unit {0}
KeepRooms [] (t ∷ ts) = ⊥
KeepRooms (room ∷ rooms) (t ∷ ts) = KeepsRoom room t × KeepRooms rooms ts
