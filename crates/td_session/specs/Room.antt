-- The room of a session that has validated nothing yet (own rule).
use Rattle.std.specs.Prelude.{◌≡◌, [], map}
use Rattle.td_ir.specs.declared.tables.Parts.{Parts}
use Rattle.td_stream.specs.Copies.{empty_with}
use Rattle.td_vm.specs.Frames.{FrameView}
use Rattle.td_vm.specs.Need.{most_rooms}

-- no cells, no frames of a failure, and nothing in the copy buffers
pub record IsFresh (c : Parts) (frame : FrameView) : Type 0 where
  pub cells : frame.cells ≡ []
  pub trace : frame.trace ≡ []
  pub copies : frame.copies ≡ map empty_with (most_rooms c)
