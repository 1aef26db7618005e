use Rattle.std.proofs.Common.{◌≡◌, ℕ, List, sym, ap, ◌∙◌, subst, length, arith}
use Rattle.td_descr.specs.Imports.{Load, Stretch, Outcome, Verdict, Parts}
use Rattle.td_stream.specs.Layouts.{plain}
use Rattle.td_ir.specs.Entries.{buffers_of}
use Rattle.td_lower_means.proofs.Opening.{buffers_same}
use Rattle.td_vm.specs.Frames.{FrameView, outcome_in}
use Rattle.td_vm.proofs.Alone.{no_copies}
use Rattle.td_run.specs.Validation.{IsValidation}
use Rattle.td_descr.specs.Ring.{desc_entry, desc_args, desc_cells, desc_bytes, IsRingCode, IsValidated, frame_outcome}
use Rattle.td_descr.proofs.Accepting.{validated_by, accepted_within}
use Rattle.td_descr.proofs.descr.validate_desc.Goals as goal

pub set_cells-requires : goal.set_cells-requires
set_cells-requires g c =
    let few = c.fitting_cells_have_room.ensures c.args.ring.now desc_entry (desc_args c.args.room c.args.most) desc_cells c.requires.code.fits in
    let room = c.requires.armed.cell_room in
    omega (arith, few, room)

-- a code without copy buffers copies nothing
bare : (c : Parts) (room most : ℕ) (frame : FrameView) (verdict : Verdict) → IsRingCode c room most → outcome_in frame (buffers_of c desc_entry) verdict ≡ frame_outcome frame verdict
bare c room most frame verdict code =
    no_copies frame (buffers_of c desc_entry) verdict (buffers_same c code.code.units code.format desc_entry code.code.code code.code.laid code.fits.there ∙ code.ring.bare)

-- what the validation of a descriptor's words by this code says
validated : (c : Parts) (room most : ℕ) (cells : List ℕ) (layout : List Stretch) (loads : List Load) (frame : FrameView) (verdict : Verdict) → IsRingCode c room most
    → layout ≡ plain desc_bytes → cells ≡ desc_cells → length frame.cells ≡ length cells
    → IsValidation c desc_entry (desc_args room most) cells layout loads (outcome_in frame (buffers_of c desc_entry) verdict) → IsValidated c room most loads (frame_outcome frame verdict)
validated c room most cells layout loads frame verdict code lies zeros as_many v =
    validated_by c room most loads (frame_outcome frame verdict) layout cells lies zeros (as_many ∙ ap length zeros)
    (subst (λ (o : Outcome). IsValidation c desc_entry (desc_args room most) cells layout loads o) (bare c room most frame verdict code) v)

pub returns-clause-validated : goal.returns-clause-validated
returns-clause-validated g c =
    let v = c.validate_compiled-verdict in
    subst (λ (loads : List Load). IsValidated c.args.ring.now c.args.room c.args.most loads (frame_outcome v.new.frame v.result)) (sym c.end.ensures.loads)
    (validated c.args.ring.now c.args.room c.args.most c.set_cells.new.self.cells c.plain-layout.result v.new.words.loads v.new.frame v.result c.requires.code c.plain-layout.ensures.layout c.set_cells.ensures.cells v.ensures.cell_count v.ensures.validated)

pub returns-clause-within : goal.returns-clause-within
returns-clause-within g c =
    let v = c.validate_compiled-verdict in
    accepted_within c.args.ring.now c.args.room c.args.most v.new.words.loads (frame_outcome v.new.frame v.result) c.some_message_carries.ensures c.requires.code
    (validated c.args.ring.now c.args.room c.args.most c.set_cells.new.self.cells c.plain-layout.result v.new.words.loads v.new.frame v.result c.requires.code c.plain-layout.ensures.layout c.set_cells.ensures.cells v.ensures.cell_count v.ensures.validated)
