use Rattle.std.proofs.Common.{◌≡◌, ℕ, List, ◌++◌, sym, subst}
use Rattle.std.specs.Int.{w32, to_le_bytes}
use Rattle.td_image.specs.Rows as rows
use Rattle.td_image.proofs.Chain.{chain6}
use Rattle.td_image.proofs.Flat.{routine_flat}
use Rattle.td_image.proofs.writing.put_routine.Goals as goal

pub returns : goal.returns
returns c =
    let r = c.args.routine.now in
    subst (λ (l : List ℕ). c.put_rooms.new.out.items ≡ c.args.out.now.items ++ l) (sym (routine_flat r))
    (chain6 c.args.out.now.items (to_le_bytes w32 r.name.number) (to_le_bytes w32 r.params) (to_le_bytes w32 r.cells) (to_le_bytes w32 r.registers) (to_le_bytes w32 r.length) (rows.rooms r.buffers)
    c.in_ok-put_u32.ensures c.in_ok-put_u32-2.ensures c.in_ok-put_u32-3.ensures c.in_ok-put_u32-4.ensures c.in_ok-put_u32-5.ensures
    (subst (λ (xs : List ℕ). c.put_rooms.new.out.items ≡ c.put_u32-5.new.out.items ++ rows.rooms xs) c.as_slice.ensures c.in_ok-put_rooms.ensures))
