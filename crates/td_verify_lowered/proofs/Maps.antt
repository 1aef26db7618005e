-- A cell map that gives a callee's cells back leads to cells and buffers of the caller. Cited by other crates.
use Rattle.std.proofs.Common.{◌≡◌, ℕ, zero, suc, ◌+◌, ◌-◌, ◌*◌, ◌<◌, ◌≤◌, min, List, [], ◌∷◌, ◌++◌, length, take, drop, slice_index, slice_get, Some, sym, ap, subst, ◌∙◌, arith, length-append}
use Rattle.std.proofs.lemmas.List.{length-take, length-drop, length-map, take_at, drop_at}
use Rattle.std.proofs.lemmas.Option.{slice_get_within}
use Rattle.td_num.specs.Lists.{Each}
use Rattle.td_core.specs.declared.module.Buffer.{Buffer}
use Rattle.td_verify_lowered.specs.Imports.{TypeDef, Parts}
use Rattle.td_core.specs.Copies.{AreBuffersGiven, AreOwnGiven}
use Rattle.td_ir.specs.Tables.{routine_of, map_of, buffer_cells, own_cells, cells_by}
use Rattle.td_ir.proofs.Buffers.{buffer_count}
use Rattle.td_lower_blocks.specs.Laid.{rooms}
use Rattle.td_verify.specs.Operands.{AreBelow, IsBufferOf, AreGiven, IsCellMap}

pub room_there : (bs : List Buffer) (n : ℕ) (b : Buffer) → slice_get bs n ≡ Some b → slice_index (rooms bs) n ≡ b.room
room_there [] n b h = absurd (cc)
room_there (x ∷ xs) zero b h = let same : x ≡ b = cc in ap (λ y. y.room) same
room_there (x ∷ xs) (suc n) b h = room_there xs n b h

-- the buffers that pairs of cells are
buffers_given : (C : ℕ) (own theirs : List Buffer) (bs : List ℕ) → AreBuffersGiven C own theirs (buffer_cells C bs) → AreGiven (rooms own) (rooms theirs) bs
buffers_given C own [] bs h j l = absurd (omega (arith, l))
buffers_given C own (e ∷ es) [] h j l = absurd h
buffers_given C own (e ∷ es) (b ∷ bs) h zero l =
    let at = h.0 in
    let is : b ≡ at.number = (let e = at.cell_is in omega (arith, e)) in
    let few = slice_get_within own at.number at.buffer at.there in
    let count = length-map own (λ b. b.room) in
    subst (λ k. IsBufferOf (rooms own) k e.room) (sym is) (omega (arith, few, count), room_there own at.number at.buffer at.there ∙ at.room_is)
buffers_given C own (e ∷ es) (b ∷ bs) h (suc j) l = buffers_given C own es bs h.1.1 j (omega (arith, l))

all_below : (n : ℕ) (ks : List ℕ) → Each (λ k. k < n) ks → AreBelow n ks
all_below n [] h j l = absurd (omega (arith, l))
all_below n (k ∷ ks) h zero l = h.0
all_below n (k ∷ ks) h (suc j) l = all_below n ks h.1 j (omega (arith, l))

-- how long a map is, by how many cells it stands for
map_length : (C K B : ℕ) (m : List ℕ) → length (own_cells C K m) ≡ K + 2 * B → length m ≡ K + B
map_length C K B m h =
    let a = length-append (take K m) (buffer_cells C (drop K m)) in
    let t = length-take K m in
    let d = length-drop K m in
    let b = buffer_count C (drop K m) in
    omega (arith, h, a, t, d, b)

pub is_map : (c : Parts) (n j site : ℕ) (d e : TypeDef) (own : List ℕ)
    → (routine_of c n).cells ≡ length d.cells → (routine_of c n).buffers ≡ rooms d.buffers → (routine_of c j).cells ≡ length e.cells → (routine_of c j).buffers ≡ rooms e.buffers
    → cells_by c n j site ≡ own → length own ≡ length e.cells + 2 * length e.buffers → AreOwnGiven d (Some e) own → site < length c.maps → IsCellMap c n j site
is_map c n j site d e own dc db ec eb is long given there =
    let m = map_of c site in
    let C = length d.cells in
    let K = length e.cells in
    let same : own_cells C K m ≡ own = (λ i. own_cells (sym dc i) (sym ec i) m) ∙ is in
    let size : length m ≡ K + length e.buffers = map_length C K (length e.buffers) m (ap length same ∙ long) in
    let front : length (take K m) ≡ K = (let t = length-take K m in omega (arith, t, size)) in
    let cells : take K own ≡ take K m = ap (take K) (sym same) ∙ take_at (take K m) (buffer_cells C (drop K m)) K front in
    let pairs : drop K own ≡ buffer_cells C (drop K m) = ap (drop K) (sym same) ∙ drop_at (take K m) (buffer_cells C (drop K m)) K front in
    let low : AreBelow C (take K m) = all_below C (take K m) (subst (Each (λ k. k < C)) cells given.0) in
    let buffers : AreGiven (rooms d.buffers) (rooms e.buffers) (drop K m) = buffers_given C d.buffers e.buffers (drop K m) (subst (AreBuffersGiven C d.buffers e.buffers) pairs given.1) in
    record {
      in_table = there;
      size = (let r = ap length eb in let z = length-map e.buffers (λ b. b.room) in omega (arith, size, ec, r, z));
      numbers = subst (λ k. AreBelow (routine_of c n).cells (take k m)) (sym ec) (subst (λ k. AreBelow k (take K m)) (sym dc) low);
      buffers =
          subst (λ k. AreGiven (routine_of c n).buffers (routine_of c j).buffers (drop k m)) (sym ec)
          (subst (λ xs. AreGiven (routine_of c n).buffers xs (drop K m)) (sym eb) (subst (λ xs. AreGiven xs (rooms e.buffers) (drop K m)) (sym db) buffers));
    }
