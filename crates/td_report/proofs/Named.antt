-- Lines by the pieces of the names in them.
use Rattle.std.proofs.Common.{◌≡◌, ℕ, List, [], ◌∷◌, ◌++◌, Some, None, sym, ap, ◌∙◌, append_assoc, codes, decimal}
use Rattle.std.proofs.lemmas.List.{append-nil}
use Rattle.td_report.specs.Imports.{Module, NameId, Buffer, TraceFrame}
use Rattle.td_core.specs.Entries.{name_bytes}
use Rattle.td_report.specs.ErrorLine.{after_space}
use Rattle.td_report.specs.Report.{byte_digits, spot_word, frame_line, field_word, CellValue, cell_line, copy_value, copy_line}

three : (a b c r : List ℕ) → a ++ b ++ c ++ r ≡ a ++ (b ++ (c ++ r))
three a b c r = append_assoc (a ++ b) c r ∙ append_assoc a b (c ++ r)

frame_whole : (ty field start : List ℕ) → codes "frame " ++ ty ++ codes "." ++ field ++ codes " " ++ start ++ codes "\n" ≡ codes "frame " ++ (ty ++ 46 ∷ (field ++ 32 ∷ (start ++ codes "\n")))
frame_whole ty field start =
    append_assoc (codes "frame " ++ ty ++ codes "." ++ field ++ codes " ") start (codes "\n")
    ∙ append_assoc (codes "frame " ++ ty ++ codes "." ++ field) (codes " ") (start ++ codes "\n")
    ∙ append_assoc (codes "frame " ++ ty ++ codes ".") field (32 ∷ (start ++ codes "\n"))
    ∙ append_assoc (codes "frame " ++ ty) (codes ".") (field ++ 32 ∷ (start ++ codes "\n"))
    ∙ append_assoc (codes "frame ") ty (46 ∷ (field ++ 32 ∷ (start ++ codes "\n")))

pub frame_pieces : (m : Module) (frame : TraceFrame) (a b c x y z start : List ℕ) → name_bytes m frame.ty ≡ a ++ b ++ c → spot_word m frame.field ≡ x ++ y ++ z → start ≡ decimal frame.start
    → frame_line m frame ≡ codes "frame " ++ (a ++ (b ++ (c ++ 46 ∷ (x ++ (y ++ (z ++ 32 ∷ (start ++ codes "\n")))))))
unfolding frame_line
frame_pieces m frame a b c x y z start ty field digits =
    let rest : List ℕ = start ++ codes "\n" in
    (λ i. codes "frame " ++ ty i ++ codes "." ++ field i ++ codes " " ++ sym digits i ++ codes "\n")
    ∙ frame_whole (a ++ b ++ c) (x ++ y ++ z) start
    ∙ ap (λ l. codes "frame " ++ l) (three a b c (46 ∷ (x ++ y ++ z ++ 32 ∷ rest)) ∙ ap (λ l. a ++ (b ++ (c ++ 46 ∷ l))) (three x y z (32 ∷ rest)))

cell_whole : (name field value : List ℕ) → codes "out " ++ name ++ field ++ codes " " ++ value ++ codes "\n" ≡ codes "out " ++ (name ++ (field ++ 32 ∷ (value ++ codes "\n")))
cell_whole name field value =
    append_assoc (codes "out " ++ name ++ field ++ codes " ") value (codes "\n")
    ∙ append_assoc (codes "out " ++ name ++ field) (codes " ") (value ++ codes "\n")
    ∙ append_assoc (codes "out " ++ name) field (32 ∷ (value ++ codes "\n"))
    ∙ append_assoc (codes "out ") name (field ++ 32 ∷ (value ++ codes "\n"))

pub cell_pieces : (m : Module) (cell : CellValue) (a b c value : List ℕ) → cell.cell.field ≡ None → name_bytes m cell.cell.name ≡ a ++ b ++ c → value ≡ decimal cell.value
    → cell_line m cell ≡ codes "out " ++ (a ++ (b ++ (c ++ 32 ∷ (value ++ codes "\n"))))
unfolding cell_line
cell_pieces m cell a b c value none name digits =
    let word : field_word m cell.cell.field ≡ [] = ap (field_word m) none in
    (λ i. codes "out " ++ name i ++ word i ++ codes " " ++ sym digits i ++ codes "\n")
    ∙ cell_whole (a ++ b ++ c) [] value
    ∙ ap (λ l. codes "out " ++ l) (three a b c (32 ∷ (value ++ codes "\n")))

pub field_pieces : (m : Module) (cell : CellValue) (field : NameId) (a b c x y z value : List ℕ) → cell.cell.field ≡ Some field → name_bytes m cell.cell.name ≡ a ++ b ++ c → name_bytes m field ≡ x ++ y ++ z → value ≡ decimal cell.value
    → cell_line m cell ≡ codes "out " ++ (a ++ (b ++ (c ++ 46 ∷ (x ++ (y ++ (z ++ 32 ∷ (value ++ codes "\n")))))))
unfolding cell_line
field_pieces m cell field a b c x y z value some name of digits =
    let word : field_word m cell.cell.field ≡ 46 ∷ (x ++ y ++ z) = ap (field_word m) some ∙ ap (λ l. 46 ∷ l) of in
    let rest : List ℕ = value ++ codes "\n" in
    (λ i. codes "out " ++ name i ++ word i ++ codes " " ++ sym digits i ++ codes "\n")
    ∙ cell_whole (a ++ b ++ c) (46 ∷ (x ++ y ++ z)) value
    ∙ ap (λ l. codes "out " ++ l) (three a b c (46 ∷ (x ++ y ++ z ++ 32 ∷ rest)) ∙ ap (λ l. a ++ (b ++ (c ++ 46 ∷ l))) (three x y z (32 ∷ rest)))

pub copy_pieces : (m : Module) (buffer : Buffer) (bytes a b c : List ℕ) → name_bytes m buffer.name ≡ a ++ b ++ c
    → copy_line m (copy_value buffer bytes) ≡ (codes "copy " ++ (a ++ (b ++ (c ++ [])))) ++ (after_space (byte_digits bytes) ++ codes "\n")
unfolding copy_line
copy_pieces m buffer bytes a b c is =
    append_assoc (codes "copy " ++ name_bytes m buffer.name) (after_space (byte_digits bytes)) (codes "\n")
    ∙ ap (λ n. (codes "copy " ++ n) ++ (after_space (byte_digits bytes) ++ codes "\n")) (is ∙ (sym (append-nil (a ++ b ++ c)) ∙ three a b c []))
