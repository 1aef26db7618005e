-- The cells of an entry point, with those of its buffers, are as many in code as in the module. Cited by other crates.
use Rattle.std.proofs.Common.{◌≡◌, ℕ, ◌*◌, ◌<◌, List, ◌++◌, length, replicate, refl, sym, ap, ◌∙◌, arith, slice_index, slice_get, Some}
use Rattle.std.proofs.lemmas.List.{length-map}
use Rattle.std.proofs.lemmas.Option.{slice_get-get_or}
use Rattle.td_num.proofs.Lists.{got}
use Rattle.td_lower_means.specs.Imports.{Module, Entry, Parts}
use Rattle.td_core.specs.Entries.{definition_at, entry_definition}
use Rattle.td_meaning.specs.Copies.{buffers_at, opened}
use Rattle.td_ir.specs.WellFormed.{IsCode}
use Rattle.td_ir.specs.Tables.{routine_of, entry_of}
use Rattle.td_ir.specs.Entries.{buffers_of, opened_by}
use Rattle.td_lower_blocks.specs.Laid.{IsLaid}

pub buffers_same : (c : Parts) (units : ℕ → ℕ) (m : Module) (entry : Entry) → IsCode c → IsLaid c units m → entry.number < length c.entries
    → buffers_of c entry ≡ buffers_at (entry_definition m entry.number)
buffers_same c units m entry code laid h =
    let n = entry.number in
    let place = slice_index m.entries n in
    let e : slice_get m.entries n ≡ Some place = slice_get-get_or m.entries n 0 (omega (arith, h, laid.entry_count)) in
    let routine : (entry_of c n).routine ≡ place = laid.entries n place e in
    let point = code.entries n h in
    let d = got m.definitions place (omega (arith, point.there, routine, laid.count)) in
    ap (λ z. length (routine_of c z).buffers) routine
    ∙ (ap length (laid.buffers place d.0 d.1) ∙ (length-map d.0.buffers (λ b. b.room)
    ∙ sym (ap buffers_at (ap (definition_at m) e ∙ d.1))))

pub opened_same : (c : Parts) (units : ℕ → ℕ) (m : Module) (entry : Entry) (cells : List ℕ) → IsCode c → IsLaid c units m → entry.number < length c.entries
    → opened_by c entry cells ≡ opened m entry cells
opened_same c units m entry cells code laid h = ap (λ k. cells ++ replicate (2 * k) 0) (buffers_same c units m entry code laid h)
