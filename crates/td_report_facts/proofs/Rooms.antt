-- What a checked module copies fits the rooms of its copy buffers.
use Rattle.std.proofs.Common.{◌≡◌, ℕ, ◌<◌, ◌^◌, List, [], ◌∷◌, length, map, Some, sym, subst, arith}
use Rattle.td_num.proofs.Lists.{got, each_at}
use Rattle.td_report_facts.specs.Imports.{Buffer, TypeDef}
use Rattle.td_core.specs.Entries.{entry_definition}
use Rattle.td_core.specs.Formed.{AllFit, params_at, cells_at}
use Rattle.td_core.proofs.Found.{entry_found as entry_of}
use Rattle.td_meaning.specs.Copies.{outcome, IsOpened}
use Rattle.td_meaning.specs.Endings.{FitRooms, CopiesAreWithin}
use Rattle.td_arith.specs.Laws.{EvaluatedIsSound}
use Rattle.td_posts.specs.Posts.{HaveRoom}
use Rattle.td_job_host.specs.HostJobs.{rooms_in}
use Rattle.td_report_facts.specs.Laws.{CopiesHaveRoom}
use Rattle.td_report_facts.proofs.Reportable.{given_cells}

by_rooms : (bs : List Buffer) (held : List (List ℕ)) → FitRooms bs held → HaveRoom (map (λ (b : Buffer). b.room) bs) held
by_rooms [] [] h = tt
by_rooms [] (x ∷ held) h = absurd h
by_rooms (b ∷ bs) [] h = absurd h
by_rooms (b ∷ bs) (x ∷ held) h = (h.0, by_rooms bs held h.1)

pub copies_have_room : EvaluatedIsSound → CopiesAreWithin → CopiesHaveRoom
copies_have_room sound within m entry args cells message c inside fit_args fit_cells bytes small =
    let place = got m.entries entry.number inside in
    let there : place.0 < length m.definitions = each_at (λ p. p < length m.definitions) m.entries entry.number place.0 c.whole.entries place.1 in
    let found = got m.definitions place.0 there in
    let d : TypeDef = found.0 in
    let is : entry_definition m entry.number ≡ Some d = entry_of m entry.number place.0 d place.1 found.1 in
    let own_args : AllFit (params_at (Some d)) args = subst (λ x. AllFit (params_at x) args) is fit_args in
    let own_cells : AllFit (cells_at (Some d)) cells = subst (λ x. AllFit (cells_at x) cells) is fit_cells in
    let given = given_cells d.cells cells own_cells in
    let all = sound m entry place.0 d args cells message c.formed c.copying c.safe place.1 found.1 own_args own_cells bytes small in
    let begins : IsOpened m entry cells = record { formed = c.formed; copying = c.copying; place = place.0; definition = d; there = place.1; is = found.1; count = given.0 } in
    let fit : FitRooms d.buffers (outcome m entry args cells message).copies = within m entry args cells message begins all (omega (arith, small)) given.1 in
    subst (λ x. HaveRoom (rooms_in x) (outcome m entry args cells message).copies) (sym is) (by_rooms d.buffers (outcome m entry args cells message).copies fit)
