use Rattle.std.proofs.Common.{rules, ◌≡◌, ℕ, List, [], ◌++◌, length, take, drop, sym, ap, ◌∙◌, subst, arith, Some, None}
use Rattle.std.proofs.lemmas.Option.{gets}
use Rattle.std.proofs.lemmas.Grind.{common_steps}
use Rattle.std.specs.Prelude.{slice_get}
use Rattle.td_num.specs.Numbers.{places_from}
use Rattle.std.proofs.Math.Seq.{take-append_seam}
use Rattle.td_write.specs.Imports.{Impossible, Accept, Broken}
use Rattle.td_core.specs.Outcome.{copies_by}
use Rattle.td_meaning.specs.Copies.{opened}
use Rattle.td_write_values.specs.Writing.{Claim, Written, Done, Refused, after_writing, settled, writers_below, writing, in_machine, whole}
use Rattle.td_write.specs.Answers.{IsRefusal}
use Rattle.td_write.specs.Writes.{Halts, claims_of}
use Rattle.td_write.proofs.Totals.{settled_total, settled_stops, settled_halts, whole_done}
use Rattle.td_write.proofs.Whole.{writing_at, no_entry, same_writing, appended, unless}
use Rattle.td_write.proofs.write.write_value.Goals as goal

pub returns-in_default-clause-cause : goal.returns-in_default-clause-cause
returns-in_default-clause-cause c =
    let a = c.args in
    let missing : slice_get a.m.now.entries a.entry.number ≡ None = grind (arith, common_steps, gets) in
    let path : c.new-path.result.items ≡ [] = search rules in
    let w : Refused (Broken Impossible) c.new-path.result.items ≡ writing whole a.m.now a.entry a.args.now (opened a.m.now a.entry a.cells.now) a.value.now =
    ap (Refused (Broken Impossible)) path ∙ sym (no_entry a.m.now a.entry a.args.now (opened a.m.now a.entry a.cells.now) a.value.now whole missing) in
    subst (λ w. IsRefusal w c.broken.result) w c.broken.ensures.rule

pub returns-in_default-clause-none : goal.returns-in_default-clause-none
returns-in_default-clause-none c =
    let a = c.args in
    unless a.m.now a.entry a.args.now a.cells.now a.value.now c.writing_is_exact.ensures c.kinds_are_admitted.ensures c.requires.writable c.broken.result (returns-in_default-clause-cause c)

pub returns-in_ok-extend_from_slice-in-Ok-settle-clause-ok : goal.returns-in_ok-extend_from_slice-in-Ok-settle-clause-ok
returns-in_ok-extend_from_slice-in-Ok-settle-clause-ok c =
    let a = c.args in
    let m = a.m.now in
    let all : List ℕ = opened m a.entry a.cells.now in
    let there : slice_get m.entries a.entry.number ≡ Some c.in-Some.place.now = grind (arith, common_steps, gets) in
    let size : c.len.result ≡ length all = c.len.ensures ∙ c.in_ok-left.left.ok.0 ∙ ap length c.in_ok-left.ensures.ok in
    let places : c.as_slice-2.result.now ≡ places_from 0 (length all) = c.as_slice-2.ensures.value ∙ c.in_ok-places.ensures.ok ∙ ap (places_from 0) size in
    let bound : c.len-2.result ≡ length m.definitions = search rules in
    let path : c.new-path.result.items ≡ [] = search rules in
    let none : c.new-written.result.items ≡ [] = search rules in
    let unsaid : c.new-claims.result.items ≡ [] = search rules in
    let left : c.as_mut_slice.result.now ≡ all = c.as_mut_slice.ensures.value ∙ c.in_ok-left.ensures.ok in
    let w : Written = writers_below in_machine m.listed m.definitions (length m.definitions) c.in-Some.place.now a.args.now (places_from 0 (length all)) all [] 0 a.value.now in
    let here : writing in_machine m a.entry a.args.now all a.value.now ≡ settled 0 w = writing_at m a.entry a.args.now all a.value.now in_machine c.in-Some.place.now there in
    let by_place : w ≡ writers_below in_machine m.listed m.definitions c.len-2.result c.in-Some.place.now a.args.now c.as_slice-2.result.now c.as_mut_slice.result.now c.new-path.result.items (length c.new-written.result.items) a.value.now =
    (λ j. writers_below in_machine m.listed m.definitions (sym bound j) c.in-Some.place.now a.args.now (sym places j) (sym left j) (sym path j) (length (sym none j)) a.value.now) in
    let same = same_writing m a.entry a.args.now a.cells.now a.value.now c.writing_is_in_range.ensures c.requires.writable c.requires.args c.requires.cells in
    let bytes : List ℕ = c.named.new.draft.out.items in
    let last : List ℕ = c.named.new.cells in
    let claims : List Claim = claims_of c.named.new.draft.claims.items in
    let total : after_writing [] [] w ≡ Done bytes last claims = (λ k. after_writing (sym none k) (claims_of (sym unsaid k)) (by_place k)) ∙ c.in-Ok.ensures.ok.total in
    let n = length a.cells.now in
    let written : writing in_machine m a.entry a.args.now all a.value.now ≡ Done bytes last [] = here ∙ whole_done (settled 0 w) bytes last [] (settled_total [] bytes last [] claims w total c.in-Ok-settle.ensures.ok) in
    let more : c.extend_from_slice.new.self.items ≡ a.out.now.items ++ c.settle.new.draft.out.items = search rules in
    let grown : c.extend_from_slice.new.self.items ≡ a.out.now.items ++ bytes = more ∙ ap (λ x. a.out.now.items ++ x) c.settle.ensures.out in
    let text : c.as_slice-in-Ok-settle.result.now ≡ bytes = c.as_slice-in-Ok-settle.ensures.value ∙ c.settle.ensures.out in
    let behind : List ℕ = drop (length last) c.in_ok-left.left.items in
    let count : c.in_ok-left.left.len ≡ length last = omega (arith, c.named.auto.cells, c.as_mut_slice.ensures.len) in
    let back : take c.in_ok-left.left.len (last ++ behind) ≡ last = ap (λ k. take k (last ++ behind)) count ∙ take-append_seam last behind in
    appended m a.entry a.args.now a.cells.now a.value.now c.writing_is_exact.ensures c.kinds_are_admitted.ensures c.requires.writable bytes last a.out.now.items c.extend_from_slice.new.self.items c.in_ok-answer-in-Ok-settle.answer (sym same ∙ written) grown
    (c.in_ok-answer-in-Ok-settle.ensures ∙ (λ k. record { verdict = Accept (length (text k)); trace = []; cells = take n (back k); copies = copies_by (text k) (drop n (back k)) }))

pub returns-in-Err-clause-cause : goal.returns-in-Err-clause-cause
returns-in-Err-clause-cause c =
    let a = c.args in
    let m = a.m.now in
    let all : List ℕ = opened m a.entry a.cells.now in
    let there : slice_get m.entries a.entry.number ≡ Some c.in-Some.place.now = grind (arith, common_steps, gets) in
    let size : c.len.result ≡ length all = c.len.ensures ∙ c.in_ok-left.left.ok.0 ∙ ap length c.in_ok-left.ensures.ok in
    let places : c.as_slice-2.result.now ≡ places_from 0 (length all) = c.as_slice-2.ensures.value ∙ c.in_ok-places.ensures.ok ∙ ap (places_from 0) size in
    let bound : c.len-2.result ≡ length m.definitions = search rules in
    let path : c.new-path.result.items ≡ [] = search rules in
    let none : c.new-written.result.items ≡ [] = search rules in
    let unsaid : c.new-claims.result.items ≡ [] = search rules in
    let left : c.as_mut_slice.result.now ≡ all = c.as_mut_slice.ensures.value ∙ c.in_ok-left.ensures.ok in
    let w : Written = writers_below in_machine m.listed m.definitions (length m.definitions) c.in-Some.place.now a.args.now (places_from 0 (length all)) all [] 0 a.value.now in
    let here : writing in_machine m a.entry a.args.now all a.value.now ≡ settled 0 w = writing_at m a.entry a.args.now all a.value.now in_machine c.in-Some.place.now there in
    let by_place : w ≡ writers_below in_machine m.listed m.definitions c.len-2.result c.in-Some.place.now a.args.now c.as_slice-2.result.now c.as_mut_slice.result.now c.new-path.result.items (length c.new-written.result.items) a.value.now =
    (λ j. writers_below in_machine m.listed m.definitions (sym bound j) c.in-Some.place.now a.args.now (sym places j) (sym left j) (sym path j) (length (sym none j)) a.value.now) in
    let same = same_writing m a.entry a.args.now a.cells.now a.value.now c.writing_is_in_range.ensures c.requires.writable c.requires.args c.requires.cells in
    let halted : Halts c.in-Err.halt c.named.new.draft.path.items w = subst (Halts c.in-Err.halt c.named.new.draft.path.items) (sym by_place) c.in-Err.ensures.err in
    c.stopped.ensures.cause (writing whole m a.entry a.args.now all a.value.now)
    (subst (Halts c.in-Err.halt c.named.new.draft.path.items) (sym here ∙ same) (settled_halts c.in-Err.halt c.named.new.draft.path.items 0 w halted))

pub returns-in-Err-clause-none : goal.returns-in-Err-clause-none
returns-in-Err-clause-none c =
    let a = c.args in
    unless a.m.now a.entry a.args.now a.cells.now a.value.now c.writing_is_exact.ensures c.kinds_are_admitted.ensures c.requires.writable c.stopped.result (returns-in-Err-clause-cause c)

pub returns-in-Err-settle-clause-cause : goal.returns-in-Err-settle-clause-cause
returns-in-Err-settle-clause-cause c =
    let a = c.args in
    let m = a.m.now in
    let all : List ℕ = opened m a.entry a.cells.now in
    let there : slice_get m.entries a.entry.number ≡ Some c.in-Some.place.now = grind (arith, common_steps, gets) in
    let size : c.len.result ≡ length all = c.len.ensures ∙ c.in_ok-left.left.ok.0 ∙ ap length c.in_ok-left.ensures.ok in
    let places : c.as_slice-2.result.now ≡ places_from 0 (length all) = c.as_slice-2.ensures.value ∙ c.in_ok-places.ensures.ok ∙ ap (places_from 0) size in
    let bound : c.len-2.result ≡ length m.definitions = search rules in
    let path : c.new-path.result.items ≡ [] = search rules in
    let none : c.new-written.result.items ≡ [] = search rules in
    let unsaid : c.new-claims.result.items ≡ [] = search rules in
    let left : c.as_mut_slice.result.now ≡ all = c.as_mut_slice.ensures.value ∙ c.in_ok-left.ensures.ok in
    let w : Written = writers_below in_machine m.listed m.definitions (length m.definitions) c.in-Some.place.now a.args.now (places_from 0 (length all)) all [] 0 a.value.now in
    let here : writing in_machine m a.entry a.args.now all a.value.now ≡ settled 0 w = writing_at m a.entry a.args.now all a.value.now in_machine c.in-Some.place.now there in
    let by_place : w ≡ writers_below in_machine m.listed m.definitions c.len-2.result c.in-Some.place.now a.args.now c.as_slice-2.result.now c.as_mut_slice.result.now c.new-path.result.items (length c.new-written.result.items) a.value.now =
    (λ j. writers_below in_machine m.listed m.definitions (sym bound j) c.in-Some.place.now a.args.now (sym places j) (sym left j) (sym path j) (length (sym none j)) a.value.now) in
    let same = same_writing m a.entry a.args.now a.cells.now a.value.now c.writing_is_in_range.ensures c.requires.writable c.requires.args c.requires.cells in
    let bytes : List ℕ = c.named.new.draft.out.items in
    let last : List ℕ = c.named.new.cells in
    let claims : List Claim = claims_of c.named.new.draft.claims.items in
    let total : after_writing [] [] w ≡ Done bytes last claims = (λ k. after_writing (sym none k) (claims_of (sym unsaid k)) (by_place k)) ∙ c.in-Ok.ensures.ok.total in
    let at : List ℕ = c.settle.new.draft.path.items in
    c.stopped-in-Err-settle.ensures.cause (writing whole m a.entry a.args.now all a.value.now)
    (subst (Halts c.in-Err-settle.halt at) (sym here ∙ same) (settled_stops c.in-Err-settle.halt at [] bytes last [] claims w total c.in-Err-settle.ensures.err))

pub returns-in-Err-settle-clause-none : goal.returns-in-Err-settle-clause-none
returns-in-Err-settle-clause-none c =
    let a = c.args in
    unless a.m.now a.entry a.args.now a.cells.now a.value.now c.writing_is_exact.ensures c.kinds_are_admitted.ensures c.requires.writable c.stopped-in-Err-settle.result (returns-in-Err-settle-clause-cause c)
