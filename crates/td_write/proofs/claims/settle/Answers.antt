use Rattle.std.proofs.Common.{◌≡◌, ◌-◌, ℕ, List, length, take, drop, sym, ap, ◌∙◌}
use Rattle.td_write.specs.Imports.{Size}
use Rattle.td_write_values.specs.Writing.{Refused, agreed}
use Rattle.td_write.specs.declared.walk.Claim.{Claim as Noted}
use Rattle.td_write.specs.Writes.{claims_of}
use Rattle.td_write.proofs.Settled.{left_of, claims_left}
use Rattle.td_write.proofs.claims.settle.Goals as goal

pub returns-in-Some-clause-err : goal.returns-in-Some-clause-err
returns-in-Some-clause-err c = λ next.
    let a = c.args in
    let xs : List Noted = c.as_slice.result.now in
    let left : List Noted = take (length xs - a.first) (drop a.first xs) in
    let own : left ≡ drop a.first a.draft.now.claims.items = left_of a.first xs a.draft.now.claims.items c.as_slice.ensures.value in
    let end : length a.draft.now.out.items ≡ c.len-end.result = sym (c.len-end.ensures ∙ a.draft.now.out.ok.0) in
    let said : drop a.first (claims_of a.draft.now.claims.items) ≡ claims_of left = sym (ap claims_of own ∙ claims_left a.first a.draft.now.claims.items) in
    (λ k. agreed (end k) (said k) next) ∙ c.in-Some.ensures next ∙ ap (Refused Size) (sym c.in_ok-draft-in-Some.ensures.items)

pub returns-clause-ok : goal.returns-clause-ok
returns-clause-ok c = λ next.
    let a = c.args in
    let xs : List Noted = c.as_slice.result.now in
    let left : List Noted = take (length xs - a.first) (drop a.first xs) in
    let own : left ≡ drop a.first a.draft.now.claims.items = left_of a.first xs a.draft.now.claims.items c.as_slice.ensures.value in
    let end : length a.draft.now.out.items ≡ c.len-end.result = sym (c.len-end.ensures ∙ a.draft.now.out.ok.0) in
    let said : drop a.first (claims_of a.draft.now.claims.items) ≡ claims_of left = sym (ap claims_of own ∙ claims_left a.first a.draft.now.claims.items) in
    (λ k. agreed (end k) (said k) next) ∙ c.in-None.ensures next
