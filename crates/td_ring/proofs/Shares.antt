-- What all passes and seats together posted, took and drew. Cited by other crates.
use Rattle.std.proofs.Common.{◌≡◌, suc, List, [], ◌∷◌, length, refl, sym, ap, ◌∙◌, subst}
use Rattle.std.specs.List.Sorted.{IsPermutation}
use Rattle.std.proofs.lemmas.List.Sorted.{length_permutation}
use Rattle.td_ring.specs.declared.roll.Part.{Part}
use Rattle.td_ring.specs.declared.roll.Head.{Head}
use Rattle.td_ring.specs.Roll.{Entry, all_entries, owned}
use Rattle.td_ring.specs.Heads.{AreInLog}
use Rattle.td_ring.proofs.RollLogs.{ended_is_all}
use Rattle.td_ring.specs.Tickets.{counted}
use Rattle.td_ring.specs.Laws.{AllGathered, TakesAreFirstPosts, DrawsAreCounted}

pub all_owned : {A : Type 0} (log : List (Entry A)) (h : Head A) (p : Part A) → AreInLog log h p → AllGathered h → IsPermutation (all_entries log) (owned (p ∷ h.ended))
all_owned log h p t whole = ended_is_all (p ∷ h.ended) log t.each t.apart (t.no_other whole)

pub takes_are : TakesAreFirstPosts
takes_are v items puts takes put take s a b c d whole whole' = (
  all_entries s.taken,
  subst (λ l. IsPermutation l (owned (put ∷ puts.ended))) s.queue (all_owned s.posted puts put (s.puts puts put a b) whole),
  all_owned s.taken takes take (s.takes takes take c d) whole',
)

as_many : {A : Type 0} (log : List (Entry A)) → length (all_entries log) ≡ length log
as_many [] = refl
as_many (e ∷ log) = ap suc (as_many log)

pub draws_are : DrawsAreCounted
draws_are v log h p t a b whole =
    let x = all_owned log h p (t.seats h p a b) whole in
    let n : length log ≡ length (owned (p ∷ h.ended)) = sym (length_permutation (all_entries log) (owned (p ∷ h.ended)) x ∙ as_many log) in
    subst (λ l. IsPermutation l (owned (p ∷ h.ended))) (t.numbers ∙ ap counted n) x
