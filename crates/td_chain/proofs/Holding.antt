-- A memory that holds loads of words that are apart, and the worked table.
use Rattle.std.proofs.Common.{◌≡◌, ℕ, cond, nat_eq, List, [], ◌∷◌, get_or, ap, sym, refl, ◌∙◌}
use Rattle.std.specs.List.{All}
use Rattle.std.proofs.lemmas.Bool.{eq-eqb, ne_eqb}
use Rattle.std.proofs.lemmas.List.Elements.{All-nil, All-cons}
use Rattle.td_stream.specs.declared.load.Load.{Load}
use Rattle.td_chain.specs.Loaded.{Holds, AreApart}
use Rattle.td_chain.specs.Laws.{SomeMemoryHolds, IsWorkedChain}

abbrev memory_of : List Load → ℕ → ℕ
memory_of [] i = 0
memory_of (l ∷ loads) i = cond (nat_eq l.word i) l.value (memory_of loads i)

held : (loads : List Load) → AreApart loads → Holds (memory_of loads) loads
held [] a = All-nil (λ (x : Load). memory_of [] x.word ≡ x.value)
held (l ∷ loads) a =
    All-cons (λ (x : Load). memory_of (l ∷ loads) x.word ≡ x.value) l loads
    (ap (λ b. cond b l.value (memory_of loads l.word)) (eq-eqb l.word l.word refl))
    (λ k d lt.
    let x = get_or loads k d in
    ap (λ b. cond b l.value (memory_of loads x.word)) (ne_eqb l.word x.word (λ e. a.0 k d lt (sym e))) ∙ held loads a.1 k d lt)

pub some_holds : SomeMemoryHolds
some_holds loads a = (memory_of loads, held loads a)

pub worked : IsWorkedChain
worked = record {
  two = refl;
  order = refl;
  loop = refl;
  past = refl;
  last = refl;
  head = refl;
  next = refl;
  table = refl;
  part = refl;
  none = refl;
  and_next = refl;
  nested = refl;
}
