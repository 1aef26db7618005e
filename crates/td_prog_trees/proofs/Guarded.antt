-- Where no play loads a word behind so many, the guard is never met. Cited by other crates.
use Rattle.std.proofs.Common.{◌≡◌, ℕ, ◌^◌, ◌<◌, true, cond, List, [], ◌∷◌, refl, subst, arith}
use Rattle.std.specs.Prelude.{nat_lt}
use Rattle.std.proofs.lemmas.Bool.{lt-ltb}
use Rattle.std.proofs.lemmas.List.Elements.{All-head, All-tail}
use Rattle.td_num.specs.Lists.{Each}
use Rattle.td_stream.specs.declared.load.Load.{Load}
use Rattle.td_prog.specs.Tree.{Tree, Done, Loads, Plays}
use Rattle.td_prog.specs.Means.{Out, Undefined}
use Rattle.td_prog.specs.Run.{guarded}
use Rattle.td_prog_trees.specs.Laws.{StaysBelow, GuardIsNeverMet}

abbrev IsBelow : ℕ → Load → Type 0
IsBelow words l = l.word < words

abbrev AreSmall : List Load → Type 0
AreSmall loads = Each (λ (l : Load). l.value < 2 ^ 64) loads

-- each tree has a play
record Played (t : Tree Out) : Type 0 where
  loads : List Load
  last : Out
  plays : Plays t loads last
  small : AreSmall loads

zeros_play : (t : Tree Out) → Played t
zeros_play (Done x) = record { loads = []; last = x; plays = refl; small = tt }
zeros_play (Loads w k) =
    let r = zeros_play (k 0) in
    record { loads = record { word = w; value = 0 } ∷ r.loads; last = r.last; plays = (refl, r.plays); small = (omega arith, r.small) }

pub unguarded : GuardIsNeverMet
unguarded words (Done x) loads y below small p = p
unguarded words (Loads w k) loads y below small p =
    by (λ v ls b q r. unguarded words (k v) ls y b q r) loads small
    (subst (λ b. Plays (cond b (Loads w (λ v. guarded words (k v))) (Done Undefined)) loads y) here p)
  where
    first : w < words
    first =
        let r = zeros_play (k 0) in
        let l : Load = record { word = w; value = 0 } in
        All-head (IsBelow words) l r.loads (below (l ∷ r.loads) r.last (refl, r.plays) (omega arith, r.small))

    here : nat_lt w words ≡ true
    here = lt-ltb w words first

    by : ((v : ℕ) (ls : List Load) → StaysBelow words (k v) → AreSmall ls → Plays (guarded words (k v)) ls y → Plays (k v) ls y) → (loads : List Load)
        → AreSmall loads → Plays (Loads w (λ v. guarded words (k v))) loads y → Plays (Loads w k) loads y
    by rec [] small p = p
    by rec (l ∷ ls) small p =
        let m : Load = record { word = w; value = l.value } in
        (p.0, rec l.value ls (λ ms z q s. All-tail (IsBelow words) m ms (below (m ∷ ms) z (refl, q) (small.0, s))) small.1 p.1)
