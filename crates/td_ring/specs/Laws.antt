-- What is known once all passes or seats that were made were gathered.
use Rattle.std.specs.Prelude.{◌≡◌, ℕ, ◌+◌, List, ◌∷◌, ◌++◌, length, Some}
use Rattle.std.specs.List.Sorted.{IsPermutation}
use Rattle.td_ring.specs.declared.roll.Part.{Part}
use Rattle.td_ring.specs.declared.roll.Head.{Head}
use Rattle.td_ring.specs.Roll.{Entry, owned}
use Rattle.td_ring.specs.declared.post.Post.{Post}
use Rattle.td_ring.specs.declared.view.RingView.{RingView}
use Rattle.td_ring.specs.declared.view.TicketView.{TicketView}
use Rattle.td_ring.specs.Ring.{Settled}
use Rattle.td_ring.specs.Tickets.{counted, Drawn}

-- all that were made were gathered, but for the head's own
abbrev pub AllGathered : {A : Type 0} → Head A → Type 0
AllGathered h = length h.ended + 1 ≡ h.made

-- there is one list of posts, of which the first so many were taken: the posts of all passes are those of the list, the takes
-- of all passes are those taken, each once
abbrev pub TakesAreFirstPosts : Type 0
TakesAreFirstPosts =
    (v : RingView) (items : List Post) (puts takes : Head Post) (put take : Part Post) → Settled v items →
    v.put_head ≡ Some puts → v.put ≡ Some put → v.take_head ≡ Some takes → v.take ≡ Some take → AllGathered puts → AllGathered takes →
    (taken : List Post) × IsPermutation (taken ++ items) (owned (put ∷ puts.ended)) × IsPermutation taken (owned (take ∷ takes.ended))

-- where all seats together drew n times, the draws are k modulo 2^64 for the k below n, one for each k
abbrev pub DrawsAreCounted : Type 0
DrawsAreCounted =
    (v : TicketView) (log : List (Entry ℕ)) (h : Head ℕ) (p : Part ℕ) → Drawn v log → v.head ≡ Some h → v.draws ≡ Some p → AllGathered h →
    IsPermutation (counted (length (owned (p ∷ h.ended)))) (owned (p ∷ h.ended))
