-- Replies in the memory of their rooms.
use Rattle.std.proofs.Common.{◌≡◌, ℕ, ◌<◌, List, [], ◌∷◌, ◌++◌, length, sym, subst}
use Rattle.std.specs.Prelude.{slice_index_or}
use Rattle.std.specs.List.{All}
use Rattle.std.specs.List.Sorted.{IsPermutation}
use Rattle.std.proofs.lemmas.List.Elements.{All-nil, All-head, All-tail, All-append}
use Rattle.std.proofs.lemmas.List.Sorted.{All-permutation}
use Rattle.td_num.proofs.Lists.{all_left}
use Rattle.td_posts.specs.declared.reply.Reply.{Reply}
use Rattle.td_host_actors.specs.declared.actor.Actor.{Actor}
use Rattle.td_host_actors.specs.Actors.{replies_of}
use Rattle.td_host.specs.Gathered.{all_replies}

module _ {G : Type 0} (P : Reply → Type 0) where
  -- what holds of each reply of each actor holds of all of them
  of_all : (ds : List (Actor G)) → All (λ (a : Actor G). All P (replies_of a)) ds → All P (all_replies ds)
  unfolding all_replies
  of_all [] h = All-nil P
  of_all (a ∷ ds) h =
      let Of : Actor G → Type 0 = λ b. All P (replies_of b) in
      All-append P (replies_of a) (all_replies ds) (All-head Of a ds h) (of_all ds (All-tail Of a ds h))

  -- of those of all actors but the last, found and put into an order
  pub put : (all news : List (Actor G)) (last : Actor G) (n : ℕ) (found replies : List Reply) → length all ≡ n
      → ((i : ℕ) (d : Actor G) → i < n → All P (replies_of (slice_index_or all i d)))
      → all ≡ news ++ last ∷ [] → found ≡ all_replies news → IsPermutation found replies → All P replies
  put all news last n found replies count each are is order =
      let Of : Actor G → Type 0 = λ b. All P (replies_of b) in
      let every : All Of all = λ i d lt. each i d (subst (λ k. i < k) count lt) in
      let those : All Of news = all_left Of news (last ∷ []) (subst (All Of) are every) in
      All-permutation P found replies order (subst (All P) (sym is) (of_all news those))
