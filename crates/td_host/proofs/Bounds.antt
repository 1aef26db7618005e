-- What arming rests on, of a job that can be served.
use Rattle.std.proofs.Common.{◌≡◌, ℕ, ◌+◌, ◌<◌, ◌≤◌, ◌^◌, List, [], ◌∷◌, length, refl, arith, length-append}
use Rattle.std.specs.List.{All}
use Rattle.std.proofs.lemmas.List.Elements.{All-nil, All-cons, All-head, All-tail}
use Rattle.td_num.proofs.Lists.{all_left, all_right}
use Rattle.td_posts.specs.declared.job.Step.{Step}
use Rattle.td_posts.specs.declared.job.Step.TheVariants as step
use Rattle.td_posts.specs.declared.job.HostJob.{HostJob}
use Rattle.td_posts.specs.Posts.{mails_from, mails_of, all_mails, stores_of, all_stores}
use Rattle.td_posts.specs.Servable.{IsServable}
use Rattle.td_host_actors.specs.Acting.{StoresInside}
use Rattle.td_host.specs.Gathered.{IsBounded}

-- each step is a post or a store
steps_are : (g n made : ℕ) (s : List Step) → length s ≡ length (mails_from g n made s) + length (stores_of s)
unfolding mails_from stores_of
steps_are g n made [] = refl
steps_are g n made (step.Store w v ∷ s) = let e = steps_are g n (made + 1) s in omega arith
steps_are g n made (step.Post b l ∷ s) = let e = steps_are g (n + 1) made s in omega arith
steps_are g n made (step.Scatter l ∷ s) = let e = steps_are g (n + 1) made s in omega arith

short : (p q g : ℕ) (ss : List (List Step)) → p + q < 2 ^ 32 → length (all_mails g ss) ≤ p → length (all_stores ss) ≤ q → All (λ (s : List Step). length s < 2 ^ 32) ss
unfolding all_mails all_stores
short p q g [] small a b = All-nil (λ (s : List Step). length s < 2 ^ 32)
short p q g (s ∷ ss) small a b =
    let e = length-append (mails_of g s) (all_mails (g + 1) ss) in
    let f = length-append (stores_of s) (all_stores ss) in
    let k = steps_are g 1 0 s in
    All-cons (λ (s : List Step). length s < 2 ^ 32) s ss (omega arith) (short p q (g + 1) ss small (omega arith) (omega arith))

module _ (count : ℕ) where
  abbrev Below : ℕ × ℕ → Type 0
  Below s = s.0 < count

  stores_in : (s : List Step) → All Below (stores_of s) → StoresInside count s
  unfolding stores_of StoresInside
  stores_in [] a = tt
  stores_in (step.Store w v ∷ s) a = (All-head Below (w, v) (stores_of s) a, stores_in s (All-tail Below (w, v) (stores_of s) a))
  stores_in (step.Post b l ∷ s) a = stores_in s a
  stores_in (step.Scatter l ∷ s) a = stores_in s a

  all_in : (ss : List (List Step)) → All Below (all_stores ss) → All (StoresInside count) ss
  unfolding all_stores
  all_in [] a = All-nil (StoresInside count)
  all_in (s ∷ ss) a = All-cons (StoresInside count) s ss (stores_in s (all_left Below (stores_of s) (all_stores ss) a)) (all_in ss (all_right Below (stores_of s) (all_stores ss) a))

pub bounded : (job : HostJob) → IsServable job → IsBounded job
bounded job s = record {
  some_worker = s.some_worker;
  few_guests = let e = s.few_guests in omega arith;
  few_words = s.few_words;
  few_mails = let e = s.few_posts in omega arith;
  short = short 4096 65536 1 job.guests (omega arith) s.few_posts s.few_stores;
  stays = all_in (length job.words) job.guests s.stores_inside;
  inside = s.messages_inside;
}
