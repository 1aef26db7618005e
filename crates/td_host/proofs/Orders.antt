-- Replies that are put into the order of the posts.
use Rattle.std.proofs.Common.{◌≡◌, ℕ, ◌+◌, ◌<◌, ◌≤◌, false, cond, List, [], ◌∷◌, ◌++◌, map, length, take, drop, refl, sym, ap, ◌∙◌, subst, arith}
use Rattle.std.specs.Prelude.{slice_index_or}
use Rattle.std.specs.List as holes
use Rattle.std.specs.List.{All, sum_by}
use Rattle.std.specs.List.Sorted.{IsPermutation}
use Rattle.std.proofs.lemmas.List.{map-append, length-map, length-take-le, take_more, drop_more, drop_all, take_all, append-nil}
use Rattle.std.proofs.lemmas.List.Elements.{All-head, All-tail}
use Rattle.std.proofs.lemmas.List.Sums.{sum_by-cons}
use Rattle.std.proofs.lemmas.List.Sorted.{IsPermutation-map, IsPermutation-swap_remove, IsPermutation-pop_more, sum_by-IsPermutation}
use Rattle.td_posts.specs.declared.name.PostName.{PostName}
use Rattle.td_posts.specs.declared.mail.Mail.{Mail}
use Rattle.td_posts.specs.declared.reply.Reply.{Reply}
use Rattle.td_posts.specs.Posts.{same_name, reply_name}
use Rattle.td_posts.proofs.Unique.{own_name}

abbrev r_name : Reply → PostName
r_name r = reply_name r

abbrev m_name : Mail → PostName
m_name m = m.name

pub record Ordering (mails : List Mail) (found : List Reply) (i : ℕ) (replies left : List Reply) : Type 0 where
  pub order : IsPermutation found (replies ++ left)
  pub named : map reply_name replies ≡ map (λ (m : Mail). m.name) (take i mails)
  pub same : (f : PostName → ℕ) → sum_by f (map reply_name left) ≡ sum_by f (map (λ (m : Mail). m.name) (drop i mails))

-- all are left, in another order
pub begins : (mails : List Mail) (found left : List Reply) → ((f : PostName → ℕ) → sum_by f (map reply_name found) ≡ sum_by f (map (λ (m : Mail). m.name) mails)) → IsPermutation found left → Ordering mails found 0 [] left
begins mails found left same moved = record {
  order = moved;
  named = refl;
  same = λ f.
      let sums : sum_by f (map reply_name left) ≡ sum_by f (map reply_name found) = sum_by-IsPermutation f (map r_name found) (map r_name left) (IsPermutation-map r_name found left moved) in
      sums ∙ same f;
}

-- 1 for this name
abbrev one_named : PostName → PostName → ℕ
one_named name n = cond (same_name n name) 1 0

none_named : (name : PostName) (rs : List Reply) → All (λ (r : Reply). same_name (reply_name r) name ≡ false) rs → sum_by (one_named name) (map r_name rs) ≡ 0
none_named name [] a = refl
none_named name (r ∷ rs) a =
    let c = sum_by-cons (one_named name) (reply_name r) (map r_name rs) in
    let z : one_named name (reply_name r) ≡ 0 = ap (λ b. cond b 1 0) (All-head (λ (x : Reply). same_name (reply_name x) name ≡ false) r rs a) in
    let rest = none_named name rs (All-tail (λ (x : Reply). same_name (reply_name x) name ≡ false) r rs a) in
    omega arith

-- a reply is left to each post that is left
pub some_left : (mails : List Mail) (found : List Reply) (i : ℕ) (replies left : List Reply) (m : Mail) (rest : List Mail) → Ordering mails found i replies left → drop i mails ≡ m ∷ rest → All (λ (r : Reply). same_name (reply_name r) m.name ≡ false) left → ⊥
some_left mails found i replies left m rest o e none =
    let f = one_named m.name in
    let a = none_named m.name left none in
    let b = o.same f ∙ ap (λ l. sum_by f (map m_name l)) e in
    let c = sum_by-cons f m.name (map m_name rest) in
    let d : f m.name ≡ 1 = ap (λ t. cond t 1 0) (own_name m.name) in
    absurd (omega arith)

pub orders : (mails : List Mail) (found : List Reply) (i : ℕ) (replies left : List Reply) (d : Mail) (place : ℕ) (x : Reply) (replies' left' : List Reply) → Ordering mails found i replies left → i < length mails
    → place < length left → x ≡ slice_index_or left place x → reply_name x ≡ (slice_index_or mails i d).name → left' ≡ holes.swap_remove left place x → replies' ≡ replies ++ x ∷ [] → Ordering mails found (i + 1) replies' left'
orders mails found i replies left d place x replies' left' o lt below is name left_is replies_is =
    let m : Mail = slice_index_or mails i d in
    let out : IsPermutation left (x ∷ holes.swap_remove left place x) = IsPermutation-swap_remove left place x below is in
    subst (λ (p : List Reply × List Reply). Ordering mails found (i + 1) p.0 p.1) (λ k. (sym replies_is k, sym left_is k)) record {
      order = IsPermutation-pop_more found replies left (holes.swap_remove left place x) x o.order out;
      named = map-append r_name replies (x ∷ []) ∙ ((λ k. o.named k ++ name k ∷ []) ∙ (sym (map-append m_name (take i mails) (m ∷ [])) ∙ ap (map m_name) (sym (take_more mails i d lt))));
      same = λ f.
          let l = holes.swap_remove left place x in
          let a = sum_by-IsPermutation f (map r_name left) (map r_name (x ∷ l)) (IsPermutation-map r_name left (x ∷ l) out) in
          let b = sum_by-cons f (reply_name x) (map r_name l) in
          let c = o.same f ∙ ap (λ t. sum_by f (map m_name t)) (drop_more mails i d lt) in
          let e = sum_by-cons f m.name (map m_name (drop (i + 1) mails)) in
          let n = ap f name in
          omega arith;
    }

-- as many replies are in order as posts were gone through
pub counted : (mails : List Mail) (found : List Reply) (i : ℕ) (replies left : List Reply) → Ordering mails found i replies left → i ≤ length mails → length replies ≡ i
counted mails found i replies left o le =
    sym (length-map replies r_name) ∙ (ap length o.named ∙ (length-map (take i mails) m_name ∙ length-take-le i mails le))

no_more : (xs : List Reply) → sum_by (λ (n : PostName). 1) (map r_name xs) ≡ 0 → xs ≡ []
no_more [] e = refl
no_more (x ∷ xs) e = let c = sum_by-cons (λ (n : PostName). 1) (reply_name x) (map r_name xs) in absurd (omega arith)

pub ends : (mails : List Mail) (found : List Reply) (i : ℕ) (replies left : List Reply) → Ordering mails found i replies left → length mails ≤ i
    → (map reply_name replies ≡ map (λ (m : Mail). m.name) mails) × IsPermutation found replies
ends mails found i replies left o over =
    let none : left ≡ [] = no_more left (o.same (λ n. 1) ∙ ap (λ l. sum_by (λ (n : PostName). 1) (map m_name l)) (drop_all i mails over)) in (
      o.named ∙ ap (map m_name) (take_all i mails over),
      subst (IsPermutation found) (ap (λ l. replies ++ l) none ∙ append-nil replies) o.order,
    )
