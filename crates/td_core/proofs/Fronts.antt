-- Bytes that are put into a room one behind the other, as far as there is room.
use Rattle.std.proofs.Common.{◌≡◌, ◌<◌, ◌≤◌, ◌+◌, ◌-◌, ◌⊎◌, inl, inr, ℕ, List, ◌++◌, length, min, take, drop, sym, ap, ◌∙◌, arith, length-append}
use Rattle.std.proofs.lemmas.Bool.{cases_lt}
use Rattle.std.proofs.lemmas.List.{take-append-le, take_min, take_all, length-take, drop-drop, append-nil}
use Rattle.std.proofs.Math.Seq.{take-append_seam, take-append-add, drop-append_seam, drop-append-add}

-- the front of two lists in order
take_both : (n : ℕ) (xs ys : List ℕ) → take n (xs ++ ys) ≡ take n xs ++ take (n - length xs) ys
take_both n xs ys = by (cases_lt n (length xs))
  where
    by : (n < length xs) ⊎ (length xs ≤ n) → take n (xs ++ ys) ≡ take n xs ++ take (n - length xs) ys
    by (inl h) =
        let none : n - length xs ≡ 0 = omega (arith, h) in
        take-append-le n xs ys (omega (arith, h)) ∙ (sym (append-nil (take n xs)) ∙ ap (λ (k : ℕ). take n xs ++ take k ys) (sym none))
    by (inr h) =
        let k : ℕ = n - length xs in
        let e : n ≡ length xs + k = omega (arith, h) in
        ap (λ (m : ℕ). take m (xs ++ ys)) e ∙ (take-append-add xs ys k ∙ ap (λ (l : List ℕ). l ++ take k ys) (sym (take_all n xs h)))

-- Behind `front` a piece was put into `rest`, as far as there was room: n bytes of it.

counted : (n : ℕ) (rest piece : List ℕ) → n ≡ min (length rest) (length piece) → length (take n piece) ≡ n
counted n rest piece is = omega (arith, length-take n piece, is)

pub front_put : (n at : ℕ) (front rest piece old new : List ℕ) → n ≡ min (length rest) (length piece) → length front ≡ at → old ≡ front ++ rest
    → new ≡ front ++ (take n piece ++ drop n rest) → take (at + n) new ≡ take at old ++ take (length old - at) piece
front_put n at front rest piece old new is here before after =
    let c = counted n rest piece is in
    let room : length old - at ≡ length rest = omega (arith, here, ap (λ (l : List ℕ). length l) before, length-append front rest) in
    let put : take (at + n) new ≡ front ++ take n piece =
    ap (λ (l : List ℕ). take (at + n) l) after
    ∙ (ap (λ (k : ℕ). take (k + n) (front ++ (take n piece ++ drop n rest))) (sym here)
    ∙ (take-append-add front (take n piece ++ drop n rest) n
    ∙ ap (λ (l : List ℕ). front ++ l) (ap (λ (k : ℕ). take k (take n piece ++ drop n rest)) (sym c) ∙ take-append_seam (take n piece) (drop n rest)))) in
    let first : take at old ≡ front = ap (λ (l : List ℕ). take at l) before ∙ (ap (λ (k : ℕ). take k (front ++ rest)) (sym here) ∙ take-append_seam front rest) in
    let whole : take n piece ≡ take (length old - at) piece = ap (λ (k : ℕ). take k piece) is ∙ (take_min (length rest) piece ∙ ap (λ (k : ℕ). take k piece) (sym room)) in
    put ∙ ((λ i. sym first i ++ whole i))

pub behind_put : (n at : ℕ) (front rest piece old new : List ℕ) → n ≡ min (length rest) (length piece) → length front ≡ at → old ≡ front ++ rest
    → new ≡ front ++ (take n piece ++ drop n rest) → drop (at + n) new ≡ drop (at + n) old
behind_put n at front rest piece old new is here before after =
    let c = counted n rest piece is in
    let left : drop (at + n) new ≡ drop n rest =
    ap (λ (l : List ℕ). drop (at + n) l) after
    ∙ (ap (λ (k : ℕ). drop (k + n) (front ++ (take n piece ++ drop n rest))) (sym here)
    ∙ (drop-append-add front (take n piece ++ drop n rest) n
    ∙ (ap (λ (k : ℕ). drop k (take n piece ++ drop n rest)) (sym c) ∙ drop-append_seam (take n piece) (drop n rest)))) in
    let kept : drop (at + n) old ≡ drop n rest = ap (λ (l : List ℕ). drop (at + n) l) before ∙ (ap (λ (k : ℕ). drop (k + n) (front ++ rest)) (sym here) ∙ drop-append-add front rest n) in
    left ∙ sym kept

-- what was put is the front of what was to be put, and so it is with one piece more
pub front_more : (room at : ℕ) (done piece x y : List ℕ) → at ≡ min (length done) room → x ≡ take room done → y ≡ x ++ take (room - at) piece → y ≡ take room (done ++ piece)
front_more room at done piece x y is before after =
    let left : room - at ≡ room - length done = omega (arith, is) in
    after ∙ ((λ i. before i ++ take (left i) piece) ∙ sym (take_both room done piece))

-- the same behind what lay behind before
pub behind_more : (n k : ℕ) (x y z : List ℕ) → n ≤ k → drop n y ≡ drop n x → drop k z ≡ drop k y → drop k z ≡ drop k x
behind_more n k x y z le one other =
    let d : ℕ = k - n in
    let e : k ≡ n + d = omega (arith, le) in
    other ∙ (ap (λ (m : ℕ). drop m y) e ∙ (sym (drop-drop d n y) ∙ (ap (λ (l : List ℕ). drop d l) one ∙ (drop-drop d n x ∙ ap (λ (m : ℕ). drop m x) (sym e)))))

-- three pieces, each of which was put behind those before it: the room was x0, and then x1, x2 and x3
pub all_put : (r1 r2 r3 : ℕ) (part dot own name x0 x1 x2 x3 : List ℕ) → length x1 ≡ length x0 → length x2 ≡ length x1 → name ≡ (part ++ dot) ++ own
    → r1 ≡ min (0 + length part) (length x0) → take r1 x1 ≡ take (length x0 - 0) part → drop r1 x1 ≡ drop r1 x0
    → r2 ≡ min (r1 + length dot) (length x1) → take r2 x2 ≡ take r1 x1 ++ take (length x1 - r1) dot → drop r2 x2 ≡ drop r2 x1
    → r3 ≡ min (r2 + length own) (length x2) → take r3 x3 ≡ take r2 x2 ++ take (length x2 - r2) own → drop r3 x3 ≡ drop r3 x2
    → (r3 ≡ min (length name) (length x0)) × (take r3 x3 ≡ take r3 name) × (drop r3 x3 ≡ drop r3 x0)
all_put r1 r2 r3 part dot own name x0 x1 x2 x3 l1 l2 is e1 f1 b1 e2 f2 b2 e3 f3 b3 =
    let room : ℕ = length x0 in
    let both : length (part ++ dot) ≡ length part + length dot = length-append part dot in
    let all : length name ≡ length part + length dot + length own = ap (λ (l : List ℕ). length l) is ∙ (length-append (part ++ dot) own ∙ ap (λ (n : ℕ). n + length own) both) in
    let n1 : r1 ≡ min (length part) room = omega (arith, e1) in
    let n2 : r2 ≡ min (length (part ++ dot)) room = omega (arith, n1, e2, l1, both) in
    let n3 : r3 ≡ min room (length name) = omega (arith, n2, e3, l1, l2, both, all) in
    let g1 : take r1 x1 ≡ take room part = f1 ∙ ap (λ (n : ℕ). take n part) (omega arith) in
    let g2 : take r2 x2 ≡ take room (part ++ dot) = front_more room r1 part dot (take r1 x1) (take r2 x2) n1 g1 (f2 ∙ ap (λ (n : ℕ). take r1 x1 ++ take (n - r1) dot) l1) in
    let g3 : take r3 x3 ≡ take room ((part ++ dot) ++ own) = front_more room r2 (part ++ dot) own (take r2 x2) (take r3 x3) n2 g2 (f3 ∙ ap (λ (n : ℕ). take r2 x2 ++ take (n - r2) own) (l2 ∙ l1)) in
    let cut : take r3 name ≡ take room name = ap (λ (n : ℕ). take n name) n3 ∙ take_min room name in (
      omega (arith, n3),
      g3 ∙ (ap (λ (l : List ℕ). take room l) (sym is) ∙ sym cut),
      behind_more r2 r3 x0 x2 x3 (omega (arith, e3, l2, l1, n2)) (behind_more r1 r2 x0 x1 x2 (omega (arith, e1, e2, l1)) b1 b2) b3,
    )
