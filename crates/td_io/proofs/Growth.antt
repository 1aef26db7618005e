-- What a sink holds after several writes, and a source after several reads.
use Rattle.std.proofs.Common.{◌≡◌, ℕ, ◌+◌, ◌<◌, ◌≤◌, List, ◌++◌, length, take, drop, Option, Some, None, sym, ap, ◌∙◌, append_assoc, arith, length-append, length-take}
use Rattle.std.proofs.Math.Seq.{take-add}
use Rattle.std.specs.Io.KnownBytes.{Appends, Consumes}
use Rattle.td_io.specs.Causes.{TookAtMost, TookSome}

pub appends_more : (a b c : Option (List ℕ)) (text : List ℕ) (n m : ℕ) (rest : List ℕ) → rest ≡ drop n text → Appends a b (take n text) → Appends b c (take m rest) → Appends a c (take (n + m) text)
appends_more None b c text n m rest e p q = tt
appends_more (Some xs) None c text n m rest e p q = absurd p
appends_more (Some xs) (Some ys) None text n m rest e p q = absurd q
appends_more (Some xs) (Some ys) (Some zs) text n m rest e p q = rw (q, p, e) (append_assoc xs (take n text) (take m (drop n text)) ∙ ap (λ (l : List ℕ). xs ++ l) (sym (take-add n m text)))

pub consumes_more : (a b c : Option (List ℕ)) (first second : List ℕ) → Consumes a b first → Consumes b c second → Consumes a c (first ++ second)
consumes_more None b c first second p q = tt
consumes_more (Some xs) None c first second p q = absurd p
consumes_more (Some xs) (Some ys) None first second p q = absurd q
consumes_more (Some xs) (Some ys) (Some zs) first second p q = p ∙ ap (λ (l : List ℕ). first ++ l) q ∙ sym (append_assoc first second zs)

-- after the bytes at most n more were taken
pub taken_more : (a b c : Option (List ℕ)) (bytes piece : List ℕ) (n most : ℕ) → Consumes a b bytes → Consumes b c (take n piece) → length bytes + n ≤ most → TookAtMost a c most
taken_more a b c bytes piece n most before more fits = (
  bytes ++ take n piece,
  consumes_more a b c bytes (take n piece) before more,
  omega (arith, length-append bytes (take n piece), length-take n piece),
)

-- after the bytes more were taken, at least one
pub taken_some : (a b c : Option (List ℕ)) (bytes piece : List ℕ) (n most : ℕ) → Consumes a b bytes → Consumes b c (take n piece) → 0 < n → n ≤ length piece → length bytes + n ≤ most → TookSome a c most
taken_some a b c bytes piece n most before more some within fits = (
  bytes ++ take n piece,
  consumes_more a b c bytes (take n piece) before more,
  omega (arith, length-append bytes (take n piece), length-take n piece),
  omega (arith, length-append bytes (take n piece), length-take n piece),
)
