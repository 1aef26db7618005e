-- What writing tells of a value's spelling, and of the meaning of these bytes wherever they stand.
use Rattle.std.proofs.Common.{◌≡◌, ℕ, ◌+◌, ◌<◌, ◌≤◌, Bool, true, false, ◌&&◌, List, [], ◌∷◌, ◌++◌, length, map, drop, refl, sym, ap, ◌∙◌, subst, arith, append_assoc, length-append, Option, Some, None}
use Rattle.std.specs.Prelude.{nat_eq}
use Rattle.std.proofs.lemmas.Bool.{and_parts, eqb-true}
use Rattle.std.proofs.lemmas.List.{map-append}
use Rattle.std.proofs.lemmas.Option.{none-some, same_Some}
use Rattle.td_write_spells.specs.Imports.{CopyOut, Reason, WriteRule, Shape, Range, Broken, Size, Long}
use Rattle.td_core.specs.Outcome.{Ending, Accepted, Rejected, Behavior, FramePlace, onward, ending_within}
use Rattle.td_write_values.specs.declared.limits.TheConstants.{MOST_WRITTEN}
use Rattle.td_write_values.specs.Spelling.{Spelled, bytes_alone, only, behind, joined, sized, all_at, ended, noted, spelled_copied}
use Rattle.td_write_values.specs.Writing.{Claim, Written, Done, Refused, after_writing, followed, wanted, tested, of_size, agreed, settled, unlisted, of_enum, copied}
use Rattle.td_write_spells.specs.Laws.{FailsFor}
use Rattle.td_write_spells.proofs.Numbers.{drop_past}

-- where bytes from p to q may be, for a meaning with this end
abbrev pub Fit : Type 1
Fit = ℕ → ℕ → ℕ → Type 0

-- before the end, or all up to it
abbrev pub UpTo : Bool → Fit
UpTo true p q end = q ≡ end
UpTo false p q end = q ≤ end

-- the ends that values say are this one
abbrev pub AllAt : ℕ → List ℕ → Type 0
AllAt end [] = Unit {0}
AllAt end (e ∷ es) = (e ≡ end) × AllAt end es

abbrev pub ends_of : List Claim → List ℕ
ends_of claims = map (λ c. c.end) claims

-- what was written, as it is spelled
abbrev pub as_spelled : List ℕ → List ℕ → List Claim → Spelled
as_spelled s cells claims = record { bytes = s; cells = cells; ends = ends_of claims }

abbrev pub Told : Fit → ℕ → Written → Option Spelled → (List ℕ → ℕ → Ending) → Type 0
Told Q p (Done s cells claims) spelled means =
    (spelled ≡ Some (as_spelled s cells claims))
    × ((p + length s ≤ MOST_WRITTEN) × ((b post : List ℕ) (end : ℕ) → drop p b ≡ s ++ post → Q p (p + length s) end → AllAt end (ends_of claims) → means b end ≡ Accepted (p + length s) cells))
Told Q p (Refused Shape path) spelled means = spelled ≡ None
Told Q p (Refused Range path) spelled means = spelled ≡ None
Told Q p (Refused (Broken reason) path) spelled means =
    (b post : List ℕ) (x : Spelled) (end : ℕ) → spelled ≡ Some x → drop p b ≡ x.bytes ++ post → Q p (p + length x.bytes) end → AllAt end x.ends → FailsFor reason (means b end)
Told Q p (Refused Size path) spelled means = spelled ≡ None
Told Q p (Refused Long path) spelled means = (x : Spelled) → spelled ≡ Some x → MOST_WRITTEN < p + length x.bytes

-- Ends

at_both : (end : ℕ) (xs ys : List ℕ) → AllAt end (xs ++ ys) → AllAt end xs × AllAt end ys
at_both end [] ys h = (tt, h)
at_both end (x ∷ xs) ys h = let two = at_both end xs ys h.1 in ((h.0, two.0), two.1)

all_there : (end : ℕ) (es : List ℕ) → all_at end es ≡ true → AllAt end es
all_there end [] h = tt
all_there end (e ∷ es) h = let two = and_parts (nat_eq e end) (all_at end es) h in (eqb-true e end two.0, all_there end es two.1)

ends_both : (claims others : List Claim) → ends_of (claims ++ others) ≡ ends_of claims ++ ends_of others
ends_both claims others = map-append (λ (c : Claim). c.end) claims others

-- Options

-- the parts of what is spelled
pub record Parts (x u a : Spelled) : Type 0 where
  pub bytes : a.bytes ≡ x.bytes ++ u.bytes
  pub cells : a.cells ≡ u.cells
  pub ends : a.ends ≡ x.ends ++ u.ends

pub behind_some : (x : Spelled) (o : Option Spelled) (a : Spelled) → behind x o ≡ Some a → (u : Spelled) × (o ≡ Some u) × Parts x u a
behind_some x None a e = absurd (none-some a e)
behind_some x (Some u) a e =
    let whole : Spelled = record { bytes = x.bytes ++ u.bytes; cells = u.cells; ends = x.ends ++ u.ends } in
    let same : whole ≡ a = same_Some whole a e in
    (u, refl, record { bytes = ap (λ (y : Spelled). y.bytes) (sym same); cells = ap (λ (y : Spelled). y.cells) (sym same); ends = ap (λ (y : Spelled). y.ends) (sym same) })

pub joined_some : (o : Option Spelled) (p : ℕ) (go : ℕ → List ℕ → Option Spelled) (a : Spelled) → joined o p go ≡ Some a
    → (x : Spelled) × (u : Spelled) × (o ≡ Some x) × (go (p + length x.bytes) x.cells ≡ Some u) × Parts x u a
joined_some None p go a e = absurd (none-some a e)
joined_some (Some x) p go a e = let h = behind_some x (go (p + length x.bytes) x.cells) a e in (x, h.0, refl, h.1, h.2)

pub only_some : {A : Type 0} (v : Bool) (o : Option A) (x : A) → only v o ≡ Some x → (v ≡ true) × (o ≡ Some x)
only_some true o x e = (refl, e)
only_some false o x e = absurd (none-some x e)

pub sized_some : (test : ℕ → Bool) (o : Option Spelled) (a : Spelled) → sized test o ≡ Some a → (o ≡ Some a) × (test (length a.bytes) ≡ true)
sized_some test None a e = absurd (none-some a e)
sized_some test (Some x) a e =
    let h = only_some (test (length x.bytes)) (Some x) a e in
    let same : x ≡ a = same_Some x a h.1 in
    (h.1, ap (λ (y : Spelled). test (length y.bytes)) (sym same) ∙ h.0)

pub ended_some : (p : ℕ) (o : Option Spelled) (a : Spelled) → ended p o ≡ Some a → (x : Spelled) × (o ≡ Some x) × (AllAt (p + length x.bytes) x.ends) × (bytes_alone x.bytes x.cells ≡ a)
ended_some p None a e = absurd (none-some a e)
ended_some p (Some x) a e =
    let h = only_some (all_at (p + length x.bytes) x.ends) (Some (bytes_alone x.bytes x.cells)) a e in
    (x, refl, all_there (p + length x.bytes) x.ends h.0, same_Some (bytes_alone x.bytes x.cells) a h.1)

pub copied_some : (copy : Option CopyOut) (places : List ℕ) (p : ℕ) (o : Option Spelled) (a : Spelled) → spelled_copied copy places p o ≡ Some a
    → (x : Spelled) × (o ≡ Some x) × (x.bytes ≡ a.bytes) × (x.ends ≡ a.ends)
copied_some copy places p None a e = absurd (none-some a e)
copied_some copy places p (Some x) a e =
    let noticed : Spelled = record { bytes = x.bytes; cells = noted copy places p (length x.bytes) x.cells; ends = x.ends } in
    let same : noticed ≡ a = same_Some noticed a e in
    (x, refl, ap (λ (y : Spelled). y.bytes) same, ap (λ (y : Spelled). y.ends) same)

-- Endings

pub fails_then : (reason : Reason) (o : Ending) (reads : List ℕ) (go : ℕ → List ℕ → Behavior) → FailsFor reason o → FailsFor reason (onward o reads go).ending
fails_then reason (Accepted q cells) reads go h = absurd h
fails_then reason (Rejected other q trace cells) reads go h = h

pub fails_within : (reason : Reason) (place : FramePlace) (o : Ending) → FailsFor reason o → FailsFor reason (ending_within place o)
fails_within reason place (Accepted q cells) h = absurd h
fails_within reason place (Rejected other q trace cells) h = h

pub accepts_within : (place : FramePlace) (o : Ending) (q : ℕ) (cells : List ℕ) → o ≡ Accepted q cells → ending_within place o ≡ Accepted q cells
accepts_within place o q cells e = ap (ending_within place) e

pub accepts_then : (o : Ending) (reads : List ℕ) (go : ℕ → List ℕ → Behavior) (q : ℕ) (cells : List ℕ) → o ≡ Accepted q cells → (onward o reads go).ending ≡ (go q cells).ending
accepts_then o reads go q cells e = ap (λ o. (onward o reads go).ending) e

-- Bytes that were written, and what follows

split_at : (p : ℕ) (b post : List ℕ) (x u a : Spelled) → Parts x u a → drop p b ≡ a.bytes ++ post → drop p b ≡ x.bytes ++ (u.bytes ++ post)
split_at p b post x u a h at = at ∙ ap (λ y. y ++ post) h.bytes ∙ append_assoc x.bytes u.bytes post

split_fit : (Q : Fit) (p end : ℕ) (x u a : Spelled) → Parts x u a → Q p (p + length a.bytes) end → Q p (p + length x.bytes + length u.bytes) end
split_fit Q p end x u a h fit =
    let len : p + length a.bytes ≡ p + length x.bytes + length u.bytes = ap (λ y. p + length y) h.bytes ∙ (omega (arith, length-append x.bytes u.bytes)) in
    subst (λ n. Q p n end) len fit

split_ends : (end : ℕ) (x u a : Spelled) → Parts x u a → AllAt end a.ends → AllAt end x.ends × AllAt end u.ends
split_ends end x u a h all = at_both end x.ends u.ends (subst (AllAt end) h.ends all)

pub told_after : (Q R : Fit) (p : ℕ) (s cells : List ℕ) (claims : List Claim) (w : Written) (next : Option Spelled) (then all : List ℕ → ℕ → Ending)
    → ((b post : List ℕ) (u : Spelled) (end : ℕ) → next ≡ Some u → drop p b ≡ s ++ (u.bytes ++ post) → Q p (p + length s + length u.bytes) end → AllAt end (ends_of claims)
    → (all b end ≡ then b end) × R (p + length s) (p + length s + length u.bytes) end)
    → Told R (p + length s) w next then → Told Q p (after_writing s claims w) (behind (as_spelled s cells claims) next) all
told_after Q R p s cells claims (Done t more others) next then all on h =
    let x = as_spelled s cells claims in
    let u = as_spelled t more others in
    let ends : ends_of (claims ++ others) ≡ ends_of claims ++ ends_of others = ends_both claims others in
    let len : p + length s + length t ≡ p + length (s ++ t) = omega (arith, length-append s t) in (
      ap (behind x) h.0 ∙ (λ k. Some (record { bytes = s ++ t; cells = more; ends = sym ends k })),
      (
        subst (λ n. n ≤ MOST_WRITTEN) len h.1.0,
        λ b post end at fit all_ends.
            let at' : drop p b ≡ s ++ (t ++ post) = at ∙ append_assoc s t post in
            let fit' : Q p (p + length s + length t) end = subst (λ n. Q p n end) (sym len) fit in
            let two = at_both end (ends_of claims) (ends_of others) (subst (AllAt end) ends all_ends) in
            let o = on b post u end h.0 at' fit' two.0 in
            o.0 ∙ h.1.1 b post end (drop_past p b s (t ++ post) at') o.1 two.1 ∙ ap (λ n. Accepted n more) len,
      ),
    )
told_after Q R p s cells claims (Refused Shape path) next then all on h = ap (behind (as_spelled s cells claims)) h
told_after Q R p s cells claims (Refused Range path) next then all on h = ap (behind (as_spelled s cells claims)) h
told_after Q R p s cells claims (Refused (Broken reason) path) next then all on h = λ b post a end e at fit ends.
    let x = as_spelled s cells claims in
    let j = behind_some x next a e in
    let u : Spelled = j.0 in
    let at' = split_at p b post x u a j.2 at in
    let two = split_ends end x u a j.2 ends in
    let o = on b post u end j.1 at' (split_fit Q p end x u a j.2 fit) two.0 in
    subst (FailsFor reason) (sym o.0) (h b post u end j.1 (drop_past p b s (u.bytes ++ post) at') o.1 two.1)
told_after Q R p s cells claims (Refused Size path) next then all on h = ap (behind (as_spelled s cells claims)) h
told_after Q R p s cells claims (Refused Long path) next then all on h = λ a e.
    let x = as_spelled s cells claims in
    let j = behind_some x next a e in
    let u : Spelled = j.0 in
    let long = h u j.1 in
    omega (arith, long, ap length j.2.bytes, length-append s u.bytes)

-- one part, which ends at its own fit, and what follows
pub told_join : (Q F R : Fit) (p : ℕ) (w : Written) (go : ℕ → List ℕ → Written) (sp : Option Spelled) (next : ℕ → List ℕ → Option Spelled) (means : List ℕ → ℕ → Ending) (then : List ℕ → List ℕ → List ℕ → ℕ → Ending) (all : List ℕ → ℕ → Ending)
    → ((x u : Spelled) (end : ℕ) → sp ≡ Some x → next (p + length x.bytes) x.cells ≡ Some u → Q p (p + length x.bytes + length u.bytes) end → F p (p + length x.bytes) end)
    → ((b post : List ℕ) (x u : Spelled) (end : ℕ) → sp ≡ Some x → next (p + length x.bytes) x.cells ≡ Some u → drop p b ≡ x.bytes ++ (u.bytes ++ post) → Q p (p + length x.bytes + length u.bytes) end → AllAt end x.ends
    → means b end ≡ Accepted (p + length x.bytes) x.cells → (all b end ≡ then x.bytes x.cells b end) × R (p + length x.bytes) (p + length x.bytes + length u.bytes) end)
    → ((reason : Reason) (b post : List ℕ) (x u : Spelled) (end : ℕ) → sp ≡ Some x → Q p (p + length x.bytes + length u.bytes) end → FailsFor reason (means b end) → FailsFor reason (all b end))
    → Told F p w sp means
    → ((s cells : List ℕ) (claims : List Claim) → w ≡ Done s cells claims → p + length s ≤ MOST_WRITTEN → Told R (p + length s) (go (p + length s) cells) (next (p + length s) cells) (then s cells))
    → Told Q p (followed w p go) (joined sp p next) all
told_join Q F R p (Done s cells claims) go sp next means then all ends on bad h later =
    let x = as_spelled s cells claims in
    subst (λ o. Told Q p (after_writing s claims (go (p + length s) cells)) (joined o p next) all) (sym h.0)
    (told_after Q R p s cells claims (go (p + length s) cells) (next (p + length s) cells) (then s cells) all
    (λ b post u end e at fit here. on b post x u end h.0 e at fit here (h.1.1 b (u.bytes ++ post) end at (ends x u end h.0 e fit) here))
    (later s cells claims refl h.1.0))
told_join Q F R p (Refused Shape path) go sp next means then all ends on bad h later = ap (λ o. joined o p next) h
told_join Q F R p (Refused Range path) go sp next means then all ends on bad h later = ap (λ o. joined o p next) h
told_join Q F R p (Refused (Broken reason) path) go sp next means then all ends on bad h later = λ b post a end e at fit all_ends.
    let j = joined_some sp p next a e in
    let x : Spelled = j.0 in
    let u : Spelled = j.1 in
    let fit' = split_fit Q p end x u a j.4 fit in
    bad reason b post x u end j.2 fit' (h b (u.bytes ++ post) x end j.2 (split_at p b post x u a j.4 at) (ends x u end j.2 j.3 fit') (split_ends end x u a j.4 all_ends).0)
told_join Q F R p (Refused Size path) go sp next means then all ends on bad h later = ap (λ o. joined o p next) h
told_join Q F R p (Refused Long path) go sp next means then all ends on bad h later = λ a e.
    let j = joined_some sp p next a e in
    let x : Spelled = j.0 in
    let u : Spelled = j.1 in
    let long = h x j.2 in
    omega (arith, long, ap length j.4.bytes, length-append x.bytes u.bytes)

-- the same under a wider fit, and of another meaning
pub told_map : (Q F : Fit) (p : ℕ) (w : Written) (sp : Option Spelled) (means all : List ℕ → ℕ → Ending)
    → ((b post : List ℕ) (x : Spelled) (end : ℕ) → sp ≡ Some x → drop p b ≡ x.bytes ++ post → Q p (p + length x.bytes) end → (all b end ≡ means b end) × F p (p + length x.bytes) end)
    → Told F p w sp means → Told Q p w sp all
told_map Q F p (Done s cells claims) sp means all on h =
    (h.0, (h.1.0, λ b post end at fit ends. let o = on b post (as_spelled s cells claims) end h.0 at fit in o.0 ∙ h.1.1 b post end at o.1 ends))
told_map Q F p (Refused Shape path) sp means all on h = h
told_map Q F p (Refused Range path) sp means all on h = h
told_map Q F p (Refused (Broken reason) path) sp means all on h = λ b post x end e at fit ends.
    let o = on b post x end e at fit in subst (FailsFor reason) (sym o.0) (h b post x end e at o.1 ends)
told_map Q F p (Refused Size path) sp means all on h = h
told_map Q F p (Refused Long path) sp means all on h = h

-- What ends where its values say

told_agreed : (Q : Fit) (p end : ℕ) (w : Written) (o : Option Spelled) (all : List ℕ → ℕ → Ending) (claims : List Claim)
    → (AllAt end (ends_of claims) → Told Q p w o all) → Told Q p (agreed end claims w) (only (all_at end (ends_of claims)) o) all
told_agreed Q p end w o all [] h = h tt
told_agreed Q p end w o all (c ∷ cs) h = by (nat_eq c.end end) refl (λ k. told_agreed Q p end w o all cs k)
  where
    by : (v : Bool) → nat_eq c.end end ≡ v → ((AllAt end (ends_of cs) → Told Q p w o all) → Told Q p (agreed end cs w) (only (all_at end (ends_of cs)) o) all)
        → Told Q p (wanted v Size c.path (agreed end cs w)) (only (v && all_at end (ends_of cs)) o) all
    by true e rest = rest (λ later. h (eqb-true c.end end e, later))
    by false e rest = refl

-- of a meaning that ends its own bytes there
pub told_settled : (Q F : Fit) (p : ℕ) (w : Written) (sp : Option Spelled) (means all : List ℕ → ℕ → Ending)
    → ((x : Spelled) → sp ≡ Some x → F p (p + length x.bytes) (p + length x.bytes))
    → ((b : List ℕ) (x : Spelled) (end : ℕ) → sp ≡ Some x → Q p (p + length x.bytes) end → means b (p + length x.bytes) ≡ Accepted (p + length x.bytes) x.cells → all b end ≡ Accepted (p + length x.bytes) x.cells)
    → ((reason : Reason) (b : List ℕ) (x : Spelled) (end : ℕ) → sp ≡ Some x → Q p (p + length x.bytes) end → FailsFor reason (means b (p + length x.bytes)) → FailsFor reason (all b end))
    → Told F p w sp means → Told Q p (settled p w) (ended p sp) all
told_settled Q F p (Done s cells claims) sp means all fit holds lacks h =
    let x = as_spelled s cells claims in
    let end = p + length s in
    subst (λ o. Told Q p (agreed end claims (Done s cells [])) (ended p o) all) (sym h.0)
    (told_agreed Q p end (Done s cells []) (Some (bytes_alone s cells)) all claims
    (λ there. (refl, (h.1.0, λ b post e at f none. holds b x e h.0 f (h.1.1 b post end at (fit x h.0) there)))))
told_settled Q F p (Refused Shape at) sp means all fit holds lacks h = ap (ended p) h
told_settled Q F p (Refused Range at) sp means all fit holds lacks h = ap (ended p) h
told_settled Q F p (Refused (Broken reason) at) sp means all fit holds lacks h = λ b post a end e here f none.
    let z = ended_some p sp a e in
    let x : Spelled = z.0 in
    let same : x.bytes ≡ a.bytes = ap (λ (y : Spelled). y.bytes) z.3 in
    let here' : drop p b ≡ x.bytes ++ post = here ∙ ap (λ y. y ++ post) (sym same) in
    let f' : Q p (p + length x.bytes) end = subst (λ y. Q p (p + length y) end) (sym same) f in
    lacks reason b x end z.1 f' (h b post x (p + length x.bytes) z.1 here' (fit x z.1) z.2)
told_settled Q F p (Refused Size at) sp means all fit holds lacks h = ap (ended p) h
told_settled Q F p (Refused Long at) sp means all fit holds lacks h = λ a e.
    let z = ended_some p sp a e in
    let x : Spelled = z.0 in
    let long = h x z.1 in
    omega (arith, long, ap (λ (y : Spelled). length y.bytes) z.3)

-- what has a size, where the meaning doesn't rest on it
pub told_of_size : (Q : Fit) (p : ℕ) (test : ℕ → Bool) (path : List ℕ) (w : Written) (sp : Option Spelled) (means : List ℕ → ℕ → Ending) → Told Q p w sp means → Told Q p (of_size test path w) (sized test sp) means
told_of_size Q p test path (Done s cells claims) sp means h = by (test (length s)) refl
  where
    by : (v : Bool) → test (length s) ≡ v → Told Q p (wanted v Size path (Done s cells claims)) (sized test sp) means
    by true e = (ap (sized test) h.0 ∙ ap (λ v. only v (Some (as_spelled s cells claims))) e, (h.1.0, h.1.1))
    by false e = ap (sized test) h.0 ∙ ap (λ v. only v (Some (as_spelled s cells claims))) e
told_of_size Q p test path (Refused Shape at) sp means h = ap (sized test) h
told_of_size Q p test path (Refused Range at) sp means h = ap (sized test) h
told_of_size Q p test path (Refused (Broken reason) at) sp means h = λ b post x end e here f ends. h b post x end (sized_some test sp x e).0 here f ends
told_of_size Q p test path (Refused Size at) sp means h = ap (sized test) h
told_of_size Q p test path (Refused Long at) sp means h = λ x e. h x (sized_some test sp x e).0

-- where the enum's test comes after the size, of a value that is spelled
pub told_listed : (Q : Fit) (p : ℕ) (listed : Bool) (test : ℕ → Bool) (path : List ℕ) (w : Written) (sp : Option Spelled) (all : List ℕ → ℕ → Ending)
    → ((s cells : List ℕ) (claims : List Claim) → w ≡ Done s cells claims → listed ≡ false → (sp ≡ Some (bytes_alone s cells)) × (claims ≡ []))
    → Told Q p (settled p (of_size test path (of_enum listed path w))) (ended p (sized test sp)) all → Told Q p (of_enum listed path (settled p (of_size test path w))) (ended p (sized test sp)) all
told_listed Q p true test path w sp all spelled h = h
told_listed Q p false test path (Done s cells claims) sp all spelled h = by (test (length s)) refl
  where
    by : (v : Bool) → test (length s) ≡ v → Told Q p (unlisted path (settled p (wanted v Size path (Done s cells claims)))) (ended p (sized test sp)) all
    by true e = subst (λ cs. Told Q p (unlisted path (agreed (p + length s) cs (Done s cells []))) (ended p (sized test sp)) all) (sym (spelled s cells claims refl refl).1) h
    by false e = ap (λ o. ended p (sized test o)) (spelled s cells claims refl refl).0 ∙ ap (λ v. ended p (only v (Some (bytes_alone s cells)))) e
told_listed Q p false test path (Refused rule at) sp all spelled h = h

-- where a field is copied, its place and its number of bytes are noted
pub copied_told : (Q : Fit) (p : ℕ) (copy : Option CopyOut) (places : List ℕ) (w : Written) (sp : Option Spelled) (means all : List ℕ → ℕ → Ending)
    → ((b : List ℕ) (x : Spelled) (end : ℕ) → sp ≡ Some x → means b end ≡ Accepted (p + length x.bytes) x.cells → all b end ≡ Accepted (p + length x.bytes) (noted copy places p (length x.bytes) x.cells))
    → ((reason : Reason) (b : List ℕ) (end : ℕ) → FailsFor reason (means b end) → FailsFor reason (all b end))
    → Told Q p w sp means → Told Q p (copied copy places p w) (spelled_copied copy places p sp) all
copied_told Q p copy places (Done s cells claims) sp means all holds lacks h =
    (ap (spelled_copied copy places p) h.0, (h.1.0, λ b post end at fit ends. holds b (as_spelled s cells claims) end h.0 (h.1.1 b post end at fit ends)))
copied_told Q p copy places (Refused Shape at) sp means all holds lacks h = ap (spelled_copied copy places p) h
copied_told Q p copy places (Refused Range at) sp means all holds lacks h = ap (spelled_copied copy places p) h
copied_told Q p copy places (Refused (Broken reason) at) sp means all holds lacks h = λ b post a end e here fit ends.
    let z = copied_some copy places p sp a e in
    lacks reason b end (h b post z.0 end z.1 (here ∙ ap (λ y. y ++ post) (sym z.2)) (subst (λ y. Q p (p + length y) end) (sym z.2) fit) (subst (AllAt end) (sym z.3) ends))
copied_told Q p copy places (Refused Size at) sp means all holds lacks h = ap (spelled_copied copy places p) h
copied_told Q p copy places (Refused Long at) sp means all holds lacks h = λ a e.
    let z = copied_some copy places p sp a e in
    let long = h z.0 z.1 in
    omega (arith, long, ap length z.2)

-- what no test lets through isn't spelled
pub told_wanted : (Q : Fit) (p : ℕ) (v : Bool) (rule : WriteRule) (path : List ℕ) (w : Written) (sp : Option Spelled) (means : List ℕ → ℕ → Ending)
    → (v ≡ false → Told Q p (Refused rule path) sp means) → (v ≡ true → Told Q p w sp means) → Told Q p (wanted v rule path w) sp means
told_wanted Q p true rule path w sp means lacks holds = holds refl
told_wanted Q p false rule path w sp means lacks holds = lacks refl

-- a test of the type's own, with no bytes of its own
pub told_tested : (Q : Fit) (p q : ℕ) (o : Ending) (path : List ℕ) (go : List ℕ → Written) (sp : Option Spelled) (all : List ℕ → ℕ → Ending)
    → ((cells : List ℕ) → o ≡ Accepted q cells → Told Q p (go cells) sp all)
    → ((r : ℕ) (cells : List ℕ) → o ≡ Accepted r cells → r ≡ q)
    → ((reason : Reason) (b : List ℕ) (end : ℕ) → FailsFor reason o → FailsFor reason (all b end))
    → Told Q p (tested o path go) sp all
told_tested Q p q (Accepted r cells) path go sp all holds at lacks =
    let same : r ≡ q = at r cells refl in holds cells (ap (λ n. Accepted n cells) same)
told_tested Q p q (Rejected reason r trace cells) path go sp all holds at lacks = λ b post x end e h fit ends. lacks reason b end refl
