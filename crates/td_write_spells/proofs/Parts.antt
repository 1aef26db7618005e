-- The bit fields of a unit.
use Rattle.std.proofs.Common.{◌≡◌, ℕ, suc, ◌+◌, ◌<◌, Bool, true, false, List, [], ◌∷◌, ◌++◌, length, refl, sym, ap, ◌∙◌, subst, arith, append_assoc, Option, Some, None}
use Rattle.std.specs.Prelude.{nat_eq}
use Rattle.std.proofs.lemmas.Bool.{leb-false, eqb-true, and_parts}
use Rattle.std.proofs.lemmas.Option.{none-some, same_Some}
use Rattle.std.proofs.lemmas.List.{append-nil}
use Rattle.td_num.specs.Numbers.{bytes_in}
use Rattle.td_write_spells.specs.Imports.{NumberType, NameId, Part, Reason, Constraint, Action as ActionFails, WriteRule, Shape, Range, Broken, Size, Long}
use Rattle.td_core.specs.Term.{Term, Deed}
use Rattle.td_core.specs.Outcome.{Ending, Accepted, Rejected, onward, and_then, frame_at, within, ending_within}
use Rattle.td_meaning.specs.Doing.{Effect, On, Returned, Aborted, doing, is_true}
use Rattle.td_meaning.specs.Meaning.{demanded, refined, acted, ended, checked, parts_meaning, bits_of, extended, field_place}
use Rattle.td_meaning.specs.Throughout.{OnEnding}
use Rattle.td_meaning.proofs.Staying.{Stays, refined_stays, checked_stays, parts_stay}
use Rattle.td_write_values.specs.declared.limits.TheConstants.{MOST_WRITTEN}
use Rattle.td_write_values.specs.Datum.{Datum, Number, Sequence, Bytes, Empty}
use Rattle.td_write_values.specs.Bytes.{fits, are_bits_of}
use Rattle.td_write_values.specs.Spelling.{only, with_number, part_numbers, left_by, after_action, after_parts}
use Rattle.td_write_values.specs.Writing.{Written, Refused, wanted, tested, has_room, parts_written, whole}
use Rattle.td_write_spells.specs.Laws.{FailsFor}
use Rattle.td_write_spells.proofs.Told.{only_some, fails_then, fails_within, accepts_then, accepts_within}

-- The place stays

on_accepted : (o : Ending) (P : ℕ → List ℕ → Type 0) (q : ℕ) (cells : List ℕ) → OnEnding o P → o ≡ Accepted q cells → P q cells
on_accepted o P q cells h e = let g : OnEnding (Accepted q cells) P = subst (λ x. OnEnding x P) e h in g

pub refined_at : (g : Option Term) (env : List ℕ) (start q r : ℕ) (cells more : List ℕ) → (refined g env start q cells).ending ≡ Accepted r more → r ≡ q
refined_at g env start q r cells more e = on_accepted (refined g env start q cells).ending (Stays q) r more (refined_stays g env start q cells) e

checked_at : (p : Part) (env places : List ℕ) (start q r : ℕ) (cells more : List ℕ) → (checked p env places start q cells).ending ≡ Accepted r more → r ≡ q
checked_at p env places start q r cells more e = on_accepted (checked p env places start q cells).ending (Stays q) r more (checked_stays p env places start q cells) e

pub parts_at : (ty : NameId) (start n : ℕ) (ps : List Part) (env places : List ℕ) (q r : ℕ) (cells more : List ℕ) → (parts_meaning ty start n ps env places q cells).ending ≡ Accepted r more → r ≡ q
parts_at ty start n ps env places q r cells more e = on_accepted (parts_meaning ty start n ps env places q cells).ending (Stays q) r more (parts_stay ty start n ps env places q cells) e

-- The cells behind parts that passed are those that their actions left

same_cells : (q r : ℕ) (cells last : List ℕ) → Accepted q cells ≡ Accepted r last → cells ≡ last
same_cells q r cells last e = cc

ended_left : (o : Effect) (start q r : ℕ) (last : List ℕ) → (ended o start q).ending ≡ Accepted r last → left_by o ≡ last
ended_left (On cells) start q r last e = same_cells q r cells last e
ended_left (Returned true cells) start q r last e = same_cells q r cells last e
ended_left (Returned false cells) start q r last e = absurd (let f : Rejected ActionFails start [] cells ≡ Accepted r last = e in cc)
ended_left (Aborted cells) start q r last e = absurd (let f : Rejected ActionFails start [] cells ≡ Accepted r last = e in cc)

acted_left : (a : Option Deed) (env places : List ℕ) (start q r : ℕ) (cells last : List ℕ) → (acted a env places start q cells).ending ≡ Accepted r last → after_action a env places start cells ≡ last
acted_left None env places start q r cells last e = same_cells q r cells last e
acted_left (Some action) env places start q r cells last e = ended_left (doing action (env ++ start ∷ []) places cells) start q r last e

tested_left : (g : Option Term) (a : Option Deed) (env places : List ℕ) (start q r : ℕ) (cells last : List ℕ) → (and_then (refined g env start q cells) (acted a env places start)).ending ≡ Accepted r last
    → after_action a env places start cells ≡ last
tested_left None a env places start q r cells last e = acted_left a env places start q r cells last e
tested_left (Some test) a env places start q r cells last e = by (is_true test env) e
  where
    by : (v : Bool) → (and_then (demanded Constraint v start q cells) (acted a env places start)).ending ≡ Accepted r last → after_action a env places start cells ≡ last
    by true e = acted_left a env places start q r cells last e
    by false e = absurd (let f : Rejected Constraint start [] cells ≡ Accepted r last = e in cc)

pub refined_left : (g : Option Term) (env : List ℕ) (start q r : ℕ) (cells last : List ℕ) → (refined g env start q cells).ending ≡ Accepted r last → cells ≡ last
refined_left None env start q r cells last e = same_cells q r cells last e
refined_left (Some test) env start q r cells last e = by (is_true test env) e
  where
    by : (v : Bool) → (demanded Constraint v start q cells).ending ≡ Accepted r last → cells ≡ last
    by true e = same_cells q r cells last e
    by false e = absurd (let f : Rejected Constraint start [] cells ≡ Accepted r last = e in cc)

pub parts_left : (ty : NameId) (start n : ℕ) (ps : List Part) (env places : List ℕ) (q r : ℕ) (cells last : List ℕ) → (parts_meaning ty start n ps env places q cells).ending ≡ Accepted r last
    → after_parts start n ps env places cells ≡ last
unfolding parts_meaning
parts_left ty start n [] env places q r cells last e = same_cells q r cells last e
parts_left ty start n (p ∷ ps) env places q r cells last e =
    let c = checked p (env ++ bits_of p.bits n ∷ []) places start q cells in
    by c.ending refl c.reads e (λ s more e. parts_left ty start n ps (env ++ bits_of p.bits n ∷ []) places s r more last e)
  where
    by : (o : Ending) → (checked p (env ++ bits_of p.bits n ∷ []) places start q cells).ending ≡ o → (reads : List ℕ)
        → (onward (ending_within (field_place ty p.name start) o) reads (parts_meaning ty start n ps (env ++ bits_of p.bits n ∷ []) places)).ending ≡ Accepted r last
        → ((s : ℕ) (more : List ℕ) → (parts_meaning ty start n ps (env ++ bits_of p.bits n ∷ []) places s more).ending ≡ Accepted r last → after_parts start n ps (env ++ bits_of p.bits n ∷ []) places more ≡ last)
        → after_parts start n (p ∷ ps) env places cells ≡ last
    by (Accepted s more) h reads e later =
        ap (after_parts start n ps (env ++ bits_of p.bits n ∷ []) places) (tested_left p.refinement p.action (env ++ bits_of p.bits n ∷ []) places start q s cells more h)
        ∙ later s more e
    by (Rejected reason s trace more) h reads e later = absurd (let f : Rejected reason s (trace ++ frame_at (field_place ty p.name start) reason ∷ []) more ≡ Accepted r last = e in cc)

-- Parts

abbrev pub IsWrong : WriteRule → Type 0
IsWrong Shape = Unit {0}
IsWrong Range = Unit {0}
IsWrong (Broken reason) = ⊥
IsWrong Size = Unit {0}
IsWrong Long = ⊥

pub with_some : (n : ℕ) (o : Option (List ℕ × List Datum)) (ns : List ℕ) (rest : List Datum) → with_number n o ≡ Some (ns, rest) → (ms : List ℕ) × (o ≡ Some (ms, rest)) × (ns ≡ n ∷ ms)
with_some n None ns rest e = absurd (none-some (ns, rest) e)
with_some n (Some x) ns rest e =
    let g : (n ∷ x.0, x.1) ≡ (ns, rest) = same_Some (n ∷ x.0, x.1) (ns, rest) e in
    let last : x.1 ≡ rest = ap (λ y. y.1) g in
    (x.0, λ i. Some (x.0, last i), sym (ap (λ y. y.0) g))

-- how the walk over a unit's parts ends: all passed, one failed, no room, or a value is wrong
pub data PartsTold (t : NumberType) (parts : List Part) (env : List ℕ) (vs : List Datum) (w : Written) (go : List ℕ → List ℕ → ℕ → List ℕ → List Datum → Written) (i : ℕ) (ty : NameId) (places : List ℕ) (start : ℕ) (cells : List ℕ) : Type 0 where
  passed : (ns : List ℕ) (rest : List Datum) (more : List ℕ) → part_numbers t parts vs ≡ Some (ns, rest) → w ≡ go ns (env ++ ns) (i + length ns) more rest
      → ((n : ℕ) → are_bits_of n parts ns ≡ true → ((parts_meaning ty start n parts env places (start + bytes_in t.width) cells).ending ≡ Accepted (start + bytes_in t.width) more) × (extended env n parts ≡ env ++ ns))
      → PartsTold t parts env vs w go i ty places start cells
  failed : (reason : Reason) (at : List ℕ) → w ≡ Refused (Broken reason) at
      → ((ns : List ℕ) (rest : List Datum) (n : ℕ) → part_numbers t parts vs ≡ Some (ns, rest) → are_bits_of n parts ns ≡ true → FailsFor reason (parts_meaning ty start n parts env places (start + bytes_in t.width) cells).ending)
      → PartsTold t parts env vs w go i ty places start cells
  long : (at : List ℕ) → w ≡ Refused Long at → MOST_WRITTEN < start + bytes_in t.width → PartsTold t parts env vs w go i ty places start cells
  wrong : (rule : WriteRule) (at : List ℕ) → w ≡ Refused rule at → IsWrong rule → part_numbers t parts vs ≡ None → PartsTold t parts env vs w go i ty places start cells

module _ (t : NumberType) (ty : NameId) (places path : List ℕ) (start : ℕ) where
  pub parts_told : (parts : List Part) (env : List ℕ) (i : ℕ) (cells : List ℕ) (vs : List Datum) (go : List ℕ → List ℕ → ℕ → List ℕ → List Datum → Written)
      → PartsTold t parts env vs (parts_written whole t parts env places path i start cells vs go) go i ty places start cells
  unfolding parts_written parts_meaning
  parts_told [] env i cells vs go =
      let none : env ++ [] ≡ env = append-nil env in
      let same : i + 0 ≡ i = omega arith in
      passed [] vs cells refl (λ k. go [] (sym none k) (sym same k) cells vs) (λ n h. (refl, sym none))
  parts_told (part ∷ parts) env i cells [] go = wrong Shape path refl tt refl
  parts_told (part ∷ parts) env i cells (Sequence ws ∷ vs) go = wrong Shape (path ++ i ∷ []) refl tt refl
  parts_told (part ∷ parts) env i cells (Bytes bytes ∷ vs) go = wrong Shape (path ++ i ∷ []) refl tt refl
  parts_told (part ∷ parts) env i cells (Empty ∷ vs) go = wrong Shape (path ++ i ∷ []) refl tt refl
  parts_told (part ∷ parts) env i cells (Number n ∷ vs) go =
      by (fits t part.bits n) refl (has_room start (bytes_in t.width)) refl (checked part (env ++ n ∷ []) places start (start + bytes_in t.width) cells).ending refl
      (λ more. parts_told parts (env ++ n ∷ []) (suc i) more vs (λ ns. go (n ∷ ns)))
    where
      -- the number's own bits are this value
      bits : (v : ℕ) (ms : List ℕ) → are_bits_of v (part ∷ parts) (n ∷ ms) ≡ true → (bits_of part.bits v ≡ n) × (are_bits_of v parts ms ≡ true)
      bits v ms h =
          let two = and_parts (nat_eq (bits_of part.bits v) n) (are_bits_of v parts ms) h in
          (eqb-true (bits_of part.bits v) n two.0, two.1)

      -- the part, and then the others
      meant : (v : ℕ) → bits_of part.bits v ≡ n → (parts_meaning ty start v (part ∷ parts) env places (start + bytes_in t.width) cells).ending
          ≡ (and_then (within (field_place ty part.name start) (checked part (env ++ n ∷ []) places start (start + bytes_in t.width) cells)) (parts_meaning ty start v parts (env ++ n ∷ []) places)).ending
      meant v e = ap (λ x. (and_then (within (field_place ty part.name start) (checked part (env ++ x ∷ []) places start (start + bytes_in t.width) cells)) (parts_meaning ty start v parts (env ++ x ∷ []) places)).ending) e

      goes_on : (v : ℕ) (more : List ℕ) → bits_of part.bits v ≡ n → (checked part (env ++ n ∷ []) places start (start + bytes_in t.width) cells).ending ≡ Accepted (start + bytes_in t.width) more
          → (parts_meaning ty start v (part ∷ parts) env places (start + bytes_in t.width) cells).ending ≡ (parts_meaning ty start v parts (env ++ n ∷ []) places (start + bytes_in t.width) more).ending
      goes_on v more e h =
          let c = checked part (env ++ n ∷ []) places start (start + bytes_in t.width) cells in
          let place = field_place ty part.name start in
          meant v e ∙ accepts_then (ending_within place c.ending) c.reads (parts_meaning ty start v parts (env ++ n ∷ []) places) (start + bytes_in t.width) more (accepts_within place c.ending (start + bytes_in t.width) more h)

      numbers : (ns : List ℕ) (rest : List Datum) → fits t part.bits n ≡ true → part_numbers t (part ∷ parts) (Number n ∷ vs) ≡ Some (ns, rest)
          → (ms : List ℕ) × (part_numbers t parts vs ≡ Some (ms, rest)) × (ns ≡ n ∷ ms)
      numbers ns rest f e = with_some n (part_numbers t parts vs) ns rest (only_some (fits t part.bits n) (with_number n (part_numbers t parts vs)) (ns, rest) e).1

      after : (f : fits t part.bits n ≡ true) (more : List ℕ) → (checked part (env ++ n ∷ []) places start (start + bytes_in t.width) cells).ending ≡ Accepted (start + bytes_in t.width) more
          → (w : Written) → PartsTold t parts (env ++ n ∷ []) vs w (λ ns. go (n ∷ ns)) (suc i) ty places start more
          → PartsTold t (part ∷ parts) env (Number n ∷ vs) w go i ty places start cells
      after f more h w (passed ns rest last e we told) =
          let count : suc i + length ns ≡ i + length (n ∷ ns) = omega arith in
          let scope : (env ++ n ∷ []) ++ ns ≡ env ++ n ∷ ns = append_assoc env (n ∷ []) ns in
          passed (n ∷ ns) rest last ((λ k. only (f k) (with_number n (e k)))) (we ∙ (λ k. go (n ∷ ns) (scope k) (count k) last rest))
          (λ v b.
          let two = bits v ns b in
          let later = told v two.1 in
          (goes_on v more two.0 h ∙ later.0, ap (λ x. extended (env ++ x ∷ []) v parts) two.0 ∙ later.1 ∙ scope))
      after f more h w (failed reason at we told) =
          failed reason at we (λ ns rest v e b.
          let m = numbers ns rest f e in
          let two = bits v m.0 (ap (are_bits_of v (part ∷ parts)) (sym m.2) ∙ b) in
          subst (FailsFor reason) (sym (goes_on v more two.0 h)) (told m.0 rest v m.1 two.1))
      after f more h w (long at we told) = long at we told
      after f more h w (wrong rule at we is told) = wrong rule at we is (λ k. only (f k) (with_number n (told k)))

      by : (f : Bool) → fits t part.bits n ≡ f → (r : Bool) → has_room start (bytes_in t.width) ≡ r → (o : Ending) → (checked part (env ++ n ∷ []) places start (start + bytes_in t.width) cells).ending ≡ o
          → ((more : List ℕ) → PartsTold t parts (env ++ n ∷ []) vs (parts_written whole t parts (env ++ n ∷ []) places path (suc i) start more vs (λ ns. go (n ∷ ns))) (λ ns. go (n ∷ ns)) (suc i) ty places start more)
          → PartsTold t (part ∷ parts) env (Number n ∷ vs) (wanted f Range (path ++ i ∷ []) (wanted r Long (path ++ i ∷ []) (tested o (path ++ i ∷ []) (λ cells. parts_written whole t parts (env ++ n ∷ []) places path (suc i) start cells vs (λ ns. go (n ∷ ns)))))) go i ty places start cells
      by false f r s o h later = wrong Range (path ++ i ∷ []) refl tt (ap (λ x. only x (with_number n (part_numbers t parts vs))) f)
      by true f false s o h later = long (path ++ i ∷ []) refl (leb-false (start + bytes_in t.width) MOST_WRITTEN s)
      by true f true s (Accepted r more) h later =
          let same : r ≡ start + bytes_in t.width = checked_at part (env ++ n ∷ []) places start (start + bytes_in t.width) r cells more h in
          after f more (h ∙ ap (λ k. Accepted k more) same) (parts_written whole t parts (env ++ n ∷ []) places path (suc i) start more vs (λ ns. go (n ∷ ns))) (later more)
      by true f true s (Rejected reason r trace more) h later = failed reason (path ++ i ∷ []) refl (λ ns rest v e b.
          let c = checked part (env ++ n ∷ []) places start (start + bytes_in t.width) cells in
          let place = field_place ty part.name start in
          let m = numbers ns rest f e in
          let two = bits v m.0 (ap (are_bits_of v (part ∷ parts)) (sym m.2) ∙ b) in
          let own : FailsFor reason c.ending = subst (FailsFor reason) (sym h) refl in
          subst (FailsFor reason) (sym (meant v two.0)) (fails_then reason (ending_within place c.ending) c.reads (parts_meaning ty start v parts (env ++ n ∷ []) places) (fails_within reason place c.ending own)))
