-- Descriptors lie within the room, by the meaning of their module.
use Rattle.std.proofs.Common.{◌≡◌, ℕ, ◌+◌, ◌-◌, ◌≤◌, ◌<◌, ◌^◌, Bool, true, false, List, [], ◌∷◌, ◌++◌, length, nat_le, Option, Some, None, refl, sym, ap, ◌∙◌, subst, arith}
use Rattle.std.specs.Prelude.{pos, ◌-ℤ◌, int_lt}
use Rattle.std.proofs.lemmas.Bool.{ltb-false, false≢true}
use Rattle.td_num.proofs.Truths.{both_true}
use Rattle.td_num.specs.Numbers.{bytes_in, number_at, places_from}
use Rattle.td_num.specs.Lists.{AreBytes}
use Rattle.td_descr.specs.Imports.{NumberType, Width, Two, Four, LittleEndian, NameId, Field, NotEnough, Constraint, Span, TypeDef}
use Rattle.td_core.specs.Term.{Term, Deed}
use Rattle.td_core.specs.Outcome.{accepted, and_then}
use Rattle.td_expr.specs.Value.{truth_of, number_of, flip, chosen}
use Rattle.td_expr.proofs.Holding.{truth_number}
use Rattle.td_expr.proofs.Reaching.{flip_true, minus_is}
use Rattle.td_meaning.specs.Doing.{is_true}
use Rattle.td_meaning.specs.Meaning.{Sense, below, fields_meaning, parts_meaning, taken, refined, acted, checked, field_place}
use Rattle.td_meaning.specs.Met.{MetOption}
use Rattle.td_meaning.specs.Throughout.{OnEnding}
use Rattle.td_meaning.proofs.Ending.{on_then, on_within, on_demanded}
use Rattle.td_meaning.specs.Meaning.{entry_place}
use Rattle.td_descr.specs.Ring.{desc_args, desc_cells, CellsAreWithin}
use Rattle.td_descr.specs.Format.{any_field, ring_module}
use Rattle.td_descr.specs.Shape.{is_up_to, is_none, is_fit, tested, untested, delivered, undone, is_four, is_two, is_place, is_size, is_id, is_flags, is_reserved, is_number, are_fields, is_only, is_first, ShapeAcceptsWithin}
use Rattle.td_descr.specs.Laws.{IsWorkedRing, DescriptorsLieWithin}
use Rattle.td_descr.proofs.Shaped.{up_to_value, fit_value, delivered_is, undone_is, four_is, two_is, number_is, plain_struct, only_is, first_is}

pub worked : IsWorkedRing
unfolding below fields_meaning parts_meaning
worked = record {
  accepted = refl;
  past = refl;
  shape = refl;
  first = refl;
  second = refl;
  lost = refl;
  full = refl;
  fell = refl;
  word = refl;
  next_word = refl;
  round = refl;
  far = refl;
  far_word = refl;
  last = refl;
  end = refl;
  wrapped = refl;
}

abbrev little : Width → NumberType
little w = record { width = w; order = LittleEndian }

abbrev At : ℕ → List ℕ → Type 0 → ℕ → List ℕ → Type 0
At q cells X r more = (r ≡ q) × (more ≡ cells) × X

refined_at : (e : Option Term) (env : List ℕ) (start q : ℕ) (cells : List ℕ) → OnEnding (refined e env start q cells).ending (At q cells (MetOption e env))
refined_at None env start q cells = (refl, refl, tt)
refined_at (Some e) env start q cells = on_demanded Constraint (is_true e env) start q cells (At q cells (MetOption (Some e) env)) (λ h. (refl, refl, h))

-- one field: its bytes stand before the end, its refinement is met, and its action leaves these cells
module _ (sets : List (List ℕ)) (senses : ℕ → Sense) (ty : NameId) (places b : List ℕ) (end : ℕ) (Q : ℕ → List ℕ → Type 0) where
  field_on : (w : Width) (name : NameId) (place : Span) (refinement : Option Term) (action : Option Deed) (later : List Field) (env : List ℕ) (p : ℕ) (cells cells' : List ℕ)
      → acted action (env ++ number_at (little w) b p ∷ []) places p (p + bytes_in w) cells ≡ accepted (p + bytes_in w) cells'
      → (MetOption refinement (env ++ number_at (little w) b p ∷ []) → OnEnding (fields_meaning sets senses ty later (env ++ number_at (little w) b p ∷ []) places b end (p + bytes_in w) cells').ending Q)
      → OnEnding (fields_meaning sets senses ty (any_field w name place refinement action ∷ later) env places b end p cells).ending Q
  unfolding fields_meaning parts_meaning
  field_on w name place refinement action later env p cells cells' acts k =
      let v = number_at (little w) b p in
      let env' = env ++ v ∷ [] in
      let q = p + bytes_in w in
      let fp = field_place ty name p in
      on_then _ _ _ (At q cells (Unit {0})) Q
      (on_within fp (taken (bytes_in w) p end p cells).ending (At q cells (Unit {0})) (on_demanded NotEnough (nat_le (p + bytes_in w) end) p q cells (At q cells (Unit {0})) (λ h. (refl, refl, tt))))
      (λ r more at.
      subst (λ (x : ℕ × List ℕ). OnEnding (and_then (parts_meaning ty p v ((any_field w name place refinement action).parts) env places x.0 x.1) (fields_meaning sets senses ty later env' places b end)).ending Q) (λ i. (sym at.0 i, sym at.1 i))
      (on_then _ _ _ (At q cells' (MetOption refinement env')) Q
      (on_then _ _ _ (At q cells' (MetOption refinement env')) (At q cells' (MetOption refinement env'))
      (on_within fp (checked ((record { name = name; bits = None; refinement = refinement; action = action })) env' places p q cells).ending (At q cells' (MetOption refinement env'))
      (on_then _ _ _ (At q cells (MetOption refinement env')) (At q cells' (MetOption refinement env')) (refined_at refinement env' p q cells)
      (λ s other here. subst (λ (x : ℕ × List ℕ). OnEnding (acted action env' places p x.0 x.1).ending (At q cells' (MetOption refinement env'))) (λ i. (sym here.0 i, sym here.1 i))
      (subst (λ y. OnEnding y.ending (At q cells' (MetOption refinement env'))) (sym acts) (refl, refl, here.2)))))
      (λ s other here. here))
      (λ s other here. subst (λ (x : ℕ × List ℕ). OnEnding (fields_meaning sets senses ty later env' places b end x.0 x.1).ending Q) (λ i. (sym here.0 i, sym here.1 i)) (k here.2))))

-- ---- what the refinements say
up_to : (x y : ℕ) → truth_of (number_of (flip (int_lt (pos y) (pos x)))) ≡ true → x ≤ y
up_to x y h = ltb-false y x (flip_true (int_lt (pos y) (pos x)) (sym (truth_number (flip (int_lt (pos y) (pos x)))) ∙ h))

both_tested : (x y : Bool) → truth_of (number_of (chosen x y false)) ≡ true → (x ≡ true) × (y ≡ true)
both_tested true true h = (refl, refl)
both_tested true false h = (refl, h)
both_tested false y h = (h, absurd (false≢true h))

two_bytes : (b : List ℕ) (p : ℕ) → AreBytes b → number_at (little Two) b p < 2 ^ 16
two_bytes b p bytes = let x = bytes p in let y = bytes (p + 1) in omega (arith, x, y)

-- a place that was tested lies in the room
place_means : (e : Option Term) (room most place : ℕ) → tested (is_up_to 2 0) e ≡ true → MetOption e (room ∷ most ∷ place ∷ []) → place ≤ room
place_means None room most place h met = absurd (false≢true h)
place_means (Some e) room most place h met =
    up_to place room (ap truth_of (sym (up_to_value 2 0 e (room ∷ most ∷ place ∷ []) h)) ∙ met)

-- a size that was tested is left there, and is no more than may be
size_means : (e : Option Term) (room most place size : ℕ) → place ≤ room → tested is_fit e ≡ true → MetOption e (room ∷ most ∷ place ∷ size ∷ []) → (size ≤ room - place) × (size ≤ most)
size_means None room most place size in_room h met = absurd (false≢true h)
size_means (Some e) room most place size in_room h met =
    let true_now = ap truth_of (sym (fit_value e (room ∷ most ∷ place ∷ size ∷ []) h)) ∙ met in
    let two = both_tested (truth_of (number_of (flip (int_lt (pos room -ℤ pos place) (pos size))))) (truth_of (number_of (flip (int_lt (pos most) (pos size))))) true_now in
    (up_to size (room - place) (subst (λ z. truth_of (number_of (flip (int_lt z (pos size)))) ≡ true) (minus_is room place in_room) two.0), up_to size most two.1)

fields_lie : (sets : List (List ℕ)) (senses : ℕ → Sense) (ty : NameId) (room most : ℕ) (b : List ℕ) → AreBytes b → (fields : List Field) → are_fields fields ≡ true
    → OnEnding (fields_meaning sets senses ty fields (room ∷ most ∷ []) (places_from 0 3) b (length b) 0 desc_cells).ending (λ q cells. CellsAreWithin room most cells)
unfolding fields_meaning
fields_lie sets senses ty room most b bytes [] h = absurd (false≢true h)
fields_lie sets senses ty room most b bytes (f ∷ []) h = absurd (false≢true h)
fields_lie sets senses ty room most b bytes (f ∷ g ∷ []) h = absurd (false≢true h)
fields_lie sets senses ty room most b bytes (f ∷ g ∷ k ∷ []) h = absurd (false≢true h)
fields_lie sets senses ty room most b bytes (f ∷ g ∷ k ∷ l ∷ []) h = absurd (false≢true h)
fields_lie sets senses ty room most b bytes (f ∷ g ∷ k ∷ l ∷ m ∷ n ∷ fields) h = absurd (false≢true h)
fields_lie sets senses ty room most b bytes (f ∷ g ∷ k ∷ l ∷ m ∷ []) h =
    let ps = places_from 0 3 in
    let Q : ℕ → List ℕ → Type 0 = λ q cells. CellsAreWithin room most cells in
    let place = number_at (little Four) b 0 in
    let size = number_at (little Four) b 4 in
    let number = number_at (little Two) b 8 in
    let flags = number_at (little Two) b 10 in
    let h1 = both_true (is_number is_four is_place f) _ h in
    let h2 = both_true (is_number is_four is_size g) _ h1.1 in
    let h3 = both_true (is_number is_two is_id k) _ h2.1 in
    let h4 = both_true (is_number is_two is_flags l) _ h3.1 in
    let n1 = number_is Four is_four four_is is_place f h1.0 in
    let n2 = number_is Four is_four four_is is_size g h2.0 in
    let n3 = number_is Two is_two two_is is_id k h3.0 in
    let n4 = number_is Two is_two two_is is_flags l h4.0 in
    let n5 = number_is Four is_four four_is is_reserved m h4.1 in
    let p1 = n1.0 in
    let p2 = n2.0 in
    let p3 = n3.0 in
    let p4 = n4.0 in
    let p5 = n5.0 in
    let t1 = both_true (tested (is_up_to 2 0) p1.refinement) (delivered 0 2 p1.action) n1.2 in
    let t2 = both_true (tested is_fit p2.refinement) (delivered 1 3 p2.action) n2.2 in
    let t3 = both_true (untested p3.refinement) (delivered 2 4 p3.action) n3.2 in
    let t4 = both_true (tested is_none p4.refinement) (undone p4.action) n4.2 in
    let t5 = both_true (untested p5.refinement) (undone p5.action) n5.2 in
    let f5 = any_field Four p5.name m.place p5.refinement p5.action in
    let f4 = any_field Two p4.name l.place p4.refinement p4.action in
    let f3 = any_field Two p3.name k.place p3.refinement p3.action in
    let f2 = any_field Four p2.name g.place p2.refinement p2.action in
    subst (λ (fields : List Field). OnEnding (fields_meaning sets senses ty fields (room ∷ most ∷ []) ps b (length b) 0 desc_cells).ending Q)
    (λ i. sym n1.1 i ∷ sym n2.1 i ∷ sym n3.1 i ∷ sym n4.1 i ∷ sym n5.1 i ∷ [])
    (field_on sets senses ty ps b (length b) Q Four p1.name f.place p1.refinement p1.action (f2 ∷ f3 ∷ f4 ∷ f5 ∷ []) (room ∷ most ∷ []) 0 desc_cells (place ∷ 0 ∷ 0 ∷ [])
    (delivered_is 0 2 p1.action (room ∷ most ∷ place ∷ []) ps 0 4 desc_cells t1.1) (λ first.
    let in_room : place ≤ room = place_means p1.refinement room most place t1.0 first in
    field_on sets senses ty ps b (length b) Q Four p2.name g.place p2.refinement p2.action (f3 ∷ f4 ∷ f5 ∷ []) (room ∷ most ∷ place ∷ []) 4 (place ∷ 0 ∷ 0 ∷ []) (place ∷ size ∷ 0 ∷ [])
    (delivered_is 1 3 p2.action (room ∷ most ∷ place ∷ size ∷ []) ps 4 8 (place ∷ 0 ∷ 0 ∷ []) t2.1) (λ second.
    let fits = size_means p2.refinement room most place size in_room t2.0 second in
    field_on sets senses ty ps b (length b) Q Two p3.name k.place p3.refinement p3.action (f4 ∷ f5 ∷ []) (room ∷ most ∷ place ∷ size ∷ []) 8 (place ∷ size ∷ 0 ∷ []) (place ∷ size ∷ number ∷ [])
    (delivered_is 2 4 p3.action (room ∷ most ∷ place ∷ size ∷ number ∷ []) ps 8 10 (place ∷ size ∷ 0 ∷ []) t3.1) (λ third.
    field_on sets senses ty ps b (length b) Q Two p4.name l.place p4.refinement p4.action (f5 ∷ []) (room ∷ most ∷ place ∷ size ∷ number ∷ []) 10 (place ∷ size ∷ number ∷ []) (place ∷ size ∷ number ∷ [])
    (undone_is p4.action (room ∷ most ∷ place ∷ size ∷ number ∷ flags ∷ []) ps 10 12 (place ∷ size ∷ number ∷ []) t4.1) (λ fourth.
    field_on sets senses ty ps b (length b) Q Four p5.name m.place p5.refinement p5.action [] (room ∷ most ∷ place ∷ size ∷ number ∷ flags ∷ []) 12 (place ∷ size ∷ number ∷ []) (place ∷ size ∷ number ∷ [])
    (undone_is p5.action (room ∷ most ∷ place ∷ size ∷ number ∷ flags ∷ number_at (little Four) b 12 ∷ []) ps 12 16 (place ∷ size ∷ number ∷ []) t5.1) (λ fifth.
    let last : CellsAreWithin room most (place ∷ size ∷ number ∷ []) = record {
      count = refl;
      place = in_room;
      size = let left = fits.0 in omega (arith, left, in_room);
      few = fits.1;
      id = two_bytes b 8 bytes;
    } in last))))))

-- what a module with these definitions means of a descriptor, from its entry point 0 at this place
abbrev Lies : List (List ℕ) → ℕ → ℕ → List ℕ → List TypeDef → Option ℕ → Type 0
Lies listed room most b definitions entry =
    OnEnding (below listed definitions (length definitions) (entry_place entry (length definitions)) (desc_args room most) (places_from 0 3) desc_cells b 0 (length b)).ending (λ q cells. CellsAreWithin room most cells)

pub shaped : ShapeAcceptsWithin
unfolding below fields_meaning
shaped m h room most b bytes =
    let both = both_true (is_first m.entries) (is_only m.definitions) h in
    let d = only_is m.definitions both.1 in
    subst (λ (x : List TypeDef × Option ℕ). Lies m.listed room most b x.0 x.1) (λ i. (sym d.2 i, sym (first_is m.entries both.0) i))
    (let here : Lies m.listed room most b (plain_struct d.0 d.1 ∷ []) (Some 0) = fields_lie m.listed (below m.listed (plain_struct d.0 d.1 ∷ []) 0) d.0.name room most b bytes d.1 d.3 in here)

pub lies_within : DescriptorsLieWithin
lies_within room most b bytes = shaped ring_module refl room most b bytes
