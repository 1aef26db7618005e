-- The code of an array of elements that fill its bytes.
use Rattle.std.proofs.Common.{◌≡◌, ℕ, zero, suc, ◌+◌, ◌-◌, ◌*◌, ◌/◌, ◌%◌, ◌^◌, ◌<◌, ◌≤◌, Bool, true, false, cond, List, length, map, refl, sym, ap, ◌∙◌, subst, arith, nat_eq, nat_le, nat_lt, slice_index, Option, Some, None}
use Rattle.std.proofs.lemmas.Bool.{eqb-true, leb-true}
use Rattle.td_lower_means.specs.Imports.{Width, One, Two, Four, Eight, NameId, Element, Number, Listed, Named, Unit as UnitElement, Rest, Zeros, Filling, NotEnough, ListSize, Parts}
use Rattle.td_expr.specs.Same.{constant_of}
use Rattle.td_expr.proofs.Folding.{constant_is}
use Rattle.td_expr.specs.Value.{natural}
use Rattle.td_num.specs.Numbers.{bytes_in}
use Rattle.td_num.specs.Lists.{is_among}
use Rattle.td_core.specs.Term.{Term}
use Rattle.td_core.specs.Outcome.{Behavior, Accepted, and_then, within, accepted}
use Rattle.td_expr.specs.Sound.{Sound}
use Rattle.td_expr.specs.Naming.{names}
use Rattle.td_meaning.specs.Naming.{some_name, element_names}
use Rattle.td_meaning.specs.Doing.{natural_of}
use Rattle.td_meaning.specs.Meaning.{Sense, values as values_in, taken, demanded, values_of, element_meaning, elements, filled, divides}
use Rattle.td_meaning.specs.Throughout.{Through, OnEnding, OnAll, OnShape, OnElement, OnElements}
use Rattle.td_ir.specs.declared.instructions.Instr.TheVariants as i
use Rattle.td_lower_blocks.specs.Block.{Block, Done, Window}
use Rattle.td_lower_blocks.specs.Constructs.{Steps, steps, value, values, inner, Inner, Uneven, ByConstant, Never, listed}
use Rattle.td_lower_blocks.specs.Placed.{IsExpr, ArgsPlaced, ElementsPlaced, SizePlaced}
use Rattle.td_ir.specs.State.{State, Turned, registers_from}
use Rattle.td_lower_means.proofs.BlockRun.{Passage, plainly, onwards, if_so, turns, again, back, Calling, ran, passage_of, onto}
use Rattle.td_ir.specs.Flow.{where_so}
use Rattle.td_core.specs.Sizes.{IsStepOf}
use Rattle.td_lower_blocks.specs.Lowered.{expr_of, exprs_of, each_inner, terms_of, evenly, filling_step, constant_step, order_code}
use Rattle.td_lower_blocks.specs.Tabled.{Mapped}
use Rattle.td_lower_means.proofs.Ontos.{onto_then, within_then, onto_on, within_on, again_onto, turn_onto}
use Rattle.td_lower_means.proofs.Acts.{Follows, follows_kept, follows_some, put_value}
use Rattle.td_lower_means.proofs.Parts.{then_ending}
use Rattle.td_lower_means.proofs.Shapes.{at, listed_runs, call_is, give, picked_same}
use Rattle.td_lower_means.proofs.Windows.{exprs_length, args_named, never_or, closing, window_runs}
use Rattle.td_ir.specs.Tables.{set_of, cells_by}
use Rattle.td_ir.specs.Run.{place_of_site}
use Rattle.td_num.proofs.Equals.{equal_itself as same_here, unequal_below, next_product}
use Rattle.td_num.proofs.Truths.{is_eq}
use Rattle.td_meaning.proofs.Filling.{on_accepted as at_ending}

args_placed : (element : Element) (n : ℕ) (params : ℕ → ℕ) (R L t : ℕ) → ElementsPlaced n params R L t element → ArgsPlaced R L (suc t) (terms_of element)
args_placed (Number type) n params R L t x = tt
args_placed (Listed base v) n params R L t x = tt
args_placed (Named d args own) n params R L t x = x.1.1
args_placed UnitElement n params R L t x = absurd x
args_placed Rest n params R L t x = absurd x
args_placed Zeros n params R L t x = absurd x

pub record Whole (w m : ℕ) : Type 0 where
  pub is : m ≡ m / w * w
  pub some : 1 ≤ w
  pub less : m / w < suc m

whole_by : (w : Width) (m : ℕ) → divides (Some (bytes_in w)) m ≡ true → Whole (bytes_in w) m
whole_by One m h = let e = eqb-true (m % 1) 0 h in record { is = omega (arith, e); some = omega arith; less = omega arith }
whole_by Two m h = let e = eqb-true (m % 2) 0 h in record { is = omega (arith, e); some = omega arith; less = omega arith }
whole_by Four m h = let e = eqb-true (m % 4) 0 h in record { is = omega (arith, e); some = omega arith; less = omega arith }
whole_by Eight m h = let e = eqb-true (m % 8) 0 h in record { is = omega (arith, e); some = omega arith; less = omega arith }

whole : (w : Width) (CS : Option ℕ) (m : ℕ) → CS ≡ Some (bytes_in w) → divides CS m ≡ true → Whole (bytes_in w) m
whole w CS m e h = whole_by w m (ap (λ o. divides o m) (sym e) ∙ h)

room_is : (p m q : ℕ) → q ≡ p + m → q - p ≡ m
room_is p m q e = omega (arith, e)

module _ (T : Parts) (self : ℕ) (message places : List ℕ) (calls : Calling) (D t : ℕ) (dt : D ≤ t) where
  abbrev goes : Block → (State → Passage) → (State → Passage) → State → Passage
  goes = ran T self message places calls

  module _ (sets : List (List ℕ)) (senses : ℕ → Sense) (throughs : ℕ → Through) (ty : NameId) (n : ℕ) (params : ℕ → ℕ)
      (setted : (v x : ℕ) → is_among (set_of T v) x ≡ is_among (values_of sets v) x)
      (called : (d first m : ℕ) (s : State) (args : List ℕ) → s.end < 2 ^ 32 → d < n → params d ≡ length args → registers_from s.regs first (length args) ≡ args
      → throughs d args (map (slice_index places) (cells_by T self d m)) s.cells message s.pos s.end
      → calls first d m s ≡ passage_of (senses d args (map (slice_index places) (cells_by T self d m)) s.cells message s.pos s.end)) where
    -- turns of a loop, whose body is an element; what its registers are meanwhile
    turns_run : (Inv : List ℕ → Type 0) (each : ℕ → List ℕ → Behavior) (through : ℕ → List ℕ → Type 0) (body : State → Passage) (site start q o : ℕ) (next : State → Passage) (to : ℕ → List ℕ → Passage)
        → ((r c : List ℕ) (p : ℕ) (G : State → Passage) (X : ℕ → List ℕ → Passage) → Inv r → through p c
        → ((z d : List ℕ) (x : ℕ) → Inv z → (each p c).ending ≡ Accepted x d → G (at z d x start q o) ≡ X x d)
        → again G (body (at r c p start q o)) ≡ onto (within (place_of_site T site start) (each p c)) X)
        → (turns_left p : ℕ) (r c : List ℕ) → Inv r → OnElements Sound through each turns_left q p c
        → ((z d : List ℕ) (x : ℕ) → Inv z → (elements each turns_left start q p c).ending ≡ Accepted x d → next (at z d x start o o) ≡ to x d)
        → turns turns_left body (λ s. onwards T calls (if_so (nat_eq s.pos s.end) (record s { end = s.outer }) ListSize site s.start s) next) (at r c p start q o)
        ≡ onto (within (place_of_site T site start) (elements each turns_left start q p c)) to
    unfolding elements
    turns_run Inv each through body site start q o next to step zero p r c inv on h = by (nat_eq p q) refl
      where
        by : (b : Bool) → nat_eq p q ≡ b → onwards T calls (if_so b (at r c p start o o) ListSize site start (at r c p start q o)) next ≡ onto (within (place_of_site T site start) (demanded ListSize b start p c)) to
        by true e = h r c p inv (ap (λ b. (demanded ListSize b start p c).ending) e)
        by false e = refl
    turns_run Inv each through body site start q o next to step (suc k) p r c inv on h = by (λ r c p inv on h. turns_run Inv each through body site start q o next to step k p r c inv on h) (nat_eq p q) refl
      where
        after : State → Passage
        after = λ s. onwards T calls (if_so (nat_eq s.pos s.end) (record s { end = s.outer }) ListSize site s.start s) next

        by : ((r c : List ℕ) (p : ℕ) → Inv r → OnElements Sound through each k q p c → ((z d : List ℕ) (x : ℕ) → Inv z → (elements each k start q p c).ending ≡ Accepted x d → next (at z d x start o o) ≡ to x d)
            → turns k body (λ s. onwards T calls (if_so (nat_eq s.pos s.end) (record s { end = s.outer }) ListSize site s.start s) next) (at r c p start q o) ≡ onto (within (place_of_site T site start) (elements each k start q p c)) to)
            → (b : Bool) → nat_eq p q ≡ b
            → cond b (onwards T calls (if_so (nat_eq p q) (at r c p start o o) ListSize site start (at r c p start q o)) next)
            (again (turns k body (λ s. onwards T calls (if_so (nat_eq s.pos s.end) (record s { end = s.outer }) ListSize site s.start s) next)) (body (at r c p start q o)))
            ≡ onto (within (place_of_site T site start) (cond b (accepted p c) (and_then (each p c) (elements each k start q)))) to
        by ih true e = ap (λ b. onwards T calls (if_so b (at r c p start o o) ListSize site start (at r c p start q o)) next) e
            ∙ h r c p inv (ap (λ b. (cond b (accepted p c) (and_then (each p c) (elements each k start q))).ending) e)
        by ih false e =
            let told = on e in
            step r c p (turns k body (λ s. onwards T calls (if_so (nat_eq s.pos s.end) (record s { end = s.outer }) ListSize site s.start s) next)) (λ x d. onto (within (place_of_site T site start) (elements each k start q x d)) to) inv told.0
            (λ z d x inv2 acc. ih z d x inv2 (at_ending (each p c).ending x d (OnElements Sound through each k q) told.1 acc)
            (λ z2 d2 x2 inv3 acc2. h z2 d2 x2 inv3 (ap (λ b. (cond b (accepted p c) (and_then (each p c) (elements each k start q))).ending) e ∙ then_ending (each p c) (elements each k start q) x x2 d d2 acc acc2)))
            ∙ sym (onto_then (within (place_of_site T site start) (each p c)) (λ x d. within (place_of_site T site start) (elements each k start q x d)) to)
            ∙ ap (λ a. onto a to) (sym (within_then (place_of_site T site start) (each p c) (elements each k start q)))

    -- numbers fill the bytes that they divide
    numbers_fill : (w start q m turns_left p : ℕ) (c : List ℕ) → 1 ≤ w → q ≡ p + m * w → m < turns_left → elements (λ x d. taken w start q x d) turns_left start q p c ≡ accepted q c
    unfolding elements
    numbers_fill w start q m zero p c one e less = absurd (omega (arith, less))
    numbers_fill w start q zero (suc k) p c one e less = ap (λ b. cond b (accepted p c) (and_then (taken w start q p c) (elements (λ x d. taken w start q x d) k start q))) (is_eq p q (sym (e ∙ omega arith))) ∙ ap (λ x. accepted x c) (sym (e ∙ omega arith))
    numbers_fill w start q (suc m) (suc k) p c one e less =
        let step : q ≡ p + w + m * w = e ∙ more m w p in
        ap (λ b. cond b (accepted p c) (and_then (taken w start q p c) (elements (λ x d. taken w start q x d) k start q))) (unequal_below p q (omega (arith, one, step)))
        ∙ ap (λ b. and_then (demanded NotEnough b start (p + w) c) (elements (λ x d. taken w start q x d) k start q)) (fits_here (p + w) q (omega (arith, step)))
        ∙ numbers_fill w start q m k (p + w) c one step (omega (arith, less))
      where
        more : (m w p : ℕ) → p + suc m * w ≡ p + w + m * w
        more m w p = ap (λ x. p + x) (next_product m w) ∙ omega arith

        fits_here : (a b : ℕ) → a ≤ b → nat_le a b ≡ true
        fits_here a b h = grind (arith, h)

    -- elements up to the end of the window
    each_runs : (element : Element) (CS : Option ℕ) (site u L : ℕ) (env r c : List ℕ) (p m q o : ℕ) (leave next : State → Passage) (to : ℕ → List ℕ → Passage)
        → q < 2 ^ 32 → Mapped T self site element → length env ≡ L → L ≤ t → t < u → u < length r → q ≡ p + m → IsStepOf element CS → divides CS m ≡ true
        → ElementsPlaced n params (length r) L t element → ((OnAll Sound (terms_of element) env) → registers_from r (suc t) (length (terms_of element)) ≡ values_in (terms_of element) env)
        → OnElements Sound (OnElement Sound throughs element env places message q) (element_meaning sets senses element env places message p q) (suc m) q p c
        → ((z d : List ℕ) (x : ℕ) → length z ≡ length r → ((j : ℕ) → j < L → slice_index z j ≡ slice_index r j) → (elements (element_meaning sets senses element env places message p q) (suc m) p q p c).ending ≡ Accepted x d
        → next (at z d x p o o) ≡ to x d)
        → goes (inner (each_inner t element u site)) leave (closing T calls site next) (at r c p p q o) ≡ onto (within (place_of_site T site p) (elements (element_meaning sets senses element env places message p q) (suc m) p q p c)) to
    each_runs (Number type) CS site u L env r c p m q o leave next to low mp le lt tu ur e sp div x here on h =
        let w = bytes_in type.width in
        let all = whole type.width CS m sp div in
        let told = numbers_fill w p q (m / w) (suc m) p c all.some (e ∙ ap (λ z. p + z) all.is) all.less in
        ap (λ b. onwards T calls (if_so b (at r c q p o o) ListSize site p (at r c q p q o)) next) (same_here q)
        ∙ h r c q refl (λ j l. refl) (ap (λ a. a.ending) told)
        ∙ ap (λ a. onto (within (place_of_site T site p) a) to) (sym told)
    each_runs (Listed base v) CS site u L env r c p m q o leave next to low mp le lt tu ur e sp div x here on h =
        let each : ℕ → List ℕ → Behavior = element_meaning sets senses (Listed base v) env places message p q in
        let Inv : List ℕ → Type 0 = λ z. (length z ≡ length r) × ((j : ℕ) → j < L → slice_index z j ≡ slice_index r j) in
        let body : State → Passage = goes (listed t (order_code base.order) (bytes_in base.width) v site u Done) leave (λ s. plainly (Turned s)) in
        ap (λ k. turns (suc k) body (closing T calls site next) (at r c p p q o)) (room_is p m q e)
        ∙ turns_run Inv each (OnElement Sound throughs (Listed base v) env places message q) body site p q o next to
        (λ z d x2 G X inv th k.
        let run = listed_runs T self message places calls D t dt sets senses throughs ty n params setted called base v t u site z d x2 p q o tu (omega (arith, ur, inv.0)) in
        ap (again G) (run.by Done leave (λ s. plainly (Turned s)) (λ x3 d3. plainly (Turned (at run.regs d3 x3 p q o))) (λ acc. refl))
        ∙ again_onto G (place_of_site T site p) (each x2 d) (λ x3 d3. at run.regs d3 x3 p q o)
        ∙ onto_on (within (place_of_site T site p) (each x2 d)) (λ x3 d3. G (at run.regs d3 x3 p q o)) X
        (within_on (place_of_site T site p) (each x2 d) (λ x3 d3. G (at run.regs d3 x3 p q o) ≡ X x3 d3) (λ x3 d3 acc. k run.regs d3 x3 (run.count ∙ inv.0, λ j l. run.low j (omega (arith, l, lt)) ∙ inv.1 j l) acc)))
        (suc m) p r c (refl, λ j l. refl) on
        (λ z d x2 inv acc. h z d x2 inv.0 inv.1 acc)
    each_runs (Named d args own) CS site u L env r c p m q o leave next to low mp le lt tu ur e sp div x here on h =
        let each : ℕ → List ℕ → Behavior = element_meaning sets senses (Named d args own) env places message p q in
        let Inv : List ℕ → Type 0 = λ z. z ≡ r in
        let body : State → Passage = λ s. back T site s (λ s. plainly (Turned s)) (calls (suc t) d site s) in
        ap (λ k. turns (suc k) body (closing T calls site next) (at r c p p q o)) (room_is p m q e)
        ∙ turns_run Inv each (OnElement Sound throughs (Named d args own) env places message q) body site p q o next to
        (λ z f x2 G X inv th k.
        let s = at z f x2 p q o in
        ap (λ w. again G (back T site s (λ s. plainly (Turned s)) w))
        (call_is T self message places calls D t dt sets senses throughs ty n params setted called d args own (suc t) site env s low mp x.0 x.1.0 (ap (λ w. registers_from w (suc t) (length args)) inv ∙ here th.0) th.1)
        ∙ turn_onto T site s G (each x2 f)
        ∙ onto_on (within (place_of_site T site p) (each x2 f)) (λ x3 d3. G (at z d3 x3 p q o)) X
        (within_on (place_of_site T site p) (each x2 f) (λ x3 d3. G (at z d3 x3 p q o) ≡ X x3 d3) (λ x3 d3 acc. k z d3 x3 inv acc)))
        (suc m) p r c refl on
        (λ z f x2 inv acc. h z f x2 (ap length inv) (λ j l. ap (λ w. slice_index w j) inv) acc)
    each_runs UnitElement CS site u L env r c p m q o leave next to low mp le lt tu ur e sp div x here on h = absurd x
    each_runs Rest CS site u L env r c p m q o leave next to low mp le lt tu ur e sp div x here on h = absurd x
    each_runs Zeros CS site u L env r c p m q o leave next to low mp le lt tu ur e sp div x here on h = absurd x

    even_runs : (size : Option ℕ) (site u : ℕ) (x : Inner) (r c : List ℕ) (p m q o : ℕ) (leave next : State → Passage) (E : ℕ → List ℕ → Behavior) (to : ℕ → List ℕ → Passage)
        → slice_index r u ≡ m
        → (divides size m ≡ true → goes (inner x) leave next (at r c p p q o) ≡ onto (within (place_of_site T site p) (E p c)) to)
        → goes (inner (evenly t size u site x)) leave next (at r c p p q o) ≡ onto (within (place_of_site T site p) (and_then (demanded ListSize (divides size m) p p c) E)) to
    even_runs None site u x r c p m q o leave next E to e h = h refl
    even_runs (Some zero) site u x r c p m q o leave next E to e h = h refl
    even_runs (Some (suc k)) site u x r c p m q o leave next E to e h =
        ap (λ v. onwards T calls (where_so (nat_eq (v % suc k) 0) 1 (at r c p p q o) ListSize site) (goes (inner x) leave next)) e ∙ by (nat_eq (m % suc k) 0) refl
      where
        by : (b : Bool) → nat_eq (m % suc k) 0 ≡ b → onwards T calls (where_so b 1 (at r c p p q o) ListSize site) (goes (inner x) leave next) ≡ onto (within (place_of_site T site p) (and_then (demanded ListSize b p p c) E)) to
        by true y = h y
        by false y = refl

    uneven_runs : (size : Option ℕ) (site : ℕ) (x : Inner) (r c : List ℕ) (p m q o : ℕ) (leave next : State → Passage) (E : ℕ → List ℕ → Behavior) (to : ℕ → List ℕ → Passage)
        → (divides size m ≡ true → goes (inner x) leave next (at r c p p q o) ≡ onto (within (place_of_site T site p) (E p c)) to)
        → goes (inner (cond (divides size m) x (Uneven site))) leave next (at r c p p q o) ≡ onto (within (place_of_site T site p) (and_then (demanded ListSize (divides size m) p p c) E)) to
    uneven_runs size site x r c p m q o leave next E to h = by (divides size m) refl
      where
        by : (b : Bool) → divides size m ≡ b → goes (inner (cond b x (Uneven site))) leave next (at r c p p q o) ≡ onto (within (place_of_site T site p) (and_then (demanded ListSize b p p c) E)) to
        by true y = h y
        by false y = refl

    -- an array, by a size in a register or a constant one
    pub fill_runs : (z0 : Option ℕ) (element : Element) (size : Term) (CS : Option ℕ) → constant_of size ≡ z0 → (site L : ℕ) (env r c : List ℕ) (p end o : ℕ) (k : Steps) (leave go : State → Passage) (next : ℕ → List ℕ → Passage)
        → end < 2 ^ 32 → Mapped T self site element → length env ≡ L → L ≤ D → suc (suc t + length (terms_of element)) < length r → SizePlaced (length r) L (suc t + length (terms_of element)) size z0 → ElementsPlaced n params (length r) L t element → IsStepOf element CS
        → Follows (λ j. element_names j element) env r → Follows (λ j. names j size) env r
        → OnShape Sound sets senses throughs element (Filling size CS) env places message end p c
        → ((q : ℕ) (z d : List ℕ) (u : ℕ) → length z ≡ length r → ((j : ℕ) → j < L → slice_index z j ≡ slice_index r j)
        → (filled (element_meaning sets senses element env places message p) CS (natural_of size env) end p c).ending ≡ Accepted q d → goes (steps k) leave go (at z d q p end u) ≡ next q d)
        → goes (steps (filling_step t z0 CS element size site k)) leave go (at r c p p end o)
        ≡ onto (within (place_of_site T site p) (filled (element_meaning sets senses element env places message p) CS (natural_of size env) end p c)) next
    fill_runs z0 element size CS ze site L env r c p end o k leave go next small mp le ld room x y sp f g on h =
        let args = terms_of element in
        let u = suc t + length args in
        let m = natural_of size env in
        let each : ℕ → ℕ → List ℕ → Behavior = element_meaning sets senses element env places message p in
        let E : ℕ → ℕ → List ℕ → Behavior = λ q. elements (each q) (suc m) p q in
        let F : ℕ → List ℕ → Behavior = λ q c. and_then (demanded ListSize (divides CS m) p p c) (E q) in
        let K : State → Passage = goes (steps k) leave go in
        let gave = give T self message places calls D t dt args env L (suc t) (at r c p p end o) le (omega (arith, ld, dt)) (args_placed element n params (length r) L t y)
        (follows_some (λ j. some_name j args) (λ j. element_names j element) env r (args_named element) f) in
        let ready : (z : List ℕ) (v : ℕ) → length z ≡ length r → ((j : ℕ) → j < u → slice_index z j ≡ slice_index gave.regs j) → t < v → v < length z → nat_le (p + m) end ≡ true → divides CS m ≡ true
        → goes (inner (each_inner t element v site)) leave (closing T calls site K) (at z c p p (p + m) end) ≡ onto (within (place_of_site T site p) (E (p + m) p c)) next =
        λ z v count same tv vz e1 e2.
        let first : (taken m p end p c).ending ≡ Accepted (p + m) c = ap (λ b. (demanded NotEnough b p (p + m) c).ending) e1 in
        let second : (demanded ListSize (divides CS m) p p c).ending ≡ Accepted p c = ap (λ b. (demanded ListSize b p p c).ending) e2 in
        each_runs element CS site v L env z c p m (p + m) end leave K next (omega (arith, small, leb-true (p + m) end e1)) mp le (omega (arith, ld, dt)) tv vz refl sp e2 (subst (λ w. ElementsPlaced n params w L t element) (sym count) y)
        (λ all. picked_same (length args) (suc t) gave.regs z (λ j l w. same j (omega (arith, w, exprs_length args))) ∙ gave.here all)
        (at_ending (demanded ListSize (divides CS m) p p c).ending p c (OnElements Sound (OnElement Sound throughs element env places message (p + m)) (each (p + m)) (suc m) (p + m))
        (at_ending (taken m p end p c).ending (p + m) c (λ q cells. OnEnding (demanded ListSize (divides CS m) p p cells).ending (OnElements Sound (OnElement Sound throughs element env places message q) (each q) (suc m) q)) on.1 first) second)
        (λ z2 d2 x2 cnt low acc. h x2 z2 d2 end (cnt ∙ count) (λ j l. low j l ∙ same j (omega (arith, l, ld, dt)) ∙ gave.low j (omega (arith, l, ld, dt)))
        (then_ending (taken m p end p c) F (p + m) x2 c d2 first (then_ending (demanded ListSize (divides CS m) p p c) (E (p + m)) p x2 c d2 second acc))) in
        elim z0 as (λ z0. SizePlaced (length r) L (suc t + length (terms_of element)) size z0 → constant_of size ≡ z0
        → goes (steps (filling_step t z0 CS element size site k)) leave go (at r c p p end o) ≡ onto (within (place_of_site T site p) (filled each CS m end p c)) next) [
          | None ↦ λ x ze.
              let put = put_value T self message places calls size env L u (at gave.regs c p p end o) le (omega (arith, ld, dt)) (subst (λ w. IsExpr w L u size) (sym gave.count) x) on.0
              (follows_kept (λ j. names j size) env r gave.regs (λ j l. gave.low j (omega (arith, l, le, ld, dt))) g) in
              let B = inner (evenly t CS u site (each_inner t element (suc u) site)) in
              gave.by (value u (expr_of size) (Window (i.Narrow u site) site B (steps k))) leave go
              ∙ put.by (Window (i.Narrow u site) site B (steps k)) leave go
              ∙ ap (λ v. onwards T calls (if_so (nat_le (p + v) end) (at put.regs c p p (p + v) end) NotEnough site p (at put.regs c p p end o)) (goes B leave (closing T calls site K))) put.at
              ∙ window_runs T self message places calls B site put.regs c p m end o leave K F next
              (λ e1. even_runs CS site u (each_inner t element (suc u) site) put.regs c p m (p + m) end leave (closing T calls site K) (E (p + m)) next put.at
              (λ e2. ready put.regs (suc u) (put.count ∙ gave.count) (λ j l. put.low j l) (omega arith) (omega (arith, room, put.count, gave.count)) e1 e2))
          | Some m0 ↦ λ x ze.
              let same : m0 ≡ m = sym (ap natural (constant_is size m0 env ze)) in
              let X : ℕ → Inner = λ v. cond (divides CS v) (each_inner t element u site) (Uneven site) in
              let B = inner (X m) in
              ap (λ v. goes (values (suc t) (exprs_of args) (steps (constant_step t v site (X v) k))) leave go (at r c p p end o)) same
              ∙ gave.by (steps (constant_step t m site (X m) k)) leave go
              ∙ never_or T self message places (nat_lt m (2 ^ 32)) site gave.regs c p m end o refl F next (goes (steps (ByConstant m site (X m) k)) leave go (at gave.regs c p p end o)) (λ b. goes (steps (cond b (ByConstant m site (X m) k) (Never site))) leave go (at gave.regs c p p end o)) refl refl small
              (window_runs T self message places calls B site gave.regs c p m end o leave K F next
              (λ e1. uneven_runs CS site (each_inner t element u site) gave.regs c p m (p + m) end leave (closing T calls site K) (E (p + m)) next
              (λ e2. ready gave.regs u gave.count (λ j l. refl) (omega arith) (omega (arith, room, gave.count)) e1 e2)))
        ] x ze
