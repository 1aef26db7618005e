-- The code of an array of a single element.
use Rattle.std.proofs.Common.{◌≡◌, ℕ, suc, ◌+◌, ◌-◌, ◌^◌, ◌<◌, ◌≤◌, Bool, true, false, cond, List, length, map, refl, sym, ap, ◌∙◌, subst, arith, nat_eq, nat_le, nat_lt, slice_index, slice_set, Option, Some, None}
use Rattle.std.proofs.lemmas.List.{get_or-set_same, get_or-set_other}
use Rattle.std.proofs.Math.ListN.{length-set}
use Rattle.std.proofs.lemmas.Bool.{eqb-true, leb-true}
use Rattle.td_lower_means.specs.Imports.{Width, NameId, Element, Number, Listed, Named, Unit as UnitElement, Rest, Zeros, OnceFilling, NotEnough, ListSize, Parts}
use Rattle.td_expr.specs.Same.{constant_of}
use Rattle.td_expr.proofs.Folding.{constant_is}
use Rattle.td_expr.specs.Value.{natural}
use Rattle.td_num.specs.Numbers.{bytes_in}
use Rattle.td_num.specs.Lists.{is_among, first_where, looked_at}
use Rattle.td_core.specs.Term.{Term}
use Rattle.td_core.specs.Outcome.{Behavior, Accepted, and_then, within, accepted}
use Rattle.td_expr.specs.Sound.{Sound}
use Rattle.td_expr.specs.Naming.{names}
use Rattle.td_meaning.specs.Naming.{some_name, element_names}
use Rattle.td_meaning.specs.Doing.{natural_of}
use Rattle.td_meaning.specs.Meaning.{Sense, values as values_in, taken, demanded, values_of, element_meaning, filled_once, equals, zeros_end, numbers_at, is_nonzero, byte_type, run_of}
use Rattle.td_meaning.specs.Throughout.{Through, OnEnding, OnAll, OnShape, OnElement}
use Rattle.td_ir.specs.declared.instructions.Instr.TheVariants as i
use Rattle.td_lower_blocks.specs.Block.{Block, Done, Window}
use Rattle.td_lower_blocks.specs.Constructs.{Steps, steps, value, values, inner, Inner, Uneven, ByConstant, Never}
use Rattle.td_lower_blocks.specs.Placed.{IsExpr, ArgsPlaced, OnePlaced, SizePlaced}
use Rattle.td_ir.specs.State.{State, registers_from}
use Rattle.td_lower_means.proofs.BlockRun.{Passage, touching, onwards, if_so, back, failed, Calling, ran, passage_of, onto}
use Rattle.td_ir.specs.Values.{bit, operated}
use Rattle.td_ir.specs.Flow.{zeros_flow}
use Rattle.td_core.specs.Sizes.{IsStepOf}
use Rattle.td_lower_blocks.specs.Lowered.{expr_of, exprs_of, terms_of, exactly as exactly_code, one_inner, once_filling_step, constant_step}
use Rattle.td_lower_blocks.specs.Tabled.{Mapped}
use Rattle.td_lower_means.proofs.Looking.{zeros_look}
use Rattle.td_lower_means.proofs.Ontos.{onto_then, onto_after, within_then, onto_on, within_on}
use Rattle.td_lower_means.proofs.Acts.{Follows, follows_kept, follows_some, put_value, not_of}
use Rattle.td_lower_means.proofs.Parts.{then_ending}
use Rattle.td_lower_means.proofs.Shapes.{at, listed_runs, call_is, give, picked_same, back_onto}
use Rattle.td_lower_means.proofs.Windows.{exprs_length, args_named, never_or, closing, window_runs}
use Rattle.td_ir.specs.Tables.{set_of, cells_by}
use Rattle.td_ir.specs.Run.{place_of_site}
use Rattle.td_meaning.proofs.Filling.{on_accepted as at_ending}

one_args_placed : (element : Element) (n : ℕ) (params : ℕ → ℕ) (R L t : ℕ) → OnePlaced n params R L t element → ArgsPlaced R L (suc t) (terms_of element)
one_args_placed (Number type) n params R L t x = tt
one_args_placed (Listed base v) n params R L t x = tt
one_args_placed (Named d args own) n params R L t x = x.1.1
one_args_placed UnitElement n params R L t x = tt
one_args_placed Rest n params R L t x = tt
one_args_placed Zeros n params R L t x = tt

same_bytes : (w : Width) (CS : Option ℕ) (m : ℕ) → CS ≡ Some (bytes_in w) → equals CS m ≡ true → bytes_in w ≡ m
same_bytes w CS m e h = eqb-true (bytes_in w) m (ap (λ o. equals o m) (sym e) ∙ h)

turned_equal : (a b : ℕ) → nat_eq a b ≡ nat_eq b a
turned_equal a b = grind arith

bit_is : (b : Bool) → nat_eq (bit b) 0 ≡ not_of b
bit_is true = refl
bit_is false = refl

module _ (T : Parts) (self : ℕ) (message places : List ℕ) (calls : Calling) (D t : ℕ) (dt : D ≤ t) where
  abbrev goes : Block → (State → Passage) → (State → Passage) → State → Passage
  goes = ran T self message places calls

  module _ (sets : List (List ℕ)) (senses : ℕ → Sense) (throughs : ℕ → Through) (ty : NameId) (n : ℕ) (params : ℕ → ℕ)
      (setted : (v x : ℕ) → is_among (set_of T v) x ≡ is_among (values_of sets v) x)
      (called : (d first m : ℕ) (s : State) (args : List ℕ) → s.end < 2 ^ 32 → d < n → params d ≡ length args → registers_from s.regs first (length args) ≡ args
      → throughs d args (map (slice_index places) (cells_by T self d m)) s.cells message s.pos s.end
      → calls first d m s ≡ passage_of (senses d args (map (slice_index places) (cells_by T self d m)) s.cells message s.pos s.end)) where
    exact_runs : (size : Option ℕ) (site u : ℕ) (x : Inner) (r c : List ℕ) (p m q o : ℕ) (leave next : State → Passage) (E : ℕ → List ℕ → Behavior) (to : ℕ → List ℕ → Passage)
        → slice_index r u ≡ m → suc u < length r
        → (equals size m ≡ true → (z : List ℕ) → length z ≡ length r → ((j : ℕ) → j < suc u → slice_index z j ≡ slice_index r j) → goes (inner x) leave next (at z c p p q o) ≡ onto (within (place_of_site T site p) (E p c)) to)
        → goes (inner (exactly_code t size u site x)) leave next (at r c p p q o) ≡ onto (within (place_of_site T site p) (and_then (demanded ListSize (equals size m) p p c) E)) to
    exact_runs None site u x r c p m q o leave next E to e room h = h refl r refl (λ j l. refl)
    exact_runs (Some k) site u x r c p m q o leave next E to e room h = by (nat_eq k m) refl
      where
        r1 : List ℕ
        r1 = slice_set r (suc u) k

        r2 : List ℕ
        r2 = slice_set r1 (suc u) (operated 10 (slice_index r1 u) (slice_index r1 (suc u)))

        there : slice_index r2 (suc u) ≡ bit (nat_eq m k)
        there =
            get_or-set_same r1 (suc u) (operated 10 (slice_index r1 u) (slice_index r1 (suc u))) 0 (omega (arith, room, length-set r (suc u) k))
            ∙ ap (λ z. bit (nat_eq z (slice_index r1 (suc u)))) (get_or-set_other r (suc u) u k 0 (λ z. absurd (omega (arith, z))) ∙ e)
            ∙ ap (λ z. bit (nat_eq m z)) (get_or-set_same r (suc u) k 0 room)

        keep : (j : ℕ) → j < suc u → slice_index r2 j ≡ slice_index r j
        keep j l = get_or-set_other r1 (suc u) j (operated 10 (slice_index r1 u) (slice_index r1 (suc u))) 0 (λ z. absurd (omega (arith, l, z))) ∙ get_or-set_other r (suc u) j k 0 (λ z. absurd (omega (arith, l, z)))

        by : (b : Bool) → nat_eq k m ≡ b
            → cond (nat_eq (slice_index r2 (suc u)) 0) (failed T ListSize site p (at r2 c p p q o)) (goes (inner x) leave next (at r2 c p p q o)) ≡ onto (within (place_of_site T site p) (and_then (demanded ListSize b p p c) E)) to
        by true y = ap (λ z. cond z (failed T ListSize site p (at r2 c p p q o)) (goes (inner x) leave next (at r2 c p p q o))) (ap (λ v. nat_eq v 0) (there ∙ ap bit (turned_equal m k ∙ y)) ∙ bit_is true)
            ∙ h y r2 (length-set r1 (suc u) (operated 10 (slice_index r1 u) (slice_index r1 (suc u))) ∙ length-set r (suc u) k) keep
        by false y = ap (λ z. cond z (failed T ListSize site p (at r2 c p p q o)) (goes (inner x) leave next (at r2 c p p q o))) (ap (λ v. nat_eq v 0) (there ∙ ap bit (turned_equal m k ∙ y)) ∙ bit_is false)

    unequal_runs : (size : Option ℕ) (site : ℕ) (x : Inner) (r c : List ℕ) (p m q o : ℕ) (leave next : State → Passage) (E : ℕ → List ℕ → Behavior) (to : ℕ → List ℕ → Passage)
        → (equals size m ≡ true → goes (inner x) leave next (at r c p p q o) ≡ onto (within (place_of_site T site p) (E p c)) to)
        → goes (inner (cond (equals size m) x (Uneven site))) leave next (at r c p p q o) ≡ onto (within (place_of_site T site p) (and_then (demanded ListSize (equals size m) p p c) E)) to
    unequal_runs size site x r c p m q o leave next E to h = by (equals size m) refl
      where
        by : (b : Bool) → equals size m ≡ b → goes (inner (cond b x (Uneven site))) leave next (at r c p p q o) ≡ onto (within (place_of_site T site p) (and_then (demanded ListSize b p p c) E)) to
        by true y = h y
        by false y = refl

    -- one element, and what follows it
    one_runs : (element : Element) (CS : Option ℕ) (site u L : ℕ) (env r c : List ℕ) (p m q o : ℕ) (leave after : State → Passage) (to : ℕ → List ℕ → Passage)
        → q < 2 ^ 32 → Mapped T self site element → L ≤ t → t < u → u < length r → q ≡ p + m → IsStepOf element CS → equals CS m ≡ true
        → OnePlaced n params (length r) L t element → ((OnAll Sound (terms_of element) env) → registers_from r (suc t) (length (terms_of element)) ≡ values_in (terms_of element) env)
        → OnElement Sound throughs element env places message q p c
        → ((z d : List ℕ) (x : ℕ) → length z ≡ length r → ((j : ℕ) → j < L → slice_index z j ≡ slice_index r j) → (element_meaning sets senses element env places message p q p c).ending ≡ Accepted x d
        → after (at z d x p q o) ≡ to x d)
        → goes (inner (one_inner t element u site)) leave after (at r c p p q o) ≡ onto (within (place_of_site T site p) (element_meaning sets senses element env places message p q p c)) to
    one_runs (Number type) CS site u L env r c p m q o leave after to low mp lt tu ur e sp div x here on h =
        let w = bytes_in type.width in
        let same : w ≡ m = same_bytes type.width CS m sp div in
        let fits : nat_le (p + w) q ≡ true = fits_in (p + w) q (omega (arith, e, same)) in
        let told : taken w p q p c ≡ accepted q c = ap (λ b. demanded NotEnough b p (p + w) c) fits ∙ ap (λ x. accepted x c) (omega (arith, e, same)) in
        h r c q refl (λ j l. refl) (ap (λ a. a.ending) told) ∙ ap (λ a. onto (within (place_of_site T site p) a) to) (sym told)
      where
        fits_in : (a b : ℕ) → a ≤ b → nat_le a b ≡ true
        fits_in a b h = grind (arith, h)
    one_runs (Listed base v) CS site u L env r c p m q o leave after to low mp lt tu ur e sp div x here on h =
        let run = listed_runs T self message places calls D t dt sets senses throughs ty n params setted called base v t u site r c p p q o tu ur in
        run.by Done leave after to (λ acc. h run.regs c (p + bytes_in base.width) run.count (λ j l. run.low j (omega (arith, l, lt))) acc)
    one_runs (Named d args own) CS site u L env r c p m q o leave after to low mp lt tu ur e sp div x here on h =
        let a = element_meaning sets senses (Named d args own) env places message p q p c in
        let s = at r c p p q o in
        ap (back T site s after) (call_is T self message places calls D t dt sets senses throughs ty n params setted called d args own (suc t) site env s low mp x.0 x.1.0 (here on.0) on.1)
        ∙ back_onto T self message places calls D t dt site s after a
        ∙ onto_on (within (place_of_site T site p) a) (λ x2 d2. after (at r d2 x2 p q o)) to (within_on (place_of_site T site p) a (λ x2 d2. after (at r d2 x2 p q o) ≡ to x2 d2) (λ x2 d2 acc. h r d2 x2 refl (λ j l. refl) acc))
    one_runs UnitElement CS site u L env r c p m q o leave after to low mp lt tu ur e sp div x here on h = h r c p refl (λ j l. refl) refl
    one_runs Rest CS site u L env r c p m q o leave after to low mp lt tu ur e sp div x here on h = h r c q refl (λ j l. refl) refl
    one_runs Zeros CS site u L env r c p m q o leave after to low mp lt tu ur e sp div x here on h =
        zeros_look T self message places calls site (at r c p p q o) after ∙ by first refl ∙ sym (onto_after R (within (place_of_site T site p) (zeros_end first q p c)) to)
      where
        first : Option ℕ
        first = first_where is_nonzero (numbers_at byte_type message p (q - p))

        R : List ℕ
        R = run_of byte_type p (looked_at first (q - p))

        by : (z : Option ℕ) → first ≡ z → touching R (onwards T calls (zeros_flow 1 site z (at r c p p q o)) after) ≡ touching R (onto (within (place_of_site T site p) (zeros_end z q p c)) to)
        by None e = ap (touching R) (h r c q refl (λ j l. refl) (ap (λ z. (zeros_end z q p c).ending) e))
        by (Some y) e = refl

    -- a single element, by a size in a register or a constant one
    pub once_fill_runs : (z0 : Option ℕ) (element : Element) (size : Term) (CS : Option ℕ) → constant_of size ≡ z0 → (site L : ℕ) (env r c : List ℕ) (p end o : ℕ) (k : Steps) (leave go : State → Passage) (next : ℕ → List ℕ → Passage)
        → end < 2 ^ 32 → Mapped T self site element → length env ≡ L → L ≤ D → suc (suc t + length (terms_of element)) + 1 < length r → SizePlaced (length r) L (suc t + length (terms_of element)) size z0 → OnePlaced n params (length r) L t element → IsStepOf element CS
        → Follows (λ j. element_names j element) env r → Follows (λ j. names j size) env r
        → OnShape Sound sets senses throughs element (OnceFilling size CS) env places message end p c
        → ((q : ℕ) (z d : List ℕ) (u : ℕ) → length z ≡ length r → ((j : ℕ) → j < L → slice_index z j ≡ slice_index r j)
        → (filled_once (element_meaning sets senses element env places message p) CS (natural_of size env) end p c).ending ≡ Accepted q d → goes (steps k) leave go (at z d q p end u) ≡ next q d)
        → goes (steps (once_filling_step t z0 CS element size site k)) leave go (at r c p p end o)
        ≡ onto (within (place_of_site T site p) (filled_once (element_meaning sets senses element env places message p) CS (natural_of size env) end p c)) next
    once_fill_runs z0 element size CS ze site L env r c p end o k leave go next small mp le ld room x y sp f g on h =
        let args = terms_of element in
        let u = suc t + length args in
        let m = natural_of size env in
        let each : ℕ → ℕ → List ℕ → Behavior = element_meaning sets senses element env places message p in
        let E : ℕ → ℕ → List ℕ → Behavior = λ q begin c. and_then (each q begin c) (λ x d. demanded ListSize (nat_eq x q) p x d) in
        let F : ℕ → List ℕ → Behavior = λ q c. and_then (demanded ListSize (equals CS m) p p c) (E q) in
        let K : State → Passage = goes (steps k) leave go in
        let gave = give T self message places calls D t dt args env L (suc t) (at r c p p end o) le (omega (arith, ld, dt)) (one_args_placed element n params (length r) L t y)
        (follows_some (λ j. some_name j args) (λ j. element_names j element) env r (args_named element) f) in
        let ready : (z : List ℕ) (v : ℕ) → length z ≡ length r → ((j : ℕ) → j < u → slice_index z j ≡ slice_index gave.regs j) → t < v → v < length z → nat_le (p + m) end ≡ true → equals CS m ≡ true
        → goes (inner (one_inner t element v site)) leave (closing T calls site K) (at z c p p (p + m) end) ≡ onto (within (place_of_site T site p) (E (p + m) p c)) next =
        λ z v count same tv vz e1 e2.
        let first : (taken m p end p c).ending ≡ Accepted (p + m) c = ap (λ b. (demanded NotEnough b p (p + m) c).ending) e1 in
        let second : (demanded ListSize (equals CS m) p p c).ending ≡ Accepted p c = ap (λ b. (demanded ListSize b p p c).ending) e2 in
        let W = closing T calls site K in
        let last : ℕ → List ℕ → Behavior = λ x d. demanded ListSize (nat_eq x (p + m)) p x d in
        one_runs element CS site v L env z c p m (p + m) end leave W (λ x d. onto (within (place_of_site T site p) (last x d)) next) (omega (arith, small, leb-true (p + m) end e1)) mp (omega (arith, ld, dt)) tv vz refl sp e2 (subst (λ w. OnePlaced n params w L t element) (sym count) y)
        (λ all. picked_same (length args) (suc t) gave.regs z (λ j l w. same j (omega (arith, w, exprs_length args))) ∙ gave.here all)
        (at_ending (demanded ListSize (equals CS m) p p c).ending p c (OnElement Sound throughs element env places message (p + m))
        (at_ending (taken m p end p c).ending (p + m) c (λ q cells. OnEnding (demanded ListSize (equals CS m) p p cells).ending (OnElement Sound throughs element env places message q)) on.1 first) second)
        (λ z2 d2 x2 cnt low acc.
        let by : (b : Bool) → nat_eq x2 (p + m) ≡ b → onwards T calls (if_so b (at z2 d2 x2 p end end) ListSize site p (at z2 d2 x2 p (p + m) end)) K ≡ onto (within (place_of_site T site p) (demanded ListSize b p x2 d2)) next =
        λ b w. elim b as (λ b. nat_eq x2 (p + m) ≡ b → onwards T calls (if_so b (at z2 d2 x2 p end end) ListSize site p (at z2 d2 x2 p (p + m) end)) K ≡ onto (within (place_of_site T site p) (demanded ListSize b p x2 d2)) next) [
          | true ↦ λ w. h x2 z2 d2 end (cnt ∙ count) (λ j l. low j l ∙ same j (omega (arith, l, ld, dt)) ∙ gave.low j (omega (arith, l, ld, dt)))
              (then_ending (taken m p end p c) F (p + m) x2 c d2 first (then_ending (demanded ListSize (equals CS m) p p c) (E (p + m)) p x2 c d2 second
              (then_ending (each (p + m) p c) last x2 x2 d2 d2 acc (ap (λ b. (demanded ListSize b p x2 d2).ending) w))))
          | false ↦ λ w. refl
        ] w in
        by (nat_eq x2 (p + m)) refl)
        ∙ sym (onto_then (within (place_of_site T site p) (each (p + m) p c)) (λ x d. within (place_of_site T site p) (last x d)) next)
        ∙ ap (λ a. onto a next) (sym (within_then (place_of_site T site p) (each (p + m) p c) last)) in
        elim z0 as (λ z0. SizePlaced (length r) L (suc t + length (terms_of element)) size z0 → constant_of size ≡ z0
        → goes (steps (once_filling_step t z0 CS element size site k)) leave go (at r c p p end o) ≡ onto (within (place_of_site T site p) (filled_once each CS m end p c)) next) [
          | None ↦ λ x ze.
              let put = put_value T self message places calls size env L u (at gave.regs c p p end o) le (omega (arith, ld, dt)) (subst (λ w. IsExpr w L u size) (sym gave.count) x) on.0
              (follows_kept (λ j. names j size) env r gave.regs (λ j l. gave.low j (omega (arith, l, le, ld, dt))) g) in
              let B = inner (exactly_code t CS u site (one_inner t element (suc u) site)) in
              gave.by (value u (expr_of size) (Window (i.Narrow u site) site B (steps k))) leave go
              ∙ put.by (Window (i.Narrow u site) site B (steps k)) leave go
              ∙ ap (λ v. onwards T calls (if_so (nat_le (p + v) end) (at put.regs c p p (p + v) end) NotEnough site p (at put.regs c p p end o)) (goes B leave (closing T calls site K))) put.at
              ∙ window_runs T self message places calls B site put.regs c p m end o leave K F next
              (λ e1. exact_runs CS site u (one_inner t element (suc u) site) put.regs c p m (p + m) end leave (closing T calls site K) (E (p + m)) next put.at (omega (arith, room, put.count, gave.count))
              (λ e2 z cz sz. ready z (suc u) (cz ∙ put.count ∙ gave.count) (λ j l. sz j (omega (arith, l)) ∙ put.low j l) (omega arith) (omega (arith, room, cz, put.count, gave.count)) e1 e2))
          | Some m0 ↦ λ x ze.
              let same : m0 ≡ m = sym (ap natural (constant_is size m0 env ze)) in
              let X : ℕ → Inner = λ v. cond (equals CS v) (one_inner t element u site) (Uneven site) in
              let B = inner (X m) in
              ap (λ v. goes (values (suc t) (exprs_of args) (steps (constant_step t v site (X v) k))) leave go (at r c p p end o)) same
              ∙ gave.by (steps (constant_step t m site (X m) k)) leave go
              ∙ never_or T self message places (nat_lt m (2 ^ 32)) site gave.regs c p m end o refl F next (goes (steps (ByConstant m site (X m) k)) leave go (at gave.regs c p p end o)) (λ b. goes (steps (cond b (ByConstant m site (X m) k) (Never site))) leave go (at gave.regs c p p end o)) refl refl small
              (window_runs T self message places calls B site gave.regs c p m end o leave K F next
              (λ e1. unequal_runs CS site (one_inner t element u site) gave.regs c p m (p + m) end leave (closing T calls site K) (E (p + m)) next
              (λ e2. ready gave.regs u gave.count (λ j l. refl) (omega arith) (omega (arith, room, gave.count)) e1 e2)))
        ] x ze
