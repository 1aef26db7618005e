-- The code of what stands in a field, once.
use Rattle.std.proofs.Common.{◌≡◌, ℕ, zero, suc, ◌+◌, ◌-◌, ◌^◌, ◌<◌, ◌≤◌, Bool, true, false, cond, List, [], ◌∷◌, length, map, refl, sym, ap, ◌∙◌, subst, arith, nat_eq, nat_le, slice_index, slice_set, Option, Some, None}
use Rattle.std.proofs.lemmas.List.{get_or-set_same, get_or-set_other}
use Rattle.std.proofs.Math.ListN.{length-set}
use Rattle.td_num.specs.Numbers.{bytes_in, ordered_at, number_at, places_from}
use Rattle.td_lower_means.specs.Imports.{NumberType, ByteOrder, LittleEndian, BigEndian, NameId, Element, Number, Listed, Named, Unit as UnitElement, Rest, Zeros, Once, NotEnough, Constraint, Parts}
use Rattle.td_num.specs.Lists.{is_among, first_where, looked_at}
use Rattle.td_core.specs.Term.{Term}
use Rattle.td_core.specs.Outcome.{Behavior, Ending, Accepted, Rejected, and_then, within, after_reading}
use Rattle.td_expr.specs.Sound.{Sound}
use Rattle.td_expr.specs.Naming.{names}
use Rattle.td_meaning.specs.Naming.{some_name, element_names}
use Rattle.td_meaning.specs.Doing.{natural_of}
use Rattle.td_meaning.specs.Meaning.{Sense, values as values_in, taken, demanded, values_of, element_meaning, number_places, zeros_end, numbers_at, is_nonzero, byte_type, run_of}
use Rattle.td_meaning.specs.Throughout.{Through, OnAll, OnElement}
use Rattle.td_ir.specs.declared.instructions.Instr.TheVariants as i
use Rattle.td_lower_blocks.specs.Block.{Block, Then, Stop, Guard}
use Rattle.td_lower_blocks.specs.Constructs.{Steps, steps, values, listed}
use Rattle.td_lower_blocks.specs.Placed.{ArgsPlaced, ElementPlaced}
use Rattle.td_ir.specs.State.{State, registers_from}
use Rattle.td_lower_means.proofs.BlockRun.{Passage, touching, failed, onwards, if_so, back, backward, Calling, ran, passage_of, onto}
use Rattle.td_lower_means.specs.CodeRun.{way_of}
use Rattle.td_ir.specs.Flow.{Effect, Goes, Fails, zeros_flow}
use Rattle.td_ir.specs.Values.{bit, order_of}
use Rattle.td_lower_blocks.specs.Lowered.{expr_of, exprs_of, order_code, once_step}
use Rattle.td_lower_blocks.specs.Tabled.{Mapped}
use Rattle.td_lower_means.proofs.Valued.{value_is}
use Rattle.td_lower_means.proofs.Puts.{puts}
use Rattle.td_lower_means.proofs.Looking.{zeros_look}
use Rattle.td_lower_means.proofs.Ontos.{onto_after, onto_on, within_on}
use Rattle.td_lower_means.proofs.Acts.{Follows, follows_kept, follows_some, placed_low, named_low, not_of}
use Rattle.td_ir.specs.Tables.{set_of, cells_by}
use Rattle.td_ir.specs.Run.{place_of_site}
use Rattle.td_num.proofs.Truths.{or_right, or_left}

pub order_is : (o : ByteOrder) → order_of (order_code o) ≡ o
order_is LittleEndian = refl
order_is BigEndian = refl

pub picked_same : (n a : ℕ) (r q : List ℕ) → ((j : ℕ) → a ≤ j → j < a + n → slice_index q j ≡ slice_index r j) → registers_from q a n ≡ registers_from r a n
picked_same zero a r q h = refl
picked_same (suc n) a r q h =
    ap (λ x. x ∷ registers_from q (a + 1) n) (h a (omega arith) (omega arith)) ∙ ap (λ l. slice_index r a ∷ l) (picked_same n (a + 1) r q (λ j l m. h j (omega (arith, l)) (omega (arith, m))))

abbrev fetched : Bool → List ℕ → State → ℕ → State → Effect
fetched b touched t site s = cond b (record { flow = Goes 1 t; touched = touched; steps = 1 }) (record { flow = Fails NotEnough site s.start s; touched = []; steps = 1 })

-- where there are bytes enough they are read
abbrev fetched_on : Parts → Calling → Bool → List ℕ → State → ℕ → State → (State → Passage) → Passage
fetched_on T calls b touched t site s go = touching (fetched b touched t site s).touched (onwards T calls (fetched b touched t site s).flow go)

-- a state in a field that began at its position
abbrev pub at : (r c : List ℕ) (p start end outer : ℕ) → State
at r c p start end outer = record { regs = r; cells = c; start = start; pos = p; end = end; outer = outer }

module _ (T : Parts) (self : ℕ) (message places : List ℕ) (calls : Calling) (D t : ℕ) (dt : D ≤ t) where
  abbrev goes : Block → (State → Passage) → (State → Passage) → State → Passage
  goes = ran T self message places calls

  -- arguments are put into registers, whether they are sound or not
  pub record Given (es : List Term) (env : List ℕ) (L u : ℕ) (s : State) : Type 0 where
    pub regs : List ℕ
    pub count : length regs ≡ length s.regs
    pub low : (j : ℕ) → j < u → slice_index regs j ≡ slice_index s.regs j
    pub here : OnAll Sound es env → registers_from regs u (length es) ≡ values_in es env
    pub by : (k : Block) (leave go : State → Passage) → goes (values u (exprs_of es) k) leave go s ≡ goes k leave go (record s { regs = regs })

  pub give : (es : List Term) (env : List ℕ) (L u : ℕ) (s : State) → length env ≡ L → L ≤ u → ArgsPlaced (length s.regs) L u es → Follows (λ j. some_name j es) env s.regs → Given es env L u s
  give [] env L u s le lu x f = record { regs = s.regs; count = refl; low = λ j h. refl; here = λ h. refl; by = λ k leave go. refl }
  give (e ∷ es) env L u s le lu x f =
      let p = puts T self message places calls (expr_of e) u s x.0.1.1 (placed_low e L u lu x.0.0) in
      let s1 : State = record s { regs = p.regs } in
      let f1 = follows_some (λ j. some_name j es) (λ j. some_name j (e ∷ es)) env s.regs (λ j m. or_right (names j e) (some_name j es) m) f in
      let q = give es env L (u + 1) s1 le (omega (arith, lu)) (subst (λ n. ArgsPlaced n L (u + 1) es) (sym p.count) x.1) (follows_kept (λ j. some_name j es) env s.regs p.regs (λ j l. p.low j (omega (arith, l, le, lu))) f1) in
      record {
        regs = q.regs;
        count = q.count ∙ p.count;
        low = λ j h. q.low j (omega (arith, h)) ∙ p.low j h;
        here = λ on.
            let v = value_is e env s.regs x.0.1.0 on.0 (λ j h. f j (omega (arith, le, named_low e L j x.0.0 h)) (or_left (names j e) (some_name j es) h)) in
            ap (λ w. w ∷ registers_from q.regs (u + 1) (length es)) (q.low u (omega arith) ∙ p.at ∙ v) ∙ ap (λ l. natural_of e env ∷ l) (q.here on.1);
        by = λ k leave go. p.by (values (u + 1) (exprs_of es) k) leave go ∙ q.by k leave go;
      }

  -- a callee's exit
  pub back_onto : (site : ℕ) (s : State) (go : State → Passage) (a : Behavior) → back T site s go (passage_of a) ≡ onto (within (place_of_site T site s.start) a) (λ q c. go (record s { cells = c; pos = q }))
  back_onto site s go a = by a.ending
    where
      by : (e : Ending) → backward T site s go a.reads (way_of e) ≡ onto (within (place_of_site T site s.start) (record { ending = e; reads = a.reads })) (λ q c. go (record s { cells = c; pos = q }))
      by (Accepted q c) = refl
      by (Rejected reason q trace c) = refl

  module _ (sets : List (List ℕ)) (senses : ℕ → Sense) (throughs : ℕ → Through) (ty : NameId) (n : ℕ) (params : ℕ → ℕ)
      (setted : (v x : ℕ) → is_among (set_of T v) x ≡ is_among (values_of sets v) x)
      (called : (d first m : ℕ) (s : State) (args : List ℕ) → s.end < 2 ^ 32 → d < n → params d ≡ length args → registers_from s.regs first (length args) ≡ args
      → throughs d args (map (slice_index places) (cells_by T self d m)) s.cells message s.pos s.end
      → calls first d m s ≡ passage_of (senses d args (map (slice_index places) (cells_by T self d m)) s.cells message s.pos s.end)) where
    -- a number that was read stands in its slot
    abbrev pub InSlot : (element : Element) (needed : Bool) (slot p : ℕ) → List ℕ → Type 0
    InSlot (Number type) true slot p r = slice_index r slot ≡ number_at type message p
    InSlot (Number type) false slot p r = Unit {0}
    InSlot (Listed base v) needed slot p r = slice_index r slot ≡ number_at base message p
    InSlot (Named d args own) needed slot p r = Unit {0}
    InSlot UnitElement needed slot p r = Unit {0}
    InSlot Rest needed slot p r = Unit {0}
    InSlot Zeros needed slot p r = Unit {0}

    pub length_values : (args : List Term) (env : List ℕ) → length (values_in args env) ≡ length args
    length_values [] env = refl
    length_values (e ∷ es) env = ap suc (length_values es env)

    -- a call of an element
    pub call_is : (d : ℕ) (args : List Term) (own : List ℕ) (u site : ℕ) (env : List ℕ) (s : State) → s.end < 2 ^ 32 → cells_by T self d site ≡ own → d < n → params d ≡ length args → registers_from s.regs u (length args) ≡ values_in args env
        → throughs d (values_in args env) (map (slice_index places) own) s.cells message s.pos s.end
        → calls u d site s ≡ passage_of (senses d (values_in args env) (map (slice_index places) own) s.cells message s.pos s.end)
    call_is d args own u site env s low mapped less count here on =
        let same = length_values args env in
        called d u site s (values_in args env) low less (count ∙ sym same) (ap (registers_from s.regs u) same ∙ here) (subst (λ w. throughs d (values_in args env) (map (slice_index places) w) s.cells message s.pos s.end) (sym mapped) on)
        ∙ ap (λ w. passage_of (senses d (values_in args env) (map (slice_index places) w) s.cells message s.pos s.end)) mapped

    pub call_runs : (d : ℕ) (args : List Term) (own : List ℕ) (u site : ℕ) (env r c : List ℕ) (p start end o : ℕ) (go : State → Passage) → end < 2 ^ 32 → cells_by T self d site ≡ own → d < n → params d ≡ length args → registers_from r u (length args) ≡ values_in args env
        → throughs d (values_in args env) (map (slice_index places) own) c message p end
        → back T site (at r c p start end o) go (calls u d site (at r c p start end o))
        ≡ onto (within (place_of_site T site start) (senses d (values_in args env) (map (slice_index places) own) c message p end)) (λ q c. go (at r c q start end o))
    call_runs d args own u site env r c p start end o go low mapped less count here on =
        ap (back T site (at r c p start end o) go) (call_is d args own u site env (at r c p start end o) low mapped less count here on)
        ∙ back_onto site (at r c p start end o) go (senses d (values_in args env) (map (slice_index places) own) c message p end)

    abbrev pub listed_told : (base : NumberType) (v start end p : ℕ) (c : List ℕ) → Behavior
    listed_told base v start end p c =
        and_then (taken (bytes_in base.width) start end p c) (λ q c. after_reading (places_from p (bytes_in base.width)) (demanded Constraint (is_among (values_of sets v) (number_at base message p)) start q c))

    -- an enum's value: fetched, and tested
    pub record ListedRun (base : NumberType) (v slot u site : ℕ) (r c : List ℕ) (p start end o : ℕ) : Type 0 where
      pub regs : List ℕ
      pub count : length regs ≡ length r
      pub low : (j : ℕ) → j < slot → slice_index regs j ≡ slice_index r j
      pub between : (j : ℕ) → slot < j → j < u → slice_index regs j ≡ slice_index r j
      pub here : slice_index regs slot ≡ number_at base message p
      pub by : (k : Block) (leave go : State → Passage) (next : ℕ → List ℕ → Passage)
          → ((listed_told base v start end p c).ending ≡ Accepted (p + bytes_in base.width) c → goes k leave go (at regs c (p + bytes_in base.width) start end o) ≡ next (p + bytes_in base.width) c)
          → goes (listed slot (order_code base.order) (bytes_in base.width) v site u k) leave go (at r c p start end o) ≡ onto (within (place_of_site T site start) (listed_told base v start end p c)) next

    pub listed_runs : (base : NumberType) (v slot u site : ℕ) (r c : List ℕ) (p start end o : ℕ) → slot < u → u < length r → ListedRun base v slot u site r c p start end o
    listed_runs base v slot u site r c p start end o su ur = record {
      regs = r2;
      count = length-set r1 u (bit (is_among (set_of T v) (slice_index r1 slot))) ∙ length-set r slot (read2);
      low = λ j l. get_or-set_other r1 u j (bit (is_among (set_of T v) (slice_index r1 slot))) 0 (λ z. absurd (omega (arith, l, z, su))) ∙ get_or-set_other r slot j (read2) 0 (λ z. absurd (omega (arith, l, z)));
      between = λ j l m. get_or-set_other r1 u j (bit (is_among (set_of T v) (slice_index r1 slot))) 0 (λ z. absurd (omega (arith, m, z))) ∙ get_or-set_other r slot j (read2) 0 (λ z. absurd (omega (arith, l, z)));
      here = get_or-set_other r1 u slot (bit (is_among (set_of T v) (slice_index r1 slot))) 0 (λ z. absurd (omega (arith, su, z))) ∙ here1;
      by = λ k leave go next h. first k leave go next h (nat_le (p + w) end) refl;
    }
      where
        w : ℕ
        w = bytes_in base.width

        x : ℕ
        x = number_at base message p

        read2 : ℕ
        read2 = ordered_at (order_of (order_code base.order)) message p w

        F : ℕ → List ℕ → Behavior
        F = λ q c. after_reading (places_from p w) (demanded Constraint (is_among (values_of sets v) x) start q c)

        r1 : List ℕ
        r1 = slice_set r slot (read2)

        r2 : List ℕ
        r2 = slice_set r1 u (bit (is_among (set_of T v) (slice_index r1 slot)))

        s1 : State
        s1 = at r1 c (p + w) start end o

        here1 : slice_index r1 slot ≡ x
        here1 = get_or-set_same r slot (read2) 0 (omega (arith, su, ur)) ∙ ap (λ o. ordered_at o message p w) (order_is base.order)

        here2 : slice_index r2 u ≡ bit (is_among (values_of sets v) x)
        here2 =
            get_or-set_same r1 u (bit (is_among (set_of T v) (slice_index r1 slot))) 0 (omega (arith, ur, length-set r slot (read2)))
            ∙ ap bit (setted v (slice_index r1 slot)) ∙ ap (λ z. bit (is_among (values_of sets v) z)) here1

        zero_bit : (b : Bool) → nat_eq (bit b) 0 ≡ not_of b
        zero_bit true = refl
        zero_bit false = refl

        second : (k : Block) (leave go : State → Passage) (next : ℕ → List ℕ → Passage)
            → ((listed_told base v start end p c).ending ≡ Accepted (p + w) c → goes k leave go (at r2 c (p + w) start end o) ≡ next (p + w) c)
            → nat_le (p + w) end ≡ true → (b : Bool) → is_among (values_of sets v) x ≡ b
            → cond (nat_eq (slice_index r2 u) 0) (failed T Constraint site start s1) (goes k leave go (at r2 c (p + w) start end o)) ≡ onto (within (place_of_site T site start) (demanded Constraint b start (p + w) c)) next
        second k leave go next h e1 true e =
            ap (λ z. cond z (failed T Constraint site start s1) (goes k leave go (at r2 c (p + w) start end o))) (ap (λ n. nat_eq n 0) (here2 ∙ ap bit e) ∙ zero_bit true)
            ∙ h (ap (λ b. (and_then (demanded NotEnough b start (p + w) c) F).ending) e1 ∙ ap (λ b. (demanded Constraint b start (p + w) c).ending) e)
        second k leave go next h e1 false e = ap (λ z. cond z (failed T Constraint site start s1) (goes k leave go (at r2 c (p + w) start end o))) (ap (λ n. nat_eq n 0) (here2 ∙ ap bit e) ∙ zero_bit false)

        first : (k : Block) (leave go : State → Passage) (next : ℕ → List ℕ → Passage)
            → ((listed_told base v start end p c).ending ≡ Accepted (p + w) c → goes k leave go (at r2 c (p + w) start end o) ≡ next (p + w) c)
            → (b : Bool) → nat_le (p + w) end ≡ b
            → fetched_on T calls b (places_from p w) s1 site (at r c p start end o) (goes (Then (i.Member u slot v) (Guard true u (Stop (i.Fail 4 site)) k)) leave go)
            ≡ onto (within (place_of_site T site start) (and_then (demanded NotEnough b start (p + w) c) F)) next
        first k leave go next h true e = ap (touching (places_from p w)) (second k leave go next h e (is_among (values_of sets v) x) refl)
            ∙ sym (onto_after (places_from p w) (within (place_of_site T site start) (demanded Constraint (is_among (values_of sets v) x) start (p + w) c)) next)
        first k leave go next h false e = refl

    pub once_runs : (element : Element) (needed : Bool) (slot site L : ℕ) (env r c : List ℕ) (p end o : ℕ) (k : Steps) (leave go : State → Passage) (next : ℕ → List ℕ → Passage)
        → end < 2 ^ 32 → Mapped T self site element → length env ≡ L → L ≤ D → L ≤ slot → slot ≤ t → t < length r → ElementPlaced n params (length r) L (suc t) element → Follows (λ j. element_names j element) env r
        → OnElement Sound throughs element env places message end p c
        → ((q : ℕ) (z d : List ℕ) → length z ≡ length r → ((j : ℕ) → j < L → slice_index z j ≡ slice_index r j) → InSlot element needed slot p z
        → (element_meaning sets senses element env places message p end p c).ending ≡ Accepted q d → goes (steps k) leave go (at z d q p end o) ≡ next q d)
        → goes (steps (once_step t element needed slot site k)) leave go (at r c p p end o)
        ≡ onto (within (place_of_site T site p) (element_meaning sets senses element env places message p end p c)) (λ q d. touching (number_places needed element Once p) (next q d))
    once_runs (Number type) true slot site L env r c p end o k leave go next small mp le ld ls st room x f on h = by (nat_le (p + bytes_in type.width) end) refl
      where
        w : ℕ
        w = bytes_in type.width

        read2 : ℕ
        read2 = ordered_at (order_of (order_code type.order)) message p w

        r1 : List ℕ
        r1 = slice_set r slot (read2)

        by : (b : Bool) → nat_le (p + w) end ≡ b
            → fetched_on T calls b (places_from p w) (at r1 c (p + w) p end o) site (at r c p p end o) (goes (steps k) leave go)
            ≡ onto (within (place_of_site T site p) (demanded NotEnough b p (p + w) c)) (λ q d. touching (places_from p w) (next q d))
        by true e = ap (touching (places_from p w)) (h (p + w) r1 c (length-set r slot (read2))
            (λ j l. get_or-set_other r slot j (read2) 0 (λ z. absurd (omega (arith, l, z, ls))))
            (get_or-set_same r slot (read2) 0 (omega (arith, st, room)) ∙ ap (λ o. ordered_at o message p w) (order_is type.order))
            (ap (λ b. (demanded NotEnough b p (p + w) c).ending) e))
        by false e = refl
    once_runs (Number type) false slot site L env r c p end o k leave go next small mp le ld ls st room x f on h = by (nat_le (p + bytes_in type.width) end) refl
      where
        by : (b : Bool) → nat_le (p + bytes_in type.width) end ≡ b
            → onwards T calls (if_so b (at r c (p + bytes_in type.width) p end o) NotEnough site p (at r c p p end o)) (goes (steps k) leave go)
            ≡ onto (within (place_of_site T site p) (demanded NotEnough b p (p + bytes_in type.width) c)) next
        by true e = h (p + bytes_in type.width) r c refl (λ j l. refl) tt (ap (λ b. (demanded NotEnough b p (p + bytes_in type.width) c).ending) e)
        by false e = refl
    once_runs (Listed base v) needed slot site L env r c p end o k leave go next small mp le ld ls st room x f on h =
        let q = listed_runs base v slot (suc t) site r c p p end o (omega (arith, st)) x in
        q.by (steps k) leave go next (λ e. h (p + bytes_in base.width) q.regs c q.count (λ j l. q.low j (omega (arith, l, ls))) q.here e)
    once_runs (Named d args own) needed slot site L env r c p end o k leave go next small mp le ld ls st room x f on h =
        let a = senses d (values_in args env) (map (slice_index places) own) c message p end in
        let g = give args env L (suc t) (at r c p p end o) le (omega (arith, ld, dt)) x.1.1 f in
        g.by (Then (i.Call (suc t) d site site) (steps k)) leave go
        ∙ call_runs d args own (suc t) site env g.regs c p p end o (goes (steps k) leave go) small mp x.0 x.1.0 (g.here on.0) on.1
        ∙ onto_on (within (place_of_site T site p) a) (λ q c. goes (steps k) leave go (at g.regs c q p end o)) next
        (within_on (place_of_site T site p) a (λ q c. goes (steps k) leave go (at g.regs c q p end o) ≡ next q c)
        (λ q d e. h q g.regs d g.count (λ j l. g.low j (omega (arith, l, ld, dt))) tt e))
    once_runs UnitElement needed slot site L env r c p end o k leave go next small mp le ld ls st room x f on h = h p r c refl (λ j l. refl) tt refl
    once_runs Rest needed slot site L env r c p end o k leave go next small mp le ld ls st room x f on h = h end r c refl (λ j l. refl) tt refl
    once_runs Zeros needed slot site L env r c p end o k leave go next small mp le ld ls st room x f on h =
        zeros_look T self message places calls site (at r c p p end o) (goes (steps k) leave go) ∙ by first refl ∙ sym (onto_after R (within (place_of_site T site p) (zeros_end first end p c)) next)
      where
        first : Option ℕ
        first = first_where is_nonzero (numbers_at byte_type message p (end - p))

        R : List ℕ
        R = run_of byte_type p (looked_at first (end - p))

        by : (z : Option ℕ) → first ≡ z → touching R (onwards T calls (zeros_flow 1 site z (at r c p p end o)) (goes (steps k) leave go)) ≡ touching R (onto (within (place_of_site T site p) (zeros_end z end p c)) next)
        by None e = ap (touching R) (h end r c refl (λ j l. refl) tt (ap (λ z. (zeros_end z end p c).ending) e))
        by (Some m) e = refl
