-- The code of what stands in a field.
use Rattle.std.proofs.Common.{◌≡◌, ℕ, zero, suc, ◌+◌, ◌-◌, ◌*◌, ◌/◌, ◌^◌, ◌<◌, ◌≤◌, Bool, true, false, cond, List, [], length, map, refl, sym, ap, ◌∙◌, arith, nat_eq, nat_le, nat_lt, slice_index, slice_set, Option, Some, None, min, bit_or}
use Rattle.std.proofs.lemmas.List.{append-nil, get_or-set_same, get_or-set_other}
use Rattle.std.proofs.Math.ListN.{length-set}
use Rattle.td_lower_means.specs.Imports.{Width, ByteOrder, LittleEndian, BigEndian, NumberType, NameId, Element, Number, Listed, Named, Unit as UnitElement, Rest, Zeros, CopyOut, Extent, Once, Filling, OnceFilling, UpToZero, Given, Source, Expression, FromCell, Left, NotEnough, ListSize, Parts}
use Rattle.std.specs.Int.Bits.{or_self}
use Rattle.td_expr.specs.Same.{constant_of}
use Rattle.td_expr.proofs.Folding.{constant_is}
use Rattle.td_expr.specs.Value.{natural}
use Rattle.td_num.specs.Numbers.{places_from, bytes_in, number_at, falling_on, rising_at}
use Rattle.td_num.specs.Lists.{is_among, first_where, looked_at, one_more}
use Rattle.td_core.specs.Term.{Term}
use Rattle.td_core.specs.Outcome.{Behavior, Accepted, after_reading, and_then, within, accepted}
use Rattle.td_expr.specs.Sound.{Sound}
use Rattle.td_expr.specs.Naming.{names}
use Rattle.td_meaning.specs.Naming.{element_names, extent_names, source_names}
use Rattle.td_meaning.specs.Doing.{natural_of}
use Rattle.td_meaning.specs.Meaning.{Sense, demanded, values_of, given_value, element_meaning, shape_meaning, with_copy, copied_meaning, content_meaning, number_places, filled, filled_once, numbers_at, run_of, up_to_zero, zero_end}
use Rattle.td_meaning.specs.Throughout.{Through, OnSource, OnShape, OnContent, spare}
use Rattle.td_meaning.proofs.Meaning64.{has_room}
use Rattle.td_ir.specs.declared.instructions.Instr.TheVariants as i
use Rattle.td_lower_blocks.specs.Block.{Block, Then}
use Rattle.td_lower_blocks.specs.Constructs.{Steps, steps, value, inner, Inner, CopyAll, ByConstant, Never}
use Rattle.td_lower_blocks.specs.Placed.{IsExpr, SourcePlaced, ShapePlaced, CopyPlaced}
use Rattle.td_ir.specs.State.{State, registers_from}
use Rattle.td_lower_means.proofs.BlockRun.{Passage, touching, onwards, if_so, Calling, ran, passage_of, onto}
use Rattle.td_ir.specs.Flow.{Effect, Goes, Fails, copied, zeroterm_flow}
use Rattle.td_lower_blocks.specs.Lowered.{expr_of, source_step, shape_step, copied_step, content_step, constant_step}
use Rattle.td_lower_blocks.specs.Tabled.{Mapped, Buffered}
use Rattle.td_lower_means.proofs.Valued.{nonzero}
use Rattle.td_lower_means.proofs.Looking.{zeroterm_look}
use Rattle.td_lower_means.proofs.Ontos.{onto_after, onto_all}
use Rattle.td_lower_means.proofs.Acts.{Follows, put_value}
use Rattle.td_lower_means.proofs.Shapes.{at, InSlot, once_runs}
use Rattle.td_lower_means.proofs.Windows.{never_or, closing, window_runs}
use Rattle.td_lower_means.proofs.Filled.{fill_runs}
use Rattle.td_lower_means.proofs.Single.{once_fill_runs}
use Rattle.td_ir.specs.Tables.{routine_of, set_of, cells_by}
use Rattle.td_ir.specs.Run.{place_of_site}
use Rattle.td_num.proofs.Equals.{equal_itself as same_here}
use Rattle.td_num.proofs.Truths.{is_eq}

once_places : (needed : Bool) (element : Element) (size : Term) (step : Option ℕ) (p : ℕ) → number_places needed element (OnceFilling size step) p ≡ []
once_places needed (Number type) size step p = refl
once_places needed (Listed base v) size step p = refl
once_places needed (Named d args own) size step p = refl
once_places needed UnitElement size step p = refl
once_places needed Rest size step p = refl
once_places needed Zeros size step p = refl

no_places : (needed : Bool) (element : Element) (size : Term) (step : Option ℕ) (p : ℕ) → number_places needed element (Filling size step) p ≡ []
no_places needed (Number type) size step p = refl
no_places needed (Listed base v) size step p = refl
no_places needed (Named d args own) size step p = refl
no_places needed UnitElement size step p = refl
no_places needed Rest size step p = refl
no_places needed Zeros size step p = refl

given_places : (needed : Bool) (element : Element) (source : Source) (p : ℕ) → number_places needed element (Given source) p ≡ []
given_places needed (Number type) source p = refl
given_places needed (Listed base v) source p = refl
given_places needed (Named d args own) source p = refl
given_places needed UnitElement source p = refl
given_places needed Rest source p = refl
given_places needed Zeros source p = refl

-- a number is 0 in one order of its bytes where it is in the other
zero_step : (n x y : ℕ) → cond (nat_eq (256 * n + x) 0) (nat_eq y 0) false ≡ cond (nat_eq n 0) (nat_eq (256 * y + x) 0) false
zero_step zero zero zero = refl
zero_step zero zero (suc y) = ap (λ b. cond b (nat_eq (suc y) 0) false) (is_eq (256 * 0 + 0) 0 (omega arith)) ∙ nonzero y ∙ sym (not_zero (256 * suc y + 0) (omega arith))
  where
    not_zero : (a : ℕ) → 1 ≤ a → nat_eq a 0 ≡ false
    not_zero a h = grind (arith, h)
zero_step zero (suc x) y = ap (λ b. cond b (nat_eq y 0) false) (not_zero (256 * 0 + suc x) (omega arith)) ∙ sym (not_zero (256 * y + suc x) (omega arith))
  where
    not_zero : (a : ℕ) → 1 ≤ a → nat_eq a 0 ≡ false
    not_zero a h = grind (arith, h)
zero_step (suc n) x y = ap (λ b. cond b (nat_eq y 0) false) (not_zero (256 * suc n + x) (omega arith)) ∙ sym (ap (λ b. cond b (nat_eq (256 * y + x) 0) false) (nonzero n))
  where
    not_zero : (a : ℕ) → 1 ≤ a → nat_eq a 0 ≡ false
    not_zero a h = grind (arith, h)

falling_zero : (w n : ℕ) (b : List ℕ) (p : ℕ) → nat_eq (falling_on n b p w) 0 ≡ cond (nat_eq n 0) (nat_eq (rising_at b p w) 0) false
falling_zero zero n b p = by (nat_eq n 0)
  where
    by : (v : Bool) → v ≡ cond v true false
    by true = refl
    by false = refl
falling_zero (suc w) n b p = falling_zero w (256 * n + slice_index b p) b (p + 1) ∙ zero_step n (slice_index b p) (rising_at b (p + 1) w)

order_free : (w : Width) (o : ByteOrder) (b : List ℕ) (p : ℕ) → nat_eq (number_at (record { width = w; order = LittleEndian }) b p) 0 ≡ nat_eq (number_at (record { width = w; order = o }) b p) 0
order_free w LittleEndian b p = refl
order_free w BigEndian b p = sym (falling_zero (bytes_in w) 0 b p)

first_free : (w : Width) (o : ByteOrder) (b : List ℕ) (k p : ℕ) → first_where (λ n. nat_eq n 0) (numbers_at (record { width = w; order = LittleEndian }) b p k) ≡ first_where (λ n. nat_eq n 0) (numbers_at (record { width = w; order = o }) b p k)
first_free w o b zero p = refl
first_free w o b (suc k) p =
    ap (λ v. cond v (Some 0) (one_more (first_where (λ n. nat_eq n 0) (numbers_at (record { width = w; order = LittleEndian }) b (p + bytes_in w) k)))) (order_free w o b p)
    ∙ ap (λ v. cond (nat_eq (number_at (record { width = w; order = o }) b p) 0) (Some 0) (one_more v)) (first_free w o b k (p + bytes_in w))

module _ (T : Parts) (self : ℕ) (message places : List ℕ) (calls : Calling) (D t : ℕ) (dt : D ≤ t) where
  abbrev goes : Block → (State → Passage) → (State → Passage) → State → Passage
  goes = ran T self message places calls

  module _ (sets : List (List ℕ)) (senses : ℕ → Sense) (throughs : ℕ → Through) (ty : NameId) (n : ℕ) (params : ℕ → ℕ)
      (setted : (v x : ℕ) → is_among (set_of T v) x ≡ is_among (values_of sets v) x)
      (called : (d first m : ℕ) (s : State) (args : List ℕ) → s.end < 2 ^ 32 → d < n → params d ≡ length args → registers_from s.regs first (length args) ≡ args
      → throughs d args (map (slice_index places) (cells_by T self d m)) s.cells message s.pos s.end
      → calls first d m s ≡ passage_of (senses d args (map (slice_index places) (cells_by T self d m)) s.cells message s.pos s.end)) where
    -- a number without bytes stands in its slot, too
    abbrev pub InShape : (env : List ℕ) (end : ℕ) (c : List ℕ) (element : Element) (extent : Extent) (needed : Bool) (slot p : ℕ) → List ℕ → Type 0
    InShape env end c element Once needed slot p z = InSlot T self message places calls D t dt sets senses throughs ty n params setted called element needed slot p z
    InShape env end c element (Filling size step) needed slot p z = Unit {0}
    InShape env end c element (OnceFilling size step) needed slot p z = Unit {0}
    InShape env end c element (UpToZero size) needed slot p z = Unit {0}
    InShape env end c element (Given source) needed slot p z = slice_index z slot ≡ given_value source env places end p c

    -- elements up to a zero, from the width, what comes first, and the bound
    abbrev zero_ended : (w : Width) (v : ℕ) (site : ℕ) (s : State) (first : Option ℕ) → (State → Passage) → Passage
    zero_ended w v site s first go =
        touching (run_of (record { width = w; order = LittleEndian }) s.pos (looked_at first (min (v / bytes_in w) ((s.end - s.pos) / bytes_in w))))
        (onwards T calls (zeroterm_flow 1 site (bytes_in w) (v / bytes_in w) ((s.end - s.pos) / bytes_in w) first s) go)

    abbrev first_zero : (w : Width) (o : ByteOrder) (v : ℕ) (s : State) → Option ℕ
    first_zero w o v s = first_where (λ n. nat_eq n 0) (numbers_at (record { width = w; order = o }) message s.pos (min (v / bytes_in w) ((s.end - s.pos) / bytes_in w)))

    zero_runs : (type : NumberType) (size : Term) (site L : ℕ) (env r c : List ℕ) (p end o : ℕ) (k : Steps) (leave go : State → Passage) (next : ℕ → List ℕ → Passage)
        → length env ≡ L → L ≤ D → IsExpr (length r) L (suc t) size → Follows (λ j. names j size) env r → Sound size env
        → ((q : ℕ) (z : List ℕ) → length z ≡ length r → ((j : ℕ) → j < L → slice_index z j ≡ slice_index r j)
        → (up_to_zero type (natural_of size env) message end p c).ending ≡ Accepted q c → goes (steps k) leave go (at z c q p end o) ≡ next q c)
        → goes (value (suc t) (expr_of size) (Then (i.Zeroterm (suc t) (bytes_in type.width) site) (steps k))) leave go (at r c p p end o)
        ≡ onto (within (place_of_site T site p) (up_to_zero type (natural_of size env) message end p c)) next
    zero_runs type size site L env r c p end o k leave go next le ld x g on h =
        let put = put_value T self message places calls size env L (suc t) (at r c p p end o) le (omega (arith, ld, dt)) x on g in
        let s1 = at put.regs c p p end o in
        let v = natural_of size env in
        let w = bytes_in type.width in
        let bound = v / w in
        let room = (end - p) / w in
        let first = first_zero type.width type.order v s1 in
        let R = run_of type p (looked_at first (min bound room)) in
        let K : State → Passage = goes (steps k) leave go in
        let by : (z : Option ℕ) → first ≡ z → touching R (onwards T calls (zeroterm_flow 1 site w bound room z s1) K) ≡ touching R (onto (within (place_of_site T site p) (zero_end z w bound room p c)) next) =
        λ z e. elim z as (λ z. first ≡ z → touching R (onwards T calls (zeroterm_flow 1 site w bound room z s1) K) ≡ touching R (onto (within (place_of_site T site p) (zero_end z w bound room p c)) next)) [
          | None ↦ λ e. refl
          | Some m ↦ λ e. ap (touching R) (h (p + suc m * w) put.regs put.count (λ j l. put.low j (omega (arith, l, ld, dt))) (ap (λ z. (zero_end z w bound room p c).ending) e))
        ] e in
        put.by (Then (i.Zeroterm (suc t) w site) (steps k)) leave go
        ∙ zeroterm_look T self message places calls type.width (suc t) site s1 K
        ∙ ap (λ y. zero_ended type.width y site s1 (first_zero type.width LittleEndian y s1) K) put.at
        ∙ ap (λ y. zero_ended type.width v site s1 y K) (first_free type.width type.order message (min bound room) p)
        ∙ by first refl
        ∙ sym (onto_after R (within (place_of_site T site p) (zero_end first w bound room p c)) next)

    -- a number without bytes, whatever the element
    given_runs : (source : Source) (slot L : ℕ) (env r c : List ℕ) (p end o : ℕ) (k : Steps) (leave go : State → Passage) (after : Passage)
        → length env ≡ L → L ≤ D → L ≤ slot → slot ≤ t → t < length r → SourcePlaced (length r) L (suc t) source → Follows (λ j. source_names j source) env r → OnSource Sound source env
        → ((z : List ℕ) → length z ≡ length r → ((j : ℕ) → j < L → slice_index z j ≡ slice_index r j) → slice_index z slot ≡ given_value source env places end p c → goes (steps k) leave go (at z c p p end o) ≡ after)
        → goes (steps (source_step t source slot k)) leave go (at r c p p end o) ≡ after
    given_runs (Expression span e) slot L env r c p end o k leave go after le ld ls st room x g on h =
        let put = put_value T self message places calls e env L (suc t) (at r c p p end o) le (omega (arith, ld, dt)) x on g in
        let v = slice_index put.regs (suc t) in
        let w = bit_or v v in
        put.by (Then (i.Op slot 6 (suc t) (suc t)) (steps k)) leave go
        ∙ h (slice_set put.regs slot w) (length-set put.regs slot w ∙ put.count)
        (λ j l. get_or-set_other put.regs slot j w 0 (λ z. absurd (omega (arith, l, z, ls))) ∙ put.low j (omega (arith, l, ld, dt)))
        (get_or-set_same put.regs slot w 0 (omega (arith, st, room, put.count)) ∙ or_self v ∙ put.at)
    given_runs (FromCell cell) slot L env r c p end o k leave go after le ld ls st room x g on h =
        let v = slice_index c (slice_index places cell) in
        h (slice_set r slot v) (length-set r slot v) (λ j l. get_or-set_other r slot j v 0 (λ z. absurd (omega (arith, l, z, ls)))) (get_or-set_same r slot v 0 (omega (arith, st, room)))
    given_runs Left slot L env r c p end o k leave go after le ld ls st room x g on h =
        let v = end - p in
        h (slice_set r slot v) (length-set r slot v) (λ j l. get_or-set_other r slot j v 0 (λ z. absurd (omega (arith, l, z, ls)))) (get_or-set_same r slot v 0 (omega (arith, st, room)))

    pub shape_runs : (element : Element) (extent : Extent) (needed : Bool) (slot site L : ℕ) (env r c : List ℕ) (p end o : ℕ) (k : Steps) (leave go : State → Passage) (next : ℕ → List ℕ → Passage)
        → end < 2 ^ 32 → Mapped T self site element → length env ≡ L → L ≤ D → L ≤ slot → slot ≤ t → t < length r → ShapePlaced n params (length r) L t element extent → Follows (λ j. element_names j element) env r → Follows (λ j. extent_names j extent) env r
        → OnShape Sound sets senses throughs element extent env places message end p c
        → ((q : ℕ) (z d : List ℕ) (u : ℕ) → length z ≡ length r → ((j : ℕ) → j < L → slice_index z j ≡ slice_index r j) → InShape env end c element extent needed slot p z
        → (shape_meaning sets senses element extent env places message end p c).ending ≡ Accepted q d → goes (steps k) leave go (at z d q p end u) ≡ next q d)
        → goes (steps (shape_step t element extent needed slot site k)) leave go (at r c p p end o)
        ≡ onto (within (place_of_site T site p) (shape_meaning sets senses element extent env places message end p c)) (λ q d. touching (number_places needed element extent p) (next q d))
    shape_runs element Once needed slot site L env r c p end o k leave go next small mp le ld ls st room x f g on h =
        once_runs T self message places calls D t dt sets senses throughs ty n params setted called element needed slot site L env r c p end o k leave go next small mp le ld ls st room x f on
        (λ q z d count low inside e. h q z d o count low inside e)
    shape_runs element (Filling size step) needed slot site L env r c p end o k leave go next small mp le ld ls st room x f g on h =
        let a = filled (element_meaning sets senses element env places message p) step (natural_of size env) end p c in
        fill_runs T self message places calls D t dt sets senses throughs ty n params setted called (constant_of size) element size step refl site L env r c p end o k leave go next small mp le ld x.0 x.1.0 x.1.1.0 x.1.1.1 f g on (λ q z d u count low e. h q z d u count low tt e)
        ∙ onto_all (within (place_of_site T site p) a) next (λ q d. touching (number_places needed element (Filling size step) p) (next q d)) (λ q d. ap (λ l. touching l (next q d)) (sym (no_places needed element size step p)))
    shape_runs element (OnceFilling size step) needed slot site L env r c p end o k leave go next small mp le ld ls st room x f g on h =
        let a = filled_once (element_meaning sets senses element env places message p) step (natural_of size env) end p c in
        once_fill_runs T self message places calls D t dt sets senses throughs ty n params setted called (constant_of size) element size step refl site L env r c p end o k leave go next small mp le ld x.0 x.1.0 x.1.1.0 x.1.1.1 f g on (λ q z d u count low e. h q z d u count low tt e)
        ∙ onto_all (within (place_of_site T site p) a) next (λ q d. touching (number_places needed element (OnceFilling size step) p) (next q d)) (λ q d. ap (λ l. touching l (next q d)) (sym (once_places needed element size step p)))
    shape_runs (Number type) (UpToZero size) needed slot site L env r c p end o k leave go next small mp le ld ls st room x f g on h =
        zero_runs type size site L env r c p end o k leave go next le ld x.0 g on (λ q z count low e. h q z c o count low tt e)
    shape_runs (Listed base v) (UpToZero size) needed slot site L env r c p end o k leave go next small mp le ld ls st room x f g on h = absurd x.1
    shape_runs (Named d args own) (UpToZero size) needed slot site L env r c p end o k leave go next small mp le ld ls st room x f g on h = absurd x.1
    shape_runs UnitElement (UpToZero size) needed slot site L env r c p end o k leave go next small mp le ld ls st room x f g on h = absurd x.1
    shape_runs Rest (UpToZero size) needed slot site L env r c p end o k leave go next small mp le ld ls st room x f g on h = absurd x.1
    shape_runs Zeros (UpToZero size) needed slot site L env r c p end o k leave go next small mp le ld ls st room x f g on h = absurd x.1
    shape_runs element (Given source) needed slot site L env r c p end o k leave go next small mp le ld ls st room x f g on h =
        given_runs source slot L env r c p end o k leave go (next p c) le ld ls st room x g on (λ z count low here. h p z c o count low here refl)
        ∙ ap (λ l. touching l (next p c)) (sym (given_places needed element source p))

    -- bytes that are copied
    copy_run : (size : Term) (w : CopyOut) (site L : ℕ) (env r c : List ℕ) (p end u : ℕ) (k : Steps) (leave go : State → Passage) (next : ℕ → List ℕ → Passage)
        → length env ≡ L → L ≤ D → IsExpr (length r) L (suc t) size → Buffered T self (Some w) → Follows (λ j. names j size) env r → Sound size env → Sound (spare w size) env
        → ((q : ℕ) (z d : List ℕ) → length z ≡ length r → ((j : ℕ) → j < L → slice_index z j ≡ slice_index r j)
        → (copied_meaning w places (natural_of size env) end p c).ending ≡ Accepted q d → goes (steps k) leave go (at z d q p end u) ≡ next q d)
        → goes (value (suc t) (expr_of size) (Then (i.Copy (suc t) w.buffer site) (steps k))) leave go (at r c p p end u)
        ≡ onto (within (place_of_site T site p) (copied_meaning w places (natural_of size env) end p c)) next
    copy_run size w site L env r c p end u k leave go next le ld x buffered g on within_room h =
        let put = put_value T self message places calls size env L (suc t) (at r c p p end u) le (omega (arith, ld, dt)) x on g in
        let s1 = at put.regs c p p end u in
        let v = natural_of size env in
        let few : min v w.room ≡ v = omega (arith, has_room w size env within_room) in
        let F : ℕ → List ℕ → Behavior = λ q cells. after_reading (places_from p v) (accepted q (with_copy w places p v cells)) in
        let K : State → Passage = goes (steps k) leave go in
        let last = with_copy w places p v c in
        let first = slice_index places w.cell in
        let second = slice_index places (w.cell + 1) in
        let done : Effect = record { flow = Goes 1 (record s1 { cells = slice_set (slice_set c first p) second (min v w.room); pos = p + v }); touched = places_from p (min v w.room); steps = 1 + min v w.room } in
        let short : Effect = record { flow = Fails NotEnough site p s1; touched = []; steps = 1 } in
        let passes_by : Effect → Passage = λ e. touching e.touched (onwards T calls e.flow K) in
        let by : (b : Bool) → nat_le (p + v) end ≡ b → passes_by (cond b done short) ≡ onto (within (place_of_site T site p) (and_then (demanded NotEnough b p (p + v) c) F)) next =
        λ b e. elim b as (λ b. nat_le (p + v) end ≡ b → passes_by (cond b done short) ≡ onto (within (place_of_site T site p) (and_then (demanded NotEnough b p (p + v) c) F)) next) [
          | true ↦ λ e. (λ j. touching (places_from p (few j)) (K (at put.regs (slice_set (slice_set c first p) second (few j)) (p + v) p end u)))
              ∙ ap (touching (places_from p v)) (h (p + v) put.regs last put.count (λ j l. put.low j (omega (arith, l, ld, dt))) (ap (λ b. (and_then (demanded NotEnough b p (p + v) c) F).ending) e))
              ∙ ap (λ xs. touching xs (next (p + v) last)) (sym (append-nil (places_from p v)))
          | false ↦ λ e. refl
        ] e in
        put.by (Then (i.Copy (suc t) w.buffer site) (steps k)) leave go
        ∙ ap (λ y. passes_by (copied 1 y (slice_index (routine_of T self).buffers w.buffer) (slice_index places ((routine_of T self).cells + 2 * w.buffer)) (slice_index places ((routine_of T self).cells + 2 * w.buffer + 1)) site s1)) put.at
        ∙ (λ j. passes_by (copied 1 v (buffered.1 j) (slice_index places (buffered.0 j)) (slice_index places (buffered.0 j + 1)) site s1))
        ∙ by (nat_le (p + v) end) refl

    -- a constant number of them, in a window that has as many
    copy_all : (w : CopyOut) (m site L : ℕ) (r c : List ℕ) (p end : ℕ) (k : Steps) (leave go : State → Passage) (next : ℕ → List ℕ → Passage)
        → L ≤ D → suc t < length r → Buffered T self (Some w) → m ≤ w.room → nat_le (p + m) end ≡ true
        → ((q : ℕ) (z d : List ℕ) (u : ℕ) → length z ≡ length r → ((j : ℕ) → j < L → slice_index z j ≡ slice_index r j)
        → (copied_meaning w places m end p c).ending ≡ Accepted q d → goes (steps k) leave go (at z d q p end u) ≡ next q d)
        → goes (inner (CopyAll (suc t) w.buffer m site)) leave (closing T calls site (goes (steps k) leave go)) (at r c p p (p + m) end)
        ≡ onto (within (place_of_site T site p) (after_reading (places_from p m) (accepted (p + m) (with_copy w places p m c)))) next
    copy_all w m site L r c p end k leave go next ld room buffered within_room fits h =
        let few : min m w.room ≡ m = omega (arith, within_room) in
        let F : ℕ → List ℕ → Behavior = λ q cells. after_reading (places_from p m) (accepted q (with_copy w places p m cells)) in
        let K : State → Passage = goes (steps k) leave go in
        let G : State → Passage = closing T calls site K in
        let r1 = slice_set r (suc t) m in
        let s1 = at r1 c p p (p + m) end in
        let last = with_copy w places p m c in
        let first = slice_index places w.cell in
        let second = slice_index places (w.cell + 1) in
        let done : Effect = record { flow = Goes 1 (record s1 { cells = slice_set (slice_set c first p) second (min m w.room); pos = p + m }); touched = places_from p (min m w.room); steps = 1 + min m w.room } in
        let short : Effect = record { flow = Fails NotEnough site p s1; touched = []; steps = 1 } in
        let passes_by : Effect → Passage = λ e. touching e.touched (onwards T calls e.flow G) in
        ap (λ y. passes_by (copied 1 y (slice_index (routine_of T self).buffers w.buffer) (slice_index places ((routine_of T self).cells + 2 * w.buffer)) (slice_index places ((routine_of T self).cells + 2 * w.buffer + 1)) site s1)) (get_or-set_same r (suc t) m 0 room)
        ∙ (λ j. passes_by (copied 1 m (buffered.1 j) (slice_index places (buffered.0 j)) (slice_index places (buffered.0 j + 1)) site s1))
        ∙ ap (λ b. passes_by (cond b done short)) (at_most (p + m))
        ∙ (λ j. touching (places_from p (few j)) (G (at r1 (slice_set (slice_set c first p) second (few j)) (p + m) p (p + m) end)))
        ∙ ap (λ b. touching (places_from p m) (onwards T calls (if_so b (at r1 last (p + m) p end end) ListSize site p (at r1 last (p + m) p (p + m) end)) K)) (same_here (p + m))
        ∙ ap (touching (places_from p m)) (h (p + m) r1 last end (length-set r (suc t) m) (λ j l. get_or-set_other r (suc t) j m 0 (λ z. absurd (omega (arith, l, ld, dt, z)))) (ap (λ b. (and_then (demanded NotEnough b p (p + m) c) F).ending) fits))
        ∙ ap (λ xs. touching xs (next (p + m) last)) (sym (append-nil (places_from p m)))
      where
        at_most : (x : ℕ) → nat_le x x ≡ true
        at_most x = grind arith

    copied_runs : (z0 : Option ℕ) (size : Term) (w : CopyOut) → constant_of size ≡ z0 → (site L : ℕ) (env r c : List ℕ) (p end o : ℕ) (k : Steps) (leave go : State → Passage) (next : ℕ → List ℕ → Passage)
        → end < 2 ^ 32 → length env ≡ L → L ≤ D → suc t < length r → IsExpr (length r) L (suc t) size → Buffered T self (Some w) → Follows (λ j. names j size) env r → Sound size env → Sound (spare w size) env
        → ((q : ℕ) (z d : List ℕ) (u : ℕ) → length z ≡ length r → ((j : ℕ) → j < L → slice_index z j ≡ slice_index r j)
        → (copied_meaning w places (natural_of size env) end p c).ending ≡ Accepted q d → goes (steps k) leave go (at z d q p end u) ≡ next q d)
        → goes (steps (copied_step t z0 w size site k)) leave go (at r c p p end o)
        ≡ onto (within (place_of_site T site p) (copied_meaning w places (natural_of size env) end p c)) next
    copied_runs None size w ze site L env r c p end o k leave go next small le ld room x bf g on within_room h =
        copy_run size w site L env r c p end o k leave go next le ld x bf g on within_room (λ q z d count low e. h q z d o count low e)
    copied_runs (Some m0) size w ze site L env r c p end o k leave go next small le ld room x bf g on within_room h =
        let m = natural_of size env in
        let same : m0 ≡ m = sym (ap natural (constant_is size m0 env ze)) in
        let F : ℕ → List ℕ → Behavior = λ q cells. after_reading (places_from p m) (accepted q (with_copy w places p m cells)) in
        let X : ℕ → Inner = λ v. CopyAll (suc t) w.buffer v site in
        let K : State → Passage = goes (steps k) leave go in
        ap (λ v. goes (steps (constant_step t v site (X v) k)) leave go (at r c p p end o)) same
        ∙ never_or T self message places (nat_lt m (2 ^ 32)) site r c p m end o refl F next (goes (steps (ByConstant m site (X m) k)) leave go (at r c p p end o)) (λ b. goes (steps (cond b (ByConstant m site (X m) k) (Never site))) leave go (at r c p p end o)) refl refl small
        (window_runs T self message places calls (inner (X m)) site r c p m end o leave K F next
        (λ e1. copy_all w m site L r c p end k leave go next ld room bf (has_room w size env within_room) e1 h))

    pub content_runs : (element : Element) (extent : Extent) (copy : Option CopyOut) (needed : Bool) (slot site L : ℕ) (env r c : List ℕ) (p end o : ℕ) (k : Steps) (leave go : State → Passage) (next : ℕ → List ℕ → Passage)
        → end < 2 ^ 32 → Mapped T self site element → Buffered T self copy → length env ≡ L → L ≤ D → L ≤ slot → slot ≤ t → t < length r → ShapePlaced n params (length r) L t element extent → CopyPlaced (length r) L t extent copy
        → Follows (λ j. element_names j element) env r → Follows (λ j. extent_names j extent) env r
        → OnContent Sound sets senses throughs element extent copy env places message end p c
        → ((q : ℕ) (z d : List ℕ) (u : ℕ) → length z ≡ length r → ((j : ℕ) → j < L → slice_index z j ≡ slice_index r j) → InShape env end c element extent needed slot p z
        → (content_meaning sets senses element extent copy env places message end p c).ending ≡ Accepted q d → goes (steps k) leave go (at z d q p end u) ≡ next q d)
        → goes (steps (content_step t element extent copy needed slot site k)) leave go (at r c p p end o)
        ≡ onto (within (place_of_site T site p) (content_meaning sets senses element extent copy env places message end p c)) (λ q d. touching (number_places needed element extent p) (next q d))
    content_runs element extent None needed slot site L env r c p end o k leave go next small mp bf le ld ls st room x y f g on h =
        shape_runs element extent needed slot site L env r c p end o k leave go next small mp le ld ls st room x f g on h
    content_runs element (Filling size step) (Some w) needed slot site L env r c p end o k leave go next small mp bf le ld ls st room x y f g on h =
        let a = copied_meaning w places (natural_of size env) end p c in
        copied_runs (constant_of size) size w refl site L env r c p end o k leave go next small le ld (omega (arith, x.0)) y bf g on.0 on.1 (λ q z d u count low e. h q z d u count low tt e)
        ∙ onto_all (within (place_of_site T site p) a) next (λ q d. touching (number_places needed element (Filling size step) p) (next q d)) (λ q d. ap (λ l. touching l (next q d)) (sym (no_places needed element size step p)))
    content_runs element Once (Some w) needed slot site L env r c p end o k leave go next small mp bf le ld ls st room x y f g on h =
        shape_runs element Once needed slot site L env r c p end o k leave go next small mp le ld ls st room x f g on h
    content_runs element (OnceFilling size step) (Some w) needed slot site L env r c p end o k leave go next small mp bf le ld ls st room x y f g on h =
        shape_runs element (OnceFilling size step) needed slot site L env r c p end o k leave go next small mp le ld ls st room x f g on h
    content_runs element (UpToZero size) (Some w) needed slot site L env r c p end o k leave go next small mp bf le ld ls st room x y f g on h =
        shape_runs element (UpToZero size) needed slot site L env r c p end o k leave go next small mp le ld ls st room x f g on h
    content_runs element (Given source) (Some w) needed slot site L env r c p end o k leave go next small mp bf le ld ls st room x y f g on h =
        shape_runs element (Given source) needed slot site L env r c p end o k leave go next small mp le ld ls st room x f g on h
