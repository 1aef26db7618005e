-- The code of a module's definitions does what they mean.
use Rattle.std.proofs.Common.{◌≡◌, ℕ, suc, ◌+◌, ◌<◌, ◌≤◌, ◌^◌, Bool, true, false, cond, List, [], ◌∷◌, length, map, refl, sym, ap, ◌∙◌, subst, arith, nat_eq, slice_index, slice_set, Option, Some, None}
use Rattle.std.proofs.lemmas.List.{get_or-set_same, get_or-set_other}
use Rattle.std.proofs.Math.ListN.{length-set}
use Rattle.td_num.specs.Lists.{is_among}
use Rattle.td_core.specs.Term.{Term}
use Rattle.td_core.specs.Outcome.{and_then, within, rejected}
use Rattle.td_lower_means.specs.Imports.{NameId, Field, Case, Body, Struct, Casetype, Constraint, Impossible, Parts}
use Rattle.td_expr.specs.Sound.{Sound}
use Rattle.td_meaning.specs.Doing.{natural_of, is_true}
use Rattle.td_meaning.specs.Meaning.{Sense, values_of, demanded, refined, case_for, chosen_meaning, body_meaning, where_place}
use Rattle.td_meaning.specs.Throughout.{Through, OnEnding, OnOption, OnChosen, OnBody}
use Rattle.td_ir.specs.declared.instructions.Instr.TheVariants as i
use Rattle.td_lower_blocks.specs.Block.{Block, Stop, Guard}
use Rattle.td_lower_blocks.specs.Constructs.{steps, cases, body}
use Rattle.td_ir.specs.State.{State, registers_from}
use Rattle.td_lower_means.proofs.BlockRun.{Passage, failed, Calling, ran, passage_of}
use Rattle.td_ir.specs.Values.{operated, bit}
use Rattle.td_lower_blocks.specs.Lowered.{fields_steps, cases_of, last_case, body_of, guarded_body, parts_in}
use Rattle.td_lower_blocks.specs.Placed.{OptionExpr, CasesPlaced, DefaultPlaced, BodyPlaced, FieldsPlaced}
use Rattle.td_lower_blocks.specs.Tabled.{FieldsSited, DefaultSited, CasesSited, BodySited, GuardSited}
use Rattle.td_lower_means.proofs.Acts.{Follows, put_value, truth_at, not_of}
use Rattle.td_lower_means.proofs.Shapes.{at}
use Rattle.td_lower_means.proofs.Fields.{fields_run}
use Rattle.td_ir.specs.Tables.{set_of, cells_by}

-- registers hold the values in scope
abbrev pub Holds : List ℕ → List ℕ → Type 0
Holds env r = (j : ℕ) → j < length env → slice_index r j ≡ slice_index env j

all_follow : (test : ℕ → Bool) (env r : List ℕ) → Holds env r → Follows test env r
all_follow test env r h j l m = h j l

turned_equal : (a b : ℕ) → nat_eq a b ≡ nat_eq b a
turned_equal a b = grind arith

bit_is : (b : Bool) → nat_eq (bit b) 0 ≡ not_of b
bit_is true = refl
bit_is false = refl

module _ (T : Parts) (self : ℕ) (message places : List ℕ) (calls : Calling) (D t : ℕ) (dt : D ≤ t) where
  abbrev goes : Block → (State → Passage) → (State → Passage) → State → Passage
  goes = ran T self message places calls

  module _ (sets : List (List ℕ)) (senses : ℕ → Sense) (throughs : ℕ → Through) (ty : NameId) (n : ℕ) (params : ℕ → ℕ)
      (setted : (v x : ℕ) → is_among (set_of T v) x ≡ is_among (values_of sets v) x)
      (called : (d first m : ℕ) (s : State) (args : List ℕ) → s.end < 2 ^ 32 → d < n → params d ≡ length args → registers_from s.regs first (length args) ≡ args
      → throughs d args (map (slice_index places) (cells_by T self d m)) s.cells message s.pos s.end
      → calls first d m s ≡ passage_of (senses d args (map (slice_index places) (cells_by T self d m)) s.cells message s.pos s.end)) where
    some_fields : (fs : List Field) (site L : ℕ) (env r c : List ℕ) (p end o : ℕ) (leave go : State → Passage) → end < 2 ^ 32 → FieldsSited T self ty site fs → length env ≡ L → t < length r → FieldsPlaced n params (length r) D L t fs → Holds env r
        → OnChosen Sound sets senses throughs ty (Some fs) env places message end p c
        → goes (steps (fields_steps t site L fs)) leave go (at r c p p end o) ≡ passage_of (chosen_meaning sets senses ty (Some fs) env places message end p c)
    some_fields fs site L env r c p end o leave go small ss le room x h on =
        fields_run T self message places calls D t dt sets senses throughs ty n params setted called end fs site L env r c p p o leave go small ss le room x (all_follow _ env r h) on

    last_runs : (default : Option (List Field)) (switch site L : ℕ) (env r c : List ℕ) (p end o : ℕ) (leave go : State → Passage) → end < 2 ^ 32 → DefaultSited T self ty switch site default → length env ≡ L → t < length r → DefaultPlaced n params (length r) D L t default → Holds env r
        → OnChosen Sound sets senses throughs ty default env places message end p c
        → goes (cases (suc t) (last_case t switch site L default)) leave go (at r c p p end o) ≡ passage_of (chosen_meaning sets senses ty default env places message end p c)
    last_runs None switch site L env r c p end o leave go small ss le room x h on = ap (λ s. passage_of (within s (rejected Impossible p c))) (ss p)
    last_runs (Some fs) switch site L env r c p end o leave go small ss le room x h on = some_fields fs site L env r c p end o leave go small ss le room x h on

    cases_run : (cs : List Case) (default : Option (List Field)) (switch site L v : ℕ) (env r c : List ℕ) (p end o : ℕ) (leave go : State → Passage) → end < 2 ^ 32 → CasesSited T self ty switch site cs default → length env ≡ L → L ≤ t → suc t + 1 < length r
        → CasesPlaced n params (length r) D L t cs → DefaultPlaced n params (length r) D L t default → Holds env r → slice_index r (suc t) ≡ v
        → OnChosen Sound sets senses throughs ty (case_for v cs default) env places message end p c
        → goes (cases (suc t) (cases_of t switch site L cs default)) leave go (at r c p p end o) ≡ passage_of (chosen_meaning sets senses ty (case_for v cs default) env places message end p c)
    cases_run [] default switch site L v env r c p end o leave go small ss le lt room x y h e on = last_runs default switch site L env r c p end o leave go small ss le (omega (arith, room)) y h on
    cases_run (w ∷ cs) default switch site L v env r c p end o leave go small ss le lt room x y h e on =
        let u = suc t + 1 in
        let r1 = slice_set r u w.value in
        let r2 = slice_set r1 u (operated 10 (slice_index r1 (suc t)) (slice_index r1 u)) in
        let n1 = length-set r u w.value in
        let n2 : length r2 ≡ length r = length-set r1 u (operated 10 (slice_index r1 (suc t)) (slice_index r1 u)) ∙ n1 in
        let keep : (j : ℕ) → j < u → slice_index r2 j ≡ slice_index r j = λ j l.
        get_or-set_other r1 u j (operated 10 (slice_index r1 (suc t)) (slice_index r1 u)) 0 (λ z. absurd (omega (arith, l, z))) ∙ get_or-set_other r u j w.value 0 (λ z. absurd (omega (arith, l, z))) in
        let there : slice_index r2 u ≡ bit (nat_eq v w.value) =
        get_or-set_same r1 u (operated 10 (slice_index r1 (suc t)) (slice_index r1 u)) 0 (omega (arith, room, n1))
        ∙ ap (λ z. bit (nat_eq z (slice_index r1 u))) (get_or-set_other r u (suc t) w.value 0 (λ z. absurd (omega (arith, z))) ∙ e)
        ∙ ap (λ z. bit (nat_eq v z)) (get_or-set_same r u w.value 0 room) in
        let h2 : Holds env r2 = λ j l. keep j (omega (arith, l, le, lt)) ∙ h j l in
        let one = goes (steps (fields_steps t site L w.fields)) leave (goes (cases (suc t) (cases_of t switch (parts_in w.fields + site) L cs default)) leave go) (at r2 c p p end o) in
        let rest = goes (cases (suc t) (cases_of t switch (parts_in w.fields + site) L cs default)) leave go (at r2 c p p end o) in
        let by : (b : Bool) → nat_eq w.value v ≡ b → OnChosen Sound sets senses throughs ty (cond b (Some w.fields) (case_for v cs default)) env places message end p c
        → cond (nat_eq (slice_index r2 u) 0) rest one ≡ passage_of (chosen_meaning sets senses ty (cond b (Some w.fields) (case_for v cs default)) env places message end p c) =
        λ b z on. elim b as (λ b. nat_eq w.value v ≡ b → OnChosen Sound sets senses throughs ty (cond b (Some w.fields) (case_for v cs default)) env places message end p c
        → cond (nat_eq (slice_index r2 u) 0) rest one ≡ passage_of (chosen_meaning sets senses ty (cond b (Some w.fields) (case_for v cs default)) env places message end p c)) [
          | true ↦ λ z on. ap (λ y. cond y rest one) (ap (λ q. nat_eq q 0) (there ∙ ap bit (turned_equal v w.value ∙ z)) ∙ bit_is true)
              ∙ some_fields w.fields site L env r2 c p end o leave (goes (cases (suc t) (cases_of t switch (parts_in w.fields + site) L cs default)) leave go) small ss.0 le (omega (arith, room, n2)) (subst (λ q. FieldsPlaced n params q D L t w.fields) (sym n2) x.0) h2 on
          | false ↦ λ z on. ap (λ y. cond y rest one) (ap (λ q. nat_eq q 0) (there ∙ ap bit (turned_equal v w.value ∙ z)) ∙ bit_is false)
              ∙ cases_run cs default switch (parts_in w.fields + site) L v env r2 c p end o leave go small ss.1 le lt (omega (arith, room, n2)) (subst (λ q. CasesPlaced n params q D L t cs) (sym n2) x.1) (subst (λ q. DefaultPlaced n params q D L t default) (sym n2) y) h2
              (keep (suc t) (omega arith) ∙ e) on
        ] z on in
        by (nat_eq w.value v) refl on

    body_runs : (w : Body) (switch site L : ℕ) (env r c : List ℕ) (p end o : ℕ) (leave go : State → Passage) → end < 2 ^ 32 → BodySited T self ty switch site w → length env ≡ L → L ≤ D → t < length r → BodyPlaced n params (length r) D L t w → Holds env r
        → OnBody Sound sets senses throughs ty w env places message end p c
        → goes (body (body_of t switch site L w)) leave go (at r c p p end o) ≡ passage_of (body_meaning sets senses ty w env places message end p c)
    body_runs (Struct fs) switch site L env r c p end o leave go small ss le ld room x h on = some_fields fs site L env r c p end o leave go small ss le room x h on
    body_runs (Casetype sw cs default) switch site L env r c p end o leave go small ss le ld room x h on =
        let q = put_value T self message places calls sw env L (suc t) (at r c p p end o) le (omega (arith, ld, dt)) x.0.1 on.0 (all_follow _ env r h) in
        q.by (cases (suc t) (cases_of t switch site L cs default)) leave go
        ∙ cases_run cs default switch site L (natural_of sw env) env q.regs c p end o leave go small ss le (omega (arith, ld, dt)) (omega (arith, x.0.0, q.count))
        (subst (λ m. CasesPlaced n params m D L t cs) (sym q.count) x.1.0) (subst (λ m. DefaultPlaced n params m D L t default) (sym q.count) x.1.1)
        (λ j l. q.low j (omega (arith, l, le, ld, dt)) ∙ h j l) q.at on.1

    pub guard_runs : (o : Option Term) (w : Body) (first switch site L : ℕ) (env r c : List ℕ) (p end u : ℕ) (leave go : State → Passage) → end < 2 ^ 32 → GuardSited T self ty first o → BodySited T self ty switch site w → length env ≡ L → L ≤ D → t < length r → OptionExpr (length r) L (suc t) o → BodyPlaced n params (length r) D L t w → Holds env r
        → OnOption Sound o env → OnEnding (refined o env p p c).ending (OnBody Sound sets senses throughs ty w env places message end)
        → goes (body (guarded_body t first o (body_of t switch site L w))) leave go (at r c p p end u)
        ≡ passage_of (and_then (within (where_place ty p) (refined o env p p c)) (body_meaning sets senses ty w env places message end))
    guard_runs None w first switch site L env r c p end u leave go small gs ss le ld room x y h on more = body_runs w switch site L env r c p end u leave go small ss le ld room y h more
    guard_runs (Some e) w first switch site L env r c p end u leave go small gs ss le ld room x y h on more =
        let q = put_value T self message places calls e env L (suc t) (at r c p p end u) le (omega (arith, ld, dt)) x on (all_follow _ env r h) in
        let B = body (body_of t switch site L w) in
        let bad = failed T Constraint first p (at q.regs c p p end u) in
        let K = goes B leave go (at q.regs c p p end u) in
        let by : (b : Bool) → is_true e env ≡ b → OnEnding (demanded Constraint b p p c).ending (OnBody Sound sets senses throughs ty w env places message end)
        → cond (nat_eq (slice_index q.regs (suc t)) 0) bad K ≡ passage_of (and_then (within (where_place ty p) (demanded Constraint b p p c)) (body_meaning sets senses ty w env places message end)) =
        λ b z on2. elim b as (λ b. is_true e env ≡ b → OnEnding (demanded Constraint b p p c).ending (OnBody Sound sets senses throughs ty w env places message end)
        → cond (nat_eq (slice_index q.regs (suc t)) 0) bad K ≡ passage_of (and_then (within (where_place ty p) (demanded Constraint b p p c)) (body_meaning sets senses ty w env places message end))) [
          | true ↦ λ z on2. ap (λ v. cond v bad K) (ap (λ m. nat_eq m 0) q.at ∙ truth_at e env on true z)
              ∙ body_runs w switch site L env q.regs c p end u leave go small ss le ld (omega (arith, room, q.count)) (subst (λ m. BodyPlaced n params m D L t w) (sym q.count) y) (λ j l. q.low j (omega (arith, l, le, ld, dt)) ∙ h j l) on2
          | false ↦ λ z on2. ap (λ v. cond v bad K) (ap (λ m. nat_eq m 0) q.at ∙ truth_at e env on false z)
              ∙ ap (λ s. passage_of (within s (demanded Constraint false p p c))) (gs p)
        ] z on2 in
        q.by (Guard true (suc t) (Stop (i.Fail 4 first)) B) leave go ∙ by (is_true e env) refl more
