-- The code of a field's parts: tests and actions.
use Rattle.std.proofs.Common.{◌≡◌, ℕ, suc, ◌<◌, ◌≤◌, Bool, true, false, cond, ◌||◌, List, [], ◌∷◌, ◌++◌, length, refl, sym, ap, ◌∙◌, subst, arith, nat_eq, slice_index, slice_set, ◌/◌, ◌%◌, ◌^◌, inl, inr, ◌⊎◌, Option, Some, None, is_some}
use Rattle.std.proofs.lemmas.List.{get_or-set_same, get_or-set_other}
use Rattle.std.proofs.lemmas.Bool.{or_cases, false≢true}
use Rattle.std.proofs.Math.ListN.{length-set}
use Rattle.td_core.specs.Term.{Term, Deed}
use Rattle.td_core.specs.Outcome.{Behavior, Accepted, FramePlace, and_then, onward, within, ending_within}
use Rattle.td_lower_means.specs.Imports.{NameId, Bits, Part, Field, Constraint, Action as ActionFails, Parts}
use Rattle.td_expr.specs.Sound.{Sound}
use Rattle.td_expr.specs.Naming.{names, deed_names}
use Rattle.td_meaning.specs.Naming.{in_option, part_names, parts_name, fields_name, is_needed}
use Rattle.td_meaning.specs.Doing.{Effect, On, Returned, Aborted, doing, natural_of, is_true}
use Rattle.td_meaning.specs.Meaning.{demanded, refined, acted, ended, checked, parts_meaning, bits_of, extended, field_place}
use Rattle.td_meaning.specs.Throughout.{OnOption, OnAction, OnParts}
use Rattle.td_ir.specs.declared.instructions.Instr.TheVariants as i
use Rattle.td_lower_blocks.specs.Block.{Block, Done, Stop, Guard}
use Rattle.td_lower_blocks.specs.Constructs.{Steps, steps, value}
use Rattle.td_lower_blocks.specs.Placed.{DeedPlaced, OptionExpr, OptionDeed, PartsPlaced, HasBits, AllBits, AloneFrom, Alone}
use Rattle.td_ir.specs.State.{State, reg}
use Rattle.td_lower_means.proofs.BlockRun.{Passage, failed, Calling, ran, onto}
use Rattle.td_lower_blocks.specs.Lowered.{expr_of, part_slot, bits_step, test_step, action_step, when, parts_steps}
use Rattle.td_lower_blocks.specs.Tabled.{PartsSited}
use Rattle.td_lower_means.proofs.Ontos.{onto_then, within_then}
use Rattle.td_lower_means.proofs.Acts.{Follows, Kept, kept_all, follows_kept, follows_some, follows_push, pushed_length, act_exit, put_value, kept_put, acts_run, truth_at}
use Rattle.td_ir.specs.Run.{place_of_site}
use Rattle.td_num.proofs.Truths.{or_right, or_left}
use Rattle.td_meaning.proofs.Filling.{on_accepted as at_ending}
use Rattle.td_meaning.proofs.Agreeing64.{some_named as in_some, needed_later as next_needed}

-- where the number stands, if it was read
abbrev pub Source : (read : Bool) (L t n : ℕ) → List Part → List ℕ → Type 0
Source read L t n [] r = Unit {0}
Source read L t n (p ∷ ps) r = read ≡ true → slice_index r (part_slot L t p.bits) ≡ n

all_alone : (ps : List Part) → AllBits ps → Alone ps
all_alone [] h = tt
all_alone (p ∷ ps) h = by p.bits h.0
  where
    by : (b : Option Bits) → HasBits b → AloneFrom b ps
    by None h' = absurd h'
    by (Some b) h' = h.1

all_source : (read : Bool) (L t n : ℕ) (ps : List Part) (r : List ℕ) → AllBits ps → (read ≡ true → slice_index r t ≡ n) → Source read L t n ps r
all_source read L t n [] r h k = tt
all_source read L t n (p ∷ ps) r h k = by p.bits h.0
  where
    by : (b : Option Bits) → HasBits b → read ≡ true → slice_index r (part_slot L t b) ≡ n
    by None h' = absurd h'
    by (Some b) h' = k

pub then_ending : (a : Behavior) (f : ℕ → List ℕ → Behavior) (q r : ℕ) (c d : List ℕ) → a.ending ≡ Accepted q c → (f q c).ending ≡ Accepted r d → (and_then a f).ending ≡ Accepted r d
then_ending a f q r c d h k = ap (λ e. (onward e a.reads f).ending) h ∙ k

-- a part that is named anywhere is needed
named_needed : (p : Part) (ps : List Part) (later : List Field) (L : ℕ) → (part_names L p || (parts_name L ps || fields_name L later)) ≡ true → is_needed L (p ∷ ps) later ≡ true
named_needed p ps later L h =
    let rest = parts_name L ps || (fields_name L later || is_needed (suc L) ps later) in
    elim (or_cases (part_names L p) (parts_name L ps || fields_name L later) h) [
      | inl x ↦ elim (or_cases (in_option (names L) p.refinement) (in_option (deed_names L) p.action) x) [
        | inl y ↦ or_left (is_some p.refinement) (in_option (deed_names L) p.action || rest) (in_some p.refinement L y)
        | inr y ↦ or_right (is_some p.refinement) (in_option (deed_names L) p.action || rest) (or_left (in_option (deed_names L) p.action) rest y)
      ]
      | inr x ↦ or_right (is_some p.refinement) (in_option (deed_names L) p.action || rest) (or_right (in_option (deed_names L) p.action) rest (elim (or_cases (parts_name L ps) (fields_name L later) x) [
        | inl y ↦ or_left (parts_name L ps) (fields_name L later || is_needed (suc L) ps later) y
        | inr y ↦ or_right (parts_name L ps) (fields_name L later || is_needed (suc L) ps later) (or_left (fields_name L later) (is_needed (suc L) ps later) y)
      ]))
    ]

ended_exit : (e : Effect) (site : FramePlace) (start q : ℕ) (next : ℕ → List ℕ → Passage) (bad : List ℕ → Passage) → ((c : List ℕ) → bad c ≡ onto (within site (demanded ActionFails false start q c)) next)
    → act_exit e (next q) (next q) bad ≡ onto (within site (ended e start q)) next
ended_exit (On c) site start q next bad h = refl
ended_exit (Returned true c) site start q next bad h = refl
ended_exit (Returned false c) site start q next bad h = h c
ended_exit (Aborted c) site start q next bad h = h c

module _ (T : Parts) (self : ℕ) (message places : List ℕ) (calls : Calling) (D t : ℕ) (dt : D ≤ t) where
  abbrev goes : Block → (State → Passage) → (State → Passage) → State → Passage
  goes = ran T self message places calls

  pub record Refines (o : Option Term) (env : List ℕ) (L site : ℕ) (s : State) : Type 0 where
    pub regs : List ℕ
    pub kept : Kept L D (suc t) s.regs regs
    pub by : (k : Steps) (leave go : State → Passage) (q : ℕ) (next : ℕ → List ℕ → Passage)
        → ((refined o env s.start q s.cells).ending ≡ Accepted q s.cells → goes (steps k) leave go (record s { regs = regs }) ≡ next q s.cells)
        → goes (steps (test_step t site o k)) leave go s ≡ onto (within (place_of_site T site s.start) (refined o env s.start q s.cells)) next

  pub refine_runs : (o : Option Term) (env : List ℕ) (L site : ℕ) (s : State) → length env ≡ L → L ≤ D → OptionExpr (length s.regs) L (suc t) o → OnOption Sound o env → Follows (λ j. in_option (names j) o) env s.regs
      → Refines o env L site s
  refine_runs None env L site s le ld x on f = record { regs = s.regs; kept = kept_all L D (suc t) s.regs; by = λ k leave go q next h. h refl }
  refine_runs (Some e) env L site s le ld x on f =
      let p = put_value T self message places calls e env L (suc t) s le (omega (arith, ld, dt)) x on f in
      record {
        regs = p.regs;
        kept = kept_put T self message places calls L D (suc t) (natural_of e env) s (value (suc t) (expr_of e)) p (omega (arith, ld, dt));
        by = λ k leave go q next h.
            let s1 : State = record s { regs = p.regs } in
            let bad = failed T Constraint site s.start s in
            let by : (b : Bool) → is_true e env ≡ b → cond (nat_eq (reg s1 (suc t)) 0) bad (goes (steps k) leave go s1) ≡ onto (within (place_of_site T site s.start) (demanded Constraint b s.start q s.cells)) next =
            λ b y. elim b as (λ b. is_true e env ≡ b → cond (nat_eq (reg s1 (suc t)) 0) bad (goes (steps k) leave go s1) ≡ onto (within (place_of_site T site s.start) (demanded Constraint b s.start q s.cells)) next) [
              | true ↦ λ y. ap (λ z. cond z bad (goes (steps k) leave go s1)) (ap (λ n. nat_eq n 0) p.at ∙ truth_at e env on true y) ∙ h (ap (λ b. (demanded Constraint b s.start q s.cells).ending) y)
              | false ↦ λ y. ap (λ z. cond z bad (goes (steps k) leave go s1)) (ap (λ n. nat_eq n 0) p.at ∙ truth_at e env on false y)
            ] y in
            p.by (Guard true (suc t) (Stop (i.Fail 4 site)) (steps k)) leave go ∙ by (is_true e env) refl;
      }

  -- an action of a part at level L, which is in scope
  pub acted_runs : (o : Option Deed) (env : List ℕ) (L site : ℕ) (s : State) (k : Steps) (leave go : State → Passage) (q : ℕ) (next : ℕ → List ℕ → Passage)
      → length env ≡ suc L → OptionDeed (length s.regs) D (suc L) (suc t) o → Follows (λ j. in_option (deed_names j) o) env s.regs → OnAction Sound o env places s.start s.cells
      → ((r c : List ℕ) → Kept (suc L) D (suc t) s.regs r → (acted o env places s.start q s.cells).ending ≡ Accepted q c → goes (steps k) leave go (record s { regs = r; cells = c }) ≡ next q c)
      → goes (steps (action_step L t site o k)) leave go s ≡ onto (within (place_of_site T site s.start) (acted o env places s.start q s.cells)) next
  acted_runs None env L site s k leave go q next le x f on h = h s.regs s.cells (kept_all (suc L) D (suc t) s.regs) refl
  acted_runs (Some d) env L site s k leave go q next le x f on h =
      let r = slice_set s.regs (suc L) s.start in
      let s1 : State = record s { regs = r } in
      let other : (j : ℕ) → (j < suc L) ⊎ (D ≤ j) → slice_index r j ≡ slice_index s.regs j =
      λ j c. get_or-set_other s.regs (suc L) j s.start 0 (λ z. absurd (elim c [ inl a ↦ omega (arith, a, z) | inr a ↦ omega (arith, a, z, x.0) ])) in
      let back : (z : List ℕ) → Kept (suc (suc L)) D (suc t) r z → Kept (suc L) D (suc t) s.regs z = λ z m. record {
        count = m.count ∙ length-set s.regs (suc L) s.start;
        low = λ j l. m.low j (omega (arith, l)) ∙ other j (inl l);
        high = λ j l n. m.high j l n ∙ other j (inr l);
      } in
      let R = goes (steps k) leave go in
      let e = doing d (env ++ s.start ∷ []) places s.cells in
      acts_run T self message places calls site D d (suc t) (suc (suc L)) (env ++ s.start ∷ []) s1 Done R R (next q) (next q) (pushed_length env s.start ∙ ap suc le) x.0 (omega (arith, dt))
      (subst (λ n. DeedPlaced n D (suc (suc L)) (suc t) d) (sym (length-set s.regs (suc L) s.start)) x.1.1)
      (follows_push (λ j. deed_names j d) env r s.start (follows_kept (λ j. deed_names j d) env s.regs r (λ j l. other j (inl (omega (arith, l, le)))) f)
      (λ m. ap (slice_index r) le ∙ get_or-set_same s.regs (suc L) s.start 0 x.1.0))
      on
      (λ z c m y. h z c (back z m) (ap (λ e. (ended e s.start q).ending) y))
      (λ z c m y. h z c (back z m) (ap (λ e. (ended e s.start q).ending) y))
      ∙ ended_exit e (place_of_site T site s.start) s.start q next (λ c. failed T ActionFails site s.start (record s { cells = c })) (λ c. refl)

  -- a part's value in its register
  pub record Begun (read : Bool) (n : ℕ) (b : Option Bits) (L : ℕ) (s : State) : Type 0 where
    pub regs : List ℕ
    pub kept : Kept L D (suc t) s.regs regs
    pub here : read ≡ true → slice_index regs L ≡ bits_of b n
    pub by : (k : Steps) (leave go : State → Passage) → goes (steps (when read (bits_step L t b) k)) leave go s ≡ goes (steps k) leave go (record s { regs = regs })

  begin : (read : Bool) (n : ℕ) (b : Option Bits) (L : ℕ) (s : State) → suc L ≤ D → L < length s.regs → (read ≡ true → slice_index s.regs (part_slot L t b) ≡ n) → Begun read n b L s
  begin false n b L s ld x h = record { regs = s.regs; kept = kept_all L D (suc t) s.regs; here = λ z. absurd (false≢true z); by = λ k leave go. refl }
  begin true n None L s ld x h = record { regs = s.regs; kept = kept_all L D (suc t) s.regs; here = h; by = λ k leave go. refl }
  begin true n (Some b) L s ld x h =
      let v = (slice_index s.regs t / 2 ^ b.low) % 2 ^ b.width in
      record {
        regs = slice_set s.regs L v;
        kept = record {
          count = length-set s.regs L v;
          low = λ j l. get_or-set_other s.regs L j v 0 (λ z. absurd (omega (arith, l, z)));
          high = λ j l m. get_or-set_other s.regs L j v 0 (λ z. absurd (omega (arith, l, z, ld)));
        };
        here = λ z. get_or-set_same s.regs L v 0 x ∙ ap (λ n. (n / 2 ^ b.low) % 2 ^ b.width) (h refl);
        by = λ k leave go. refl;
      }

  next_source : (read : Bool) (n : ℕ) (b : Option Bits) (L : ℕ) (ps : List Part) (r q : List ℕ) → AloneFrom b ps → (read ≡ true → slice_index r (part_slot L t b) ≡ n) → slice_index q t ≡ slice_index r t
      → Source read (suc L) t n ps q × Alone ps
  next_source read n None L [] r q al h k = (tt, tt)
  next_source read n None L (p ∷ ps) r q al h k = absurd al
  next_source read n (Some b) L ps r q al h k = (all_source read (suc L) t n ps q al (λ z. k ∙ h z), all_alone ps al)

  or_turn : (a b c : Bool) → (a || (b || c)) ≡ true → ((a || b) || c) ≡ true
  or_turn true b c h = refl
  or_turn false b c h = h

  module _ (ty : NameId) (later : List Field) (read : Bool) (n : ℕ) where
    pub parts_run : (ps : List Part) (site L : ℕ) (env : List ℕ) (s : State) (k : Steps) (leave go : State → Passage) (next : ℕ → List ℕ → Passage)
        → PartsSited T self ty site ps → length env ≡ L → PartsPlaced (length s.regs) D L t ps → Alone ps → Source read L t n ps s.regs → (is_needed L ps later ≡ true → read ≡ true)
        → Follows (λ j. parts_name j ps || fields_name j later) env s.regs → OnParts Sound s.start n ps env places s.pos s.cells
        → ((r c : List ℕ) → length r ≡ length s.regs → Follows (λ j. fields_name j later) (extended env n ps) r
        → (parts_meaning ty s.start n ps env places s.pos s.cells).ending ≡ Accepted s.pos c → goes (steps k) leave go (record s { regs = r; cells = c }) ≡ next s.pos c)
        → goes (steps (parts_steps t read site L ps k)) leave go s ≡ onto (parts_meaning ty s.start n ps env places s.pos s.cells) next
    unfolding parts_meaning
    parts_run [] site L env s k leave go next ss le x al so need f on h = h s.regs s.cells refl f refl
    parts_run (p ∷ ps) site L env s k leave go next ss le x al so need f on h =
        let B = begin read n p.bits L s x.0.0 x.0.1 so in
        let v = bits_of p.bits n in
        let env2 = env ++ v ∷ [] in
        let le2 : length env2 ≡ suc L = pushed_length env v ∙ ap suc le in
        let s1 : State = record s { regs = B.regs } in
        let test : ℕ → Bool = λ j. part_names j p || (parts_name j ps || fields_name j later) in
        let f0 = follows_some test (λ j. parts_name j (p ∷ ps) || fields_name j later) env s.regs (λ j m. or_turn (part_names j p) (parts_name j ps) (fields_name j later) m) f in
        let f1 : Follows test env2 B.regs = follows_push test env B.regs v (follows_kept test env s.regs B.regs (λ j l. B.kept.low j (omega (arith, l, le))) f0)
        (λ m. ap (slice_index B.regs) le ∙ B.here (need (named_needed p ps later L (subst (λ j. test j ≡ true) le m)))) in
        let R = refine_runs p.refinement env2 (suc L) site s1 le2 x.0.0 (subst (λ z. OptionExpr z (suc L) (suc t) p.refinement) (sym B.kept.count) x.1.0) on.0
        (follows_some (λ j. in_option (names j) p.refinement) test env2 B.regs (λ j m. or_left (part_names j p) (parts_name j ps || fields_name j later) (or_left (in_option (names j) p.refinement) (in_option (deed_names j) p.action) m)) f1) in
        let s2 : State = record s { regs = R.regs } in
        let two = R.kept.count ∙ B.kept.count in
        let f2 : Follows test env2 R.regs = follows_kept test env2 B.regs R.regs (λ j l. R.kept.low j (omega (arith, l, le2))) f1 in
        let S = place_of_site T site s.start in
        let fs = field_place ty p.name s.start in
        let A : ℕ → List ℕ → Behavior = acted p.action env2 places s.start in
        let C0 = checked p env2 places s.start s.pos s.cells in
        let M : ℕ → List ℕ → Behavior = parts_meaning ty s.start n ps env2 places in
        let after_parts : ℕ → List ℕ → Passage = λ q c. onto (M q c) next in
        let rest = parts_steps t read (suc site) (suc L) ps k in
        let third : (refined p.refinement env2 s.start s.pos s.cells).ending ≡ Accepted s.pos s.cells → goes (steps (action_step L t site p.action rest)) leave go s2 ≡ onto (within S (A s.pos s.cells)) after_parts =
        λ y.
        acted_runs p.action env2 L site s2 rest leave go s.pos after_parts le2 (subst (λ z. OptionDeed z D (suc L) (suc t) p.action) (sym two) x.1.1.0)
        (follows_some (λ j. in_option (deed_names j) p.action) test env2 R.regs (λ j m. or_left (part_names j p) (parts_name j ps || fields_name j later) (or_right (in_option (names j) p.refinement) (in_option (deed_names j) p.action) m)) f2)
        (at_ending (refined p.refinement env2 s.start s.pos s.cells).ending s.pos s.cells (λ q c. OnAction Sound p.action env2 places s.start c) on.1.0 y)
        (λ r c m z.
        let count : length r ≡ length s.regs = m.count ∙ two in
        let done = then_ending (refined p.refinement env2 s.start s.pos s.cells) A s.pos s.pos s.cells c y z in
        let same : slice_index r t ≡ slice_index s.regs t = m.high t dt (omega arith) ∙ R.kept.high t dt (omega arith) ∙ B.kept.high t dt (omega arith) in
        let so2 = next_source read n p.bits L ps s.regs r al so same in
        parts_run ps (suc site) (suc L) env2 (record s { regs = r; cells = c }) k leave go next ss.1 le2 (subst (λ w. PartsPlaced w D (suc L) t ps) (sym count) x.1.1.1) so2.1 so2.0
        (λ w. need (next_needed p ps later L w))
        (follows_kept (λ j. parts_name j ps || fields_name j later) env2 R.regs r (λ j l. m.low j (omega (arith, l, le2)))
        (follows_some (λ j. parts_name j ps || fields_name j later) test env2 R.regs (λ j w. or_right (part_names j p) (parts_name j ps || fields_name j later) w) f2))
        (at_ending C0.ending s.pos c (OnParts Sound s.start n ps env2 places) on.1.1 done)
        (λ r2 c2 len fol acc. h r2 c2 (len ∙ count) fol (then_ending (within fs C0) M s.pos s.pos c c2 (ap (ending_within fs) done) acc))) in
        B.by (test_step t site p.refinement (action_step L t site p.action rest)) leave go
        ∙ R.by (action_step L t site p.action rest) leave go s.pos (λ q c. onto (within S (A q c)) after_parts) third
        ∙ sym (onto_then (within S (refined p.refinement env2 s.start s.pos s.cells)) (λ q c. within S (A q c)) after_parts)
        ∙ ap (λ w. onto w after_parts) (sym (within_then S (refined p.refinement env2 s.start s.pos s.cells) A))
        ∙ ap (λ w. onto (within w C0) after_parts) (ss.0 s.start)
        ∙ sym (onto_then (within fs C0) M next)
