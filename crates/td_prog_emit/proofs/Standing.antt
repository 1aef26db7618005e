-- The blocks that stand before each place of verified code, and what is left to write there.
use Rattle.std.proofs.Common.{◌≡◌, ℕ, zero, suc, ◌+◌, ◌-◌, ◌<◌, ◌≤◌, Bool, true, false, ◌||◌, List, [], ◌∷◌, ◌++◌, length, take, drop, get_or, flat_map, Option, Some, None, refl, sym, ap, ◌∙◌, subst, append_assoc, arith}
use Rattle.std.specs.Prelude.{slice_get, slice_range}
use Rattle.std.proofs.lemmas.Option.{get_or_from_slice_get, slice_get_within}
use Rattle.std.proofs.Math.Seq.{drop-cons}
use Rattle.std.proofs.lemmas.List.{append-nil, take_more}
use Rattle.std.proofs.lemmas.Grind.{flat_map-append}
use Rattle.td_num.specs.Lists.{is_among}
use Rattle.td_num.proofs.Lists.{got}
use Rattle.td_ir.specs.declared.instructions.Instr.{Instr}
use Rattle.td_ir.specs.declared.instructions.Instr.TheVariants as i
use Rattle.td_ir.specs.declared.tables.Parts.{Parts}
use Rattle.td_ir.specs.Tables.{instruction_of, lengths_of, first_of, end_of}
use Rattle.td_verify.specs.declared.shape.Shape.{Shape}
use Rattle.td_verify.specs.declared.shape.Shape.TheVariants.{Straight, Jump, Branch, Call, Return, Fail, While, Again, Open, Close}
use Rattle.td_verify.specs.declared.bracket.Bracket.{Bracket}
use Rattle.td_verify.specs.declared.bracket.Bracket.TheVariants.{Window, Loop}
use Rattle.td_verify.specs.declared.rule.Rule.TheVariants as rule
use Rattle.td_verify.specs.Shape.{shape, shapes_of}
use Rattle.td_verify.specs.Rules.{StandsWell}
use Rattle.td_verify.specs.Brackets.{shape_at, opened, and_then, opening, closing_loop, closing_window, in_loop}
use Rattle.td_verify.specs.Flat.{IsFlat}
use Rattle.td_verify.specs.Verify.{IsIn, IsSound}
use Rattle.td_verify.specs.Safe.{IsSafe, looped}
use Rattle.td_verify.proofs.Sums.{shape_there}
use Rattle.td_verify.proofs.Flat.{next_opened}
use Rattle.td_verify.proofs.Safety.{opens}
use Rattle.td_ir.specs.WellFormed.{IsCode}
use Rattle.td_ir.proofs.Begins.{begin_up}
use Rattle.td_prog.specs.Syntax.{Block, Ends}
use Rattle.td_prog_code.specs.Program.{put, blocks, first_block, body}
use Rattle.td_prog_emit.specs.Labels.{after, bound, depth_in, targets}
use Rattle.td_prog_emit.specs.Written.{pieces_of}
use Rattle.td_prog_emit.proofs.Levels.{AreLevel, Turns, after_is, among_append, gone, put_goes, put_level, put_stands, S, standing}
use Rattle.td_prog_emit.specs.Labels.{place_pieces}
use Rattle.td_prog_emit.proofs.Texts.{text_append}
use Rattle.td_prog_text.specs.Expressions.{Pieces, text}
use Rattle.td_prog_text.specs.Statements as lines

-- one instruction's places more
pub marked_more : (xs : List Instr) (k l : ℕ) (j : Instr) (old new : Bool) → k < length xs → j ≡ get_or xs k (i.Fail 0 0) → new ≡ old || is_among (targets j) l → old ≡ is_among (flat_map targets (take k xs)) l →
    new ≡ is_among (flat_map targets (take (k + 1) xs)) l
marked_more xs k l j old new h e step before =
    step ∙ ap (λ (b : Bool). b || is_among (targets j) l) before ∙ sym (among_append (flat_map targets (take k xs)) (targets j) l)
    ∙ ap (λ (ts : List ℕ). is_among (flat_map targets (take k xs) ++ ts) l) (sym (append-nil (targets j)))
    ∙ ap (λ (ts : List ℕ). is_among ts l) (sym (flat_map-append targets (take k xs) (j ∷ [])))
    ∙ ap (λ (ys : List Instr). is_among (flat_map targets ys) l) (ap (λ (y : Instr). take k xs ++ y ∷ []) e ∙ sym (take_more xs k (i.Fail 0 0) h))

-- what is open of loops behind each shape
opened_same : (k p : ℕ) (o : Option (List Bracket)) → in_loop (opening (Window p k) o) ≡ in_loop o
opened_same k p None = refl
opened_same k p (Some bs) = refl

closed_same : (o : Option (List Bracket)) → in_loop o ≡ false → in_loop (closing_window o) ≡ in_loop o
closed_same None f = refl
closed_same (Some []) f = refl
closed_same (Some (Window a m ∷ bs)) f = refl
closed_same (Some (Loop l ∷ bs)) f = absurd (cc)

-- behind a loop that ends nothing is looped
closed_loop : (o : Option (List Bracket)) → IsFlat o → in_loop (closing_loop o) ≡ false
closed_loop None f = absurd f
closed_loop (Some []) f = refl
closed_loop (Some (Window a m ∷ [])) f = refl
closed_loop (Some (Window a m ∷ b ∷ bs)) f = absurd f
closed_loop (Some (Loop l ∷ [])) f = absurd f
closed_loop (Some (Loop l ∷ Window a m ∷ [])) f = refl
closed_loop (Some (Loop l ∷ Window a m ∷ b ∷ bs)) f = absurd f
closed_loop (Some (Loop l ∷ Loop a ∷ bs)) f = absurd f

module _ (c : Parts) (sound : IsSound c) (safe : IsSafe c) (n : ℕ) where
  turns : (p : ℕ) (z : Shape) → IsIn c n p → shape_at (shapes_of c) p ≡ z → Turns z (looped c p) (looped c (p + 1))
  turns p (Straight b w) i e = sym (ap in_loop (next_opened (shapes_of c) p ∙ ap (λ z. and_then p z (opened (shapes_of c) p)) e))
  turns p (Jump t) i e = sym (ap in_loop (next_opened (shapes_of c) p ∙ ap (λ z. and_then p z (opened (shapes_of c) p)) e))
  turns p (Branch t) i e = sym (ap in_loop (next_opened (shapes_of c) p ∙ ap (λ z. and_then p z (opened (shapes_of c) p)) e))
  turns p (Call m) i e = sym (ap in_loop (next_opened (shapes_of c) p ∙ ap (λ z. and_then p z (opened (shapes_of c) p)) e))
  turns p Return i e = sym (ap in_loop (next_opened (shapes_of c) p ∙ ap (λ z. and_then p z (opened (shapes_of c) p)) e))
  turns p Fail i e = sym (ap in_loop (next_opened (shapes_of c) p ∙ ap (λ z. and_then p z (opened (shapes_of c) p)) e))
  turns p (Open k) i e = sym (ap in_loop (next_opened (shapes_of c) p ∙ ap (λ z. and_then p z (opened (shapes_of c) p)) e) ∙ opened_same k p (opened (shapes_of c) p))
  turns p Close i e =
      let stands = subst (StandsWell (opened (shapes_of c) p)) e (sound n p i rule.Loop).stands in
      sym (ap in_loop (next_opened (shapes_of c) p ∙ ap (λ z. and_then p z (opened (shapes_of c) p)) e) ∙ closed_same (opened (shapes_of c) p) stands.1)
  turns p (While t) i e = (safe.loops.alone n p t i e, safe.loops.turning n p t i e)
  turns p (Again t) i e =
      (safe.loops.again n p t i e, ap in_loop (next_opened (shapes_of c) p ∙ ap (λ z. and_then p z (opened (shapes_of c) p)) e) ∙ closed_loop (opened (shapes_of c) p) (safe.each n p i).flat)

  abbrev pub code_from : ℕ → List Instr
  code_from pc = slice_range c.instructions pc (end_of c n)

  pub shape_is : (pc : ℕ) (j : Instr) → instruction_of c pc ≡ j → shape_at (shapes_of c) pc ≡ shape j
  shape_is pc j is = shape_there c pc ∙ ap shape is

  pub turns_at : (pc : ℕ) (j : Instr) → IsIn c n pc → instruction_of c pc ≡ j → Turns (shape j) (looped c pc) (looped c (pc + 1))
  turns_at pc j i is = turns pc (shape j) i (shape_is pc j is)

  pub code_next : (pc : ℕ) (j : Instr) → slice_get c.instructions pc ≡ Some j → pc < end_of c n → code_from pc ≡ j ∷ code_from (pc + 1)
  code_next pc j h l =
      let e : end_of c n - pc ≡ suc (end_of c n - (pc + 1)) = omega (arith, l) in
      let m : suc pc ≡ pc + 1 = omega arith in
      ap (λ k. take k (drop pc c.instructions)) e
      ∙ ap (λ ys. take (suc (end_of c n - (pc + 1))) ys) (drop-cons c.instructions pc j (slice_get_within c.instructions pc j h) ∙ ap (λ y. y ∷ drop (suc pc) c.instructions) (get_or_from_slice_get c.instructions pc j j h))
      ∙ ap (λ k. j ∷ take (end_of c n - (pc + 1)) (drop k c.instructions)) m

  record IsLaid (pc : ℕ) (js : List Instr) : Type 0 where
    level : AreLevel (looped c pc) (blocks c n pc js)
    goes : (l : ℕ) → gone l (blocks c n pc js) ≡ is_among (flat_map targets js) l

  laid_next : (pc : ℕ) (j : Instr) (js : List Instr) → Turns (shape j) (looped c pc) (looped c (pc + 1)) → IsLaid (pc + 1) js → IsLaid pc (j ∷ js)
  laid_next pc j js t r = record {
    level = put_level c n Ends pc j (looped c pc) (looped c (pc + 1)) (blocks c n (pc + 1) js) t r.level;
    goes = λ l.
        put_goes c n Ends pc l j (looped c pc) (looped c (pc + 1)) (blocks c n (pc + 1) js) t r.level
        ∙ ap (λ b. is_among (targets j) l || b) (r.goes l) ∙ sym (among_append (targets j) (flat_map targets js) l);
  }

  laid : (k pc : ℕ) → pc + k ≡ end_of c n → first_of c n ≤ pc → n < length c.routines → end_of c n ≤ length c.instructions → looped c (end_of c n) ≡ false → IsLaid pc (code_from pc)
  laid zero pc e f l m free =
      let same : end_of c n ≡ pc = omega (arith, e) in
      let z : end_of c n - pc ≡ 0 = omega (arith, e) in
      let nothing : code_from pc ≡ [] = ap (λ k. take k (drop pc c.instructions)) z in
      subst (IsLaid pc) (sym nothing) (record { level = subst (λ b. AreLevel b (Ends ∷ [])) (sym (subst (λ q. looped c q ≡ false) same free)) tt; goes = λ l. refl })
  laid (suc k) pc e f l m free =
      let x = got c.instructions pc (omega (arith, e, m)) in
      let is : instruction_of c pc ≡ x.0 = get_or_from_slice_get c.instructions pc x.0 (i.Fail 0 0) x.1 in
      let place : IsIn c n pc = record { routine = l; from = f; to = omega (arith, e) } in
      subst (IsLaid pc) (sym (code_next pc x.0 x.1 (omega (arith, e)))) (laid_next pc x.0 (code_from (pc + 1)) (turns_at pc x.0 place is) (laid k (pc + 1) (omega (arith, e)) (omega (arith, f)) l m free))

  pub level_from : (pc : ℕ) → first_of c n ≤ pc → pc ≤ end_of c n → n < length c.routines → end_of c n ≤ length c.instructions → looped c (end_of c n) ≡ false → AreLevel (looped c pc) (blocks c n pc (code_from pc))
  level_from pc f t l m free = (laid (end_of c n - pc) pc (omega (arith, t)) f l m free).level

  pub gone_from : (pc l : ℕ) → first_of c n ≤ pc → pc ≤ end_of c n → n < length c.routines → end_of c n ≤ length c.instructions → looped c (end_of c n) ≡ false → gone l (blocks c n pc (code_from pc)) ≡ is_among (flat_map targets (code_from pc)) l
  gone_from pc l f t h m free = (laid (end_of c n - pc) pc (omega (arith, t)) f h m free).goes l

  -- where a routine begins and ends, no loop is open
  pub ends_free : IsCode c → n < length c.routines → looped c (end_of c n) ≡ false
  ends_free code l = ap in_loop (opens c (record { whole = code.whole; some = λ n h. (code.routines n h).some; params = λ n h. (code.routines n h).room }) sound (suc n) l)

  pub fits : IsCode c → n < length c.routines → end_of c n ≤ length c.instructions
  fits code l = let up = begin_up (lengths_of c) (suc n) (length c.routines) l in let w = code.whole in omega (arith, up, w)

  pub begins_before : first_of c n ≤ end_of c n
  begins_before = begin_up (lengths_of c) n (suc n) (omega arith)

  begins_free : n < length c.routines → looped c (first_of c n) ≡ false
  begins_free l = ap in_loop (safe.begins n l).1

  first_level : IsCode c → n < length c.routines → AreLevel false (blocks c n (first_of c n) (code_from (first_of c n)))
  first_level code l =
      subst (λ b. AreLevel b (blocks c n (first_of c n) (code_from (first_of c n)))) (begins_free l)
      (level_from (first_of c n) (omega arith) begins_before l (fits code l) (ends_free code l))

  one_goes : (l : ℕ) (bs : List Block) → AreLevel false bs → lines.goes l (first_block c n bs) ≡ gone l bs
  one_goes l [] h = absurd h
  one_goes l (b ∷ []) h = or_none (lines.goes l b)
    where
      or_none : (x : Bool) → x ≡ x || false
      or_none true = refl
      or_none false = refl
  one_goes l (b ∷ a ∷ more) h = absurd h

  -- the labels of a routine are the places to which its instructions lead
  pub goes_is : (l : ℕ) → IsCode c → n < length c.routines → lines.goes l (body c n) ≡ is_among (flat_map targets (code_from (first_of c n))) l
  goes_is l code h =
      one_goes l (blocks c n (first_of c n) (code_from (first_of c n))) (first_level code h)
      ∙ gone_from (first_of c n) l (omega arith) begins_before h (fits code h) (ends_free code h)

  one_stands : (w : Block) (bs : List Block) → AreLevel false bs → standing c n w bs ≡ S c n w 1 (first_block c n bs)
  one_stands w [] h = absurd h
  one_stands w (b ∷ []) h = refl
  one_stands w (b ∷ a ∷ more) h = absurd h

  -- all instructions are written
  pub all_written : (w : Block) (old out : List ℕ) (pc first end : ℕ) → IsCode c → n < length c.routines → first ≡ first_of c n → end ≡ end_of c n → end ≤ pc →
      old ++ text (standing c n w (blocks c n first (slice_range c.instructions first (end_of c n)))) ≡ out ++ text (standing c n w (blocks c n pc (slice_range c.instructions pc (end_of c n)))) →
      out ≡ old ++ text (S c n w 1 (first_block c n (blocks c n first (slice_range c.instructions first end))))
  all_written w old out pc first end code l f t h e =
      let z : end_of c n - pc ≡ 0 = omega (arith, t, h) in
      let nothing : code_from pc ≡ [] = ap (λ k. take k (drop pc c.instructions)) z in
      sym (append-nil out)
      ∙ ap (λ (js : List Instr). out ++ text (standing c n w (blocks c n pc js))) (sym nothing)
      ∙ sym e
      ∙ ap (λ (k : ℕ). old ++ text (standing c n w (blocks c n k (slice_range c.instructions k (end_of c n))))) f
      ∙ ap (λ (ps : Pieces). old ++ text ps) (one_stands w (blocks c n (first_of c n) (code_from (first_of c n))) (first_level code l))
      ∙ ap (λ (k : ℕ). old ++ text (S c n w 1 (first_block c n (blocks c n k (slice_range c.instructions k (end_of c n)))))) (sym f)
      ∙ ap (λ (k : ℕ). old ++ text (S c n w 1 (first_block c n (blocks c n first (slice_range c.instructions first k))))) (sym t)

  -- one instruction more is written
  step_stands : (w : Block) (pc : ℕ) → IsCode c → IsIn c n pc → standing c n w (blocks c n pc (code_from pc)) ≡ place_pieces c n w pc (lines.goes pc w) (looped c pc) ++ standing c n w (blocks c n (pc + 1) (code_from (pc + 1)))
  step_stands w pc code place =
      let l = place.routine in
      let m = fits code l in
      let t = place.to in
      let x = got c.instructions pc (omega (arith, t, m)) in
      let is : x.0 ≡ instruction_of c pc = sym (get_or_from_slice_get c.instructions pc x.0 (i.Fail 0 0) x.1) in
      let from = place.from in
      let j = instruction_of c pc in
      let bs = blocks c n (pc + 1) (code_from (pc + 1)) in
      let level = level_from (pc + 1) (omega (arith, from)) (omega (arith, t)) l m (ends_free code l) in
      ap (λ (js : List Instr). standing c n w (blocks c n pc js)) (code_next pc x.0 x.1 t)
      ∙ ap (λ (y : Instr). standing c n w (put c n pc y bs)) is
      ∙ put_stands c n w pc j (looped c pc) (looped c (pc + 1)) bs (turns_at pc j place refl) level
      ∙ ap (λ (ps : Pieces). lines.label_text (lines.goes pc w) pc ∷ ps) (sym (append_assoc (pieces_of c n w (depth_in (looped c pc)) j) (bound (shape j)) (standing c n w bs)))

  pub step_written : (w : Block) (all mid new : List ℕ) (pc : ℕ) (is lp : Bool) → IsCode c → IsIn c n pc → is ≡ lines.goes pc w → lp ≡ looped c pc → new ≡ mid ++ text (place_pieces c n w pc is lp) →
      all ≡ mid ++ text (standing c n w (blocks c n pc (slice_range c.instructions pc (end_of c n)))) →
      all ≡ new ++ text (standing c n w (blocks c n (pc + 1) (slice_range c.instructions (pc + 1) (end_of c n))))
  step_written w all mid new pc is lp code place e f wrote left =
      let rest = text (standing c n w (blocks c n (pc + 1) (code_from (pc + 1)))) in
      left
      ∙ ap (λ (ps : Pieces). mid ++ text ps) (step_stands w pc code place)
      ∙ ap (λ (l : List ℕ). mid ++ l) (text_append (place_pieces c n w pc (lines.goes pc w) (looped c pc)) (standing c n w (blocks c n (pc + 1) (code_from (pc + 1)))))
      ∙ sym (append_assoc mid (text (place_pieces c n w pc (lines.goes pc w) (looped c pc))) rest)
      ∙ ap (λ (b : Bool). (mid ++ text (place_pieces c n w pc b (looped c pc))) ++ rest) (sym e)
      ∙ ap (λ (b : Bool). (mid ++ text (place_pieces c n w pc is b)) ++ rest) (sym f)
      ∙ ap (λ (l : List ℕ). l ++ rest) (sym wrote)

  pub loop_next : (pc : ℕ) (j : Instr) (z : Shape) (lp next : Bool) → IsIn c n pc → j ≡ instruction_of c pc → z ≡ shape j → lp ≡ looped c pc → next ≡ after z lp → next ≡ looped c (pc + 1)
  loop_next pc j z lp next place is form e step =
      step
      ∙ ap (λ (s : Shape). after s lp) (form ∙ ap shape is)
      ∙ ap (after (shape (instruction_of c pc))) e
      ∙ sym (after_is (shape (instruction_of c pc)) (looped c pc) (looped c (pc + 1)) (turns_at pc (instruction_of c pc) place refl))

pub slice_same : (xs ys : List Instr) (a b : ℕ) (a' b' : ℕ) → xs ≡ ys → a ≡ a' → b ≡ b' → slice_range xs a b ≡ slice_range ys a' b'
slice_same xs ys a b a' b' e f g = ap (λ (zs : List Instr). slice_range zs a b) e ∙ ap (λ (k : ℕ). slice_range ys k b) f ∙ ap (λ (k : ℕ). slice_range ys a' k) g
