-- The program of verified code calls as deep as its code.
use Rattle.std.proofs.Common.{◌≡◌, ℕ, zero, suc, ◌+◌, ◌-◌, ◌<◌, Bool, true, false, cond, List, [], ◌∷◌, length, Some, refl, sym, ap, ◌∙◌, subst, arith}
use Rattle.std.specs.Prelude.{nat_eq, slice_get, slice_range}
use Rattle.std.proofs.lemmas.Option.{get_or_from_slice_get, slice_get_within, same_Some}
use Rattle.td_num.specs.Lists.{Each}
use Rattle.td_ir.specs.declared.instructions.Instr.{Instr}
use Rattle.td_ir.specs.declared.instructions.Instr.TheVariants as i
use Rattle.td_ir.specs.declared.tables.Parts.{Parts}
use Rattle.td_ir.specs.Tables.{instruction_of, first_of, end_of}
use Rattle.td_verify.specs.Shape.{shape}
use Rattle.td_verify.specs.Verify.{IsIn, IsSound}
use Rattle.td_verify.proofs.Sums.{shape_there}
use Rattle.td_prog.specs.Syntax.{Block, Function}
use Rattle.td_prog_code.specs.Instructions.{statement}
use Rattle.td_prog_code.specs.Program.{stated, looped, put, blocks, first_block, body, function, functions}
use Rattle.td_prog_steps.proofs.Whole.{function_at}
use Rattle.td_prog_laws.specs.Depth.{CallsLower, ProgramIsShallow}
use Rattle.td_prog_laws.proofs.Depths.{depth, depth_lower, depth_few}
use Rattle.td_prog_laws.proofs.Frames.{each_behind}

module _ (c : Parts) (n : ℕ) where
  abbrev Lower : Block → Type 0
  Lower b = CallsLower (depth c) (depth c n) b

  -- what a Call calls
  abbrev Calls : Instr → Type 0
  Calls (i.Call first m map site) = depth c m < depth c n
  Calls j = Unit {0}

  either : (b : Bool) (x y : Block) → Lower x → Lower y → Lower (cond b x y)
  either true x y h k = h
  either false x y h k = k

  statement_lower : (j : Instr) (rest : Block) → Calls j → Lower rest → Lower (statement c n j rest)
  statement_lower (i.Call first m map site) rest f r = (f, r)
  statement_lower (i.JumpIf test target) rest f r = (tt, r)
  statement_lower (i.JumpUnless test target) rest f r = (tt, r)
  statement_lower (i.Fetch into order width site) rest f r = (tt, r)
  statement_lower (i.SkipK bytes site) rest f r = either (nat_eq bytes 0) _ _ r (tt, r)
  statement_lower (i.Skip size site) rest f r = (tt, r)
  statement_lower (i.Zeros site) rest f r = ((tt, tt), r)
  statement_lower (i.Zeroterm bound width site) rest f r = ((tt, (tt, tt)), r)
  statement_lower (i.NarrowK bytes site) rest f r = either (nat_eq bytes 0) _ _ r (tt, r)
  statement_lower (i.Narrow size site) rest f r = (tt, r)
  statement_lower (i.Divides size step site) rest f r = (tt, r)
  statement_lower (i.Widen site) rest f r = (tt, r)
  statement_lower (i.Copy size buffer site) rest f r = (tt, (tt, r))
  statement_lower j rest f r = r

  stated_lower : (pc : ℕ) (j : Instr) (bs : List Block) → Calls j → Each Lower bs → Each Lower (stated c n pc j bs)
  stated_lower pc j [] f h = tt
  stated_lower pc j (rest ∷ more) f h = (statement_lower j rest f h.0, h.1)

  looped_lower : (pc : ℕ) (bs : List Block) → Each Lower bs → Each Lower (looped c n pc bs)
  looped_lower pc [] h = tt
  looped_lower pc (inner ∷ []) h = tt
  looped_lower pc (inner ∷ rest ∷ more) h = ((h.0, h.1.0), h.1.1)

  put_lower : (pc : ℕ) (j : Instr) (bs : List Block) → Calls j → Each Lower bs → Each Lower (put c n pc j bs)
  put_lower pc (i.While target) bs f h = looped_lower pc bs h
  put_lower pc (i.Again target) bs f h = (tt, h)
  put_lower pc j bs f h = stated_lower pc j bs f h

  blocks_lower : (pc : ℕ) (js : List Instr) → Each Calls js → Each Lower (blocks c n pc js)
  blocks_lower pc [] f = (tt, tt)
  blocks_lower pc (j ∷ js) f = put_lower pc j (blocks c n (pc + 1) js) f.0 (blocks_lower (pc + 1) js f.1)

  first_lower : (bs : List Block) → Each Lower bs → Lower (first_block c n bs)
  first_lower [] h = tt
  first_lower (b ∷ bs) h = h.0

  module _ (sound : IsSound c) (inside : n < length c.routines) where
    call_lower : (p : ℕ) (j : Instr) → slice_get c.instructions p ≡ Some j → IsIn c n p → Calls j
    call_lower p (i.Call first m map site) e place =
        let is : instruction_of c p ≡ i.Call first m map site = get_or_from_slice_get c.instructions p (i.Call first m map site) (i.Fail 0 0) e in
        let q = depth_lower c sound n m p place (shape_there c p ∙ ap shape is) in
        let l = q.1 in omega (arith, l)
    call_lower p j e place = tt

    calls_lower : Each Calls (slice_range c.instructions (first_of c n) (end_of c n))
    calls_lower =
        each_behind Calls (end_of c n - first_of c n) (first_of c n) c.instructions (λ p j e a b. call_lower p j e (record { routine = inside; from = a; to = omega (arith, a, b) }))

    body_lower : Lower (body c n)
    body_lower =
        first_lower (blocks c n (first_of c n) (slice_range c.instructions (first_of c n) (end_of c n))) (blocks_lower (first_of c n) (slice_range c.instructions (first_of c n) (end_of c n)) calls_lower)

function_count : (c : Parts) (names : ℕ → List ℕ) (count first : ℕ) → length (functions c names first count) ≡ count
function_count c names zero first = refl
function_count c names (suc count) first = ap suc (function_count c names count (first + 1))

pub program_is_shallow : ProgramIsShallow
program_is_shallow c names code sound = record {
  depth = depth c;
  some = λ n. omega arith;
  few = λ n l. depth_few c sound n (within n l);
  lower = λ n f e.
      let l = within n (slice_get_within (functions c names 0 (length c.routines)) n f e) in
      let same : 0 + n ≡ n = omega arith in
      let is : function c names n ≡ f = ap (function c names) (sym same) ∙ same_Some (function c names (0 + n)) f (sym (function_at c names (length c.routines) 0 n l) ∙ e) in
      subst (λ (g : Function). CallsLower (depth c) (depth c n) g.body) is (body_lower c n sound l);
}
  where
    within : (n : ℕ) → n < length (functions c names 0 (length c.routines)) → n < length c.routines
    within n l = let e = function_count c names (length c.routines) 0 in omega (arith, l, e)
