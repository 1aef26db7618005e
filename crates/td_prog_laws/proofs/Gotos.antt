-- Gotos of verified code lead to labels behind them.
use Rattle.std.proofs.Common.{ℕ, ◌+◌, inl, inr, Bool, true, false, cond, List, [], ◌∷◌}
use Rattle.std.specs.Prelude.{nat_eq}
use Rattle.td_num.specs.Lists.{Each}
use Rattle.td_ir.specs.declared.instructions.Instr.{Instr}
use Rattle.td_ir.specs.declared.instructions.Instr.TheVariants as i
use Rattle.td_ir.specs.declared.tables.Parts.{Parts}
use Rattle.td_prog.specs.Syntax.{Block}
use Rattle.td_prog.specs.Text.{HasLabel, GoForward}
use Rattle.td_prog_code.specs.Instructions.{statement}
use Rattle.td_prog_code.specs.Program.{stated, looped, put, blocks, first_block}
use Rattle.td_prog_steps.specs.Laid.{begins, IsLaid, AreLaid}

-- no label stands around a routine's body, or is reached out of a loop's
abbrev pub Forward : Block → Type 0
Forward b = GoForward (λ l. ⊥) b

-- where an instruction's goto leads
abbrev Finds : Instr → Block → Type 0
Finds (i.Jump target) rest = HasLabel target rest
Finds (i.JumpIf test target) rest = HasLabel target rest
Finds (i.JumpUnless test target) rest = HasLabel target rest
Finds j rest = Unit {0}

either : (b : Bool) (x y : Block) → Forward x → Forward y → Forward (cond b x y)
either true x y h k = h
either false x y h k = k

module _ (c : Parts) (n : ℕ) where
  statement_forward : (j : Instr) (rest : Block) → Finds j rest → Forward rest → Forward (statement c n j rest)
  statement_forward (i.Jump target) rest f r = (inl f, r)
  statement_forward (i.JumpIf test target) rest f r = ((inr (inl f), tt), r)
  statement_forward (i.JumpUnless test target) rest f r = ((inr (inl f), tt), r)
  statement_forward (i.Fetch into order width site) rest f r = (tt, r)
  statement_forward (i.SkipK bytes site) rest f r = either (nat_eq bytes 0) _ _ r (tt, r)
  statement_forward (i.Skip size site) rest f r = (tt, r)
  statement_forward (i.Zeros site) rest f r = ((tt, tt), r)
  statement_forward (i.Zeroterm bound width site) rest f r = ((tt, (tt, tt)), r)
  statement_forward (i.NarrowK bytes site) rest f r = either (nat_eq bytes 0) _ _ r (tt, r)
  statement_forward (i.Narrow size site) rest f r = (tt, r)
  statement_forward (i.Divides size step site) rest f r = (tt, r)
  statement_forward (i.Widen site) rest f r = (tt, r)
  statement_forward (i.Copy size buffer site) rest f r = (tt, (tt, r))
  statement_forward j rest f r = r

  -- in the block that stands first
  abbrev FindsIn : Instr → List Block → Type 0
  FindsIn j [] = Unit {0}
  FindsIn j (rest ∷ more) = Finds j rest

  stated_forward : (pc : ℕ) (j : Instr) (bs : List Block) → FindsIn j bs → Each Forward bs → Each Forward (stated c n pc j bs)
  stated_forward pc j [] f h = tt
  stated_forward pc j (rest ∷ more) f h = (statement_forward j rest f h.0, h.1)

  looped_forward : (pc : ℕ) (bs : List Block) → Each Forward bs → Each Forward (looped c n pc bs)
  looped_forward pc [] h = tt
  looped_forward pc (inner ∷ []) h = tt
  looped_forward pc (inner ∷ rest ∷ more) h = ((h.0, h.1.0), h.1.1)

  nothing_found : (j : Instr) → ((rest : Block) → Finds j rest) → (bs : List Block) → FindsIn j bs
  nothing_found j f [] = tt
  nothing_found j f (rest ∷ more) = f rest

  module _ (message places : List ℕ) where
    put_forward : (pc : ℕ) (j : Instr) (qs : List ℕ) (bs : List Block) → IsLaid c message places n pc j qs bs → Each Forward bs → Each Forward (put c n pc j bs)
    put_forward pc (i.Jump target) qs [] l h = absurd l
    put_forward pc (i.Jump target) qs (rest ∷ more) l h = stated_forward pc (i.Jump target) (rest ∷ more) l.2 h
    put_forward pc (i.JumpIf test target) qs [] l h = absurd l.1
    put_forward pc (i.JumpIf test target) qs (rest ∷ more) l h = stated_forward pc (i.JumpIf test target) (rest ∷ more) l.1.2 h
    put_forward pc (i.JumpUnless test target) qs [] l h = absurd l.1
    put_forward pc (i.JumpUnless test target) qs (rest ∷ more) l h = stated_forward pc (i.JumpUnless test target) (rest ∷ more) l.1.2 h
    put_forward pc (i.While target) qs bs l h = looped_forward pc bs h
    put_forward pc (i.Again target) qs bs l h = (tt, h)
    put_forward pc j qs bs l h = stated_forward pc j bs (nothing_found j (λ rest. tt) bs) h

    blocks_forward : (pc : ℕ) (js : List Instr) → AreLaid c message places n pc js → Each Forward (blocks c n pc js)
    blocks_forward pc [] l = (tt, tt)
    blocks_forward pc (j ∷ js) l = put_forward pc j (begins (pc + 1) js) (blocks c n (pc + 1) js) l.0 (blocks_forward (pc + 1) js l.1)

  pub first_forward : (bs : List Block) → Each Forward bs → Forward (first_block c n bs)
  first_forward [] h = tt
  first_forward (b ∷ bs) h = h.0

  -- a routine's blocks
  pub body_forward : (pc : ℕ) (js : List Instr) → AreLaid c [] [] n pc js → Forward (first_block c n (blocks c n pc js))
  body_forward pc js l = first_forward (blocks c n pc js) (blocks_forward [] [] pc js l)
