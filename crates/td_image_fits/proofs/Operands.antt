-- The numbers of an instruction that keeps the verifier's rules have room in the fields of an image.
use Rattle.std.proofs.Common.{◌≡◌, inl, inr, ℕ, zero, suc, ◌^◌, ◌<◌, ◌≤◌, Bool, true, false, List, length, nat_lt, refl, arith, slice_index_or}
use Rattle.std.proofs.lemmas.Bool.{ltb-true, ltb-false}
use Rattle.td_num.specs.Lists.{Each}
use Rattle.td_image_fits.specs.Imports.{Instr, Parts}
use Rattle.td_ir.specs.declared.instructions.Instr.TheVariants as i
use Rattle.td_ir.specs.Tables.{routine_of, instruction_of, lengths_of, begin, no_routine}
use Rattle.td_ir.specs.WellFormed.{IsCode}
use Rattle.td_verify.specs.Operands.{HasRegisters, HasTables, HasOperands, IsWidth, callee_params}
use Rattle.td_verify.specs.Verify.{IsIn, IsSound}
use Rattle.td_verify.specs.declared.rule.Rule.TheVariants as rules
use Rattle.td_ir.specs.Fields.{fields_of}
use Rattle.td_image.specs.declared.limits.TheConstants.{MOST_ROWS}
use Rattle.td_image.specs.Within.{IsSmallRoutine, HasSmallOperands}
use Rattle.td_image_fits.proofs.Blocks.{IsRoomy}
use Rattle.td_num.proofs.Lists.{each_by, each_index as each_of}

width_low : (w : ℕ) → IsWidth w → w < 2 ^ 16
width_low w (inl e) = omega (arith, e)
width_low w (inr (inl e)) = omega (arith, e)
width_low w (inr (inr (inl e))) = omega (arith, e)
width_low w (inr (inr (inr e))) = omega (arith, e)

-- how long tables may be, and how many registers, cells and buffers routine n has
pub record HasRoom (c : Parts) (n : ℕ) : Type 0 where
  pub registers : (routine_of c n).registers < 2 ^ 16
  pub cells : (routine_of c n).cells < 2 ^ 16
  pub buffers : length (routine_of c n).buffers < 2 ^ 16
  pub sites : length c.sites < 2 ^ 32
  pub maps : length c.maps < 2 ^ 32
  pub sets : length c.sets < 2 ^ 32

module _ (c : Parts) (n params : ℕ) (room : HasRoom c n) where
  operands_small : (j : Instr) → IsRoomy j → HasRegisters (routine_of c n).registers params j → HasTables c n j → HasOperands j → HasSmallOperands (fields_of j)
  operands_small (i.Const into value) y h t o = record { x = omega arith; a = omega (arith, room.registers, h); b = omega arith; c = omega arith; t = omega arith; site = omega arith; k = y }
  operands_small (i.Member into source set) y h t o = record { x = omega arith; a = omega (arith, room.registers, h.0); b = omega (arith, room.registers, h.1); c = omega arith; t = omega (arith, room.sets, t); site = omega arith; k = omega arith }
  operands_small (i.Op into operator left right) y h t o = record { x = omega (arith, o); a = omega (arith, room.registers, h.0); b = omega (arith, room.registers, h.1); c = omega (arith, room.registers, h.2); t = omega arith; site = omega arith; k = omega arith }
  operands_small (i.Bits into source low count) y h t o = record { x = omega (arith, o.0); a = omega (arith, room.registers, h.0); b = omega (arith, room.registers, h.1); c = omega (arith, o.0); t = omega arith; site = omega arith; k = omega arith }
  operands_small (i.Pos into) y h t o = record { x = omega arith; a = omega (arith, room.registers, h); b = omega arith; c = omega arith; t = omega arith; site = omega arith; k = omega arith }
  operands_small (i.Jump target) y h t o = record { x = omega arith; a = omega arith; b = omega arith; c = omega arith; t = y; site = omega arith; k = omega arith }
  operands_small (i.JumpIf test target) y h t o = record { x = omega arith; a = omega arith; b = omega (arith, room.registers, h); c = omega arith; t = y; site = omega arith; k = omega arith }
  operands_small (i.JumpUnless test target) y h t o = record { x = omega arith; a = omega arith; b = omega (arith, room.registers, h); c = omega arith; t = y; site = omega arith; k = omega arith }
  operands_small (i.Call first routine map site) y h t o = record { x = omega arith; a = y.0; b = omega arith; c = omega arith; t = y.1; site = omega (arith, room.sites, t.0); k = omega (arith, room.maps, t.1.in_table) }
  operands_small i.Return y h t o = record { x = omega arith; a = omega arith; b = omega arith; c = omega arith; t = omega arith; site = omega arith; k = omega arith }
  operands_small (i.Fetch into order width site) y h t o = record { x = omega (arith, o.0); a = omega (arith, room.registers, h); b = omega arith; c = width_low width o.1; t = omega arith; site = omega (arith, room.sites, t); k = omega arith }
  operands_small (i.SkipK bytes site) y h t o = record { x = omega arith; a = omega arith; b = omega arith; c = omega arith; t = omega arith; site = omega (arith, room.sites, t); k = omega (arith, o) }
  operands_small (i.Skip size site) y h t o = record { x = omega arith; a = omega arith; b = omega (arith, room.registers, h); c = omega arith; t = omega arith; site = omega (arith, room.sites, t); k = omega arith }
  operands_small i.Rest y h t o = record { x = omega arith; a = omega arith; b = omega arith; c = omega arith; t = omega arith; site = omega arith; k = omega arith }
  operands_small (i.Zeros site) y h t o = record { x = omega arith; a = omega arith; b = omega arith; c = omega arith; t = omega arith; site = omega (arith, room.sites, t); k = omega arith }
  operands_small (i.Zeroterm bound width site) y h t o = record { x = omega arith; a = omega arith; b = omega (arith, room.registers, h); c = width_low width o; t = omega arith; site = omega (arith, room.sites, t); k = omega arith }
  operands_small (i.NarrowK bytes site) y h t o = record { x = omega arith; a = omega arith; b = omega arith; c = omega arith; t = omega arith; site = omega (arith, room.sites, t); k = omega (arith, o) }
  operands_small (i.Narrow size site) y h t o = record { x = omega arith; a = omega arith; b = omega (arith, room.registers, h); c = omega arith; t = omega arith; site = omega (arith, room.sites, t); k = omega arith }
  operands_small (i.Divides size step site) y h t o = record { x = omega arith; a = omega arith; b = omega (arith, room.registers, h); c = omega arith; t = omega arith; site = omega (arith, room.sites, t); k = y }
  operands_small (i.While target) y h t o = record { x = omega arith; a = omega arith; b = omega arith; c = omega arith; t = y; site = omega arith; k = omega arith }
  operands_small (i.Again target) y h t o = record { x = omega arith; a = omega arith; b = omega arith; c = omega arith; t = y; site = omega arith; k = omega arith }
  operands_small (i.Widen site) y h t o = record { x = omega arith; a = omega arith; b = omega arith; c = omega arith; t = omega arith; site = omega (arith, room.sites, t); k = omega arith }
  operands_small (i.Fail reason site) y h t o = record { x = omega (arith, o); a = omega arith; b = omega arith; c = omega arith; t = omega arith; site = omega (arith, room.sites, t); k = omega arith }
  operands_small (i.Get into cell) y h t o = record { x = omega arith; a = omega (arith, room.registers, h); b = omega arith; c = omega (arith, room.cells, t); t = omega arith; site = omega arith; k = omega arith }
  operands_small (i.Set source cell) y h t o = record { x = omega arith; a = omega arith; b = omega (arith, room.registers, h); c = omega (arith, room.cells, t); t = omega arith; site = omega arith; k = omega arith }
  operands_small i.Mark y h t o = record { x = omega arith; a = omega arith; b = omega arith; c = omega arith; t = omega arith; site = omega arith; k = omega arith }
  operands_small (i.Left into) y h t o = record { x = omega arith; a = omega (arith, room.registers, h); b = omega arith; c = omega arith; t = omega arith; site = omega arith; k = omega arith }
  operands_small (i.Copy size buffer site) y h t o = record { x = omega arith; a = omega arith; b = omega (arith, room.registers, h); c = omega (arith, room.buffers, t.1); t = omega arith; site = omega (arith, room.sites, t.0); k = omega arith }

-- the routine of an instruction
routine_around : (ls : List ℕ) (n p : ℕ) → p < begin ls n → (k : ℕ) × (k < n) × (begin ls k ≤ p) × (p < begin ls (suc k))
routine_around ls zero p h = absurd (omega (arith, h))
routine_around ls (suc n) p h = by (nat_lt p (begin ls n)) refl (routine_around ls n p)
  where
    by : (b : Bool) → nat_lt p (begin ls n) ≡ b → (p < begin ls n → (k : ℕ) × (k < n) × (begin ls k ≤ p) × (p < begin ls (suc k))) → (k : ℕ) × (k < suc n) × (begin ls k ≤ p) × (p < begin ls (suc k))
    by true e before = let r = before (ltb-true p (begin ls n) e) in (r.0, omega (arith, r.1), r.2, r.3)
    by false e before = (n, omega arith, ltb-false p (begin ls n) e, h)

pub all_small : (c : Parts) → IsCode c → IsSound c → length c.sites ≤ MOST_ROWS → length c.maps ≤ MOST_ROWS → length c.sets ≤ MOST_ROWS
    → Each IsSmallRoutine c.routines → Each IsRoomy c.instructions → Each (λ j. HasSmallOperands (fields_of j)) c.instructions
all_small c code sound sites maps sets routines roomy = each_by (λ j. HasSmallOperands (fields_of j)) c.instructions (i.Fail 0 0) at
  where
    at : (p : ℕ) → p < length c.instructions → HasSmallOperands (fields_of (slice_index_or c.instructions p (i.Fail 0 0)))
    at p h =
        let whole = code.whole in
        let r = routine_around (lengths_of c) (length c.routines) p (omega (arith, h, whole)) in
        let n = r.0 in
        let inside : IsIn c n p = record { routine = r.1; from = r.2; to = r.3 } in
        let own = each_of IsSmallRoutine c.routines no_routine n routines r.1 in
        let room : HasRoom c n =
        record { registers = omega (arith, own.registers); cells = omega (arith, own.cells); buffers = omega (arith, own.buffers); sites = omega (arith, sites); maps = omega (arith, maps); sets = omega (arith, sets) } in
        operands_small c n (callee_params c (instruction_of c p)) room (instruction_of c p)
        (each_of IsRoomy c.instructions (i.Fail 0 0) p roomy h) (sound n p inside rules.Register) (sound n p inside rules.Table).0 (sound n p inside rules.Operand)
