-- What the verifier keeps while it goes through the routines, and what it says of one (own rule).
use Rattle.std.specs.Prelude.{◌≡◌, ℕ, suc, ◌+◌, ◌-◌, ◌^◌, ◌<◌, ◌≤◌, ◌↔◌, true, List, length, slice_index, Option, Some, None, [], vec_capacity}
use Rattle.td_ir.specs.declared.tables.Parts.{Parts}
use Rattle.td_ir.specs.Tables.{routine_of, map_of, lengths_of, begin}
use Rattle.td_verify.specs.Shape.{shapes_of}
use Rattle.td_verify.specs.Brackets.{opened}
use Rattle.td_verify.specs.Contexts.{AreContexts}
use Rattle.td_verify.specs.Ways.{MayBeEmpty, CanReturn}
use Rattle.td_verify.specs.Marks.{IsEmptyBy}
use Rattle.td_verify.specs.Rules.{deepest, weigh}
use Rattle.td_verify.specs.Operands.{AreBelow}
use Rattle.td_verify.specs.Verify.{KeepsBy, Keeps, KeepsAll, BreaksFirst, IsIn, depths, weights}
use Rattle.td_verify.specs.declared.rule.Rule.{Rule}
use Rattle.td_verify.specs.declared.rule.Breach.{Breach}
use Rattle.td_verify.specs.declared.routine.Known.{Known}
use Rattle.td_verify.specs.declared.routine.Summary.{Summary}
use Rattle.td_verify.specs.declared.verify.Findings.{Findings}
use Rattle.td_verify.specs.declared.verify.Room.{Room}

-- parts of which the routines divide the instructions, each has some, and each has registers for its parameters
pub record IsDivided (c : Parts) : Type 0 where
  pub whole : begin (lengths_of c) (length c.routines) ≡ length c.instructions
  pub some : (n : ℕ) → n < length c.routines → 1 ≤ (routine_of c n).length
  pub params : (n : ℕ) → n < length c.routines → (routine_of c n).params ≤ (routine_of c n).registers

-- of the first n cell maps, one more than the greatest number
pub record AreTops (c : Parts) (tops : List ℕ) (n : ℕ) : Type 0 where
  pub count : length tops ≡ n
  pub each : (k m : ℕ) → k < n → AreBelow m (map_of c k) ↔ (slice_index tops k ≤ m)

pub record IsKnown (k : Known) (n : ℕ) : Type 0 where
  pub shapes : k.shapes.now ≡ shapes_of k.parts.now
  pub count : length k.contexts.now ≡ length k.shapes.now + 1
  pub contexts : AreContexts k.shapes.now k.contexts.now (length k.shapes.now + 1)
  pub routine : n < length k.parts.now.routines
  pub depths : length k.depths.now ≡ n
  pub weights : (m : ℕ) → slice_index k.weights.now m ≤ 2 ^ 40
  pub tops : AreTops k.parts.now k.tops.now (length k.parts.now.maps)

-- no rule, where all are kept; else the first that is broken
abbrev pub IsFirstOrNone : (Rule → Type 0) → Option Rule → Type 0
IsFirstOrNone K None = KeepsAll K
IsFirstOrNone K (Some r) = BreaksFirst K r

-- an instruction of routine n keeps a rule, by what is known
abbrev pub KeepsNow : Known → (n from end p : ℕ) → Rule → Type 0
KeepsNow k n from end p r = KeepsBy k.parts.now (IsEmptyBy k.empties.now) k.depths.now k.weights.now n from end p r

-- the summary of a routine that breaks nothing
pub record IsSummaryOf (k : Known) (n from end : ℕ) (t : Summary) : Type 0 where
  pub depth : t.depth ≡ deepest k.shapes.now k.depths.now from (end - from) + 1
  pub shallow : t.depth ≤ 32
  pub weight : t.weight ≡ weigh k.shapes.now k.weights.now from (end - from)
  pub light : t.weight ≤ 2 ^ 40
  pub empty : (t.empty ≡ true) ↔ CanReturn k.shapes.now (IsEmptyBy k.empties.now) from end
  pub sound : (p : ℕ) → from ≤ p → p < end → KeepsAll (KeepsNow k n from end p)
  pub closed : opened k.shapes.now end ≡ Some []

pub record FailsFirst (k : Known) (n from end : ℕ) (e : Breach) : Type 0 where
  pub after : from ≤ e.at
  pub before : e.at < end
  pub breaks : BreaksFirst (KeepsNow k n from end e.at) e.rule
  pub kept_before : (p : ℕ) → from ≤ p → p < e.at → KeepsAll (KeepsNow k n from end p)

-- what was found is so, of the first n routines
pub record AreFindings (c : Parts) (n : ℕ) (f : Findings) : Type 0 where
  pub count : length f.contexts.items ≡ length (shapes_of c) + 1
  pub contexts : AreContexts (shapes_of c) f.contexts.items (length (shapes_of c) + 1)
  pub depths : f.depths.items ≡ depths (shapes_of c) (lengths_of c) n
  pub weights : f.weights.items ≡ weights (shapes_of c) (lengths_of c) n
  pub light : (m : ℕ) → slice_index f.weights.items m ≤ 2 ^ 40
  pub size : length f.empties.items ≡ n
  pub empties : (m : ℕ) → IsEmptyBy f.empties.items m ↔ MayBeEmpty (shapes_of c) (lengths_of c) n m
  pub tops : AreTops c f.tops.items (length c.maps)

-- room for the summaries of all routines
pub record HasSpace (c : Parts) (f : Findings) : Type 0 where
  pub depths : length c.routines ≤ vec_capacity f.depths
  pub weights : length c.routines ≤ vec_capacity f.weights
  pub empties : length c.routines ≤ vec_capacity f.empties

-- routine n was passed, which ends at a place
pub record HasPassed (c : Parts) (n : ℕ) (f : Findings) (to : ℕ) : Type 0 where
  pub findings : AreFindings c (suc n) f
  pub to_is : to ≡ begin (lengths_of c) (suc n)
  pub opens : opened (shapes_of c) to ≡ Some []
  pub sound : (p : ℕ) → IsIn c n p → KeepsAll (Keeps c n p)

-- the first instruction of routine n that breaks a rule
pub record IsFirstIn (c : Parts) (n : ℕ) (e : Breach) : Type 0 where
  pub is_in : IsIn c n e.at
  pub breaks : BreaksFirst (Keeps c n e.at) e.rule
  pub kept_before : (p : ℕ) → IsIn c n p → p < e.at → KeepsAll (Keeps c n p)

-- what is known of parts before their first routine is looked at, and room for all that is found
pub record IsRoomFor (c : Parts) (r : Room) : Type 0 where
  pub shapes : r.shapes.items ≡ shapes_of c
  pub size : length r.marks.items ≡ length (shapes_of c)
  pub findings : AreFindings c 0 r.findings
  pub space : HasSpace c r.findings
