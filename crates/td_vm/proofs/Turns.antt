-- Turns of loops, calls, and the room of a run.
use Rattle.std.proofs.Common.{◌≡◌, ℕ, zero, suc, ◌+◌, ◌-◌, ◌*◌, ◌<◌, ◌≤◌, true, false, cond, List, [], ◌∷◌, ◌++◌, length, sym, refl, ap, ◌∙◌, subst, arith, take, drop}
use Rattle.std.specs.Prelude.{slice_range, slice_index, slice_set, replicate, nat_eq}
use Rattle.std.proofs.Math.Seq.{drop-cons, take-suc-set}
use Rattle.td_num.specs.Numbers.{places_from}
use Rattle.td_vm.specs.Imports.{Reason, TraceFrame, Parts, Instr, Call, TraceRoom, CodeView, Level, BlockExit, Slate}
use Rattle.td_ir.specs.declared.tables.Routine.{Routine}
use Rattle.td_ir.specs.declared.instructions.Instr.TheVariants as instr
use Rattle.td_ir.specs.Tables.{routine_of, cells_by, instruction_of, lengths_of, first_of, end_of as end_at}
use Rattle.td_ir.specs.State.{State, left, registers_from, Exit, after}
use Rattle.td_ir.specs.State as ir
use Rattle.td_ir.specs.Run.{places_by, entered, again, turns}
use Rattle.td_ir.proofs.Begins.{begin_next, begin_up}
use Rattle.td_verify.specs.Shape.{shape, shapes_of}
use Rattle.td_verify.specs.Operands.{HasRegisters, HasTables, callee_params}
use Rattle.td_verify.specs.Rules.{CallsWell}
use Rattle.td_verify.specs.Brackets.{shape_at, in_loop}
use Rattle.td_verify.specs.Ways.{MayBeEmpty}
use Rattle.td_verify.specs.Verify.{IsIn, depths}
use Rattle.td_verify.specs.Safe.{IsSafe, looped}
use Rattle.td_vm_step.specs.declared.activation.BlockExit.TheVariants.{Returned, Turned, Failed}
use Rattle.td_vm.specs.Exits.{frames_of, exit_by, way_of, call_way, WhenTurned, WhenReturned, NotTurned, Traced}
use Rattle.td_vm.specs.Need.{registers, cells, level}
use Rattle.td_verify_runs.specs.Stretches.{Idle, IsRunnable, IdleReturn}
use Rattle.td_vm.specs.Machine.{HasRoom, HasEntryRoom, IsCallee, IsKept, AreRoomy}
use Rattle.td_vm.specs.declared.level.Spare.{Spare}
use Rattle.td_stream.specs.Copies.{rooms_of}
use Rattle.td_vm_step.specs.Stepping.{HasPlaces, IsLent}
use Rattle.td_vm.proofs.Calls.{callee_need}
use Rattle.td_vm.proofs.Places.{callee_places, entry_places, own_snoc}
use Rattle.td_verify.proofs.Sums.{shape_there}

pub none_left : (n : ℕ) → (1 ≤ n → ⊥) → n ≡ 0
none_left n h = grind arith

-- the room of a callee
pub callee_room : (l inner : Level) (spare free : Spare) (regs mine : List ℕ) (x : Slate) (at m arg k : ℕ) → HasRoom l spare regs x → IsCallee l.code.parts.now l.n at m arg k
    → inner.code ≡ l.code → inner.n ≡ m → inner.first ≡ l.first → inner.places.now ≡ places_by l.places.now (cells_by l.code.parts.now l.n m k)
    → length free.places.now + cells l.code.parts.now m ≡ length spare.places.now → length mine ≡ registers l.code.parts.now m → length free.registers.now + registers l.code.parts.now m ≡ length spare.registers.now → HasRoom inner free mine x
callee_room l inner spare free regs mine x at m arg k h d ec en ef ep pr rc rr =
    let c = l.code.parts.now in
    subst (λ (i : Level). HasRoom i free mine x) (λ i. record { code = sym ec i; n = sym en i; first = sym ef i; places = inner.places }) (record {
      runnable = h.runnable;
      begins = h.begins;
      routine = omega (arith, h.routine, d.lower);
      place_room = omega (arith, callee_need (cells c) c l.n at m d.place d.is d.lower, h.place_room, pr);
      register_count = rc;
      register_room = omega (arith, callee_need (registers c) c l.n at m d.place d.is d.lower, h.register_room, rr);
      in_cells = subst (λ ps. HasPlaces c m ps l.first (length x.cells.now) (rooms_of x.copies.now)) (sym ep) (callee_places c l.n m k l.places.now l.first (length x.cells.now) (rooms_of x.copies.now) h.in_cells d.cell_map);
      trace = h.trace;
      trace_room = omega (arith, callee_need level c l.n at m d.place d.is d.lower, h.trace_room);
    })

pub room_kept : (l : Level) (s t : Spare) (regs regs' : List ℕ) (o u : Slate) → HasRoom l s regs o → IsKept s t → length regs' ≡ length regs → IsLent o u → u.trace.now.count ≡ 0 → HasRoom l t regs' u
room_kept l s t regs regs' o u h k r e z = record {
  runnable = h.runnable;
  begins = h.begins;
  routine = h.routine;
  place_room = omega (arith, h.place_room, k.places);
  register_count = r ∙ h.register_count;
  register_room = omega (arith, h.register_room, k.registers);
  in_cells = subst (λ (n : ℕ). HasPlaces l.code.parts.now l.n l.places.now l.first n (rooms_of u.copies.now)) (sym e.cells) (subst (HasPlaces l.code.parts.now l.n l.places.now l.first (length o.cells.now)) (sym e.rooms) h.in_cells);
  trace = z;
  trace_room = omega (arith, h.trace_room, e.frames);
}

pub spare_same : (s : Spare) → IsKept s s
spare_same s = record { same_places = refl; same_registers = refl; places = refl; registers = refl }

pub spare_on : (r s t : Spare) → IsKept r s → IsKept s t → IsKept r t
spare_on r s t h k = record { same_places = k.same_places ∙ h.same_places; same_registers = k.same_registers ∙ h.same_registers; places = k.places ∙ h.places; registers = k.registers ∙ h.registers }

-- the same where an instruction left the trace as it was
pub room_stepped : (l : Level) (s : Spare) (regs regs' : List ℕ) (x y : Slate) → HasRoom l s regs x → length regs' ≡ length regs → IsLent x y → y.trace.now ≡ x.trace.now → HasRoom l s regs' y
room_stepped l s regs regs' x y h r k e = room_kept l s s regs regs' x y h (spare_same s) r k (ap (λ (t : TraceRoom). t.count) e ∙ h.trace)

pub one_frame : (t t' : TraceRoom) (f : TraceFrame) → t.count ≡ 0 → frames_of t' ≡ frames_of t ++ f ∷ [] → f ∷ [] ≡ frames_of t'
one_frame t t' f e h = sym (h ∙ ap (λ k. take k t.frames.items ++ f ∷ []) e)

pub no_turn : (c : Parts) (m from : ℕ) (way : BlockExit) → IsRunnable c → m < length c.routines → from ≡ first_of c m → WhenTurned way (looped c from ≡ true) → NotTurned way
no_turn c m from Returned s h d f = tt
no_turn c m from Turned s h d f = let e = ap in_loop (s.safe.begins m h).1 in let g = ap (looped c) d in cc
no_turn c m from (Failed reason at) s h d f = tt

pub call_idle : (c : Parts) (m p q r from : ℕ) (way : BlockExit) → IsRunnable c → from ≡ first_of c m → WhenReturned way (p ≡ q → IdleReturn c m from) → q ≡ r → WhenReturned way (p ≡ r → MayBeEmpty (shapes_of c) (lengths_of c) (suc m) m)
call_idle c m p q r from Returned s d f e = λ k. let i = f (k ∙ sym e) in (s.safe.each m i.at i.within).empty i.is (subst (λ x. Idle c m x i.at) d i.way)
call_idle c m p q r from Turned s d f e = tt
call_idle c m p q r from (Failed reason at) s d f e = tt

-- a callee's registers
pub begun : (r : Routine) (args args' mine : List ℕ) (k : ℕ) → mine ≡ args' ++ replicate (k - length args') 0 → args' ≡ args → k ≡ r.registers → mine ≡ args ++ replicate (r.registers - length args) 0
begun r args args' mine k e f g = e ∙ ap (λ l. l ++ replicate (k - length l) 0) f ∙ ap (λ n. args ++ replicate (n - length args) 0) g

pub entered_is : (r : Routine) (args mine : List ℕ) (s : State) (start outer : ℕ) → mine ≡ args ++ replicate (r.registers - length args) 0 → start ≡ s.pos → outer ≡ s.end → entered r args s ≡ record { regs = mine; cells = s.cells; start = start; pos = s.pos; end = s.end; outer = outer }
entered_is r args mine s start outer e f g =
    λ i. record { regs = sym e i; cells = s.cells; start = sym f i; pos = s.pos; end = s.end; outer = sym g i }

pub call_left : (way : BlockExit) (s : State) (pos : ℕ) (trace : List TraceFrame) (touched : List ℕ) (steps : ℕ) (x : Exit) → NotTurned way → x ≡ exit_by (way_of way s trace) touched steps → s.pos ≡ pos → x ≡ exit_by (call_way way pos s.cells trace) touched steps
call_left Returned s pos trace touched steps x h e f = e ∙ ap (λ p. exit_by (ir.Returned p s.cells) touched steps) f
call_left Turned s pos trace touched steps x h e f = absurd h
call_left (Failed reason at) s pos trace touched steps x h e f = e

not_over : (pos end : ℕ) → 0 < end - pos → nat_eq pos end ≡ false
not_over pos end h = grind arith

is_over : (pos end : ℕ) → end - pos ≡ 0 → pos ≤ end → nat_eq pos end ≡ true
is_over pos end h l = grind arith

-- one turn more, one that fails, and none
pub turn_more : (k : ℕ) (body behind : State → Exit) (s s' : State) (touched : List ℕ) (steps : ℕ) → 0 < left s → left s < k → body s ≡ exit_by (ir.Turned s') touched steps → turns k body behind s ≡ after touched (steps + 1) (turns (k - 1) body behind s')
turn_more zero body behind s s' touched steps h l e = absurd (omega arith)
turn_more (suc k) body behind s s' touched steps h l e =
    let n : k ≡ suc k - 1 = omega arith in
    ap (λ v. cond v (behind s) (again (turns k body behind) (body s))) (not_over s.pos s.end h) ∙ ap (again (turns k body behind)) e ∙ ap (λ x. after touched (steps + 1) (turns x body behind s')) n

pub turn_fails : (k : ℕ) (body behind : State → Exit) (s : State) (reason : Reason) (pos : ℕ) (trace : List TraceFrame) (cells touched : List ℕ) (steps : ℕ) → 0 < left s → left s < k → body s ≡ exit_by (ir.Failed reason pos trace cells) touched steps → turns k body behind s ≡ exit_by (ir.Failed reason pos trace cells) touched steps
turn_fails zero body behind s reason pos trace cells touched steps h l e = absurd (omega arith)
turn_fails (suc k) body behind s reason pos trace cells touched steps h l e =
    ap (λ v. cond v (behind s) (again (turns k body behind) (body s))) (not_over s.pos s.end h) ∙ ap (again (turns k body behind)) e

pub turns_over : (k : ℕ) (body behind : State → Exit) (s : State) → left s ≡ 0 → s.pos ≤ s.end → turns k body behind s ≡ behind s
turns_over zero body behind s h l = refl
turns_over (suc k) body behind s h l = ap (λ v. cond v (behind s) (again (turns k body behind) (body s))) (is_over s.pos s.end h l)

-- what the verifier says of a call
pub callee_at : (c : Parts) (n p x m k site : ℕ) (j : Instr) → IsSafe c → IsIn c n p → j ≡ instruction_of c p → j ≡ instr.Call x m k site → IsCallee c n p m x k
callee_at c n p x m k site j s i e f =
    let a = s.each n p i in
    let is : instruction_of c p ≡ instr.Call x m k site = sym e ∙ f in
    let shaped : shape_at (shapes_of c) p ≡ Call m = shape_there c p ∙ ap shape is in
    let registers_in = subst (λ y. HasRegisters (routine_of c n).registers (callee_params c y) y) is a.registers in
    let tables_in = subst (HasTables c n) is a.tables in
    let calls = subst (CallsWell (depths (shapes_of c) (lengths_of c) n) n) shaped a.calls in
    record { place = i; is = shaped; lower = calls.0; arguments = registers_in; cell_map = tables_in.1 }

pub traced_more : (way : BlockExit) (t : TraceRoom) (m n : ℕ) → m ≤ n → Traced way t m → Traced way t n
traced_more Returned t m n h k = k
traced_more Turned t m n h k = k
traced_more (Failed reason at) t m n h k = (omega (arith, h, k.0), k.1)

pub end_is : (c : Parts) (m : ℕ) → end_at c m ≡ first_of c m + (routine_of c m).length
end_is c m = begin_next c m

pub end_in : (c : Parts) (m : ℕ) → IsRunnable c → m < length c.routines → end_at c m ≤ length c.instructions
end_in c m r l = let a = begin_up (lengths_of c) (suc m) (length c.routines) (omega (arith, l)) in let w = r.code.whole in omega (arith, a, w)

-- places that are their own
pub own_more : (xs : List ℕ) (i : ℕ) → i < length xs → take i xs ≡ places_from 0 i → take (i + 1) (slice_set xs i i) ≡ places_from 0 (i + 1)
own_more xs i l h =
    let e : i + 1 ≡ suc i = omega arith in
    let z : i ≡ 0 + i = omega arith in
    ap (λ k. take k (slice_set xs i i)) e ∙ take-suc-set xs i i l ∙ ap (λ ys. ys ++ i ∷ []) h ∙ ap (λ x. places_from 0 i ++ x ∷ []) z ∙ sym (own_snoc i 0) ∙ ap (places_from 0) (sym e)

pub entry_room : (e : CodeView) (n : ℕ) (inner : Level) (spare free : Spare) (regs : List ℕ) (x : Slate) → HasEntryRoom e n spare.places.now spare.registers.now x.trace.now
    → inner.code ≡ e → inner.n ≡ n → inner.first ≡ (routine_of e.parts.now n).cells → inner.places.now ≡ places_from 0 (cells e.parts.now n)
    → length x.cells.now ≡ (routine_of e.parts.now n).cells + 2 * length (rooms_of x.copies.now) → AreRoomy (routine_of e.parts.now n).buffers (rooms_of x.copies.now)
    → length free.places.now + cells e.parts.now n ≡ length spare.places.now → length regs ≡ registers e.parts.now n → length free.registers.now + registers e.parts.now n ≡ length spare.registers.now → x.trace.now.count ≡ 0 → HasRoom inner free regs x
entry_room e n inner spare free regs x h ec en ef ep c w pr rc rr tc = subst (λ (i : Level). HasRoom i free regs x) (λ i. record { code = sym ec i; n = sym en i; first = sym ef i; places = inner.places }) (record {
  runnable = h.runnable;
  begins = h.begins;
  routine = h.routine;
  place_room = omega (arith, h.place_room, pr);
  register_count = rc;
  register_room = omega (arith, h.register_room, rr);
  in_cells = subst (λ ps. HasPlaces e.parts.now n ps (routine_of e.parts.now n).cells (length x.cells.now) (rooms_of x.copies.now)) (sym ep) (entry_places e.parts.now n (length x.cells.now) (rooms_of x.copies.now) c w);
  trace = tc;
  trace_room = h.trace_room;
})

pub traced_within : (way : BlockExit) (t : TraceRoom) (n : ℕ) → Traced way t n → t.count ≤ length t.frames.items
traced_within Returned t n h = omega (arith, h)
traced_within Turned t n h = omega (arith, h)
traced_within (Failed reason at) t n h = h.1

-- arguments

pub length_registers : (regs : List ℕ) (first n : ℕ) → length (registers_from regs first n) ≡ n
length_registers regs first zero = refl
length_registers regs first (suc n) = ap suc (length_registers regs (first + 1) n)

registers_are : (regs : List ℕ) (first n : ℕ) → first + n ≤ length regs → registers_from regs first n ≡ take n (drop first regs)
registers_are regs first zero h = refl
registers_are regs first (suc n) h =
    let there : first < length regs = omega (arith, h) in
    let rest : first + 1 + n ≤ length regs = omega (arith, h) in
    let e : first + 1 ≡ suc first = omega arith in
    ap (λ l. slice_index regs first ∷ l) (registers_are regs (first + 1) n rest)
    ∙ ap (λ m. slice_index regs first ∷ take n (drop m regs)) e
    ∙ ap (take (suc n)) (sym (drop-cons regs first 0 there))

pub sliced : (regs : List ℕ) (first n : ℕ) → first + n ≤ length regs → slice_range regs first (first + n) ≡ registers_from regs first n
sliced regs first n h =
    let e : first + n - first ≡ n = omega arith in
    ap (λ m. take m (drop first regs)) e ∙ sym (registers_are regs first n h)

pub none_on_return : (way : BlockExit) (t : TraceRoom) (n : ℕ) → Traced way t n → WhenReturned way (t.count ≡ 0)
none_on_return Returned t n h = h
none_on_return Turned t n h = tt
none_on_return (Failed reason at) t n h = tt
