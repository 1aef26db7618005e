-- Code does the same before and after upgrading.
use Rattle.std.proofs.Common.{◌≡◌, ℕ, zero, suc, inl, inr, List, length, refl, sym, ap, ◌∙◌}
use Rattle.std.specs.Prelude.{nat_eq, slice_range}
use Rattle.std.proofs.lemmas.Bool.{cases_lt}
use Rattle.td_num.specs.Numbers.{places_from}
use Rattle.td_ir.specs.declared.instructions.Instr.{Instr}
use Rattle.td_ir.specs.declared.tables.Parts.{Parts}
use Rattle.td_ir.specs.Tables.{routine_of, entry_of, cells_by, first_of, end_of}
use Rattle.td_ir.specs.State.{State, registers_from}
use Rattle.td_ir.specs.Run.{Callees, pick, exits, places_by, entered, below, calls_of, started}
use Rattle.td_image_upgrade.specs.Upgrade.{routine_code, number_in, upgraded}
use Rattle.td_image_upgrade.specs.Laws.{IsDivided, SameRun}
use Rattle.td_image_upgrade.proofs.Sites.{agrees, code_is, no_code}
use Rattle.td_image_upgrade.proofs.Steps.{exits_same}
use Rattle.td_ir.proofs.Blocks.{branch_same}

-- from the first instruction of a routine on
routine_same : (c : Parts) → IsDivided c → (message places : List ℕ) (n : ℕ) (calls' calls : Callees) → ((a b m : ℕ) (s : State) → calls' a b m s ≡ calls a b m s) → (s : State)
    → pick (exits (upgraded c) n message places calls' (first_of c n) (slice_range (upgraded c).instructions (first_of c n) (end_of c n))) 0 s
    ≡ pick (exits c n message places calls (first_of c n) (slice_range c.instructions (first_of c n) (end_of c n))) 0 s
routine_same c D message places n calls' calls C s = elim (cases_lt n (length c.routines)) [
  | inl lt ↦
      ap (λ (js : List Instr). pick (exits (upgraded c) n message places calls' (first_of c n) js) 0 s) (code_is c D n lt)
      ∙ exits_same c n message places (number_in c n) calls' calls C (first_of c n) (routine_code c n) (agrees c D n lt) 0 s
  | inr le ↦
      ap (λ (js : List Instr). pick (exits (upgraded c) n message places calls' (first_of c n) js) 0 s) (no_code c n le (upgraded c).instructions)
      ∙ sym (ap (λ (js : List Instr). pick (exits c n message places calls (first_of c n) js) 0 s) (no_code c n le c.instructions))
]

below_same : (c : Parts) → IsDivided c → (message : List ℕ) (k n : ℕ) (places : List ℕ) (s : State) → below (upgraded c) message k n places s ≡ below c message k n places s
below_same c D message zero n places s = refl
below_same c D message (suc k) n places s =
    branch_same (nat_eq n k) _ (below (upgraded c) message k n places s) _ (below c message k n places s)
    (routine_same c D message places k
    (λ first m cells t. below (upgraded c) message k m (places_by places (cells_by c k m cells)) (entered (routine_of c m) (registers_from t.regs first (routine_of c m).params) t))
    (λ first m cells t. below c message k m (places_by places (cells_by c k m cells)) (entered (routine_of c m) (registers_from t.regs first (routine_of c m).params) t))
    (λ first m cells t. below_same c D message k m (places_by places (cells_by c k m cells)) (entered (routine_of c m) (registers_from t.regs first (routine_of c m).params) t)) s)
    (below_same c D message k n places s)

pub same_run : SameRun
same_run c D entry args cells message =
    let n = (entry_of c entry.number).routine in
    let places = places_from 0 (length cells) in
    routine_same c D message places n (calls_of (upgraded c) message n places) (calls_of c message n places)
    (λ first m ms t. below_same c D message n m (places_by places (cells_by c n m ms)) (entered (routine_of c m) (registers_from t.regs first (routine_of c m).params) t))
    (entered (routine_of c n) args (started cells message))
