-- Fields and definitions in blocks.
use Rattle.std.proofs.Common.{◌≡◌, ℕ, zero, suc, ◌+◌, ◌^◌, ◌<◌, ◌≤◌, ◌⊎◌, ⊎_elim, inl, inr, min, List, Bool, true, false, length, slice_index, refl, arith}
use Rattle.td_verify_lowered.specs.Imports.{Parts}
use Rattle.td_ir.specs.declared.instructions.Instr.TheVariants as i
use Rattle.td_verify.specs.declared.shape.Shape.TheVariants as s
use Rattle.td_ir.specs.Tables.{routine_of}
use Rattle.td_verify.specs.Operands.{IsWidth}
use Rattle.td_lower_blocks.specs.Block.{Block, Done, Then, Window}
use Rattle.td_verify_lowered.specs.Nesting.{Outside, InWindow, Takes, Nests, IsFit, Fits, IsCalm, Busy, weight}
use Rattle.td_verify_lowered.specs.Laws.{NotBusy}
use Rattle.td_lower_blocks.specs.Constructs.{Steps, End, Start, Place, Skipped, Number, Listed, Part, Computed, Kept, Remaining, Test, Act, Named, AllBytes, AllZeros, ZeroEnd, Copied, Never, Arguments, BySize, ByConstant, Inner, Nothing, Evenly, Exactly, Uneven, All, Zeroes, OneCall, OneListed, EachCall, EachListed, CopyAll, listed, inner, steps, Cases, Case, Default, NoDefault, cases, Body, Struct, Casetype, Where, body}
use Rattle.td_verify_lowered.specs.Weights.{inner_weight, weight_of, cases_weight, body_weight, least_of, cases_least, body_least}
use Rattle.td_verify_lowered.specs.Good.{IsSiteOf, IsCallable, IsRead, IsCopyOut, GoodInner, Good, GoodCases, GoodBody}
use Rattle.td_verify_lowered.proofs.Values.{nests_value, busy_value, fits_value, weight_value, nests_values, busy_values, fits_values, weight_values, nests_tested, busy_tested, fits_tested, weight_tested, fit_fail, fit_const, fit_op, nests_acts, calm_acts, fits_acts, weight_acts}

wide : (w : ℕ) → IsWidth w → 1 ≤ w
wide w (inl e) = omega (arith, e)
wide w (inr (inl e)) = omega (arith, e)
wide w (inr (inr (inl e))) = omega (arith, e)
wide w (inr (inr (inr e))) = omega (arith, e)

call_takes : (busy : ℕ → Bool) (n routine : ℕ) → routine < n → busy routine ≡ true → Takes (NotBusy busy n) (s.Call routine)
call_takes busy n routine lt is h = let e = h lt in cc

pub nests_inner : (c : Parts) (depth : ℕ → ℕ) (busy : ℕ → Bool) (n : ℕ) (x : Inner) → GoodInner c depth busy n x → Nests (NotBusy busy n) InWindow false (inner x)
nests_inner c depth busy n Nothing g = tt
nests_inner c depth busy n (Evenly t width site more) g = (tt, nests_inner c depth busy n more g.3)
nests_inner c depth busy n (Exactly t u width site more) g = (tt, (tt, (tt, nests_inner c depth busy n more g.3)))
nests_inner c depth busy n (Uneven site) g = tt
nests_inner c depth busy n All g = (tt, tt)
nests_inner c depth busy n (Zeroes site) g = (tt, tt)
nests_inner c depth busy n (OneCall t routine cells site count) g = (tt, tt)
nests_inner c depth busy n (OneListed slot order width set site t) g = (tt, (tt, (tt, tt)))
nests_inner c depth busy n (EachCall t routine cells site count) g = (refl, call_takes busy n routine g.0.earlier g.1, (tt, tt), tt)
nests_inner c depth busy n (EachListed slot order width set site t) g = (refl, wide width g.0.width_is, (tt, (tt, (tt, tt))), tt)
nests_inner c depth busy n (CopyAll t buffer size site) g = (tt, (tt, tt))

pub nests_steps : (c : Parts) (depth : ℕ → ℕ) (busy : ℕ → Bool) (n : ℕ) (x : Steps) → Good c depth busy n x → Nests (NotBusy busy n) Outside false (steps x)
nests_steps c depth busy n End g = tt
nests_steps c depth busy n (Start k) g = (tt, nests_steps c depth busy n k g)
nests_steps c depth busy n (Place slot k) g = (tt, nests_steps c depth busy n k g.1)
nests_steps c depth busy n (Skipped width site k) g = (tt, nests_steps c depth busy n k g.2)
nests_steps c depth busy n (Number slot order width site k) g = (tt, nests_steps c depth busy n k g.1)
nests_steps c depth busy n (Listed slot order width set site t k) g = (tt, (tt, (tt, nests_steps c depth busy n k g.3)))
nests_steps c depth busy n (Part slot unit low width k) g = (tt, nests_steps c depth busy n k g.4)
nests_steps c depth busy n (Computed t slot e k) g = nests_value (NotBusy busy n) Outside false t e _ (tt, nests_steps c depth busy n k g.3)
nests_steps c depth busy n (Kept slot cell k) g = (tt, nests_steps c depth busy n k g.2)
nests_steps c depth busy n (Remaining slot k) g = (tt, nests_steps c depth busy n k g.1)
nests_steps c depth busy n (Test t site e k) g = nests_tested (NotBusy busy n) Outside false t e 4 site (steps k) (nests_steps c depth busy n k g.3)
nests_steps c depth busy n (Act t site a k) g = (nests_acts (NotBusy busy n) Outside t site a Done tt, nests_steps c depth busy n k g.2)
nests_steps c depth busy n (Named t routine cells site args k) g = nests_values (NotBusy busy n) Outside false t args _ (tt, nests_steps c depth busy n k g.2)
nests_steps c depth busy n (AllBytes k) g = (tt, nests_steps c depth busy n k g)
nests_steps c depth busy n (AllZeros site k) g = (tt, nests_steps c depth busy n k g.1)
nests_steps c depth busy n (ZeroEnd t width site e k) g = nests_value (NotBusy busy n) Outside false t e _ (tt, nests_steps c depth busy n k g.4)
nests_steps c depth busy n (Copied t buffer site e k) g = nests_value (NotBusy busy n) Outside false t e _ (tt, nests_steps c depth busy n k g.2)
nests_steps c depth busy n (Never site) g = tt
nests_steps c depth busy n (Arguments t args k) g = nests_values (NotBusy busy n) Outside false t args _ (nests_steps c depth busy n k g.1)
nests_steps c depth busy n (BySize t site e x k) g = nests_value (NotBusy busy n) Outside false t e _ (refl, tt, nests_inner c depth busy n x g.3, nests_steps c depth busy n k g.4)
nests_steps c depth busy n (ByConstant size site x k) g = (refl, tt, nests_inner c depth busy n x g.2, nests_steps c depth busy n k g.3)

fit_call : (c : Parts) (depth : ℕ → ℕ) (n t routine cells site count : ℕ) → IsCallable c depth n t routine cells site count → IsFit c depth n (i.Call t routine cells site)
fit_call c depth n t routine cells site count k = record {
  registers = λ j l. (let p = k.params in let r = k.room in omega (arith, p, r, l));
  tables = ((k.named.0, k.map), k.named.1);
  operands = tt;
  calls = (k.earlier, k.shallower);
}

fit_fetch : (c : Parts) (depth : ℕ → ℕ) (n slot order width site : ℕ) → IsRead c n slot order width site → IsFit c depth n (i.Fetch slot order width site)
fit_fetch c depth n slot order width site r = record { registers = r.slot_in; tables = r.named; operands = (r.order_is, r.width_is); calls = tt }

-- an instruction with one register, a site and nothing more to be in range
abbrev Narrows : Parts → (ℕ → ℕ) → ℕ → (t site : ℕ) → Type 0
Narrows c depth n t site = (t < (routine_of c n).registers) × IsSiteOf c n site

fit_narrow : (c : Parts) (depth : ℕ → ℕ) (n t site : ℕ) → Narrows c depth n t site → IsFit c depth n (i.Narrow t site)
fit_narrow c depth n t site h = record { registers = h.0; tables = h.1; operands = tt; calls = tt }

fit_divides : (c : Parts) (depth : ℕ → ℕ) (n t w site : ℕ) → Narrows c depth n t site → 1 ≤ w → IsFit c depth n (i.Divides t w site)
fit_divides c depth n t w site h k = record { registers = h.0; tables = h.1; operands = k; calls = tt }

fit_member : (c : Parts) (depth : ℕ → ℕ) (n t slot set : ℕ) → t < (routine_of c n).registers → slot < (routine_of c n).registers → set < length c.sets → IsFit c depth n (i.Member t slot set)
fit_member c depth n t slot set h k l = record { registers = (h, k); tables = (l, tt); operands = tt; calls = tt }

fit_narrow_k : (c : Parts) (depth : ℕ → ℕ) (n size site : ℕ) → size < 2 ^ 32 → IsSiteOf c n site → IsFit c depth n (i.NarrowK size site)
fit_narrow_k c depth n size site h k = record { registers = tt; tables = k; operands = h; calls = tt }

fit_copy : (c : Parts) (depth : ℕ → ℕ) (n t buffer site : ℕ) → IsCopyOut c n t buffer site → IsFit c depth n (i.Copy t buffer site)
fit_copy c depth n t buffer site k = record { registers = k.size_in; tables = ((k.named.0, k.buffer_in), k.named.1); operands = tt; calls = tt }

fits_listed : (c : Parts) (depth : ℕ → ℕ) (n slot order width set site t : ℕ) (k : Block) → IsRead c n slot order width site → t < (routine_of c n).registers → set < length c.sets → Fits c depth n k → Fits c depth n (listed slot order width set site t k)
fits_listed c depth n slot order width set site t k r h l f =
    (fit_fetch c depth n slot order width site r, (fit_member c depth n t slot set h r.slot_in l, (h, fit_fail c depth n 4 site (omega arith) r.named, f)))

pub fits_inner : (c : Parts) (depth : ℕ → ℕ) (busy : ℕ → Bool) (n : ℕ) (x : Inner) → GoodInner c depth busy n x → Fits c depth n (inner x)
fits_inner c depth busy n Nothing g = tt
fits_inner c depth busy n (Evenly t width site more) g = (fit_divides c depth n t width site (g.0, g.2) g.1, fits_inner c depth busy n more g.3)
fits_inner c depth busy n (Exactly t u width site more) g =
    (fit_const c depth n u width g.1, (fit_op c depth n u t 10 u g.1 g.0 g.1 (omega arith), (g.1, fit_fail c depth n 2 site (omega arith) g.2, fits_inner c depth busy n more g.3)))
fits_inner c depth busy n (Uneven site) g = fit_fail c depth n 2 site (omega arith) g
fits_inner c depth busy n All g = (record { registers = tt; tables = (tt, tt); operands = tt; calls = tt }, tt)
fits_inner c depth busy n (Zeroes site) g = (record { registers = tt; tables = g; operands = tt; calls = tt }, tt)
fits_inner c depth busy n (OneCall t routine cells site count) g = (fit_call c depth n t routine cells site count g, tt)
fits_inner c depth busy n (OneListed slot order width set site t) g = fits_listed c depth n slot order width set site t Done g.0 g.1 g.2 tt
fits_inner c depth busy n (EachCall t routine cells site count) g = ((fit_call c depth n t routine cells site count g.0, tt), tt)
fits_inner c depth busy n (EachListed slot order width set site t) g = (fits_listed c depth n slot order width set site t Done g.0 g.1 g.2 tt, tt)
fits_inner c depth busy n (CopyAll t buffer size site) g = (fit_const c depth n t size g.size_in, (fit_copy c depth n t buffer site g, tt))

pub fits_steps : (c : Parts) (depth : ℕ → ℕ) (busy : ℕ → Bool) (n : ℕ) (x : Steps) → Good c depth busy n x → Fits c depth n (steps x)
fits_steps c depth busy n End g = record { registers = tt; tables = (tt, tt); operands = tt; calls = tt }
fits_steps c depth busy n (Start k) g = (record { registers = tt; tables = (tt, tt); operands = tt; calls = tt }, fits_steps c depth busy n k g)
fits_steps c depth busy n (Place slot k) g = (record { registers = g.0; tables = (tt, tt); operands = tt; calls = tt }, fits_steps c depth busy n k g.1)
fits_steps c depth busy n (Skipped width site k) g = (record { registers = tt; tables = g.1; operands = narrow width g.0; calls = tt }, fits_steps c depth busy n k g.2)
  where
    narrow : (w : ℕ) → IsWidth w → w < 2 ^ 32
    narrow w (inl e) = omega (arith, e)
    narrow w (inr (inl e)) = omega (arith, e)
    narrow w (inr (inr (inl e))) = omega (arith, e)
    narrow w (inr (inr (inr e))) = omega (arith, e)
fits_steps c depth busy n (Number slot order width site k) g = (fit_fetch c depth n slot order width site g.0, fits_steps c depth busy n k g.1)
fits_steps c depth busy n (Listed slot order width set site t k) g = fits_listed c depth n slot order width set site t (steps k) g.0 g.1 g.2 (fits_steps c depth busy n k g.3)
fits_steps c depth busy n (Part slot unit low width k) g = (record { registers = (g.0, g.1); tables = (tt, tt); operands = (g.2, g.3); calls = tt }, fits_steps c depth busy n k g.4)
fits_steps c depth busy n (Computed t slot e k) g = fits_value c depth n t e _ g.2 (fit_op c depth n slot t 6 t g.1 g.0 g.0 (omega arith), fits_steps c depth busy n k g.3)
fits_steps c depth busy n (Kept slot cell k) g = (record { registers = g.0; tables = (g.1, tt); operands = tt; calls = tt }, fits_steps c depth busy n k g.2)
fits_steps c depth busy n (Remaining slot k) g = (record { registers = g.0; tables = (tt, tt); operands = tt; calls = tt }, fits_steps c depth busy n k g.1)
fits_steps c depth busy n (Test t site e k) g = fits_tested c depth n t e 4 site (steps k) g.0 g.1 (omega arith) g.2 (fits_steps c depth busy n k g.3)
fits_steps c depth busy n (Act t site a k) g = (fits_acts c depth n t site a Done g.0 g.1 tt, fits_steps c depth busy n k g.2)
fits_steps c depth busy n (Named t routine cells site args k) g = fits_values c depth n t args _ g.1 (fit_call c depth n t routine cells site (length args) g.0, fits_steps c depth busy n k g.2)
fits_steps c depth busy n (AllBytes k) g = (record { registers = tt; tables = (tt, tt); operands = tt; calls = tt }, fits_steps c depth busy n k g)
fits_steps c depth busy n (AllZeros site k) g = (record { registers = tt; tables = g.0; operands = tt; calls = tt }, fits_steps c depth busy n k g.1)
fits_steps c depth busy n (ZeroEnd t width site e k) g = fits_value c depth n t e _ g.1 (record { registers = g.0; tables = g.3; operands = g.2; calls = tt }, fits_steps c depth busy n k g.4)
fits_steps c depth busy n (Copied t buffer site e k) g = fits_value c depth n t e _ g.1 (fit_copy c depth n t buffer site g.0, fits_steps c depth busy n k g.2)
fits_steps c depth busy n (Never site) g = fit_fail c depth n 0 site (omega arith) g
fits_steps c depth busy n (Arguments t args k) g = fits_values c depth n t args _ g.0 (fits_steps c depth busy n k g.1)
fits_steps c depth busy n (BySize t site e x k) g = fits_value c depth n t e _ g.1 (fit_narrow c depth n t site (g.0, g.2), fits_inner c depth busy n x g.3, g.2, fits_steps c depth busy n k g.4)
fits_steps c depth busy n (ByConstant size site x k) g = (fit_narrow_k c depth n size site g.0 g.1, fits_inner c depth busy n x g.2, g.1, fits_steps c depth busy n k g.3)

-- least bytes

-- a table of least bytes tells which routines take a byte
abbrev pub Tells : (ℕ → ℕ) → (ℕ → Bool) → Type 0
Tells least busy = (m : ℕ) → 1 ≤ least m → busy m ≡ true

some_of : (a b : ℕ) → 1 ≤ a + b → (1 ≤ a) ⊎ (1 ≤ b)
some_of zero b h = inr (omega arith)
some_of (suc a) b h = inl (omega arith)

calm_inner : (x : Inner) → IsCalm (inner x)
calm_inner Nothing = tt
calm_inner (Evenly t width site more) = calm_inner more
calm_inner (Exactly t u width site more) = (refl, calm_inner more)
calm_inner (Uneven site) = refl
calm_inner All = tt
calm_inner (Zeroes site) = tt
calm_inner (OneCall t routine cells site count) = tt
calm_inner (OneListed slot order width set site t) = (refl, tt)
calm_inner (EachCall t routine cells site count) = (tt, tt)
calm_inner (EachListed slot order width set site t) = ((refl, tt), tt)
calm_inner (CopyAll t buffer size site) = tt

pub busy_steps : (c : Parts) (depth : ℕ → ℕ) (busy : ℕ → Bool) (least : ℕ → ℕ) (n : ℕ) (x : Steps) → Tells least busy → Good c depth busy n x → 1 ≤ least_of least x → Busy (NotBusy busy n) (steps x)
busy_steps c depth busy least n End te g h = absurd (omega (arith, h))
busy_steps c depth busy least n (Start k) te g h = inr (busy_steps c depth busy least n k te g h)
busy_steps c depth busy least n (Place slot k) te g h = inr (busy_steps c depth busy least n k te g.1 h)
busy_steps c depth busy least n (Skipped width site k) te g h = inl (wide width g.0)
busy_steps c depth busy least n (Number slot order width site k) te g h = inl (wide width g.0.width_is)
busy_steps c depth busy least n (Listed slot order width set site t k) te g h = inl (wide width g.0.width_is)
busy_steps c depth busy least n (Part slot unit low width k) te g h = inr (busy_steps c depth busy least n k te g.4 h)
busy_steps c depth busy least n (Computed t slot e k) te g h = busy_value (NotBusy busy n) t e _ (inr (busy_steps c depth busy least n k te g.3 h))
busy_steps c depth busy least n (Kept slot cell k) te g h = inr (busy_steps c depth busy least n k te g.2 h)
busy_steps c depth busy least n (Remaining slot k) te g h = inr (busy_steps c depth busy least n k te g.1 h)
busy_steps c depth busy least n (Test t site e k) te g h = busy_tested (NotBusy busy n) t e 4 site (steps k) (busy_steps c depth busy least n k te g.3 h)
busy_steps c depth busy least n (Act t site a k) te g h = (calm_acts t site a Done tt, busy_steps c depth busy least n k te g.2 h)
busy_steps c depth busy least n (Named t routine cells site args k) te g h =
    busy_values (NotBusy busy n) t args _ (⊎_elim
    (λ (x : 1 ≤ least routine). inl (call_takes busy n routine g.0.earlier (te routine x)))
    (λ (x : 1 ≤ least_of least k). inr (busy_steps c depth busy least n k te g.2 x))
    (some_of (least routine) (least_of least k) h))
busy_steps c depth busy least n (AllBytes k) te g h = inr (busy_steps c depth busy least n k te g h)
busy_steps c depth busy least n (AllZeros site k) te g h = inr (busy_steps c depth busy least n k te g.1 h)
busy_steps c depth busy least n (ZeroEnd t width site e k) te g h = busy_value (NotBusy busy n) t e _ (inl (wide width g.2))
busy_steps c depth busy least n (Copied t buffer site e k) te g h = busy_value (NotBusy busy n) t e _ (inr (busy_steps c depth busy least n k te g.2 h))
busy_steps c depth busy least n (Never site) te g h = refl
busy_steps c depth busy least n (Arguments t args k) te g h = busy_values (NotBusy busy n) t args _ (busy_steps c depth busy least n k te g.1 h)
busy_steps c depth busy least n (BySize t site e x k) te g h = busy_value (NotBusy busy n) t e _ (calm_inner x, inr (busy_steps c depth busy least n k te g.4 h))
busy_steps c depth busy least n (ByConstant size site y k) te g h = (
  calm_inner y,
  ⊎_elim
      (λ (x : 1 ≤ size). inl x)
      (λ (x : 1 ≤ least_of least k). inr (busy_steps c depth busy least n k te g.3 x))
      (some_of size (least_of least k) h),
)

-- weights

abbrev pub Bounds : (ℕ → ℕ) → List ℕ → ℕ → Type 0
Bounds W ws n = (m : ℕ) → m < n → slice_index ws m ≤ W m

weight_inner : (c : Parts) (depth : ℕ → ℕ) (busy : ℕ → Bool) (W : ℕ → ℕ) (ws : List ℕ) (n : ℕ) (x : Inner) → Bounds W ws n → GoodInner c depth busy n x → weight ws false (inner x) ≤ inner_weight W x
weight_inner c depth busy W ws n Nothing b g = omega arith
weight_inner c depth busy W ws n (Evenly t width site more) b g = let h = weight_inner c depth busy W ws n more b g.3 in omega (arith, h)
weight_inner c depth busy W ws n (Exactly t u width site more) b g = let h = weight_inner c depth busy W ws n more b g.3 in omega (arith, h)
weight_inner c depth busy W ws n (Uneven site) b g = omega arith
weight_inner c depth busy W ws n All b g = omega arith
weight_inner c depth busy W ws n (Zeroes site) b g = omega arith
weight_inner c depth busy W ws n (OneCall t routine cells site count) b g = let h = b routine g.earlier in omega (arith, h)
weight_inner c depth busy W ws n (OneListed slot order width set site t) b g = omega arith
weight_inner c depth busy W ws n (EachCall t routine cells site count) b g = let h = b routine g.0.earlier in omega (arith, h)
weight_inner c depth busy W ws n (EachListed slot order width set site t) b g = omega arith
weight_inner c depth busy W ws n (CopyAll t buffer size site) b g = omega arith

pub weight_steps : (c : Parts) (depth : ℕ → ℕ) (busy : ℕ → Bool) (W : ℕ → ℕ) (ws : List ℕ) (n : ℕ) (x : Steps) → Bounds W ws n → Good c depth busy n x → weight ws false (steps x) ≤ weight_of W x
weight_steps c depth busy W ws n End b g = omega arith
weight_steps c depth busy W ws n (Start k) b g = let h = weight_steps c depth busy W ws n k b g in omega (arith, h)
weight_steps c depth busy W ws n (Place slot k) b g = let h = weight_steps c depth busy W ws n k b g.1 in omega (arith, h)
weight_steps c depth busy W ws n (Skipped width site k) b g = let h = weight_steps c depth busy W ws n k b g.2 in omega (arith, h)
weight_steps c depth busy W ws n (Number slot order width site k) b g = let h = weight_steps c depth busy W ws n k b g.1 in omega (arith, h)
weight_steps c depth busy W ws n (Listed slot order width set site t k) b g = let h = weight_steps c depth busy W ws n k b g.3 in omega (arith, h)
weight_steps c depth busy W ws n (Part slot unit low width k) b g = let h = weight_steps c depth busy W ws n k b g.4 in omega (arith, h)
weight_steps c depth busy W ws n (Computed t slot e k) b g = let h = weight_steps c depth busy W ws n k b g.3 in let x = weight_value ws t e (Then (i.Op slot 6 t t) (steps k)) in omega (arith, h, x)
weight_steps c depth busy W ws n (Kept slot cell k) b g = let h = weight_steps c depth busy W ws n k b g.2 in omega (arith, h)
weight_steps c depth busy W ws n (Remaining slot k) b g = let h = weight_steps c depth busy W ws n k b g.1 in omega (arith, h)
weight_steps c depth busy W ws n (Test t site e k) b g = let h = weight_steps c depth busy W ws n k b g.3 in let x = weight_tested ws t e 4 site (steps k) in omega (arith, h, x)
weight_steps c depth busy W ws n (Act t site a k) b g = let h = weight_steps c depth busy W ws n k b g.2 in let x = weight_acts ws t site a Done in omega (arith, h, x)
weight_steps c depth busy W ws n (Named t routine cells site args k) b g =
    let h = weight_steps c depth busy W ws n k b g.2 in
    let x = weight_values ws t args (Then (i.Call t routine cells site) (steps k)) in
    let y = b routine g.0.earlier in
    omega (arith, h, x, y)
weight_steps c depth busy W ws n (AllBytes k) b g = let h = weight_steps c depth busy W ws n k b g in omega (arith, h)
weight_steps c depth busy W ws n (AllZeros site k) b g = let h = weight_steps c depth busy W ws n k b g.1 in omega (arith, h)
weight_steps c depth busy W ws n (ZeroEnd t width site e k) b g = let h = weight_steps c depth busy W ws n k b g.4 in let x = weight_value ws t e (Then (i.Zeroterm t width site) (steps k)) in omega (arith, h, x)
weight_steps c depth busy W ws n (Copied t buffer site e k) b g = let h = weight_steps c depth busy W ws n k b g.2 in let x = weight_value ws t e (Then (i.Copy t buffer site) (steps k)) in omega (arith, h, x)
weight_steps c depth busy W ws n (Never site) b g = omega arith
weight_steps c depth busy W ws n (Arguments t args k) b g = let h = weight_steps c depth busy W ws n k b g.1 in let x = weight_values ws t args (steps k) in omega (arith, h, x)
weight_steps c depth busy W ws n (BySize t site e x k) b g =
    let h = weight_steps c depth busy W ws n k b g.4 in
    let y = weight_inner c depth busy W ws n x b g.3 in
    let z = weight_value ws t e (Window (i.Narrow t site) site (inner x) (steps k)) in
    omega (arith, h, y, z)
weight_steps c depth busy W ws n (ByConstant size site x k) b g =
    let h = weight_steps c depth busy W ws n k b g.3 in
    let y = weight_inner c depth busy W ws n x b g.2 in
    omega (arith, h, y)

-- cases

pub nests_cases : (c : Parts) (depth : ℕ → ℕ) (busy : ℕ → Bool) (n t : ℕ) (x : Cases) → GoodCases c depth busy n t x → Nests (NotBusy busy n) Outside false (cases t x)
nests_cases c depth busy n t (Case k fields more) g = (tt, (tt, (nests_steps c depth busy n fields g.1, nests_cases c depth busy n t more g.2)))
nests_cases c depth busy n t (Default fields) g = nests_steps c depth busy n fields g
nests_cases c depth busy n t (NoDefault site) g = tt

pub fits_cases : (c : Parts) (depth : ℕ → ℕ) (busy : ℕ → Bool) (n t : ℕ) (x : Cases) → GoodCases c depth busy n t x → Fits c depth n (cases t x)
fits_cases c depth busy n t (Case k fields more) g = let z = g.0 in
    (fit_const c depth n (t + 1) k z, (fit_op c depth n (t + 1) t 10 (t + 1) z (omega (arith, z)) z (omega arith), (z, fits_steps c depth busy n fields g.1, fits_cases c depth busy n t more g.2)))
fits_cases c depth busy n t (Default fields) g = fits_steps c depth busy n fields g
fits_cases c depth busy n t (NoDefault site) g = fit_fail c depth n 1 site (omega arith) g

least_both : (a b : ℕ) → 1 ≤ min a b → (1 ≤ a) × (1 ≤ b)
least_both a b h = (omega (arith, h), omega (arith, h))

pub busy_cases : (c : Parts) (depth : ℕ → ℕ) (busy : ℕ → Bool) (least : ℕ → ℕ) (n t : ℕ) (x : Cases) → Tells least busy → GoodCases c depth busy n t x → 1 ≤ cases_least least x → Busy (NotBusy busy n) (cases t x)
busy_cases c depth busy least n t (Case k fields more) te g h =
    let b = least_both (least_of least fields) (cases_least least more) h in
    inr (inr (inr (busy_steps c depth busy least n fields te g.1 b.0), busy_cases c depth busy least n t more te g.2 b.1))
busy_cases c depth busy least n t (Default fields) te g h = busy_steps c depth busy least n fields te g h
busy_cases c depth busy least n t (NoDefault site) te g h = refl

pub weight_cases : (c : Parts) (depth : ℕ → ℕ) (busy : ℕ → Bool) (W : ℕ → ℕ) (ws : List ℕ) (n t : ℕ) (x : Cases) → Bounds W ws n → GoodCases c depth busy n t x → weight ws false (cases t x) ≤ cases_weight W x
weight_cases c depth busy W ws n t (Case k fields more) b g = let x = weight_steps c depth busy W ws n fields b g.1 in let y = weight_cases c depth busy W ws n t more b g.2 in omega (arith, x, y)
weight_cases c depth busy W ws n t (Default fields) b g = weight_steps c depth busy W ws n fields b g
weight_cases c depth busy W ws n t (NoDefault site) b g = omega arith

-- definitions

pub nests_body : (c : Parts) (depth : ℕ → ℕ) (busy : ℕ → Bool) (n : ℕ) (x : Body) → GoodBody c depth busy n x → Nests (NotBusy busy n) Outside false (body x)
nests_body c depth busy n (Struct fields) g = nests_steps c depth busy n fields g
nests_body c depth busy n (Casetype t e all) g = nests_value (NotBusy busy n) Outside false t e _ (nests_cases c depth busy n t all g.1)
nests_body c depth busy n (Where t site e x) g = nests_tested (NotBusy busy n) Outside false t e 4 site (body x) (nests_body c depth busy n x g.3)

pub fits_body : (c : Parts) (depth : ℕ → ℕ) (busy : ℕ → Bool) (n : ℕ) (x : Body) → GoodBody c depth busy n x → Fits c depth n (body x)
fits_body c depth busy n (Struct fields) g = fits_steps c depth busy n fields g
fits_body c depth busy n (Casetype t e all) g = fits_value c depth n t e _ g.0 (fits_cases c depth busy n t all g.1)
fits_body c depth busy n (Where t site e x) g = fits_tested c depth n t e 4 site (body x) g.0 g.1 (omega arith) g.2 (fits_body c depth busy n x g.3)

pub busy_body : (c : Parts) (depth : ℕ → ℕ) (busy : ℕ → Bool) (least : ℕ → ℕ) (n : ℕ) (x : Body) → Tells least busy → GoodBody c depth busy n x → 1 ≤ body_least least x → Busy (NotBusy busy n) (body x)
busy_body c depth busy least n (Struct fields) te g h = busy_steps c depth busy least n fields te g h
busy_body c depth busy least n (Casetype t e all) te g h = busy_value (NotBusy busy n) t e _ (busy_cases c depth busy least n t all te g.1 h)
busy_body c depth busy least n (Where t site e x) te g h = busy_tested (NotBusy busy n) t e 4 site (body x) (busy_body c depth busy least n x te g.3 h)

pub weight_body : (c : Parts) (depth : ℕ → ℕ) (busy : ℕ → Bool) (W : ℕ → ℕ) (ws : List ℕ) (n : ℕ) (x : Body) → Bounds W ws n → GoodBody c depth busy n x → weight ws false (body x) ≤ body_weight W x
weight_body c depth busy W ws n (Struct fields) b g = weight_steps c depth busy W ws n fields b g
weight_body c depth busy W ws n (Casetype t e all) b g = let x = weight_value ws t e (cases t all) in let y = weight_cases c depth busy W ws n t all b g.1 in omega (arith, x, y)
weight_body c depth busy W ws n (Where t site e x) b g = let y = weight_tested ws t e 4 site (body x) in let z = weight_body c depth busy W ws n x b g.3 in omega (arith, y, z)
