-- What lowering rests on: facts about a definition, its routine and the tables.
use Rattle.std.specs.Prelude.{◌≡◌, ℕ, ◌+◌, ◌^◌, ◌<◌, ◌≤◌, List, [], ◌∷◌, Bool, true, length}
use Rattle.td_verify_lowered.specs.Imports.{Parts}
use Rattle.td_ir.specs.Tables.{routine_of, site_of}
use Rattle.td_verify.specs.Operands.{IsCellMap, IsWidth}
use Rattle.td_lower_blocks.specs.Placed.{Reaches}
use Rattle.td_lower_blocks.specs.Constructs.{Expr, Action, Finish, Assign, Read, If, Return, Abort, Steps, End, Start, Place, Skipped, Number, Listed, Part, Computed, Kept, Remaining, Test, Act, Named, AllBytes, AllZeros, ZeroEnd, Copied, Never, Arguments, BySize, ByConstant, Inner, Nothing, Evenly, Exactly, Uneven, All, Zeroes, OneCall, OneListed, EachCall, EachListed, CopyAll, Cases, Case, Default, NoDefault, Body, Struct, Casetype, Where}

-- arguments, each in its register from t on
abbrev pub AllReach : ℕ → ℕ → List Expr → Type 0
AllReach R t [] = Unit {0}
AllReach R t (e ∷ es) = Reaches R t e × AllReach R (t + 1) es

abbrev pub Does : (R cells t : ℕ) → Action → Type 0
Does R cells t Finish = Unit {0}
Does R cells t (Assign cell e more) = (t < R) × (cell < cells) × Reaches R t e × Does R cells t more
Does R cells t (Read slot cell more) = (slot < R) × (cell < cells) × Does R cells t more
Does R cells t (If e one other more) = (t < R) × Reaches R t e × Does R cells (t + 1) one × Does R cells (t + 1) other × Does R cells t more
Does R cells t (Return e) = (t < R) × Reaches R t e
Does R cells t Abort = Unit {0}

-- a site of routine n
abbrev pub IsSiteOf : Parts → (n site : ℕ) → Type 0
IsSiteOf c n site = (site < length c.sites) × ((site_of c site).routine ≡ n)

-- a definition that may be named: earlier, less deep, with as many arguments and these cells
pub record IsCallable (c : Parts) (depth : ℕ → ℕ) (n t routine cells site count : ℕ) : Type 0 where
  pub earlier : routine < n
  pub shallower : depth routine + 1 ≤ depth n
  pub params : (routine_of c routine).params ≡ count
  pub room : t + count ≤ (routine_of c n).registers
  pub named : IsSiteOf c n site
  pub map : IsCellMap c n routine cells

pub record IsRead (c : Parts) (n slot order width site : ℕ) : Type 0 where
  pub slot_in : slot < (routine_of c n).registers
  pub order_is : order ≤ 1
  pub width_is : IsWidth width
  pub named : IsSiteOf c n site

-- bytes that go to a buffer, with their number in a register
pub record IsCopyOut (c : Parts) (n t buffer site : ℕ) : Type 0 where
  pub size_in : t < (routine_of c n).registers
  pub buffer_in : buffer < length (routine_of c n).buffers
  pub named : IsSiteOf c n site

abbrev pub GoodInner : Parts → (depth : ℕ → ℕ) → (busy : ℕ → Bool) → ℕ → Inner → Type 0
GoodInner c depth busy n Nothing = Unit {0}
GoodInner c depth busy n (Evenly t width site more) = (t < (routine_of c n).registers) × (1 ≤ width) × (IsSiteOf c n site) × GoodInner c depth busy n more
GoodInner c depth busy n (Exactly t u width site more) = (t < (routine_of c n).registers) × (u < (routine_of c n).registers) × (IsSiteOf c n site) × GoodInner c depth busy n more
GoodInner c depth busy n (Uneven site) = IsSiteOf c n site
GoodInner c depth busy n All = Unit {0}
GoodInner c depth busy n (Zeroes site) = IsSiteOf c n site
GoodInner c depth busy n (OneCall t routine cells site count) = IsCallable c depth n t routine cells site count
GoodInner c depth busy n (OneListed slot order width set site t) = IsRead c n slot order width site × (t < (routine_of c n).registers) × (set < length c.sets)
GoodInner c depth busy n (EachCall t routine cells site count) = IsCallable c depth n t routine cells site count × (busy routine ≡ true)
GoodInner c depth busy n (EachListed slot order width set site t) = IsRead c n slot order width site × (t < (routine_of c n).registers) × (set < length c.sets)
GoodInner c depth busy n (CopyAll t buffer size site) = IsCopyOut c n t buffer site

abbrev pub Good : Parts → (depth : ℕ → ℕ) → (busy : ℕ → Bool) → ℕ → Steps → Type 0
Good c depth busy n End = Unit {0}
Good c depth busy n (Start k) = Good c depth busy n k
Good c depth busy n (Place slot k) = (slot < (routine_of c n).registers) × Good c depth busy n k
Good c depth busy n (Skipped width site k) = IsWidth width × (IsSiteOf c n site) × Good c depth busy n k
Good c depth busy n (Number slot order width site k) = IsRead c n slot order width site × Good c depth busy n k
Good c depth busy n (Listed slot order width set site t k) = IsRead c n slot order width site × (t < (routine_of c n).registers) × (set < length c.sets) × Good c depth busy n k
Good c depth busy n (Part slot unit low width k) = (slot < (routine_of c n).registers) × (unit < (routine_of c n).registers) × (low + width ≤ 64) × (1 ≤ width) × Good c depth busy n k
Good c depth busy n (Computed t slot e k) = (t < (routine_of c n).registers) × (slot < (routine_of c n).registers) × Reaches (routine_of c n).registers t e × Good c depth busy n k
Good c depth busy n (Kept slot cell k) = (slot < (routine_of c n).registers) × (cell < (routine_of c n).cells) × Good c depth busy n k
Good c depth busy n (Remaining slot k) = (slot < (routine_of c n).registers) × Good c depth busy n k
Good c depth busy n (Test t site e k) = (t < (routine_of c n).registers) × Reaches (routine_of c n).registers t e × (IsSiteOf c n site) × Good c depth busy n k
Good c depth busy n (Act t site a k) = Does (routine_of c n).registers (routine_of c n).cells t a × (IsSiteOf c n site) × Good c depth busy n k
Good c depth busy n (Named t routine cells site args k) = IsCallable c depth n t routine cells site (length args) × AllReach (routine_of c n).registers t args × Good c depth busy n k
Good c depth busy n (AllBytes k) = Good c depth busy n k
Good c depth busy n (AllZeros site k) = (IsSiteOf c n site) × Good c depth busy n k
Good c depth busy n (ZeroEnd t width site e k) = (t < (routine_of c n).registers) × Reaches (routine_of c n).registers t e × IsWidth width × (IsSiteOf c n site) × Good c depth busy n k
Good c depth busy n (Copied t buffer site e k) = IsCopyOut c n t buffer site × Reaches (routine_of c n).registers t e × Good c depth busy n k
Good c depth busy n (Never site) = IsSiteOf c n site
Good c depth busy n (Arguments t args k) = AllReach (routine_of c n).registers t args × Good c depth busy n k
Good c depth busy n (BySize t site e x k) = (t < (routine_of c n).registers) × Reaches (routine_of c n).registers t e × (IsSiteOf c n site) × GoodInner c depth busy n x × Good c depth busy n k
Good c depth busy n (ByConstant size site x k) = (size < 2 ^ 32) × (IsSiteOf c n site) × GoodInner c depth busy n x × Good c depth busy n k

abbrev pub GoodCases : Parts → (depth : ℕ → ℕ) → (busy : ℕ → Bool) → (n t : ℕ) → Cases → Type 0
GoodCases c depth busy n t (Case k fields more) = (t + 1 < (routine_of c n).registers) × Good c depth busy n fields × GoodCases c depth busy n t more
GoodCases c depth busy n t (Default fields) = Good c depth busy n fields
GoodCases c depth busy n t (NoDefault site) = IsSiteOf c n site

abbrev pub GoodBody : Parts → (depth : ℕ → ℕ) → (busy : ℕ → Bool) → ℕ → Body → Type 0
GoodBody c depth busy n (Struct fields) = Good c depth busy n fields
GoodBody c depth busy n (Casetype t e all) = Reaches (routine_of c n).registers t e × GoodCases c depth busy n t all
GoodBody c depth busy n (Where t site e b) = (t < (routine_of c n).registers) × Reaches (routine_of c n).registers t e × (IsSiteOf c n site) × GoodBody c depth busy n b
