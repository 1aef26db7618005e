-- Blocks of the language have the form that runs in places.
use Rattle.std.proofs.Common.{ℕ, ◌+◌, Bool, true, false, List, [], ◌∷◌, refl}
use Rattle.td_lower_means.specs.Imports.{TypeDef}
use Rattle.std.specs.Prelude.{Option, Some, None}
use Rattle.td_lower_blocks.specs.Block.{Block, Done, Leave, Ends}
use Rattle.td_lower_blocks.specs.Constructs.{Expr, Lit, Slot, Binary, Not, Complement, ShiftLeft, Both, Either, Choice, Range, value, values, tested, acts, Action, Finish, Assign, Read, If, Return, Abort, Steps, End, Start, Place, Skipped, Number, Listed, Part, Computed, Kept, Remaining, Test, Act, Named, AllBytes, AllZeros, ZeroEnd, Copied, Never, Arguments, BySize, ByConstant, Inner, Nothing, Evenly, Exactly, Uneven, All, Zeroes, OneCall, OneListed, EachCall, EachListed, CopyAll, inner, steps, Cases, Case, Default, NoDefault, cases, Body, Struct, Casetype, Where, body}
use Rattle.td_lower_blocks.specs.Lowered.{definition_body, definition_block}
use Rattle.td_lower_blocks.proofs.Ending.{ends_body}
use Rattle.td_lower_means.proofs.Laid.{Forms}

forms_value : (v : Bool) (t : ℕ) (e : Expr) (k : Block) → Forms v k → Forms v (value t e k)
forms_value v t (Lit n) k h = (tt, h)
forms_value v t (Slot place) k h = (tt, h)
forms_value v t (Binary op a b) k h = forms_value v t a _ (forms_value v (t + 1) b _ (tt, h))
forms_value v t (Not a) k h = forms_value v t a _ (tt, (tt, h))
forms_value v t (Complement mask a) k h = forms_value v t a _ (tt, (tt, h))
forms_value v t (ShiftLeft mask a b) k h = forms_value v t a _ (forms_value v (t + 1) b _ (tt, (tt, (tt, h))))
forms_value v t (Both a b) k h = forms_value v t a _ (forms_value v t b Done tt, h)
forms_value v t (Either a b) k h = forms_value v t a _ (forms_value v t b Done tt, h)
forms_value v t (Choice c a b) k h = forms_value v t c _ ((forms_value true t a Leave refl, forms_value true t b Done tt), h)
forms_value v t (Range size offset access) k h = forms_value v t size _ (forms_value v (t + 1) offset _ (forms_value v (t + 2) access _ (tt, (tt, (tt, (tt, h))))))

forms_values : (v : Bool) (t : ℕ) (es : List Expr) (k : Block) → Forms v k → Forms v (values t es k)
forms_values v t [] k h = h
forms_values v t (e ∷ es) k h = forms_value v t e _ (forms_values v (t + 1) es k h)

forms_tested : (v : Bool) (t : ℕ) (e : Expr) (reason site : ℕ) (k : Block) → Forms v k → Forms v (tested t e reason site k)
forms_tested v t e reason site k h = forms_value v t e _ (tt, h)

forms_acts : (t site : ℕ) (a : Action) (k : Block) → Forms true k → Forms true (acts t site a k)
forms_acts t site Finish k h = h
forms_acts t site (Assign cell e more) k h = forms_value true t e _ (tt, forms_acts t site more k h)
forms_acts t site (Read slot cell more) k h = (tt, forms_acts t site more k h)
forms_acts t site (If e one other more) k h = forms_value true t e _ (forms_acts (t + 1) site one Done tt, (forms_acts (t + 1) site other Done tt, forms_acts t site more k h))
forms_acts t site (Return e) k h = forms_tested true t e 3 site Leave refl
forms_acts t site Abort k h = tt

forms_inner : (x : Inner) → Forms false (inner x)
forms_inner Nothing = tt
forms_inner (Evenly t width site more) = (tt, forms_inner more)
forms_inner (Exactly t u width site more) = (tt, (tt, (tt, forms_inner more)))
forms_inner (Uneven site) = tt
forms_inner All = (tt, tt)
forms_inner (Zeroes site) = (tt, tt)
forms_inner (OneCall t routine cells site count) = (tt, tt)
forms_inner (OneListed slot order width set site t) = (tt, (tt, (tt, tt)))
forms_inner (EachCall t routine cells site count) = ((tt, tt), tt)
forms_inner (EachListed slot order width set site t) = ((tt, (tt, (tt, tt))), tt)
forms_inner (CopyAll t buffer size site) = (tt, (tt, tt))

forms_steps : (x : Steps) → Forms false (steps x)
forms_steps End = tt
forms_steps (Start k) = (tt, forms_steps k)
forms_steps (Place slot k) = (tt, forms_steps k)
forms_steps (Skipped width site k) = (tt, forms_steps k)
forms_steps (Number slot order width site k) = (tt, forms_steps k)
forms_steps (Listed slot order width set site t k) = (tt, (tt, (tt, forms_steps k)))
forms_steps (Part slot unit low width k) = (tt, forms_steps k)
forms_steps (Computed t slot e k) = forms_value false t e _ (tt, forms_steps k)
forms_steps (Kept slot cell k) = (tt, forms_steps k)
forms_steps (Remaining slot k) = (tt, forms_steps k)
forms_steps (Test t site e k) = forms_tested false t e 4 site (steps k) (forms_steps k)
forms_steps (Act t site a k) = (forms_acts t site a Done tt, forms_steps k)
forms_steps (Named t routine cells site args k) = forms_values false t args _ (tt, forms_steps k)
forms_steps (AllBytes k) = (tt, forms_steps k)
forms_steps (AllZeros site k) = (tt, forms_steps k)
forms_steps (ZeroEnd t width site e k) = forms_value false t e _ (tt, forms_steps k)
forms_steps (Copied t buffer site e k) = forms_value false t e _ (tt, forms_steps k)
forms_steps (Never site) = tt
forms_steps (Arguments t args k) = forms_values false t args _ (forms_steps k)
forms_steps (BySize t site e x k) = forms_value false t e _ (tt, (forms_inner x, forms_steps k))
forms_steps (ByConstant size site x k) = (tt, (forms_inner x, forms_steps k))

forms_cases : (t : ℕ) (x : Cases) → Forms false (cases t x)
forms_cases t (Case k fields more) = (tt, (tt, (forms_steps fields, forms_cases t more)))
forms_cases t (Default fields) = forms_steps fields
forms_cases t (NoDefault site) = tt

forms_body : (x : Body) → Forms false (body x)
forms_body (Struct fields) = forms_steps fields
forms_body (Casetype t e all) = forms_value false t e _ (forms_cases t all)
forms_body (Where t site e x) = forms_tested false t e 4 site (body x) (forms_body x)

pub block_forms : (first t : ℕ) (o : Option TypeDef) → Forms false (definition_block first t o)
block_forms first t None = tt
block_forms first t (Some d) = forms_body (definition_body first t d)

pub block_ends : (first t : ℕ) (o : Option TypeDef) → Ends (definition_block first t o)
block_ends first t None = tt
block_ends first t (Some d) = ends_body (definition_body first t d)
