-- What constructs weigh and the least bytes that they take, told of them before they are code (own rule).
use Rattle.std.specs.Prelude.{ℕ, ◌+◌, ◌*◌, min, List, [], ◌∷◌}
use Rattle.td_lower_blocks.specs.Constructs.{Expr, Lit, Slot, Binary, Not, Complement, ShiftLeft, Both, Either, Choice, Range, Action, Finish, Assign, Read, If, Return, Abort, Inner, Nothing, Evenly, Exactly, Uneven, All, Zeroes, OneCall, OneListed, EachCall, EachListed, CopyAll, Steps, End, Start, Place, Skipped, Number, Listed, Part, Computed, Kept, Remaining, Test, Act, Named, AllBytes, AllZeros, ZeroEnd, Copied, Never, Arguments, BySize, ByConstant, Cases, Case, Default, NoDefault, Body, Struct, Casetype, Where}

-- Nodes and weight

abbrev pub nodes : Expr → ℕ
nodes (Lit n) = 1
nodes (Slot place) = 1
nodes (Binary op a b) = 1 + (nodes a + nodes b)
nodes (Not a) = 1 + nodes a
nodes (Complement mask a) = 1 + nodes a
nodes (ShiftLeft mask a b) = 1 + (nodes a + nodes b)
nodes (Both a b) = 1 + (nodes a + nodes b)
nodes (Either a b) = 1 + (nodes a + nodes b)
nodes (Choice c a b) = 1 + (nodes c + (nodes a + nodes b))
nodes (Range size offset access) = 1 + (nodes size + (nodes offset + nodes access))

abbrev pub all_nodes : List Expr → ℕ
all_nodes [] = 0
all_nodes (e ∷ es) = nodes e + all_nodes es

abbrev pub act_nodes : Action → ℕ
act_nodes Finish = 0
act_nodes (Assign cell e more) = nodes e + act_nodes more
act_nodes (Read slot cell more) = 1 + act_nodes more
act_nodes (If e one other more) = 1 + (nodes e + (act_nodes one + (act_nodes other + act_nodes more)))
act_nodes (Return e) = 1 + nodes e
act_nodes Abort = 1

abbrev pub inner_weight : (ℕ → ℕ) → Inner → ℕ
inner_weight W Nothing = 0
inner_weight W (Evenly t width site more) = 1 + inner_weight W more
inner_weight W (Exactly t u width site more) = 4 + inner_weight W more
inner_weight W (Uneven site) = 1
inner_weight W All = 1
inner_weight W (Zeroes site) = 2
inner_weight W (OneCall t routine cells site count) = 1 + W routine
inner_weight W (OneListed slot order width set site t) = 4
inner_weight W (EachCall t routine cells site count) = 8 + 2 * W routine
inner_weight W (EachListed slot order width set site t) = 14
inner_weight W (CopyAll t buffer size site) = 3

-- no more than the table of weights gives a definition: of its 32 the end and a `where`; of a case's 8 its test and its end; of a field's 32 (7 at its start, 1 for field_pos, 8 for its shape, 8 for a
-- part, 4 each for a test and an action), 8 a node, the definition named; for arrays twice and 64 more
abbrev pub weight_of : (ℕ → ℕ) → Steps → ℕ
weight_of W End = 1
weight_of W (Start k) = 7 + weight_of W k
weight_of W (Place slot k) = 1 + weight_of W k
weight_of W (Skipped width site k) = 8 + weight_of W k
weight_of W (Number slot order width site k) = 8 + weight_of W k
weight_of W (Listed slot order width set site t k) = 8 + weight_of W k
weight_of W (Part slot unit low width k) = 8 + weight_of W k
weight_of W (Computed t slot e k) = 8 + (8 * nodes e + weight_of W k)
weight_of W (Kept slot cell k) = 8 + weight_of W k
weight_of W (Remaining slot k) = 8 + weight_of W k
weight_of W (Test t site e k) = 4 + (8 * nodes e + weight_of W k)
weight_of W (Act t site a k) = 4 + (8 * act_nodes a + weight_of W k)
weight_of W (Named t routine cells site args k) = 8 + (8 * all_nodes args + (W routine + weight_of W k))
weight_of W (AllBytes k) = 8 + weight_of W k
weight_of W (AllZeros site k) = 8 + weight_of W k
weight_of W (ZeroEnd t width site e k) = 64 + (8 * nodes e + weight_of W k)
weight_of W (Copied t buffer site e k) = 64 + (8 * nodes e + weight_of W k)
weight_of W (Never site) = 64
weight_of W (Arguments t args k) = 8 * all_nodes args + weight_of W k
weight_of W (BySize t site e x k) = 64 + (8 * nodes e + (inner_weight W x + weight_of W k))
weight_of W (ByConstant size site x k) = 64 + (inner_weight W x + weight_of W k)

abbrev pub cases_weight : (ℕ → ℕ) → Cases → ℕ
cases_weight W (Case n fields more) = 7 + (weight_of W fields + cases_weight W more)
cases_weight W (Default fields) = weight_of W fields
cases_weight W (NoDefault site) = 1

abbrev pub body_weight : (ℕ → ℕ) → Body → ℕ
body_weight W (Struct fields) = weight_of W fields
body_weight W (Casetype t e all) = 8 * nodes e + cases_weight W all
body_weight W (Where t site e b) = 4 + (8 * nodes e + body_weight W b)

-- Least bytes

abbrev pub least_of : (ℕ → ℕ) → Steps → ℕ
least_of least End = 0
least_of least (Start k) = least_of least k
least_of least (Place slot k) = least_of least k
least_of least (Skipped width site k) = width + least_of least k
least_of least (Number slot order width site k) = width + least_of least k
least_of least (Listed slot order width set site t k) = width + least_of least k
least_of least (Part slot unit low width k) = least_of least k
least_of least (Computed t slot e k) = least_of least k
least_of least (Kept slot cell k) = least_of least k
least_of least (Remaining slot k) = least_of least k
least_of least (Test t site e k) = least_of least k
least_of least (Act t site a k) = least_of least k
least_of least (Named t routine cells site args k) = least routine + least_of least k
least_of least (AllBytes k) = least_of least k
least_of least (AllZeros site k) = least_of least k
least_of least (ZeroEnd t width site e k) = width + least_of least k
least_of least (Copied t buffer site e k) = least_of least k
least_of least (Never site) = 1
least_of least (Arguments t args k) = least_of least k
least_of least (BySize t site e x k) = least_of least k
least_of least (ByConstant size site x k) = size + least_of least k

abbrev pub cases_least : (ℕ → ℕ) → Cases → ℕ
cases_least least (Case n fields more) = min (least_of least fields) (cases_least least more)
cases_least least (Default fields) = least_of least fields
cases_least least (NoDefault site) = 1

abbrev pub body_least : (ℕ → ℕ) → Body → ℕ
body_least least (Struct fields) = least_of least fields
body_least least (Casetype t e all) = cases_least least all
body_least least (Where t site e b) = body_least least b
