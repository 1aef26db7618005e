-- The registers that a definition's code needs (own rule): first the levels of values in scope, behind which stands the unit of
-- bit fields, and then one more than the greatest register that is used.
use Rattle.std.specs.Prelude.{ℕ, suc, ◌+◌, max, List, [], ◌∷◌, length, Option, Some, None}
use Rattle.td_core.specs.Term.{Term, Deed, done, set, keep, fork, answer, give_up}
use Rattle.td_lower_blocks.specs.Imports.{Element, Number, Listed, Named, Unit as UnitElement, Rest, Zeros, Extent, Once, Filling, OnceFilling, UpToZero, Given, Source, Expression, FromCell, Left, Bits, CopyOut, Part, Field, Case, Body, Struct, Casetype, TypeDef}
use Rattle.td_lower_blocks.specs.Constructs.{Expr, Lit, Slot, Binary, Not, Complement, ShiftLeft, Both, Either, Choice, Range}
use Rattle.td_lower_blocks.specs.Lowered.{expr_of, terms_of}

-- Levels: one more than the greatest of the values in scope, from one on

abbrev pub deed_levels : ℕ → Deed → ℕ
deed_levels level done = level
deed_levels level (set cell e then) = deed_levels level then
deed_levels level (keep cell then) = deed_levels (suc level) then
deed_levels level (fork e one other then) = max (deed_levels level one) (max (deed_levels level other) (deed_levels level then))
deed_levels level (answer e) = level
deed_levels level give_up = level

-- an action also has the place of its field, at the level behind its part's
abbrev pub action_levels : ℕ → Option Deed → ℕ
action_levels level None = level
action_levels level (Some d) = deed_levels (suc level) d

abbrev pub parts_levels : ℕ → List Part → ℕ
parts_levels level [] = level
parts_levels level (p ∷ ps) = max (action_levels (suc level) p.action) (parts_levels (suc level) ps)

abbrev pub fields_levels : ℕ → List Field → ℕ
fields_levels level [] = level
fields_levels level (f ∷ fs) = max (parts_levels level f.parts) (fields_levels (length f.parts + level) fs)

abbrev pub default_levels : ℕ → Option (List Field) → ℕ
default_levels level None = level
default_levels level (Some fs) = fields_levels level fs

abbrev pub cases_levels : ℕ → List Case → ℕ
cases_levels level [] = level
cases_levels level (c ∷ cs) = max (fields_levels level c.fields) (cases_levels level cs)

abbrev pub body_levels : ℕ → Body → ℕ
body_levels level (Struct fs) = fields_levels level fs
body_levels level (Casetype e cases default) = max (cases_levels level cases) (default_levels level default)

abbrev pub definition_levels : TypeDef → ℕ
definition_levels d = body_levels (length d.params) d.body

-- Registers: one more than the greatest that is used. An expression stands in register t and those above it

abbrev pub top : ℕ → Expr → ℕ
top t (Lit n) = t + 1
top t (Slot place) = max (t + 1) (place + 1)
top t (Binary op a b) = max (top t a) (top (t + 1) b)
top t (Not a) = max (t + 2) (top t a)
top t (Complement mask a) = max (t + 2) (top t a)
top t (ShiftLeft mask a b) = max (top t a) (top (t + 1) b)
top t (Both a b) = max (top t a) (top t b)
top t (Either a b) = max (top t a) (top t b)
top t (Choice c a b) = max (top t c) (max (top t a) (top t b))
top t (Range size offset access) = max (t + 4) (max (top t size) (max (top (t + 1) offset) (top (t + 2) access)))

abbrev pub term_top : ℕ → Term → ℕ
term_top t e = top t (expr_of e)

abbrev pub terms_top : ℕ → List Term → ℕ
terms_top t [] = t + 1
terms_top t (e ∷ es) = max (term_top t e) (terms_top (t + 1) es)

abbrev pub test_top : ℕ → Option Term → ℕ
test_top t None = t + 1
test_top t (Some e) = term_top t e

abbrev pub deed_top : (level t : ℕ) → Deed → ℕ
deed_top level t done = t + 1
deed_top level t (set cell e then) = max (term_top t e) (deed_top level t then)
deed_top level t (keep cell then) = max (level + 1) (deed_top (suc level) t then)
deed_top level t (fork e one other then) = max (term_top t e) (max (deed_top level (t + 1) one) (max (deed_top level (t + 1) other) (deed_top level t then)))
deed_top level t (answer e) = term_top t e
deed_top level t give_up = t + 1

abbrev pub action_top : (level t : ℕ) → Option Deed → ℕ
action_top level t None = t + 1
action_top level t (Some d) = max (level + 1) (deed_top (suc level) t d)

-- cells: one more than the greatest number of one
abbrev pub deed_cells : Deed → ℕ
deed_cells done = 0
deed_cells (set cell e then) = max (cell + 1) (deed_cells then)
deed_cells (keep cell then) = max (cell + 1) (deed_cells then)
deed_cells (fork e one other then) = max (deed_cells one) (max (deed_cells other) (deed_cells then))
deed_cells (answer e) = 0
deed_cells give_up = 0

abbrev pub option_cells : Option Deed → ℕ
option_cells None = 0
option_cells (Some d) = deed_cells d

abbrev pub parts_cells : List Part → ℕ
parts_cells [] = 0
parts_cells (p ∷ ps) = max (option_cells p.action) (parts_cells ps)

-- one more than the number of the buffer that is copied to
abbrev pub copy_cells : Option CopyOut → ℕ
copy_cells None = 0
copy_cells (Some c) = c.buffer + 1

-- of the cell that gives a number without bytes
abbrev pub source_cells : Source → ℕ
source_cells (Expression span e) = 0
source_cells (FromCell cell) = cell + 1
source_cells Left = 0

abbrev pub extent_cells : Extent → ℕ
extent_cells Once = 0
extent_cells (Filling size step) = 0
extent_cells (OnceFilling size step) = 0
extent_cells (UpToZero size) = 0
extent_cells (Given source) = source_cells source

abbrev pub fields_cells : List Field → ℕ
fields_cells [] = 0
fields_cells (f ∷ fs) = max (extent_cells f.extent) (max (copy_cells f.copy) (max (parts_cells f.parts) (fields_cells fs)))

abbrev pub default_cells : Option (List Field) → ℕ
default_cells None = 0
default_cells (Some fs) = fields_cells fs

abbrev pub cases_cells : List Case → ℕ
cases_cells [] = 0
cases_cells (c ∷ cs) = max (fields_cells c.fields) (cases_cells cs)

abbrev pub body_cells : Body → ℕ
body_cells (Struct fs) = fields_cells fs
body_cells (Casetype e cases default) = max (cases_cells cases) (default_cells default)

-- bits: one more than the greatest bit of a part
abbrev pub bits_end : Option Bits → ℕ
bits_end None = 0
bits_end (Some bits) = bits.low + bits.width

abbrev pub parts_bits : List Part → ℕ
parts_bits [] = 0
parts_bits (p ∷ ps) = max (bits_end p.bits) (parts_bits ps)

abbrev pub fields_bits : List Field → ℕ
fields_bits [] = 0
fields_bits (f ∷ fs) = max (parts_bits f.parts) (fields_bits fs)

abbrev pub default_bits : Option (List Field) → ℕ
default_bits None = 0
default_bits (Some fs) = fields_bits fs

abbrev pub cases_bits : List Case → ℕ
cases_bits [] = 0
cases_bits (c ∷ cs) = max (fields_bits c.fields) (cases_bits cs)

abbrev pub body_bits : Body → ℕ
body_bits (Struct fs) = fields_bits fs
body_bits (Casetype e cases default) = max (cases_bits cases) (default_bits default)

-- the unit of bit fields is register t
abbrev pub parts_top : (level t : ℕ) → List Part → ℕ
parts_top level t [] = t + 1
parts_top level t (p ∷ ps) =
    max (level + 1) (max (test_top (suc t) p.refinement) (max (action_top (suc level) (suc t) p.action) (parts_top (suc level) t ps)))

-- arguments stand from t + 1 on, a size behind them, and two more registers are free
abbrev pub sized_top : ℕ → Element → Term → ℕ
sized_top t element size =
    max (terms_top (suc t) (terms_of element)) (max (suc t + length (terms_of element) + 3) (term_top (suc t + length (terms_of element)) size))

-- a number without bytes is computed in register t
abbrev pub source_top : ℕ → Source → ℕ
source_top t (Expression span e) = term_top t e
source_top t (FromCell cell) = t + 1
source_top t Left = t + 1

abbrev pub shape_top : ℕ → Element → Extent → ℕ
shape_top t element Once = max (t + 2) (terms_top (suc t) (terms_of element))
shape_top t element (Filling size step) = sized_top t element size
shape_top t element (OnceFilling size step) = sized_top t element size
shape_top t element (UpToZero size) = term_top (suc t) size
shape_top t element (Given source) = source_top (suc t) source

-- of what is copied its size too
abbrev pub content_top : ℕ → Element → Extent → Option CopyOut → ℕ
content_top t element extent None = shape_top t element extent
content_top t element (Filling size step) (Some c) = max (shape_top t element (Filling size step)) (term_top (suc t) size)
content_top t element Once (Some c) = shape_top t element Once
content_top t element (OnceFilling size step) (Some c) = shape_top t element (OnceFilling size step)
content_top t element (UpToZero size) (Some c) = shape_top t element (UpToZero size)
content_top t element (Given source) (Some c) = shape_top t element (Given source)

abbrev pub fields_top : (level t : ℕ) → List Field → ℕ
fields_top level t [] = t + 1
fields_top level t (f ∷ fs) = max (content_top t f.element f.extent f.copy) (max (parts_top level t f.parts) (fields_top (length f.parts + level) t fs))

abbrev pub default_top : (level t : ℕ) → Option (List Field) → ℕ
default_top level t None = t + 1
default_top level t (Some fs) = fields_top level t fs

abbrev pub cases_top : (level t : ℕ) → List Case → ℕ
cases_top level t [] = t + 1
cases_top level t (c ∷ cs) = max (fields_top level t c.fields) (cases_top level t cs)

abbrev pub body_top : (level t : ℕ) → Body → ℕ
body_top level t (Struct fs) = fields_top level t fs
body_top level t (Casetype e cases default) = max (t + 3) (max (term_top (suc t) e) (max (cases_top level t cases) (default_top level t default)))

-- the registers of a definition's routine
abbrev pub definition_top : ℕ → TypeDef → ℕ
definition_top t d = max (t + 2) (max (test_top (suc t) d.guard) (body_top (length d.params) t d.body))
