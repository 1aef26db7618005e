-- A definition needs no more registers than twice its nodes and a few. Cited by other crates.
use Rattle.std.proofs.Common.{◌≡◌, ℕ, zero, suc, ◌+◌, ◌≤◌, List, [], ◌∷◌, ◌++◌, length, slice_get, Option, Some, None, arith, length-append}
use Rattle.std.proofs.lemmas.List.{length-map}
use Rattle.td_core.specs.declared.expressions.Relation.{Relation}
use Rattle.td_core.specs.declared.expressions.Relation.TheVariants.{Equal, NotEqual, Less, LessEqual, Greater, GreaterEqual}
use Rattle.td_core.specs.Term.{Term, number, name, complement, negation, compute, compare, both, either, choice, range_okay, measure, Deed, done, set, keep, fork, answer, give_up}
use Rattle.td_core.specs.Formed.{Bound, scalar_of, whole, param_bounds, given, part_bound, parts_scope, IsScoped, IsOptionScoped, IsDeedFormed, IsActionFormed, ArePartsFormed, AreArgsFormed, params_at, IsElementFormed, IsSourceFormed, IsExtentFormed, AreFieldsFormed, AreCasesFormed, IsDefaultFormed, IsBodyFormed, IsDefinitionFormed}
use Rattle.td_core.specs.declared.expressions.Scalar.TheVariants as scalar
use Rattle.td_lower.specs.Imports.{Param, Element, Number, Listed, Named, Unit as UnitElement, Rest, Zeros, CopyOut, Part, Field, Case, Body, Struct, Casetype, TypeDef}
use Rattle.td_core.specs.declared.module.Extent.{Extent}
use Rattle.td_core.specs.declared.module.Extent.TheVariants.{Once, Filling, OnceFilling, UpToZero, Given}
use Rattle.td_core.specs.declared.module.Source.{Source}
use Rattle.td_core.specs.declared.module.Source.TheVariants.{Expression, Cell as FromCell, Left}
use Rattle.td_core.specs.Weights.{option_nodes, terms_nodes, deed_nodes, action_nodes, element_nodes, source_nodes, extent_nodes, part_nodes, total, fields_nodes, default_nodes, cases_nodes, body_nodes, head_nodes}
use Rattle.td_lower_blocks.specs.Constructs.{Expr}
use Rattle.td_lower_blocks.specs.Lowered.{compared_of, mask_of, expr_of, terms_of}
use Rattle.td_lower_blocks.specs.Tops.{deed_levels, action_levels, parts_levels, fields_levels, default_levels, cases_levels, body_levels, definition_levels, top, terms_top, test_top, deed_top, action_top, parts_top, sized_top, source_top, shape_top, content_top, fields_top, default_top, cases_top, body_top, definition_top}
use Rattle.td_core.proofs.Nodes.{some_node as some_measure, each_node as count_low}
use Rattle.td_lower_blocks.proofs.Heights.{computed_top}

-- how many values are kept, each at a level of its own, and how many fields' values beside them

abbrev deed_kept : Deed → ℕ
deed_kept done = 0
deed_kept (set cell e then) = deed_kept then
deed_kept (keep cell then) = 1 + deed_kept then
deed_kept (fork e one other then) = deed_kept one + (deed_kept other + deed_kept then)
deed_kept (answer e) = 0
deed_kept give_up = 0

abbrev action_kept : Option Deed → ℕ
action_kept None = 0
action_kept (Some d) = deed_kept d

abbrev parts_kept : List Part → ℕ
parts_kept [] = 0
parts_kept (p ∷ ps) = action_kept p.action + parts_kept ps

abbrev fields_kept : List Field → ℕ
fields_kept [] = 0
fields_kept (f ∷ fs) = length f.parts + parts_kept f.parts + fields_kept fs

abbrev default_kept : Option (List Field) → ℕ
default_kept None = 0
default_kept (Some fs) = fields_kept fs

abbrev cases_kept : List Case → ℕ
cases_kept [] = 0
cases_kept (c ∷ cs) = fields_kept c.fields + cases_kept cs

abbrev body_kept : Body → ℕ
body_kept (Struct fs) = fields_kept fs
body_kept (Casetype e cases o) = cases_kept cases + default_kept o

-- they are no more than the nodes

deed_few : (d : Deed) → deed_kept d ≤ deed_nodes d
deed_few done = omega arith
deed_few (set cell e then) = (let x = deed_few then in omega (arith, x))
deed_few (keep cell then) = (let x = deed_few then in omega (arith, x))
deed_few (fork e one other then) = (let x = deed_few one in let y = deed_few other in let z = deed_few then in omega (arith, x, y, z))
deed_few (answer e) = omega arith
deed_few give_up = omega arith

action_few : (o : Option Deed) → action_kept o ≤ action_nodes o
action_few None = omega arith
action_few (Some d) = deed_few d

parts_few : (ps : List Part) → parts_kept ps ≤ total part_nodes ps
parts_few [] = omega arith
parts_few (p ∷ ps) = (let x = action_few p.action in let y = parts_few ps in omega (arith, x, y))

fields_few : (fs : List Field) → fields_kept fs ≤ fields_nodes fs
fields_few [] = omega arith
fields_few (f ∷ fs) = (let x = parts_few f.parts in let y = fields_few fs in omega (arith, x, y))

default_few : (o : Option (List Field)) → default_kept o ≤ default_nodes o
default_few None = omega arith
default_few (Some fs) = fields_few fs

cases_few : (cs : List Case) → cases_kept cs ≤ cases_nodes cs
cases_few [] = omega arith
cases_few (c ∷ cs) = (let x = fields_few c.fields in let y = cases_few cs in omega (arith, x, y))

body_few : (b : Body) → body_kept b ≤ body_nodes b
body_few (Struct fs) = fields_few fs
body_few (Casetype e cases o) = (let x = cases_few cases in let y = default_few o in omega (arith, x, y))

-- levels

deed_low : (L : ℕ) (d : Deed) → deed_levels L d ≤ L + deed_kept d
deed_low L done = omega arith
deed_low L (set cell e then) = (let x = deed_low L then in omega (arith, x))
deed_low L (keep cell then) = (let x = deed_low (suc L) then in omega (arith, x))
deed_low L (fork e one other then) = (let x = deed_low L one in let y = deed_low L other in let z = deed_low L then in omega (arith, x, y, z))
deed_low L (answer e) = omega arith
deed_low L give_up = omega arith

action_low : (L : ℕ) (o : Option Deed) → action_levels L o ≤ L + 1 + action_kept o
action_low L None = omega arith
action_low L (Some d) = (let x = deed_low (suc L) d in omega (arith, x))

parts_low : (L : ℕ) (ps : List Part) → parts_levels L ps ≤ L + 1 + (length ps + parts_kept ps)
parts_low L [] = omega arith
parts_low L (p ∷ ps) = (let x = action_low (suc L) p.action in let y = parts_low (suc L) ps in omega (arith, x, y))

fields_low : (L : ℕ) (fs : List Field) → fields_levels L fs ≤ L + 1 + fields_kept fs
fields_low L [] = omega arith
fields_low L (f ∷ fs) = (let x = parts_low L f.parts in let y = fields_low (length f.parts + L) fs in omega (arith, x, y))

default_low : (L : ℕ) (o : Option (List Field)) → default_levels L o ≤ L + 1 + default_kept o
default_low L None = omega arith
default_low L (Some fs) = fields_low L fs

cases_low : (L : ℕ) (cs : List Case) → cases_levels L cs ≤ L + 1 + cases_kept cs
cases_low L [] = omega arith
cases_low L (c ∷ cs) = (let x = fields_low L c.fields in let y = cases_low L cs in omega (arith, x, y))

body_low : (L : ℕ) (b : Body) → body_levels L b ≤ L + 1 + body_kept b
body_low L (Struct fs) = fields_low L fs
body_low L (Casetype e cases o) = (let x = cases_low L cases in let y = default_low L o in omega (arith, x, y))

-- registers

compared_top : (r : Relation) (t m : ℕ) (a b : Expr) → top t a ≤ m → top (t + 1) a ≤ m → top t b ≤ m → top (t + 1) b ≤ m → top t (compared_of r a b) ≤ m
compared_top Equal t m a b h k i j = omega (arith, h, j)
compared_top NotEqual t m a b h k i j = omega (arith, h, j)
compared_top Less t m a b h k i j = omega (arith, h, j)
compared_top LessEqual t m a b h k i j = omega (arith, h, j)
compared_top Greater t m a b h k i j = omega (arith, k, i)
compared_top GreaterEqual t m a b h k i j = omega (arith, k, i)

within : {A : Type 0} (xs : List A) (i : ℕ) (x : A) → slice_get xs i ≡ Some x → i + 1 ≤ length xs
within [] i x h = absurd (cc)
within (y ∷ ys) zero x h = omega arith
within (y ∷ ys) (suc i) x h = (let k = within ys i x h in omega (arith, k))

value_low : (scope : List Bound) (u : ℕ) (e : Term) → IsScoped scope e → length scope ≤ u → top u (expr_of e) ≤ u + measure e
value_low scope u (number n w) h k = omega arith
value_low scope u (name i w most) h k = (let x = within scope i _ h.0 in omega (arith, x, k))
value_low scope u (complement a) h k = (let x = value_low scope u a h k in let y = some_measure a in omega (arith, x, y))
value_low scope u (negation a) h k = (let x = value_low scope u a h k in let y = some_measure a in omega (arith, x, y))
value_low scope u (compute op s a b) h k =
    (let x = value_low scope u a h.0 k in let y = value_low scope (u + 1) b h.1 (omega (arith, k)) in let z = computed_top op (mask_of a) u (expr_of a) (expr_of b) in omega (arith, x, y, z))
value_low scope u (compare r a b) h k =
    let x = value_low scope u a h.0 k in let x' = value_low scope (u + 1) a h.0 (omega (arith, k)) in
    let y = value_low scope u b h.1 k in let y' = value_low scope (u + 1) b h.1 (omega (arith, k)) in
    compared_top r u (u + (1 + (measure a + measure b))) (expr_of a) (expr_of b) (omega (arith, x)) (omega (arith, x')) (omega (arith, y)) (omega (arith, y'))
value_low scope u (both a b) h k = (let x = value_low scope u a h.0 k in let y = value_low scope u b h.1 k in omega (arith, x, y))
value_low scope u (either a b) h k = (let x = value_low scope u a h.0 k in let y = value_low scope u b h.1 k in omega (arith, x, y))
value_low scope u (choice c a b) h k =
    (let x = value_low scope u c h.0 k in let y = value_low scope u a h.1.0 k in let z = value_low scope u b h.1.1 k in omega (arith, x, y, z))
value_low scope u (range_okay s o a) h k =
    let x = value_low scope u s h.0 k in let y = value_low scope (u + 1) o h.1.0 (omega (arith, k)) in let z = value_low scope (u + 2) a h.1.1 (omega (arith, k)) in
    let x' = some_measure s in let y' = some_measure o in let z' = some_measure a in
    omega (arith, x, y, z, x', y', z')

args_low : (scope bs : List Bound) (u : ℕ) (es : List Term) → AreArgsFormed scope bs es → length scope ≤ u → terms_top u es ≤ u + 1 + terms_nodes es
args_low scope [] u [] h k = omega arith
args_low scope [] u (e ∷ es) h k = absurd h
args_low scope (b ∷ bs) u [] h k = absurd h
args_low scope (b ∷ bs) u (e ∷ es) h k =
    (let x = value_low scope u e h.0 k in let y = args_low scope bs (u + 1) es h.1.1 (omega (arith, k)) in let z = some_measure e in omega (arith, x, y, z))

test_low : (scope : List Bound) (u : ℕ) (o : Option Term) → IsOptionScoped scope o → length scope ≤ u → test_top u o ≤ u + 1 + option_nodes o
test_low scope u None h k = omega arith
test_low scope u (Some e) h k = (let x = value_low scope u e h k in omega (arith, x))

given_low : (scope : List Bound) (o : Option Bound) → length (given scope o) ≤ suc (length scope)
given_low scope None = omega arith
given_low scope (Some b) = (let x = length-append scope (b ∷ []) in omega (arith, x))

levels_up : (L : ℕ) (d : Deed) → L ≤ deed_levels L d
levels_up L done = omega arith
levels_up L (set cell e then) = levels_up L then
levels_up L (keep cell then) = (let x = levels_up (suc L) then in omega (arith, x))
levels_up L (fork e one other then) = (let x = levels_up L one in omega (arith, x))
levels_up L (answer e) = omega arith
levels_up L give_up = omega arith

acts_low : (cells scope : List Bound) (L u : ℕ) (d : Deed) → IsDeedFormed cells scope d → length scope ≤ L → deed_levels L d ≤ u → deed_top L u d + deed_kept d ≤ u + 1 + deed_nodes d
acts_low cells scope L u done h k l = omega arith
acts_low cells scope L u (set cell e then) h k l =
    let up = levels_up L then in
    let x = value_low scope u e h.0 (omega (arith, k, up, l)) in let y = acts_low cells scope L u then h.1.1 k l in
    let few = deed_few then in omega (arith, x, y, few)
acts_low cells scope L u (keep cell then) h k l =
    let g = given_low scope (slice_get cells cell) in
    let up = levels_up (suc L) then in
    let few = deed_few then in
    let y = acts_low cells (given scope (slice_get cells cell)) (suc L) u then h.1 (omega (arith, k, g)) l in omega (arith, y, up, l, few)
acts_low cells scope L u (fork e one other then) h k l =
    let up = levels_up L then in
    let x = value_low scope u e h.0 (omega (arith, k, up, l)) in
    let y = acts_low cells scope L (u + 1) one h.1.0 k (omega (arith, l)) in
    let z = acts_low cells scope L (u + 1) other h.1.1.0 k (omega (arith, l)) in
    let w = acts_low cells scope L u then h.1.1.1 k (omega (arith, l)) in
    let few = deed_few one in let few' = deed_few other in let few'' = deed_few then in
    omega (arith, x, y, z, w, few, few', few'')
acts_low cells scope L u (answer e) h k l = (let x = value_low scope u e h (omega (arith, k, l)) in omega (arith, x))
acts_low cells scope L u give_up h k l = omega arith

effect_low : (cells scope : List Bound) (L u : ℕ) (o : Option Deed) → IsActionFormed cells scope o → length scope ≤ L → action_levels L o ≤ u → L ≤ u → action_top L (suc u) o + action_kept o ≤ u + 2 + action_nodes o
effect_low cells scope L u None h k l m = omega arith
effect_low cells scope L u (Some d) h k l m =
    let g = length-append scope (whole scalar.ThirtyTwo ∷ []) in
    let up = levels_up (suc L) d in
    let x = acts_low cells (scope ++ whole scalar.ThirtyTwo ∷ []) (suc L) (suc u) d h (omega (arith, k, g)) (omega (arith, l)) in
    let few = deed_few d in
    omega (arith, x, up, l, few)

first_level : (L : ℕ) (ps : List Part) → L ≤ parts_levels L ps
first_level L [] = omega arith
first_level L (p ∷ ps) = (let x = first_level (suc L) ps in omega (arith, x))

members_low : (cells : List Bound) (element : Element) (extent : Extent) (scope : List Bound) (L t : ℕ) (ps : List Part) → ArePartsFormed cells element extent scope ps → length scope ≤ L → parts_levels L ps ≤ t → parts_top L t ps + parts_kept ps ≤ t + 2 + total part_nodes ps
members_low cells element extent scope L t [] h k l = omega arith
members_low cells element extent scope L t (p ∷ ps) h k l =
    let inner = scope ++ part_bound element extent p.bits ∷ [] in
    let g = length-append scope (part_bound element extent p.bits ∷ []) in
    let f = first_level (suc L) ps in
    let x = test_low inner (suc t) p.refinement h.0 (omega (arith, k, g, f, l)) in
    let y = effect_low cells inner (suc L) t p.action h.1.0 (omega (arith, k, g)) (omega (arith, l)) (omega (arith, f, l)) in
    let z = members_low cells element extent inner (suc L) t ps h.1.1 (omega (arith, k, g)) (omega (arith, l)) in
    let few = action_few p.action in let few' = parts_few ps in
    omega (arith, x, y, z, f, l, few, few')

scope_low : (element : Element) (extent : Extent) (scope : List Bound) (ps : List Part) → length (parts_scope element extent scope ps) ≡ length ps + length scope
scope_low element extent scope [] = omega arith
scope_low element extent scope (p ∷ ps) =
    (let x = scope_low element extent (scope ++ part_bound element extent p.bits ∷ []) ps in let g = length-append scope (part_bound element extent p.bits ∷ []) in omega (arith, x, g))

element_low : (ds : List TypeDef) (n : ℕ) (cells scope : List Bound) (t : ℕ) (element : Element) → IsElementFormed ds n cells scope element → length scope ≤ t → terms_top (suc t) (terms_of element) ≤ t + 2 + element_nodes element
element_low ds n cells scope t (Number type) h k = omega arith
element_low ds n cells scope t (Listed base v) h k = omega arith
element_low ds n cells scope t (Named j args own) h k = (let x = args_low scope (params_at (slice_get ds j)) (suc t) args h.1.0 (omega (arith, k)) in omega (arith, x))
element_low ds n cells scope t UnitElement h k = omega arith
element_low ds n cells scope t Rest h k = omega arith
element_low ds n cells scope t Zeros h k = omega arith

args_count : (element : Element) → length (terms_of element) ≤ element_nodes element
args_count (Number type) = omega arith
args_count (Listed base v) = omega arith
args_count (Named j args own) = count_low args
args_count UnitElement = omega arith
args_count Rest = omega arith
args_count Zeros = omega arith

sized_low : (ds : List TypeDef) (n : ℕ) (cells scope : List Bound) (t : ℕ) (element : Element) (size : Term) → IsElementFormed ds n cells scope element → IsScoped scope size → length scope ≤ t
    → sized_top t element size ≤ t + 4 + (element_nodes element + measure size)
sized_low ds n cells scope t element size h s k =
    let x = element_low ds n cells scope t element h k in
    let y = args_count element in
    let z = value_low scope (suc t + length (terms_of element)) size s (omega (arith, k)) in
    omega (arith, x, y, z)

source_low : (cells scope : List Bound) (t : ℕ) (b : Bound) (source : Source) → IsSourceFormed cells scope b source → length scope ≤ t → source_top (suc t) source ≤ t + 4 + source_nodes source
source_low cells scope t b (Expression span e) s k = (let x = value_low scope (suc t) e s (omega (arith, k)) in omega (arith, x))
source_low cells scope t b (FromCell cell) s k = omega arith
source_low cells scope t b Left s k = omega arith

shape_low : (ds : List TypeDef) (n : ℕ) (cells scope : List Bound) (t : ℕ) (element : Element) (extent : Extent) → IsElementFormed ds n cells scope element → IsExtentFormed cells scope element extent → length scope ≤ t
    → shape_top t element extent ≤ t + 4 + (element_nodes element + extent_nodes extent)
shape_low ds n cells scope t element Once h s k = (let x = element_low ds n cells scope t element h k in omega (arith, x))
shape_low ds n cells scope t element (Filling size step) h s k = sized_low ds n cells scope t element size h s k
shape_low ds n cells scope t element (OnceFilling size step) h s k = sized_low ds n cells scope t element size h s k
shape_low ds n cells scope t element (UpToZero size) h s k = (let x = value_low scope (suc t) size s (omega (arith, k)) in omega (arith, x))
shape_low ds n cells scope t element (Given source) h s k = (let x = source_low cells scope t (part_bound element (Given source) None) source s k in omega (arith, x))

content_low : (ds : List TypeDef) (n : ℕ) (cells scope : List Bound) (t : ℕ) (element : Element) (extent : Extent) (copy : Option CopyOut) → IsElementFormed ds n cells scope element → IsExtentFormed cells scope element extent → length scope ≤ t
    → content_top t element extent copy ≤ t + 4 + (element_nodes element + extent_nodes extent)
content_low ds n cells scope t element extent None h s k = shape_low ds n cells scope t element extent h s k
content_low ds n cells scope t element Once (Some w) h s k = shape_low ds n cells scope t element Once h s k
content_low ds n cells scope t element (Filling size step) (Some w) h s k =
    (let x = shape_low ds n cells scope t element (Filling size step) h s k in let y = value_low scope (suc t) size s (omega (arith, k)) in omega (arith, x, y))
content_low ds n cells scope t element (OnceFilling size step) (Some w) h s k = shape_low ds n cells scope t element (OnceFilling size step) h s k
content_low ds n cells scope t element (UpToZero size) (Some w) h s k = shape_low ds n cells scope t element (UpToZero size) h s k
content_low ds n cells scope t element (Given source) (Some w) h s k = shape_low ds n cells scope t element (Given source) h s k

field_level : (L : ℕ) (fs : List Field) → L ≤ fields_levels L fs
field_level L [] = omega arith
field_level L (f ∷ fs) = (let x = first_level L f.parts in omega (arith, x))

all_low : (ds : List TypeDef) (n : ℕ) (cells scope : List Bound) (L t : ℕ) (fs : List Field) → AreFieldsFormed ds n cells scope fs → length scope ≤ L → fields_levels L fs ≤ t → fields_top L t fs + fields_kept fs ≤ t + 4 + fields_nodes fs
all_low ds n cells scope L t [] h k l = omega arith
all_low ds n cells scope L t (f ∷ fs) h k l =
    let up = field_level L (f ∷ fs) in
    let x = content_low ds n cells scope t f.element f.extent f.copy h.0 h.1.0 (omega (arith, k, up, l)) in
    let y = members_low cells f.element f.extent scope L t f.parts h.1.1.0 k (omega (arith, l)) in
    let g = scope_low f.element f.extent scope f.parts in
    let z = all_low ds n cells (parts_scope f.element f.extent scope f.parts) (length f.parts + L) t fs h.1.1.1 (omega (arith, k, g)) (omega (arith, l)) in
    let few = parts_few f.parts in let few' = fields_few fs in
    omega (arith, x, y, z, few, few')

last_low : (ds : List TypeDef) (n : ℕ) (cells scope : List Bound) (L t : ℕ) (o : Option (List Field)) → IsDefaultFormed ds n cells scope o → length scope ≤ L → default_levels L o ≤ t → default_top L t o + default_kept o ≤ t + 4 + default_nodes o
last_low ds n cells scope L t None h k l = omega arith
last_low ds n cells scope L t (Some fs) h k l = all_low ds n cells scope L t fs h k l

each_low : (ds : List TypeDef) (n : ℕ) (cells scope : List Bound) (L t : ℕ) (cs : List Case) → AreCasesFormed ds n cells scope cs → length scope ≤ L → cases_levels L cs ≤ t → cases_top L t cs + cases_kept cs ≤ t + 4 + cases_nodes cs
each_low ds n cells scope L t [] h k l = omega arith
each_low ds n cells scope L t (c ∷ cs) h k l =
    let x = all_low ds n cells scope L t c.fields h.0 k (omega (arith, l)) in let y = each_low ds n cells scope L t cs h.1 k (omega (arith, l)) in
    let few = fields_few c.fields in let few' = cases_few cs in omega (arith, x, y, few, few')

case_level : (L : ℕ) (cs : List Case) → L ≤ cases_levels L cs
case_level L [] = omega arith
case_level L (c ∷ cs) = (let x = case_level L cs in omega (arith, x))

inside_low : (ds : List TypeDef) (n : ℕ) (cells scope : List Bound) (L t : ℕ) (b : Body) → IsBodyFormed ds n cells scope b → length scope ≤ L → body_levels L b ≤ t → body_top L t b + body_kept b ≤ t + 4 + body_nodes b
inside_low ds n cells scope L t (Struct fs) h k l = all_low ds n cells scope L t fs h k l
inside_low ds n cells scope L t (Casetype e cases o) h k l =
    let up = case_level L cases in
    let x = value_low scope (suc t) e h.0 (omega (arith, k, up, l)) in
    let y = each_low ds n cells scope L t cases h.1.0 k (omega (arith, l)) in
    let z = last_low ds n cells scope L t o h.1.1 k (omega (arith, l)) in
    let few = cases_few cases in let few' = default_few o in
    omega (arith, x, y, z, few, few')

body_level : (L : ℕ) (b : Body) → L ≤ body_levels L b
body_level L (Struct fs) = field_level L fs
body_level L (Casetype e cases o) = (let x = case_level L cases in omega (arith, x))

pub registers_low : (ds : List TypeDef) (n : ℕ) (d : TypeDef) → IsDefinitionFormed ds n d → definition_top (definition_levels d) d ≤ head_nodes d + body_nodes d.body + 5
registers_low ds n d h =
    let t = definition_levels d in
    let scope = param_bounds d.params in
    let count : length scope ≡ length d.params = length-map d.params (λ (p : Param). whole (scalar_of p.width)) in
    let low = body_low (length d.params) d.body in
    let up = body_level (length d.params) d.body in
    let x = test_low scope (suc t) d.guard h.0 (omega (arith, count, up)) in
    let y = inside_low ds n _ scope (length d.params) t d.body h.1 (omega (arith, count)) (omega arith) in
    let few = body_few d.body in
    omega (arith, x, y, low, few)
