-- The verifier accepts the code of a module. Cited by other crates.
use Rattle.std.proofs.Common.{◌≡◌, ℕ, zero, suc, ◌+◌, ◌-◌, ◌<◌, ◌≤◌, max, List, [], ◌∷◌, Bool, true, nat_lt, length, slice_get, Option, Some, None, sym, ap, subst, ◌∙◌, arith}
use Rattle.std.proofs.lemmas.Bool.Decides.{nat_tests}
use Rattle.td_num.specs.Lists.{Each}
use Rattle.td_verify_lowered.specs.Imports.{Field, Case, Body as BodyDef, Struct as StructDef, Casetype as CasetypeDef, TypeDef, Module, Parts}
use Rattle.td_core.specs.Formed.{param_bounds}
use Rattle.td_core.specs.Copies.{IsDefinitionCopying}
use Rattle.td_core.specs.WellFormed.{OfSome, EachField, HasParts, IsFieldWhole}
use Rattle.td_core.specs.Weights.{definition_depth, body_depth, depth_of, definition_weight, weight_of, below_by, either_number}
use Rattle.td_kinds.specs.Kinds.{kinds_below, definition_kind, body_kind}
use Rattle.td_kinds.specs.KindRules.{kinds_of}
use Rattle.td_ir.specs.Tables.{routine_of, first_of, end_of}
use Rattle.td_verify.specs.Safe.{before}
use Rattle.td_verify.specs.Verify.{IsSound}
use Rattle.td_lower_blocks.specs.Block.{Stands, size}
use Rattle.td_lower_blocks.specs.Constructs.{Body, Struct, End, body}
use Rattle.td_lower_blocks.specs.Lowered.{definition_body, definition_block, block_of, sites_in, body_parts, first_site}
use Rattle.td_lower_blocks.specs.Laid.{IsLaid, rooms}
use Rattle.td_lower_blocks.specs.Tabled.{DefinitionSited, IsTabled}
use Rattle.td_lower_blocks.specs.Placed.{IsPlaced, HasPlaced, ArePlaced, params_of}
use Rattle.td_verify_lowered.specs.Weights.{body_weight, body_least}
use Rattle.td_verify_lowered.specs.Good.{GoodBody}
use Rattle.td_verify_lowered.proofs.Fit.{BodyFits}
use Rattle.td_verify_lowered.specs.Laws.{IsLowered}
use Rattle.td_verify_lowered.specs.Modules.{IsSupplied, IsAdmissible}
use Rattle.td_verify_lowered.proofs.Goods.{good_definition}
use Rattle.td_verify_lowered.proofs.Measured.{definition_light}
use Rattle.td_verify_lowered.proofs.Least.{definition_more}
use Rattle.td_verify_lowered.proofs.Fitting.{body_fits, has_parts}
use Rattle.td_verify_lowered.proofs.Lowered.{lowered_sound, routine_light}
use Rattle.td_num.proofs.Equals.{equal_itself as alike, unequal_below as unlike}
use Rattle.td_num.proofs.Lists.{got, each_at}
use Rattle.td_kinds.proofs.Listing.{below_last as at_kinds, below_more}
use Rattle.td_kinds.proofs.Faultless.{faults_at}

fields_have : (count : ℕ) (fs : List Field) → Each (IsFieldWhole count) fs → Each (λ f. HasParts f.parts) fs
fields_have count [] h = tt
fields_have count (f ∷ fs) h = (has_parts f.element f.extent f.parts h.0.parts, fields_have count fs h.1)

cases_have : (count : ℕ) (cs : List Case) → Each (λ c. Each (IsFieldWhole count) c.fields) cs → Each (λ c. Each (λ f. HasParts f.parts) c.fields) cs
cases_have count [] h = tt
cases_have count (c ∷ cs) h = (fields_have count c.fields h.0, cases_have count cs h.1)

default_has : (count : ℕ) (o : Option (List Field)) → OfSome (Each (IsFieldWhole count)) o → OfSome (Each (λ f. HasParts f.parts)) o
default_has count None h = tt
default_has count (Some fs) h = fields_have count fs h

body_has : (count : ℕ) (b : BodyDef) → EachField (IsFieldWhole count) b → EachField (λ f. HasParts f.parts) b
body_has count (StructDef fs) h = fields_have count fs h
body_has count (CasetypeDef e cases o) h = (cases_have count cases h.0, default_has count o h.1)

-- what is told of a definition by those below it
lower_by : (of : (ℕ → ℕ) → Option TypeDef → ℕ) (ds : List TypeDef) (n k j : ℕ) → j < n → below_by of ds (n + k) j ≡ below_by of ds n j
unfolding below_by
lower_by of ds n zero j h = (let e : n + 0 ≡ n = omega arith in ap (λ x. below_by of ds x j) e)
lower_by of ds n (suc k) j h =
    let e : n + suc k ≡ suc (n + k) = omega arith in
    ap (λ x. below_by of ds x j) e
    ∙ (ap (λ b. either_number b (of (below_by of ds (n + k)) (slice_get ds (n + k))) (below_by of ds (n + k) j)) (unlike j (n + k) (omega arith)) ∙ lower_by of ds n k j h)

at_by : (of : (ℕ → ℕ) → Option TypeDef → ℕ) (ds : List TypeDef) (n : ℕ) → below_by of ds (suc n) n ≡ of (below_by of ds n) (slice_get ds n)
unfolding below_by
at_by of ds n = ap (λ b. either_number b (of (below_by of ds n) (slice_get ds n)) (below_by of ds n n)) (alike n)

whole_by : (of : (ℕ → ℕ) → Option TypeDef → ℕ) (ds : List TypeDef) (n : ℕ) → n < length ds → below_by of ds (length ds) n ≡ of (below_by of ds n) (slice_get ds n)
whole_by of ds n h =
    let e : length ds ≡ suc n + (length ds - suc n) = omega arith in
    ap (λ x. below_by of ds x n) e ∙ (lower_by of ds (suc n) (length ds - suc n) n (omega arith) ∙ at_by of ds n)

same_by : (of : (ℕ → ℕ) → Option TypeDef → ℕ) (ds : List TypeDef) (n j : ℕ) → n ≤ length ds → j < n → below_by of ds (length ds) j ≡ below_by of ds n j
same_by of ds n j h l =
    let e : length ds ≡ n + (length ds - n) = omega arith in
    ap (λ x. below_by of ds x j) e ∙ lower_by of ds n (length ds - n) j l

whole_kinds : (ds : List TypeDef) (n : ℕ) → n < length ds → kinds_below ds (length ds) n ≡ definition_kind (kinds_below ds n) (slice_get ds n)
whole_kinds ds n h =
    let e : length ds ≡ suc n + (length ds - suc n) = omega arith in
    ap (λ x. kinds_below ds x n) e ∙ (below_more ds (suc n) (length ds - suc n) n (omega arith) ∙ at_kinds ds n)

same_kinds : (ds : List TypeDef) (n j : ℕ) → n ≤ length ds → j < n → kinds_below ds (length ds) j ≡ kinds_below ds n j
same_kinds ds n j h l =
    let e : length ds ≡ n + (length ds - n) = omega arith in
    ap (λ x. kinds_below ds x j) e ∙ below_more ds n (length ds - n) j l

-- sites of earlier definitions stand before
pub sites_up : (ds : List TypeDef) (n k : ℕ) → first_site ds n ≤ first_site ds (n + k)
sites_up ds n zero = (let e : n + 0 ≡ n = omega arith in subst (λ x. first_site ds n ≤ first_site ds x) (sym e) (omega arith))
sites_up ds n (suc k) = (let e : n + suc k ≡ suc (n + k) = omega arith in let h = sites_up ds n k in subst (λ x. first_site ds n ≤ first_site ds x) (sym e) (omega (arith, h)))

pub last_site : (ds : List TypeDef) (n : ℕ) (d : TypeDef) → n < length ds → slice_get ds n ≡ Some d → first_site ds n + 2 + body_parts d.body ≤ first_site ds (length ds)
last_site ds n d h e =
    let k : suc n + (length ds - suc n) ≡ length ds = omega arith in
    let u : first_site ds (suc n) ≤ first_site ds (length ds) = subst (λ x. first_site ds (suc n) ≤ first_site ds x) k (sites_up ds (suc n) (length ds - suc n)) in
    let s : first_site ds (suc n) ≡ first_site ds n + (2 + body_parts d.body) = ap (λ o. first_site ds n + sites_in o) e in
    omega (arith, u, s)

-- the bodies of the definitions
abbrev body_at : (first t : ℕ) → Option TypeDef → Body
body_at first t None = Struct End
body_at first t (Some d) = definition_body first t d

module _ (c : Parts) (units : ℕ → ℕ) (m : Module) (a : IsAdmissible m) (l : IsLaid c units m) (s : IsTabled c m) (p : ArePlaced c units m) (q : IsSupplied c m) where
  abbrev bodies : ℕ → Body
  bodies n = body_at (first_site m.definitions n) (units n) (slice_get m.definitions n)

  abbrev depth : ℕ → ℕ
  depth n = max 1 (depth_of m.definitions n)

  abbrev least : ℕ → ℕ
  least n = (kinds_of m n).least

  abbrev busy : ℕ → Bool
  busy n = nat_lt 0 (kinds_of m n).least

  placed_at : (n : ℕ) (d : TypeDef) → n < length m.definitions → slice_get m.definitions n ≡ Some d → IsPlaced m.definitions n (routine_of c n).registers (units n) d
  placed_at n d h e = subst (HasPlaced m.definitions n (routine_of c n).registers (units n)) e (p n h)

  sited_at : (n : ℕ) (d : TypeDef) → n < length m.definitions → slice_get m.definitions n ≡ Some d → DefinitionSited c n (first_site m.definitions n) (Some d)
  sited_at n d h e = subst (DefinitionSited c n (first_site m.definitions n)) e (s.sited n h)

  body_is : (n : ℕ) (d : TypeDef) → slice_get m.definitions n ≡ Some d → bodies n ≡ definition_body (first_site m.definitions n) (units n) d
  body_is n d e = ap (body_at (first_site m.definitions n) (units n)) e

  block_is : (n : ℕ) (d : TypeDef) → slice_get m.definitions n ≡ Some d → block_of units m.definitions n ≡ body (bodies n)
  block_is n d e = ap (definition_block (first_site m.definitions n) (units n)) e ∙ sym (ap body (body_is n d e))

  some_deep : (n : ℕ) → n < length m.definitions → (d : TypeDef) → slice_get m.definitions n ≡ Some d → depth_of m.definitions n ≡ suc (body_depth (below_by definition_depth m.definitions n) d.body)
  some_deep n h d e = whole_by definition_depth m.definitions n h ∙ ap (definition_depth (below_by definition_depth m.definitions n)) e

  deeper : (n j : ℕ) → n ≤ length m.definitions → j < n → depth j ≤ below_by definition_depth m.definitions n j
  deeper n j h k =
      let x = got m.definitions j (omega (arith, h, k)) in
      let y = some_deep j (omega (arith, h, k)) x.0 x.1 in
      let z = same_by definition_depth m.definitions n j h k in
      omega (arith, y, z)

  theirs : (n j : ℕ) → n ≤ length m.definitions → j < n
      → (e : TypeDef) × ((slice_get m.definitions j ≡ Some e) × (((routine_of c j).cells ≡ length e.cells) × ((routine_of c j).buffers ≡ rooms e.buffers)))
  theirs n j h k =
      let x = got m.definitions j (omega (arith, h, k)) in
      (x.0, (x.1, (l.cells j x.0 x.1, l.buffers j x.0 x.1)))

  fits_at : (n : ℕ) (d : TypeDef) → n < length m.definitions → slice_get m.definitions n ≡ Some d → BodyFits c depth busy n (first_site m.definitions n + 2) d.body
  fits_at n d h e =
      let deep = some_deep n h d e in
      body_fits c depth n m.definitions d (length m.listed) (below_by definition_depth m.definitions n) (kinds_of m)
      (l.cells n d e) (l.buffers n d e) (λ j k. theirs n j (omega (arith, h)) k) q.sets (λ j k. deeper n j (omega (arith, h)) k)
      d.name (first_site m.definitions n + 1) (first_site m.definitions n + 2) (param_bounds d.params) d.body
      (a.formed n d e).1 (each_at (λ x. EachField (IsFieldWhole (length m.listed)) x.body) m.definitions n d a.fields e) (each_at (IsDefinitionCopying m.definitions) m.definitions n d a.copying e).fields (sited_at n d h e).1 (faults_at (kinds_of m) m.definitions n d a.kinds e) (omega (arith, deep))

  have_at : (n : ℕ) (d : TypeDef) → slice_get m.definitions n ≡ Some d → EachField (λ f. HasParts f.parts) d.body
  have_at n d e = body_has (length m.listed) d.body (each_at (λ x. EachField (IsFieldWhole (length m.listed)) x.body) m.definitions n d a.fields e)

  good_at : (n : ℕ) → n < length m.definitions → GoodBody c depth busy n (bodies n)
  good_at n h =
      let x = got m.definitions n h in
      let d = x.0 in
      let w = placed_at n d h x.1 in
      let s : first_site m.definitions (suc n) ≡ first_site m.definitions n + (2 + body_parts d.body) = ap (λ o. first_site m.definitions n + sites_in o) x.1 in
      subst (GoodBody c depth busy n) (sym (body_is n d x.1))
      (good_definition c depth busy n (units n) (params_of m.definitions) q.maps (λ j k. l.params j (omega (arith, h, k))) w.room
      (first_site m.definitions n) (first_site m.definitions (suc n)) (λ k. q.sites n k h) m.definitions (first_site m.definitions n) d w.guard w.inside
      (fits_at n d h x.1) (have_at n d x.1) (omega arith, omega (arith, s)))

  weight_at : (n : ℕ) → n < length m.definitions → body_weight (weight_of m.definitions) (bodies n) ≤ weight_of m.definitions n
  weight_at n h =
      let x = got m.definitions n h in
      let d = x.0 in
      let w = placed_at n d h x.1 in
      let E = below_by definition_weight m.definitions n in
      let own = whole_by definition_weight m.definitions n h ∙ ap (definition_weight E) x.1 in
      let z = definition_light (weight_of m.definitions) E n (params_of m.definitions) (λ j k. (let y = same_by definition_weight m.definitions n j (omega (arith, h)) k in omega (arith, y)))
      (routine_of c n).registers (units n) (first_site m.definitions n) d w.inside (have_at n d x.1) in
      let f = ap (body_weight (weight_of m.definitions)) (body_is n d x.1) in
      omega (arith, own, z, f)

  bytes_at : (n : ℕ) → n < length m.definitions → busy n ≡ true → 1 ≤ body_least least (bodies n)
  bytes_at n h is =
      let x = got m.definitions n h in
      let d = x.0 in
      let w = placed_at n d h x.1 in
      let K = kinds_below m.definitions n in
      let own : (kinds_of m n).least ≡ (body_kind K d.body).least = ap (λ k. k.least) (whole_kinds m.definitions n h) ∙ ap (λ o. (definition_kind K o).least) x.1 in
      let some : 1 ≤ (kinds_of m n).least = grind (arith, nat_tests, is) in
      let z = definition_more K least n (params_of m.definitions) (λ j k g. (let y = ap (λ v. v.least) (same_kinds m.definitions n j (omega (arith, h)) k) in omega (arith, y, g)))
      (routine_of c n).registers (units n) (first_site m.definitions n) d w.inside (omega (arith, own, some)) in
      let f = ap (body_least least) (body_is n d x.1) in
      omega (arith, z, f)

  told : (j : ℕ) → 1 ≤ least j → busy j ≡ true
  told j h = grind (arith, nat_tests, h)

  lowered : IsLowered c bodies depth (weight_of m.definitions) least busy
  lowered = record {
    stands = λ n h. (let k = l.count in let x = got m.definitions n (omega (arith, h, k)) in subst (Stands c (first_of c n) 0) (block_is n x.0 x.1) (l.stands n (omega (arith, h, k))));
    sizes = λ n h. (let k = l.count in let x = got m.definitions n (omega (arith, h, k)) in l.sizes n (omega (arith, h, k)) ∙ ap size (block_is n x.0 x.1));
    good = λ n h. (let k = l.count in good_at n (omega (arith, h, k)));
    shallow = λ n h. (let k = a.depth n in omega (arith, k));
    some_depth = λ n. omega arith;
    weights = λ n h. (let k = l.count in weight_at n (omega (arith, h, k)));
    light = λ n h. (let k = a.weight n in omega (arith, k));
    bytes = λ n h. (let k = l.count in bytes_at n (omega (arith, h, k)));
    tells = told;
  }

  pub accepted : IsSound c
  accepted = lowered_sound c bodies depth (weight_of m.definitions) least busy lowered

  pub light : (n : ℕ) → n < length c.routines → before c n (end_of c n) ≤ weight_of m.definitions n
  light n h = routine_light c bodies depth (weight_of m.definitions) least busy lowered n h
