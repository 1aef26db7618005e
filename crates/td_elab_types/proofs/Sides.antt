-- Arguments and parameters side by side.
use Rattle.std.proofs.Common.{◌≡◌, ℕ, suc, ◌+◌, ◌<◌, arith, Some, None, inl, inr, drop, Bool, false, ◌&&◌, nat_le, List, [], ◌∷◌, ◌++◌, length, slice_get, is_some, refl, sym, ap, ◌∙◌}
use Rattle.std.proofs.lemmas.Option.{none-some, slice_get_within, slice_get_cases, get_or_from_slice_get}
use Rattle.std.proofs.lemmas.Bool.{and_right}
use Rattle.td_ast.specs.Trees.{Tree}
use Rattle.td_core.specs.Term.{Term}
use Rattle.td_core.specs.declared.module.Buffer.{Buffer}
use Rattle.td_core.specs.declared.module.Cell.{Cell}
use Rattle.td_core.specs.declared.module.CellKind.{CellKind}
use Rattle.td_core.specs.declared.module.Param.{Param}
use Rattle.td_elab_rules.specs.declared.known.Parameter.{Parameter}
use Rattle.td_elab_rules.specs.declared.known.Parameter.TheVariants.{Value, Cells, Buffer as BufferOf}
use Rattle.td_elab_rules.specs.declared.known.Known.{Known}
use Rattle.td_elab_rules.specs.declared.known.Scope.{Scope}
use Rattle.td_elab_rules.specs.Types.{cells_named, buffer_named, are_applied, args_breaches, args_core, args_cells, args_buffers, fits_params, is_kind, fits_cells, has_room, fits_buffers}
use Rattle.td_core.specs.Types.{bits, type_of}
use Rattle.td_core.specs.Formed.{scalar_of}
use Rattle.td_elab_types.specs.Runs.{term_of, arg_breaches, cells_of, buffer_of}
use Rattle.td_num.proofs.Truths.{all_dropped as done}
use Rattle.td_num.proofs.Lists.{drop_next as split}

with_false : (a b : Bool) → false ≡ b → false ≡ (a && b)
with_false a b e = sym (and_right a false refl) ∙ ap (λ c. a && c) e

-- of two lists of unlike lengths nothing fits
pub unlike_applied : (k : Known) (s : Scope) (ps : List Parameter) (es : List Tree) → (length ps ≡ length es → ⊥) → false ≡ are_applied k s ps es
unlike_applied k s [] [] h = absurd (h refl)
unlike_applied k s [] (e ∷ es) h = refl
unlike_applied k s (p ∷ ps) [] h = refl
unlike_applied k s (p ∷ ps) (e ∷ es) h = by p (unlike_applied k s ps es (λ same. h (ap suc same)))
  where
    by : (p : Parameter) → false ≡ are_applied k s ps es → false ≡ are_applied k s (p ∷ ps) (e ∷ es)
    by (Value w) rest = rest
    by (Cells t) rest = with_false (is_some (cells_named k s t e)) (are_applied k s ps es) rest
    by (BufferOf room) rest = with_false (is_some (buffer_named k s room e)) (are_applied k s ps es) rest

pub unlike_params : (ps : List Param) (es : List Term) → (length ps ≡ length es → ⊥) → false ≡ fits_params ps es
unlike_params [] [] h = absurd (h refl)
unlike_params [] (e ∷ es) h = refl
unlike_params (p ∷ ps) [] h = refl
unlike_params (p ∷ ps) (e ∷ es) h = with_false (nat_le (bits (type_of e)) (bits (scalar_of p.width))) (fits_params ps es) (unlike_params ps es (λ same. h (ap suc same)))

pub unlike_cells : (own : List CellKind) (cs : List Cell) (ns : List ℕ) → (length cs ≡ length ns → ⊥) → false ≡ fits_cells own cs ns
unlike_cells own [] [] h = absurd (h refl)
unlike_cells own [] (n ∷ ns) h = refl
unlike_cells own (c ∷ cs) [] h = refl
unlike_cells own (c ∷ cs) (n ∷ ns) h = with_false (is_kind (slice_get own n) c.kind) (fits_cells own cs ns) (unlike_cells own cs ns (λ same. h (ap suc same)))

pub unlike_buffers : (own : List ℕ) (bs : List Buffer) (ns : List ℕ) → (length bs ≡ length ns → ⊥) → false ≡ fits_buffers own bs ns
unlike_buffers own [] [] h = absurd (h refl)
unlike_buffers own [] (n ∷ ns) h = refl
unlike_buffers own (b ∷ bs) [] h = refl
unlike_buffers own (b ∷ bs) (n ∷ ns) h = with_false (has_room (slice_get own n) b.room) (fits_buffers own bs ns) (unlike_buffers own bs ns (λ same. h (ap suc same)))

-- one argument, and those after it
pub core_step : (k : Known) (s : Scope) (p : Parameter) (ps : List Parameter) (e : Tree) (es : List Tree) → args_core k s (p ∷ ps) (e ∷ es) ≡ term_of k s p e ++ args_core k s ps es
core_step k s (Value w) ps e es = refl
core_step k s (Cells t) ps e es = refl
core_step k s (BufferOf room) ps e es = refl

pub breaches_step : (k : Known) (s : Scope) (p : Parameter) (ps : List Parameter) (e : Tree) (es : List Tree) → args_breaches k s (p ∷ ps) (e ∷ es) ≡ arg_breaches k s p e ++ args_breaches k s ps es
breaches_step k s (Value w) ps e es = refl
breaches_step k s (Cells t) ps e es = refl
breaches_step k s (BufferOf room) ps e es = refl

pub cells_step : (k : Known) (s : Scope) (p : Parameter) (ps : List Parameter) (e : Tree) (es : List Tree) → args_cells k s (p ∷ ps) (e ∷ es) ≡ cells_of k s p e ++ args_cells k s ps es
cells_step k s (Value w) ps e es = refl
cells_step k s (Cells t) ps e es = refl
cells_step k s (BufferOf room) ps e es = refl

pub buffers_step : (k : Known) (s : Scope) (p : Parameter) (ps : List Parameter) (e : Tree) (es : List Tree) → args_buffers k s (p ∷ ps) (e ∷ es) ≡ buffer_of k s p e ++ args_buffers k s ps es
buffers_step k s (Value w) ps e es = refl
buffers_step k s (Cells t) ps e es = refl
buffers_step k s (BufferOf room) ps e es = refl

-- no argument is left
pub core_out : (k : Known) (s : Scope) (ps : List Parameter) → args_core k s ps [] ≡ []
core_out k s [] = refl
core_out k s (p ∷ ps) = refl

pub breaches_out : (k : Known) (s : Scope) (ps : List Parameter) → args_breaches k s ps [] ≡ []
breaches_out k s [] = refl
breaches_out k s (p ∷ ps) = refl

pub cells_out : (k : Known) (s : Scope) (ps : List Parameter) → args_cells k s ps [] ≡ []
cells_out k s [] = refl
cells_out k s (p ∷ ps) = refl

pub buffers_out : (k : Known) (s : Scope) (ps : List Parameter) → args_buffers k s ps [] ≡ []
buffers_out k s [] = refl
buffers_out k s (p ∷ ps) = refl

-- where a copy buffer is handed on there is an argument
pub some_argument : (k : Known) (s : Scope) (ps : List Parameter) (es : List Tree) → 0 < length (args_buffers k s ps es) → 0 < length es
some_argument k s ps [] h = let e = ap length (buffers_out k s ps) in absurd (omega (arith, h, e))
some_argument k s ps (x ∷ es) h = omega arith

-- a parameter, and those after it
pub next_at : {A : Type 0} (xs : List A) (i : ℕ) (x : A) → Some x ≡ slice_get xs i → drop i xs ≡ x ∷ drop (i + 1) xs
next_at xs i x e = split xs i x (slice_get_within xs i x (sym e)) (sym (get_or_from_slice_get xs i x x (sym e)))

-- no parameter is left
pub none_at : {A : Type 0} (xs : List A) (i : ℕ) → None ≡ slice_get xs i → drop i xs ≡ []
none_at xs i e = elim (slice_get_cases xs i).1 [
  | inl (x, h, is, same) ↦ absurd (none-some x (e ∙ is))
  | inr (h, is) ↦ done xs i h
]
