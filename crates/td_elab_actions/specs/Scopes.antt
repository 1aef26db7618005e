-- Scopes cut back to what they were, and scopes that have more names than others.
use Rattle.std.specs.Prelude.{◌≡◌, ℕ, List, ◌++◌, take}
use Rattle.td_elab_rules.specs.declared.known.Local.{Local}
use Rattle.td_elab_rules.specs.declared.known.Scope.{Scope}

-- the first names, so many of them, and so many values
abbrev pub cut_back : ℕ → ℕ → Scope → Scope
cut_back names levels s = record { locals = take names s.locals; levels = levels; cells = s.cells; buffers = s.buffers; start = s.start; this = s.this }

-- t has the names of s first, and all else but levels as s
pub record Grows (s t : Scope) : Type 0 where
  pub more : List (List ℕ × Local)
  pub locals : t.locals ≡ s.locals ++ more
  pub cells : t.cells ≡ s.cells
  pub buffers : t.buffers ≡ s.buffers
  pub start : t.start ≡ s.start
  pub this : t.this ≡ s.this
