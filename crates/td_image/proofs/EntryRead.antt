-- An entry point is read as its parts are, one behind the other.
use Rattle.std.proofs.Common.{◌≡◌, ℕ, List, length, Ok, refl}
use Rattle.td_image.specs.Imports.{NameId, Param, Cell, Routine}
use Rattle.td_image.specs.declared.fault.ReadError.{ReadError}
use Rattle.td_image.specs.declared.fault.ReadError.TheVariants as errors
use Rattle.td_image.specs.Format.{times}
use Rattle.td_image.specs.Image.{place, name_place, param, cell, routine_of, entry}
use Rattle.td_image.specs.Reading.{Ends}

module _ (names : ℕ) (routines : List Routine) (bytes a b c : List ℕ) (n : ℕ) (params : List Param) (cells : List Cell) (routine_is : (place (length routines)).read bytes ≡ Ok (n, a))
    (params_are : (times ((routine_of routines n).params) (param names)).read a ≡ Ok (params, b)) (cells_are : (times ((routine_of routines n).cells) (cell names)).read b ≡ Ok (cells, c)) where
  pub entry_read : (buffers : List NameId) (rest : List ℕ) → (times (length (routine_of routines n).buffers) (name_place names)).read c ≡ Ok (buffers, rest)
      → (entry names routines).read bytes ≡ Ok (record { routine = n; params = params; cells = cells; buffers = buffers }, rest)
  unfolding entry
  entry_read buffers rest buffers_are = rw (routine_is, params_are, cells_are, buffers_are) refl

  pub entry_ends : (e : ReadError) → Ends e ((times (length (routine_of routines n).buffers) (name_place names)).read c) → Ends e ((entry names routines).read bytes)
  unfolding entry
  entry_ends errors.NoMemory h = tt
  entry_ends (errors.Fault fault) h = rw (routine_is, params_are, cells_are, h) refl
