-- The tables of code have what the numbers that occur in it stand for.
use Rattle.std.specs.Prelude.{◌≡◌, ℕ, suc, ◌+◌, ◌*◌, ◌<◌, slice_index, List, [], ◌∷◌, length, Option, Some, None, slice_get}
use Rattle.td_num.specs.Lists.{is_among}
use Rattle.td_core.specs.Term.{Term}
use Rattle.td_core.specs.declared.module.NameId.{NameId}
use Rattle.td_lower_blocks.specs.Imports.{CopyOut, Part, Field, Case, Body, Struct, Casetype, TypeDef, Module, Element, Number, Listed, Named, Unit as UnitElement, Rest, Zeros, Parts}
use Rattle.td_core.specs.declared.outcome.Spot.{Spot}
use Rattle.td_core.specs.declared.outcome.Spot.TheVariants.{Field as AtField, Where as AtWhere, Switch as AtSwitch}
use Rattle.td_meaning.specs.Meaning.{first_name, values_of}
use Rattle.td_ir.specs.Tables.{routine_of, set_of, cells_by}
use Rattle.td_ir.specs.Run.{place_of_site}
use Rattle.td_lower_blocks.specs.Lowered.{parts_in, first_site}

-- in the code of routine n
module _ (c : Parts) (n : ℕ) where
  -- a named type's cells stand in the table of cell maps, under the number of its site
  abbrev pub Mapped : ℕ → Element → Type 0
  Mapped site (Number type) = Unit {0}
  Mapped site (Listed base v) = Unit {0}
  Mapped site (Named d args own) = cells_by c n d site ≡ own
  Mapped site UnitElement = Unit {0}
  Mapped site Rest = Unit {0}
  Mapped site Zeros = Unit {0}

  -- a copy's buffer is the routine's, with its cells behind the other ones
  abbrev pub Buffered : Option CopyOut → Type 0
  Buffered None = Unit {0}
  Buffered (Some o) = ((routine_of c n).cells + 2 * o.buffer ≡ o.cell) × (slice_index (routine_of c n).buffers o.buffer ≡ o.room)

  module _ (ty : NameId) where
    -- a site's number stands for it
    abbrev pub Sited : ℕ → Spot → Type 0
    Sited site spot = (p : ℕ) → place_of_site c site p ≡ record { ty = ty; field = spot; start = p }

    abbrev pub PartsSited : ℕ → List Part → Type 0
    PartsSited site [] = Unit {0}
    PartsSited site (p ∷ ps) = Sited site (AtField p.name) × PartsSited (suc site) ps

    abbrev pub FieldsSited : ℕ → List Field → Type 0
    FieldsSited site [] = Unit {0}
    FieldsSited site (f ∷ later) =
        Sited site (AtField (first_name f.parts)) × ((Mapped site f.element × Buffered f.copy) × (PartsSited site f.parts × FieldsSited (length f.parts + site) later))

    abbrev pub DefaultSited : (switch site : ℕ) → Option (List Field) → Type 0
    DefaultSited switch site None = Sited switch AtSwitch
    DefaultSited switch site (Some fields) = FieldsSited site fields

    abbrev pub CasesSited : (switch site : ℕ) → List Case → Option (List Field) → Type 0
    CasesSited switch site [] default = DefaultSited switch site default
    CasesSited switch site (c ∷ cs) default = FieldsSited site c.fields × CasesSited switch (parts_in c.fields + site) cs default

    abbrev pub BodySited : (switch site : ℕ) → Body → Type 0
    BodySited switch site (Struct fields) = FieldsSited site fields
    BodySited switch site (Casetype e cases default) = CasesSited switch site cases default

    abbrev pub GuardSited : ℕ → Option Term → Type 0
    GuardSited site None = Unit {0}
    GuardSited site (Some e) = Sited site AtWhere

  abbrev pub DefinitionSited : ℕ → Option TypeDef → Type 0
  DefinitionSited first None = Unit {0}
  DefinitionSited first (Some d) = GuardSited d.name first d.guard × BodySited d.name (first + 1) (first + 2) d.body

-- sites and cell maps are those of the definitions, and a set has the values of its enum
pub record IsTabled (c : Parts) (m : Module) : Type 0 where
  pub sited : (n : ℕ) → n < length m.definitions → DefinitionSited c n (first_site m.definitions n) (slice_get m.definitions n)
  pub listed : (v n : ℕ) → is_among (set_of c v) n ≡ is_among (values_of m.listed v) n
