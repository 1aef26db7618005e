-- A worked row: one site that two routines name becomes two.
use Rattle.std.proofs.Common.{◌≡◌, ℕ, List, [], ◌∷◌, refl}
use Rattle.td_core.specs.declared.module.NameId.{NameId}
use Rattle.td_ir.specs.declared.instructions.Instr.{Instr}
use Rattle.td_ir.specs.declared.instructions.Instr.TheVariants as i
use Rattle.td_ir.specs.declared.tables.Site.{Site}
use Rattle.td_ir.specs.declared.tables.Routine.{Routine}
use Rattle.td_ir.specs.declared.tables.Parts.{Parts}
use Rattle.td_image_upgrade.specs.Upgrade.{upgraded}
use Rattle.td_image_upgrade.specs.declared.upgrade.TheConstants.{NO_SITE}

abbrev named : ℕ → NameId
named n = record { number = n }

-- names A and f, site (A, f), two routines of `SkipK 1 0`, `Return`
abbrev routine : Routine
routine = record { name = named 0; params = 0; cells = 0; registers = 0; buffers = []; length = 2 }

abbrev site : ℕ → Site
site n = record { ty = named 0; field = named 1; routine = n }

abbrev parts : List Site → List Instr → Parts
parts sites js = record { names = (65 ∷ []) ∷ (102 ∷ []) ∷ []; sites = sites; maps = []; sets = []; routines = routine ∷ routine ∷ []; entries = []; instructions = js }

two_sites : upgraded (parts (site 0 ∷ []) (i.SkipK 1 0 ∷ i.Return ∷ i.SkipK 1 0 ∷ i.Return ∷ [])) ≡ parts (site 0 ∷ site 1 ∷ []) (i.SkipK 1 0 ∷ i.Return ∷ i.SkipK 1 1 ∷ i.Return ∷ [])
two_sites = refl

-- a site that none names is dropped, one that the table hasn't is in no table after upgrading either
dropped : upgraded (parts (site 0 ∷ record { ty = named 1; field = named 1; routine = 0 } ∷ []) (i.SkipK 1 1 ∷ i.Return ∷ i.SkipK 1 2 ∷ i.Fail 0 1 ∷ []))
    ≡ parts (record { ty = named 1; field = named 1; routine = 0 } ∷ record { ty = named 1; field = named 1; routine = 1 } ∷ []) (i.SkipK 1 0 ∷ i.Return ∷ i.SkipK 1 NO_SITE ∷ i.Fail 0 1 ∷ [])
dropped = refl
