-- Code in which instructions of several routines may name one site, upgraded to code in which each site is one routine's (own
-- rule: routine after routine, a site for each old site that its instructions name, in the order of first use).
use Rattle.std.specs.Prelude.{ℕ, zero, suc, ◌+◌, cond, List, [], ◌∷◌, ◌++◌, Option, Some, None, length, map, nat_eq, nat_lt, slice_range}
use Rattle.std.specs.List.{position_or_len}
use Rattle.td_names.specs.Numbers.{with_number}
use Rattle.td_ir.specs.declared.instructions.Instr.{Instr}
use Rattle.td_ir.specs.declared.instructions.Instr.TheVariants as i
use Rattle.td_ir.specs.declared.tables.Site.{Site}
use Rattle.td_ir.specs.declared.tables.Parts.{Parts}
use Rattle.td_ir.specs.Fields.{named}
use Rattle.td_ir.specs.Tables.{site_of, first_of, end_of}
use Rattle.td_image_upgrade.specs.declared.upgrade.TheConstants.{NO_SITE}

-- an instruction whose site has another number
abbrev pub renumbered : (ℕ → ℕ) → Instr → Instr
renumbered g (i.Call first routine map site) = i.Call first routine map (g site)
renumbered g (i.Fetch into order width site) = i.Fetch into order width (g site)
renumbered g (i.SkipK bytes site) = i.SkipK bytes (g site)
renumbered g (i.Skip size site) = i.Skip size (g site)
renumbered g (i.Zeros site) = i.Zeros (g site)
renumbered g (i.Zeroterm bound width site) = i.Zeroterm bound width (g site)
renumbered g (i.NarrowK bytes site) = i.NarrowK bytes (g site)
renumbered g (i.Narrow size site) = i.Narrow size (g site)
renumbered g (i.Divides size step site) = i.Divides size step (g site)
renumbered g (i.Widen site) = i.Widen (g site)
renumbered g (i.Fail reason site) = i.Fail reason (g site)
renumbered g (i.Copy size buffer site) = i.Copy size buffer (g site)
renumbered g j = j

-- one more site at the end, where there is one, the table has it, and it isn't there yet
abbrev pub with_used : ℕ → List ℕ → Option ℕ → List ℕ
with_used old used None = used
with_used old used (Some k) = cond (nat_lt k old) (with_number used k) used

-- the sites that instructions name, of a table of so many, each once, in the order of first use
abbrev pub used_in : ℕ → List ℕ → List Instr → List ℕ
used_in old used [] = used
used_in old used (j ∷ js) = used_in old (with_used old used (named j)) js

-- the instructions of routine n, and the old sites that they name
abbrev pub routine_code : Parts → ℕ → List Instr
routine_code c n = slice_range c.instructions (first_of c n) (end_of c n)

abbrev pub used_by : Parts → ℕ → List ℕ
used_by c n = used_in (length c.sites) [] (routine_code c n)

-- an old site as routine n's, the sites of routine n, and those of the routines below n
abbrev pub own_site : Parts → (n k : ℕ) → Site
own_site c n k = record { ty = (site_of c k).ty; field = (site_of c k).field; routine = n }

abbrev pub own_sites : Parts → ℕ → List Site
own_sites c n = map (own_site c n) (used_by c n)

abbrev pub sites_below : Parts → ℕ → List Site
sites_below c zero = []
sites_below c (suc n) = sites_below c n ++ own_sites c n

-- the new number of an old site in routine n; that of a site that the old table hasn't is in no table
abbrev pub new_number : (old base : ℕ) → List ℕ → ℕ → ℕ
new_number old base used k = cond (nat_lt k old) (base + position_or_len (nat_eq k) used) NO_SITE

abbrev pub number_in : Parts → (n k : ℕ) → ℕ
number_in c n k = new_number (length c.sites) (length (sites_below c n)) (used_by c n) k

abbrev pub own_code : Parts → ℕ → List Instr
own_code c n = map (renumbered (number_in c n)) (routine_code c n)

abbrev pub code_below : Parts → ℕ → List Instr
code_below c zero = []
code_below c (suc n) = code_below c n ++ own_code c n

abbrev pub upgraded : Parts → Parts
upgraded c = record c { sites = sites_below c (length c.routines); instructions = code_below c (length c.routines) }
