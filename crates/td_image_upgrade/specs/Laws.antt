-- What holds of upgraded code.
use Rattle.std.specs.Prelude.{◌≡◌, ℕ, ◌<◌, ◌≤◌, List, length}
use Rattle.td_core.specs.declared.module.Entry.{Entry}
use Rattle.td_ir.specs.declared.tables.Parts.{Parts}
use Rattle.td_ir.specs.Tables.{site_of, lengths_of, begin}
use Rattle.td_ir.specs.Run.{run}
use Rattle.td_ir.specs.WellFormed.{IsName, AreRoutines, AreEntries, AreSets, IsCode}
use Rattle.td_image_upgrade.specs.declared.upgrade.TheConstants.{NO_SITE}
use Rattle.td_image_upgrade.specs.Upgrade.{upgraded}

-- the routines divide the instructions, which are few enough that each may have a site of its own
pub record IsDivided (c : Parts) : Type 0 where
  pub whole : begin (lengths_of c) (length c.routines) ≡ length c.instructions
  pub few : length c.instructions ≤ NO_SITE

-- code does the same before and after upgrading: the same outcome, with the same frames, places and steps
abbrev pub SameRun : Type 0
SameRun = (c : Parts) → IsDivided c → (entry : Entry) (args cells message : List ℕ) → run (upgraded c) entry args cells message ≡ run c entry args cells message

-- tables that fit together, whatever routines their sites name
pub record IsOldCode (c : Parts) : Type 0 where
  pub sites : (k : ℕ) → k < length c.sites → IsName (length c.names) (site_of c k).ty × IsName (length c.names) (site_of c k).field
  pub routines : AreRoutines c (length c.routines)
  pub entries : AreEntries c (length c.entries)
  pub sets : AreSets c (length c.sets)

-- upgraded, they fit together
abbrev pub UpgradedIsCode : Type 0
UpgradedIsCode = (c : Parts) → IsDivided c → IsOldCode c → IsCode (upgraded c)
