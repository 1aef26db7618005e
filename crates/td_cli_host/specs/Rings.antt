-- By which module of descriptors the rings of a job are read (own rule): by that for which the text RING stands, where it is one of
-- descriptors.
use Rattle.std.specs.Prelude.{◌≡◌, ℕ, true, List, [], ◌∷◌, Option, Some, None}
use Rattle.std.specs.Option.{option_map}
use Rattle.td_core.specs.declared.module.Module.{Module}
use Rattle.td_core.specs.declared.module.Entry.{Entry}
use Rattle.td_front.specs.ModuleText.{IsModuleText}
use Rattle.td_posts.specs.declared.ring.RingJob.{RingJob}
use Rattle.td_formats.specs.declared.ring.TheConstants.{RING}
use Rattle.td_descr.specs.Shape.{has_ring_shape}
use Rattle.td_descr.specs.Ring.{desc_entry}

-- the bytes of that text
unfoldable pub ring_bytes : List ℕ
ring_bytes = RING.now

-- they stand for this module, and it is one of descriptors
abbrev pub IsRingModule : Module → Type 0
IsRingModule m = IsModuleText ring_bytes m × (has_ring_shape m ≡ true)

-- there is such a module, where there are rings
abbrev pub RingsAreRead : List RingJob → Type 0
RingsAreRead [] = Unit {0}
RingsAreRead (ring ∷ rings) = (m : Module) × IsRingModule m

-- there is none, and there are rings
abbrev pub NoRingModule : List RingJob → Type 0
NoRingModule [] = ⊥
NoRingModule (ring ∷ rings) = (m : Module) → IsRingModule m → ⊥

-- what is given where there are rings is this module, and else nothing
abbrev pub IsRingOf : List RingJob → Module → Option Module → Type 0
IsRingOf [] m ring = ring ≡ None
IsRingOf (r ∷ rings) m ring = IsRingModule m × (ring ≡ Some m)

-- with the entry point of descriptors
abbrev pub descriptor_entry : Option Module → Option (Module × Entry)
descriptor_entry ring = option_map (λ m. (m, desc_entry)) ring
