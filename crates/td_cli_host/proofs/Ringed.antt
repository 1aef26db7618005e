-- The module of descriptors, and the readers of rings by it.
use Rattle.std.proofs.Common.{◌≡◌, ◌⊎◌, inl, inr, ℕ, ◌+◌, ◌<◌, ◌^◌, Bool, true, false, List, [], ◌∷◌, ◌++◌, length, Some, None, refl, sym, ap, ◌∙◌, subst, arith}
use Rattle.std.specs.Prelude.{Result, Ok, Err, IfOk}
use Rattle.std.specs.List.{All}
use Rattle.std.proofs.lemmas.Bool.{false≢true}
use Rattle.std.proofs.lemmas.List.Elements.{All-weaker}
use Rattle.td_num.specs.Lists.{AreBytes}
use Rattle.td_num.proofs.Truths.{both_true}
use Rattle.td_core.specs.declared.module.Module.{Module}
use Rattle.td_arith.specs.Laws.{EvaluatedIsSound}
use Rattle.td_arith.proofs.Entering.{entry_is_sound}
use Rattle.td_front.specs.ModuleText.{IsModuleText}
use Rattle.td_front.specs.Checked.{IsChecked}
use Rattle.td_front.specs.Laws.{AlwaysOne, OneModuleEach, NeverBoth}
use Rattle.td_formats.specs.declared.ring.TheConstants.{RING}
use Rattle.td_posts.specs.declared.ring.RingJob.{RingJob}
use Rattle.td_posts.specs.Servable.{IsRingWithin}
use Rattle.td_ir.specs.declared.tables.Parts.{Parts}
use Rattle.td_lower_means.specs.CodeRun.{IsCodeOf, ArgumentsFit}
use Rattle.td_descr.specs.Ring.{desc_entry, desc_args, desc_cells, IsRingCode, IsDescSoundOn, ReaderView}
use Rattle.td_descr.specs.Shape.{is_first, is_only, has_ring_shape, ShapeAcceptsWithin, ShapeFits, ShapeHasNoBuffers}
use Rattle.td_host.specs.Gathered.{IsReaderOf, AreReadersOf}
use Rattle.td_cli_host.specs.Rings.{ring_bytes, IsRingModule, RingsAreRead, IsRingOf, NoRingModule}

-- ---- the module

-- a module of that shape has the entry point of descriptors
first_entry : (entries : List ℕ) → is_first entries ≡ true → 0 < length entries
first_entry [] h = absurd (false≢true h)
first_entry (e ∷ es) h = omega arith

pub entry_there : (m : Module) → has_ring_shape m ≡ true → 0 < length m.entries
entry_there m shape = first_entry m.entries (both_true (is_first m.entries) (is_only m.definitions) shape).0

-- what is known below of modules of that shape
pub record Below : Type 0 where
  pub sound : EvaluatedIsSound
  pub arguments : ArgumentsFit
  pub fits : ShapeFits
  pub within : ShapeAcceptsWithin
  pub none : ShapeHasNoBuffers

module _ (below : Below) (m : Module) (shape : has_ring_shape m ≡ true) (room most : ℕ) (few_room : room < 2 ^ 32) (few_most : most < 2 ^ 32) where
  -- each expression that it evaluates lies in its type's range
  pub ring_sound : IsChecked m → (b : List ℕ) → AreBytes b → length b < 2 ^ 32 → IsDescSoundOn m room most b
  ring_sound checked b bytes short =
      let fit = below.fits m shape room most few_room few_most in
      entry_is_sound m desc_entry (desc_args room most) desc_cells below.sound checked.formed checked.copying checked.safe checked.whole (entry_there m shape) fit.0 fit.1 b bytes short

  -- so its code is one of descriptors
  pub ring_code : IsChecked m → (c : Parts) → IsCodeOf c m → IsRingCode c room most
  ring_code checked c code =
      let fit = below.fits m shape room most few_room few_most in
      record {
        format = m;
        code = code;
        fits = below.arguments c m desc_entry (desc_args room most) desc_cells code (entry_there m shape) fit.0 fit.1;
        ring = record { bare = below.none m shape; sound = ring_sound checked; within = below.within m shape room most };
      }

-- ---- whether there is one

-- a text of these bytes
pub same_bytes : (text : List ℕ) → text ≡ RING.now → text ≡ ring_bytes
unfolding ring_bytes
same_bytes text e = e

by_shape : OneModuleEach → (m : Module) → IsModuleText ring_bytes m → (test : Bool) → has_ring_shape m ≡ test → ((r : Module) × IsRingModule r) ⊎ ((r : Module) → IsRingModule r → ⊥)
by_shape one m stands true h = inl (m, (stands, h))
by_shape one m stands false h = inr (λ r is. false≢true (sym h ∙ ap has_ring_shape (one ring_bytes m r stands is.0) ∙ is.1))

module_or_not : AlwaysOne → OneModuleEach → NeverBoth → ((r : Module) × IsRingModule r) ⊎ ((r : Module) → IsRingModule r → ⊥)
module_or_not always one never =
    elim (always ring_bytes) [
      | inl good ↦ by_shape one good.0 good.1 (has_ring_shape good.0) refl
      | inr bad ↦ inr (λ r is. never ring_bytes r bad.0 is.0 bad.1)
    ]

pub read_or_not : AlwaysOne → OneModuleEach → NeverBoth → (rings : List RingJob) → RingsAreRead rings ⊎ NoRingModule rings
read_or_not always one never [] = inl tt
read_or_not always one never (ring ∷ rings) = module_or_not always one never

-- ---- readers

-- one reader more, of one ring more
pub readers_more : (bytes : ℕ) (rings : List RingJob) (ds : List ReaderView) (ring : RingJob) (d : ReaderView) → AreReadersOf bytes rings ds → IsReaderOf bytes ring d
    → AreReadersOf bytes (rings ++ ring ∷ []) (ds ++ d ∷ [])
unfolding AreReadersOf
readers_more bytes [] [] ring d h is = (is, tt)
readers_more bytes [] (e ∷ ds) ring d h is = absurd h
readers_more bytes (r ∷ rings) [] ring d h is = absurd h
readers_more bytes (r ∷ rings) (e ∷ ds) ring d h is = (h.0, readers_more bytes rings ds ring d h.1 is)

pub no_readers : (bytes : ℕ) (rings : List RingJob) (ds : List ReaderView) → rings ≡ [] → ds ≡ [] → AreReadersOf bytes rings ds
unfolding AreReadersOf
no_readers bytes rings ds none no_reader = subst (λ (rs : List RingJob). AreReadersOf bytes rs ds) (sym none) (subst (λ (es : List ReaderView). AreReadersOf bytes [] es) (sym no_reader) tt)

-- rings within a buffer have entries
abbrev pub HasEntry : RingJob → Type 0
HasEntry ring = 0 < ring.entries

pub have_entries : (words : ℕ) (rings : List RingJob) → All (IsRingWithin words) rings → All HasEntry rings
have_entries words rings h = All-weaker (IsRingWithin words) HasEntry (λ r within. within.some_entry) rings h

-- ---- a job's module of descriptors

-- it is given exactly where there are rings
pub ring_of_none : (rings : List RingJob) (m : Module) → rings ≡ [] → IsRingOf rings m None
ring_of_none rings m none = subst (λ (rs : List RingJob). IsRingOf rs m None) (sym none) refl

pub ring_of_some : (rings : List RingJob) (m : Module) → 0 < length rings → IsRingModule m → IsRingOf rings m (Some m)
ring_of_some [] m some is = absurd (omega (arith, some))
ring_of_some (r ∷ rings) m some is = (is, refl)

pub no_ring : (rings : List RingJob) → 0 < length rings → ((m : Module) → IsRingModule m → ⊥) → NoRingModule rings
no_ring [] some none = absurd (omega (arith, some))
no_ring (r ∷ rings) some none = none

pub some_listed : {A : Type 0} (xs : List A) → (length xs ≡ 0 → ⊥) → 0 < length xs
some_listed [] n = absurd (n refl)
some_listed (x ∷ xs) n = omega arith

-- what holds of an answer holds of it as something weaker
pub if_ok_map : {A E : Type 0} (r : Result A E) (P Q : A → Type 0) → ((x : A) → P x → Q x) → IfOk r P → IfOk r Q
if_ok_map (Ok x) P Q h p = h x p
if_ok_map (Err e) P Q h p = tt
