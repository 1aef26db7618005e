-- The names of a checked module are such that a report can be read back.
use Rattle.std.proofs.Common.{◌≡◌, ◌≢◌, ◌⊎◌, inl, inr, ℕ, suc, ◌<◌, ◌≤◌, Bool, true, false, ◌&&◌, ◌||◌, ◌==◌, nat_le, List, [], ◌∷◌, length, map, Option, Some, None, refl, sym, subst, arith}
use Rattle.std.specs.Prelude.{codes}
use Rattle.std.specs.List.{All, Contains}
use Rattle.std.proofs.lemmas.Bool.{leb-true, eqb-true}
use Rattle.std.proofs.lemmas.List.Elements.{All-nil, All-cons}
use Rattle.td_num.specs.Lists.{Each}
use Rattle.td_num.proofs.Truths.{both_true}
use Rattle.td_ast.specs.declared.token.TokenKind.TheVariants as kinds
use Rattle.td_core.specs.declared.module.NameId.{NameId}
use Rattle.td_core.specs.declared.module.Part.{Part}
use Rattle.td_core.specs.declared.module.Field.{Field as FieldDef}
use Rattle.td_core.specs.declared.module.Case.{Case}
use Rattle.td_report_facts.specs.Imports.{Cell, TypeDef, Module, TraceFrame}
use Rattle.td_core.specs.declared.module.Body.{Body}
use Rattle.td_core.specs.declared.module.Body.TheVariants.{Struct, Casetype}
use Rattle.td_core.specs.declared.outcome.Spot.{Spot}
use Rattle.td_core.specs.declared.outcome.Spot.TheVariants.{Field, Where, Switch}
use Rattle.td_core.specs.WellFormed.{OfSome, EachField, IsNameThere, IsDefinitionNamed}
use Rattle.td_lexer.specs.Bytes.{is_word_byte, every}
use Rattle.td_lexer.specs.Splits.{IsName, IsDotted, IsLongName}
use Rattle.td_lexer.proofs.LongNames.{no_keyword}
use Rattle.td_core.specs.Entries.{name_bytes}
use Rattle.td_meaning.specs.Framing.{OneOf, IsPartName, IsDefaultName, IsBodyName, IsSpotOf, IsFrameOf}
use Rattle.td_report.specs.Laws.{IsWordByte, IsWord, AreTwoWords, type_names, IsNamed, IsNamedSpot, IsNamedField, IsNamedFrame, IsNamedCell}

-- ---- words

word_byte : (b : ℕ) → is_word_byte b ≡ true → IsWordByte b
word_byte b h = by (nat_le 97 b && nat_le b 122) refl (nat_le 65 b && nat_le b 90) refl (b == 95) refl (nat_le 48 b && nat_le b 57) refl h
  where
    by : (x : Bool) → nat_le 97 b && nat_le b 122 ≡ x → (y : Bool) → nat_le 65 b && nat_le b 90 ≡ y → (z : Bool) → (b == 95) ≡ z → (w : Bool) → nat_le 48 b && nat_le b 57 ≡ w
        → (x || y || z) || w ≡ true → IsWordByte b
    by true p y q z r w s h = let both = both_true (nat_le 97 b) (nat_le b 122) p in inr (inr (inr (leb-true 97 b both.0, leb-true b 122 both.1)))
    by false p true q z r w s h = let both = both_true (nat_le 65 b) (nat_le b 90) q in inr (inl (leb-true 65 b both.0, leb-true b 90 both.1))
    by false p false q true r w s h = inr (inr (inl (eqb-true b 95 r)))
    by false p false q false r true s h = let both = both_true (nat_le 48 b) (nat_le b 57) s in inl (leb-true 48 b both.0, leb-true b 57 both.1)
    by false p false q false r false s h = absurd cc

word_of : (bytes : List ℕ) → every is_word_byte bytes ≡ true → All IsWordByte bytes
word_of [] h = All-nil IsWordByte
word_of (b ∷ bytes) h =
    let both = both_true (is_word_byte b) (every is_word_byte bytes) h in
    All-cons IsWordByte b bytes (word_byte b both.0) (word_of bytes both.1)

two_words_of : (bytes : List ℕ) → IsDotted bytes → AreTwoWords bytes
two_words_of bytes (part, own, first, second, is) = (part, own, word_of part first.1, word_of own second.1, is)

long_word_of : (bytes : List ℕ) → IsLongName bytes → IsWord bytes ⊎ AreTwoWords bytes
long_word_of bytes (inl name) = inl (word_of bytes name.1)
long_word_of bytes (inr two) = inr (two_words_of bytes two)

pub words_of : (names : List (List ℕ)) → Each IsLongName names → All (λ name. IsWord name ⊎ AreTwoWords name) names
words_of [] h = All-nil (λ name. IsWord name ⊎ AreTwoWords name)
words_of (x ∷ xs) h = All-cons (λ name. IsWord name ⊎ AreTwoWords name) x xs (long_word_of x h.0) (words_of xs h.1)

-- what holds of the bytes of each type's name holds of those of all names of types
types_are : (P Q : List ℕ → Type 0) (m : Module) → ((bytes : List ℕ) → P bytes → Q bytes) → (ds : List TypeDef) → Each (λ d. P (name_bytes m d.name)) ds → All (λ name. Q (name_bytes m name)) (map (λ d. d.name) ds)
types_are P Q m turns [] h = All-nil (λ name. Q (name_bytes m name))
types_are P Q m turns (d ∷ ds) h =
    All-cons (λ name. Q (name_bytes m name)) d.name (map (λ d. d.name) ds) (turns (name_bytes m d.name) h.0) (types_are P Q m turns ds h.1)

pub types_of : (m : Module) → Each (λ d. IsName (name_bytes m d.name)) m.definitions ⊎ Each (λ d. IsDotted (name_bytes m d.name)) m.definitions
    → All (λ name. IsWord (name_bytes m name)) (type_names m) ⊎ All (λ name. AreTwoWords (name_bytes m name)) (type_names m)
types_of m (inl plain) = inl (types_are IsName IsWord m (λ bytes h. word_of bytes h.1) m.definitions plain)
types_of m (inr dotted) = inr (types_are IsDotted AreTwoWords m two_words_of m.definitions dotted)

no_spot : (name : List ℕ) → IsLongName name → (name ≢ codes "where") × (name ≢ codes "switch")
no_spot name h = (λ e. no_keyword name (codes "where") kinds.Where refl refl h e, λ e. no_keyword name (codes "switch") kinds.Switch refl refl h e)

pub no_spots : (names : List (List ℕ)) → Each IsLongName names → All (λ name. (name ≢ codes "where") × (name ≢ codes "switch")) names
no_spots [] h = All-nil (λ name. (name ≢ codes "where") × (name ≢ codes "switch"))
no_spots (x ∷ xs) h = All-cons (λ name. (name ≢ codes "where") × (name ≢ codes "switch")) x xs (no_spot x h.0) (no_spots xs h.1)

-- ---- names of frames and cells

part_named : (count : ℕ) (name : NameId) (ps : List Part) → OneOf (λ part. part.name ≡ name) ps → Each (λ p. IsNameThere count p.name) ps → IsNameThere count name
part_named count name [] h each = absurd h
part_named count name (p ∷ ps) (inl e) each = subst (IsNameThere count) e each.0
part_named count name (p ∷ ps) (inr h) each = part_named count name ps h each.1

fields_named : (count : ℕ) (name : NameId) (fs : List FieldDef) → IsPartName name fs → Each (λ f. Each (λ p. IsNameThere count p.name) f.parts) fs → IsNameThere count name
fields_named count name [] h each = absurd h
fields_named count name (f ∷ fs) (inl h) each = part_named count name f.parts h each.0
fields_named count name (f ∷ fs) (inr h) each = fields_named count name fs h each.1

cases_named : (count : ℕ) (name : NameId) (cs : List Case) → OneOf (λ c. IsPartName name c.fields) cs → Each (λ c. Each (λ f. Each (λ p. IsNameThere count p.name) f.parts) c.fields) cs → IsNameThere count name
cases_named count name [] h each = absurd h
cases_named count name (c ∷ cs) (inl h) each = fields_named count name c.fields h each.0
cases_named count name (c ∷ cs) (inr h) each = cases_named count name cs h each.1

default_named : (count : ℕ) (name : NameId) (o : Option (List FieldDef)) → IsDefaultName name o → OfSome (Each (λ f. Each (λ p. IsNameThere count p.name) f.parts)) o → IsNameThere count name
default_named count name None h each = absurd h
default_named count name (Some fs) h each = fields_named count name fs h each

body_named : (count : ℕ) (name : NameId) (body : Body) → IsBodyName name body → EachField (λ f. Each (λ p. IsNameThere count p.name) f.parts) body → IsNameThere count name
body_named count name (Struct fs) h each = fields_named count name fs h each
body_named count name (Casetype switch cases default) (inl h) each = cases_named count name cases h each.0
body_named count name (Casetype switch cases default) (inr h) each = default_named count name default h each.1

spot_named : (m : Module) (d : TypeDef) (spot : Spot) → IsSpotOf d spot → IsDefinitionNamed (length m.names) d → IsNamedSpot m spot
spot_named m d (Field name) h named = body_named (length m.names) name d.body h named.fields
spot_named m d Where h named = tt
spot_named m d Switch h named = tt

frame_named : (m : Module) (frame : TraceFrame) (ds : List TypeDef) → OneOf (λ d. IsFrameOf d frame) ds → Each (IsDefinitionNamed (length m.names)) ds → IsNamed m frame.ty × IsNamedSpot m frame.field
frame_named m frame [] h each = absurd h
frame_named m frame (d ∷ ds) (inl h) each = (subst (IsNamed m) (sym h.ty) each.0.own, spot_named m d frame.field h.spot each.0)
frame_named m frame (d ∷ ds) (inr h) each = frame_named m frame ds h each.1

frame_of_type : (frame : TraceFrame) (ds : List TypeDef) → OneOf (λ d. IsFrameOf d frame) ds → Contains (map (λ d. d.name) ds) frame.ty
frame_of_type frame [] h = absurd h
frame_of_type frame (d ∷ ds) (inl h) = (0, omega arith, sym h.ty)
frame_of_type frame (d ∷ ds) (inr h) = (let at = frame_of_type frame ds h in (suc at.0, omega (arith, at.1), at.2))

pub frames_named : (m : Module) (end : ℕ) (trace : List TraceFrame) → end < 18446744073709551616 → Each (λ f. f.start ≤ end) trace → Each (λ frame. OneOf (λ d. IsFrameOf d frame) m.definitions) trace
    → Each (IsDefinitionNamed (length m.names)) m.definitions → All (IsNamedFrame m) trace
frames_named m end [] low starts h each = All-nil (IsNamedFrame m)
frames_named m end (f ∷ fs) low starts h each =
    let names = frame_named m f m.definitions h.0 each in
    All-cons (IsNamedFrame m) f fs (record { ty = names.0; of_type = frame_of_type f m.definitions h.0; field = names.1; start = omega (arith, low, starts.0) }) (frames_named m end fs low starts.1 h.1 each)

field_named : (m : Module) (o : Option NameId) → OfSome (IsNameThere (length m.names)) o → IsNamedField m o
field_named m None h = tt
field_named m (Some f) h = h

pub cells_named : (m : Module) (cells : List Cell) → Each (λ c. IsNameThere (length m.names) c.name × OfSome (IsNameThere (length m.names)) c.field) cells → All (IsNamedCell m) cells
cells_named m [] h = All-nil (IsNamedCell m)
cells_named m (c ∷ cs) h = All-cons (IsNamedCell m) c cs (record { name = h.0.0; field = field_named m c.field h.0.1 }) (cells_named m cs h.1)
