-- What a `mutable` parameter names reads back, passes no limit, and can be spelled.
use Rattle.std.proofs.Common.{◌≡◌, Bool, true, false, List, [], ◌∷◌, ◌++◌, Option, Some, None, refl, ap}
use Rattle.std.specs.Prelude.{option_map}
use Rattle.td_num.specs.declared.number.Width.TheVariants as widths
use Rattle.td_num.specs.declared.number.ByteOrder.TheVariants as orders
use Rattle.td_ast.specs.declared.token.Token.{Token}
use Rattle.td_ast.specs.declared.token.TokenKind.TheVariants as kinds
use Rattle.td_ast.specs.declared.names.Name.{Name}
use Rattle.td_ast.specs.declared.names.NumberTree.{NumberTree}
use Rattle.td_ast.specs.declared.names.ConstTree.{ConstTree}
use Rattle.td_ast.specs.declared.parameters.TargetTree.{TargetTree}
use Rattle.td_ast.specs.declared.parameters.TargetTree.TheVariants as targets
use Rattle.td_ast.specs.declared.parameters.ParamTree.{ParamTree}
use Rattle.td_ast.specs.declared.parameters.ParamTree.TheVariants as params
use Rattle.td_grammar.specs.Parameters.{is_octet, byte, wider, target, room, bytes_of, place}
use Rattle.td_print_layout.specs.Pieces.{Piece, Word, Blank}
use Rattle.td_print_layout.specs.Sequences.{name_piece, number_piece, optional}
use Rattle.td_print_layout.specs.Parameters.{byte_piece, room_pieces, target_pieces, parameter_pieces}
use Rattle.td_print_layout.specs.Unspanned.{nowhere, unspanned_name, unspanned_number, unspanned_constant, unspanned_target, unspanned_parameter}
use Rattle.td_print_layout.proofs.Tokens.{one_token}
use Rattle.td_print_layout.proofs.Back.{Back, blank, both, made, left, right, alone, some}
use Rattle.td_print_layout.proofs.Words.{terminal_back, name_back, named_back, constant_back}
use Rattle.td_print_layout.proofs.Plainly.{Never, never_one, never_both, never_either, never_qualified}
use Rattle.td_print_layout.proofs.Sound as sound
use Rattle.td_print_layout.proofs.Sound.{Fine, Sound, either, maybe, terminal_sound, name_sound, qualified_sound, constant_sound}

-- ---- they read back

abbrev is_byte : NumberTree → Bool
is_byte n = is_octet n.number.width n.number.order

byte_spelled : (n : NumberTree) → is_byte n ≡ true → (tokens : List Token) (t : Token) → tokens ≡ t ∷ [] → t.kind ≡ kinds.Int n.number → byte.Spells (record { number = n.number; span = t.span }) tokens
byte_spelled n is tokens t e f = (t, e, rw (f, is) refl)

byte_back : (n : NumberTree) → is_byte n ≡ true → Back byte.Spells (number_piece n ∷ []) (λ r. unspanned_number r ≡ unspanned_number n)
byte_back n is = record { read = λ tokens e. let p = one_token tokens (kinds.Int n.number) e in (record { number = n.number; span = p.0.span }, byte_spelled n is tokens p.0 p.1 p.2, refl) }

wider_spelled : (n : NumberTree) → is_byte n ≡ false → (tokens : List Token) (t : Token) → tokens ≡ t ∷ [] → t.kind ≡ kinds.Int n.number → wider.Spells (record { number = n.number; span = t.span }) tokens
wider_spelled n is tokens t e f = (t, e, rw (f, is) refl)

wider_back : (n : NumberTree) → is_byte n ≡ false → Back wider.Spells (number_piece n ∷ []) (λ r. unspanned_number r ≡ unspanned_number n)
wider_back n is = record { read = λ tokens e. let p = one_token tokens (kinds.Int n.number) e in (record { number = n.number; span = p.0.span }, wider_spelled n is tokens p.0 p.1 p.2, refl) }

room_back : (c : ConstTree) → Back room.Spells (room_pieces c) (λ r. unspanned_constant r ≡ unspanned_constant c)
room_back c = made (both (terminal_back kinds.OpenBracket refl) (both (constant_back c) (terminal_back kinds.CloseBracket refl))) (λ x g. g.1.0)

-- a buffer
buffer_same : (n : NumberTree) (m name : Name) (o : Option ConstTree) (c : ConstTree) → unspanned_name m ≡ unspanned_name name → option_map unspanned_constant o ≡ Some (unspanned_constant c)
    → unspanned_parameter (bytes_of n m o) ≡ unspanned_parameter (params.Bytes name c)
buffer_same n m name None c e f = absurd cc
buffer_same n m name (Some d) c e f = cc (e, f)

abbrev uint8 : NumberTree
uint8 = record { number = record { width = widths.One; order = orders.LittleEndian }; span = nowhere }

pub buffer_back : (name : Name) (c : ConstTree) → Back place.Spells (byte_piece ∷ Blank ∷ Word kinds.Star ∷ name_piece name ∷ room_pieces c) (λ r. unspanned_parameter r ≡ unspanned_parameter (params.Bytes name c))
buffer_back name c =
    left (made (both (byte_back uint8 refl) (both (blank (terminal_back kinds.Star refl)) (both (name_back name)
    (some {H = λ o. option_map unspanned_constant o ≡ Some (unspanned_constant c)} (room_back c) (λ r e. ap (λ (x : ConstTree). Some x) e)))))
    (λ x g. buffer_same x.0 x.1.1.0 name x.1.1.1 c g.1.1.0 g.1.1.1))

-- a cell
byte_same : (m n : NumberTree) (l name : Name) (o : Option ConstTree) → unspanned_number m ≡ unspanned_number n → unspanned_name l ≡ unspanned_name name → o ≡ None
    → unspanned_parameter (bytes_of m l o) ≡ unspanned_parameter (params.Mutable (targets.Number n) name)
byte_same m n l name None e f none = cc (e, f)
byte_same m n l name (Some c) e f none = absurd cc

abbrev PlaceBack : TargetTree → Name → Type 0
PlaceBack t name = Back place.Spells (target_pieces t ++ Blank ∷ Word kinds.Star ∷ name_piece name ∷ []) (λ r. unspanned_parameter r ≡ unspanned_parameter (params.Mutable t name))

cell_back : (t : TargetTree) (name : Name) → Back target.Spells (target_pieces t) (λ r. unspanned_target r ≡ unspanned_target t) → PlaceBack t name
cell_back t name p = right (made (both p (both (blank (terminal_back kinds.Star refl)) (name_back name))) (λ x g. cc (g.0, g.1.1)))

pub place_back : (t : TargetTree) (name : Name) → PlaceBack t name
place_back (targets.Number n) name = by_test (is_byte n) refl
  where
    by_test : (b : Bool) → is_byte n ≡ b → PlaceBack (targets.Number n) name
    by_test true is =
        left (made (both (byte_back n is) (both (blank (terminal_back kinds.Star refl)) (alone (name_back name))))
        (λ x g. byte_same x.0 n x.1.1.0 name x.1.1.1 g.0 g.1.1.0 g.1.1.1))
    by_test false is = cell_back (targets.Number n) name (left (made (wider_back n is) (λ r e. ap (λ (x : NumberTree). targets.Number x) e)))
place_back (targets.Pointer s) name = cell_back (targets.Pointer s) name (right (left (made (terminal_back kinds.Pointer refl) (λ r e. refl))))
place_back (targets.Named n) name = cell_back (targets.Named n) name (right (right (made (named_back n) (λ r e. ap (λ (x : Name). targets.Named x) e))))

-- ---- they pass no limit

never_room : Never room.Passes
never_room = never_both _ never_one (never_both _ (never_either never_one never_qualified) never_one)

pub never_place : Never place.Passes
never_place =
    never_either (never_both _ never_one (never_both _ never_one (never_both _ never_one never_room)))
    (never_both _ (never_either never_one (never_either never_one never_qualified)) (never_both _ never_one never_one))

-- ---- they can be spelled

byte_sound : Sound byte.Spells (λ n. number_piece n ∷ [])
byte_sound = record { sound = λ n tokens m f. (tt, tt) }

wider_sound : Sound wider.Spells (λ n. number_piece n ∷ [])
wider_sound = record { sound = λ n tokens m f. (tt, tt) }

target_sound : Sound target.Spells target_pieces
target_sound = either (sound.made wider_sound (λ x h. h)) (either (sound.made (terminal_sound kinds.Pointer tt) (λ x h. h)) (sound.made qualified_sound (λ x h. h)))

room_sound : Sound room.Spells room_pieces
room_sound = sound.made (sound.both (terminal_sound kinds.OpenBracket tt) (sound.both constant_sound (terminal_sound kinds.CloseBracket tt))) (λ x h. h)

fine_bytes : (n : NumberTree) (name : Name) (o : Option ConstTree) → Fine (number_piece n ∷ Blank ∷ Word kinds.Star ∷ name_piece name ∷ optional room_pieces o) → Fine (parameter_pieces (bytes_of n name o))
fine_bytes n name None f = (tt, f)
fine_bytes n name (Some c) f = (tt, f)

pub place_sound : Sound place.Spells parameter_pieces
place_sound =
    either (sound.made (sound.both byte_sound (sound.both (sound.blank (terminal_sound kinds.Star tt)) (sound.both name_sound (maybe room_sound)))) (λ x h. fine_bytes x.0 x.1.1.0 x.1.1.1 h))
    (sound.made (sound.both target_sound (sound.both (sound.blank (terminal_sound kinds.Star tt)) name_sound)) (λ x h. (tt, h)))
