-- The errors of the passes, as errors of the whole.
use Rattle.std.specs.Prelude.{ℕ, List}
use Rattle.td_front.specs.Imports.{Token, LexError, BadByte as BadByteAt, OpenComment as OpenCommentAt, BigNumber as BigNumberAt, NoMemory as NoTokens, ParseError, Excess, FlatError, Twice, ElabError, KindError, ArithError}
use Rattle.td_parser.specs.declared.error.ParseError.TheVariants.{Unexpected as UnexpectedToken, Deep as DeepToken, NoMemory as NoTree}
use Rattle.td_front_flat.specs.declared.error.FlatError.TheVariants.{Twice as TwiceAt, Cycle as CycleAt, NoMemory as NotFlat}
use Rattle.td_elab.specs.declared.elaborate.ElabError.TheVariants.{Broken as BrokenAt, NoMemory as NoModule}
use Rattle.td_kinds.specs.declared.error.KindError.TheVariants.{ZeroElement as ZeroElementAt, RestNotLast as RestNotLastAt, NoMemory as NoKinds}
use Rattle.td_arith.specs.declared.error.ArithError.TheVariants.{Unsafe as UnsafeAt, Room as RoomAt, Value as ValueAt, NoMemory as NoSafety}
use Rattle.td_front.specs.declared.error.FrontError.{FrontError}
use Rattle.td_front.specs.declared.error.FrontError.TheVariants.{BadByte, OpenComment, BigNumber, Unexpected, Deep, Limit, Broken, Cycle, ZeroElement, RestNotLast, Unsafe, Room, Value, NoMemory}
use Rattle.td_front.specs.ModuleText.{beginning_of}

abbrev pub of_lexing : LexError → FrontError
of_lexing (BadByteAt at) = BadByte at
of_lexing (OpenCommentAt at) = OpenComment at
of_lexing (BigNumberAt at) = BigNumber at
of_lexing NoTokens = NoMemory

-- of a text with these tokens
abbrev pub of_parsing : List ℕ → List Token → ParseError → FrontError
of_parsing text tokens (UnexpectedToken token) = Unexpected token (beginning_of text tokens token)
of_parsing text tokens (DeepToken token) = Deep token (beginning_of text tokens token)
of_parsing text tokens NoTree = NoMemory

abbrev pub of_excess : Excess → FrontError
of_excess e = Limit e.limit e.span

-- of parts
abbrev pub of_flattening : FlatError → FrontError
of_flattening (TwiceAt span) = Broken Twice span
of_flattening (CycleAt span) = Cycle span
of_flattening NotFlat = NoMemory

abbrev pub of_elaboration : ElabError → FrontError
of_elaboration (BrokenAt rule span) = Broken rule span
of_elaboration NoModule = NoMemory

abbrev pub of_kinds : KindError → FrontError
of_kinds (ZeroElementAt span) = ZeroElement span
of_kinds (RestNotLastAt span) = RestNotLast span
of_kinds NoKinds = NoMemory

abbrev pub of_arith : ArithError → FrontError
of_arith (UnsafeAt span op) = Unsafe span op
of_arith (RoomAt span) = Room span
of_arith (ValueAt span) = Value span
of_arith NoSafety = NoMemory
