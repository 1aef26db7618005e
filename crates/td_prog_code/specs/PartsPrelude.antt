-- The helpers of a program that is written for messages in pieces (own rule): they take numbers and bytes byte by byte, out of words each of which is loaded once. They have the numbers of
-- Prelude's, so that routines are the same.
use Rattle.std.specs.Prelude.{ℕ, zero, suc, ◌-◌, ◌*◌, List, [], ◌∷◌, length, codes}
use Rattle.td_ir.specs.declared.tables.Parts.{Parts}
use Rattle.td_prog.specs.Syntax.{Next, Held, Pos, Word, Low, Number, More, Room, Count, Add, Mul, And, Shl, Shr, Lt, Le, Num, Get, Binary, Block, Ends, Assign, Byte, Load, If, While, Return, CallHelper, Helper, Program}
use Rattle.td_prog_code.specs.Prelude.{plus, big}
use Rattle.td_prog_code.specs.Program.{functions}

-- by its number
abbrev pub byte_helper : ℕ
byte_helper = 0

-- fixed text, behind the nine helpers: `td_word_at(run, pos)` and `td_offset_at(run, pos)`
abbrev pub word_at_helper : ℕ
word_at_helper = 9

abbrev pub offset_at_helper : ℕ
offset_at_helper = 10

-- td_byte(run, pos)
--   word = td_word_at(run, pos);
--   low = td_offset_at(run, pos);
--   if (run->next <= word) {
--       run->held = TD_LOAD(td_place(run, word));
--       run->next = word + 1;
--   }
--   return (run->held >> (low * 8)) & 255;
abbrev pub td_byte : Helper
td_byte = record {
  name = codes "td_byte";
  params = Pos ∷ [];
  locals = Word ∷ Low ∷ [];
  buffers = 0;
  body =
      CallHelper Word word_at_helper (Get Pos ∷ []) []
      (CallHelper Low offset_at_helper (Get Pos ∷ []) []
      (If (Binary Le (Get Next) (Get Word)) (Load Ends)
      (Return (Binary And (Binary Shr (Get Held) (Binary Mul (Get Low) (Num 8))) (Num 255)) Ends)));
}

-- bytes of a number from byte k on, each above those before it
--   more = td_byte(run, pos + 1);
--   number = number + (more << 8);
--   ..
--   return number;
abbrev pub more_bytes : (k left : ℕ) → Block
more_bytes k zero = Return (Get Number) Ends
more_bytes k (suc left) =
    CallHelper More byte_helper (plus (Get Pos) k ∷ []) []
    (Assign Number (Binary Add (Get Number) (Binary Shl (Get More) (Num (8 * k)))) (more_bytes (suc k) left))

-- td_little_2(run, pos)
--   number = td_byte(run, pos);
--   ..
abbrev pub by_bytes : ℕ → Block
by_bytes width = CallHelper Number byte_helper (Get Pos ∷ []) [] (more_bytes 1 (width - 1))

abbrev pub little_in_parts : List ℕ → ℕ → Helper
little_in_parts name width = record { name = name; params = Pos ∷ []; locals = Number ∷ More ∷ []; buffers = 0; body = by_bytes width }

-- td_copy(run, pos, room, b0)
--   while (count < room) {
--       number = td_byte(run, pos);
--       b0[count] = (uint8_t)(number);
--       pos = pos + 1;
--       count = count + 1;
--   }
--   return count;
abbrev pub byte_turn : Block
byte_turn =
    CallHelper Number byte_helper (Get Pos ∷ []) []
    (Byte 0 (Get Count) (Get Number) (Assign Pos (plus (Get Pos) 1) (Assign Count (plus (Get Count) 1) Ends)))

abbrev pub copy_in_parts : Helper
copy_in_parts = record {
  name = codes "td_copy";
  params = Pos ∷ Room ∷ [];
  locals = Number ∷ Count ∷ [];
  buffers = 1;
  body = While (Binary Lt (Get Count) (Get Room)) byte_turn (Return (Get Count) Ends);
}

abbrev pub parts_prelude : List Helper
parts_prelude =
    td_byte
    ∷ little_in_parts (codes "td_little_1") 1 ∷ little_in_parts (codes "td_little_2") 2 ∷ little_in_parts (codes "td_little_4") 4 ∷ little_in_parts (codes "td_little_8") 8
    ∷ big (codes "td_big_2") 2 ∷ big (codes "td_big_4") 4 ∷ big (codes "td_big_8") 8
    ∷ copy_in_parts ∷ []

-- the program that is written of a code for messages in pieces: the same routines
abbrev pub parts_program : Parts → (ℕ → List ℕ) → Program
parts_program c names = record { helpers = parts_prelude; routines = functions c names 0 (length c.routines) }
