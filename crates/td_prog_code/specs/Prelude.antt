-- The helpers that stand at the front of each written program (own rule): they take numbers and bytes out of words, each of which is loaded once.
use Rattle.std.specs.Prelude.{ℕ, zero, suc, ◌-◌, ◌*◌, ◌^◌, cond, nat_eq, List, [], ◌∷◌, codes}
use Rattle.td_prog.specs.Syntax.{Next, Held, Pos, Word, Low, Number, More, Room, Count, Add, Sub, Mul, Div, Rem, And, Shl, Shr, Lt, Le, Expr, Num, Get, Binary, Swapped, Block, Ends, Assign, Byte, Load, If, While, Return, CallHelper, Helper}

-- by their numbers
abbrev pub word_helper : ℕ
word_helper = 0

abbrev pub little_helper : ℕ → ℕ
little_helper width = cond (nat_eq width 1) 1 (cond (nat_eq width 2) 2 (cond (nat_eq width 4) 3 4))

-- one byte has no order
abbrev pub big_helper : ℕ → ℕ
big_helper width = cond (nat_eq width 1) 1 (cond (nat_eq width 2) 5 (cond (nat_eq width 4) 6 7))

abbrev pub number_helper : (order width : ℕ) → ℕ
number_helper zero width = little_helper width
number_helper (suc x) width = big_helper width

abbrev pub copy_helper : ℕ
copy_helper = 8

abbrev pub plus : Expr → ℕ → Expr
plus e n = Binary Add e (Num n)

-- the word of the position, and how many bits of it come before the position
abbrev pub word : Expr
word = Binary Div (Get Pos) (Num 8)

abbrev pub low : Expr
low = Binary Mul (Binary Rem (Get Pos) (Num 8)) (Num 8)

-- td_word(run, word)
--   if (run->next <= word) {
--       run->held = TD_LOAD(&run->words[word]);
--       run->next = word + 1;
--   }
--   return run->held;
abbrev pub td_word : Helper
td_word = record {
  name = codes "td_word";
  params = Word ∷ [];
  locals = [];
  buffers = 0;
  body = If (Binary Le (Get Next) (Get Word)) (Load Ends) (Return (Get Held) Ends);
}

-- td_little_2(run, pos): the word of the number's first byte, and where the number goes on in the next word that, too
--   low = pos % 8 * 8;
--   number = td_word(run, pos / 8);
--   number = number >> low;
--   if (48 < low) {
--       more = td_word(run, pos / 8 + 1);
--       number = number + (more << (64 - low));
--   }
--   return number & 65535;
abbrev pub little_body : ℕ → Block
little_body width =
    Assign Low low
    (CallHelper Number word_helper (word ∷ []) []
    (Assign Number (Binary Shr (Get Number) (Get Low))
    (If (Binary Lt (Num (64 - 8 * width)) (Get Low))
    (CallHelper More word_helper (plus word 1 ∷ []) []
    (Assign Number (Binary Add (Get Number) (Binary Shl (Get More) (Binary Sub (Num 64) (Get Low))))
    Ends))
    (Return (Binary And (Get Number) (Num (2 ^ (8 * width) - 1))) Ends))))

abbrev pub little : List ℕ → ℕ → Helper
little name width = record { name = name; params = Pos ∷ []; locals = Low ∷ Number ∷ More ∷ []; buffers = 0; body = little_body width }

-- td_big_2(run, pos)
--   number = td_little_2(run, pos);
--   return TD_SWAP(number) >> 48;
abbrev pub big_body : ℕ → Block
big_body width = CallHelper Number (little_helper width) (Get Pos ∷ []) [] (Return (Binary Shr (Swapped (Get Number)) (Num (64 - 8 * width))) Ends)

abbrev pub big : List ℕ → ℕ → Helper
big name width = record { name = name; params = Pos ∷ []; locals = Number ∷ []; buffers = 0; body = big_body width }

-- `b0[count + k] = (uint8_t)(number >> 8 * k);` for k from one number on, before what follows
abbrev pub bytes_from : (k left : ℕ) → Block → Block
bytes_from k zero b = b
bytes_from k (suc left) b = Byte 0 (plus (Get Count) k) (Binary Shr (Get Number) (Num (8 * k))) (bytes_from (suc k) left b)

-- td_copy(run, pos, room, b0): so many bytes; word by word where a word begins at the position and is wanted whole, and else a byte
--   while (count < room) {
--       low = pos % 8 * 8;
--       more = room - count;
--       if (low) more = 0;
--       while (7 < more) {
--           number = td_word(run, pos / 8);
--           b0[count + 0] = (uint8_t)(number >> 0); .. b0[count + 7] = (uint8_t)(number >> 56);
--           pos = pos + 8;
--           count = count + 8;
--           more = more - 8;
--       }
--       if (count < room) {
--           number = td_word(run, pos / 8);
--           b0[count] = (uint8_t)(number >> low);
--           pos = pos + 1;
--           count = count + 1;
--       }
--   }
--   return count;
abbrev pub copied_by : ℕ → Block → Block
copied_by n rest = Assign Pos (plus (Get Pos) n) (Assign Count (plus (Get Count) n) rest)

abbrev pub copy_word : Block
copy_word = CallHelper Number word_helper (word ∷ []) [] (bytes_from 0 8 (copied_by 8 (Assign More (Binary Sub (Get More) (Num 8)) Ends)))

abbrev pub copy_byte : Block
copy_byte = CallHelper Number word_helper (word ∷ []) [] (Byte 0 (Get Count) (Binary Shr (Get Number) (Get Low)) (copied_by 1 Ends))

abbrev pub copy_turn : Block
copy_turn =
    Assign Low low
    (Assign More (Binary Sub (Get Room) (Get Count))
    (If (Get Low) (Assign More (Num 0) Ends)
    (While (Binary Lt (Num 7) (Get More)) copy_word
    (If (Binary Lt (Get Count) (Get Room)) copy_byte
    Ends))))

abbrev pub td_copy : Helper
td_copy = record {
  name = codes "td_copy";
  params = Pos ∷ Room ∷ [];
  locals = Low ∷ Number ∷ More ∷ Count ∷ [];
  buffers = 1;
  body = While (Binary Lt (Get Count) (Get Room)) copy_turn (Return (Get Count) Ends);
}

abbrev pub prelude : List Helper
prelude =
    td_word
    ∷ little (codes "td_little_1") 1 ∷ little (codes "td_little_2") 2 ∷ little (codes "td_little_4") 4 ∷ little (codes "td_little_8") 8
    ∷ big (codes "td_big_2") 2 ∷ big (codes "td_big_4") 4 ∷ big (codes "td_big_8") 8
    ∷ td_copy ∷ []
