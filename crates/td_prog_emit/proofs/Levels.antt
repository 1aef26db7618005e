-- Blocks as they stand before a place of a routine: one, and in a loop two.
use Rattle.std.proofs.Common.{◌≡◌, ℕ, Bool, true, false, ◌||◌, nat_eq, List, [], ◌∷◌, ◌++◌, codes, refl, sym, ap, ◌∙◌, subst, append_assoc}
use Rattle.td_num.specs.Lists.{is_among}
use Rattle.td_ir.specs.declared.instructions.Instr.{Instr}
use Rattle.td_ir.specs.declared.instructions.Instr.TheVariants as i
use Rattle.td_ir.specs.declared.tables.Parts.{Parts}
use Rattle.td_verify.specs.declared.shape.Shape.{Shape}
use Rattle.td_verify.specs.declared.shape.Shape.TheVariants.{Straight, Jump, Branch, Call, Return, Fail, While, Again, Open, Close}
use Rattle.td_verify.specs.Shape.{shape}
use Rattle.td_prog.specs.Syntax.{Block, Ends, Label}
use Rattle.td_prog_code.specs.Program.{stated, looped as looped_blocks, put}
use Rattle.td_prog_emit.specs.Labels.{after, bound, depth_in, targets}
use Rattle.td_prog_emit.specs.Written.{helper_names, pieces_of, routine_names}
use Rattle.td_prog_emit.proofs.Rest.{before_rest, goes_rest}
use Rattle.td_prog_text.specs.Expressions.{Pieces}
use Rattle.td_prog_text.specs.Statements as lines

-- one block, and in a loop two
abbrev pub AreLevel : Bool → List Block → Type 0
AreLevel false [] = ⊥
AreLevel false (b ∷ []) = Unit {0}
AreLevel false (b ∷ a ∷ more) = ⊥
AreLevel true [] = ⊥
AreLevel true (b ∷ []) = ⊥
AreLevel true (b ∷ a ∷ []) = Unit {0}
AreLevel true (b ∷ a ∷ z ∷ more) = ⊥

-- whether a loop is open before an instruction, and behind it
abbrev pub Turns : Shape → Bool → Bool → Type 0
Turns (While t) x y = (x ≡ false) × (y ≡ true)
Turns (Again t) x y = (x ≡ true) × (y ≡ false)
Turns j x y = x ≡ y

pub after_is : (z : Shape) (x y : Bool) → Turns z x y → y ≡ after z x
after_is (While t) x y h = h.1
after_is (Again t) x y h = h.1
after_is (Straight b w) x y h = sym h
after_is (Jump t) x y h = sym h
after_is (Branch t) x y h = sym h
after_is (Call m) x y h = sym h
after_is Return x y h = sym h
after_is Fail x y h = sym h
after_is (Open k) x y h = sym h
after_is Close x y h = sym h

-- whether a goto in one of the blocks leads to a label
abbrev pub gone : ℕ → List Block → Bool
gone l [] = false
gone l (b ∷ bs) = lines.goes l b || gone l bs

pub or_assoc : (a b c : Bool) → (a || b) || c ≡ a || (b || c)
or_assoc true b c = refl
or_assoc false b c = refl

pub among_append : (xs ys : List ℕ) (l : ℕ) → is_among (xs ++ ys) l ≡ is_among xs l || is_among ys l
among_append [] ys l = refl
among_append (x ∷ xs) ys l = ap (λ (b : Bool). nat_eq l x || b) (among_append xs ys l) ∙ sym (or_assoc (nat_eq l x) (is_among xs l) (is_among ys l))

module _ (c : Parts) (n : ℕ) (w : Block) where
  abbrev pub S : ℕ → Block → Pieces
  S d b = lines.statements c.names helper_names (routine_names c) w d b

  -- what is left to write where these blocks stand
  abbrev pub standing : List Block → Pieces
  standing [] = []
  standing (b ∷ []) = S 1 b
  standing (b ∷ a ∷ more) = S 2 b ++ lines.lined 1 (codes "}" ∷ []) (S 1 a)

  abbrev Steps : ℕ → Instr → Bool → List Block → List Block → Type 0
  Steps pc j x before bs = standing before ≡ lines.label_text (lines.goes pc w) pc ∷ (pieces_of c n w (depth_in x) j ++ (bound (shape j) ++ standing bs))

  plain_at : (pc : ℕ) (j : Instr) (y : Bool) (bs : List Block) → AreLevel y bs → standing (stated c n pc j bs) ≡ lines.label_text (lines.goes pc w) pc ∷ (pieces_of c n w (depth_in y) j ++ standing bs)
  plain_at pc j false [] l = absurd l
  plain_at pc j false (b ∷ []) l = ap (λ (ps : Pieces). lines.label_text (lines.goes pc w) pc ∷ ps) (before_rest c n w 1 j b)
  plain_at pc j false (b ∷ a ∷ more) l = absurd l
  plain_at pc j true [] l = absurd l
  plain_at pc j true (b ∷ []) l = absurd l
  plain_at pc j true (b ∷ a ∷ []) l =
      ap (λ (ps : Pieces). lines.label_text (lines.goes pc w) pc ∷ (ps ++ lines.lined 1 (codes "}" ∷ []) (S 1 a))) (before_rest c n w 2 j b)
      ∙ ap (λ (ps : Pieces). lines.label_text (lines.goes pc w) pc ∷ ps) (append_assoc (pieces_of c n w 2 j) (S 2 b) (lines.lined 1 (codes "}" ∷ []) (S 1 a)))
  plain_at pc j true (b ∷ a ∷ z ∷ more) l = absurd l

  plain : (pc : ℕ) (j : Instr) (x y : Bool) (bs : List Block) → x ≡ y → AreLevel y bs → standing (stated c n pc j bs) ≡ lines.label_text (lines.goes pc w) pc ∷ (pieces_of c n w (depth_in x) j ++ standing bs)
  plain pc j x y bs e l = subst (λ z. standing (stated c n pc j bs) ≡ lines.label_text (lines.goes pc w) pc ∷ (pieces_of c n w (depth_in z) j ++ standing bs)) (sym e) (plain_at pc j y bs l)

  loop_at : (pc t : ℕ) (x y : Bool) (bs : List Block) → x ≡ false → y ≡ true → AreLevel y bs → Steps pc (i.While t) x (looped_blocks c n pc bs) bs
  loop_at pc t x false bs e f l = absurd (cc)
  loop_at pc t x true [] e f l = absurd l
  loop_at pc t x true (b ∷ []) e f l = absurd l
  loop_at pc t x true (b ∷ a ∷ []) e f l = refl
  loop_at pc t x true (b ∷ a ∷ z ∷ more) e f l = absurd l

  again_at : (pc t : ℕ) (x y : Bool) (bs : List Block) → x ≡ true → y ≡ false → AreLevel y bs → Steps pc (i.Again t) x (Label pc Ends ∷ bs) bs
  again_at pc t x true bs e f l = absurd (cc)
  again_at pc t x false [] e f l = absurd l
  again_at pc t x false (a ∷ []) e f l = refl
  again_at pc t x false (b ∷ a ∷ more) e f l = absurd l

  pub put_stands : (pc : ℕ) (j : Instr) (x y : Bool) (bs : List Block) → Turns (shape j) x y → AreLevel y bs → Steps pc j x (put c n pc j bs) bs
  put_stands pc (i.Const into value) x y bs t l = plain pc (i.Const into value) x y bs t l
  put_stands pc (i.Member into source set) x y bs t l = plain pc (i.Member into source set) x y bs t l
  put_stands pc (i.Op into operator u v) x y bs t l = plain pc (i.Op into operator u v) x y bs t l
  put_stands pc (i.Bits into source low count) x y bs t l = plain pc (i.Bits into source low count) x y bs t l
  put_stands pc (i.Pos into) x y bs t l = plain pc (i.Pos into) x y bs t l
  put_stands pc (i.Jump target) x y bs t l = plain pc (i.Jump target) x y bs t l
  put_stands pc (i.JumpIf test target) x y bs t l = plain pc (i.JumpIf test target) x y bs t l
  put_stands pc (i.JumpUnless test target) x y bs t l = plain pc (i.JumpUnless test target) x y bs t l
  put_stands pc (i.Call first m k site) x y bs t l = plain pc (i.Call first m k site) x y bs t l
  put_stands pc i.Return x y bs t l = plain pc i.Return x y bs t l
  put_stands pc (i.Fetch into order width site) x y bs t l = plain pc (i.Fetch into order width site) x y bs t l
  put_stands pc (i.SkipK bytes site) x y bs t l = plain pc (i.SkipK bytes site) x y bs t l
  put_stands pc (i.Skip size site) x y bs t l = plain pc (i.Skip size site) x y bs t l
  put_stands pc i.Rest x y bs t l = plain pc i.Rest x y bs t l
  put_stands pc (i.Zeros site) x y bs t l = plain pc (i.Zeros site) x y bs t l
  put_stands pc (i.Zeroterm most width site) x y bs t l = plain pc (i.Zeroterm most width site) x y bs t l
  put_stands pc (i.NarrowK bytes site) x y bs t l = plain pc (i.NarrowK bytes site) x y bs t l
  put_stands pc (i.Narrow size site) x y bs t l = plain pc (i.Narrow size site) x y bs t l
  put_stands pc (i.Divides size step site) x y bs t l = plain pc (i.Divides size step site) x y bs t l
  put_stands pc (i.While target) x y bs t l = loop_at pc target x y bs t.0 t.1 l
  put_stands pc (i.Again target) x y bs t l = again_at pc target x y bs t.0 t.1 l
  put_stands pc (i.Widen site) x y bs t l = plain pc (i.Widen site) x y bs t l
  put_stands pc (i.Fail reason site) x y bs t l = plain pc (i.Fail reason site) x y bs t l
  put_stands pc (i.Get into cell) x y bs t l = plain pc (i.Get into cell) x y bs t l
  put_stands pc (i.Set source cell) x y bs t l = plain pc (i.Set source cell) x y bs t l
  put_stands pc i.Mark x y bs t l = plain pc i.Mark x y bs t l
  put_stands pc (i.Copy size buffer site) x y bs t l = plain pc (i.Copy size buffer site) x y bs t l
  put_stands pc (i.Left into) x y bs t l = plain pc (i.Left into) x y bs t l

  level_at : (pc : ℕ) (j : Instr) (y : Bool) (bs : List Block) → AreLevel y bs → AreLevel y (stated c n pc j bs)
  level_at pc j false [] l = absurd l
  level_at pc j false (b ∷ []) l = tt
  level_at pc j false (b ∷ a ∷ more) l = absurd l
  level_at pc j true [] l = absurd l
  level_at pc j true (b ∷ []) l = absurd l
  level_at pc j true (b ∷ a ∷ []) l = tt
  level_at pc j true (b ∷ a ∷ z ∷ more) l = absurd l

  plain_level : (pc : ℕ) (j : Instr) (x y : Bool) (bs : List Block) → x ≡ y → AreLevel y bs → AreLevel x (stated c n pc j bs)
  plain_level pc j x y bs e l = subst (λ z. AreLevel z (stated c n pc j bs)) (sym e) (level_at pc j y bs l)

  loop_level : (pc : ℕ) (x y : Bool) (bs : List Block) → x ≡ false → y ≡ true → AreLevel y bs → AreLevel x (looped_blocks c n pc bs)
  loop_level pc x false bs e f l = absurd (cc)
  loop_level pc x true [] e f l = absurd l
  loop_level pc x true (b ∷ []) e f l = absurd l
  loop_level pc x true (b ∷ a ∷ []) e f l = subst (λ z. AreLevel z (looped_blocks c n pc (b ∷ a ∷ []))) (sym e) tt
  loop_level pc x true (b ∷ a ∷ z ∷ more) e f l = absurd l

  again_level : (pc : ℕ) (x y : Bool) (bs : List Block) → x ≡ true → y ≡ false → AreLevel y bs → AreLevel x (Label pc Ends ∷ bs)
  again_level pc x true bs e f l = absurd (cc)
  again_level pc x false [] e f l = absurd l
  again_level pc x false (a ∷ []) e f l = subst (λ z. AreLevel z (Label pc Ends ∷ a ∷ [])) (sym e) tt
  again_level pc x false (b ∷ a ∷ more) e f l = absurd l

  pub put_level : (pc : ℕ) (j : Instr) (x y : Bool) (bs : List Block) → Turns (shape j) x y → AreLevel y bs → AreLevel x (put c n pc j bs)
  put_level pc (i.Const into value) x y bs t l = plain_level pc (i.Const into value) x y bs t l
  put_level pc (i.Member into source set) x y bs t l = plain_level pc (i.Member into source set) x y bs t l
  put_level pc (i.Op into operator u v) x y bs t l = plain_level pc (i.Op into operator u v) x y bs t l
  put_level pc (i.Bits into source low count) x y bs t l = plain_level pc (i.Bits into source low count) x y bs t l
  put_level pc (i.Pos into) x y bs t l = plain_level pc (i.Pos into) x y bs t l
  put_level pc (i.Jump target) x y bs t l = plain_level pc (i.Jump target) x y bs t l
  put_level pc (i.JumpIf test target) x y bs t l = plain_level pc (i.JumpIf test target) x y bs t l
  put_level pc (i.JumpUnless test target) x y bs t l = plain_level pc (i.JumpUnless test target) x y bs t l
  put_level pc (i.Call first m k site) x y bs t l = plain_level pc (i.Call first m k site) x y bs t l
  put_level pc i.Return x y bs t l = plain_level pc i.Return x y bs t l
  put_level pc (i.Fetch into order width site) x y bs t l = plain_level pc (i.Fetch into order width site) x y bs t l
  put_level pc (i.SkipK bytes site) x y bs t l = plain_level pc (i.SkipK bytes site) x y bs t l
  put_level pc (i.Skip size site) x y bs t l = plain_level pc (i.Skip size site) x y bs t l
  put_level pc i.Rest x y bs t l = plain_level pc i.Rest x y bs t l
  put_level pc (i.Zeros site) x y bs t l = plain_level pc (i.Zeros site) x y bs t l
  put_level pc (i.Zeroterm most width site) x y bs t l = plain_level pc (i.Zeroterm most width site) x y bs t l
  put_level pc (i.NarrowK bytes site) x y bs t l = plain_level pc (i.NarrowK bytes site) x y bs t l
  put_level pc (i.Narrow size site) x y bs t l = plain_level pc (i.Narrow size site) x y bs t l
  put_level pc (i.Divides size step site) x y bs t l = plain_level pc (i.Divides size step site) x y bs t l
  put_level pc (i.While target) x y bs t l = loop_level pc x y bs t.0 t.1 l
  put_level pc (i.Again target) x y bs t l = again_level pc x y bs t.0 t.1 l
  put_level pc (i.Widen site) x y bs t l = plain_level pc (i.Widen site) x y bs t l
  put_level pc (i.Fail reason site) x y bs t l = plain_level pc (i.Fail reason site) x y bs t l
  put_level pc (i.Get into cell) x y bs t l = plain_level pc (i.Get into cell) x y bs t l
  put_level pc (i.Set source cell) x y bs t l = plain_level pc (i.Set source cell) x y bs t l
  put_level pc i.Mark x y bs t l = plain_level pc i.Mark x y bs t l
  put_level pc (i.Copy size buffer site) x y bs t l = plain_level pc (i.Copy size buffer site) x y bs t l
  put_level pc (i.Left into) x y bs t l = plain_level pc (i.Left into) x y bs t l

  abbrev Goes : ℕ → Instr → List Block → List Block → Type 0
  Goes l j before bs = gone l before ≡ is_among (targets j) l || gone l bs

  plain_goes : (pc l : ℕ) (j : Instr) (y : Bool) (bs : List Block) → AreLevel y bs → Goes l j (stated c n pc j bs) bs
  plain_goes pc l j false [] h = absurd h
  plain_goes pc l j true [] h = absurd h
  plain_goes pc l j y (b ∷ more) h = ap (λ z. z || gone l more) (goes_rest c n l j b) ∙ or_assoc (is_among (targets j) l) (lines.goes l b) (gone l more)

  loop_goes : (pc t l : ℕ) (y : Bool) (bs : List Block) → y ≡ true → AreLevel y bs → Goes l (i.While t) (looped_blocks c n pc bs) bs
  loop_goes pc t l false bs f h = absurd (cc)
  loop_goes pc t l true [] f h = absurd h
  loop_goes pc t l true (b ∷ []) f h = absurd h
  loop_goes pc t l true (b ∷ a ∷ []) f h = or_assoc (lines.goes l b) (lines.goes l a) false
  loop_goes pc t l true (b ∷ a ∷ z ∷ more) f h = absurd h

  pub put_goes : (pc l : ℕ) (j : Instr) (x y : Bool) (bs : List Block) → Turns (shape j) x y → AreLevel y bs → Goes l j (put c n pc j bs) bs
  put_goes pc l (i.Const into value) x y bs t h = plain_goes pc l (i.Const into value) y bs h
  put_goes pc l (i.Member into source set) x y bs t h = plain_goes pc l (i.Member into source set) y bs h
  put_goes pc l (i.Op into operator u v) x y bs t h = plain_goes pc l (i.Op into operator u v) y bs h
  put_goes pc l (i.Bits into source low count) x y bs t h = plain_goes pc l (i.Bits into source low count) y bs h
  put_goes pc l (i.Pos into) x y bs t h = plain_goes pc l (i.Pos into) y bs h
  put_goes pc l (i.Jump target) x y bs t h = plain_goes pc l (i.Jump target) y bs h
  put_goes pc l (i.JumpIf test target) x y bs t h = plain_goes pc l (i.JumpIf test target) y bs h
  put_goes pc l (i.JumpUnless test target) x y bs t h = plain_goes pc l (i.JumpUnless test target) y bs h
  put_goes pc l (i.Call first m k site) x y bs t h = plain_goes pc l (i.Call first m k site) y bs h
  put_goes pc l i.Return x y bs t h = plain_goes pc l i.Return y bs h
  put_goes pc l (i.Fetch into order width site) x y bs t h = plain_goes pc l (i.Fetch into order width site) y bs h
  put_goes pc l (i.SkipK bytes site) x y bs t h = plain_goes pc l (i.SkipK bytes site) y bs h
  put_goes pc l (i.Skip size site) x y bs t h = plain_goes pc l (i.Skip size site) y bs h
  put_goes pc l i.Rest x y bs t h = plain_goes pc l i.Rest y bs h
  put_goes pc l (i.Zeros site) x y bs t h = plain_goes pc l (i.Zeros site) y bs h
  put_goes pc l (i.Zeroterm most width site) x y bs t h = plain_goes pc l (i.Zeroterm most width site) y bs h
  put_goes pc l (i.NarrowK bytes site) x y bs t h = plain_goes pc l (i.NarrowK bytes site) y bs h
  put_goes pc l (i.Narrow size site) x y bs t h = plain_goes pc l (i.Narrow size site) y bs h
  put_goes pc l (i.Divides size step site) x y bs t h = plain_goes pc l (i.Divides size step site) y bs h
  put_goes pc l (i.While target) x y bs t h = loop_goes pc target l y bs t.1 h
  put_goes pc l (i.Again target) x y bs t h = refl
  put_goes pc l (i.Widen site) x y bs t h = plain_goes pc l (i.Widen site) y bs h
  put_goes pc l (i.Fail reason site) x y bs t h = plain_goes pc l (i.Fail reason site) y bs h
  put_goes pc l (i.Get into cell) x y bs t h = plain_goes pc l (i.Get into cell) y bs h
  put_goes pc l (i.Set source cell) x y bs t h = plain_goes pc l (i.Set source cell) y bs h
  put_goes pc l i.Mark x y bs t h = plain_goes pc l i.Mark y bs h
  put_goes pc l (i.Copy size buffer site) x y bs t h = plain_goes pc l (i.Copy size buffer site) y bs h
  put_goes pc l (i.Left into) x y bs t h = plain_goes pc l (i.Left into) y bs h
