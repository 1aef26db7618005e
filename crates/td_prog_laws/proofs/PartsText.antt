-- The program for messages in pieces is text: its routines are those of the other program, and its helpers take as many arguments.
use Rattle.std.proofs.Common.{◌≡◌, ℕ, zero, suc, ◌+◌, ◌-◌, ◌*◌, ◌^◌, ◌<◌, ◌≤◌, List, [], ◌∷◌, length, map, Some, None, refl, sym, ap, ◌∙◌, arith, codes, drop}
use Rattle.std.specs.Prelude.{slice_get}
use Rattle.td_num.specs.Lists.{Each, AreApart}
use Rattle.td_num.proofs.Lists.{each_append}
use Rattle.td_ir.specs.declared.tables.Parts.{Parts}
use Rattle.td_prog.specs.Names.{IsIdentifier}
use Rattle.td_prog.specs.Syntax.{Var, Pos, Number, More, Room, Count, Block, Ends, Assign, Store, Byte, Member, Load, If, While, Label, Goto, Fail, Return, CallHelper, Call, Helper, Function, routine_params, routine_locals}
use Rattle.td_prog.specs.Text.{HasVariable, HelperTakes, IsDeclared, IsHelper, IsFunction, AreHelpers, AreFunctions, function_names}
use Rattle.td_prog_code.specs.Prelude.{prelude, big, little_helper}
use Rattle.td_prog_code.specs.PartsPrelude.{more_bytes, little_in_parts, copy_in_parts, parts_prelude, parts_program}
use Rattle.td_prog_code.specs.Program.{functions, program}
use Rattle.td_prog_text.specs.Names.{routine_name}
use Rattle.td_prog_laws.specs.Text.{ProgramIsText}
use Rattle.td_prog_laws.specs.PartsText.{PartsProgramIsText}
use Rattle.std.proofs.lemmas.Option.{same_Some}
use Rattle.td_prog_laws.proofs.Names.{all_identifiers, routines_identifiers, place, place_routine, named}

-- helpers of both programs take as many arguments
same_heads : (k args buffers : ℕ) → HelperTakes args buffers (slice_get prelude k) → HelperTakes args buffers (slice_get parts_prelude k)
same_heads zero args buffers h = h
same_heads (suc zero) args buffers h = h
same_heads (suc (suc zero)) args buffers h = h
same_heads (suc (suc (suc zero))) args buffers h = h
same_heads (suc (suc (suc (suc zero)))) args buffers h = h
same_heads (suc (suc (suc (suc (suc zero))))) args buffers h = h
same_heads (suc (suc (suc (suc (suc (suc zero)))))) args buffers h = h
same_heads (suc (suc (suc (suc (suc (suc (suc zero))))))) args buffers h = h
same_heads (suc (suc (suc (suc (suc (suc (suc (suc zero)))))))) args buffers h = h
same_heads (suc (suc (suc (suc (suc (suc (suc (suc (suc k))))))))) args buffers h = absurd h

module _ (c : Parts) (names : ℕ → List ℕ) where
  module _ (Has : Var → Type 0) (cells buffers helpers routines : ℕ) where
    declared_again : (b : Block) → IsDeclared (program c names) Has cells buffers helpers routines b
        → IsDeclared (parts_program c names) Has cells buffers helpers routines b
    declared_again Ends h = tt
    declared_again (Assign x e rest) h = (h.0, h.1, declared_again rest h.2)
    declared_again (Store k e rest) h = (h.0, h.1, declared_again rest h.2)
    declared_again (Byte b e f rest) h = (h.0, h.1, h.2, declared_again rest h.3)
    declared_again (Member x y numbers rest) h = (h.0, h.1, h.2, h.3, declared_again rest h.4)
    declared_again (Load rest) h = (h.0, declared_again rest h.1)
    declared_again (If e inner rest) h = (h.0, declared_again inner h.1, declared_again rest h.2)
    declared_again (While e inner rest) h = (h.0, declared_again inner h.1, declared_again rest h.2)
    declared_again (Label l rest) h = declared_again rest h
    declared_again (Goto l rest) h = declared_again rest h
    declared_again (Fail reason e ty field rest) h = (h.0, h.1, declared_again rest h.2)
    declared_again (Return e rest) h = (h.0, declared_again rest h.1)
    declared_again (CallHelper x helper es bs rest) h = (h.0, h.1, same_heads helper (length es) (length bs) h.2, h.3, h.4, declared_again rest h.5)
    declared_again (Call first params routine cs bs ty field rest) h = (h.0, h.1, h.2, h.3, h.4, h.5, h.6, h.7, declared_again rest h.8)

  functions_again : (n : ℕ) (fs : List Function) → AreFunctions (program c names) n fs → AreFunctions (parts_program c names) n fs
  functions_again n [] h = tt
  functions_again n (f ∷ fs) h = (again h.0, functions_again (n + 1) fs h.1)
    where
      again : IsFunction (program c names) n f → IsFunction (parts_program c names) n f
      again i = record {
        room = i.room;
        once = i.once;
        declared = declared_again (HasVariable (routine_params f) (routine_locals f)) f.cells f.buffers 9 n f.body i.declared;
        labels = i.labels;
      }

  -- Helpers
  more_declared : (n k left : ℕ) → 0 < n → k + left ≤ 8
      → IsDeclared (parts_program c names) (HasVariable (Pos ∷ []) (Number ∷ More ∷ [])) 0 0 n 0 (more_bytes k left)
  more_declared n k zero some l = (refl, tt)
  more_declared n k (suc left) some l =
      (refl, some, (refl, refl), ((refl, omega (arith, l)), tt), tt, (refl, (refl, (refl, omega (arith, l))), more_declared n (suc k) left some (omega (arith, l))))

  little_1 : IsHelper (parts_program c names) 1 (little_in_parts (codes "td_little_1") 1)
  little_1 = record {
    once = (refl, (refl, (refl, (refl, (refl, tt)))));
    labels = record { once = tt; behind = tt };
    declared = (refl, omega arith, (refl, refl), (refl, tt), tt, more_declared 1 1 0 (omega arith) (omega arith));
  }

  little_2 : IsHelper (parts_program c names) 2 (little_in_parts (codes "td_little_2") 2)
  little_2 = record {
    once = (refl, (refl, (refl, (refl, (refl, tt)))));
    labels = record { once = tt; behind = tt };
    declared = (refl, omega arith, (refl, refl), (refl, tt), tt, more_declared 2 1 1 (omega arith) (omega arith));
  }

  little_4 : IsHelper (parts_program c names) 3 (little_in_parts (codes "td_little_4") 4)
  little_4 = record {
    once = (refl, (refl, (refl, (refl, (refl, tt)))));
    labels = record { once = tt; behind = tt };
    declared = (refl, omega arith, (refl, refl), (refl, tt), tt, more_declared 3 1 3 (omega arith) (omega arith));
  }

  little_8 : IsHelper (parts_program c names) 4 (little_in_parts (codes "td_little_8") 8)
  little_8 = record {
    once = (refl, (refl, (refl, (refl, (refl, tt)))));
    labels = record { once = tt; behind = tt };
    declared = (refl, omega arith, (refl, refl), (refl, tt), tt, more_declared 4 1 7 (omega arith) (omega arith));
  }

  big_2 : IsHelper (parts_program c names) 5 (big (codes "td_big_2") 2)
  big_2 = record {
    once = (refl, (refl, (refl, (refl, tt))));
    labels = record { once = tt; behind = tt };
    declared = (refl, omega arith, (refl, refl), (refl, tt), tt, ((refl, omega arith), tt));
  }

  big_4 : IsHelper (parts_program c names) 6 (big (codes "td_big_4") 4)
  big_4 = record {
    once = (refl, (refl, (refl, (refl, tt))));
    labels = record { once = tt; behind = tt };
    declared = (refl, omega arith, (refl, refl), (refl, tt), tt, ((refl, omega arith), tt));
  }

  big_8 : IsHelper (parts_program c names) 7 (big (codes "td_big_8") 8)
  big_8 = record {
    once = (refl, (refl, (refl, (refl, tt))));
    labels = record { once = tt; behind = tt };
    declared = (refl, omega arith, (refl, refl), (refl, tt), tt, ((refl, omega arith), tt));
  }

  copy_is : IsHelper (parts_program c names) 8 copy_in_parts
  copy_is = record {
    once = (refl, (refl, (refl, (refl, (refl, (refl, tt))))));
    labels = record { once = tt; behind = (tt, tt) };
    declared = (
      (refl, refl),
      (refl, omega arith, (refl, refl), (refl, tt), tt, (omega arith, refl, refl, (refl, (refl, omega arith), (refl, (refl, omega arith), tt)))),
      (refl, tt),
    );
  }

  helpers_are : AreHelpers (parts_program c names) 1 (drop 1 parts_prelude)
  helpers_are = (little_1, (little_2, (little_4, (little_8, (big_2, (big_4, (big_8, (copy_is, tt))))))))

-- The functions' names
module _ (c : Parts) (few : length c.routines < 2 ^ 64) where
  abbrev helper_names : List (List ℕ)
  helper_names = map (λ (h : Helper). h.name) parts_prelude

  placed : (i : ℕ) (name : List ℕ) → slice_get (function_names (parts_program c (routine_name c))) i ≡ Some name → place helper_names name ≡ i
  placed zero name e = ap (place helper_names) (sym (same_Some (codes "td_byte") name e))
  placed (suc zero) name e = ap (place helper_names) (sym (same_Some (codes "td_little_1") name e))
  placed (suc (suc zero)) name e = ap (place helper_names) (sym (same_Some (codes "td_little_2") name e))
  placed (suc (suc (suc zero))) name e = ap (place helper_names) (sym (same_Some (codes "td_little_4") name e))
  placed (suc (suc (suc (suc zero)))) name e = ap (place helper_names) (sym (same_Some (codes "td_little_8") name e))
  placed (suc (suc (suc (suc (suc zero))))) name e = ap (place helper_names) (sym (same_Some (codes "td_big_2") name e))
  placed (suc (suc (suc (suc (suc (suc zero)))))) name e = ap (place helper_names) (sym (same_Some (codes "td_big_4") name e))
  placed (suc (suc (suc (suc (suc (suc (suc zero))))))) name e = ap (place helper_names) (sym (same_Some (codes "td_big_8") name e))
  placed (suc (suc (suc (suc (suc (suc (suc (suc zero)))))))) name e = ap (place helper_names) (sym (same_Some (codes "td_copy") name e))
  placed (suc (suc (suc (suc (suc (suc (suc (suc (suc k))))))))) name e =
      let r = named c (length c.routines) 0 k name e in
      let l = r.1 in
      let same : 0 + k ≡ k = omega arith in
      let last : 9 + k ≡ suc (suc (suc (suc (suc (suc (suc (suc (suc k)))))))) = omega arith in
      ap (place helper_names) (sym r.0 ∙ ap (routine_name c) same) ∙ place_routine helper_names c k (omega (arith, l, few)) ∙ last

  names_apart : AreApart (function_names (parts_program c (routine_name c)))
  names_apart i j name e f = sym (placed i name e) ∙ placed j name f

pub parts_program_is_text : ProgramIsText → PartsProgramIsText
parts_program_is_text texts c code sound numbers spelled =
    let plain = texts c code sound numbers spelled in
    record {
      helpers = helpers_are c (routine_name c);
      routines = functions_again c (routine_name c) 0 (functions c (routine_name c) 0 (length c.routines)) plain.routines;
      identifiers = each_append IsIdentifier (map (λ (h : Helper). h.name) parts_prelude)
          (map (λ (f : Function). f.name) (functions c (routine_name c) 0 (length c.routines)))
          (all_identifiers (map (λ (h : Helper). h.name) parts_prelude) refl)
          (routines_identifiers c spelled.spelled (length c.routines) 0 (let few = spelled.few in omega (arith, few)));
      apart = names_apart c spelled.few;
      strings = plain.strings;
    }
