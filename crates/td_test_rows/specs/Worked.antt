-- Worked texts: each tree stands for its module, and what that means on messages (the place of the end, or the reason and the
-- frames of the failure; the cells; the places of the bytes that are read).
use Rattle.std.specs.Prelude.{◌≡◌, ℕ, List, [], ◌∷◌}
use Rattle.td_test_rows.specs.Imports.{Reason, NotEnough, Constraint, Impossible, ListSize, Padding, Action, Field, Switch, TraceFrame}
use Rattle.td_core.specs.declared.outcome.Verdict.TheVariants.{Accept, Reject}
use Rattle.td_core.specs.Outcome.{Behavior, Rejected}
use Rattle.td_elab_rules.specs.Modules.{module_of}
use Rattle.td_meaning.specs.Copies.{outcome}
use Rattle.td_meaning.specs.Rows.{id, behavior_of, accepts, frame_of}
use Rattle.td_test_rows.specs.WorkedTrees.{refined_tree, counted_tree, two_words_tree, last_word_tree, gap_tree, long_tree, units_tree, undivided_tree, casetype_tree, terminated_tree, checked_tree, one_cell_tree, bit_fields_tree, enum_values_tree, padding_tree, single_tree, copied_tree}
use Rattle.td_test_rows.specs.WorkedModules as module_for

abbrev fails : Reason → ℕ → List TraceFrame → List ℕ → List ℕ → Behavior
fails reason position trace cells reads = record { ending = Rejected reason position trace cells; reads = reads }

pub record AreWorked : Type 0 where
  pub refined : module_of refined_tree ≡ module_for.refined
  pub refined_means_1 : behavior_of module_for.refined [] (1 ∷ 0 ∷ 0 ∷ 3 ∷ []) ≡ accepts 4 [] (2 ∷ 3 ∷ [])
  pub refined_means_2 : behavior_of module_for.refined [] (1 ∷ 0 ∷ 0 ∷ 2 ∷ []) ≡ fails Constraint 2 (frame_of 2 (Field (id 1)) Constraint 2 ∷ []) [] (2 ∷ 3 ∷ [])
  pub refined_means_3 : behavior_of module_for.refined [] (1 ∷ 0 ∷ 0 ∷ []) ≡ fails NotEnough 2 (frame_of 2 (Field (id 1)) NotEnough 2 ∷ []) [] []
  pub refined_means_4 : behavior_of module_for.refined [] [] ≡ fails NotEnough 0 (frame_of 2 (Field (id 0)) NotEnough 0 ∷ []) [] []
  pub counted : module_of counted_tree ≡ module_for.counted
  pub counted_means : behavior_of module_for.counted (0 ∷ []) (3 ∷ 0 ∷ 0 ∷ 0 ∷ 0 ∷ 0 ∷ 0 ∷ 0 ∷ 0 ∷ 0 ∷ 0 ∷ 0 ∷ 0 ∷ 0 ∷ 0 ∷ 0 ∷ []) ≡ accepts 11 (8 ∷ []) (0 ∷ [])
  pub two_words : module_of two_words_tree ≡ module_for.two_words
  pub two_words_means : behavior_of module_for.two_words (0 ∷ []) (0 ∷ 0 ∷ 0 ∷ 0 ∷ 0 ∷ 0 ∷ 17 ∷ 34 ∷ 51 ∷ 68 ∷ []) ≡ accepts 10 (1144201745 ∷ []) (6 ∷ 7 ∷ 8 ∷ 9 ∷ [])
  pub last_word : module_of last_word_tree ≡ module_for.last_word
  pub last_word_means : behavior_of module_for.last_word [] (0 ∷ 0 ∷ 0 ∷ 0 ∷ 0 ∷ 0 ∷ 0 ∷ 0 ∷ 0 ∷ 0 ∷ 0 ∷ 0 ∷ 0 ∷ 0 ∷ 0 ∷ 0 ∷ 1 ∷ 0 ∷ 0 ∷ 0 ∷ 0 ∷ 0 ∷ 0 ∷ 0 ∷ []) ≡ accepts 24 [] (16 ∷ 17 ∷ 18 ∷ 19 ∷ 20 ∷ 21 ∷ 22 ∷ 23 ∷ [])
  pub gap : module_of gap_tree ≡ module_for.gap
  pub gap_means : behavior_of module_for.gap (0 ∷ []) (5 ∷ 0 ∷ 0 ∷ 0 ∷ 0 ∷ 0 ∷ 0 ∷ 0 ∷ 0 ∷ []) ≡ accepts 9 (5 ∷ []) (0 ∷ 8 ∷ [])
  pub long : module_of long_tree ≡ module_for.long
  pub long_means : behavior_of module_for.long [] (255 ∷ 255 ∷ 255 ∷ 255 ∷ []) ≡ fails NotEnough 4 (frame_of 2 (Field (id 1)) NotEnough 4 ∷ []) [] (0 ∷ 1 ∷ 2 ∷ 3 ∷ [])
  pub units : module_of units_tree ≡ module_for.units
  pub undivided : module_of undivided_tree ≡ module_for.undivided
  pub undivided_means : behavior_of module_for.undivided [] (0 ∷ 0 ∷ 0 ∷ 0 ∷ 0 ∷ 0 ∷ 0 ∷ 0 ∷ []) ≡ fails ListSize 0 (frame_of 1 (Field (id 0)) ListSize 0 ∷ []) [] []
  pub casetype : module_of casetype_tree ≡ module_for.casetype
  pub casetype_means : behavior_of module_for.casetype [] (7 ∷ 0 ∷ []) ≡ fails Impossible 1 (frame_of 3 Switch Impossible 1 ∷ frame_of 5 (Field (id 4)) Impossible 1 ∷ []) [] (0 ∷ [])
  pub terminated : module_of terminated_tree ≡ module_for.terminated
  pub terminated_means_1 : behavior_of module_for.terminated [] (65 ∷ 0 ∷ 66 ∷ 0 ∷ []) ≡ fails Constraint 0 (frame_of 1 (Field (id 0)) Constraint 0 ∷ []) [] (0 ∷ 1 ∷ 2 ∷ 3 ∷ [])
  pub terminated_means_2 : behavior_of module_for.terminated [] (65 ∷ 0 ∷ 66 ∷ []) ≡ fails NotEnough 0 (frame_of 1 (Field (id 0)) NotEnough 0 ∷ []) [] (0 ∷ 1 ∷ [])
  pub terminated_means_3 : behavior_of module_for.terminated [] (65 ∷ 0 ∷ 0 ∷ 0 ∷ []) ≡ accepts 4 [] (0 ∷ 1 ∷ 2 ∷ 3 ∷ [])
  pub checked : module_of checked_tree ≡ module_for.checked
  pub checked_means : behavior_of module_for.checked (0 ∷ []) (0 ∷ 0 ∷ []) ≡ fails Action 1 (frame_of 3 (Field (id 2)) Action 1 ∷ []) (9 ∷ []) (1 ∷ [])
  pub one_cell : module_of one_cell_tree ≡ module_for.one_cell
  pub one_cell_means : behavior_of module_for.one_cell (0 ∷ []) (0 ∷ []) ≡ accepts 1 (2 ∷ []) []
  pub bit_fields : module_of bit_fields_tree ≡ module_for.bit_fields
  pub bit_fields_means : behavior_of module_for.bit_fields (0 ∷ 0 ∷ []) (33 ∷ 33 ∷ []) ≡ accepts 2 (1 ∷ 2 ∷ []) (0 ∷ 1 ∷ [])
  pub enum_values : module_of enum_values_tree ≡ module_for.enum_values
  pub enum_values_means : behavior_of module_for.enum_values [] (2 ∷ 3 ∷ []) ≡ fails Constraint 1 (frame_of 2 (Field (id 1)) Constraint 1 ∷ []) [] (0 ∷ 1 ∷ [])
  pub padding : module_of padding_tree ≡ module_for.padding
  pub padding_means : behavior_of module_for.padding [] (5 ∷ 0 ∷ 0 ∷ 3 ∷ []) ≡ fails Padding 3 (frame_of 2 (Field (id 1)) Padding 1 ∷ []) [] (1 ∷ 2 ∷ 3 ∷ [])
  pub single : module_of single_tree ≡ module_for.single
  pub single_means_1 : behavior_of module_for.single [] (2 ∷ 0 ∷ 0 ∷ 0 ∷ []) ≡ fails ListSize 0 (frame_of 4 (Field (id 3)) ListSize 0 ∷ []) [] (0 ∷ [])
  pub single_means_2 : behavior_of module_for.single [] (3 ∷ 0 ∷ 0 ∷ 0 ∷ []) ≡ accepts 4 [] (0 ∷ [])
  pub copied : module_of copied_tree ≡ module_for.copied
  pub copied_means_1 : behavior_of module_for.copied (0 ∷ 0 ∷ 0 ∷ []) (3 ∷ 170 ∷ 187 ∷ 204 ∷ 9 ∷ []) ≡ accepts 5 (9 ∷ 1 ∷ 3 ∷ []) (0 ∷ 1 ∷ 2 ∷ 3 ∷ 4 ∷ [])
  pub copied_means_2 : outcome module_for.copied (record { number = 0 }) [] (0 ∷ []) (3 ∷ 170 ∷ 187 ∷ 204 ∷ 9 ∷ []) ≡ record { verdict = Accept 5; trace = []; cells = 9 ∷ []; copies = (170 ∷ 187 ∷ 204 ∷ []) ∷ [] }
  pub copied_means_3 : outcome module_for.copied (record { number = 0 }) [] (0 ∷ []) (3 ∷ 170 ∷ 187 ∷ 204 ∷ []) ≡ record { verdict = Reject NotEnough 4; trace = frame_of 7 (Field (id 6)) NotEnough 4 ∷ []; cells = 0 ∷ []; copies = (170 ∷ 187 ∷ 204 ∷ []) ∷ [] }
  pub copied_means_4 : outcome module_for.copied (record { number = 0 }) [] (0 ∷ []) (3 ∷ 170 ∷ 187 ∷ []) ≡ record { verdict = Reject NotEnough 1; trace = frame_of 3 (Field (id 2)) NotEnough 1 ∷ frame_of 7 (Field (id 2)) NotEnough 0 ∷ []; cells = 0 ∷ []; copies = [] ∷ [] }
