use Rattle.std.proofs.Common.{◌≡◌, ◌∙◌, ◌&&◌, ◌+◌, ◌≤◌, ℕ, Bool, false, List, length, take, drop, refl, sym, ap, arith}
use Rattle.std.proofs.lemmas.Bool.{and_right}
use Rattle.td_num.proofs.Truths.{all_dropped}
use Rattle.td_image.specs.Names as names
use Rattle.td_image.proofs.names.are_two_names.Goals as goal
use Rattle.td_image.proofs.names.are_two_names.Goals.{then-dot-text, else-dot-text}

abbrev two_at : List ℕ → ℕ → Bool
two_at name dot = names.is_plain (take dot name) && names.is_plain (drop (dot + 1) name)

-- what stands before the dot is no plain name
first_fails : (name : List ℕ) (dot : ℕ) → names.is_plain (take dot name) ≡ false → two_at name dot ≡ false
first_fails name dot h = ap (λ b. b && names.is_plain (drop (dot + 1) name)) h

-- behind the end stands no name
no_dot : (name : List ℕ) (dot : ℕ) → length name ≤ dot → two_at name dot ≡ false
no_dot name dot le = ap (λ l. names.is_plain (take dot name) && names.is_plain l) (all_dropped name (dot + 1) (omega (arith, le))) ∙ and_right (names.is_plain (take dot name)) false refl

-- src/names.rt:56:1
pub returns-else-is_plain : goal.returns-else-is_plain
returns-else-is_plain c =
    let at = ap (λ d. two_at c.args.text.now d) c.dot_of-dot.ensures in
    elim c.if-dot-text.branch [
      | then-dot-text w ↦ c.if-is_plain.false ∙ sym (first_fails c.args.text.now c.dot_of-dot.result (sym w.is_plain.ensures ∙ sym w.value-is ∙ c.if-is_plain.false)) ∙ at
      | else-dot-text w ↦ c.if-is_plain.false ∙ sym (no_dot c.args.text.now c.dot_of-dot.result w.if-dot-text.false) ∙ at
    ]
