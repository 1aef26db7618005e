-- A unit's parts, one by one.
use Rattle.std.proofs.Common.{◌≡◌, ℕ, suc, ◌+◌, ◌-◌, take, length-drop, true, false, List, [], ◌∷◌, ◌++◌, length, drop, append_assoc, refl, sym, ap, ◌∙◌, arith}
use Rattle.std.proofs.Math.Seq.{drop-append_seam, take-length}
use Rattle.td_num.specs.Numbers.{bytes_in}
use Rattle.td_write.specs.Imports.{NumberType, Part, Reason, Shape, Range, Broken, Long}
use Rattle.td_core.specs.declared.outcome.TraceFrame.{TraceFrame}
use Rattle.td_core.specs.Outcome.{Accepted, Rejected}
use Rattle.td_write_values.specs.Datum.{Datum, Number, Sequence, Bytes, Empty}
use Rattle.td_write_values.specs.Bytes.{fits}
use Rattle.td_write_values.specs.Writing.{Tests, Written, Refused, wanted, tested, has_room, parts_written}
use Rattle.td_write.specs.Writes.{IsNumber}

module _ (tests : Tests) (t : NumberType) (part : Part) (parts : List Part) (env places path : List ℕ) (i start : ℕ) (cells : List ℕ) (go : List ℕ → List ℕ → ℕ → List ℕ → List Datum → Written) where
  pub part_missing : (vs : List Datum) → vs ≡ [] → parts_written tests t (part ∷ parts) env places path i start cells vs go ≡ Refused Shape path
  unfolding parts_written
  part_missing vs e = ap (λ ws. parts_written tests t (part ∷ parts) env places path i start cells ws go) e

  pub part_shape : (vs rest : List Datum) (v : Datum) → vs ≡ v ∷ rest → (IsNumber v → ⊥) → parts_written tests t (part ∷ parts) env places path i start cells vs go ≡ Refused Shape (path ++ i ∷ [])
  unfolding parts_written
  part_shape vs rest (Number n) e h = absurd (h tt)
  part_shape vs rest (Sequence ws) e h = ap (λ ws. parts_written tests t (part ∷ parts) env places path i start cells ws go) e
  part_shape vs rest (Bytes bytes) e h = ap (λ ws. parts_written tests t (part ∷ parts) env places path i start cells ws go) e
  part_shape vs rest Empty e h = ap (λ ws. parts_written tests t (part ∷ parts) env places path i start cells ws go) e

  next : ℕ → List Datum → List ℕ → Written
  next n rest cells = parts_written tests t parts (env ++ n ∷ []) places path (suc i) start cells rest (λ ns. go (n ∷ ns))

  part_is : (vs rest : List Datum) (n : ℕ) → vs ≡ Number n ∷ rest → parts_written tests t (part ∷ parts) env places path i start cells vs go
      ≡ wanted (fits t part.bits n) Range (path ++ i ∷ []) (wanted (has_room start (bytes_in t.width)) Long (path ++ i ∷ []) (tested (tests.checked part (env ++ n ∷ []) places start (start + bytes_in t.width) cells).ending (path ++ i ∷ []) (next n rest)))
  unfolding parts_written next
  part_is vs rest n e = ap (λ ws. parts_written tests t (part ∷ parts) env places path i start cells ws go) e

  pub part_range : (vs rest : List Datum) (n : ℕ) → vs ≡ Number n ∷ rest → fits t part.bits n ≡ false → parts_written tests t (part ∷ parts) env places path i start cells vs go ≡ Refused Range (path ++ i ∷ [])
  part_range vs rest n e f =
      part_is vs rest n e ∙ ap (λ b. wanted b Range (path ++ i ∷ []) (wanted (has_room start (bytes_in t.width)) Long (path ++ i ∷ []) (tested (tests.checked part (env ++ n ∷ []) places start (start + bytes_in t.width) cells).ending (path ++ i ∷ []) (next n rest)))) f

  pub part_long : (vs rest : List Datum) (n : ℕ) → vs ≡ Number n ∷ rest → fits t part.bits n ≡ true → has_room start (bytes_in t.width) ≡ false → parts_written tests t (part ∷ parts) env places path i start cells vs go ≡ Refused Long (path ++ i ∷ [])
  part_long vs rest n e f r =
      part_is vs rest n e ∙ (λ k. wanted (f k) Range (path ++ i ∷ []) (wanted (r k) Long (path ++ i ∷ []) (tested (tests.checked part (env ++ n ∷ []) places start (start + bytes_in t.width) cells).ending (path ++ i ∷ []) (next n rest))))

  pub part_broken : (vs rest : List Datum) (n q : ℕ) (reason : Reason) (trace : List TraceFrame) (more : List ℕ) → vs ≡ Number n ∷ rest → fits t part.bits n ≡ true → has_room start (bytes_in t.width) ≡ true
      → (tests.checked part (env ++ n ∷ []) places start (start + bytes_in t.width) cells).ending ≡ Rejected reason q trace more → parts_written tests t (part ∷ parts) env places path i start cells vs go ≡ Refused (Broken reason) (path ++ i ∷ [])
  part_broken vs rest n q reason trace more e f r o =
      part_is vs rest n e ∙ (λ k. wanted (f k) Range (path ++ i ∷ []) (wanted (r k) Long (path ++ i ∷ []) (tested (o k) (path ++ i ∷ []) (next n rest))))

  pub part_passed : (vs rest : List Datum) (n q : ℕ) (more : List ℕ) → vs ≡ Number n ∷ rest → fits t part.bits n ≡ true → has_room start (bytes_in t.width) ≡ true
      → (tests.checked part (env ++ n ∷ []) places start (start + bytes_in t.width) cells).ending ≡ Accepted q more
      → parts_written tests t (part ∷ parts) env places path i start cells vs go ≡ parts_written tests t parts (env ++ n ∷ []) places path (i + 1) start more rest (λ ns. go (n ∷ ns))
  unfolding next
  part_passed vs rest n q more e f r o =
      let at : suc i ≡ i + 1 = omega arith in
      part_is vs rest n e ∙ (λ k. wanted (f k) Range (path ++ i ∷ []) (wanted (r k) Long (path ++ i ∷ []) (tested (o k) (path ++ i ∷ []) (next n rest))))
      ∙ ap (λ j. parts_written tests t parts (env ++ n ∷ []) places path j start more rest (λ ns. go (n ∷ ns))) at

-- the values of a unit so far, and one more
pub one_value : (old env new : List ℕ) (first n : ℕ) → first ≡ length old → env ≡ old ++ drop first env → new ≡ env ++ n ∷ [] → (drop first new ≡ drop first env ++ n ∷ []) × (new ≡ old ++ drop first new)
one_value old env new first n here scope grown =
    let whole : new ≡ old ++ (drop first env ++ n ∷ []) = grown ∙ ap (λ x. x ++ n ∷ []) scope ∙ append_assoc old (drop first env) (n ∷ []) in
    let rest : drop first new ≡ drop first env ++ n ∷ [] = (λ k. drop (here k) (whole k)) ∙ drop-append_seam old (drop first env ++ n ∷ []) in
    (rest, whole ∙ ap (λ x. old ++ x) (sym rest))

pub parts_none : (tests : Tests) (t : NumberType) (ps : List Part) (env places path : List ℕ) (i start : ℕ) (cells : List ℕ) (vs : List Datum) (go : List ℕ → List ℕ → ℕ → List ℕ → List Datum → Written) → ps ≡ [] → parts_written tests t ps env places path i start cells vs go ≡ go [] env i cells vs
unfolding parts_written
parts_none tests t ps env places path i start cells vs go e = ap (λ qs. parts_written tests t qs env places path i start cells vs go) e

pub all_left : (first : ℕ) (xs env : List ℕ) → xs ≡ env → take (length xs - first) (drop first xs) ≡ drop first env
all_left first xs env e = ap (λ n. take n (drop first xs)) (sym (length-drop first xs)) ∙ take-length (drop first xs) ∙ ap (drop first) e
