-- What is read can be written: code of version 2 and 3, and that of version 1, upgraded, is within the limits of version 4.
use Rattle.std.proofs.Common.{◌≡◌, ℕ, zero, suc, ◌-◌, ◌^◌, ◌≤◌, ◌<◌, Bool, true, false, ◌&&◌, ◌||◌, not, List, [], ◌∷◌, length, map, take, drop, refl, sym, subst, ◌∙◌, arith}
use Rattle.std.specs.Prelude.{nat_le, nat_lt, ◌==◌, cond}
use Rattle.std.proofs.lemmas.Bool.{leb-true, le-leb}
use Rattle.td_num.specs.Lists.{Each}
use Rattle.td_image.specs.Imports.{Instr, Parts, Site, Routine}
use Rattle.td_ir.specs.declared.instructions.Instr.TheVariants as i
use Rattle.td_ir.specs.Tables.{site_of, first_of, end_of}
use Rattle.td_image_upgrade.specs.Upgrade.{used_by, renumbered, routine_code, number_in, own_code, code_below, sites_below, upgraded}
use Rattle.td_image_upgrade.specs.Laws.{IsDivided}
use Rattle.td_image_upgrade.specs.declared.upgrade.TheConstants.{NO_SITE}
use Rattle.td_image_upgrade.proofs.Sites.{few_sites, few_used, end_within, code_long}
use Rattle.td_ir.proofs.Begins.{begin_next}
use Rattle.td_ir.specs.WellFormed.{IsCode}
use Rattle.std.proofs.lemmas.List.{length-take}
use Rattle.td_image_upgrade.proofs.Places.{place_within}
use Rattle.td_image.specs.declared.limits.TheConstants.{MOST_ROWS, FIRST_ROWS, MOST_INSTRUCTIONS, FIRST_INSTRUCTIONS, MOST_NUMBERS, FIRST_NUMBERS, MOST_MAPPED}
use Rattle.td_image.specs.declared.version.ImageVersion.{ImageVersion}
use Rattle.td_image.specs.declared.version.ImageVersion.TheVariants.{First, Second, Third, Fourth}
use Rattle.td_image.specs.Versions.{most_mapped}
use Rattle.td_image.specs.declared.version.Spelled.{Spelled}
use Rattle.td_image.specs.declared.routines.Room.{Room}
use Rattle.td_image.specs.Format.{Format, all_fit}
use Rattle.td_names.specs.Names.{is_seen, with_name}
use Rattle.td_image.specs.Names.{is_name, are_two_names}
use Rattle.td_ir.specs.Fields.{fields_of}
use Rattle.td_image.specs.Image as format
use Rattle.td_image.specs.Within.{HasSmallOperands}
use Rattle.td_image.specs.Answer.{written, code_of, code_in}
use Rattle.td_image.proofs.Within.{instruction_fits, each_fits, site_fits, most_fits}
use Rattle.td_num.proofs.Lists.{each_by as each_at}
use Rattle.td_image.proofs.Fitting.{FitsAs, is_divided, fit_in}
use Rattle.td_image.proofs.Written.{as_written}
use Rattle.td_num.proofs.Lists.{each_append}
use Rattle.td_num.proofs.Truths.{both_true as both}

-- operands of what fits are small
small_of : (v : ImageVersion) (j : Instr) → (format.instruction v).Fits j → HasSmallOperands (fields_of j)
unfolding format.fields
small_of v j (number, (x, (a, (b, (c, (t, (s, k))))))) = record { x = x.0; a = a.0; b = b.0; c = c.0; t = t.0; site = s.0; k = k.0 }

and_both : (a b : Bool) → a ≡ true → b ≡ true → (a && b) ≡ true
and_both true b e f = f
and_both false b e f = absurd cc

-- ---- all of a list

fits_each : {A : Type 0} (g : Format A) (xs : List A) → all_fit (λ (s : Unit {0}). g) (λ s x. s) tt xs → Each g.Fits xs
unfolding all_fit
fits_each g [] fits = tt
fits_each g (x ∷ xs) fits = (fits.0, fits_each g xs fits.1)

each_take : {A : Type 0} (P : A → Type 0) (n : ℕ) (xs : List A) → Each P xs → Each P (take n xs)
each_take P zero xs h = tt
each_take P (suc n) [] h = tt
each_take P (suc n) (x ∷ xs) h = (h.0, each_take P n xs h.1)

each_drop : {A : Type 0} (P : A → Type 0) (n : ℕ) (xs : List A) → Each P xs → Each P (drop n xs)
each_drop P zero xs h = h
each_drop P (suc n) [] h = tt
each_drop P (suc n) (x ∷ xs) h = each_drop P n xs h.1

each_map_to : {A B : Type 0} (P : A → Type 0) (Q : B → Type 0) (f : A → B) → ((x : A) → P x → Q (f x)) → (xs : List A) → Each P xs → Each Q (map f xs)
each_map_to P Q f to [] h = tt
each_map_to P Q f to (x ∷ xs) h = (to x h.0, each_map_to P Q f to xs h.1)

-- ---- instructions with other sites

module _ (g : ℕ → ℕ) (G : (k : ℕ) → g k < 2 ^ 32) where
  renumbered_small : (j : Instr) → HasSmallOperands (fields_of j) → HasSmallOperands (fields_of (renumbered g j))
  renumbered_small (i.Const into value) h = h
  renumbered_small (i.Member into source set) h = h
  renumbered_small (i.Op into operator left right) h = h
  renumbered_small (i.Bits into source low count) h = h
  renumbered_small (i.Pos into) h = h
  renumbered_small (i.Jump target) h = h
  renumbered_small (i.JumpIf test target) h = h
  renumbered_small (i.JumpUnless test target) h = h
  renumbered_small (i.Call first routine m site) h = record { x = h.x; a = h.a; b = h.b; c = h.c; t = h.t; site = G site; k = h.k }
  renumbered_small i.Return h = h
  renumbered_small (i.Fetch into order width site) h = record { x = h.x; a = h.a; b = h.b; c = h.c; t = h.t; site = G site; k = h.k }
  renumbered_small (i.SkipK bytes site) h = record { x = h.x; a = h.a; b = h.b; c = h.c; t = h.t; site = G site; k = h.k }
  renumbered_small (i.Skip size site) h = record { x = h.x; a = h.a; b = h.b; c = h.c; t = h.t; site = G site; k = h.k }
  renumbered_small i.Rest h = h
  renumbered_small (i.Zeros site) h = record { x = h.x; a = h.a; b = h.b; c = h.c; t = h.t; site = G site; k = h.k }
  renumbered_small (i.Zeroterm bound width site) h = record { x = h.x; a = h.a; b = h.b; c = h.c; t = h.t; site = G site; k = h.k }
  renumbered_small (i.NarrowK bytes site) h = record { x = h.x; a = h.a; b = h.b; c = h.c; t = h.t; site = G site; k = h.k }
  renumbered_small (i.Narrow size site) h = record { x = h.x; a = h.a; b = h.b; c = h.c; t = h.t; site = G site; k = h.k }
  renumbered_small (i.Divides size step site) h = record { x = h.x; a = h.a; b = h.b; c = h.c; t = h.t; site = G site; k = h.k }
  renumbered_small (i.While target) h = h
  renumbered_small (i.Again target) h = h
  renumbered_small (i.Widen site) h = record { x = h.x; a = h.a; b = h.b; c = h.c; t = h.t; site = G site; k = h.k }
  renumbered_small (i.Fail reason site) h = record { x = h.x; a = h.a; b = h.b; c = h.c; t = h.t; site = G site; k = h.k }
  renumbered_small (i.Get into cell) h = h
  renumbered_small (i.Set source cell) h = h
  renumbered_small i.Mark h = h
  renumbered_small (i.Copy size buffer site) h = record { x = h.x; a = h.a; b = h.b; c = h.c; t = h.t; site = G site; k = h.k }
  renumbered_small (i.Left into) h = h

  renumbered_fits : (v : ImageVersion) (j : Instr) → (format.instruction v).Fits j → (format.instruction Fourth).Fits (renumbered g j)
  renumbered_fits v j h = instruction_fits (renumbered g j) (renumbered_small j (small_of v j h))

module _ (p : Parts) (D : IsDivided p) where
  number_by : (b : Bool) (x : ℕ) → x < 2 ^ 32 → cond b x NO_SITE < 2 ^ 32
  number_by true x h = h
  number_by false x h = omega arith

  number_small : (n : ℕ) → n < length p.routines → (k : ℕ) → number_in p n k < 2 ^ 32
  number_small n lt k =
      let u = few_used (length p.sites) (routine_code p n) [] in
      let c = length-take (end_of p n - first_of p n) (drop (first_of p n) p.instructions) in
      let b = begin_next p n in
      let s = few_sites p n in
      let w = end_within p D n lt in
      let at = place_within k (used_by p n) in
      number_by (nat_lt k (length p.sites)) _ (omega (arith, u, c, b, s, w, at, D.few))

  code_fits : (r : ℕ) → r ≤ length p.routines → Each (format.instruction First).Fits p.instructions → Each (format.instruction Fourth).Fits (code_below p r)
  code_fits zero le h = tt
  code_fits (suc r) le h =
      each_append (format.instruction Fourth).Fits (code_below p r) (own_code p r) (code_fits r (omega (arith, le)) h)
      (each_map_to (format.instruction First).Fits (format.instruction Fourth).Fits (renumbered (number_in p r)) (renumbered_fits (number_in p r) (number_small r (omega (arith, le))) First) (routine_code p r)
      (each_take (format.instruction First).Fits (end_of p r - first_of p r) (drop (first_of p r) p.instructions) (each_drop (format.instruction First).Fits (first_of p r) p.instructions h)))

-- ---- larger limits

rows_more : (n : ℕ) → (format.up_to FIRST_ROWS).Fits n → (format.up_to MOST_ROWS).Fits n
rows_more n h = let l = leb-true n FIRST_ROWS h.1 in (h.0, le-leb n MOST_ROWS (omega (arith, l)))

sets_more : (left more : ℕ) (xss : List (List ℕ)) → left ≤ more → all_fit format.set (λ left x. left - length x) left xss → all_fit format.set (λ left x. left - length x) more xss
unfolding all_fit format.set
sets_more left more [] le h = tt
sets_more left more (xs ∷ xss) le h =
    let l = leb-true (length xs) left h.0.0.1 in
    (((h.0.0.0, le-leb (length xs) more (omega (arith, l, le))), h.0.1), sets_more (left - length xs) (more - length xs) xss (omega (arith, le)) h.1)

-- ---- what fits in a version fits in version 4

all_more : {S A : Type 0} (f g : S → Format A) (next : S → A → S) → ((s : S) (x : A) → (f s).Fits x → (g s).Fits x) → (s : S) (xs : List A) → all_fit f next s xs → all_fit g next s xs
unfolding all_fit
all_more f g next more s [] h = tt
all_more f g next more s (x ∷ xs) h = (more s x h.0, all_more f g next more (next s x) xs h.1)

times_more : {A : Type 0} (f g : Format A) → ((x : A) → f.Fits x → g.Fits x) → (xs : List A) → all_fit (λ (s : Unit {0}). f) (λ s x. s) tt xs → all_fit (λ (s : Unit {0}). g) (λ s x. s) tt xs
times_more f g more xs h = all_more (λ (s : Unit {0}). f) (λ (s : Unit {0}). g) (λ s x. s) (λ s. more) tt xs h

few_mapped : (v : ImageVersion) (n : ℕ) → n ≤ most_mapped v → n ≤ MOST_MAPPED
few_mapped First n le = omega (arith, le)
few_mapped Second n le = omega (arith, le)
few_mapped Third n le = le
few_mapped Fourth n le = le

map_more : (v : ImageVersion) (mapped : List ℕ) → (format.map_format v).Fits mapped → (format.map_format Fourth).Fits mapped
unfolding format.map_format
map_more v mapped h = ((h.0.0, le-leb (length mapped) MOST_MAPPED (few_mapped v (length mapped) (leb-true (length mapped) (most_mapped v) h.0.1))), h.1)

no_buffers : (rooms : List ℕ) → rooms ≡ [] → (format.buffers Fourth).Fits rooms
unfolding format.rooms all_fit
no_buffers [] e = ((omega arith, refl), (refl, tt))
no_buffers (x ∷ xs) e = absurd (cc e)

buffers_more : (v : ImageVersion) (rooms : List ℕ) → (format.buffers v).Fits rooms → (format.buffers Fourth).Fits rooms
buffers_more First rooms h = no_buffers rooms h
buffers_more Second rooms h = no_buffers rooms h
buffers_more Third rooms h = h
buffers_more Fourth rooms h = h

routine_more : (v : ImageVersion) (names : ℕ) (room : Room) (r : Routine) → (format.routine v names room).Fits r → (format.routine Fourth names room).Fits r
unfolding format.routine
routine_more v names room r (name, (params, (cells, (registers, (l, buffers))))) = (name, (params, (cells, (registers, (l, buffers_more v r.buffers buffers)))))

instruction_more : (v : ImageVersion) (j : Instr) → (format.instruction v).Fits j → (format.instruction Fourth).Fits j
instruction_more v j h = instruction_fits j (small_of v j h)

name_more : (seen : List (List ℕ)) (name : List ℕ) → (format.name Second seen).Fits name → (format.name Fourth seen).Fits name
unfolding format.name
name_more seen name h = h

site_more : (names routines : ℕ) (s : Site) → (format.site Second names routines).Fits s → (format.site Fourth names routines).Fits s
unfolding format.site
site_more names routines s h = h

-- a name of version 1 is one of each version
name_again : (name : List ℕ) (rest more : Bool) → ((is_name name || false) && rest) ≡ true → ((is_name name || more) && rest) ≡ true
name_again name rest more h = by (is_name name) rest h
  where
    by : (b r : Bool) → ((b || false) && r) ≡ true → ((b || more) && r) ≡ true
    by true r e = e
    by false r e = absurd cc

names_again : (seen xs : List (List ℕ)) → all_fit (format.name First) with_name seen xs → all_fit (format.name Fourth) with_name seen xs
unfolding all_fit format.name
names_again seen [] h = tt
names_again seen (x ∷ xs) h = ((h.0.0, (h.0.1.0, name_again x (not (is_seen seen x)) (are_two_names x) h.0.1.1)), names_again (with_name seen x) xs h.1)

upgraded_with : (p : Parts) → IsDivided p → IsCode (upgraded p) → FitsAs First p → FitsAs Fourth (upgraded p)
unfolding format.image format.header
upgraded_with p D C ((m, (o, (z, (n, (s, (a, (t, (r, (e, i))))))))), (names, (sites, (maps, (sets, (routines, (entries, instructions))))))) =
    let ns = length p.names in
    let rs = length p.routines in
    let same : length (code_below p rs) ≡ length p.instructions = code_long p D rs (omega arith) ∙ D.whole in
    let ok = both (nat_le (length p.instructions) FIRST_INSTRUCTIONS) (nat_lt 0 rs || (length p.instructions == 0)) i.1 in
    let few = leb-true (length p.instructions) FIRST_INSTRUCTIONS ok.0 in
    let more = le-leb (length p.instructions) MOST_INSTRUCTIONS (omega (arith, few)) in
    let count = subst (λ (l : ℕ). (l < 2 ^ 32) × ((nat_le l MOST_INSTRUCTIONS && (nat_lt 0 rs || (l == 0))) ≡ true)) (sym same) (i.0, and_both _ _ more ok.1) in
    let sites_few = few_sites p rs in
    let row : length (sites_below p rs) ≤ MOST_ROWS = omega (arith, sites_few, D.whole, few) in
    let ns_few = leb-true ns FIRST_ROWS n.1 in
    let rs_few = leb-true rs FIRST_ROWS r.1 in
    let new = each_at (format.site Fourth ns rs).Fits (sites_below p rs) _ (λ k lt. site_fits ns rs (site_of (upgraded p) k) (omega (arith, ns_few)) (omega (arith, rs_few)) (C.sites k lt)) in
    let own = all_more (format.routine First ns) (format.routine Fourth ns) format.after_routine (routine_more First ns) (record { left = length p.instructions; more = rs }) p.routines routines.1 in
    let mapped = times_more (format.map_format First) (format.map_format Fourth) (map_more First) p.maps maps.1 in
    let left = subst (λ (l : ℕ). all_fit (format.routine Fourth ns) format.after_routine (record { left = l; more = rs }) p.routines) (sym same) own in (
      (m, ((omega arith, refl), (z, (rows_more _ n, (most_fits (length (sites_below p rs)) MOST_ROWS row (omega arith), (rows_more _ a, (rows_more _ t, (rows_more _ r, (rows_more _ e, count))))))))),
      ((names.0, names_again [] p.names names.1), ((refl, each_fits (format.site Fourth ns rs) (sites_below p rs) new), ((maps.0, mapped), ((sets.0, sets_more FIRST_NUMBERS MOST_NUMBERS p.sets (omega arith) sets.1), ((routines.0, left), (entries, (refl, each_fits (format.instruction Fourth) (code_below p rs) (code_fits p D rs (omega arith) (fits_each (format.instruction First) p.instructions instructions.1))))))))),
    )

second_again : (p : Parts) → FitsAs Second p → FitsAs Fourth p
unfolding format.image format.header
second_again p ((m, (o, (z, counts))), (names, (sites, (maps, (sets, (routines, (entries, instructions))))))) =
    let ns = length p.names in
    let rs = length p.routines in (
      (m, ((omega arith, refl), (z, counts))),
      (
        (names.0, all_more (format.name Second) (format.name Fourth) with_name name_more [] p.names names.1),
        (
          (sites.0, times_more (format.site Second ns rs) (format.site Fourth ns rs) (site_more ns rs) p.sites sites.1),
          (
            (maps.0, times_more (format.map_format Second) (format.map_format Fourth) (map_more Second) p.maps maps.1),
            (
              sets,
              (
                (routines.0, all_more (format.routine Second ns) (format.routine Fourth ns) format.after_routine (routine_more Second ns) (record { left = length p.instructions; more = rs }) p.routines routines.1),
                (entries, (instructions.0, times_more (format.instruction Second) (format.instruction Fourth) (instruction_more Second) p.instructions instructions.1)),
              ),
            ),
          ),
        ),
      ),
    )

-- but for its instructions nothing of an image of version 3 is another in version 4
third_again : (p : Parts) → FitsAs Third p → FitsAs Fourth p
unfolding format.image format.header format.name format.site format.map_format format.rooms format.routine
third_again p ((m, (o, (z, counts))), (names, (sites, (maps, (sets, (routines, (entries, instructions))))))) =
    let more = times_more (format.instruction Third) (format.instruction Fourth) (instruction_more Third) p.instructions instructions.1 in
    ((m, ((omega arith, refl), (z, counts))), (names, (sites, (maps, (sets, (routines, (entries, (instructions.0, more))))))))

fits_again : (v : ImageVersion) (p : Parts) → FitsAs v p → FitsAs Fourth (code_in v p)
fits_again First p fits = upgraded_with p (is_divided p fits) (fit_in First p fits) fits
fits_again Second p fits = second_again p fits
fits_again Third p fits = third_again p fits
fits_again Fourth p fits = fits

-- what is read can be written
pub written_again : (s : Spelled) → format.image.Fits s → format.image.Fits (written (code_of s))
written_again s fits = as_written (code_of s) (fits_again s.version s.parts fits)
