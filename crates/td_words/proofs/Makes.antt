-- How the host makes seats, gathers them, and learns of the history. Cited by other crates.
use Rattle.std.proofs.Common.{◌≡◌, ◌≢◌, ◌⊎◌, ℕ, zero, suc, ◌+◌, ◌<◌, Bool, eqb, cond, eq-eqb, ne_eqb, List, [], ◌∷◌, ◌++◌, length, set, drop, refl, sym, ap, ◌∙◌, subst, inl, inr, ⊎_elim, arith, length-append}
use mathlib.Core.Option.{Option, none, some, some-injective, some-ne-none}
use mathlib.Core.Logic.{dite}
use native.Mathlib.Decide.{ℕ_discrete, dec_lt}
use lib.ListN.{get_elem?}
use Rattle.atomic_table.specs.Table.{State, step, keeps, Allows, Splits, Joins, opening}
use Rattle.atomic_table.proofs.Lists.{at_set, set_else, set_again, at_longer, at_last}
use Rattle.td_num.proofs.Lists.{set_at}
use Rattle.td_words.specs.declared.view.SeatView.{SeatView}
use Rattle.td_words.specs.declared.view.HostView.{HostView}
use Rattle.td_words.specs.declared.view.View.{View}
use Rattle.td_words.specs.declared.view.View.TheVariants.{Host, Seat, Spent}
use Rattle.td_words.specs.Views.{seat_view, host_view, one_more, new_seat, with_ended}
use Rattle.td_words.specs.Rule.{seat_count, seats_out, IsInHistory, IsPlaced, IsHeld, KeepsHistory, seat_in, host_in, IsSeat, IsHost, Holding, Learned}
use Rattle.td_words.specs.Gathered.{Ended, Apart, IsHistoryOf}
use Rattle.td_words.proofs.Steps.{set_same, seats_out_set, seats_out-push, seat_not_host, seat_is, two_numbers, some_apart}

pub snoc_at : {A : Type 0} (l : List A) (a b : A) (j : ℕ) → get_elem? (l ++ a ∷ []) j ≡ some b → (get_elem? l j ≡ some b) ⊎ ((j ≡ length l) × (a ≡ b))
snoc_at [] a b zero e = inr (refl, some-injective a b e)
snoc_at [] a b (suc j) e = absurd (some-ne-none b (sym e))
snoc_at (x ∷ xs) a b zero e = inl e
snoc_at (x ∷ xs) a b (suc j) e = ⊎_elim (λ t. inl t) (λ (t : (j ≡ length xs) × (a ≡ b)). inr (ap suc t.0, t.1)) (snoc_at xs a b j e)

-- the same map, but for one number
abbrev pub placed : (ℕ → Option ℕ) → ℕ → Option ℕ → ℕ → Option ℕ
placed place_of n x k = cond (eqb k n) x (place_of k)

pub put_same : (place_of : ℕ → Option ℕ) (n : ℕ) (x : Option ℕ) → placed place_of n x n ≡ x
put_same place_of n x = ap (λ b. cond b x (place_of n)) (eq-eqb n n refl)

pub put_other : (place_of : ℕ → Option ℕ) (n : ℕ) (x : Option ℕ) (k : ℕ) → k ≢ n → placed place_of n x k ≡ place_of k
put_other place_of n x k ne = ap (λ b. cond b x (place_of k)) (ne_eqb k n ne)

held_more : (vs ws : List View) (ended : List SeatView) (h : ℕ) (x : HostView) (w : View) (n : ℕ) → get_elem? vs h ≡ some (Host x) → (o : Option ℕ) → IsHeld vs ended n o → IsHeld (set vs h w ++ ws) ended n o
held_more vs ws ended h x w n at none t = t
held_more vs ws ended h x w n at (some i) t = (t.0, at_longer (set vs h w) ws i (Seat t.0) (set_else vs h i w (λ e. seat_not_host vs h i x t.0 at t.1 (sym e)) ∙ t.1), t.2)

still_out : (vs : List View) (j : ℕ) (v : SeatView) → get_elem? vs j ≡ some (Seat v) → 0 < seats_out vs
still_out [] j v e = absurd (some-ne-none (Seat v) (sym e))
still_out (x ∷ xs) zero v e = let q : seat_count x ≡ 1 = ap seat_count (some-injective x (Seat v) e) in omega arith
still_out (x ∷ xs) (suc j) v e = let r = still_out xs j v e in omega arith

ended_if : (vs : List View) (ended : List SeatView) (n : ℕ) → seats_out vs ≡ 0 → (o : Option ℕ) → IsHeld vs ended n o → Ended ended n
ended_if vs ended n z none t = t
ended_if vs ended n z (some j) t = let p = still_out vs j t.0 t.1 in absurd (omega arith)

module _ {S : Type 0} where
  -- the host makes a seat
  module _ (s : State S View) (k : KeepsHistory s) (g : Bool) where
    new_host : HostView
    new_host = host_view k.opened (k.made + 1) k.ended

    fresh : SeatView
    fresh = seat_view k.opened k.made g []

    place : ℕ
    place = length (set s.views k.host (Host (host_view k.opened (k.made + 1) k.ended)))

    fits_new : (i : ℕ) (u : View) → i ≢ k.host → IsPlaced k.host k.opened k.made k.ended k.place_of k.log i u
        → IsPlaced k.host k.opened (k.made + 1) k.ended (placed k.place_of k.made (some place)) k.log i u
    fits_new i (Host u) ne f = absurd (ne f.0)
    fits_new i (Seat u) ne f = let lt = f.0.1 in ((f.0.0, omega arith, f.0.2), put_other k.place_of k.made (some place) u.number (λ e. absurd (omega arith)) ∙ f.1)
    fits_new i Spent ne f = f

    pub makes : KeepsHistory {S = S} record { words = s.words; homes = s.homes; views = set s.views k.host (Host (host_view k.opened (k.made + 1) k.ended)) ++ Seat (seat_view k.opened k.made g []) ∷ [] }
    unfolding place
    makes =
        let H : View = Host (host_view k.opened (k.made + 1) k.ended) in
        let F : SeatView = seat_view k.opened k.made g [] in
        let vs : List View = set s.views k.host H in
        let places' : ℕ → Option ℕ = placed k.place_of k.made (some place) in
        let here : get_elem? vs k.host ≡ some H = set_at s.views k.host _ H k.one_host in
        record {
          log = k.log;
          opened = k.opened;
          host = k.host;
          made = k.made + 1;
          ended = k.ended;
          place_of = places';
          words = k.words;
          legal = k.legal;
          one_host = at_longer vs (Seat F ∷ []) k.host H here;
          each = λ i u t. ⊎_elim
              (λ (x : get_elem? vs i ≡ some u). ⊎_elim
              (λ (y : (i ≡ k.host) × (H ≡ u)). subst (IsPlaced k.host k.opened (k.made + 1) k.ended places' k.log i) y.1 (y.0, refl))
              (λ (y : (i ≢ k.host) × (get_elem? s.views i ≡ some u)). fits_new i u y.0 (k.each i u y.1))
              (at_set s.views k.host i H u x))
              (λ (x : (i ≡ length vs) × (Seat F ≡ u)). subst (IsPlaced k.host k.opened (k.made + 1) k.ended places' k.log i) x.1 ((refl, omega arith, k.none_else k.made (omega arith)), put_same k.place_of k.made (some place) ∙ ap some (sym x.0)))
              (snoc_at vs (Seat F) u i t);
          each_ended = λ i u t. let b = k.each_ended i u t in let lt = b.0.1 in ((b.0.0, omega arith, b.0.2), put_other k.place_of k.made (some place) u.number (λ e. absurd (omega arith)) ∙ b.1);
          apart = k.apart;
          held = λ n lt. dite (ℕ_discrete n k.made)
              (λ e. subst (λ m. IsHeld (vs ++ Seat F ∷ []) k.ended m (places' m)) (sym e)
              (subst (IsHeld (vs ++ Seat F ∷ []) k.ended k.made) (sym (put_same k.place_of k.made (some place))) (F, at_last vs (Seat F) (length vs) refl, refl)))
              (λ ne. subst (IsHeld (vs ++ Seat F ∷ []) k.ended n) (sym (put_other k.place_of k.made (some place) n ne))
              (held_more s.views (Seat F ∷ []) k.ended k.host _ H n k.one_host (k.place_of n) (k.held n (omega arith))));
          none_else = λ n le. k.none_else n (omega arith);
          count = let r = seats_out_set s.views k.host _ H k.one_host in let p = seats_out-push vs (Seat F) in let c = k.count in omega arith;
        }

  pub splits_at : (id : ℕ) (h : HostView) (g : Bool) → Splits {S = S} KeepsHistory id (Host h) (Host (one_more h)) (Seat (new_seat h g))
  splits_at id h g s k at =
      let f = k.each id (Host h) at in
      subst (λ (x : HostView). KeepsHistory {S = S} record { words = s.words; homes = s.homes; views = set s.views id (Host (one_more x)) ++ Seat (new_seat x g) ∷ [] }) (sym f.1)
      (subst (λ i. KeepsHistory {S = S} record { words = s.words; homes = s.homes; views = set s.views i (Host (host_view k.opened (k.made + 1) k.ended)) ++ Seat (seat_view k.opened k.made g []) ∷ [] }) (sym f.0) (makes s k g))

  -- the host gathers a seat
  module _ (s : State S View) (k : KeepsHistory s) (j : ℕ) (u : SeatView) (at : get_elem? s.views j ≡ some (Seat u)) where
    gathers_each : (i : ℕ) (x : View) → i ≢ j → i ≢ k.host → IsPlaced k.host k.opened k.made k.ended k.place_of k.log i x
        → IsPlaced k.host k.opened k.made (k.ended ++ u ∷ []) (placed k.place_of u.number none) k.log i x
    gathers_each i (Host x) nj ne f = absurd (ne f.0)
    gathers_each i (Seat x) nj ne f = (f.0, put_other k.place_of u.number none x.number (two_numbers k.place_of x.number u.number (some i) (some j) f.1 (k.each j (Seat u) at).1 (some_apart i j nj)) ∙ f.1)
    gathers_each i Spent nj ne f = f

    gathers_held : (n : ℕ) → n ≢ u.number → (w : View) → (o : Option ℕ) → IsHeld s.views k.ended n o → IsHeld (set (set s.views k.host w) j Spent) (k.ended ++ u ∷ []) n o
    gathers_held n ne w none t = (t.0, t.1, at_longer k.ended (u ∷ []) t.0 t.1 t.2, t.3)
    gathers_held n ne w (some i) t = (
      t.0,
      set_else (set s.views k.host w) j i Spent (λ e. ne (sym t.2 ∙ ap (λ (y : SeatView). y.number) (seat_is t.0 u (sym t.1 ∙ (ap (get_elem? s.views) e ∙ at)))))
          ∙ (set_else s.views k.host i w (λ e. seat_not_host s.views k.host i _ t.0 k.one_host t.1 (sym e)) ∙ t.1),
      t.2,
    )

    old_apart : (i : ℕ) (v : SeatView) → get_elem? k.ended i ≡ some v → v.number ≢ u.number
    old_apart i v e = two_numbers k.place_of v.number u.number none (some j) (k.each_ended i v e).1 (k.each j (Seat u) at).1 (λ p. some-ne-none j (sym p))

    gathers_apart : Apart (k.ended ++ u ∷ [])
    gathers_apart a b v w ea eb e = ⊎_elim
        (λ (x : get_elem? k.ended a ≡ some v). ⊎_elim
        (λ (y : get_elem? k.ended b ≡ some w). k.apart a b v w x y e)
        (λ (y : (b ≡ length k.ended) × (u ≡ w)). absurd (old_apart a v x (e ∙ ap (λ (z : SeatView). z.number) (sym y.1))))
        (snoc_at k.ended u w b eb))
        (λ (x : (a ≡ length k.ended) × (u ≡ v)). ⊎_elim
        (λ (y : get_elem? k.ended b ≡ some w). absurd (old_apart b w y (sym e ∙ ap (λ (z : SeatView). z.number) (sym x.1))))
        (λ (y : (b ≡ length k.ended) × (u ≡ w)). x.0 ∙ sym y.0)
        (snoc_at k.ended u w b eb))
        (snoc_at k.ended u v a ea)

    pub gathers : KeepsHistory {S = S} record { words = s.words; homes = s.homes; views = set (set s.views k.host (Host (host_view k.opened k.made (k.ended ++ u ∷ [])))) j Spent }
    gathers =
        let more : List SeatView = k.ended ++ u ∷ [] in
        let H : View = Host (host_view k.opened k.made more) in
        let places' : ℕ → Option ℕ = placed k.place_of u.number none in
        let vs : List View = set s.views k.host H in
        let mine = k.each j (Seat u) at in
        let nj : k.host ≢ j = seat_not_host s.views k.host j _ u k.one_host at in
        record {
          log = k.log;
          opened = k.opened;
          host = k.host;
          made = k.made;
          ended = more;
          place_of = places';
          words = k.words;
          legal = k.legal;
          one_host = set_else vs j k.host Spent nj ∙ set_at s.views k.host _ H k.one_host;
          each = λ i x t. ⊎_elim
              (λ (y : (i ≡ j) × (Spent ≡ x)). subst (IsPlaced k.host k.opened k.made more places' k.log i) y.1 tt)
              (λ (y : (i ≢ j) × (get_elem? vs i ≡ some x)). ⊎_elim
              (λ (z : (i ≡ k.host) × (H ≡ x)). subst (IsPlaced k.host k.opened k.made more places' k.log i) z.1 (z.0, refl))
              (λ (z : (i ≢ k.host) × (get_elem? s.views i ≡ some x)). gathers_each i x y.0 z.0 (k.each i x z.1))
              (at_set s.views k.host i H x y.1))
              (at_set vs j i Spent x t);
          each_ended = λ i v t. ⊎_elim
              (λ (x : get_elem? k.ended i ≡ some v). let b = k.each_ended i v x in (b.0, put_other k.place_of u.number none v.number (old_apart i v x) ∙ b.1))
              (λ (x : (i ≡ length k.ended) × (u ≡ v)). subst (λ (y : SeatView). IsInHistory k.opened k.made k.log y × (places' y.number ≡ none)) x.1 (mine.0, put_same k.place_of u.number none))
              (snoc_at k.ended u v i t);
          apart = gathers_apart;
          held = λ n lt. dite (ℕ_discrete n u.number)
              (λ e. subst (λ m. IsHeld (set vs j Spent) more m (places' m)) (sym e) (subst (IsHeld (set vs j Spent) more u.number) (sym (put_same k.place_of u.number none)) (length k.ended, u, at_last k.ended u (length k.ended) refl, refl)))
              (λ ne. subst (IsHeld (set vs j Spent) more n) (sym (put_other k.place_of u.number none n ne)) (gathers_held n ne H (k.place_of n) (k.held n lt)));
          none_else = k.none_else;
          count =
              let r = seats_out_set s.views k.host _ H k.one_host in
              let q = seats_out_set vs j (Seat u) Spent (set_else s.views k.host j H (λ e. nj (sym e)) ∙ at) in
              let c = k.count in
              omega (arith, length-append k.ended (u ∷ []));
        }

  pub joins_at : (id : ℕ) (h : HostView) (j : ℕ) (u : SeatView) → Joins {S = S} KeepsHistory id (Host h) j (Seat u) (Host (with_ended h u)) Spent
  joins_at id h j u s k at apart there =
      let f = k.each id (Host h) at in
      let was : get_elem? s.views j ≡ some (Seat u) = ⊎_elim (λ (x : (j ≡ id) × (Host (with_ended h u) ≡ Seat u)). absurd (apart x.0)) (λ (x : (j ≢ id) × (get_elem? s.views j ≡ some (Seat u))). x.1) (at_set s.views id j _ _ there) in
      subst (λ (x : HostView). KeepsHistory {S = S} record { words = s.words; homes = s.homes; views = set (set s.views id (Host (with_ended x u))) j Spent }) (sym f.1)
      (subst (λ i. KeepsHistory {S = S} record { words = s.words; homes = s.homes; views = set (set s.views i (Host (host_view k.opened k.made (k.ended ++ u ∷ [])))) j Spent }) (sym f.0) (gathers s k j u was))

  -- what the host learns
  pub tells : (s : State S View) (k : KeepsHistory s) (id : ℕ) (h : HostView) → get_elem? s.views id ≡ some (Host h) → IsHistoryOf h k.log
  tells s k id h at =
      let f = k.each id (Host h) at in
      subst (λ (x : HostView). IsHistoryOf x k.log) (sym f.1) record {
        legal = k.legal;
        steps = λ i v e. let b = k.each_ended i v e in (b.0.0, b.0.2);
        apart = k.apart;
        no_other = λ all n. dite (dec_lt n k.made)
            (λ lt. let c = k.count in inl (ended_if s.views k.ended n (omega arith) (k.place_of n) (k.held n lt)))
            (λ ge. inr (k.none_else n (omega arith)));
      }

  learns_at : (slots id : ℕ) (h : HostView) → Allows {S = S} KeepsHistory slots id (Host h, []) 0 (λ n. n) (Learned (step slots 0 0 0 none) (Host h, []))
  learns_at slots id h s k len at small = (
    Host h,
    keeps,
    tt,
    subst (λ (x : List ℕ × List View). KeepsHistory {S = S} record { words = x.0; homes = s.homes; views = x.1 }) (λ i. (sym (set_same s.words 0) i, sym (set_again s.views id (Host h) at) i)) k,
    (refl, (k.log, tells s k id h at)),
  )

  pub learns : (slots id : ℕ) (m : Holding S) → IsHost m → Allows {S = S} KeepsHistory slots id m 0 (λ n. n) (Learned (step slots 0 0 0 none) m)
  learns slots id m is = subst (λ (x : Holding S). Allows {S = S} KeepsHistory slots id x 0 (λ n. n) (Learned (step slots 0 0 0 none) x)) (sym is) (learns_at slots id (host_in m.0))

  pub splits : (id : ℕ) (m : Holding S) (g : Bool) → IsHost m → Splits {S = S} KeepsHistory id m.0 (Host (one_more (host_in m.0))) (Seat (new_seat (host_in m.0) g))
  splits id m g is = subst (λ (x : View). Splits {S = S} KeepsHistory id x (Host (one_more (host_in x))) (Seat (new_seat (host_in x) g))) (sym (ap (λ (y : Holding S). y.0) is)) (splits_at id (host_in m.0) g)

  pub joins : (id : ℕ) (m : Holding S) (j : ℕ) (n : Holding S) → IsHost m → IsSeat n → Joins {S = S} KeepsHistory id m.0 j n.0 (Host (with_ended (host_in m.0) (seat_in n.0))) Spent
  joins id m j n is it = subst (λ (x : View × View). Joins {S = S} KeepsHistory id x.0 j x.1 (Host (with_ended (host_in x.0) (seat_in x.1))) Spent) (λ i. ((sym (ap (λ (y : Holding S). y.0) is)) i, (sym (ap (λ (y : Holding S). y.0) it)) i)) (joins_at id (host_in m.0) j (seat_in n.0))

  -- the table at the start
  pub opens : (words : List ℕ) (hs : List (Option S)) → KeepsHistory {S = S} record { words = 0 ∷ words; homes = hs; views = Host (host_view words 0 []) ∷ [] }
  opens words hs = record {
    log = [];
    opened = words;
    host = 0;
    made = 0;
    ended = [];
    place_of = λ _. none;
    words = refl;
    legal = tt;
    one_host = refl;
    each = λ i u t. ⊎_elim (λ (x : get_elem? [] i ≡ some u). absurd (some-ne-none u (sym x)))
        (λ (x : (i ≡ length {A = View} []) × (Host (host_view words 0 []) ≡ u)). subst (IsPlaced 0 words 0 [] (λ _. none) [] i) x.1 (x.0, refl)) (snoc_at [] (Host (host_view words 0 [])) u i t);
    each_ended = λ i v e. absurd (some-ne-none v (sym e));
    apart = λ a b v w ea eb e. absurd (some-ne-none v (sym ea));
    held = λ n lt. absurd (omega arith);
    none_else = λ n le. refl;
    count = omega arith;
  }

  pub opens_as : (all known words : List ℕ) → all ≡ 0 ∷ words → known ≡ 0 ∷ words → KeepsHistory {S = S} (opening all [] (Host (host_view (drop 1 known) 0 [])))
  opens_as all known words e f = subst (λ (x : List ℕ × List ℕ). KeepsHistory {S = S} (opening x.0 [] (Host (host_view (drop 1 x.1) 0 [])))) (λ i. (sym e i, sym f i)) (opens words [])
