-- A ring's actor in the middle of its takes.
use Rattle.std.proofs.Common.{◌≡◌, ℕ, ◌+◌, List, [], ◌∷◌, ◌++◌, length, drop, refl, sym, ap, ◌∙◌, subst, arith, append_assoc, length-append}
use Rattle.std.specs.List.{All}
use Rattle.std.proofs.lemmas.List.Elements.{All-nil, All-push}
use Rattle.td_core.specs.declared.module.Module.{Module}
use Rattle.td_ir.specs.declared.tables.Parts.{Parts}
use Rattle.td_words.specs.Seats.{SeatState}
use Rattle.td_posts.specs.declared.job.HostJob.{HostJob}
use Rattle.td_descr.specs.Ring.{ReaderView}
use Rattle.td_posts.specs.declared.ring.RingJob.{RingJob}
use Rattle.td_takes.specs.declared.take.Take.{Take}
use Rattle.td_takes.specs.declared.take.TakeRoom.{TakeRoom}
use Rattle.td_takes.specs.Takes.{Describes, IsTake, IsRoom, AreRooms, AreTakes, HasDone, take_steps, all_steps, taken_by, taken_after}
use Rattle.td_takes.specs.Memory.{KeepsRoom, KeepRooms}
use Rattle.std.proofs.Common.{append-nil as append_nil}
use Rattle.td_takes.proofs.Messages.{done_nothing, done_then}

pub taken_push : (taken : ℕ) (ts : List Take) (t : Take) → taken_by taken (ts ++ t ∷ []) ≡ taken_after (taken_by taken ts) t.next
unfolding taken_by
taken_push taken [] t = refl
taken_push taken (x ∷ ts) t = taken_push (taken_after taken x.next) ts t

pub steps_push : (ring : RingJob) (taken : ℕ) (ts : List Take) (t : Take) → all_steps ring taken (ts ++ t ∷ []) ≡ all_steps ring taken ts ++ take_steps ring (taken_by taken ts) t
unfolding all_steps taken_by
steps_push ring taken [] t = append_nil (take_steps ring taken t)
steps_push ring taken (x ∷ ts) t =
    ap (λ l. take_steps ring taken x ++ l) (steps_push ring (taken_after taken x.next) ts t)
    ∙ sym (append_assoc (take_steps ring taken x) (all_steps ring (taken_after taken x.next) ts) (take_steps ring (taken_by (taken_after taken x.next) ts) t))

pub takes_push : (job : HostJob) (m : Module) (room : ℕ) (ring : RingJob) (k n taken : ℕ) (ts : List Take) (t : Take) → AreTakes job m room ring k n taken ts
    → t.ring ≡ k → t.number ≡ n + length ts → IsTake job m room ring (taken_by taken ts) t → AreTakes job m room ring k n taken (ts ++ t ∷ [])
unfolding AreTakes taken_by
takes_push job m room ring k n taken [] t a e f i = (e, f ∙ (let z : n + 0 ≡ n = omega arith in z), i, tt)
takes_push job m room ring k n taken (x ∷ ts) t a e f i = (a.0, a.1, a.2, takes_push job m room ring k (n + 1) (taken_after taken x.next) ts t a.3 e (omega (arith, f)) i)

module _ (job : HostJob) (c : Parts) (room : ℕ) (ring : RingJob) (k : ℕ) where
  pub record Running (left : ℕ) (seat0 seat : SeatState) (reader0 reader : ReaderView) (takes : List Take) : Type 0 where
    pub table : seat.table ≡ seat0.table
    pub code : reader.code ≡ reader0.code
    pub entries : reader.entries ≡ reader0.entries
    pub room_is : reader.room ≡ reader0.room
    pub most : reader.most ≡ reader0.most
    pub taken : reader.taken ≡ taken_by 0 takes
    pub count : length takes ≡ left
    pub named : All (λ (t : Take). t.ring ≡ k) takes
    pub are : (m : Module) → Describes m c room ring.most → AreTakes job m room ring k 1 0 takes
    pub steps : HasDone seat0 seat (all_steps ring 0 takes)

  pub begins : (seat : SeatState) (reader : ReaderView) (takes : List Take) → takes ≡ [] → reader.taken ≡ 0 → Running 0 seat seat reader reader takes
  unfolding AreTakes all_steps taken_by
  begins seat reader takes none zero = subst (Running 0 seat seat reader reader) (sym none) record {
    table = refl;
    code = refl;
    entries = refl;
    room_is = refl;
    most = refl;
    taken = zero;
    count = refl;
    named = All-nil (λ (t : Take). t.ring ≡ k);
    are = λ m d. tt;
    steps = done_nothing seat;
  }

  pub goes_on : (i : ℕ) (seat0 seat seat' : SeatState) (reader0 reader reader' : ReaderView) (takes takes' : List Take) (t : Take)
      → Running i seat0 seat reader0 reader takes → seat'.table ≡ seat.table → reader' ≡ record reader { taken = taken_after reader.taken t.next; frame = reader'.frame; last = reader'.last }
      → t.ring ≡ k → t.number ≡ i + 1 → ((m : Module) → Describes m reader.code reader.room ring.most → IsTake job m reader.room ring reader.taken t)
      → HasDone seat seat' (take_steps ring reader.taken t)
      → reader0.code ≡ c → reader0.room ≡ room → takes' ≡ takes ++ t ∷ [] → Running (i + 1) seat0 seat' reader0 reader' takes'
  goes_on i seat0 seat seat' reader0 reader reader' takes takes' t r table went e f is did same place more = subst (Running (i + 1) seat0 seat' reader0 reader') (sym more) record {
    table = table ∙ r.table;
    code = ap (λ (x : ReaderView). x.code) went ∙ r.code;
    entries = ap (λ (x : ReaderView). x.entries) went ∙ r.entries;
    room_is = ap (λ (x : ReaderView). x.room) went ∙ r.room_is;
    most = ap (λ (x : ReaderView). x.most) went ∙ r.most;
    taken = ap (λ (x : ReaderView). x.taken) went ∙ (ap (λ n. taken_after n t.next) r.taken ∙ sym (taken_push 0 takes t));
    count = length-append takes (t ∷ []) ∙ ap (λ n. n + 1) r.count;
    named = All-push (λ (x : Take). x.ring ≡ k) takes t r.named e;
    are = λ m d.
        let here = subst (λ (x : Parts × ℕ × ℕ). (m : Module) → Describes m x.0 x.1 ring.most → IsTake job m x.1 ring x.2 t) (λ n. ((r.code ∙ same) n, (r.room_is ∙ place) n, r.taken n)) is in
        takes_push job m room ring k 1 0 takes t (r.are m d) e (let n = r.count in omega (arith, f, n)) (here m d);
    steps = subst (HasDone seat0 seat') (sym (steps_push ring 0 takes t))
        (done_then seat0 seat seat' (all_steps ring 0 takes) (take_steps ring (taken_by 0 takes) t) r.steps (subst (λ n. HasDone seat seat' (take_steps ring n t)) r.taken did));
  }

-- the first room
pub first_room : (job : HostJob) (frames desc_frames most : ℕ) (rooms rest : List TakeRoom) (r : TakeRoom) → AreRooms job frames desc_frames most rooms → rooms ≡ r ∷ rest
    → IsRoom job frames desc_frames most r × AreRooms job frames desc_frames most rest
unfolding AreRooms
first_room job frames desc_frames most rooms rest r a e =
    let b = subst (AreRooms job frames desc_frames most) e a in (b.0, b.1)

-- ---- the rooms
pub no_takes : (rooms : List TakeRoom) (ts : List Take) → ts ≡ [] → KeepRooms rooms ts
unfolding KeepRooms
no_takes rooms ts none = subst (KeepRooms rooms) (sym none) tt

-- one more take, in the next room
pub rooms_push : (rooms rest : List TakeRoom) (ts : List Take) (room : TakeRoom) (t : Take) → KeepRooms rooms ts → drop (length ts) rooms ≡ room ∷ rest → KeepsRoom room t → KeepRooms rooms (ts ++ t ∷ [])
unfolding KeepRooms
rooms_push rooms rest [] room t h e k = subst (λ (l : List TakeRoom). KeepRooms l (t ∷ [])) (sym e) (k, tt)
rooms_push [] rest (x ∷ ts) room t h e k = absurd h
rooms_push (r ∷ rooms) rest (x ∷ ts) room t h e k = (h.0, rooms_push rooms rest ts room t h.1 e k)

-- and the rooms that are left
pub rooms_left : (rooms rest : List TakeRoom) (ts : List Take) (room : TakeRoom) (t : Take) → drop (length ts) rooms ≡ room ∷ rest → rest ≡ drop (length (ts ++ t ∷ [])) rooms
rooms_left rooms rest [] room t e = sym (ap (drop 1) e)
rooms_left [] rest (x ∷ ts) room t e = sym (ap (drop 1) e)
rooms_left (r ∷ rooms) rest (x ∷ ts) room t e = rooms_left rooms rest ts room t e
