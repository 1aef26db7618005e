use Rattle.std.proofs.Common.{◌≡◌, ◌+◌, ◌*◌, List, [], ◌∷◌, length, length-append, Ok, Err, refl, sym, ap, subst, ◌∙◌, arith}
use Rattle.td_chain.specs.declared.piece.Piece.{Piece}
use Rattle.td_chain.specs.declared.refusal.Refusal.{Refusal}
use Rattle.td_chain.specs.declared.step.Walk.{Walk}
use Rattle.td_chain.specs.declared.step.Move.TheVariants.{Table, Next, Last, Refused}
use Rattle.td_chain.specs.Places.{IsAt, IsOpen, GoesTo}
use Rattle.td_chain.specs.Chain.{begun}
use Rattle.td_chain.specs.Walks.{come_to}
use Rattle.td_chain.proofs.Growing.{grown_itself, grown_on, looked_on}
use Rattle.td_chain.proofs.Walking.{Walked, Comes, begins, walked_begin, is_walk, to_table, to_next, to_last, to_refused, to_end}
use Rattle.td_chain.proofs.walk.walk_chain.Goals as goal
use Rattle.td_chain.proofs.walk.walk_chain.Goals.{in-Table, in-Next}

pub loop-step-init : goal.loop-step-init
loop-step-init g c =
    let q = c.args.queue.now in
    let rs = c.args.regions.now in
    let xs = c.args.loads.now.list in
    let none : length c.args.pieces.now.items ≡ 0 = ap length c.requires.no_pieces in
    record {
      looked = record {
        same = c.requires.empty ∙ sym c.requires.fresh;
        reaches = g.met.W.Memory.reaches_itself c.args.words.now;
        room = omega arith;
        grown = grown_itself (IsOpen q rs) xs;
      };
      at = subst (IsAt q rs (8 * g.W.Memory.size c.args.words.now)) (sym c.begin-at.ensures)
          (begins q rs (8 * g.W.Memory.size c.args.words.now) c.args.head c.requires.table c.if-head-queue.false);
      few = omega (arith, none);
      capacity = refl;
      walked = subst (λ (w : Walk). Walked q rs c.args.head xs 0 c.args.pieces.now.items w) (sym c.begin-at.ensures)
          (subst (λ (ps : List Piece). Walked q rs c.args.head xs 0 ps (begun q c.args.head)) (sym c.requires.no_pieces) (walked_begin q rs c.args.head xs));
    }

pub loop-step-preserved : goal.loop-step-preserved
loop-step-preserved g c =
    let q = c.args.queue.now in
    let rs = c.args.regions.now in
    let i = c.loop-step.invariant in
    let few = i.few in
    let e = c.look.ensures in
    let k = c.loop-step.step in
    let items = c.loop-step.pieces.items in
    let at = c.loop-step.at in
    let xs = c.loop-step.loads.list in
    let ys = c.look.new.loads.list in
    let before = 8 * g.W.Memory.size c.loop-step.words in
    let same = g.met.W.Memory.same_size c.loop-step.words c.look.new.words e.looked.reaches in
    let bytes : before ≡ 8 * g.W.Memory.size c.look.new.words = ap (λ n. 8 * n) (sym same) in
    let count : 4 * k + 4 ≡ 4 * (k + 1) = omega arith in
    let looked = looked_on g.W.Memory.loads g.W.Memory.reaches g.met.W.Memory.reaches_on (IsOpen q rs) (4 * k) 4 (4 * (k + 1))
    c.args.words.now c.loop-step.words c.look.new.words c.args.loads.now c.loop-step.loads c.look.new.loads count i.looked e.looked in
    elim c.match-look.branch [
      | in-Table w ↦
          let v = w.in-Table.next in
          let to : IsAt q rs before v = subst (GoesTo (IsAt q rs before)) w.in-Table.is e.goes in
          let comes : Comes q rs ys at (Table v) = λ m h. sym w.in-Table.is ∙ e.value m h in
          rw (w.at-is, w.pieces-is) (record {
            looked = looked;
            at = subst (λ b. IsAt q rs b v) bytes to;
            few = omega (arith, few);
            capacity = i.capacity;
            walked = to_table (IsOpen q rs) q rs c.args.head k items at xs ys v i.walked e.looked.grown comes;
          })
      | in-Next w ↦
          let v = w.in-Next.next in
          let p = w.in-Next.piece in
          let new = w.push_reserved.new.self.items in
          let to : IsAt q rs before v = subst (GoesTo (IsAt q rs before)) w.in-Next.is e.goes in
          let comes : Comes q rs ys at (Next p v) = λ m h. sym w.in-Next.is ∙ e.value m h in
          let one : length new ≡ length items + 1 = ap length w.push_reserved.ensures.items ∙ length-append items (p ∷ []) in
          rw (w.at-is, w.pieces-is) (record {
            looked = looked;
            at = subst (λ b. IsAt q rs b v) bytes to;
            few = omega (arith, few, one);
            capacity = w.push_reserved.ensures.capacity ∙ i.capacity;
            walked = subst (λ (ps : List Piece). Walked q rs c.args.head ys (k + 1) ps v) (sym w.push_reserved.ensures.items)
                (to_next (IsOpen q rs) q rs c.args.head k items at xs ys p v i.walked e.looked.grown comes);
          })
    ]

pub returns-in-Last-clause-walk : goal.returns-in-Last-clause-walk
returns-in-Last-clause-walk g c =
    let q = c.args.queue.now in
    let rs = c.args.regions.now in
    let i = c.loop-step.invariant in
    let e = c.look.ensures in
    let p = c.in-Last.piece in
    let items = c.loop-step.pieces.items in
    let at = c.loop-step.at in
    let xs = c.loop-step.loads.list in
    let ys = c.look.new.loads.list in
    let comes : Comes q rs ys at (Last p) = λ m h. sym c.in-Last.is ∙ e.value m h in
    is_walk q rs c.args.head c.args.loads.now.list ys (come_to c.push_reserved-in-Last.new.self.items (Ok tt)) c.requires.empty
    (grown_on (IsOpen q rs) c.args.loads.now.list xs ys i.looked.grown e.looked.grown) c.if-head-queue.false
    (λ m h. ap (λ (ps : List Piece). come_to ps (Ok tt)) c.push_reserved-in-Last.ensures.items
    ∙ to_last (IsOpen q rs) q rs c.args.head c.loop-step.step items at xs ys p i.walked e.looked.grown comes c.loop-step-test.true m h)

pub returns-in-Refused-clause-walk : goal.returns-in-Refused-clause-walk
returns-in-Refused-clause-walk g c =
    let q = c.args.queue.now in
    let rs = c.args.regions.now in
    let i = c.loop-step.invariant in
    let e = c.look.ensures in
    let items = c.loop-step.pieces.items in
    let at = c.loop-step.at in
    let xs = c.loop-step.loads.list in
    let ys = c.look.new.loads.list in
    let comes : Comes q rs ys at (Refused c.in-Refused.error) = λ m h. sym c.in-Refused.is ∙ e.value m h in
    is_walk q rs c.args.head c.args.loads.now.list ys (come_to items (Err c.refuse-in-Refused.result)) c.requires.empty
    (grown_on (IsOpen q rs) c.args.loads.now.list xs ys i.looked.grown e.looked.grown) c.if-head-queue.false
    (λ m h. ap (λ (r : Refusal). come_to items (Err r)) c.refuse-in-Refused.ensures
    ∙ to_refused (IsOpen q rs) q rs c.args.head c.loop-step.step items at xs ys c.in-Refused.error i.walked e.looked.grown comes c.loop-step-test.true m h)

pub returns-clause-walk : goal.returns-clause-walk
returns-clause-walk g c =
    let q = c.args.queue.now in
    let rs = c.args.regions.now in
    let i = c.loop-step.invariant in
    let items = c.loop-step.pieces.items in
    let at = c.loop-step.at in
    let xs = c.loop-step.loads.list in
    is_walk q rs c.args.head c.args.loads.now.list xs (come_to items (Err c.refuse-2.result)) c.requires.empty i.looked.grown c.if-head-queue.false
    (λ m h. ap (λ (r : Refusal). come_to items (Err r)) c.refuse-2.ensures
    ∙ to_end (IsOpen q rs) q rs c.args.head c.loop-step.step items at xs xs i.walked c.loop-step-test.false c.loop-step.auto.step-end m h)
