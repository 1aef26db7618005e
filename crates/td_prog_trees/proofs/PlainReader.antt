-- The helpers of a message at the front of a buffer read it. Cited by other crates.
use Rattle.std.proofs.Common.{◌≡◌, ℕ, zero, suc, ◌+◌, ◌/◌, ◌^◌, ◌<◌, [], ◌∷◌, length, append-nil, refl, ap, ◌∙◌, subst, arith}
use Rattle.td_num.specs.Numbers.{places_from}
use Rattle.td_prog.specs.Values.{Locals}
use Rattle.td_prog.specs.Means.{Gave}
use Rattle.td_prog.specs.Run.{declared, helpers_below}
use Rattle.td_prog_code.specs.Prelude.{prelude}
use Rattle.td_prog_trees.specs.Memory.{IsMemory}
use Rattle.td_prog_trees.specs.Agree.{Basis, fresh, reached}
use Rattle.td_prog_trees.specs.Readers.{IsReader}
use Rattle.td_prog_trees.specs.Laws.{NumbersAreTaken}
use Rattle.td_prog_trees.proofs.Fetching.{eights, Plainly, IsPlain, number_gives}
use Rattle.td_prog_trees.proofs.CopyHelper.{Copy, all_copied}

-- the word behind those before a place, of eight bytes each
reached_eight : (p : ℕ) → reached (λ q. q / 8) p ≡ (p + 7) / 8
reached_eight zero = omega arith
reached_eight (suc p) = omega arith

pub plain_reader : (memory : ℕ → ℕ) (basis : Basis) (limit : ℕ) → IsMemory memory basis.message → length basis.message < 2 ^ 32
    → IsReader eights memory basis limit (helpers_below limit prelude 9)
plain_reader memory basis limit holds short = record {
  number = λ order width place s wide inside next held.
      let g = number_gives plainly limit within s place next held order width wide inside in
      record {
        final = g.gives.final;
        gives = g.gives.leads.same ∙ ap (λ v. Gave v g.gives.final) g.right;
        words = g.gives.leads.words ∙ append-nil (fresh (λ q. q / 8) s.next (places_from place width));
        then = g.gives.back;
        fits = subst (λ v. v < 2 ^ 64) g.right g.small;
      };
  copy = λ buffer place count s inside few lengths room ahead held.
      let copy : Copy = record {
        plainly = plainly;
        limit = limit;
        buffer = buffer;
        helpers = helpers_below limit prelude 8;
        base = place;
        old = s.buffers;
        within = within;
        is_word = λ w u. refl;
      } in
      let u : Locals = record (declared [] s) { pos = place; room = count } in
      let near = reached_eight place in
      let far = reached_eight (place + count) in
      let t = all_copied copy limit u count few (record {
        sum = omega arith;
        fits = room;
        few = omega (arith, inside, short);
        enough = few;
        within = inside;
        kept = lengths;
        ahead = omega (arith, ahead, near);
        held = held;
        at = omega arith;
        done = refl;
        others = λ b e. refl;
      }) in
      record {
        final = t.final;
        gives = t.leads.same;
        words = t.leads.words ∙ append-nil (fresh (λ q. q / 8) s.next (places_from place count));
        then = t.leads.behind_them;
        ahead = let a = t.ahead in omega (arith, a, far);
        held = t.held;
        cells = t.cells;
        lengths = t.kept;
        copied = t.done;
        others = t.others;
      };
}
  where
    plainly : Plainly
    plainly = record { memory = memory; basis = basis; to = length basis.message }

    within : IsPlain plainly
    within = record { holds = holds; short = short; inside = omega arith }

pub numbers_are_taken : NumbersAreTaken
numbers_are_taken memory message most order width pos s is short wide inside next held =
    (plain_reader memory (record { message = message; lengths = []; first = 0 }) most is short).number order width pos s wide inside next held
