use Rattle.std.proofs.Common.{◌≡◌, ℕ, suc, ◌+◌, ◌<◌, ◌≤◌, ⊎_elim, Some, [], sym, ap, subst, ◌∙◌, arith, add-one}
use Rattle.std.proofs.lemmas.Bool.{cases_lt}
use Rattle.td_ir.specs.declared.tables.Parts.{Parts}
use Rattle.td_ir.specs.Tables.{lengths_of, begin}
use Rattle.td_verify.specs.Brackets.{opened}
use Rattle.td_verify.specs.Verify.{IsIn, Keeps, KeepsAll, IsFirst}
use Rattle.td_verify.specs.Findings.{AreFindings, HasPassed, IsFirstIn}
use Rattle.td_ir.proofs.Begins.{begin_up}
use Rattle.td_verify.specs.declared.rule.Breach.{Breach}
use Rattle.td_verify.proofs.verify.pass_all.Goals as goal

-- what breaks first in a routine breaks first of all, where those before it break nothing
first_here : (c : Parts) (n : ℕ) (e : Breach) → ((m p : ℕ) → m < n → IsIn c m p → KeepsAll (Keeps c m p)) → IsFirstIn c n e → IsFirst c e.rule e.at
first_here c n e before f = record {
  routine = n;
  is_in = f.is_in;
  breaks = f.breaks;
  kept_before = λ m p i lt. ⊎_elim
      (λ (l : m < n). before m p l i)
      (λ (ge : n ≤ m). ⊎_elim
      (λ (more : n < m). let up = begin_up (lengths_of c) (suc n) m (omega arith) in let a = f.is_in.to in let b = i.from in absurd (omega (arith, up, a, b, lt)))
      (λ (le : m ≤ n). let same : m ≡ n = omega arith in subst (λ x. KeepsAll (Keeps c x p)) (sym same) (f.kept_before p (subst (λ x. IsIn c x p) same i) lt))
      (cases_lt n m))
      (cases_lt m n);
}

sound_more : (c : Parts) (n : ℕ) → ((m p : ℕ) → m < n → IsIn c m p → KeepsAll (Keeps c m p)) → ((p : ℕ) → IsIn c n p → KeepsAll (Keeps c n p)) → (m p : ℕ) → m < n + 1 → IsIn c m p → KeepsAll (Keeps c m p)
sound_more c n before here m p l i = ⊎_elim
    (λ (lt : m < n). before m p lt i)
    (λ (le : n ≤ m). let same : m ≡ n = omega arith in subst (λ x. KeepsAll (Keeps c x p)) (sym same) (here p (subst (λ x. IsIn c x p) same i)))
    (cases_lt m n)

pub returns-in-Err-clause-breach : goal.returns-in-Err-clause-breach
returns-in-Err-clause-breach c = first_here c.args.parts.now c.loop-n.n c.in-Err.breach c.loop-n.invariant.sound c.in-Err.ensures.fails

pub loop-n-preserved : goal.loop-n-preserved
loop-n-preserved c =
    let h : HasPassed c.args.parts.now c.loop-n.n c.pass.new.findings c.in-Ok.to = c.in-Ok.ensures.passed in
    let next = sym (add-one c.loop-n.n) in
    record {
      size = c.pass.ensures.size ∙ c.loop-n.invariant.size;
      from_is = h.to_is ∙ ap (begin (lengths_of c.args.parts.now)) next;
      opens = subst (λ s. opened s c.in-Ok.to ≡ Some []) (sym c.requires.shapes) h.opens;
      findings = subst (λ x. AreFindings c.args.parts.now x c.pass.new.findings) next h.findings;
      space = c.in-Ok.ensures.space;
      sound = sound_more c.args.parts.now c.loop-n.n c.loop-n.invariant.sound h.sound;
    }

pub returns-clause-sound : goal.returns-clause-sound
returns-clause-sound c = λ n p i. c.loop-n.invariant.sound n p (let r = i.routine in omega (arith, r)) i
