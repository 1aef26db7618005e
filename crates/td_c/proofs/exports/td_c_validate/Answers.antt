use Rattle.std.proofs.Common.{rules, ◌≡◌, sym, subst, w32, to_z, of_z}
use Rattle.td_c.specs.Asked as asked
use Rattle.td_c.specs.Kept.{IsAnswered}
use Rattle.td_c.proofs.exports.td_c_validate.Goals as goal

-- the slot was taken out of the handle, and put back
pub returns-clause-answered : goal.returns-clause-answered
returns-clause-answered c = λ full.
    let a = c.args in
    let v = c.validate_in-code in
    let code : to_z w32 (of_z w32 v.result.0) ≡ v.result.0 = search rules in
    subst (λ n. IsAnswered a.handle.now.value c.put.new.self.value a.call.now v.new.call (asked.layout_of a.call.now) a.count v.result.1.made a.rows.now v.new.rows n) (sym code)
    (subst (λ l. IsAnswered a.handle.now.value c.put.new.self.value a.call.now v.new.call l a.count v.result.1.made a.rows.now v.new.rows v.result.0) c.one-layout.ensures
    (subst (λ s. IsAnswered s c.put.new.self.value a.call.now v.new.call c.one-layout.result a.count v.result.1.made a.rows.now v.new.rows v.result.0) c.take-slot.ensures
    (subst (λ s. IsAnswered c.take-slot.result.now s a.call.now v.new.call c.one-layout.result a.count v.result.1.made a.rows.now v.new.rows v.result.0) (sym c.put.ensures.1)
    v.ensures.answered)))
