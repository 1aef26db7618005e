-- Results that hold in any case, and breaches one after the other.
use Rattle.std.proofs.Common.{◌≡◌, List, ◌++◌, Option, sym, ◌∙◌}
use Rattle.std.specs.Prelude.{Result, Ok, Err, OnOk, OnErr}
use Rattle.td_elab_rules.specs.declared.breach.Breach.{Breach}
use Rattle.td_elab_rules.specs.Breach.{first_of}
use Rattle.td_elab_exprs.proofs.Steps.{first_append}

pub on_ok_always : {T E P : Type 0} (r : Result T E) → P → OnOk r P
on_ok_always (Ok x) p = p
on_ok_always (Err e) p = tt

pub on_err_always : {T E P : Type 0} (r : Result T E) → P → OnErr r P
on_err_always (Ok x) p = tt
on_err_always (Err e) p = p

pub three : (o : Option Breach) (xs ys zs : List Breach) → first_of (first_of (first_of o xs) ys) zs ≡ first_of o (xs ++ (ys ++ zs))
three o xs ys zs = sym (first_append (first_of o xs) ys zs) ∙ sym (first_append o xs (ys ++ zs))

pub four : (o : Option Breach) (xs ys zs ws : List Breach) → first_of (first_of (first_of (first_of o xs) ys) zs) ws ≡ first_of o (xs ++ (ys ++ (zs ++ ws)))
four o xs ys zs ws = three (first_of o xs) ys zs ws ∙ sym (first_append o xs (ys ++ (zs ++ ws)))
