-- What a call tells of its result, in other words.
use Rattle.std.specs.Prelude.{Result, Ok, Err, IfOk, OnErr}

pub with_one : {T E : Type 0} {P Q : T → Type 0} (r : Result T E) → IfOk r P → ((x : T) → P x → Q x) → IfOk r Q
with_one (Ok x) p f = f x p
with_one (Err e) p f = tt

pub with_both : {T E : Type 0} {P Q R : T → Type 0} (r : Result T E) → IfOk r P → IfOk r Q → ((x : T) → P x → Q x → R x) → IfOk r R
with_both (Ok x) p q f = f x p q
with_both (Err e) p q f = tt

pub with_three : {T E : Type 0} {P Q R S : T → Type 0} (r : Result T E) → IfOk r P → IfOk r Q → IfOk r R → ((x : T) → P x → Q x → R x → S x) → IfOk r S
with_three (Ok x) p q u f = f x p q u
with_three (Err e) p q u f = tt

pub or_err : {T E P Q : Type 0} (r : Result T E) → OnErr r P → (P → Q) → OnErr r Q
or_err (Ok x) p f = tt
or_err (Err e) p f = f p

pub always_err : {T E P : Type 0} (r : Result T E) → P → OnErr r P
always_err (Ok x) p = tt
always_err (Err e) p = p
