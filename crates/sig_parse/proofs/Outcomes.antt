-- What follows from several clauses of one call.
use Rattle.sig_parse.proofs.Common.{Result, Ok, Err, IfOk, OnOk}

pub on_ok : {T E Q R : Type 0} (P : T → Type 0) (r : Result T E) → IfOk r P → OnOk r Q → ((x : T) → P x → Q → R) → OnOk r R
on_ok P (Ok x) p q f = f x p q
on_ok P (Err e) p q f = tt

-- the same of one clause, or of none
pub ok_since : {T E Q : Type 0} (P : T → Type 0) (r : Result T E) → IfOk r P → ((x : T) → P x → Q) → OnOk r Q
ok_since P (Ok x) p f = f x p
ok_since P (Err e) p f = tt

pub on_each_ok : {T E Q : Type 0} (r : Result T E) → Q → OnOk r Q
on_each_ok (Ok x) q = q
on_each_ok (Err e) q = tt
