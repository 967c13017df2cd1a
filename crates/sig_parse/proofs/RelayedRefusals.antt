-- A refusal that is handed on.
use Rattle.sig_parse.proofs.Common.{◌≡◌, sym, subst, Result, Ok, Err, IfErr, IsErr, IsErrAnd, Refusal}

-- and what is said of it
pub handed : {T : Type 0} (P : Refusal → Type 0) (r : Result T Refusal) (e : Refusal) → IsErr r × IsErrAnd r (λ f. f ≡ e) → P e → IfErr r P
handed P (Ok x) e h p = tt
handed P (Err f) e h p = subst P (sym h.1) p

-- what is said of each refusal
pub since_refused : {T : Type 0} (P Q : Refusal → Type 0) (r : Result T Refusal) → IfErr r P → ((why : Refusal) → P why → Q why) → IfErr r Q
since_refused P Q (Ok x) h f = tt
since_refused P Q (Err e) h f = f e h

pub since_both : {T : Type 0} (P O Q : Refusal → Type 0) (r : Result T Refusal) → IfErr r P → IfErr r O → ((why : Refusal) → P why → O why → Q why) → IfErr r Q
since_both P O Q (Ok x) h g f = tt
since_both P O Q (Err e) h g f = f e h g
