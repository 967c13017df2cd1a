-- A list of equations has one expansion.
use Rattle.sig_tree.proofs.Common.{◌≡◌, ◌++◌, ◌+◌, List, [], ◌∷◌, length, refl, sym, ap, subst, ◌∙◌, Name, Expression, Equations, ProcessModel, FlatEquation, FlatBody as FlatBodyRecord, inputs_of, outputs_of, equations_of_model, Copy, Progress, Expands, Ended, Defined, Equated, Expanded, IsFlatBody, called_copy, with_copy, inputs_defined, outputs_defined, same_Some}

-- what an expansion gives: the progress behind it, and the equations
abbrev pub Given : Type 0
Given = Progress × List FlatEquation

abbrev behind_first : (FlatEquation) → Given → Given
behind_first equation given = (given.0, equation ∷ given.1)

-- what a call gives, by the process that is called and by what its body and the equations behind it give
abbrev by_call : Copy → Progress → List Name → List Expression → ProcessModel → Given → Given → Given
by_call copy before names arguments called inside behind = (
  behind.0,
  inputs_defined copy (length before.signals) arguments
      ++ (inside.1 ++ (outputs_defined copy names (length before.signals + length (inputs_of called)) ++ behind.1)),
)

same_call : (copy : Copy) (before : Progress) (names : List Name) (arguments : List Expression) {p q : ProcessModel} {g h k l : Given}
    → p ≡ q → g ≡ h → k ≡ l → by_call copy before names arguments p g k ≡ by_call copy before names arguments q h l
same_call copy before names arguments {p} {q} {g} {h} {k} {l} process inside behind =
    ap (λ r. by_call copy before names arguments r g k) process
    ∙ (ap (λ r. by_call copy before names arguments q r k) inside ∙ ap (λ r. by_call copy before names arguments q h r) behind)

pub one : {all : List ProcessModel} {copy : Copy} {equations : List Equations} {before after : Progress} {flat : List FlatEquation}
    → Expands all copy equations before after flat → (after' : Progress) (flat' : List FlatEquation)
    → Expands all copy equations before after' flat' → ◌≡◌ {A = Given} (after, flat) (after', flat')
one Ended after' flat' Ended = refl
one (Defined name e rest) after' flat' (Defined _ _ other) = ap (behind_first _) (one rest _ _ other)
one (Equated operands rest) after' flat' (Equated _ other) = ap (behind_first _) (one rest _ _ other)
one {all = all} {copy = copy} {before = before} (Expanded {inside = i} {after = a} {rest = equations} {body = b} {flat = f} names name constants arguments called is inside rest) after' flat'
    (Expanded {inside = i'} {body = b'} {flat = f'} _ _ _ _ called' is' inside' rest') =
    let same : called ≡ called' = same_Some _ _ (sym is ∙ is') in
    let inner : ◌≡◌ {A = Given} (i, b) (i', b') = one inside i' b'
    (subst (λ q. Expands all (called_copy copy before name constants q) (equations_of_model q) (with_copy copy before names name q) i' b') (sym same) inside') in
    let outer : ◌≡◌ {A = Given} (a, f) (after', f') = one rest after' f'
    (subst (λ p. Expands all copy equations p after' f') (sym (ap (λ g. g.0) inner)) rest') in
    same_call copy before names arguments same inner outer

abbrev body_of : ProcessModel → Given → FlatBodyRecord
body_of p given = record { signals = given.0.signals; inputs = length (inputs_of p); outputs = length (outputs_of p); equations = given.1 }

pub one_body : (program : List ProcessModel) (flat other : FlatBodyRecord) → IsFlatBody program flat → IsFlatBody program other → flat ≡ other
one_body [] flat other is is' = elim is [ ]
one_body (p ∷ ps) flat other is is' = is.3 ∙ (ap (body_of p) (one is.2 is'.0 is'.1 is'.2) ∙ sym is'.3)
