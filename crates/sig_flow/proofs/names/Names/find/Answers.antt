use Rattle.sig_flow.proofs.{◌≡◌, ◌∙◌, ℕ, List, None, Option, Some, sym, subst, length, kind_named, ArePlaces, IsInput, Signal, place_input, place_none, IfNone, IfSome, get_by, nat_cmp, slice_cmp}
use Rattle.sig_flow.proofs.names.Names.find.Goals as goal

found : (inputs : List Signal) (place : List ℕ → Option ℕ) → ArePlaces inputs (length inputs) place → (q : List ℕ) (o : Option ℕ) → o ≡ place q → IfSome o (IsInput inputs q)
found inputs place places q None is = tt
found inputs place places q (Some i) is = place_input inputs place places q i (sym is)

absent : (inputs : List Signal) (place : List ℕ → Option ℕ) → ArePlaces inputs (length inputs) place → (q : List ℕ) (o : Option ℕ) → o ≡ place q → IfNone o (kind_named inputs q ≡ None)
absent inputs place places q None is = place_none inputs place places q (sym is)
absent inputs place places q (Some i) is = tt

pub returns-clause-found : goal.returns-clause-found
returns-clause-found c =
    subst (λ (inputs : List Signal). IfSome c.copied.result (IsInput inputs c.args.name.now)) c.self.view_is
    (found c.self.inside.inputs.now (λ (q : List ℕ). get_by (λ k. slice_cmp nat_cmp q k.now) c.self.inside.places) c.self.invariant c.args.name.now c.copied.result (c.copied.ensures ∙ c.get.ensures.value))

pub returns-clause-absent : goal.returns-clause-absent
returns-clause-absent c =
    subst (λ (inputs : List Signal). IfNone c.copied.result (kind_named inputs c.args.name.now ≡ None)) c.self.view_is
    (absent c.self.inside.inputs.now (λ (q : List ℕ). get_by (λ k. slice_cmp nat_cmp q k.now) c.self.inside.places) c.self.invariant c.args.name.now c.copied.result (c.copied.ensures ∙ c.get.ensures.value))
