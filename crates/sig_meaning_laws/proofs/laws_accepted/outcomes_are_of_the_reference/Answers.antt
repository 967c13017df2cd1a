use Rattle.sig_meaning_laws.proofs.{◌≡◌, ℕ, zero, suc, ◌++◌, ◌∷◌, [], List, ap, subst, arith, Some, slice_get, Node, IsReference, operation_in, operations_in, numbers_of, Op, compiled, fitting, clean, is_outcome}
use Rattle.sig_meaning_laws.proofs.laws_accepted.outcomes_are_of_the_reference.Goals as goal

made_at : (nodes : List Node) (ops : List Op) (number : ℕ) (op : Op) → slice_get ops number ≡ Some op → slice_get (operations_in nodes ops) number ≡ Some (operation_in nodes op)
made_at nodes [] number op is = absurd (let e = is in cc)
made_at nodes (o ∷ ops) zero op is = let e : Some o ≡ Some op = is in let one : o ≡ op = cc in ap (λ (z : Op). Some (operation_in nodes z)) one
made_at nodes (o ∷ ops) (suc number) op is = made_at nodes ops number op is

pub returns : goal.returns
returns c = λ plan accepted flows fit trace instant is fits speaks reference number op there done actor stands.
    let f = fitting plan accepted flows fit in
    is_outcome plan.kernel plan.clocks.conditions (operations_in plan.store.nodes plan.ops) (numbers_of plan.order) (compiled plan accepted) flows f trace (clean f trace is fits speaks) instant
    (subst (λ n. IsReference plan.kernel flows n (trace ++ instant ∷ [])) (omega arith) reference) plan.store.nodes number op (made_at plan.store.nodes plan.ops number op there) actor stands done
