-- The codes of all actors, and the plan that they make whole.
use Rattle.sig_code.proofs.Common.{◌≡◌, ℕ, ◌+◌, ◌<◌, List, [], ◌∷◌, ◌++◌, All, length, get_or, sym, ap, ◌∙◌, subst, inl, inr, arith, length-append, get_or-map, length-map, slice_get_within, OpId, SigId, AreCodesOf, IsCodeOf, parts_of, Node, AreCodes, CodeView, Instruction, instructions_of, Operation, operation_in, operations_in, HasNoCycle, IsCompiledOrder, Precedes, Reaches, directly, onward, PartsView, numbers_of, Op, none_before_itself, get_pushed}

pub codes_none : (nodes : List Node) (instructions : ℕ → List Instruction) (codes : List CodeView) → codes ≡ [] → AreCodesOf nodes instructions 0 codes
codes_none nodes instructions codes none = record {
  counted = ap length none;
  each = λ actor code is. let lt = slice_get_within codes actor code is in absurd (omega (arith, lt, ap length none));
}

-- the code of one more actor
pub codes_more : (nodes : List Node) (instructions : ℕ → List Instruction) (n : ℕ) (codes : List CodeView) (code : CodeView) (new : List CodeView) → new ≡ codes ++ code ∷ []
    → AreCodesOf nodes instructions n codes → IsCodeOf nodes (instructions n) code → AreCodesOf nodes instructions (n + 1) new
codes_more nodes instructions n codes code new added are is =
    subst (λ (cs : List CodeView). AreCodesOf nodes instructions (n + 1) cs) (sym added)
    (record {
      counted = omega (arith, are.counted, length-append codes (code ∷ []));
      each = λ actor other at. elim (get_pushed codes code actor other at) [
        | inl before ↦ are.each actor other before
        | inr here ↦
            let last : n ≡ actor = sym (here.0 ∙ are.counted) in
            subst (λ (c : CodeView). IsCodeOf nodes (instructions actor) c) here.1 (subst (λ (m : ℕ). IsCodeOf nodes (instructions m) code) last is)
      ];
    })

-- codes of all actors are the codes of these parts
pub are_codes : (nodes : List Node) (operations : List Operation) (order : List ℕ) (parts : PartsView) (codes : List CodeView)
    → AreCodesOf nodes (instructions_of operations order (parts_of parts.clusters parts.links)) (parts.clusters + 1) codes → AreCodes nodes operations order parts codes
are_codes nodes operations order parts codes are = record {
  actors = are.counted;
  each = λ actor code at. let is = are.each actor code at in record { count = is.count; steps = is.steps; slots = is.slots };
}

-- an order holds numbers of operations
pub order_within : (nodes : List Node) (conditions : List SigId) (ops : List Op) (order : List OpId) → IsCompiledOrder conditions (operations_in nodes ops) (numbers_of order)
    → All (λ op. op.0 < length ops) order
order_within nodes conditions ops order is k d lt =
    let few : length (operations_in nodes ops) ≡ length ops = length-map ops (operation_in nodes) in
    let counted : length (numbers_of order) ≡ length order = length-map order (λ (op : OpId). op.0) in
    let place : k < length (operations_in nodes ops) = omega (arith, lt, counted, is.all) in
    let ready = (is.each k place).holds in
    let at : get_or (numbers_of order) k 0 ≡ (get_or order k d).0 = get_or-map (λ (op : OpId). op.0) order k d 0 lt in
    omega (arith, ready.within, at, few)

-- what precedes something is an operation
starts_within : (conditions : List SigId) (operations : List Operation) (i j : ℕ) → Reaches (Precedes conditions operations) i j → i < length operations
starts_within conditions operations _ _ (directly i j edge) = slice_get_within operations i edge.p edge.is
starts_within conditions operations _ _ (onward i j k edge rest) = slice_get_within operations i edge.p edge.is

-- where there is an order, there is no cycle
pub no_cycle : (conditions : List SigId) (operations : List Operation) (order : List ℕ) → IsCompiledOrder conditions operations order → HasNoCycle conditions operations
no_cycle conditions operations order is i cycle =
    none_before_itself (Precedes conditions operations) (length operations) order is i (starts_within conditions operations i i cycle) cycle
