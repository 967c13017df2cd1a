-- The walk of a guard over the cells of the conditions.
use Rattle.sig_cells.proofs.Common.{◌≡◌, ◌<◌, ◌∙◌, ℕ, zero, suc, Bool, true, List, [], ◌∷◌, length, eqb, slice_get, slice_index_or, None, Some, refl, ap, sym, arith, SigId, Depends, truth_of, Holds, IsReduced, IsRefOf, node_of, test, Node, Ref, one_ref, IsRefOf-constant, HasVariable-node, tests_own, Depends-Tests, constant_value, Registers, is_true, truths_of}

-- the truth of a variable is that of its condition
pub truth_at : (conditions : List SigId) (registers : Registers) (v : ℕ) (d : SigId) → v < length conditions
    → truth_of (truths_of conditions registers) v ≡ is_true (registers (slice_index_or conditions v d).0)
truth_at [] registers v d below = absurd (omega arith)
truth_at (c ∷ conditions) registers zero d below = refl
truth_at (c ∷ conditions) registers (suc v) d below = truth_at conditions registers v d (omega (arith, below))

pub condition_at : (conditions : List SigId) (v : ℕ) (d : SigId) → v < length conditions → slice_get conditions v ≡ Some (slice_index_or conditions v d)
condition_at [] v d below = absurd (omega arith)
condition_at (c ∷ conditions) zero d below = refl
condition_at (c ∷ conditions) (suc v) d below = condition_at conditions v d (omega (arith, below))

-- the variable of a node is one on which its function depends
pub variable_within : (nodes : List Node) → IsReduced nodes → (r : Ref) → Holds nodes r → (n : Node) → Some n ≡ node_of nodes r → (count : ℕ)
    → ((v : ℕ) → Depends (test nodes r) v → v < count) → n.variable < count
variable_within nodes reduced r held n is count told =
    told n.variable (Depends-Tests nodes reduced r held n.variable (tests_own nodes reduced r held n.variable (HasVariable-node nodes reduced r held n is)))

-- a constant is true where it is the reference to the truth
pub constant_is : (nodes : List Node) → IsReduced nodes → (r : Ref) → Holds nodes r → None ≡ node_of nodes r → (t : Ref) → IsRefOf nodes (λ _. true) t
    → (truths : List Bool) → eqb r.number t.number ≡ test nodes r truths
constant_is nodes reduced r held none t is truths =
    let one : Ref = record { number = 1 } in
    let true_one = IsRefOf-constant nodes true one refl in
    let same : t ≡ one = one_ref nodes reduced t one is.holds true_one.holds (λ ts. is.function ts ∙ sym (true_one.function ts)) in
    ap (λ (x : Ref). eqb r.number x.number) same ∙ constant_value nodes reduced r held none truths
