-- The truths of conditions, behind values that are written and in the next instant.
use Rattle.sig_machine.proofs.Common.{◌≡◌, ◌≢◌, ◌≤◌, ◌∙◌, ℕ, ℤ, Bool, false, List, length, replicate, set, slice_get, Option, None, Some, refl, ap, sym, inl, inr, eq-eqb, eqb_tells, arith, slice_get_past, SigId, Registers, is_one, is_true, no_registers, truths_of, with_at, AreVariables, told_at}
use Rattle.sig_machine.proofs.Lists.{map_changed, map_length, map_same, map_to_constant, same_Some}

-- the truth of a condition by registers
abbrev truth_by : Registers → SigId → Bool
truth_by registers condition = is_true (registers condition.0)

with_other : (x : ℕ) (v : ℤ) (registers : Registers) (condition : SigId) → condition.0 ≢ x
    → truth_by registers condition ≡ truth_by (with_at x (Some v) registers) condition
with_other x v registers condition other = elim (eqb_tells condition.0 x) [
  | inl same ↦ absurd (other same.1)
  | inr differ ↦ rw differ.0 refl
]

with_same : (x : ℕ) (v : ℤ) (registers : Registers) (condition : SigId) → condition.0 ≡ x
    → is_one v ≡ truth_by (with_at x (Some v) registers) condition
with_same x v registers condition same = rw (eq-eqb condition.0 x same) refl

-- the truths once a signal is written that is a condition
pub truths_written : (conditions : List SigId) (variables : List (Option ℕ)) (signals x variable : ℕ) (v : ℤ) (registers : Registers)
    → AreVariables conditions signals variables → slice_get variables x ≡ Some (Some variable)
    → set (truths_of conditions registers) variable (is_one v) ≡ truths_of conditions (with_at x (Some v) registers)
truths_written conditions variables signals x variable v registers table there =
    let (named, is, number) = table.is x variable there in
    map_changed (truth_by registers) (truth_by (with_at x (Some v) registers)) conditions variable (is_one v)
    (λ j condition at other. with_other x v registers condition (λ same.
    let one : Some (Some j) ≡ Some (Some variable) =
    sym (table.all j condition at) ∙ ap (slice_get variables) same ∙ there in
    other (same_Some j variable (same_Some (Some j) (Some variable) one))))
    (λ condition at. with_same x v registers condition (ap (λ (c : SigId). c.0) (same_Some condition named (sym at ∙ is)) ∙ number))

-- and once one is written that is none
pub truths_stay : (conditions : List SigId) (variables : List (Option ℕ)) (signals x : ℕ) (v : ℤ) (registers : Registers)
    → AreVariables conditions signals variables → ((variable : ℕ) → slice_get variables x ≡ Some (Some variable) → ⊥)
    → truths_of conditions registers ≡ truths_of conditions (with_at x (Some v) registers)
truths_stay conditions variables signals x v registers table none =
    map_same (truth_by registers) (truth_by (with_at x (Some v) registers)) conditions
    (λ j condition at. with_other x v registers condition (λ same. none j (sym (ap (slice_get variables) same) ∙ table.all j condition at)))

pub truths_cleared : (conditions : List SigId) (registers : Registers) (truths : List Bool) → truths ≡ truths_of conditions registers
    → replicate (length truths) false ≡ truths_of conditions no_registers
truths_cleared conditions registers truths told =
    ap (λ n. replicate n false) (ap length told ∙ map_length (truth_by registers) conditions)
    ∙ sym (map_to_constant conditions (truth_by no_registers) false (λ condition. refl))

-- where nothing is there no condition is true
pub no_truths : (conditions : List SigId) → truths_of conditions no_registers ≡ replicate (length conditions) false
no_truths conditions = map_to_constant conditions (truth_by no_registers) false (λ condition. refl)

-- behind a cell that is written
pub told_signal : (conditions : List SigId) (variables : List (Option ℕ)) (signals x : ℕ) (v : ℤ) (registers : Registers) → AreVariables conditions signals variables
    → told_at (slice_get variables x) (is_one v) (truths_of conditions registers) ≡ truths_of conditions (with_at x (Some v) registers)
told_signal conditions variables signals x v registers table = by (slice_get variables x) refl where
  by : (found : Option (Option ℕ)) → slice_get variables x ≡ found → told_at found (is_one v) (truths_of conditions registers) ≡ truths_of conditions (with_at x (Some v) registers)
  by None is = truths_stay conditions variables signals x v registers table (λ variable there. let e : None ≡ Some (Some variable) = sym is ∙ there in cc)
  by (Some None) is = truths_stay conditions variables signals x v registers table (λ variable there. let e : Some None ≡ Some (Some variable) = sym is ∙ there in cc)
  by (Some (Some variable)) is = truths_written conditions variables signals x variable v registers table is

-- behind one that is that of no signal
pub told_none : (variables : List (Option ℕ)) (signals x : ℕ) (holds : Bool) (truths : List Bool) → length variables ≡ signals → signals ≤ x
    → told_at (slice_get variables x) holds truths ≡ truths
told_none variables signals x holds truths count most =
    ap (λ (found : Option (Option ℕ)). told_at found holds truths) (slice_get_past variables x (omega (arith, count, most)))

pub truths_count : (conditions : List SigId) (registers : Registers) → length (truths_of conditions registers) ≡ length conditions
truths_count conditions registers = map_length (truth_by registers) conditions
