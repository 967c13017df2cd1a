-- Abstract reactions: what is left of an instant of a kernel where the values of integers are left out. Each
-- signal is absent, or present with a truth. The clock calculus of Amagbegnon, Besnard and Le Guernic
-- (PLDI 1995) works on them; here they are a set that a test on each equation gives.
use Rattle.std.specs.Prelude.{◌≡◌, ◌&&◌, ◌||◌, ◌∷◌, if◌then◌else◌}
use Rattle.sig_clock.specs.Prelude.{ℕ, ℤ, pos, Bool, true, false, not, List, [], map, Option, None, Some, is_some, slice_get, slice_index_or, AllPass, list_all, list_any, int_eq, Kind, Integer, Boolean, SigId, Signal, kind_at, FunOp, Id, Neg, Not, And, Or, Xor, Eq, Ne, Lt, Le, Gt, Ge, Add, Sub, Mul, Div, Mod, Operand, Sig, Const, Form, Fun, Delay, When, WhenConst, Default, Sync, Event as EventOf, Equation, Kernel}
use Rattle.sig_base.specs.declared.ids.Kind.TheVariants.{Event}

-- what a signal is in an abstract reaction: absent, or present with a truth; the truth of an event is true, and
-- so is, by convention, that of an integer
abbrev pub Status : Type 0
Status = Option Bool

-- what each signal is, by its number
abbrev pub Reaction : Type 0
Reaction = List Status

abbrev pub status_at : Reaction → ℕ → Status
status_at reaction signal = slice_index_or reaction signal None

abbrev pub is_present : Reaction → ℕ → Bool
is_present reaction signal = is_some (status_at reaction signal)

-- no signal is present
abbrev pub is_silent : Reaction → Bool
is_silent reaction = list_all (λ status. not (is_some status)) reaction

abbrev pub same_truth : Bool → Bool → Bool
same_truth true b = b
same_truth false b = not b

abbrev pub same_status : Status → Status → Bool
same_status None None = true
same_status None (Some b) = false
same_status (Some a) None = false
same_status (Some a) (Some b) = same_truth a b

-- a truth where a signal is present
abbrev pub where_present : Status → Bool → Status
where_present None truth = None
where_present (Some b) truth = Some truth

-- what a signal is, where another one is present and true
abbrev pub where_true : Status → Status → Status
where_true None x = None
where_true (Some b) x = if b then x else None

-- what a signal is, and where it is absent, what another one is
abbrev pub or_else : Status → Status → Status
or_else None v = v
or_else (Some u) v = Some u

-- only a boolean may be false
abbrev pub is_status_of : Kind → Status → Bool
is_status_of Boolean status = true
is_status_of Integer status = same_status status (where_present status true)
is_status_of Event status = same_status status (where_present status true)

-- one status for each signal, of its kind
abbrev pub are_statuses : List Signal → Reaction → Bool
are_statuses [] [] = true
are_statuses [] (status ∷ reaction) = false
are_statuses (signal ∷ signals) [] = false
are_statuses (signal ∷ signals) (status ∷ reaction) = is_status_of signal.kind status && are_statuses signals reaction

abbrev pub is_integer_kind : Option Kind → Bool
is_integer_kind (Some Integer) = true
is_integer_kind kind = false

abbrev pub is_boolean_kind : Option Kind → Bool
is_boolean_kind (Some Boolean) = true
is_boolean_kind kind = false

-- an operand that is a signal of integers
abbrev pub is_integer : List Signal → Operand → Bool
is_integer signals (Sig x) = is_integer_kind (kind_at signals x)
is_integer signals (Const constant) = false

-- the function compares integers
abbrev pub compares : List Signal → FunOp → List Operand → Bool
compares signals Lt operands = true
compares signals Le operands = true
compares signals Gt operands = true
compares signals Ge operands = true
compares signals Eq operands = list_any (is_integer signals) operands
compares signals Ne operands = list_any (is_integer signals) operands
compares signals op operands = false

-- the truth of an operand: a signal's where it is present, and that of a constant
abbrev pub truth_of_status : Status → Bool
truth_of_status None = false
truth_of_status (Some b) = b

abbrev pub operand_truth : Reaction → Operand → Bool
operand_truth reaction (Sig x) = truth_of_status (status_at reaction x.0)
operand_truth reaction (Const constant) = int_eq constant (pos 1)

-- the truth that a function of truths gives; the other functions leave it open
abbrev pub truth_function : FunOp → List Bool → Option Bool
truth_function Id (a ∷ []) = Some a
truth_function Not (a ∷ []) = Some (not a)
truth_function And (a ∷ b ∷ []) = Some (a && b)
truth_function Or (a ∷ b ∷ []) = Some (a || b)
truth_function Xor (a ∷ b ∷ []) = Some (not (same_truth a b))
truth_function Eq (a ∷ b ∷ []) = Some (same_truth a b)
truth_function Ne (a ∷ b ∷ []) = Some (not (same_truth a b))
truth_function op truths = None

abbrev pub function_truth : List Signal → Reaction → FunOp → List Operand → Option Bool
function_truth signals reaction op operands =
    if compares signals op operands then None else truth_function op (map (operand_truth reaction) operands)

-- a signal that is present has the truth that is given, if one is
abbrev pub has_truth : Status → Option Bool → Bool
has_truth None truth = true
has_truth (Some a) None = true
has_truth (Some a) (Some b) = same_truth a b

-- an operand that is a signal is present where another one is, and absent where that is
abbrev pub is_with : Reaction → Bool → Operand → Bool
is_with reaction present (Sig x) = same_truth present (is_present reaction x.0)
is_with reaction present (Const constant) = true

-- the truth that a constant has in a signal of this kind
abbrev pub constant_truth : Option Kind → ℤ → Bool
constant_truth (Some Boolean) constant = int_eq constant (pos 1)
constant_truth kind constant = true

-- an abstract reaction meets an equation of this form
abbrev pub meets : List Signal → Reaction → Form → Bool
meets signals reaction (Fun y op operands) =
    list_all (is_with reaction (is_present reaction y.0)) operands && has_truth (status_at reaction y.0) (function_truth signals reaction op operands)
meets signals reaction (Delay y x initial) = same_truth (is_present reaction y.0) (is_present reaction x.0)
meets signals reaction (When y x b) = same_status (status_at reaction y.0) (where_true (status_at reaction b.0) (status_at reaction x.0))
meets signals reaction (WhenConst y constant b) = same_status (status_at reaction y.0) (where_true (status_at reaction b.0) (Some (constant_truth (kind_at signals y) constant)))
meets signals reaction (Default y u v) = same_status (status_at reaction y.0) (or_else (status_at reaction u.0) (status_at reaction v.0))
meets signals reaction (Sync x y) = same_truth (is_present reaction x.0) (is_present reaction y.0)
meets signals reaction (EventOf y x) = same_status (status_at reaction y.0) (where_present (status_at reaction x.0) true)

-- an abstract reaction of a kernel
pub record IsReaction (kernel : Kernel) (reaction : Reaction) : Type 0 where
  pub kinds : are_statuses kernel.signals reaction ≡ true
  pub equations : AllPass (λ equation. meets kernel.signals reaction equation.form) kernel.equations

-- an abstract reaction in which some signal is present
pub record Speaks (kernel : Kernel) (reaction : Reaction) : Type 0 where
  pub is : IsReaction kernel reaction
  pub some : is_silent reaction ≡ false
