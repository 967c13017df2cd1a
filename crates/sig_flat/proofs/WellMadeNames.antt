-- A well-made flat body names its signals, and each of its operators has an operand that is no constant.
use Rattle.sig_flat.proofs.Common.{◌≡◌, ◌⊎◌, Bool, false, List, [], ◌∷◌, length, refl, sym, inl, inr, arith, false≢true, AllByRecursion, Kind, Signal, is_constant, Allows, IsMade, IsWhole, IsMadeEquation, FlatExpression, Const, Unary, Binary, Cell, FlatEquation, Defines, Equal, ConstantRule, NoConstant, OneConstant, binary_row, NamesBelow, IsBelow, IsSignal, Speaks, EquationSpeaks}
use Rattle.sig_tree.specs.FlatSyntax.{Sig, Delay}
use Rattle.sig_flat.proofs.NumberedKinds.{kind_below}

pub names_below : (signals : List Signal) (e : FlatExpression) → IsMade signals e → NamesBelow (length signals) e
names_below signals (Sig number at) made = made
names_below signals (Const value kind at) made = tt
names_below signals (Unary op operand at) made = names_below signals operand made.1
names_below signals (Binary op first second at) made = (names_below signals first made.1, names_below signals second made.2)
names_below signals (Delay operand init at) made = names_below signals operand made.1
names_below signals (Cell operand held init at) made = (names_below signals operand made.2, names_below signals held made.3)

all_below : (signals : List Signal) (es : List FlatExpression) → AllByRecursion (λ (e : FlatExpression). (kind : Kind) × IsWhole signals e kind) es
    → AllByRecursion (NamesBelow (length signals)) es
all_below signals [] made = tt
all_below signals (e ∷ es) made = (names_below signals e made.0.1.made, all_below signals es made.1)

pub equations_below : (signals : List Signal) (qs : List FlatEquation) → AllByRecursion (IsMadeEquation signals) qs → AllByRecursion (IsBelow (length signals)) qs
equations_below signals [] made = tt
equations_below signals (Defines left e prefix ∷ qs) made =
    ((kind_below signals left made.0.0 made.0.2, names_below signals e made.0.3.made), equations_below signals qs made.1)
equations_below signals (Equal operands prefix ∷ qs) made = (all_below signals operands made.0, equations_below signals qs made.1)

-- what is no constant is a signal's expression
pub is_signal : (e : FlatExpression) → is_constant e ≡ false → IsSignal e
is_signal (Const value kind at) free = absurd (false≢true (sym free))
is_signal _ free = tt

one_of : (rule : ConstantRule) (first second : Bool) → Allows rule first second → (first ≡ false) ⊎ (second ≡ false)
one_of NoConstant first second allowed = inl allowed.0
one_of OneConstant false second allowed = inl refl
one_of _ _ second allowed = inr allowed

one_signal : (first second : FlatExpression) → (is_constant first ≡ false) ⊎ (is_constant second ≡ false) → IsSignal first ⊎ IsSignal second
one_signal first second (inl free) = inl (is_signal first free)
one_signal first second (inr free) = inr (is_signal second free)

pub speaks : (signals : List Signal) (e : FlatExpression) → IsMade signals e → Speaks e
speaks signals (Unary op operand at) made = (is_signal operand made.0, speaks signals operand made.1)
speaks signals (Binary op first second at) made =
    (one_signal first second (one_of (binary_row op).constants (is_constant first) (is_constant second) made.0), speaks signals first made.1, speaks signals second made.2)
speaks signals (Delay operand init at) made = speaks signals operand made.1
speaks signals (Cell operand held init at) made = (speaks signals operand made.2, speaks signals held made.3)
speaks signals _ made = tt

all_speak : (signals : List Signal) (es : List FlatExpression) → AllByRecursion (λ (e : FlatExpression). (kind : Kind) × IsWhole signals e kind) es → AllByRecursion Speaks es
all_speak signals [] made = tt
all_speak signals (e ∷ es) made = (speaks signals e made.0.1.made, all_speak signals es made.1)

pub equations_speak : (signals : List Signal) (qs : List FlatEquation) → AllByRecursion (IsMadeEquation signals) qs → AllByRecursion EquationSpeaks qs
equations_speak signals [] made = tt
equations_speak signals (Defines left e prefix ∷ qs) made = (speaks signals e made.0.3.made, equations_speak signals qs made.1)
equations_speak signals (Equal operands prefix ∷ qs) made = (all_speak signals operands made.0, equations_speak signals qs made.1)

either_none : (first second : FlatExpression) → (is_constant first ≡ false) ⊎ (is_constant second ≡ false)
    → (is_constant first ≡ false → ⊥) → (is_constant second ≡ false → ⊥) → ⊥
either_none first second (inl free) f g = f free
either_none first second (inr free) f g = g free

-- without signals there is free expression but constants
pub none_without : (e : FlatExpression) → IsMade [] e → is_constant e ≡ false → ⊥
none_without (Sig number at) made free = absurd (omega (arith, made))
none_without (Const value kind at) made free = false≢true (sym free)
none_without (Unary op operand at) made free = none_without operand made.1 made.0
none_without (Binary op first second at) made free =
    either_none first second (one_of (binary_row op).constants (is_constant first) (is_constant second) made.0) (none_without first made.1) (none_without second made.2)
none_without (Delay operand init at) made free = none_without operand made.1 made.0
none_without (Cell operand held init at) made free = none_without operand made.2 made.0
