-- Silent instants may be put into a trace of a process and taken out of it.
use Rattle.sig_tree.proofs.Common.{◌≡◌, ℕ, zero, suc, ℤ, Bool, true, false, List, [], ◌∷◌, None, Some, refl, sym, ap, subst, inl, inr, ◌⊎◌, AllByRecursion, AllZip, Instant, Trace, seen_at, is_silent, reduce, UnOp, Not, Neg, When as UnaryWhen, Clock, BinOp, Default, Plus, Meet, Less, Or, Xor, And, Eq, Ne, Lt, Le, Gt, Ge, Add, Sub, Mul, Div, Mod, is_function, is_constant, IsSignals, AreSignals, FlatExpression, Sig, Const, FlatEquation, Defines, Equal, Operand, Signal, Changes, Combines, HoldThroughout, Steps, EquationSteps, BodySteps}
use Rattle.sig_tree.specs.declared.expr.BinOp.TheVariants.{When}
use Rattle.sig_tree.specs.FlatSyntax.{Unary, Binary, Delay, Cell}
use Rattle.sig_tree.specs.Operators.{Constant}
use Rattle.sig_tree.proofs.OneMeaning.{OneValue}
use Rattle.sig_tree.proofs.EquationLaws.{through_first, through_rest, through_cons, zip_over}

pub silent_absent : (now : Instant) (signal : ℕ) → is_silent now ≡ true → seen_at now signal ≡ None
silent_absent [] signal h = refl
silent_absent (None ∷ now) zero h = refl
silent_absent (None ∷ now) (suc signal) h = silent_absent now signal h
silent_absent (Some v ∷ now) signal h = cc

constant_step : (e : FlatExpression) (now : Instant) → is_constant e ≡ true → (c : ℤ) × Steps e now (Constant c) e
constant_step (Const value kind at) now h = (value, (refl, refl))
constant_step (Sig signal at) now h = cc
constant_step (Unary op operand at) now h = cc
constant_step (Binary op left right at) now h = cc
constant_step (Delay operand init at) now h = cc
constant_step (Cell operand truth init at) now h = cc

absent_changes : (op : UnOp) → Changes op (Signal None) None
absent_changes Not = refl
absent_changes Neg = refl
absent_changes UnaryWhen = refl
absent_changes Clock = refl

absent_combines : (op : BinOp) → Combines op (Signal None) (Signal None) None
absent_combines Default = refl
absent_combines When = refl
absent_combines Plus = refl
absent_combines Meet = refl
absent_combines Less = refl
absent_combines Or = refl
absent_combines Xor = refl
absent_combines And = refl
absent_combines Eq = refl
absent_combines Ne = refl
absent_combines Lt = refl
absent_combines Le = refl
absent_combines Gt = refl
absent_combines Ge = refl
absent_combines Add = refl
absent_combines Sub = refl
absent_combines Mul = refl
absent_combines Div = refl
absent_combines Mod = refl

-- a function of a constant and a signal that is absent is absent
beside_constant : (op : BinOp) (c : ℤ) → is_function op ≡ true → Combines op (Constant c) (Signal None) None × Combines op (Signal None) (Constant c) None
beside_constant Default c h = cc
beside_constant When c h = cc
beside_constant Plus c h = cc
beside_constant Meet c h = cc
beside_constant Less c h = cc
beside_constant Or c h = (refl, refl)
beside_constant Xor c h = (refl, refl)
beside_constant And c h = (refl, refl)
beside_constant Eq c h = (refl, refl)
beside_constant Ne c h = (refl, refl)
beside_constant Lt c h = (refl, refl)
beside_constant Le c h = (refl, refl)
beside_constant Gt c h = (refl, refl)
beside_constant Ge c h = (refl, refl)
beside_constant Add c h = (refl, refl)
beside_constant Sub c h = (refl, refl)
beside_constant Mul c h = (refl, refl)
beside_constant Div c h = (refl, refl)
beside_constant Mod c h = (refl, refl)

before_absent : (op : BinOp) (c : ℤ) → (is_function op ≡ true) ⊎ (op ≡ When) → Combines op (Constant c) (Signal None) None
before_absent op c (inl h) = (beside_constant op c h).0
before_absent op c (inr h) = subst (λ o. Combines o (Constant c) (Signal None) None) (sym h) refl

-- where all signals are absent, a signal's expression is absent, and keeps what it kept
pub silent_step : (e : FlatExpression) → IsSignals e → (now : Instant) → is_silent now ≡ true → Steps e now (Signal None) e
silent_step (Sig signal at) is now silent = (ap Signal (sym (silent_absent now signal silent)), refl)
silent_step (Const value kind at) is now silent = absurd is
silent_step (Unary op operand at) is now silent = (Signal None, operand, silent_step operand is now silent, None, absent_changes op, refl, refl)
silent_step (Binary op left right at) (inl is) now silent =
    (Signal None, Signal None, left, right, silent_step left is.0 now silent, silent_step right is.1 now silent, None, absent_combines op, refl, refl)
silent_step (Binary op left right at) (inr (inl is)) now silent =
    let c = constant_step left now is.0 in
    (Constant c.0, Signal None, left, right, c.1, silent_step right is.2 now silent, None, before_absent op c.0 is.1, refl, refl)
silent_step (Binary op left right at) (inr (inr is)) now silent =
    let c = constant_step right now is.0 in
    (Signal None, Constant c.0, left, right, silent_step left is.2 now silent, c.1, None, (beside_constant op c.0 is.1).1, refl, refl)
silent_step (Delay operand init at) is now silent = (None, operand, silent_step operand is now silent, refl, refl)
silent_step (Cell operand truth init at) is now silent =
    (None, None, operand, truth, silent_step operand is.0 now silent, silent_step truth is.1 now silent, refl, refl)

each_silent : (es : List FlatExpression) → AllByRecursion IsSignals es → (now : Instant) → is_silent now ≡ true → AllZip (λ e rest. Steps e now (Signal None) rest) es es
each_silent [] are now silent = tt
each_silent (e ∷ es) are now silent = (silent_step e are.0 now silent, each_silent es are.1 now silent)

silent_equation : (q : FlatEquation) → AreSignals q → (now : Instant) → is_silent now ≡ true → EquationSteps now q q
silent_equation (Defines signal e prefix) are now silent =
    (e, subst (λ x. Steps e now (Signal x) e) (sym (silent_absent now signal silent)) (silent_step e are now silent), refl)
silent_equation (Equal es prefix) are now silent = (es, inl (each_silent es are now silent), refl)

pub silent_body : (qs : List FlatEquation) → AllByRecursion AreSignals qs → (now : Instant) → is_silent now ≡ true → BodySteps now qs qs
silent_body [] are now silent = tt
silent_body (q ∷ qs) are now silent = (silent_equation q are.0 now silent, silent_body qs are.1 now silent)

-- what an expression becomes is a signal's expression where it is one
constant_kept : (e : FlatExpression) (now : Instant) (o : Operand) (next : FlatExpression) → Steps e now o next → is_constant e ≡ true → is_constant next ≡ true
constant_kept (Const value kind at) now o next a h = ap is_constant a.1
constant_kept (Sig signal at) now o next a h = cc
constant_kept (Unary op operand at) now o next a h = cc
constant_kept (Binary op left right at) now o next a h = cc
constant_kept (Delay operand init at) now o next a h = cc
constant_kept (Cell operand truth init at) now o next a h = cc

signals_kept : (e : FlatExpression) (now : Instant) (o : Operand) (next : FlatExpression) → Steps e now o next → IsSignals e → IsSignals next
signals_kept (Sig signal at) now o next a is = subst IsSignals (sym a.1) tt
signals_kept (Const value kind at) now o next a is = absurd is
signals_kept (Unary op operand at) now o next a is = subst IsSignals (sym a.6) (signals_kept operand now a.0 a.1 a.2 is)
signals_kept (Binary op left right at) now o next a (inl is) =
    subst IsSignals (sym a.9) (inl (signals_kept left now a.0 a.2 a.4 is.0, signals_kept right now a.1 a.3 a.5 is.1))
signals_kept (Binary op left right at) now o next a (inr (inl is)) =
    subst IsSignals (sym a.9) (inr (inl (constant_kept left now a.0 a.2 a.4 is.0, is.1, signals_kept right now a.1 a.3 a.5 is.2)))
signals_kept (Binary op left right at) now o next a (inr (inr is)) =
    subst IsSignals (sym a.9) (inr (inr (constant_kept right now a.1 a.3 a.5 is.0, is.1, signals_kept left now a.0 a.2 a.4 is.2)))
signals_kept (Delay operand init at) now o next a is = subst IsSignals (sym a.4) (signals_kept operand now (Signal a.0) a.1 a.2 is)
signals_kept (Cell operand truth init at) now o next a is =
    subst IsSignals (sym a.7) (signals_kept operand now (Signal a.0) a.2 a.4 is.0, signals_kept truth now (Signal a.1) a.3 a.5 is.1)

each_kept : (R : FlatExpression → FlatExpression → Type 0) (now : Instant) → ((e rest : FlatExpression) → R e rest → (o : Operand) × Steps e now o rest) → (es rests : List FlatExpression) → AllZip R es rests → AllByRecursion IsSignals es → AllByRecursion IsSignals rests
each_kept R now f es rests h are = zip_over IsSignals IsSignals R (λ e r s is. signals_kept e now (f e r s).0 r (f e r s).1 is) es rests h are

equal_kept : (now : Instant) (es rests : List FlatExpression) → AllZip (λ e rest. Steps e now (Signal None) rest) es rests ⊎ AllZip (λ e rest. (v : ℤ) × Steps e now (Signal (Some v)) rest) es rests
    → AllByRecursion IsSignals es → AllByRecursion IsSignals rests
equal_kept now es rests (inl h) are = each_kept (λ e rest. Steps e now (Signal None) rest) now (λ e r s. (Signal None, s)) es rests h are
equal_kept now es rests (inr h) are = each_kept (λ e rest. (v : ℤ) × Steps e now (Signal (Some v)) rest) now (λ e r s. (Signal (Some s.0), s.1)) es rests h are

equation_kept : (now : Instant) (q next : FlatEquation) → EquationSteps now q next → AreSignals q → AreSignals next
equation_kept now (Defines signal e prefix) next a are = subst AreSignals (sym a.2) (signals_kept e now (Signal (seen_at now signal)) a.0 a.1 are)
equation_kept now (Equal es prefix) next a are = subst AreSignals (sym a.2) (equal_kept now es a.0 a.1 are)

body_kept : (now : Instant) (qs nexts : List FlatEquation) → BodySteps now qs nexts → AllByRecursion AreSignals qs → AllByRecursion AreSignals nexts
body_kept now qs nexts h are = zip_over AreSignals AreSignals (EquationSteps now) (λ q n s is. equation_kept now q n s is) qs nexts h are

reduced_silent : (now : Instant) (t : Trace) → is_silent now ≡ true → reduce (now ∷ t) ≡ reduce t
reduced_silent now t silent = rw silent refl

reduced_speaking : (now : Instant) (t : Trace) → is_silent now ≡ false → reduce (now ∷ t) ≡ now ∷ reduce t
reduced_speaking now t speaks = rw speaks refl

out_of : OneValue → (qs : List FlatEquation) → AllByRecursion AreSignals qs → (now : Instant) (t : Trace) (silent : Bool) → is_silent now ≡ silent
    → ((nexts : List FlatEquation) → AllByRecursion AreSignals nexts → HoldThroughout nexts t → HoldThroughout nexts (reduce t))
    → HoldThroughout qs (now ∷ t) → HoldThroughout qs (reduce (now ∷ t))
out_of one qs are now t true is again h =
    subst (HoldThroughout qs) (sym (reduced_silent now t is)) (again qs are (through_rest one qs qs now t (silent_body qs are now is) h))
out_of one qs are now t false is again h =
    let s = through_first qs now t h in
    subst (HoldThroughout qs) (sym (reduced_speaking now t is))
    (through_cons one qs s.0 now (reduce t) s.1 (again s.0 (body_kept now qs s.0 s.1 are) (through_rest one qs s.0 now t s.1 h)))

pub without_silence : OneValue → (t : Trace) (qs : List FlatEquation) → AllByRecursion AreSignals qs → HoldThroughout qs t → HoldThroughout qs (reduce t)
without_silence one [] qs are h = h
without_silence one (now ∷ t) qs are h = out_of one qs are now t (is_silent now) refl (without_silence one t) h

into : OneValue → (qs : List FlatEquation) → AllByRecursion AreSignals qs → (now : Instant) (t : Trace) (silent : Bool) → is_silent now ≡ silent
    → ((nexts : List FlatEquation) → AllByRecursion AreSignals nexts → HoldThroughout nexts (reduce t) → HoldThroughout nexts t)
    → HoldThroughout qs (reduce (now ∷ t)) → HoldThroughout qs (now ∷ t)
into one qs are now t true is again h =
    through_cons one qs qs now t (silent_body qs are now is) (again qs are (subst (HoldThroughout qs) (reduced_silent now t is) h))
into one qs are now t false is again h =
    let g : HoldThroughout qs (now ∷ reduce t) = subst (HoldThroughout qs) (reduced_speaking now t is) h in
    let s = through_first qs now (reduce t) g in
    through_cons one qs s.0 now t s.1 (again s.0 (body_kept now qs s.0 s.1 are) (through_rest one qs s.0 now (reduce t) s.1 g))

pub with_silence : OneValue → (t : Trace) (qs : List FlatEquation) → AllByRecursion AreSignals qs → HoldThroughout qs (reduce t) → HoldThroughout qs t
with_silence one [] qs are h = h
with_silence one (now ∷ t) qs are h = into one qs are now t (is_silent now) refl (with_silence one t) h

-- what holds of each instant holds of those that are not silent
kept_kinds : (P : Instant → Type 0) (now : Instant) (t : Trace) (silent : Bool) → is_silent now ≡ silent → P now → AllByRecursion P (reduce t) → AllByRecursion P (reduce (now ∷ t))
kept_kinds P now t true is p h = subst (AllByRecursion P) (sym (reduced_silent now t is)) h
kept_kinds P now t false is p h = subst (AllByRecursion P) (sym (reduced_speaking now t is)) (p, h)

pub each_reduced : (P : Instant → Type 0) (t : Trace) → AllByRecursion P t → AllByRecursion P (reduce t)
each_reduced P [] h = tt
each_reduced P (now ∷ t) h = kept_kinds P now t (is_silent now) refl h.0 (each_reduced P t h.1)
