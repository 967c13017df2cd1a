-- The kernel of a flat body. Its signals are those of the flat body, and then an intermediate for each
-- expression that is neither a name nor a whole right side, and what derived operators need beside it. Its
-- equations stand in the order of the flat body, operands first.
use Rattle.std.specs.Prelude.{◌++◌, ◌∷◌}
use Rattle.sig_flat.specs.Prelude.{ℕ, zero, suc, ℤ, pos, List, [], length, Option, None, Some, codes, decimal, Kind, Integer, Boolean, SigId, Span, UnOp, NotOf, NegOf, WhenOf, Clock, BinOp, DefaultOf, Sampled, Plus, Meet, Less, OrOf, XorOf, AndOf, EqOf, NeOf, LtOf, LeOf, GtOf, GeOf, AddOf, SubOf, MulOf, DivOf, ModOf, FlatExpression, SigOf, ConstOf, Unary, Binary, DelayOf, Cell, FlatEquation, Defines, Equal, FlatBody, unary_row, binary_row, kind_of_result, stored, Id, Neg, Not, And, Or, Xor, Eq, Ne, Lt, Le, Gt, Ge, Add, Sub, Mul, Div, Mod, Operand, Sig, Const, Form, Fun, Delay, When, WhenConst, Default, Sync, Event as EventOf, Equation, Kernel}
use Rattle.sig_base.specs.declared.ids.Kind.TheVariants.{Event}
use Rattle.sig_base.specs.declared.signal.Signal.{Signal}

-- where an expression is written: the cluster of its intermediates, and the prefix of their names
pub record Site : Type 0 where
  pub cluster : ℕ
  pub prefix : List ℕ

-- what was made so far: signals, by their numbers, and equations
pub record Made : Type 0 where
  pub signals : List Signal
  pub equations : List Equation

-- an operand, of a kind, and all that was made for it and before
pub record Translated : Type 0 where
  pub operand : Operand
  pub kind : Kind
  pub made : Made

abbrev pub signal_id : ℕ → SigId
signal_id number = record { 0 = number }

-- the number of the next signal
abbrev pub next : Made → ℕ
next made = length made.signals

abbrev pub with_equation : Made → Span → Form → Made
with_equation made at form = record { signals = made.signals; equations = made.equations ++ record { form = form; at = at } ∷ [] }

-- an intermediate, named by the place of its operator: `#L:C`
abbrev pub with_signal : Site → Kind → Span → Made → Made
with_signal site kind at made = record {
  signals = made.signals ++ record { name = site.prefix ++ (codes "#" ++ (decimal at.line ++ (codes ":" ++ decimal at.col))); kind = kind; cluster = site.cluster; at = at } ∷ [];
  equations = made.equations;
}

-- The signal that an expression's top operator defines: the left side of its definition, or else an intermediate.
abbrev pub own : Option ℕ → Made → ℕ
own None made = next made
own (Some left) made = left

abbrev pub with_own : Option ℕ → Site → Kind → Span → Made → Made
with_own None site kind at made = with_signal site kind at made
with_own (Some left) site kind at made = made

-- a signal with what was made for it
abbrev pub made_signal : ℕ → Kind → Made → Translated
made_signal number kind made = record { operand = Sig (signal_id number); kind = kind; made = made }

-- an operator that is one equation
abbrev pub by_one : Option ℕ → Site → Kind → Span → (SigId → Form) → Made → Translated
by_one left site kind at form made = made_signal (own left made) kind
    (with_equation (with_own left site kind at made) at (form (signal_id (own left made))))

-- the signal that an operand is
abbrev pub signal_in : Operand → SigId
signal_in (Sig x) = x
signal_in (Const constant) = signal_id 0

abbrev pub unary_form : UnOp → Operand → SigId → Form
unary_form NotOf x y = Fun y Not (x ∷ [])
unary_form NegOf x y = Fun y Neg (x ∷ [])
unary_form WhenOf x y = WhenConst y (pos 1) (signal_in x)
unary_form Clock x y = EventOf y (signal_in x)

-- X when B, and c when B
abbrev pub sampled_form : Operand → Operand → SigId → Form
sampled_form (Sig x) b y = When y x (signal_in b)
sampled_form (Const constant) b y = WhenConst y constant (signal_in b)

-- the operators of two operands that are one equation
abbrev pub binary_form : BinOp → Operand → Operand → SigId → Form
binary_form DefaultOf u v y = Default y (signal_in u) (signal_in v)
binary_form Sampled x b y = sampled_form x b y
binary_form OrOf u v y = Fun y Or (u ∷ v ∷ [])
binary_form XorOf u v y = Fun y Xor (u ∷ v ∷ [])
binary_form AndOf u v y = Fun y And (u ∷ v ∷ [])
binary_form EqOf u v y = Fun y Eq (u ∷ v ∷ [])
binary_form NeOf u v y = Fun y Ne (u ∷ v ∷ [])
binary_form LtOf u v y = Fun y Lt (u ∷ v ∷ [])
binary_form LeOf u v y = Fun y Le (u ∷ v ∷ [])
binary_form GtOf u v y = Fun y Gt (u ∷ v ∷ [])
binary_form GeOf u v y = Fun y Ge (u ∷ v ∷ [])
binary_form AddOf u v y = Fun y Add (u ∷ v ∷ [])
binary_form SubOf u v y = Fun y Sub (u ∷ v ∷ [])
binary_form MulOf u v y = Fun y Mul (u ∷ v ∷ [])
binary_form DivOf u v y = Fun y Div (u ∷ v ∷ [])
binary_form ModOf u v y = Fun y Mod (u ∷ v ∷ [])
-- the operators on clocks are several equations, below
binary_form Plus u v y = Sync y y
binary_form Meet u v y = Sync y y
binary_form Less u v y = Sync y y

-- two intermediates e and f, events where the operands are present
abbrev pub with_clocks : Site → Span → Made → Made
with_clocks site at made = with_signal site Event at (with_signal site Event at made)

abbrev pub with_clock_equations : Span → ℕ → Operand → Operand → Made → Made
with_clock_equations at e u v made =
    with_equation (with_equation made at (EventOf (signal_id e) (signal_in u))) at (EventOf (signal_id (suc e)) (signal_in v))

-- an operator on the clocks of both: e is ^U, f is ^V, and the last equation says what Y is of e and f
abbrev pub clocked : Option ℕ → Site → Span → (SigId → SigId → SigId → Form) → Operand → Operand → Made → Translated
clocked left site at last u v made =
    let clocks : Made = with_clocks site at made in
    let y : ℕ = own left clocks in
    made_signal y Event (with_equation (with_clock_equations at (next made) u v (with_own left site Event at clocks)) at
    (last (signal_id y) (signal_id (next made)) (signal_id (suc (next made)))))

-- U ^+ V: Y is e default f
abbrev pub plus : Option ℕ → Site → Span → Operand → Operand → Made → Translated
plus left site at u v made = clocked left site at Default u v made

-- U ^* V: Y is e when f
abbrev pub meet : Option ℕ → Site → Span → Operand → Operand → Made → Translated
meet left site at u v made = clocked left site at When u v made

-- U ^- V: e is ^U, f is ^V, z is not f, w is z default e, and Y is when w
abbrev pub less : Option ℕ → Site → Span → Operand → Operand → Made → Translated
less left site at u v made =
    let clocks : Made = with_clocks site at made in
    let z : ℕ = next clocks in
    let truths : Made = with_signal site Boolean at (with_signal site Boolean at clocks) in
    let y : ℕ = own left truths in
    made_signal y Event
    (with_equation (with_equation (with_equation (with_clock_equations at (next made) u v (with_own left site Event at truths))
    at (Fun (signal_id z) Not (Sig (signal_id (suc (next made))) ∷ [])))
    at (Default (signal_id (suc z)) (signal_id z) (signal_id (next made))))
    at (WhenConst (signal_id y) (pos 1) (signal_id (suc z))))

abbrev pub binary : Option ℕ → Site → BinOp → Span → Translated → Translated → Translated
binary left site Plus at u v = plus left site at u.operand v.operand v.made
binary left site Meet at u v = meet left site at u.operand v.operand v.made
binary left site Less at u v = less left site at u.operand v.operand v.made
binary left site op at u v = by_one left site (kind_of_result (binary_row op).result u.kind (Some v.kind)) at (binary_form op u.operand v.operand) v.made

-- X cell B init c: z is Y $ 1 init c, Y is X default z, e is ^X, w is when B, d is e default w, and Y and d are present together
abbrev pub cell : Option ℕ → Site → ℤ → Span → Translated → Translated → Translated
cell left site init at x b =
    let kind : Kind = stored x.kind in
    let kept : Made = with_signal site kind at b.made in
    let z : SigId = signal_id (next b.made) in
    let y : SigId = signal_id (own left kept) in
    let whole : Made = with_own left site kind at kept in
    let e : SigId = signal_id (next whole) in
    let w : SigId = signal_id (suc (next whole)) in
    let d : SigId = signal_id (suc (suc (next whole))) in
    let signals : Made = with_signal site Event at (with_signal site Event at (with_signal site Event at whole)) in
    made_signal (own left kept) kind
    (with_equation (with_equation (with_equation (with_equation (with_equation (with_equation signals
    at (Delay z y init))
    at (Default y (signal_in x.operand) z))
    at (EventOf e (signal_in x.operand)))
    at (WhenConst w (pos 1) (signal_in b.operand)))
    at (Default d e w))
    at (Sync y d))

-- the kind of the signal of a number
abbrev pub kind_at : List Signal → ℕ → Kind
kind_at [] number = Integer
kind_at (signal ∷ signals) zero = signal.kind
kind_at (signal ∷ signals) (suc number) = kind_at signals number

-- a name: its signal, or that of the left side, which has its value
abbrev pub named : Option ℕ → Site → ℕ → Span → Made → Translated
named None site number at made = made_signal number (kind_at made.signals number) made
named (Some left) site number at made =
    by_one (Some left) site (kind_at made.signals left) at (λ y. Fun y Id (Sig (signal_id number) ∷ [])) made

-- an expression: its operands first, left to right
abbrev pub translate : Option ℕ → Site → FlatExpression → Made → Translated
translate left site (SigOf number at) made = named left site number at made
translate left site (ConstOf value kind at) made = record { operand = Const value; kind = kind; made = made }
translate left site (Unary op operand at) made =
    let x : Translated = translate None site operand made in
    by_one left site (kind_of_result (unary_row op).result x.kind None) at (unary_form op x.operand) x.made
translate left site (Binary op first second at) made =
    let u : Translated = translate None site first made in
    binary left site op at u (translate None site second u.made)
translate left site (DelayOf operand init at) made =
    let x : Translated = translate None site operand made in
    by_one left site (stored x.kind) at (λ y. Delay y (signal_in x.operand) init) x.made
translate left site (Cell operand held init at) made =
    let x : Translated = translate None site operand made in
    cell left site init at x (translate None site held x.made)

-- the place of an expression: that of its name or of its operator
abbrev pub place_of : FlatExpression → Span
place_of (SigOf number at) = at
place_of (ConstOf value kind at) = at
place_of (Unary op operand at) = at
place_of (Binary op first second at) = at
place_of (DelayOf operand init at) = at
place_of (Cell operand held init at) = at

-- the operands of a clock equation, all of them before it: their signals with their places, and what was made
pub record Together : Type 0 where
  pub signals : List (SigId × Span)
  pub made : Made

abbrev pub operands_from : Site → List FlatExpression → Made → Together
operands_from site [] made = record { signals = []; made = made }
operands_from site (e ∷ es) made =
    let x : Translated = translate None site e made in
    let rest : Together = operands_from site es x.made in
    record { signals = (signal_in x.operand, place_of e) ∷ rest.signals; made = rest.made }

-- each of them and the next one are present together
abbrev pub with_syncs : SigId → List (SigId × Span) → Made → Made
with_syncs first [] made = made
with_syncs first (second ∷ others) made = with_syncs second.0 others (with_equation made second.1 (Sync first second.0))

abbrev pub with_all_syncs : List (SigId × Span) → Made → Made
with_all_syncs [] made = made
with_all_syncs (first ∷ others) made = with_syncs first.0 others made

-- the cluster of the signal of a number
abbrev pub cluster_at : List Signal → ℕ → ℕ
cluster_at [] number = 0
cluster_at (signal ∷ signals) zero = signal.cluster
cluster_at (signal ∷ signals) (suc number) = cluster_at signals number

-- An equation of the flat body. The intermediates of a definition have the cluster of what it defines, those of
-- a clock equation cluster 0.
abbrev pub with_flat_equation : FlatEquation → Made → Made
with_flat_equation (Defines left e prefix) made =
    (translate (Some left) (record { cluster = cluster_at made.signals left; prefix = prefix }) e made).made
with_flat_equation (Equal operands prefix) made =
    let together : Together = operands_from (record { cluster = 0; prefix = prefix }) operands made in
    with_all_syncs together.signals together.made

abbrev pub with_flat_equations : List FlatEquation → Made → Made
with_flat_equations [] made = made
with_flat_equations (equation ∷ equations) made = with_flat_equations equations (with_flat_equation equation made)

abbrev pub made_of : FlatBody → Made
made_of flat = with_flat_equations flat.equations (record { signals = flat.signals; equations = [] })

-- the kernel of a flat body
abbrev pub kernel_of : FlatBody → Kernel
kernel_of flat = record {
  signals = (made_of flat).signals;
  equations = (made_of flat).equations;
  inputs = flat.inputs;
  outputs = flat.outputs;
  declared = length flat.signals;
}
