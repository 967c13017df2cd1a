-- What an expression is at an instant is of the expression's kind, and behind the instant it is as well made.
use Rattle.sig_flat.proofs.Common.{◌≡◌, ℤ, pos, Bool, true, false, List, [], ◌∷◌, Option, None, Some, length, if◌then◌else◌, refl, sym, ap, subst, ◌∙◌, inl, inr, FitsSigned, w64, Kind, Integer, Boolean, Event, Signal as Declared, Function, Negative, FunctionNot, FunctionAnd, FunctionOr, FunctionXor, NotEqual, FunctionLess, LessEqual, Greater, GreaterEqual, Sum, Difference, Product, Quotient, Remainder, Gives, Tells, Seen, Instant, Bounded, IsValue, IsOfKind, UnOp, NotOf, Neg as NegOf, WhenOf, Clock, BinOp, Default as DefaultOf, When as Sampled, Plus, Meet, Less, Or as OrOf, Xor as XorOf, And as AndOf, Eq as EqOf, Ne as NeOf, Lt as LtOf, Le as LeOf, Gt as GtOf, Ge as GeOf, Add as AddOf, Sub as SubOf, Mul as MulOf, Div as DivOf, Mod as ModOf, FlatExpression, SigOf, Const as ConstOf, Unary, Binary, DelayOf, Cell, FormRow, Alike, unary_row, binary_row, delay_row, cell_row, unary_kind, binary_kind, accepts, kind_of_result, stored, merged as merged_kind, Found, Constant, AppliesToOne, AppliesToBoth, Changes, Combines, sampled, clock_of, both_of, without, delayed, held as held_value, is_true, Steps, kept, flat_kind, is_constant, IsMade, MayBegin, place_of}
use Rattle.sig_base.specs.Functions.{Equal}
use Rattle.sig_tree.specs.Operators.{Signal, merged}
use Rattle.sig_flat.proofs.Agreement.{Suits, Agree}

abbrev pub HasKind : Kind → Found → Type 0
HasKind kind (Signal v) = IsOfKind Bounded kind v
HasKind kind (Constant c) = IsValue Bounded kind c

-- the kinds of operands, by the kind of their form
chosen : (c : Bool) (a b : Kind) → (if c then Some a else None) ≡ Some b → (c ≡ true) × (a ≡ b)
chosen true a b e = (refl, cc)
chosen false a b e = absurd cc

pub unary_kinds : (row : FormRow) (operand : Option Kind) (kind : Kind) → unary_kind row operand ≡ Some kind
    → (first : Kind) × (operand ≡ Some first) × (accepts row.operands first None ≡ true) × (kind_of_result row.result first None ≡ kind)
unary_kinds row None kind e = absurd cc
unary_kinds row (Some first) kind e = let c = chosen (accepts row.operands first None) (kind_of_result row.result first None) kind e in (first, refl, c.0, c.1)

pub binary_kinds : (row : FormRow) (left right : Option Kind) (kind : Kind) → binary_kind row left right ≡ Some kind
    → (first second : Kind) × (left ≡ Some first) × (right ≡ Some second) × (accepts row.operands first (Some second) ≡ true) × (kind_of_result row.result first (Some second) ≡ kind)
binary_kinds row (Some first) (Some second) kind e =
    let c = chosen (accepts row.operands first (Some second)) (kind_of_result row.result first (Some second)) kind e in (first, second, refl, refl, c.0, c.1)
binary_kinds row _ _ kind e = absurd cc

-- functions
tells_truth : (v : ℤ) (S : Type 0) → Tells v S → IsValue Bounded Boolean v
tells_truth v S (inl h) = inr h.1
tells_truth v S (inr h) = inl h.1

abbrev GivesOne : Function → Kind → Type 0
GivesOne f kind = (a v : ℤ) → Gives Bounded f (a ∷ []) v → FitsSigned w64 v → IsValue Bounded kind v

abbrev GivesTwo : Function → Kind → Type 0
GivesTwo f kind = (a b v : ℤ) → Gives Bounded f (a ∷ b ∷ []) v → FitsSigned w64 v → IsValue Bounded kind v

one_kind : (f : Function) (kind : Kind) → GivesOne f kind → (x : Found) (v : Seen) → AppliesToOne f x v → IsOfKind Bounded kind v
one_kind f kind gives (Signal None) v h = subst (λ (s : Seen). IsOfKind Bounded kind s) (sym h) tt
one_kind f kind gives (Signal (Some a)) v h = subst (λ (s : Seen). IsOfKind Bounded kind s) (sym h.1) (gives a h.0 h.2 h.3)
one_kind f kind gives (Constant c) v h = absurd h

two_kind : (f : Function) (kind : Kind) → GivesTwo f kind → (x y : Found) (v : Seen) → AppliesToBoth f x y v → IsOfKind Bounded kind v
two_kind f kind gives (Signal None) (Signal (Some b)) v h = absurd h
two_kind f kind gives (Signal (Some a)) (Signal None) v h = absurd h
two_kind f kind gives (Signal (Some a)) (Signal (Some b)) v h = subst (λ (s : Seen). IsOfKind Bounded kind s) (sym h.1) (gives a b h.0 h.2 h.3)
two_kind f kind gives (Signal (Some a)) (Constant d) v h = subst (λ (s : Seen). IsOfKind Bounded kind s) (sym h.1) (gives a d h.0 h.2 h.3)
two_kind f kind gives (Constant c) (Signal (Some b)) v h = subst (λ (s : Seen). IsOfKind Bounded kind s) (sym h.1) (gives c b h.0 h.2 h.3)
two_kind f kind gives (Constant c) (Constant d) v h = absurd h
two_kind f kind gives _ _ v h = subst (λ (s : Seen). IsOfKind Bounded kind s) (sym h) tt

-- an event where a test passes
pub sampled_kind : (kind : Kind) (x b : Seen) → IsOfKind Bounded kind x → IsOfKind Bounded kind (sampled x b)
sampled_kind kind x b h = go (is_true b) where
  go : (c : Bool) → IsOfKind Bounded kind (if c then x else None)
  go true = h
  go false = tt

pub clock_kind : (x : Seen) → IsOfKind Bounded Event (clock_of x)
clock_kind None = tt
clock_kind (Some v) = refl

pub or_kind : (kind : Kind) (u v : Seen) → IsOfKind Bounded kind u → IsOfKind Bounded kind v → IsOfKind Bounded kind (merged u v)
or_kind kind None v h k = k
or_kind kind (Some u) v h k = h

both_kind : (u v : Seen) → IsOfKind Bounded Event (both_of u v)
both_kind None v = tt
both_kind (Some u) v = clock_kind v

without_kind : (u v : Seen) → IsOfKind Bounded Event (without u v)
without_kind u None = clock_kind u
without_kind u (Some v) = tt

pub event_truth : (s : Seen) → IsOfKind Bounded Event s → IsOfKind Bounded Boolean s
event_truth None h = tt
event_truth (Some v) h = inr h

first_kind : (first second : Kind) (s : Seen) → accepts Alike first (Some second) ≡ true → IsOfKind Bounded first s → IsOfKind Bounded (merged_kind first second) s
first_kind Event Boolean s e h = event_truth s h
first_kind Event Integer s e h = absurd cc
first_kind _ _ s e h = h

second_kind : (first second : Kind) (s : Seen) → accepts Alike first (Some second) ≡ true → IsOfKind Bounded second s → IsOfKind Bounded (merged_kind first second) s
second_kind Integer Boolean s e h = absurd cc
second_kind Integer Event s e h = absurd cc
second_kind Boolean Integer s e h = absurd cc
second_kind Boolean Event s e h = event_truth s h
second_kind Event Integer s e h = absurd cc
second_kind _ _ s e h = h

pub stored_kind : (kind : Kind) (s : Seen) → IsOfKind Bounded kind s → IsOfKind Bounded (stored kind) s
stored_kind Event s h = event_truth s h
stored_kind _ s h = h

pub delayed_kind : (kind : Kind) (init : ℤ) (x : Seen) → IsValue Bounded kind init → IsOfKind Bounded kind (delayed init x)
delayed_kind kind init None h = tt
delayed_kind kind init (Some v) h = h

pub held_kind : (kind : Kind) (init : ℤ) (x b : Seen) → IsValue Bounded kind init → IsOfKind Bounded kind x → IsOfKind Bounded kind (held_value init x b)
held_kind kind init (Some v) b h k = k
held_kind kind init None b h k = sampled_kind kind (Some init) b h

pub kept_kind : (kind : Kind) (init : ℤ) (x : Seen) → IsValue Bounded kind init → IsOfKind Bounded kind x → IsValue Bounded kind (kept init x)
kept_kind kind init None h k = h
kept_kind kind init (Some v) h k = k

pub changes_kind : (op : UnOp) (first : Kind) (x : Found) (v : Seen) → Changes op x v → IsOfKind Bounded (kind_of_result (unary_row op).result first None) v
changes_kind NotOf first x v h = one_kind FunctionNot Boolean (λ a w g fits. tells_truth w _ g) x v h
changes_kind NegOf first x v h = one_kind Negative Integer (λ a w g fits. fits) x v h
changes_kind WhenOf first (Signal b) v h = subst (λ (s : Seen). IsOfKind Bounded Event s) (sym h) (sampled_kind Event (Some (pos 1)) b refl)
changes_kind Clock first (Signal x) v h = subst (λ (s : Seen). IsOfKind Bounded Event s) (sym h) (clock_kind x)
changes_kind _ first (Constant c) v h = absurd h

pub combines_kind : (op : BinOp) (first second : Kind) (x y : Found) (v : Seen) → accepts (binary_row op).operands first (Some second) ≡ true
    → HasKind first x → HasKind second y → Combines op x y v → IsOfKind Bounded (kind_of_result (binary_row op).result first (Some second)) v
combines_kind DefaultOf first second (Signal u) (Signal w) v e h k c =
    subst (λ (s : Seen). IsOfKind Bounded (merged_kind first second) s) (sym c) (or_kind (merged_kind first second) u w (first_kind first second u e h) (second_kind first second w e k))
combines_kind Sampled first second (Signal u) (Signal b) v e h k c = subst (λ (s : Seen). IsOfKind Bounded first s) (sym c) (sampled_kind first u b h)
combines_kind Sampled first second (Constant d) (Signal b) v e h k c = subst (λ (s : Seen). IsOfKind Bounded first s) (sym c) (sampled_kind first (Some d) b h)
combines_kind Plus first second (Signal u) (Signal w) v e h k c = subst (λ (s : Seen). IsOfKind Bounded Event s) (sym c) (or_kind Event (clock_of u) (clock_of w) (clock_kind u) (clock_kind w))
combines_kind Meet first second (Signal u) (Signal w) v e h k c = subst (λ (s : Seen). IsOfKind Bounded Event s) (sym c) (both_kind u w)
combines_kind Less first second (Signal u) (Signal w) v e h k c = subst (λ (s : Seen). IsOfKind Bounded Event s) (sym c) (without_kind u w)
combines_kind OrOf first second x y v e h k c = two_kind FunctionOr Boolean (λ a b w g fits. tells_truth w _ g) x y v c
combines_kind XorOf first second x y v e h k c = two_kind FunctionXor Boolean (λ a b w g fits. tells_truth w _ g) x y v c
combines_kind AndOf first second x y v e h k c = two_kind FunctionAnd Boolean (λ a b w g fits. tells_truth w _ g) x y v c
combines_kind EqOf first second x y v e h k c = two_kind Equal Boolean (λ a b w g fits. tells_truth w _ g) x y v c
combines_kind NeOf first second x y v e h k c = two_kind NotEqual Boolean (λ a b w g fits. tells_truth w _ g) x y v c
combines_kind LtOf first second x y v e h k c = two_kind FunctionLess Boolean (λ a b w g fits. tells_truth w _ g) x y v c
combines_kind LeOf first second x y v e h k c = two_kind LessEqual Boolean (λ a b w g fits. tells_truth w _ g) x y v c
combines_kind GtOf first second x y v e h k c = two_kind Greater Boolean (λ a b w g fits. tells_truth w _ g) x y v c
combines_kind GeOf first second x y v e h k c = two_kind GreaterEqual Boolean (λ a b w g fits. tells_truth w _ g) x y v c
combines_kind AddOf first second x y v e h k c = two_kind Sum Integer (λ a b w g fits. fits) x y v c
combines_kind SubOf first second x y v e h k c = two_kind Difference Integer (λ a b w g fits. fits) x y v c
combines_kind MulOf first second x y v e h k c = two_kind Product Integer (λ a b w g fits. fits) x y v c
combines_kind DivOf first second x y v e h k c = two_kind Quotient Integer (λ a b w g fits. fits) x y v c
combines_kind ModOf first second x y v e h k c = two_kind Remainder Integer (λ a b w g fits. fits) x y v c
combines_kind _ first second _ _ v e h k c = absurd c

-- an init is of the kind that is kept of its operand
pub init_kind : (signals : List Declared) (e : FlatExpression) (first : Kind) (init : ℤ) → flat_kind signals e ≡ Some first → MayBegin signals e init → IsValue Bounded (stored first) init
init_kind signals e first init is h = let both : Some h.0 ≡ Some first = sym h.1 ∙ is in let same : h.0 ≡ first = cc in subst (λ k. IsValue Bounded (stored k) init) same h.2

pub has_kind : (signals : List Declared) (now : Instant) → Suits signals now → (e : FlatExpression) (o : Found) (after : FlatExpression) (kind : Kind)
    → IsMade signals e → flat_kind signals e ≡ Some kind → Steps e now o after → HasKind kind o
has_kind signals now suits (SigOf number at) o after kind h is a = subst (λ p. HasKind kind p) (sym a.0) (suits number kind is)
has_kind signals now suits (ConstOf value of at) o after kind h is a =
    let same : of ≡ kind = cc in subst (λ p. HasKind kind p) (sym a.0) (subst (λ k. IsValue Bounded k value) same h)
has_kind signals now suits (Unary op operand at) o after kind h is a =
    let k = unary_kinds (unary_row op) (flat_kind signals operand) kind is in
    subst (λ p. HasKind kind p) (sym a.5) (subst (λ r. IsOfKind Bounded r a.3) k.3 (changes_kind op k.0 a.0 a.3 a.4))
has_kind signals now suits (Binary op first second at) o after kind h is a =
    let k = binary_kinds (binary_row op) (flat_kind signals first) (flat_kind signals second) kind is in
    subst (λ p. HasKind kind p) (sym a.8) (subst (λ r. IsOfKind Bounded r a.6) k.5
    (combines_kind op k.0 k.1 a.0 a.1 a.6 k.4 (has_kind signals now suits first a.0 a.2 k.0 h.1 k.2 a.4) (has_kind signals now suits second a.1 a.3 k.1 h.2 k.3 a.5) a.7))
has_kind signals now suits (DelayOf operand init at) o after kind h is a =
    let k = unary_kinds delay_row (flat_kind signals operand) kind is in
    subst (λ p. HasKind kind p) (sym a.3) (subst (λ r. IsOfKind Bounded r (delayed init a.0)) k.3 (delayed_kind (stored k.0) init a.0 (init_kind signals operand k.0 init k.1 h.2)))
has_kind signals now suits (Cell operand held init at) o after kind h is a =
    let k = binary_kinds cell_row (flat_kind signals operand) (flat_kind signals held) kind is in
    subst (λ p. HasKind kind p) (sym a.6) (subst (λ r. IsOfKind Bounded r (held_value init a.0 a.1)) k.5
    (held_kind (stored k.0) init a.0 a.1 (init_kind signals operand k.0 init k.2 h.4) (stored_kind k.0 a.0 (has_kind signals now suits operand (Signal a.0) a.2 k.0 h.2 k.2 a.4))))

-- the expression behind an instant
pub record StaysMade (signals : List Declared) (e after : FlatExpression) : Type 0 where
  pub made : IsMade signals after
  pub kind : flat_kind signals after ≡ flat_kind signals e
  pub constant : is_constant after ≡ is_constant e
  pub place : place_of after ≡ place_of e

may_begin_behind : (signals : List Declared) (now : Instant) → Suits signals now → (e after : FlatExpression) (init : ℤ) (v : Seen) → flat_kind signals after ≡ flat_kind signals e
    → ((kind : Kind) → flat_kind signals e ≡ Some kind → IsOfKind Bounded (stored kind) v) → MayBegin signals e init → MayBegin signals after (kept init v)
may_begin_behind signals now suits e after init v same of h = (h.0, same ∙ h.1, kept_kind (stored h.0) init v h.2 (of h.0 h.1))

pub stays_made : (signals : List Declared) (now : Instant) → Suits signals now → (e : FlatExpression) (o : Found) (after : FlatExpression) → IsMade signals e → Steps e now o after → StaysMade signals e after
stays_made signals now suits (Unary op operand at) o after h a =
    let r = stays_made signals now suits operand a.0 a.1 h.1 a.2 in
    subst (λ n. StaysMade signals (Unary op operand at) n) (sym a.6)
    (record { made = (r.constant ∙ h.0, r.made); kind = ap (unary_kind (unary_row op)) r.kind; constant = refl; place = refl })
stays_made signals now suits (Binary op first second at) o after h a =
    let r = stays_made signals now suits first a.0 a.2 h.1 a.4 in
    let s = stays_made signals now suits second a.1 a.3 h.2 a.5 in
    subst (λ n. StaysMade signals (Binary op first second at) n) (sym a.9)
    (record {
      made = (rw (r.constant, s.constant) h.0, r.made, s.made);
      kind = ap (λ k. binary_kind (binary_row op) k (flat_kind signals a.3)) r.kind ∙ ap (binary_kind (binary_row op) (flat_kind signals first)) s.kind;
      constant = refl;
      place = refl;
    })
stays_made signals now suits (DelayOf operand init at) o after h a =
    let r = stays_made signals now suits operand (Signal a.0) a.1 h.1 a.2 in
    subst (λ n. StaysMade signals (DelayOf operand init at) n) (sym a.4)
    (record {
      made = (
        r.constant ∙ h.0,
        r.made,
        may_begin_behind signals now suits operand a.1 init a.0 r.kind
            (λ kind is. stored_kind kind a.0 (has_kind signals now suits operand (Signal a.0) a.1 kind h.1 is a.2)) h.2,
      );
      kind = ap (unary_kind delay_row) r.kind;
      constant = refl;
      place = refl;
    })
stays_made signals now suits (Cell operand held init at) o after h a =
    let r = stays_made signals now suits operand (Signal a.0) a.2 h.2 a.4 in
    let s = stays_made signals now suits held (Signal a.1) a.3 h.3 a.5 in
    subst (λ n. StaysMade signals (Cell operand held init at) n) (sym a.7)
    (record {
      made = (
        r.constant ∙ h.0,
        s.constant ∙ h.1,
        r.made,
        s.made,
        may_begin_behind signals now suits operand a.2 init (held_value init a.0 a.1) r.kind
            (λ kind is. held_kind (stored kind) init a.0 a.1 (init_kind signals operand kind init is h.4)
            (stored_kind kind a.0 (has_kind signals now suits operand (Signal a.0) a.2 kind h.2 is a.4))) h.4,
      );
      kind = ap (λ k. binary_kind cell_row k (flat_kind signals a.3)) r.kind ∙ ap (binary_kind cell_row (flat_kind signals operand)) s.kind;
      constant = refl;
      place = refl;
    })
stays_made signals now suits e o after h a = subst (λ n. StaysMade signals e n) (sym a.1) (record { made = h; kind = refl; constant = refl; place = refl })

-- an expression is the same at instants that agree on the signals that it names
pub steps_same : (signals : List Declared) (e : FlatExpression) → IsMade signals e → (a b : Instant) → Agree (length signals) a b → (o : Found) (after : FlatExpression) → Steps e a o after → Steps e b o after
steps_same signals (SigOf number at) h a b same o after s = (s.0 ∙ ap Signal (same number h), s.1)
steps_same signals (ConstOf value of at) h a b same o after s = s
steps_same signals (Unary op operand at) h a b same o after s = (s.0, s.1, steps_same signals operand h.1 a b same s.0 s.1 s.2, s.3, s.4, s.5, s.6)
steps_same signals (Binary op first second at) h a b same o after s =
    (s.0, s.1, s.2, s.3, steps_same signals first h.1 a b same s.0 s.2 s.4, steps_same signals second h.2 a b same s.1 s.3 s.5, s.6, s.7, s.8, s.9)
steps_same signals (DelayOf operand init at) h a b same o after s = (s.0, s.1, steps_same signals operand h.1 a b same (Signal s.0) s.1 s.2, s.3, s.4)
steps_same signals (Cell operand held init at) h a b same o after s =
    (s.0, s.1, s.2, s.3, steps_same signals operand h.2 a b same (Signal s.0) s.2 s.4, steps_same signals held h.3 a b same (Signal s.1) s.3 s.5, s.6, s.7)
