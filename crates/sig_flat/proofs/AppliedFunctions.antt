-- What functions of operands are, as equations and as operators.
use Rattle.sig_flat.proofs.Common.{◌≡◌, ℤ, List, [], ◌∷◌, None, Some, refl, sym, ap, subst, ◌∙◌, pos, inl, inr, Integer, SigId, Function, Gives, Seen, Instant, Bounded, IsOfKind, seen_at, HaveValues, IsFunction, where_present, Operand, Sig, Constant, AppliesToOne, AppliesToBoth, clock_of}
use Rattle.sig_base.specs.Functions.{Not}
use Rattle.sig_kernel.specs.declared.equation.Operand.TheVariants.{Const}
use Rattle.sig_tree.specs.Operators.{Signal}

one_value : (instant : Instant) (x : SigId) (values : List ℤ) → HaveValues instant (Sig x ∷ []) values → (a : ℤ) × (values ≡ a ∷ []) × (seen_at instant x.0 ≡ Some a)
one_value instant x [] h = absurd h
one_value instant x (a ∷ []) h = (a, refl, h.0)
one_value instant x (a ∷ b ∷ values) h = absurd h.1

pub one_to : (f : Function) (instant : Instant) (x : SigId) (s w : Seen) → seen_at instant x.0 ≡ s → IsOfKind Bounded Integer w → IsFunction Bounded f instant (Sig x ∷ []) w → AppliesToOne f (Signal s) w
one_to f instant x None None is fits h = refl
one_to f instant x None (Some v) is fits h = let one = one_value instant x h.0 h.1 in let e : Some one.0 ≡ None = sym one.2 ∙ is in absurd cc
one_to f instant x (Some a) None is fits h = let e : Some a ≡ None = sym is ∙ h.0 in absurd cc
one_to f instant x (Some a) (Some v) is fits h =
    let one = one_value instant x h.0 h.1 in
    let same : Some one.0 ≡ Some a = sym one.2 ∙ is in
    let values : h.0 ≡ a ∷ [] = cc in
    (v, refl, subst (λ (l : List ℤ). Gives Bounded f l v) values h.2, fits)

pub one_from : (f : Function) (instant : Instant) (x : SigId) (s w : Seen) → seen_at instant x.0 ≡ s → AppliesToOne f (Signal s) w → IsFunction Bounded f instant (Sig x ∷ []) w
one_from f instant x None w is h = subst (λ (o : Seen). IsFunction Bounded f instant (Sig x ∷ []) o) (sym h) (is, tt)
one_from f instant x (Some a) w is h = subst (λ (o : Seen). IsFunction Bounded f instant (Sig x ∷ []) o) (sym h.1) (a ∷ [], (is, tt), h.2)

-- not, of the clock of a signal
pub not_to : (instant : Instant) (f : SigId) (s z : Seen) → seen_at instant f.0 ≡ clock_of s → IsFunction Bounded Not instant (Sig f ∷ []) z → z ≡ where_present s (pos 0)
not_to instant f None None is h = refl
not_to instant f None (Some v) is h = let one = one_value instant f h.0 h.1 in let e : Some one.0 ≡ None = sym one.2 ∙ is in absurd cc
not_to instant f (Some a) None is h = let e : Some (pos 1) ≡ None = sym is ∙ h.0 in absurd cc
not_to instant f (Some a) (Some v) is h =
    let one = one_value instant f h.0 h.1 in
    let same : Some one.0 ≡ Some (pos 1) = sym one.2 ∙ is in
    let values : h.0 ≡ pos 1 ∷ [] = cc in
    let tells : Gives Bounded Not (pos 1 ∷ []) v = subst (λ (l : List ℤ). Gives Bounded Not l v) values h.2 in
    elim tells [ inl true ↦ absurd (true.0 refl) | inr false ↦ ap Some false.1 ]

pub not_from : (instant : Instant) (f : SigId) (s z : Seen) → seen_at instant f.0 ≡ clock_of s → z ≡ where_present s (pos 0) → IsFunction Bounded Not instant (Sig f ∷ []) z
not_from instant f None z is h = subst (λ (o : Seen). IsFunction Bounded Not instant (Sig f ∷ []) o) (sym h) (is, tt)
not_from instant f (Some a) z is h = subst (λ (o : Seen). IsFunction Bounded Not instant (Sig f ∷ []) o) (sym h) (pos 1 ∷ [], (is, tt), inr ((λ differ. differ refl), refl))

-- an operand has this value
abbrev Has : Instant → Operand → ℤ → Type 0
Has instant (Sig x) a = seen_at instant x.0 ≡ Some a
Has instant (Const c) a = c ≡ a

two_values : (instant : Instant) (u v : Operand) (values : List ℤ) → HaveValues instant (u ∷ v ∷ []) values → (a b : ℤ) × (values ≡ a ∷ b ∷ []) × Has instant u a × Has instant v b
two_values instant (Sig x) (Sig y) [] h = absurd h
two_values instant (Sig x) (Sig y) (a ∷ []) h = absurd h.1
two_values instant (Sig x) (Sig y) (a ∷ b ∷ []) h = (a, b, refl, h.0, h.1.0)
two_values instant (Sig x) (Sig y) (a ∷ b ∷ e ∷ values) h = absurd h.1.1
two_values instant (Sig x) (Const d) [] h = absurd h
two_values instant (Sig x) (Const d) (a ∷ []) h = absurd h.1
two_values instant (Sig x) (Const d) (a ∷ b ∷ []) h = (a, b, refl, h.0, h.1.0)
two_values instant (Sig x) (Const d) (a ∷ b ∷ e ∷ values) h = absurd h.1.1
two_values instant (Const c) (Sig y) [] h = absurd h
two_values instant (Const c) (Sig y) (a ∷ []) h = absurd h.1
two_values instant (Const c) (Sig y) (a ∷ b ∷ []) h = (a, b, refl, h.0, h.1.0)
two_values instant (Const c) (Sig y) (a ∷ b ∷ e ∷ values) h = absurd h.1.1
two_values instant (Const c) (Const d) [] h = absurd h
two_values instant (Const c) (Const d) (a ∷ []) h = absurd h.1
two_values instant (Const c) (Const d) (a ∷ b ∷ []) h = (a, b, refl, h.0, h.1.0)
two_values instant (Const c) (Const d) (a ∷ b ∷ e ∷ values) h = absurd h.1.1

-- two signals
pub both_to : (f : Function) (instant : Instant) (x y : SigId) (s t w : Seen) → seen_at instant x.0 ≡ s → seen_at instant y.0 ≡ t → IsOfKind Bounded Integer w
    → IsFunction Bounded f instant (Sig x ∷ Sig y ∷ []) w → AppliesToBoth f (Signal s) (Signal t) w
both_to f instant x y None None None is also fits h = refl
both_to f instant x y None None (Some v) is also fits h = let two = two_values instant (Sig x) (Sig y) h.0 h.1 in let e : Some two.0 ≡ None = sym two.3 ∙ is in absurd cc
both_to f instant x y None (Some b) None is also fits h = let e : Some b ≡ None = sym also ∙ h.1.0 in absurd cc
both_to f instant x y None (Some b) (Some v) is also fits h = let two = two_values instant (Sig x) (Sig y) h.0 h.1 in let e : Some two.0 ≡ None = sym two.3 ∙ is in absurd cc
both_to f instant x y (Some a) None None is also fits h = let e : Some a ≡ None = sym is ∙ h.0 in absurd cc
both_to f instant x y (Some a) None (Some v) is also fits h = let two = two_values instant (Sig x) (Sig y) h.0 h.1 in let e : Some two.1 ≡ None = sym two.4 ∙ also in absurd cc
both_to f instant x y (Some a) (Some b) None is also fits h = let e : Some a ≡ None = sym is ∙ h.0 in absurd cc
both_to f instant x y (Some a) (Some b) (Some v) is also fits h =
    let two = two_values instant (Sig x) (Sig y) h.0 h.1 in
    let first : Some two.0 ≡ Some a = sym two.3 ∙ is in
    let second : Some two.1 ≡ Some b = sym two.4 ∙ also in
    let values : h.0 ≡ a ∷ b ∷ [] = cc in
    (v, refl, subst (λ (l : List ℤ). Gives Bounded f l v) values h.2, fits)

pub both_from : (f : Function) (instant : Instant) (x y : SigId) (s t w : Seen) → seen_at instant x.0 ≡ s → seen_at instant y.0 ≡ t
    → AppliesToBoth f (Signal s) (Signal t) w → IsFunction Bounded f instant (Sig x ∷ Sig y ∷ []) w
both_from f instant x y None None w is also h = subst (λ (o : Seen). IsFunction Bounded f instant (Sig x ∷ Sig y ∷ []) o) (sym h) (is, (also, tt))
both_from f instant x y (Some a) (Some b) w is also h = subst (λ (o : Seen). IsFunction Bounded f instant (Sig x ∷ Sig y ∷ []) o) (sym h.1) (a ∷ b ∷ [], (is, (also, tt)), h.2)
both_from f instant x y _ _ w is also h = absurd h

-- a signal and a constant
pub first_to : (f : Function) (instant : Instant) (x : SigId) (d : ℤ) (s w : Seen) → seen_at instant x.0 ≡ s → IsOfKind Bounded Integer w
    → IsFunction Bounded f instant (Sig x ∷ Const d ∷ []) w → AppliesToBoth f (Signal s) (Constant d) w
first_to f instant x d None None is fits h = refl
first_to f instant x d None (Some v) is fits h = let two = two_values instant (Sig x) (Const d) h.0 h.1 in let e : Some two.0 ≡ None = sym two.3 ∙ is in absurd cc
first_to f instant x d (Some a) None is fits h = let e : Some a ≡ None = sym is ∙ h.0 in absurd cc
first_to f instant x d (Some a) (Some v) is fits h =
    let two = two_values instant (Sig x) (Const d) h.0 h.1 in
    let first : Some two.0 ≡ Some a = sym two.3 ∙ is in
    let second : d ≡ two.1 = two.4 in
    let values : h.0 ≡ a ∷ d ∷ [] = cc in
    (v, refl, subst (λ (l : List ℤ). Gives Bounded f l v) values h.2, fits)

pub first_from : (f : Function) (instant : Instant) (x : SigId) (d : ℤ) (s w : Seen) → seen_at instant x.0 ≡ s → AppliesToBoth f (Signal s) (Constant d) w → IsFunction Bounded f instant (Sig x ∷ Const d ∷ []) w
first_from f instant x d None w is h = subst (λ (o : Seen). IsFunction Bounded f instant (Sig x ∷ Const d ∷ []) o) (sym h) (is, tt)
first_from f instant x d (Some a) w is h = subst (λ (o : Seen). IsFunction Bounded f instant (Sig x ∷ Const d ∷ []) o) (sym h.1) (a ∷ d ∷ [], (is, (refl, tt)), h.2)

-- a constant and a signal
pub second_to : (f : Function) (instant : Instant) (c : ℤ) (y : SigId) (t w : Seen) → seen_at instant y.0 ≡ t → IsOfKind Bounded Integer w
    → IsFunction Bounded f instant (Const c ∷ Sig y ∷ []) w → AppliesToBoth f (Constant c) (Signal t) w
second_to f instant c y None None also fits h = refl
second_to f instant c y None (Some v) also fits h = let two = two_values instant (Const c) (Sig y) h.0 h.1 in let e : Some two.1 ≡ None = sym two.4 ∙ also in absurd cc
second_to f instant c y (Some b) None also fits h = let e : Some b ≡ None = sym also ∙ h.0 in absurd cc
second_to f instant c y (Some b) (Some v) also fits h =
    let two = two_values instant (Const c) (Sig y) h.0 h.1 in
    let first : c ≡ two.0 = two.3 in
    let second : Some two.1 ≡ Some b = sym two.4 ∙ also in
    let values : h.0 ≡ c ∷ b ∷ [] = cc in
    (v, refl, subst (λ (l : List ℤ). Gives Bounded f l v) values h.2, fits)

pub second_from : (f : Function) (instant : Instant) (c : ℤ) (y : SigId) (t w : Seen) → seen_at instant y.0 ≡ t → AppliesToBoth f (Constant c) (Signal t) w → IsFunction Bounded f instant (Const c ∷ Sig y ∷ []) w
second_from f instant c y None w also h = subst (λ (o : Seen). IsFunction Bounded f instant (Const c ∷ Sig y ∷ []) o) (sym h) (also, tt)
second_from f instant c y (Some b) w also h = subst (λ (o : Seen). IsFunction Bounded f instant (Const c ∷ Sig y ∷ []) o) (sym h.1) (c ∷ b ∷ [], (refl, (also, tt)), h.2)
