-- What an instant that meets the equations of an expression makes of the expression.
use Rattle.sig_flat.proofs.Common.{◌≡◌, ◌↔◌, ◌&&◌, ◌||◌, ℕ, suc, ℤ, pos, true, false, List, [], ◌∷◌, Option, None, Some, map, refl, sym, ap, subst, ◌∙◌, Kind, Boolean, Event, SigId, Signal as Declared, Span, Identity, Seen, Instant, Bounded, seen_at, Memory, Meets, is_signal, Form, Fun, Delay, WhenConst, Sync, EventOf, Id, Not, Operand, Sig, UnOp, NotOf, Neg as NegOf, WhenOf, Clock, BinOp, Default as DefaultOf, When as Sampled, Plus, Meet, Less, Or as OrOf, Xor as XorOf, And as AndOf, Eq as EqOf, Ne as NeOf, Lt as LtOf, Le as LeOf, Gt as GtOf, Ge as GeOf, Add as AddOf, Sub as SubOf, Mul as MulOf, Div as DivOf, Mod as ModOf, FlatExpression, SigOf, Const as ConstOf, Unary, Binary, DelayOf, Cell, unary_row, binary_row, kind_of_result, stored, AppliesToOne, Changes, Combines, clock_of, held as held_value, Steps, kept, Allows, IsMade, AreMet, found_at, Site, Made, Translated, with_signal, with_equation, with_own, with_clocks, own, next as next_signal, by_one, unary_form, binary_form, signal_in, signal_id, made_signal, less, binary, cell, named, translate, clocked}
use Rattle.sig_kernel.specs.declared.equation.Form.TheVariants.{When, Default}
use Rattle.sig_kernel.specs.declared.equation.FunOp.TheVariants.{Neg, And, Or, Xor, Eq, Ne, Lt, Le, Gt, Ge, Add, Sub, Mul, Div, Mod}
use Rattle.sig_kernel.specs.declared.equation.Operand.TheVariants.{Const}
use Rattle.sig_tree.specs.Operators.{Signal}
use Rattle.sig_flat.proofs.MetOperators.{one_row, both_row, delay_row, when_row, constant_row, default_row, clock_row, plus_row, meet_row, less_row, cell_row}
use Rattle.sig_flat.proofs.Agreement.{Fitting}
use Rattle.sig_flat.proofs.Instants.{at_first, behind_form, behind_made, behind_translated}
use Rattle.sig_flat.proofs.TranslationCases.{unary_of, delay_of, after_first, after_operand, is_fixed, is_several, found_signal, is_fixed_where, Met, equation_met, equation_behind, with_forms, forms_met, forms_behind, own_met}

-- one equation, and the operator that it is
pub unary_meets : (op : UnOp) (x : Operand) (y : SigId) (now : Instant) → Fitting now → is_fixed x ≡ false
    → Meets Bounded at_first now (unary_form op x y) ↔ Changes op (found_at now x) (seen_at now y.0)
unary_meets NotOf (Sig x) y now fits h = one_row at_first now Not x y (fits y.0)
unary_meets NegOf (Sig x) y now fits h = one_row at_first now Neg x y (fits y.0)
unary_meets WhenOf (Sig x) y now fits h = constant_row at_first now (pos 1) x y
unary_meets Clock (Sig x) y now fits h = clock_row at_first now x y
unary_meets op (Const c) y now fits h = absurd cc

some_signal : (u v : Operand) → (is_fixed u && is_fixed v) ≡ false → is_signal u || is_signal v ≡ true
some_signal (Const c) (Const d) h = absurd cc
some_signal _ _ h = refl

pub binary_meets : (op : BinOp) (u v : Operand) (y : SigId) (now : Instant) → is_several op ≡ false → Fitting now → Allows (binary_row op).constants (is_fixed u) (is_fixed v)
    → Meets Bounded at_first now (binary_form op u v y) ↔ Combines op (found_at now u) (found_at now v) (seen_at now y.0)
binary_meets DefaultOf (Sig u) (Sig v) y now one fits h = default_row at_first now u v y
binary_meets DefaultOf (Const c) v y now one fits h = let e : true ≡ false = h.0 in absurd cc
binary_meets DefaultOf (Sig u) (Const d) y now one fits h = let e : true ≡ false = h.1 in absurd cc
binary_meets Sampled (Sig u) (Sig v) y now one fits h = when_row at_first now u v y
binary_meets Sampled (Const c) (Sig v) y now one fits h = constant_row at_first now c v y
binary_meets Sampled u (Const d) y now one fits h = let e : true ≡ false = h in absurd cc
binary_meets OrOf u v y now one fits h = both_row at_first now Or u v y (fits y.0) (some_signal u v h)
binary_meets XorOf u v y now one fits h = both_row at_first now Xor u v y (fits y.0) (some_signal u v h)
binary_meets AndOf u v y now one fits h = both_row at_first now And u v y (fits y.0) (some_signal u v h)
binary_meets EqOf u v y now one fits h = both_row at_first now Eq u v y (fits y.0) (some_signal u v h)
binary_meets NeOf u v y now one fits h = both_row at_first now Ne u v y (fits y.0) (some_signal u v h)
binary_meets LtOf u v y now one fits h = both_row at_first now Lt u v y (fits y.0) (some_signal u v h)
binary_meets LeOf u v y now one fits h = both_row at_first now Le u v y (fits y.0) (some_signal u v h)
binary_meets GtOf u v y now one fits h = both_row at_first now Gt u v y (fits y.0) (some_signal u v h)
binary_meets GeOf u v y now one fits h = both_row at_first now Ge u v y (fits y.0) (some_signal u v h)
binary_meets AddOf u v y now one fits h = both_row at_first now Add u v y (fits y.0) (some_signal u v h)
binary_meets SubOf u v y now one fits h = both_row at_first now Sub u v y (fits y.0) (some_signal u v h)
binary_meets MulOf u v y now one fits h = both_row at_first now Mul u v y (fits y.0) (some_signal u v h)
binary_meets DivOf u v y now one fits h = both_row at_first now Div u v y (fits y.0) (some_signal u v h)
binary_meets ModOf u v y now one fits h = both_row at_first now Mod u v y (fits y.0) (some_signal u v h)
binary_meets _ u v y now one fits h = absurd cc

unary_stays : (op : UnOp) (x : Operand) (y : SigId) (now : Instant) → behind_form now (unary_form op x y) ≡ unary_form op x y
unary_stays NotOf x y now = refl
unary_stays _ x y now = refl

binary_stays : (op : BinOp) (u v : Operand) (y : SigId) (now : Instant) → behind_form now (binary_form op u v y) ≡ binary_form op u v y
binary_stays Sampled (Sig x) v y now = refl
binary_stays _ _ v y now = refl

-- an operator that is one equation
pub one_met : (left : Option ℕ) (site : Site) (kind : Kind) (at : Span) (form : SigId → Form) (made : Made) (now : Instant)
    → Met now (by_one left site kind at form made).made → Met now made × Meets Bounded at_first now (form (signal_id (own left made)))
one_met left site kind at form made now h =
    let r = equation_met now at (form (signal_id (own left made))) (with_own left site kind at made) h in
    ((own_met left site kind at made now).0 r.0, r.1)

one_behind : (left : Option ℕ) (site : Site) (kind : Kind) (at : Span) (form after : SigId → Form) (made : Made) (now : Instant)
    → behind_form now (form (signal_id (own left made))) ≡ after (signal_id (own left made))
    → by_one left site kind at after (behind_made now made) ≡ behind_translated now (by_one left site kind at form made)
one_behind None site kind at form after made now e =
    let y : ℕ = own None made in
    ap (made_signal y kind) (ap (with_equation (with_signal site kind at (behind_made now made)) at) (sym e) ∙ sym (equation_behind now at (form (signal_id y)) (with_signal site kind at made)))
one_behind (Some left) site kind at form after made now e =
    ap (made_signal left kind) (ap (with_equation (behind_made now made) at) (sym e) ∙ sym (equation_behind now at (form (signal_id left)) made))

-- the forms of the operators that are several equations
abbrev pub clock_forms : (SigId → SigId → SigId → Form) → ℕ → ℕ → Operand → Operand → List Form
clock_forms last e y u v = EventOf (signal_id e) (signal_in u) ∷ EventOf (signal_id (suc e)) (signal_in v) ∷ last (signal_id y) (signal_id e) (signal_id (suc e)) ∷ []

abbrev pub less_forms : ℕ → ℕ → ℕ → Operand → Operand → List Form
less_forms e z y u v =
    EventOf (signal_id e) (signal_in u) ∷ EventOf (signal_id (suc e)) (signal_in v) ∷ Fun (signal_id z) Not (Sig (signal_id (suc e)) ∷ [])
    ∷ Default (signal_id (suc z)) (signal_id z) (signal_id e) ∷ WhenConst (signal_id y) (pos 1) (signal_id (suc z)) ∷ []

abbrev pub cell_forms : ℕ → ℕ → ℕ → ℤ → Operand → Operand → List Form
cell_forms z y e init x b =
    Delay (signal_id z) (signal_id y) init ∷ Default (signal_id y) (signal_in x) (signal_id z) ∷ EventOf (signal_id e) (signal_in x)
    ∷ WhenConst (signal_id (suc e)) (pos 1) (signal_in b) ∷ Default (signal_id (suc (suc e))) (signal_id e) (signal_id (suc e))
    ∷ Sync (signal_id y) (signal_id (suc (suc e))) ∷ []

abbrev pub with_truths : Site → Span → Made → Made
with_truths site at made = with_signal site Boolean at (with_signal site Boolean at (with_clocks site at made))

abbrev pub cell_kept : Site → Span → Translated → Translated → Made
cell_kept site at x b = with_signal site (stored x.kind) at b.made

abbrev pub cell_whole : Option ℕ → Site → Span → Translated → Translated → Made
cell_whole left site at x b = with_own left site (stored x.kind) at (cell_kept site at x b)

abbrev pub cell_signals : Option ℕ → Site → Span → Translated → Translated → Made
cell_signals left site at x b = with_signal site Event at (with_signal site Event at (with_signal site Event at (cell_whole left site at x b)))

-- an operator on clocks that is their two events and one equation more
pub record IsClocked (op : BinOp) (last : SigId → SigId → SigId → Form) : Type 0 where
  pub row : (memory : Memory) (instant : Instant) (u v e f y : SigId) → AreMet memory instant (EventOf e u ∷ EventOf f v ∷ last y e f ∷ [])
      ↔ ((seen_at instant e.0 ≡ clock_of (seen_at instant u.0)) × (seen_at instant f.0 ≡ clock_of (seen_at instant v.0))
      × Combines op (Signal (seen_at instant u.0)) (Signal (seen_at instant v.0)) (seen_at instant y.0))
  pub stays : (now : Instant) (y e f : SigId) → behind_form now (last y e f) ≡ last y e f

pub plus_clocked : IsClocked Plus Default
plus_clocked = record { row = plus_row; stays = λ now y e f. refl }

pub meet_clocked : IsClocked Meet When
meet_clocked = record { row = meet_row; stays = λ now y e f. refl }

clocked_says : (op : BinOp) (last : SigId → SigId → SigId → Form) → IsClocked op last → (left : Option ℕ) (site : Site) (at : Span) (u v : Operand) (made : Made) (now : Instant)
    → is_fixed u ≡ false → is_fixed v ≡ false → Met now (clocked left site at last u v made).made
    → Met now made × Combines op (found_at now u) (found_at now v) (seen_at now (own left (with_clocks site at made)))
clocked_says op last is left site at u v made now hu hv h =
    let clocks : Made = with_clocks site at made in
    let e : ℕ = next_signal made in
    let y : ℕ = own left clocks in
    let r = forms_met now at (clock_forms last e y u v) (with_own left site Event at clocks) h in
    let row = (is.row at_first now (signal_in u) (signal_in v) (signal_id e) (signal_id (suc e)) (signal_id y)).0 r.1 in
    ((own_met left site Event at clocks now).0 r.0, rw (found_signal now u hu, found_signal now v hv) row.2)

less_says : (left : Option ℕ) (site : Site) (at : Span) (u v : Operand) (made : Made) (now : Instant) → is_fixed u ≡ false → is_fixed v ≡ false
    → Met now (less left site at u v made).made → Met now made × Combines Less (found_at now u) (found_at now v) (seen_at now (own left (with_truths site at made)))
less_says left site at u v made now hu hv h =
    let truths : Made = with_truths site at made in
    let e : ℕ = next_signal made in
    let z : ℕ = next_signal (with_clocks site at made) in
    let y : ℕ = own left truths in
    let r = forms_met now at (less_forms e z y u v) (with_own left site Event at truths) h in
    let row = (less_row at_first now (signal_in u) (signal_in v) (signal_id e) (signal_id (suc e)) (signal_id z) (signal_id (suc z)) (signal_id y)).0 r.1 in
    ((own_met left site Event at truths now).0 r.0, rw (found_signal now u hu, found_signal now v hv) row.4)

-- the value that an operator's signal has, where its equations are met
pub binary_says : (left : Option ℕ) (site : Site) (op : BinOp) (at : Span) (u v : Translated) (now : Instant) → Fitting now
    → Allows (binary_row op).constants (is_fixed u.operand) (is_fixed v.operand) → Met now (binary left site op at u v).made
    → Met now v.made × (w : Seen) × (found_at now (binary left site op at u v).operand ≡ Signal w) × Combines op (found_at now u.operand) (found_at now v.operand) w
binary_says left site Plus at u v now fits h met =
    let r = clocked_says Plus Default plus_clocked left site at u.operand v.operand v.made now h.0 h.1 met in
    (r.0, seen_at now (own left (with_clocks site at v.made)), refl, r.1)
binary_says left site Meet at u v now fits h met =
    let r = clocked_says Meet When meet_clocked left site at u.operand v.operand v.made now h.0 h.1 met in
    (r.0, seen_at now (own left (with_clocks site at v.made)), refl, r.1)
binary_says left site Less at u v now fits h met =
    let r = less_says left site at u.operand v.operand v.made now h.0 h.1 met in
    (r.0, seen_at now (own left (with_truths site at v.made)), refl, r.1)
binary_says left site op at u v now fits h met =
    let y : ℕ = own left v.made in
    let r = one_met left site (kind_of_result (binary_row op).result u.kind (Some v.kind)) at (binary_form op u.operand v.operand) v.made now met in
    (r.0, seen_at now y, refl, (binary_meets op u.operand v.operand (signal_id y) now refl fits h).0 r.1)

pub cell_says : (left : Option ℕ) (site : Site) (init : ℤ) (at : Span) (x b : Translated) (now : Instant) → Met now (cell left site init at x b).made
    → Met now b.made × (seen_at now (own left (cell_kept site at x b)) ≡ held_value init (seen_at now (signal_in x.operand).0) (seen_at now (signal_in b.operand).0))
cell_says left site init at x b now h =
    let kept_made : Made = cell_kept site at x b in
    let z : ℕ = next_signal b.made in
    let y : ℕ = own left kept_made in
    let e : ℕ = next_signal (cell_whole left site at x b) in
    let r = forms_met now at (cell_forms z y e init x.operand b.operand) (cell_signals left site at x b) h in
    let row = (cell_row at_first now (signal_in x.operand) (signal_in b.operand) (signal_id z) (signal_id e) (signal_id (suc e)) (signal_id (suc (suc e))) (signal_id y) init).0 r.1 in
    ((own_met left site (stored x.kind) at kept_made now).0 r.0, row.4)

clock_forms_stay : (op : BinOp) (last : SigId → SigId → SigId → Form) → IsClocked op last → (now : Instant) (e y : ℕ) (u v : Operand)
    → map (behind_form now) (clock_forms last e y u v) ≡ clock_forms last e y u v
clock_forms_stay op last is now e y u v =
    ap (λ form. EventOf (signal_id e) (signal_in u) ∷ EventOf (signal_id (suc e)) (signal_in v) ∷ form ∷ []) (is.stays now (signal_id y) (signal_id e) (signal_id (suc e)))

clocked_behind : (op : BinOp) (last : SigId → SigId → SigId → Form) → IsClocked op last → (left : Option ℕ) (site : Site) (at : Span) (u v : Operand) (made : Made) (now : Instant)
    → clocked left site at last u v (behind_made now made) ≡ behind_translated now (clocked left site at last u v made)
clocked_behind op last is None site at u v made now =
    let clocks : Made = with_clocks site at made in
    let y : ℕ = own None clocks in
    let whole : Made = with_own None site Event at clocks in
    let forms : List Form = clock_forms last (next_signal made) y u v in
    ap (made_signal y Event) (ap (λ (fs : List Form). with_forms at fs (behind_made now whole)) (sym (clock_forms_stay op last is now (next_signal made) y u v)) ∙ sym (forms_behind now at forms whole))
clocked_behind op last is (Some left) site at u v made now =
    let clocks : Made = with_clocks site at made in
    let forms : List Form = clock_forms last (next_signal made) left u v in
    ap (made_signal left Event) (ap (λ (fs : List Form). with_forms at fs (behind_made now clocks)) (sym (clock_forms_stay op last is now (next_signal made) left u v)) ∙ sym (forms_behind now at forms clocks))

less_behind : (left : Option ℕ) (site : Site) (at : Span) (u v : Operand) (made : Made) (now : Instant) → less left site at u v (behind_made now made) ≡ behind_translated now (less left site at u v made)
less_behind None site at u v made now = let truths : Made = with_truths site at made in
    sym (ap (made_signal (own None truths) Event) (forms_behind now at (less_forms (next_signal made) (next_signal (with_clocks site at made)) (own None truths) u v) (with_own None site Event at truths)))
less_behind (Some left) site at u v made now = let truths : Made = with_truths site at made in
    sym (ap (made_signal left Event) (forms_behind now at (less_forms (next_signal made) (next_signal (with_clocks site at made)) left u v) truths))

binary_behind : (left : Option ℕ) (site : Site) (op : BinOp) (at : Span) (u v : Translated) (now : Instant)
    → binary left site op at (behind_translated now u) (behind_translated now v) ≡ behind_translated now (binary left site op at u v)
binary_behind left site Plus at u v now = clocked_behind Plus Default plus_clocked left site at u.operand v.operand v.made now
binary_behind left site Meet at u v now = clocked_behind Meet When meet_clocked left site at u.operand v.operand v.made now
binary_behind left site Less at u v now = less_behind left site at u.operand v.operand v.made now
binary_behind left site op at u v now =
    one_behind left site (kind_of_result (binary_row op).result u.kind (Some v.kind)) at (binary_form op u.operand v.operand) (binary_form op u.operand v.operand) v.made now
    (binary_stays op u.operand v.operand (signal_id (own left v.made)) now)

cell_behind : (left : Option ℕ) (site : Site) (init after : ℤ) (at : Span) (x b : Translated) (now : Instant) → after ≡ kept init (seen_at now (own left (cell_kept site at x b)))
    → cell left site after at (behind_translated now x) (behind_translated now b) ≡ behind_translated now (cell left site init at x b)
cell_behind None site init after at x b now e =
    let y : ℕ = own None (cell_kept site at x b) in
    ap (λ (c : ℤ). cell None site c at (behind_translated now x) (behind_translated now b)) e
    ∙ sym (ap (made_signal y (stored x.kind)) (forms_behind now at (cell_forms (next_signal b.made) y (next_signal (cell_whole None site at x b)) init x.operand b.operand) (cell_signals None site at x b)))
cell_behind (Some left) site init after at x b now e =
    ap (λ (c : ℤ). cell (Some left) site c at (behind_translated now x) (behind_translated now b)) e
    ∙ sym (ap (made_signal left (stored x.kind)) (forms_behind now at (cell_forms (next_signal b.made) left (next_signal (cell_whole (Some left) site at x b)) init x.operand b.operand) (cell_signals (Some left) site at x b)))

-- an instant that meets the equations of an expression's translation
pub record Says (left : Option ℕ) (site : Site) (e : FlatExpression) (made : Made) (now : Instant) : Type 0 where
  -- behind it the expression is this one
  pub next : FlatExpression
  -- and at it it is what the operand is
  pub steps : Steps e now (found_at now (translate left site e made).operand) next
  -- the translation of the one behind is the translation, behind the instant
  pub is : translate left site next (behind_made now made) ≡ behind_translated now (translate left site e made)
  -- what was made before is met too
  pub before : Met now made

identity_is : (s w : Seen) → AppliesToOne Identity (Signal s) w → w ≡ s
identity_is None w h = h
identity_is (Some a) w h = h.1 ∙ ap Some h.2

named_says : (left : Option ℕ) (site : Site) (number : ℕ) (at : Span) (made : Made) (now : Instant) → Fitting now → Met now (named left site number at made).made → Says left site (SigOf number at) made now
named_says None site number at made now fits met = record { next = SigOf number at; steps = (refl, refl); is = refl; before = met }
named_says (Some left) site number at made now fits met =
    let form : SigId → Form = λ y. Fun y Id (Sig (signal_id number) ∷ []) in
    let kind : Kind = (named (Some left) site number at made).kind in
    let r = one_met (Some left) site kind at form made now met in
    let same : seen_at now left ≡ seen_at now number = identity_is (seen_at now number) (seen_at now left) ((one_row at_first now Id (signal_id number) (signal_id left) (fits left)).0 r.1) in
    record {
      next = SigOf number at;
      steps = (ap Signal same, refl);
      is = one_behind (Some left) site kind at form form made now refl;
      before = r.0;
    }

pub says : (left : Option ℕ) (site : Site) (signals : List Declared) (e : FlatExpression) (made : Made) (now : Instant) → Fitting now → IsMade signals e
    → Met now (translate left site e made).made → Says left site e made now
says left site signals (SigOf number at) made now fits h met = named_says left site number at made now fits met
says left site signals (ConstOf value kind at) made now fits h met = record { next = ConstOf value kind at; steps = (refl, refl); is = refl; before = met }
says left site signals (Unary op operand at) made now fits h met =
    let x : Translated = translate None site operand made in
    let y : ℕ = own left x.made in
    let shape : is_fixed x.operand ≡ false = is_fixed_where None site operand made ∙ h.0 in
    let o = one_met left site (kind_of_result (unary_row op).result x.kind None) at (unary_form op x.operand) x.made now met in
    let s = says None site signals operand made now fits h.1 o.0 in
    record {
      next = Unary op s.next at;
      steps = (found_at now x.operand, s.next, s.steps, seen_at now y, (unary_meets op x.operand (signal_id y) now fits shape).0 o.1, refl, refl);
      is = ap (unary_of left site op at) s.is
          ∙ one_behind left site (kind_of_result (unary_row op).result x.kind None) at (unary_form op x.operand) (unary_form op x.operand) x.made now (unary_stays op x.operand (signal_id y) now);
      before = s.before;
    }
says left site signals (Binary op first second at) made now fits h met =
    let u : Translated = translate None site first made in
    let v : Translated = translate None site second u.made in
    let allowed : Allows (binary_row op).constants (is_fixed u.operand) (is_fixed v.operand) = rw (is_fixed_where None site first made, is_fixed_where None site second u.made) h.0 in
    let o = binary_says left site op at u v now fits allowed met in
    let s = says None site signals second u.made now fits h.2 o.0 in
    let r = says None site signals first made now fits h.1 s.before in
    record {
      next = Binary op r.next s.next at;
      steps = (found_at now u.operand, found_at now v.operand, r.next, s.next, r.steps, s.steps, o.1, o.3, o.2, refl);
      is = ap (after_first left site op at s.next) r.is ∙ ap (binary left site op at (behind_translated now u)) s.is ∙ binary_behind left site op at u v now;
      before = r.before;
    }
says left site signals (DelayOf operand init at) made now fits h met =
    let x : Translated = translate None site operand made in
    let v : Seen = seen_at now (signal_in x.operand).0 in
    let form : ℤ → SigId → Form = λ c y. Delay y (signal_in x.operand) c in
    let shape : is_fixed x.operand ≡ false = is_fixed_where None site operand made ∙ h.0 in
    let o = one_met left site (stored x.kind) at (form init) x.made now met in
    let s = says None site signals operand made now fits h.1 o.0 in
    let here : Steps operand now (Signal v) s.next = subst (λ p. Steps operand now p s.next) (found_signal now x.operand shape) s.steps in
    record {
      next = DelayOf s.next (kept init v) at;
      steps = (v, s.next, here, ap Signal ((delay_row at_first now (signal_in x.operand) (signal_id (own left x.made)) init).0 o.1), refl);
      is = ap (delay_of left site (kept init v) at) s.is ∙ one_behind left site (stored x.kind) at (form init) (form (kept init v)) x.made now refl;
      before = s.before;
    }
says left site signals (Cell operand held init at) made now fits h met =
    let x : Translated = translate None site operand made in
    let b : Translated = translate None site held x.made in
    let v : Seen = seen_at now (signal_in x.operand).0 in
    let t : Seen = seen_at now (signal_in b.operand).0 in
    let x_shape : is_fixed x.operand ≡ false = is_fixed_where None site operand made ∙ h.0 in
    let b_shape : is_fixed b.operand ≡ false = is_fixed_where None site held x.made ∙ h.1 in
    let o = cell_says left site init at x b now met in
    let s = says None site signals held x.made now fits h.3 o.0 in
    let r = says None site signals operand made now fits h.2 s.before in
    let first : Steps operand now (Signal v) r.next = subst (λ p. Steps operand now p r.next) (found_signal now x.operand x_shape) r.steps in
    let second : Steps held now (Signal t) s.next = subst (λ p. Steps held now p s.next) (found_signal now b.operand b_shape) s.steps in
    let after : ℤ = kept init (held_value init v t) in
    record {
      next = Cell r.next s.next after at;
      steps = (v, t, r.next, s.next, first, second, ap Signal o.1, refl);
      is = ap (after_operand left site after at s.next) r.is ∙ ap (cell left site after at (behind_translated now x)) s.is
          ∙ cell_behind left site init after at x b now (ap (kept init) (sym o.1));
      before = r.before;
    }
