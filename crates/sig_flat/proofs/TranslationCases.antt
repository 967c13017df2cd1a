-- The cases of a translation, and what one adds to what was made.
use Rattle.sig_flat.proofs.Common.{◌≡◌, ◌↔◌, ◌++◌, ℕ, ℤ, Bool, true, false, List, [], ◌∷◌, Option, None, Some, map, refl, ap, ◌∙◌, AllByRecursion, Kind, Span, Instant, Bounded, seen_at, Meets, Equation, Form, Delay, Operand, Sig, UnOp, BinOp, Plus, Meet, Less, FlatExpression, SigOf, Const as ConstOf, Unary, Binary, DelayOf, Cell, unary_row, kind_of_result, stored, is_constant, AreMet, found_at, Site, Made, Translated, with_equation, with_own, by_one, unary_form, signal_in, signal_id, binary, cell, translate, all_added}
use Rattle.sig_kernel.specs.declared.equation.Operand.TheVariants.{Const}
use Rattle.sig_tree.specs.Operators.{Signal}
use Rattle.sig_flat.proofs.Instants.{at_first, behind_form, behind_equation, behind_equations, MeetAll, behind_made}

abbrev pub unary_of : Option ℕ → Site → UnOp → Span → Translated → Translated
unary_of left site op at x = by_one left site (kind_of_result (unary_row op).result x.kind None) at (unary_form op x.operand) x.made

abbrev pub delay_of : Option ℕ → Site → ℤ → Span → Translated → Translated
delay_of left site init at x = by_one left site (stored x.kind) at (λ y. Delay y (signal_in x.operand) init) x.made

abbrev pub after_first : Option ℕ → Site → BinOp → Span → FlatExpression → Translated → Translated
after_first left site op at second u = binary left site op at u (translate None site second u.made)

abbrev pub after_operand : Option ℕ → Site → ℤ → Span → FlatExpression → Translated → Translated
after_operand left site init at held x = cell left site init at x (translate None site held x.made)

-- operands that are constants, and operators that are several equations
abbrev pub is_fixed : Operand → Bool
is_fixed (Sig x) = false
is_fixed (Const c) = true

abbrev pub is_several : BinOp → Bool
is_several Plus = true
is_several Meet = true
is_several Less = true
is_several _ = false

pub found_signal : (now : Instant) (o : Operand) → is_fixed o ≡ false → found_at now o ≡ Signal (seen_at now (signal_in o).0)
found_signal now (Sig x) h = refl
found_signal now (Const c) h = absurd cc

binary_is_signal : (left : Option ℕ) (site : Site) (op : BinOp) (at : Span) (u v : Translated) → is_fixed (binary left site op at u v).operand ≡ false
binary_is_signal left site Plus at u v = refl
binary_is_signal left site _ at u v = refl

pub is_fixed_where : (left : Option ℕ) (site : Site) (e : FlatExpression) (made : Made) → is_fixed (translate left site e made).operand ≡ is_constant e
is_fixed_where None site (SigOf number at) made = refl
is_fixed_where (Some left) site (SigOf number at) made = refl
is_fixed_where left site (ConstOf value kind at) made = refl
is_fixed_where left site (Unary op operand at) made = refl
is_fixed_where left site (Binary op first second at) made = let u : Translated = translate None site first made in
    binary_is_signal left site op at u (translate None site second u.made)
is_fixed_where left site (DelayOf operand init at) made = refl
is_fixed_where left site (Cell operand held init at) made = refl

-- the signal that a definition defines
binary_is_left : (left : ℕ) (site : Site) (op : BinOp) (at : Span) (u v : Translated) → (binary (Some left) site op at u v).operand ≡ Sig (signal_id left)
binary_is_left left site Plus at u v = refl
binary_is_left left site _ at u v = refl

pub is_left : (left : ℕ) (site : Site) (e : FlatExpression) (made : Made) → is_constant e ≡ false → (translate (Some left) site e made).operand ≡ Sig (signal_id left)
is_left left site (ConstOf value kind at) made h = absurd cc
is_left left site (Binary op first second at) made h = let u : Translated = translate None site first made in
    binary_is_left left site op at u (translate None site second u.made)
is_left left site _ made h = refl

-- an instant meets all equations that were made
abbrev pub Met : Instant → Made → Type 0
Met now made = MeetAll at_first now made.equations

-- equations of these forms
abbrev pub with_forms : Span → List Form → Made → Made
with_forms at [] made = made
with_forms at (form ∷ forms) made = with_forms at forms (with_equation made at form)

all_and_last : {A : Type 0} (P : A → Type 0) (xs : List A) (y : A) → AllByRecursion P (xs ++ y ∷ []) → AllByRecursion P xs × P y
all_and_last P [] y h = (tt, h.0)
all_and_last P (x ∷ xs) y h = let rest = all_and_last P xs y h.1 in ((h.0, rest.0), rest.1)

pub equation_met : (now : Instant) (at : Span) (form : Form) (made : Made) → Met now (with_equation made at form) → Met now made × Meets Bounded at_first now form
equation_met now at form made h = all_and_last (λ (q : Equation). Meets Bounded at_first now q.form) made.equations (record { form = form; at = at }) h

pub equation_meets : (now : Instant) (at : Span) (form : Form) (made : Made) → Met now made → Meets Bounded at_first now form → Met now (with_equation made at form)
equation_meets now at form made h k = all_added (λ (q : Equation). Meets Bounded at_first now q.form) made.equations (record { form = form; at = at }) h k

pub forms_met : (now : Instant) (at : Span) (forms : List Form) (made : Made) → Met now (with_forms at forms made) → Met now made × AreMet at_first now forms
forms_met now at [] made h = (h, tt)
forms_met now at (form ∷ forms) made h =
    let rest = forms_met now at forms (with_equation made at form) h in
    let here = equation_met now at form made rest.0 in
    (here.0, (here.1, rest.1))

pub forms_meet : (now : Instant) (at : Span) (forms : List Form) (made : Made) → Met now made → AreMet at_first now forms → Met now (with_forms at forms made)
forms_meet now at [] made h k = h
forms_meet now at (form ∷ forms) made h k = forms_meet now at forms (with_equation made at form) (equation_meets now at form made h k.0) k.1

equations_behind : (now : Instant) (qs : List Equation) (q : Equation) → behind_equations now (qs ++ q ∷ []) ≡ behind_equations now qs ++ behind_equation now q ∷ []
equations_behind now [] q = refl
equations_behind now (p ∷ qs) q = ap (λ (rest : List Equation). behind_equation now p ∷ rest) (equations_behind now qs q)

pub equation_behind : (now : Instant) (at : Span) (form : Form) (made : Made) → behind_made now (with_equation made at form) ≡ with_equation (behind_made now made) at (behind_form now form)
equation_behind now at form made = ap (λ (qs : List Equation). record { signals = made.signals; equations = qs }) (equations_behind now made.equations (record { form = form; at = at }))

pub forms_behind : (now : Instant) (at : Span) (forms : List Form) (made : Made) → behind_made now (with_forms at forms made) ≡ with_forms at (map (behind_form now) forms) (behind_made now made)
forms_behind now at [] made = refl
forms_behind now at (form ∷ forms) made =
    forms_behind now at forms (with_equation made at form) ∙ ap (with_forms at (map (behind_form now) forms)) (equation_behind now at form made)

-- the signal that an operator defines adds no equation
pub own_met : (left : Option ℕ) (site : Site) (kind : Kind) (at : Span) (made : Made) (now : Instant) → Met now (with_own left site kind at made) ↔ Met now made
own_met None site kind at made now = (λ h. h, λ h. h)
own_met (Some left) site kind at made now = (λ h. h, λ h. h)
