-- What an expression is at an instant determines the intermediates of its translation.
use Rattle.sig_flat.proofs.Common.{◌≡◌, ◌≤◌, ◌<◌, ℕ, zero, suc, false, List, [], ◌∷◌, ◌++◌, Option, None, Some, length, refl, sym, ap, subst, ◌∙◌, arith, Kind, Integer, SigId, Signal as Declared, Span, Identity, Seen, Instant, Bounded, IsValue, IsOfKind, AreOfKinds, seen_at, Form, Fun, Delay, Id, Sig, BinOp, Plus, FlatExpression, SigOf, Const as ConstOf, Unary, Binary, DelayOf, Cell, unary_row, binary_row, delay_row, cell_row, kind_of_result, stored, Found, AppliesToOne, delayed, held as held_value, kinds_of, Steps, Allows, IsMade, flat_kind, kind_numbered, found_at, Site, Made, Translated, own, next as next_signal, unary_form, signal_in, signal_id, binary, kind_at, named, translate}
use Rattle.sig_tree.specs.Operators.{Signal}
use Rattle.sig_flat.proofs.MetOperators.{one_row, delay_row as delay_equation}
use Rattle.sig_flat.proofs.Agreement.{Agree, agree_less, Fitting, Suits, suits as suits_over}
use Rattle.sig_flat.proofs.AddedBehind.{translate_grows}
use Rattle.sig_flat.proofs.Instants.{at_first}
use Rattle.sig_flat.proofs.Kinded.{unary_kinds, binary_kinds, changes_kind, combines_kind, delayed_kind, held_kind, stored_kind, init_kind, has_kind, steps_same}
use Rattle.sig_flat.proofs.TranslationCases.{is_fixed, is_fixed_where, found_signal}
use Rattle.sig_flat.proofs.MetExpressions.{unary_meets, one_met, binary_says, cell_says, Says, says}
use Rattle.sig_flat.proofs.AddedSignals.{Over, over_size, over_then, grows_size, LeftIs, left_later, same_seen}
use Rattle.sig_flat.proofs.DeterminedIntermediates.{Determined, then_determined, one_determined, binary_determined, cell_determined}

-- the kind of a translation
kind_there : (signals more : List Declared) (number : ℕ) (kind : Kind) → kind_numbered signals number ≡ Some kind → kind ≡ kind_at (signals ++ more) number
kind_there [] more number kind e = absurd cc
kind_there (s ∷ signals) more zero kind e = cc
kind_there (s ∷ signals) more (suc number) kind e = kind_there signals more number kind e

kind_of_binary : (left : Option ℕ) (site : Site) (op : BinOp) (at : Span) (u v : Translated) → (binary left site op at u v).kind ≡ kind_of_result (binary_row op).result u.kind (Some v.kind)
kind_of_binary left site Plus at u v = refl
kind_of_binary left site _ at u v = refl

pub kind_is : (site : Site) (signals : List Declared) (e : FlatExpression) (made : Made) (kind : Kind) → Over signals made → flat_kind signals e ≡ Some kind → (translate None site e made).kind ≡ kind
kind_is site signals (SigOf number at) made kind over is = ap (λ (xs : List Declared). kind_at xs number) over.is ∙ sym (kind_there signals over.more number kind is)
kind_is site signals (ConstOf value of at) made kind over is = cc
kind_is site signals (Unary op operand at) made kind over is =
    let k = unary_kinds (unary_row op) (flat_kind signals operand) kind is in
    ap (λ q. kind_of_result (unary_row op).result q None) (kind_is site signals operand made k.0 over k.1) ∙ k.3
kind_is site signals (Binary op first second at) made kind over is =
    let u : Translated = translate None site first made in
    let v : Translated = translate None site second u.made in
    let k = binary_kinds (binary_row op) (flat_kind signals first) (flat_kind signals second) kind is in
    kind_of_binary None site op at u v
    ∙ ap (λ q. kind_of_result (binary_row op).result q (Some v.kind)) (kind_is site signals first made k.0 over k.2)
    ∙ ap (λ q. kind_of_result (binary_row op).result k.0 (Some q)) (kind_is site signals second u.made k.1 (over_then signals made u.made over (translate_grows None site first made)) k.3)
    ∙ k.5
kind_is site signals (DelayOf operand init at) made kind over is =
    let k = unary_kinds delay_row (flat_kind signals operand) kind is in
    ap stored (kind_is site signals operand made k.0 over k.1) ∙ k.3
kind_is site signals (Cell operand held init at) made kind over is =
    let k = binary_kinds cell_row (flat_kind signals operand) (flat_kind signals held) kind is in
    ap stored (kind_is site signals operand made k.0 over k.2) ∙ k.5

-- an expression steps to one thing
abbrev pub OneStep : Type 0
OneStep = (e : FlatExpression) (now : Instant) (o p : Found) (next other : FlatExpression) → Steps e now o next → Steps e now p other → o ≡ p

-- an instant that goes on from one at which an expression is this makes the same of it
pub same_found : OneStep → (left : Option ℕ) (site : Site) (signals : List Declared) (e : FlatExpression) (made : Made) (now other : Instant) (o : Found) (after : FlatExpression)
    → Over signals made → IsMade signals e → Steps e now o after → Fitting other → Agree (next_signal made) now other → (s : Says left site e made other)
    → found_at other (translate left site e made).operand ≡ o
same_found one left site signals e made now other o after over h steps fits agree s =
    one e other (found_at other (translate left site e made).operand) o s.next after s.steps
    (steps_same signals e h now other (agree_less (length signals) (next_signal made) now other (over_size signals made over) agree) o after steps)

identity_of : (s w : Seen) → w ≡ s → IsOfKind Bounded Integer w → AppliesToOne Identity (Signal s) w
identity_of None w e fits = e
identity_of (Some a) w e fits = (a, e, refl, subst (λ (x : Seen). IsOfKind Bounded Integer x) e fits)

kind_seen : (signals : List Declared) (now : Instant) (number : ℕ) → AreOfKinds Bounded (kinds_of signals) now → IsOfKind Bounded (kind_at signals number) (seen_at now number)
kind_seen [] [] number h = tt
kind_seen (q ∷ signals) (s ∷ now) zero h = h.0
kind_seen (q ∷ signals) (s ∷ now) (suc number) h = kind_seen signals now number h.1
kind_seen _ _ number h = absurd h

named_determined : (left : Option ℕ) (site : Site) (signals : List Declared) (number : ℕ) (at : Span) (made : Made) (now : Instant) (o : Found) → Over signals made
    → AreOfKinds Bounded (kinds_of made.signals) now → number < length signals → LeftIs left (next_signal made) now o → o ≡ Signal (seen_at now number) → Determined (named left site number at made) made now o
named_determined None site signals number at made now o over h below left_is is =
    let few : length signals ≤ next_signal made = over_size signals made over in
    let here : number < next_signal made = omega arith in
    record {
      whole = now;
      kinds = h;
      begins = λ other agree. agree;
      found = λ other agree. ap Signal (sym (agree number here)) ∙ sym is;
      met = λ other fits agree m. m;
      only = λ other fits agree m f. agree;
    }
named_determined (Some left) site signals number at made now o over h below left_is is =
    let few : length signals ≤ next_signal made = over_size signals made over in
    let here : number < next_signal made = omega arith in
    let v : Seen = seen_at now number in
    let same : Signal (seen_at now left) ≡ Signal v = left_is.1 ∙ is in
    let k : IsOfKind Bounded (kind_at made.signals left) v =
    subst (λ q. IsOfKind Bounded (kind_at made.signals left) q) (same_seen (seen_at now left) v same) (kind_seen made.signals now left h) in
    subst (λ p. Determined (named (Some left) site number at made) made now p) (sym is)
    (one_determined (Some left) site (named (Some left) site number at made).kind at (λ y. Fun y Id (Sig (signal_id number) ∷ [])) made now v h k (left_is.0, same)
    (λ other fits agree e. (one_row at_first other Id (signal_id number) (signal_id left) (fits left)).1
    (identity_of (seen_at other number) (seen_at other left) (e ∙ agree number here) (fits left))))

pub made_fits : (signals : List Declared) (made : Made) (now : Instant) → Over signals made → AreOfKinds Bounded (kinds_of made.signals) now → Suits signals now
made_fits signals made now over h = suits_over signals over.more now (subst (λ (xs : List Declared). AreOfKinds Bounded (kinds_of xs) now) over.is h)

pub determined : OneStep → (left : Option ℕ) (site : Site) (signals : List Declared) (e : FlatExpression) (made : Made) (now : Instant) (o : Found) (after : FlatExpression) (kind : Kind)
    → Over signals made → AreOfKinds Bounded (kinds_of made.signals) now → IsMade signals e → flat_kind signals e ≡ Some kind → LeftIs left (next_signal made) now o
    → Steps e now o after → Determined (translate left site e made) made now o
determined one left site signals (SigOf number at) made now o after kind over h is_made kinded left_is a =
    named_determined left site signals number at made now o over h is_made left_is a.0
determined one left site signals (ConstOf value of at) made now o after kind over h is_made kinded left_is a = record {
  whole = now;
  kinds = h;
  begins = λ other agree. agree;
  found = λ other agree. sym a.0;
  met = λ other fits agree m. m;
  only = λ other fits agree m f. agree;
}
determined one left site signals (Unary op operand at) made now o after kind over h is_made kinded left_is a =
    let x : Translated = translate None site operand made in
    let k = unary_kinds (unary_row op) (flat_kind signals operand) kind kinded in
    let d = determined one None site signals operand made now a.0 a.1 k.0 over h is_made.1 k.1 tt a.2 in
    let grows : length made.signals ≤ length x.made.signals = grows_size made x.made (translate_grows None site operand made) in
    let shape : is_fixed x.operand ≡ false = is_fixed_where None site operand made ∙ is_made.0 in
    let result : Kind = kind_of_result (unary_row op).result x.kind None in
    let v : Seen = a.3 in
    let y : ℕ = own left x.made in
    let left_there = left_later left (next_signal made) (next_signal x.made) now d.whole (Signal v) grows (d.begins d.whole (λ n below. refl)) (subst (LeftIs left (next_signal made) now) a.5 left_is) in
    let g : Determined (translate left site (Unary op operand at) made) x.made d.whole (Signal v) =
    one_determined left site result at (unary_form op x.operand) x.made d.whole v d.kinds (changes_kind op x.kind a.0 v a.4) left_there
    (λ other fits agree e. (unary_meets op x.operand (signal_id y) other fits shape).1 (rw (d.found other agree, e) a.4)) in
    subst (λ p. Determined (translate left site (Unary op operand at) made) made now p) (sym a.5)
    (then_determined x (translate left site (Unary op operand at) made) made now a.0 (Signal v) d g
    (λ other fits agree m.
    let q = one_met left site result at (unary_form op x.operand) x.made other m in
    (q.0, same_found one None site signals operand made now other a.0 a.1 over is_made.1 a.2 fits agree (says None site signals operand made other fits is_made.1 q.0))))
determined one left site signals (Binary op first second at) made now o after kind over h is_made kinded left_is a =
    let t : Translated = translate left site (Binary op first second at) made in
    let u : Translated = translate None site first made in
    let v : Translated = translate None site second u.made in
    let k = binary_kinds (binary_row op) (flat_kind signals first) (flat_kind signals second) kind kinded in
    let over_u : Over signals u.made = over_then signals made u.made over (translate_grows None site first made) in
    let du = determined one None site signals first made now a.0 a.2 k.0 over h is_made.1 k.2 tt a.4 in
    let begins_u : Agree (next_signal made) now du.whole = du.begins du.whole (λ n below. refl) in
    let second_steps : Steps second du.whole a.1 a.3 =
    steps_same signals second is_made.2 now du.whole (agree_less (length signals) (next_signal made) now du.whole (over_size signals made over) begins_u) a.1 a.3 a.5 in
    let dv = determined one None site signals second u.made du.whole a.1 a.3 k.1 over_u du.kinds is_made.2 k.3 tt second_steps in
    let begins_v : Agree (next_signal u.made) du.whole dv.whole = dv.begins dv.whole (λ n below. refl) in
    let grows_u : length made.signals ≤ length u.made.signals = grows_size made u.made (translate_grows None site first made) in
    let grows_v : length u.made.signals ≤ length v.made.signals = grows_size u.made v.made (translate_grows None site second u.made) in
    let w : Seen = a.6 in
    let left_u = left_later left (next_signal made) (next_signal u.made) now du.whole (Signal w) grows_u begins_u (subst (LeftIs left (next_signal made) now) a.8 left_is) in
    let left_v = left_later left (next_signal u.made) (next_signal v.made) du.whole dv.whole (Signal w) grows_v begins_v left_u in
    let allowed : Allows (binary_row op).constants (is_fixed u.operand) (is_fixed v.operand) = rw (is_fixed_where None site first made, is_fixed_where None site second u.made) is_made.0 in
    let suits : Suits signals now = made_fits signals made now over h in
    let w_kind : IsOfKind Bounded (kind_of_result (binary_row op).result u.kind (Some v.kind)) w =
    rw (kind_is site signals first made k.0 over k.2, kind_is site signals second u.made k.1 over_u k.3)
    (combines_kind op k.0 k.1 a.0 a.1 w k.4 (has_kind signals now suits first a.0 a.2 k.0 is_made.1 k.2 a.4) (has_kind signals now suits second a.1 a.3 k.1 is_made.2 k.3 a.5) a.7) in
    let g : Determined t v.made dv.whole (Signal w) =
    binary_determined left site op at u v dv.whole a.0 a.1 w dv.kinds w_kind left_v allowed (λ other agree. du.found other (dv.begins other agree)) dv.found a.7 in
    subst (λ p. Determined t made now p) (sym a.8)
    (then_determined u t made now a.0 (Signal w) du
    (then_determined v t u.made du.whole a.1 (Signal w) dv g
    (λ other fits agree m.
    let q = binary_says left site op at u v other fits allowed m in
    (q.0, same_found one None site signals second u.made du.whole other a.1 a.3 over_u is_made.2 second_steps fits agree (says None site signals second u.made other fits is_made.2 q.0))))
    (λ other fits agree m.
    let q = binary_says left site op at u v other fits allowed m in
    let s = says None site signals second u.made other fits is_made.2 q.0 in
    (s.before, same_found one None site signals first made now other a.0 a.2 over is_made.1 a.4 fits agree (says None site signals first made other fits is_made.1 s.before))))
determined one left site signals (DelayOf operand init at) made now o after kind over h is_made kinded left_is a =
    let t : Translated = translate left site (DelayOf operand init at) made in
    let x : Translated = translate None site operand made in
    let k = unary_kinds delay_row (flat_kind signals operand) kind kinded in
    let d = determined one None site signals operand made now (Signal a.0) a.1 k.0 over h is_made.1 k.1 tt a.2 in
    let grows : length made.signals ≤ length x.made.signals = grows_size made x.made (translate_grows None site operand made) in
    let shape : is_fixed x.operand ≡ false = is_fixed_where None site operand made ∙ is_made.0 in
    let v : Seen = delayed init a.0 in
    let y : ℕ = own left x.made in
    let form : SigId → Form = λ y. Delay y (signal_in x.operand) init in
    let init_is : IsValue Bounded (stored x.kind) init = rw (kind_is site signals operand made k.0 over k.1) (init_kind signals operand k.0 init k.1 is_made.2) in
    let left_there = left_later left (next_signal made) (next_signal x.made) now d.whole (Signal v) grows (d.begins d.whole (λ n below. refl)) (subst (LeftIs left (next_signal made) now) a.3 left_is) in
    let g : Determined t x.made d.whole (Signal v) =
    one_determined left site (stored x.kind) at form x.made d.whole v d.kinds (delayed_kind (stored x.kind) init a.0 init_is) left_there
    (λ other fits agree e. (delay_equation at_first other (signal_in x.operand) (signal_id y) init).1
    (e ∙ ap (delayed init) (sym (same_seen (seen_at other (signal_in x.operand).0) a.0 (sym (found_signal other x.operand shape) ∙ d.found other agree))))) in
    subst (λ p. Determined t made now p) (sym a.3)
    (then_determined x t made now (Signal a.0) (Signal v) d g
    (λ other fits agree m.
    let q = one_met left site (stored x.kind) at form x.made other m in
    (q.0, same_found one None site signals operand made now other (Signal a.0) a.1 over is_made.1 a.2 fits agree (says None site signals operand made other fits is_made.1 q.0))))
determined one left site signals (Cell operand held init at) made now o after kind over h is_made kinded left_is a =
    let t : Translated = translate left site (Cell operand held init at) made in
    let x : Translated = translate None site operand made in
    let b : Translated = translate None site held x.made in
    let k = binary_kinds cell_row (flat_kind signals operand) (flat_kind signals held) kind kinded in
    let over_x : Over signals x.made = over_then signals made x.made over (translate_grows None site operand made) in
    let dx = determined one None site signals operand made now (Signal a.0) a.2 k.0 over h is_made.2 k.2 tt a.4 in
    let begins_x : Agree (next_signal made) now dx.whole = dx.begins dx.whole (λ n below. refl) in
    let held_steps : Steps held dx.whole (Signal a.1) a.3 =
    steps_same signals held is_made.3 now dx.whole (agree_less (length signals) (next_signal made) now dx.whole (over_size signals made over) begins_x) (Signal a.1) a.3 a.5 in
    let db = determined one None site signals held x.made dx.whole (Signal a.1) a.3 k.1 over_x dx.kinds is_made.3 k.3 tt held_steps in
    let begins_b : Agree (next_signal x.made) dx.whole db.whole = db.begins db.whole (λ n below. refl) in
    let grows_x : length made.signals ≤ length x.made.signals = grows_size made x.made (translate_grows None site operand made) in
    let grows_b : length x.made.signals ≤ length b.made.signals = grows_size x.made b.made (translate_grows None site held x.made) in
    let x_shape : is_fixed x.operand ≡ false = is_fixed_where None site operand made ∙ is_made.0 in
    let b_shape : is_fixed b.operand ≡ false = is_fixed_where None site held x.made ∙ is_made.1 in
    let v : Seen = held_value init a.0 a.1 in
    let left_x = left_later left (next_signal made) (next_signal x.made) now dx.whole (Signal v) grows_x begins_x (subst (LeftIs left (next_signal made) now) a.6 left_is) in
    let left_b = left_later left (next_signal x.made) (next_signal b.made) dx.whole db.whole (Signal v) grows_b begins_b left_x in
    let suits : Suits signals now = made_fits signals made now over h in
    let x_kind : x.kind ≡ k.0 = kind_is site signals operand made k.0 over k.2 in
    let init_is : IsValue Bounded (stored x.kind) init = rw x_kind (init_kind signals operand k.0 init k.2 is_made.4) in
    let v_kind : IsOfKind Bounded (stored x.kind) v =
    rw x_kind (held_kind (stored k.0) init a.0 a.1 (init_kind signals operand k.0 init k.2 is_made.4) (stored_kind k.0 a.0 (has_kind signals now suits operand (Signal a.0) a.2 k.0 is_made.2 k.2 a.4))) in
    let g : Determined t b.made db.whole (Signal v) =
    cell_determined left site init at x b db.whole a.0 a.1 db.kinds init_is v_kind left_b
    (λ other agree. same_seen (seen_at other (signal_in x.operand).0) a.0 (sym (found_signal other x.operand x_shape) ∙ dx.found other (db.begins other agree)))
    (λ other agree. same_seen (seen_at other (signal_in b.operand).0) a.1 (sym (found_signal other b.operand b_shape) ∙ db.found other agree)) in
    subst (λ p. Determined t made now p) (sym a.6)
    (then_determined x t made now (Signal a.0) (Signal v) dx
    (then_determined b t x.made dx.whole (Signal a.1) (Signal v) db g
    (λ other fits agree m.
    let q = cell_says left site init at x b other m in
    (q.0, same_found one None site signals held x.made dx.whole other (Signal a.1) a.3 over_x is_made.3 held_steps fits agree (says None site signals held x.made other fits is_made.3 q.0))))
    (λ other fits agree m.
    let q = cell_says left site init at x b other m in
    let s = says None site signals held x.made other fits is_made.3 q.0 in
    (s.before, same_found one None site signals operand made now other (Signal a.0) a.2 over is_made.2 a.4 fits agree (says None site signals operand made other fits is_made.2 s.before))))
