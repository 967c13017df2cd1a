-- The equations of operators keep to the table of kinds. What is said of signals is said of the whole kernel's,
-- which those made so far begin.
use Rattle.sig_flat.proofs.Common.{◌≡◌, ◌++◌, ℕ, suc, ℤ, pos, Bool, true, false, List, [], ◌∷◌, length, Option, None, Some, refl, sym, ap, subst, ◌∙◌, append_assoc, if◌then◌else◌, ⊤, none-some, AllByRecursion, unwrap_or, Kind, Integer, Boolean, Event, SigId, Signal, Span, Bounded, IsPrefixOf, IsValue, kind_numbered, Allows, BinOp, Default as DefaultOf, When as Sampled, Plus, Meet, Less, Or as OrOf, Xor as XorOf, And as AndOf, Eq as EqOf, Ne as NeOf, Lt as LtOf, Le as LeOf, Gt as GtOf, Ge as GeOf, FormRow, binary_row, accepts, kind_of_result, merged, unary_kind, binary_kind, stored, Alike, AnyThenTruth, Equation, Not, Operand, Sig, Form, Fun, Delay, WhenConst, Sync, EventOf, form_fits, Site, Made, Translated, signal_id, signal_in, with_equation, with_signal, with_own, with_clocks, with_clock_equations, by_one, own, next, binary_form, less, cell, all_added, one_longer, clocked}
use Rattle.sig_kernel.specs.declared.equation.Form.TheVariants.{Default}
use Rattle.sig_kernel.specs.Table.{kind_at}
use Rattle.sig_flat.proofs.AddedBehind.{Grows, own_grows}
use Rattle.sig_flat.proofs.NumberedKinds.{kind_stays, kind_added, kind_in_kernel}
use Rattle.sig_flat.proofs.FittingForms.{IsOperandOf, of_signal, of_constant, takes, takes_itself, takes_stored, event_fits, when_fits, when_const_fits, default_fits, delay_fits, arithmetic_fits, comparison_fits, connective_fits, equality_fits, not_fits, second_truth}

-- what was made begins what more was made
pub before : {a b : Made} {whole : List Signal} → Grows a b → IsPrefixOf b.signals whole → IsPrefixOf a.signals whole
before {a} {b} {whole} grows begins = (
  grows.more ++ begins.0,
  begins.1 ∙ (ap (λ signals. signals ++ begins.0) grows.is ∙ append_assoc a.signals grows.more begins.0),
)

-- the kind of a number among the first signals is its kind among all
pub kind_in_whole : (signals whole : List Signal) (number : ℕ) (kind : Kind) → IsPrefixOf signals whole
    → kind_numbered signals number ≡ Some kind → kind_at whole (signal_id number) ≡ Some kind
kind_in_whole signals whole number kind begins is =
    kind_in_kernel whole number kind (ap (λ all. kind_numbered all number) begins.1 ∙ kind_stays signals begins.0 number kind is)

-- the signal that was made last
pub added_kind : (site : Site) (kind : Kind) (at : Span) (made : Made) (whole : List Signal) → IsPrefixOf (with_signal site kind at made).signals whole
    → kind_at whole (signal_id (length made.signals)) ≡ Some kind
added_kind site kind at made whole begins =
    kind_in_whole (with_signal site kind at made).signals whole (length made.signals) kind begins (kind_added made.signals [] _)

-- a left side takes what is of this kind
abbrev pub LeftTakes : List Signal → Option ℕ → Kind → Type 0
LeftTakes whole None kind = ⊤
LeftTakes whole (Some left) kind = (wanted : Kind) × (kind_at whole (signal_id left) ≡ Some wanted) × (takes wanted kind ≡ true)

-- the signal that an operator defines takes what is of its kind
pub record OwnTakes (whole : List Signal) (number : ℕ) (kind : Kind) : Type 0 where
  pub wanted : Kind
  pub is : kind_at whole (signal_id number) ≡ Some wanted
  pub takes_it : takes wanted kind ≡ true

own_takes : (left : Option ℕ) (site : Site) (kind : Kind) (at : Span) (made : Made) (whole : List Signal) → IsPrefixOf (with_own left site kind at made).signals whole
    → LeftTakes whole left kind → OwnTakes whole (own left made) kind
own_takes None site kind at made whole begins takes_it = record { wanted = kind; is = added_kind site kind at made whole begins; takes_it = takes_itself kind }
own_takes (Some left) site kind at made whole begins takes_it = record { wanted = takes_it.0; is = takes_it.1; takes_it = takes_it.2 }

-- equations keep to the table
abbrev pub AllFit : List Signal → Made → Type 0
AllFit whole made = AllByRecursion (λ (q : Equation). form_fits whole q.form ≡ true) made.equations

pub fit_added : (whole : List Signal) (made : Made) (at : Span) (form : Form) → AllFit whole made → form_fits whole form ≡ true → AllFit whole (with_equation made at form)
fit_added whole made at form all fits = all_added (λ (q : Equation). form_fits whole q.form ≡ true) made.equations (record { form = form; at = at }) all fits

-- equations and what they define
pub one_fits : (whole : List Signal) (left : Option ℕ) (site : Site) (kind : Kind) (at : Span) (form : SigId → Form) (made : Made)
    → IsPrefixOf (with_own left site kind at made).signals whole → LeftTakes whole left kind → AllFit whole made
    → ((number : ℕ) → OwnTakes whole number kind → form_fits whole (form (signal_id number)) ≡ true)
    → AllFit whole (by_one left site kind at form made).made
one_fits whole None site kind at form made begins left all fits =
    fit_added whole (with_signal site kind at made) at (form (signal_id (own None made))) all (fits (own None made) (own_takes None site kind at made whole begins left))
one_fits whole (Some number) site kind at form made begins left all fits =
    fit_added whole made at (form (signal_id number)) all (fits number (own_takes (Some number) site kind at made whole begins left))

-- what is known of an expression that was translated
pub record Translates (whole : List Signal) (kind : Kind) (constant : Bool) (t : Translated) : Type 0 where
  pub all : AllFit whole t.made
  pub kinded : t.kind ≡ kind
  pub operand : IsOperandOf whole kind constant t.operand

pub own_translates : (whole : List Signal) (site : Site) (kind : Kind) (at : Span) (form : SigId → Form) (made : Made)
    → IsPrefixOf (with_signal site kind at made).signals whole → AllFit whole (by_one None site kind at form made).made
    → Translates whole kind false (by_one None site kind at form made)
own_translates whole site kind at form made begins all = record {
  all = all;
  kinded = refl;
  operand = of_signal (signal_id (length made.signals)) (added_kind site kind at made whole begins);
}

-- the kinds of a form whose kind is there
if_some : (b : Bool) (x k : Kind) → (if b then Some x else None) ≡ Some k → (b ≡ true) × (x ≡ k)
if_some true x k is = (refl, ap (λ o. unwrap_or o k) is)
if_some false x k is = absurd (none-some k is)

pub record OneKind (form : FormRow) (operand : Option Kind) (kind : Kind) : Type 0 where
  pub first : Kind
  pub is : operand ≡ Some first
  pub accepted : accepts form.operands first None ≡ true
  pub result : kind_of_result form.result first None ≡ kind

pub one_kind : (form : FormRow) (operand : Option Kind) (kind : Kind) → unary_kind form operand ≡ Some kind → OneKind form operand kind
one_kind form None kind is = absurd (none-some kind is)
one_kind form (Some first) kind is = let both = if_some (accepts form.operands first None) _ kind is in
    record { first = first; is = refl; accepted = both.0; result = both.1 }

pub record TwoKinds (form : FormRow) (one two : Option Kind) (kind : Kind) : Type 0 where
  pub first : Kind
  pub second : Kind
  pub is : one ≡ Some first
  pub also : two ≡ Some second
  pub accepted : accepts form.operands first (Some second) ≡ true
  pub result : kind_of_result form.result first (Some second) ≡ kind

pub two_kinds : (form : FormRow) (one two : Option Kind) (kind : Kind) → binary_kind form one two ≡ Some kind → TwoKinds form one two kind
two_kinds form (Some first) (Some second) kind is = let both = if_some (accepts form.operands first (Some second)) _ kind is in
    record { first = first; second = second; is = refl; also = refl; accepted = both.0; result = both.1 }
two_kinds form _ _ kind is = absurd (none-some kind is)

-- a signal's operand, where no constant stands
pub signal_operand : {whole : List Signal} {kind : Kind} {constant : Bool} {o : Operand} → constant ≡ false → IsOperandOf whole kind constant o → IsOperandOf whole kind false o
signal_operand {whole} {kind} {constant} {o} is operand = subst (λ b. IsOperandOf whole kind b o) is operand

-- the operators of two operands that are one equation
pub binary_one : (whole : List Signal) (op : BinOp) (y : SigId) (w a b : Kind) (u v : Operand) (c d : Bool) → kind_at whole y ≡ Some w
    → takes w (kind_of_result (binary_row op).result a (Some b)) ≡ true → accepts (binary_row op).operands a (Some b) ≡ true
    → Allows (binary_row op).constants c d → IsOperandOf whole a c u → IsOperandOf whole b d v → form_fits whole (binary_form op u v y) ≡ true
binary_one whole DefaultOf y w a b u v c d is takes_it accepted allowed first second =
    default_fits whole y w a b u v is accepted takes_it (signal_operand allowed.0 first) (signal_operand allowed.1 second)
binary_one whole Sampled y w a b _ v _ d is takes_it accepted allowed (of_signal x x_is) second =
    when_fits whole y w a b (Sig x) v is takes_it (second_truth a b accepted) (of_signal x x_is) (signal_operand allowed second)
binary_one whole Sampled y w a b _ v _ d is takes_it accepted allowed (of_constant k value) second =
    when_const_fits whole y w a b k v is takes_it (second_truth a b accepted) value (signal_operand allowed second)
binary_one whole Plus y w a b u v c d is takes_it accepted allowed first second = refl
binary_one whole Meet y w a b u v c d is takes_it accepted allowed first second = refl
binary_one whole Less y w a b u v c d is takes_it accepted allowed first second = refl
binary_one whole OrOf y w a b u v c d is takes_it accepted allowed first second = connective_fits whole _ y a b w u v refl is takes_it accepted (record { first_constant = c; second_constant = d; first = first; second = second })
binary_one whole XorOf y w a b u v c d is takes_it accepted allowed first second = connective_fits whole _ y a b w u v refl is takes_it accepted (record { first_constant = c; second_constant = d; first = first; second = second })
binary_one whole AndOf y w a b u v c d is takes_it accepted allowed first second = connective_fits whole _ y a b w u v refl is takes_it accepted (record { first_constant = c; second_constant = d; first = first; second = second })
binary_one whole EqOf y w a b u v c d is takes_it accepted allowed first second = equality_fits whole _ y a b w u v refl is takes_it accepted (record { first_constant = c; second_constant = d; first = first; second = second })
binary_one whole NeOf y w a b u v c d is takes_it accepted allowed first second = equality_fits whole _ y a b w u v refl is takes_it accepted (record { first_constant = c; second_constant = d; first = first; second = second })
binary_one whole LtOf y w a b u v c d is takes_it accepted allowed first second = comparison_fits whole _ y a b w u v refl is takes_it accepted (record { first_constant = c; second_constant = d; first = first; second = second })
binary_one whole LeOf y w a b u v c d is takes_it accepted allowed first second = comparison_fits whole _ y a b w u v refl is takes_it accepted (record { first_constant = c; second_constant = d; first = first; second = second })
binary_one whole GtOf y w a b u v c d is takes_it accepted allowed first second = comparison_fits whole _ y a b w u v refl is takes_it accepted (record { first_constant = c; second_constant = d; first = first; second = second })
binary_one whole GeOf y w a b u v c d is takes_it accepted allowed first second = comparison_fits whole _ y a b w u v refl is takes_it accepted (record { first_constant = c; second_constant = d; first = first; second = second })
binary_one whole _ y w a b u v c d is takes_it accepted allowed first second = arithmetic_fits whole _ y a b w u v refl is takes_it accepted (record { first_constant = c; second_constant = d; first = first; second = second })

pub signal_grows : (site : Site) (kind : Kind) (at : Span) (made : Made) → Grows made (with_signal site kind at made)
signal_grows site kind at made = record { more = _; is = refl }

-- the signal behind the one that was made last
second_kind : (site : Site) (first second : Kind) (at : Span) (made : Made) (whole : List Signal)
    → IsPrefixOf (with_signal site second at (with_signal site first at made)).signals whole → kind_at whole (signal_id (suc (length made.signals))) ≡ Some second
second_kind site first second at made whole begins =
    subst (λ n. kind_at whole (signal_id n) ≡ Some second) (one_longer made.signals _) (added_kind site second at (with_signal site first at made) whole begins)

all_own : (left : Option ℕ) (site : Site) (kind : Kind) (at : Span) (made : Made) (whole : List Signal) → AllFit whole made → AllFit whole (with_own left site kind at made)
all_own None site kind at made whole all = all
all_own (Some left) site kind at made whole all = all

-- the operators on clocks
record Clocked (whole : List Signal) (e : ℕ) (a b : Kind) (u v : Operand) : Type 0 where
  e_is : kind_at whole (signal_id e) ≡ Some Event
  f_is : kind_at whole (signal_id (suc e)) ≡ Some Event
  first : IsOperandOf whole a false u
  second : IsOperandOf whole b false v

clock_equations_fit : (whole : List Signal) (at : Span) (e : ℕ) (a b : Kind) (u v : Operand) (made : Made) → Clocked whole e a b u v → AllFit whole made
    → AllFit whole (with_clock_equations at e u v made)
clock_equations_fit whole at e a b u v made clocked all =
    fit_added whole (with_equation made at (EventOf (signal_id e) (signal_in u))) at (EventOf (signal_id (suc e)) (signal_in v))
    (fit_added whole made at (EventOf (signal_id e) (signal_in u)) all (event_fits whole (signal_id e) Event a u clocked.e_is refl clocked.first))
    (event_fits whole (signal_id (suc e)) Event b v clocked.f_is refl clocked.second)

clocked_kinds : (whole : List Signal) (site : Site) (at : Span) (a b : Kind) (u v : Operand) (made : Made) → IsPrefixOf (with_clocks site at made).signals whole
    → IsOperandOf whole a false u → IsOperandOf whole b false v → Clocked whole (next made) a b u v
clocked_kinds whole site at a b u v made begins first second = record {
  e_is = added_kind site Event at made whole (before (signal_grows site Event at (with_signal site Event at made)) begins);
  f_is = second_kind site Event Event at made whole begins;
  first = first;
  second = second;
}

pub clocked_all : (whole : List Signal) (left : Option ℕ) (site : Site) (at : Span) (last : SigId → SigId → SigId → Form) (a b : Kind) (u v : Operand) (made : Made)
    → ((y e f : SigId) (w : Kind) → kind_at whole y ≡ Some w → takes w Event ≡ true → kind_at whole e ≡ Some Event → kind_at whole f ≡ Some Event → form_fits whole (last y e f) ≡ true)
    → IsPrefixOf (clocked left site at last u v made).made.signals whole → LeftTakes whole left Event → AllFit whole made
    → IsOperandOf whole a false u → IsOperandOf whole b false v → AllFit whole (clocked left site at last u v made).made
clocked_all whole left site at last a b u v made fits begins left_takes all first second =
    let clocks : Made = with_clocks site at made in
    let y = own_takes left site Event at clocks whole begins left_takes in
    let c = clocked_kinds whole site at a b u v made (before (own_grows left site Event at clocks) begins) first second in
    fit_added whole (with_clock_equations at (next made) u v (with_own left site Event at clocks)) at (last (signal_id (own left clocks)) (signal_id (next made)) (signal_id (suc (next made))))
    (clock_equations_fit whole at (next made) a b u v (with_own left site Event at clocks) c (all_own left site Event at clocks whole all))
    (fits (signal_id (own left clocks)) (signal_id (next made)) (signal_id (suc (next made))) y.wanted y.is y.takes_it c.e_is c.f_is)

pub less_all : (whole : List Signal) (left : Option ℕ) (site : Site) (at : Span) (a b : Kind) (u v : Operand) (made : Made)
    → IsPrefixOf (less left site at u v made).made.signals whole → LeftTakes whole left Event → AllFit whole made
    → IsOperandOf whole a false u → IsOperandOf whole b false v → AllFit whole (less left site at u v made).made
less_all whole left site at a b u v made begins left_takes all first second =
    let clocks : Made = with_clocks site at made in
    let z : ℕ = next clocks in
    let truths : Made = with_signal site Boolean at (with_signal site Boolean at clocks) in
    let made_own : Made = with_own left site Event at truths in
    let y = own_takes left site Event at truths whole begins left_takes in
    let begins_truths : IsPrefixOf truths.signals whole = before (own_grows left site Event at truths) begins in
    let begins_z = before (signal_grows site Boolean at (with_signal site Boolean at clocks)) begins_truths in
    let z_is = added_kind site Boolean at clocks whole begins_z in
    let w_is = second_kind site Boolean Boolean at clocks whole begins_truths in
    let c = clocked_kinds whole site at a b u v made (before (signal_grows site Boolean at clocks) begins_z) first second in
    let clock_equations : Made = with_clock_equations at (next made) u v made_own in
    let negated : Form = Fun (signal_id z) Not (Sig (signal_id (suc (next made))) ∷ []) in
    let chosen : Form = Default (signal_id (suc z)) (signal_id z) (signal_id (next made)) in
    fit_added whole (with_equation (with_equation clock_equations at negated) at chosen) at (WhenConst (signal_id (own left truths)) (pos 1) (signal_id (suc z)))
    (fit_added whole (with_equation clock_equations at negated) at chosen
    (fit_added whole clock_equations at negated
    (clock_equations_fit whole at (next made) a b u v made_own c (all_own left site Event at truths whole all))
    (not_fits whole (signal_id z) Boolean Event (Sig (signal_id (suc (next made)))) false z_is refl refl (of_signal _ c.f_is)))
    (default_fits whole (signal_id (suc z)) Boolean Boolean Event (Sig (signal_id z)) (Sig (signal_id (next made))) w_is refl refl (of_signal _ z_is) (of_signal _ c.e_is)))
    (when_const_fits whole (signal_id (own left truths)) y.wanted Event Boolean (pos 1) (Sig (signal_id (suc z))) y.is y.takes_it refl refl (of_signal _ w_is))

-- what is kept and what it is merged with
kept_alike : (k : Kind) → accepts Alike k (Some (stored k)) ≡ true
kept_alike Integer = refl
kept_alike _ = refl

kept_merged : (k : Kind) → merged k (stored k) ≡ stored k
kept_merged Integer = refl
kept_merged _ = refl

stored_stored : (k : Kind) → stored (stored k) ≡ stored k
stored_stored Integer = refl
stored_stored _ = refl

third_kind : (site : Site) (first second third : Kind) (at : Span) (made : Made) (whole : List Signal)
    → IsPrefixOf (with_signal site third at (with_signal site second at (with_signal site first at made))).signals whole → kind_at whole (signal_id (suc (suc (length made.signals)))) ≡ Some third
third_kind site first second third at made whole begins =
    subst (λ n. kind_at whole (signal_id (suc n)) ≡ Some third) (one_longer made.signals _) (second_kind site second third at (with_signal site first at made) whole begins)

pub cell_all : (whole : List Signal) (left : Option ℕ) (site : Site) (init : ℤ) (at : Span) (l : Kind) (x b : Translated)
    → IsPrefixOf (cell left site init at x b).made.signals whole → LeftTakes whole left (stored x.kind) → AllFit whole b.made
    → IsOperandOf whole x.kind false x.operand → (accepts AnyThenTruth x.kind (Some l) ≡ true) → IsOperandOf whole l false b.operand → IsValue Bounded (stored x.kind) init
    → AllFit whole (cell left site init at x b).made
cell_all whole left site init at l x b begins left_takes all first accepted second value =
    let kind : Kind = stored x.kind in
    let kept : Made = with_signal site kind at b.made in
    let z : SigId = signal_id (next b.made) in
    let y : SigId = signal_id (own left kept) in
    let owned : Made = with_own left site kind at kept in
    let e : SigId = signal_id (next owned) in
    let w : SigId = signal_id (suc (next owned)) in
    let d : SigId = signal_id (suc (suc (next owned))) in
    let one : Made = with_signal site Event at owned in
    let two : Made = with_signal site Event at one in
    let signals : Made = with_signal site Event at two in
    let begins_two = before (signal_grows site Event at two) begins in
    let begins_one = before (signal_grows site Event at one) begins_two in
    let begins_owned = before (signal_grows site Event at owned) begins_one in
    let begins_kept = before (own_grows left site kind at kept) begins_owned in
    let z_is = added_kind site kind at b.made whole begins_kept in
    let own_is = own_takes left site kind at kept whole begins_owned left_takes in
    let y_is = own_is.is ∙ ap Some (takes_stored own_is.wanted x.kind own_is.takes_it) in
    let e_is = added_kind site Event at owned whole begins_one in
    let w_is = second_kind site Event Event at owned whole begins_two in
    let d_is = third_kind site Event Event Event at owned whole begins in
    let q1 : Made = with_equation signals at (Delay z y init) in
    let q2 : Made = with_equation q1 at (Default y (signal_in x.operand) z) in
    let q3 : Made = with_equation q2 at (EventOf e (signal_in x.operand)) in
    let q4 : Made = with_equation q3 at (WhenConst w (pos 1) (signal_in b.operand)) in
    let q5 : Made = with_equation q4 at (Default d e w) in
    fit_added whole q5 at (Sync y d)
    (fit_added whole q4 at (Default d e w)
    (fit_added whole q3 at (WhenConst w (pos 1) (signal_in b.operand))
    (fit_added whole q2 at (EventOf e (signal_in x.operand))
    (fit_added whole q1 at (Default y (signal_in x.operand) z)
    (fit_added whole signals at (Delay z y init) (all_own left site kind at kept whole all)
    (delay_fits whole z kind kind (Sig y) init z_is (ap (takes kind) (stored_stored x.kind) ∙ takes_itself kind) (of_signal y y_is) (subst (λ k. IsValue Bounded k init) (sym (stored_stored x.kind)) value)))
    (default_fits whole y kind x.kind kind x.operand (Sig z) y_is (kept_alike x.kind) (ap (takes kind) (kept_merged x.kind) ∙ takes_itself kind) first (of_signal z z_is)))
    (event_fits whole e Event x.kind x.operand e_is refl first))
    (when_const_fits whole w Event Event l (pos 1) b.operand w_is refl (second_truth x.kind l accepted) refl second))
    (default_fits whole d Event Event Event (Sig e) (Sig w) d_is refl refl (of_signal e e_is) (of_signal w w_is)))
    refl
