-- The equations of the kernel of a well-made flat body keep to the table of kinds. What is said of signals is
-- said of the whole kernel's, which those made so far begin.
use Rattle.sig_flat.proofs.Common.{◌≡◌, ◌++◌, ◌&&◌, ℕ, ℤ, Bool, true, false, List, [], ◌∷◌, length, Option, None, Some, refl, sym, ap, subst, ◌∙◌, append_assoc, append-nil, AllPass-from_list_all, AllByRecursion, AllPass, list_all, unwrap_or, Kind, Boolean, Event, SigId, Signal, Span, Bounded, IsPrefixOf, IsValue, kind_numbered, flat_kind, is_constant, Allows, MayBegin, IsMade, IsWhole, IsMadeEquation, UnOp, BinOp, Plus, Meet, Less, FlatExpression, SigOf, Const as ConstOf, Unary, Binary, DelayOf, Cell, FlatEquation, Defines, Equal, FlatBody, FormRow, unary_row, binary_row, cell_row, delay_row, accepts, kind_of_result, stored, Equation, Id, Sig, Fun, Delay, Sync, form_fits, Site, Made, Translated, Together, signal_id, signal_in, with_equation, with_signal, with_own, with_clocks, by_one, unary_form, binary_form, cluster_at, binary, cell, translate, operands_from, with_syncs, with_all_syncs, with_flat_equation, with_flat_equations, made_of, kernel_of}
use Rattle.sig_kernel.specs.declared.equation.Form.TheVariants.{When, Default}
use Rattle.sig_flat.proofs.AddedBehind.{Grows, translate_grows, binary_grows, cell_grows, operands_grow, all_syncs_grow, equation_grows, equations_grow}
use Rattle.sig_flat.proofs.NumberedKinds.{kind_stays, kind_as_made}
use Rattle.sig_flat.proofs.FittingForms.{IsOperandOf, of_signal, of_constant, taken, unary_fits, id_fits, delay_fits, when_fits, default_fits}
use Rattle.sig_flat.proofs.FittingOperators.{before, kind_in_whole, added_kind, LeftTakes, AllFit, fit_added, one_fits, Translates, own_translates, one_kind, two_kinds, signal_operand, binary_one, signal_grows, clocked_all, less_all, cell_all}

-- beginnings of beginnings
pub through : (a b c : List Signal) → IsPrefixOf a b → IsPrefixOf b c → IsPrefixOf a c
through a b c f g = (f.0 ++ g.0, g.1 ∙ (ap (λ signals. signals ++ g.0) f.1 ∙ append_assoc a f.0 g.0))

behind : (signals : List Signal) {a b : Made} → IsPrefixOf signals a.signals → Grows a b → IsPrefixOf signals b.signals
behind signals {a} {b} begins grows = through signals a.signals b.signals begins (grows.more, grows.is)

kind_in_more : (signals more : List Signal) (number : ℕ) (kind : Kind) → IsPrefixOf signals more
    → kind_numbered signals number ≡ Some kind → kind_numbered more number ≡ Some kind
kind_in_more signals more number kind begins is = ap (λ all. kind_numbered all number) begins.1 ∙ kind_stays signals begins.0 number kind is

-- of the kind that was found, and that of the translation
recast : {whole : List Signal} {a b : Kind} {constant : Bool} {t : Translated} → a ≡ b → Translates whole a constant t → Translates whole b constant t
recast {whole} {a} {b} {constant} {t} same is = subst (λ k. Translates whole k constant t) same is

as_found : {whole : List Signal} {kind : Kind} {constant : Bool} {t : Translated} → Translates whole kind constant t → IsOperandOf whole t.kind constant t.operand
as_found {whole} {kind} {constant} {t} is = subst (λ k. IsOperandOf whole k constant t.operand) (sym is.kinded) is.operand

unary_all : (whole : List Signal) (left : Option ℕ) (site : Site) (op : UnOp) (at : Span) (x : Translated)
    → IsPrefixOf (with_own left site (kind_of_result (unary_row op).result x.kind None) at x.made).signals whole
    → LeftTakes whole left (kind_of_result (unary_row op).result x.kind None) → AllFit whole x.made → accepts (unary_row op).operands x.kind None ≡ true
    → IsOperandOf whole x.kind false x.operand
    → AllFit whole (by_one left site (kind_of_result (unary_row op).result x.kind None) at (unary_form op x.operand) x.made).made
unary_all whole left site op at x begins left_takes all accepted operand =
    one_fits whole left site (kind_of_result (unary_row op).result x.kind None) at (unary_form op x.operand) x.made begins left_takes all
    (λ number y. unary_fits whole op (signal_id number) y.wanted x.kind x.operand y.is y.takes_it accepted operand)

delay_all : (whole : List Signal) (left : Option ℕ) (site : Site) (init : ℤ) (at : Span) (x : Translated)
    → IsPrefixOf (with_own left site (stored x.kind) at x.made).signals whole → LeftTakes whole left (stored x.kind) → AllFit whole x.made
    → IsOperandOf whole x.kind false x.operand → IsValue Bounded (stored x.kind) init
    → AllFit whole (by_one left site (stored x.kind) at (λ y. Delay y (signal_in x.operand) init) x.made).made
delay_all whole left site init at x begins left_takes all operand value =
    one_fits whole left site (stored x.kind) at (λ y. Delay y (signal_in x.operand) init) x.made begins left_takes all
    (λ number y. delay_fits whole (signal_id number) y.wanted x.kind x.operand init y.is y.takes_it operand value)

-- two operands that were translated
record Operands (whole : List Signal) (row : FormRow) (c d : Bool) (u v : Translated) : Type 0 where
  all : AllFit whole v.made
  accepted : accepts row.operands u.kind (Some v.kind) ≡ true
  allowed : Allows row.constants c d
  first : IsOperandOf whole u.kind c u.operand
  second : IsOperandOf whole v.kind d v.operand

-- where an operator is one equation
simple_all : (whole : List Signal) (left : Option ℕ) (site : Site) (op : BinOp) (at : Span) (c d : Bool) (u v : Translated)
    → IsPrefixOf (with_own left site (kind_of_result (binary_row op).result u.kind (Some v.kind)) at v.made).signals whole
    → LeftTakes whole left (kind_of_result (binary_row op).result u.kind (Some v.kind)) → Operands whole (binary_row op) c d u v
    → AllFit whole (by_one left site (kind_of_result (binary_row op).result u.kind (Some v.kind)) at (binary_form op u.operand v.operand) v.made).made
simple_all whole left site op at c d u v begins left_takes os =
    one_fits whole left site (kind_of_result (binary_row op).result u.kind (Some v.kind)) at (binary_form op u.operand v.operand) v.made begins left_takes os.all
    (λ number y. binary_one whole op (signal_id number) y.wanted u.kind v.kind u.operand v.operand c d y.is y.takes_it os.accepted os.allowed os.first os.second)

binary_all : (whole : List Signal) (left : Option ℕ) (site : Site) (op : BinOp) (at : Span) (c d : Bool) (u v : Translated)
    → IsPrefixOf (binary left site op at u v).made.signals whole → LeftTakes whole left (kind_of_result (binary_row op).result u.kind (Some v.kind))
    → Operands whole (binary_row op) c d u v → AllFit whole (binary left site op at u v).made
binary_all whole left site Plus at c d u v begins left_takes os =
    clocked_all whole left site at Default u.kind v.kind u.operand v.operand v.made
    (λ y e f w is takes_it first second. default_fits whole y w Event Event (Sig e) (Sig f) is refl takes_it (of_signal e first) (of_signal f second)) begins left_takes os.all (signal_operand os.allowed.0 os.first) (signal_operand os.allowed.1 os.second)
binary_all whole left site Meet at c d u v begins left_takes os =
    clocked_all whole left site at When u.kind v.kind u.operand v.operand v.made
    (λ y e f w is takes_it first second. when_fits whole y w Event Event (Sig e) (Sig f) is takes_it refl (of_signal e first) (of_signal f second)) begins left_takes os.all (signal_operand os.allowed.0 os.first) (signal_operand os.allowed.1 os.second)
binary_all whole left site Less at c d u v begins left_takes os =
    less_all whole left site at u.kind v.kind u.operand v.operand v.made begins left_takes os.all (signal_operand os.allowed.0 os.first) (signal_operand os.allowed.1 os.second)
binary_all whole left site op at c d u v begins left_takes os = simple_all whole left site op at c d u v begins left_takes os

-- the signal of an operator of two operands that defines none
binary_operand : (whole : List Signal) (site : Site) (op : BinOp) (at : Span) (u v : Translated) → IsPrefixOf (binary None site op at u v).made.signals whole
    → AllFit whole (binary None site op at u v).made
    → Translates whole (kind_of_result (binary_row op).result u.kind (Some v.kind)) false (binary None site op at u v)
binary_operand whole site Less at u v begins all = record {
  all = all;
  kinded = refl;
  operand = of_signal _ (added_kind site Event at (with_signal site Boolean at (with_signal site Boolean at (with_clocks site at v.made))) whole begins);
}
binary_operand whole site Plus at u v begins all = record { all = all; kinded = refl; operand = of_signal _ (added_kind site Event at (with_clocks site at v.made) whole begins) }
binary_operand whole site Meet at u v begins all = record { all = all; kinded = refl; operand = of_signal _ (added_kind site Event at (with_clocks site at v.made) whole begins) }
binary_operand whole site op at u v begins all =
    own_translates whole site (kind_of_result (binary_row op).result u.kind (Some v.kind)) at (binary_form op u.operand v.operand) v.made begins all

-- the signal of a `cell` that defines none
cell_operand : (whole : List Signal) (site : Site) (init : ℤ) (at : Span) (x b : Translated) → IsPrefixOf (cell None site init at x b).made.signals whole
    → AllFit whole (cell None site init at x b).made → Translates whole (stored x.kind) false (cell None site init at x b)
cell_operand whole site init at x b begins all =
    let kept : Made = with_signal site (stored x.kind) at b.made in
    let owned : Made = with_signal site (stored x.kind) at kept in
    let one : Made = with_signal site Event at owned in
    let two : Made = with_signal site Event at one in
    let begins_owned = before (signal_grows site Event at owned) (before (signal_grows site Event at one) (before (signal_grows site Event at two) begins)) in
    record { all = all; kinded = refl; operand = of_signal (signal_id (length kept.signals)) (added_kind site (stored x.kind) at kept whole begins_owned) }

-- what begins the whole at each operand
abbrev Begins : Made → List Signal → Type 0
Begins made whole = IsPrefixOf made.signals whole

-- the operands of a form of two, with what their row accepts
gathered : {whole : List Signal} {row : FormRow} {a b : Kind} {c d : Bool} {u v : Translated} → Translates whole a c u → Translates whole b d v
    → accepts row.operands a (Some b) ≡ true → Allows row.constants c d → Operands whole row c d u v
gathered {whole} {row} {a} {b} {c} {d} {u} {v} first second accepted allowed = record {
  all = second.all;
  accepted = ap (λ k. accepts row.operands k (Some v.kind)) first.kinded ∙ (ap (λ k. accepts row.operands a (Some k)) second.kinded ∙ accepted);
  allowed = allowed;
  first = as_found first;
  second = as_found second;
}

-- the kind of a result by what was found
result_found : (row : FormRow) (a b kind : Kind) (u v : Translated) → u.kind ≡ a → v.kind ≡ b → kind_of_result row.result a (Some b) ≡ kind
    → kind_of_result row.result u.kind (Some v.kind) ≡ kind
result_found row a b kind u v first second is =
    ap (λ k. kind_of_result row.result k (Some v.kind)) first ∙ (ap (λ k. kind_of_result row.result a (Some k)) second ∙ is)

-- an init is a value of the kind of what is kept
init_value : (signals : List Signal) (operand : FlatExpression) (x : Translated) (init : ℤ) (first : Kind) → flat_kind signals operand ≡ Some first → x.kind ≡ first
    → MayBegin signals operand init → IsValue Bounded (stored x.kind) init
init_value signals operand x init first is found may =
    let same : may.0 ≡ first = ap (λ o. unwrap_or o first) (sym may.1 ∙ is) in
    subst (λ k. IsValue Bounded (stored k) init) (same ∙ sym found) may.2

pub translate_fits : (site : Site) (e : FlatExpression) (made : Made) (signals whole : List Signal) (kind : Kind) → IsPrefixOf signals made.signals
    → Begins (translate None site e made).made whole → IsMade signals e → flat_kind signals e ≡ Some kind → AllFit whole made
    → Translates whole kind (is_constant e) (translate None site e made)
translate_fits site (SigOf number at) made signals whole kind starts begins is_made is all = record {
  all = all;
  kinded = kind_as_made made.signals number kind (kind_in_more signals made.signals number kind starts is);
  operand = of_signal (signal_id number) (kind_in_whole made.signals whole number kind begins (kind_in_more signals made.signals number kind starts is));
}
translate_fits site (ConstOf value k at) made signals whole kind starts begins is_made is all =
    let same : k ≡ kind = ap (λ o. unwrap_or o kind) is in
    record { all = all; kinded = same; operand = of_constant value (subst (λ l. IsValue Bounded l value) same is_made) }
translate_fits site (Unary op operand at) made signals whole kind starts begins is_made is all =
    let x : Translated = translate None site operand made in
    let kinds = one_kind (unary_row op) (flat_kind signals operand) kind is in
    let result : Kind = kind_of_result (unary_row op).result x.kind None in
    let grows : Grows x.made (with_signal site result at x.made) = signal_grows site result at x.made in
    let found = translate_fits site operand made signals whole kinds.first starts (before grows begins) is_made.1 kinds.is all in
    let accepted = ap (λ k. accepts (unary_row op).operands k None) found.kinded ∙ kinds.accepted in
    let all_of = unary_all whole None site op at x begins tt found.all accepted (signal_operand is_made.0 (as_found found)) in
    recast (ap (λ k. kind_of_result (unary_row op).result k None) found.kinded ∙ kinds.result)
    (own_translates whole site result at (unary_form op x.operand) x.made begins all_of)
translate_fits site (DelayOf operand init at) made signals whole kind starts begins is_made is all =
    let x : Translated = translate None site operand made in
    let kinds = one_kind delay_row (flat_kind signals operand) kind is in
    let found = translate_fits site operand made signals whole kinds.first starts (before (signal_grows site (stored x.kind) at x.made) begins) is_made.1 kinds.is all in
    let value = init_value signals operand x init kinds.first kinds.is found.kinded is_made.2 in
    let all_of = delay_all whole None site init at x begins tt found.all (signal_operand is_made.0 (as_found found)) value in
    recast (ap stored found.kinded ∙ kinds.result)
    (own_translates whole site (stored x.kind) at (λ y. Delay y (signal_in x.operand) init) x.made begins all_of)
translate_fits site (Binary op one two at) made signals whole kind starts begins is_made is all =
    let u : Translated = translate None site one made in
    let v : Translated = translate None site two u.made in
    let kinds = two_kinds (binary_row op) (flat_kind signals one) (flat_kind signals two) kind is in
    let begins_v : Begins v.made whole = before (binary_grows None site op at u v) begins in
    let begins_u : Begins u.made whole = before (translate_grows None site two u.made) begins_v in
    let first = translate_fits site one made signals whole kinds.first starts begins_u is_made.1 kinds.is all in
    let second = translate_fits site two u.made signals whole kinds.second (behind signals starts (translate_grows None site one made)) begins_v is_made.2 kinds.also first.all in
    let os = gathered {row = binary_row op} first second kinds.accepted is_made.0 in
    recast (result_found (binary_row op) kinds.first kinds.second kind u v first.kinded second.kinded kinds.result)
    (binary_operand whole site op at u v begins (binary_all whole None site op at (is_constant one) (is_constant two) u v begins tt os))
translate_fits site (Cell operand held init at) made signals whole kind starts begins is_made is all =
    let x : Translated = translate None site operand made in
    let b : Translated = translate None site held x.made in
    let kinds = two_kinds cell_row (flat_kind signals operand) (flat_kind signals held) kind is in
    let begins_b : Begins b.made whole = before (cell_grows None site init at x b) begins in
    let begins_x : Begins x.made whole = before (translate_grows None site held x.made) begins_b in
    let first = translate_fits site operand made signals whole kinds.first starts begins_x is_made.2 kinds.is all in
    let second = translate_fits site held x.made signals whole kinds.second (behind signals starts (translate_grows None site operand made)) begins_b is_made.3 kinds.also first.all in
    let os = gathered {row = cell_row} first second kinds.accepted (is_made.0, is_made.1) in
    let value = init_value signals operand x init kinds.first kinds.is first.kinded is_made.4 in
    recast (ap stored first.kinded ∙ kinds.result) (cell_operand whole site init at x b begins
    (cell_all whole None site init at b.kind x b begins tt os.all (signal_operand is_made.0 os.first) os.accepted (signal_operand is_made.1 os.second) value))

-- a whole right side
whole_fits : (left : ℕ) (site : Site) (e : FlatExpression) (made : Made) (signals whole : List Signal) (given : Kind) → IsPrefixOf signals made.signals
    → Begins (translate (Some left) site e made).made whole → IsWhole signals e given → LeftTakes whole (Some left) given → AllFit whole made
    → AllFit whole (translate (Some left) site e made).made
whole_fits left site (SigOf number at) made signals whole given starts begins is left_takes all =
    fit_added whole made at (Fun (signal_id left) Id (Sig (signal_id number) ∷ [])) all
    (id_fits whole (signal_id left) left_takes.0 given (Sig (signal_id number)) false left_takes.1 left_takes.2
    (of_signal (signal_id number) (kind_in_whole made.signals whole number given begins (kind_in_more signals made.signals number given starts is.kinded))))
whole_fits left site (ConstOf value k at) made signals whole given starts begins is left_takes all = all
whole_fits left site (Unary op operand at) made signals whole given starts begins is left_takes all =
    let x : Translated = translate None site operand made in
    let kinds = one_kind (unary_row op) (flat_kind signals operand) given is.kinded in
    let found = translate_fits site operand made signals whole kinds.first starts begins is.made.1 kinds.is all in
    let accepted = ap (λ k. accepts (unary_row op).operands k None) found.kinded ∙ kinds.accepted in
    let result_is = ap (λ k. kind_of_result (unary_row op).result k None) found.kinded ∙ kinds.result in
    unary_all whole (Some left) site op at x begins (subst (LeftTakes whole (Some left)) (sym result_is) left_takes) found.all accepted (signal_operand is.made.0 (as_found found))
whole_fits left site (DelayOf operand init at) made signals whole given starts begins is left_takes all =
    let x : Translated = translate None site operand made in
    let kinds = one_kind delay_row (flat_kind signals operand) given is.kinded in
    let found = translate_fits site operand made signals whole kinds.first starts begins is.made.1 kinds.is all in
    let value = init_value signals operand x init kinds.first kinds.is found.kinded is.made.2 in
    let result_is = ap stored found.kinded ∙ kinds.result in
    delay_all whole (Some left) site init at x begins (subst (LeftTakes whole (Some left)) (sym result_is) left_takes) found.all (signal_operand is.made.0 (as_found found)) value
whole_fits left site (Binary op one two at) made signals whole given starts begins is left_takes all =
    let u : Translated = translate None site one made in
    let v : Translated = translate None site two u.made in
    let kinds = two_kinds (binary_row op) (flat_kind signals one) (flat_kind signals two) given is.kinded in
    let begins_v : Begins v.made whole = before (binary_grows (Some left) site op at u v) begins in
    let begins_u : Begins u.made whole = before (translate_grows None site two u.made) begins_v in
    let first = translate_fits site one made signals whole kinds.first starts begins_u is.made.1 kinds.is all in
    let second = translate_fits site two u.made signals whole kinds.second (behind signals starts (translate_grows None site one made)) begins_v is.made.2 kinds.also first.all in
    let os = gathered {row = binary_row op} first second kinds.accepted is.made.0 in
    let result_is = result_found (binary_row op) kinds.first kinds.second given u v first.kinded second.kinded kinds.result in
    binary_all whole (Some left) site op at (is_constant one) (is_constant two) u v begins (subst (LeftTakes whole (Some left)) (sym result_is) left_takes) os
whole_fits left site (Cell operand held init at) made signals whole given starts begins is left_takes all =
    let x : Translated = translate None site operand made in
    let b : Translated = translate None site held x.made in
    let kinds = two_kinds cell_row (flat_kind signals operand) (flat_kind signals held) given is.kinded in
    let begins_b : Begins b.made whole = before (cell_grows (Some left) site init at x b) begins in
    let begins_x : Begins x.made whole = before (translate_grows None site held x.made) begins_b in
    let first = translate_fits site operand made signals whole kinds.first starts begins_x is.made.2 kinds.is all in
    let second = translate_fits site held x.made signals whole kinds.second (behind signals starts (translate_grows None site operand made)) begins_b is.made.3 kinds.also first.all in
    let os = gathered {row = cell_row} first second kinds.accepted (is.made.0, is.made.1) in
    let value = init_value signals operand x init kinds.first kinds.is first.kinded is.made.4 in
    let result_is = ap stored first.kinded ∙ kinds.result in
    cell_all whole (Some left) site init at b.kind x b begins (subst (LeftTakes whole (Some left)) (sym result_is) left_takes) os.all
    (signal_operand is.made.0 os.first) os.accepted (signal_operand is.made.1 os.second) value

-- clock equations
operands_fit : (site : Site) (es : List FlatExpression) (made : Made) (signals whole : List Signal) → IsPrefixOf signals made.signals
    → Begins (operands_from site es made).made whole → AllByRecursion (λ (e : FlatExpression). (kind : Kind) × IsWhole signals e kind) es → AllFit whole made
    → AllFit whole (operands_from site es made).made
operands_fit site [] made signals whole starts begins are all = all
operands_fit site (e ∷ es) made signals whole starts begins are all =
    let x : Translated = translate None site e made in
    let found = translate_fits site e made signals whole are.0.0 starts (before (operands_grow site es x.made) begins) are.0.1.made are.0.1.kinded all in
    operands_fit site es x.made signals whole (behind signals starts (translate_grows None site e made)) begins are.1 found.all

syncs_fit : (whole : List Signal) (first : SigId) (others : List (SigId × Span)) (made : Made) → AllFit whole made → AllFit whole (with_syncs first others made)
syncs_fit whole first [] made all = all
syncs_fit whole first (second ∷ others) made all =
    syncs_fit whole second.0 others (with_equation made second.1 (Sync first second.0)) (fit_added whole made second.1 (Sync first second.0) all refl)

all_syncs_fit : (whole : List Signal) (signals : List (SigId × Span)) (made : Made) → AllFit whole made → AllFit whole (with_all_syncs signals made)
all_syncs_fit whole [] made all = all
all_syncs_fit whole (first ∷ others) made all = syncs_fit whole first.0 others made all

equation_fits : (q : FlatEquation) (made : Made) (signals whole : List Signal) → IsPrefixOf signals made.signals → Begins (with_flat_equation q made) whole
    → IsMadeEquation signals q → AllFit whole made → AllFit whole (with_flat_equation q made)
equation_fits (Defines left e prefix) made signals whole starts begins is all =
    let site : Site = record { cluster = cluster_at made.signals left; prefix = prefix } in
    let first = through signals made.signals whole starts (before (translate_grows (Some left) site e made) begins) in
    whole_fits left site e made signals whole is.1 starts begins is.3 (is.0, kind_in_whole signals whole left is.0 first is.2, taken is.0 is.1 is.4) all
equation_fits (Equal operands prefix) made signals whole starts begins is all =
    let site : Site = record { cluster = 0; prefix = prefix } in
    let together : Together = operands_from site operands made in
    all_syncs_fit whole together.signals together.made
    (operands_fit site operands made signals whole starts (before (all_syncs_grow together.signals together.made) begins) is all)

equations_fit : (qs : List FlatEquation) (made : Made) (signals whole : List Signal) → IsPrefixOf signals made.signals → Begins (with_flat_equations qs made) whole
    → AllByRecursion (IsMadeEquation signals) qs → AllFit whole made → AllFit whole (with_flat_equations qs made)
equations_fit [] made signals whole starts begins are all = all
equations_fit (q ∷ qs) made signals whole starts begins are all =
    equations_fit qs (with_flat_equation q made) signals whole (behind signals starts (equation_grows q made)) begins are.1
    (equation_fits q made signals whole starts (before (equations_grow qs (with_flat_equation q made)) begins) are.0 all)

all_pass : (whole : List Signal) (qs : List Equation) → AllByRecursion (λ (q : Equation). form_fits whole q.form ≡ true) qs
    → list_all (λ (q : Equation). form_fits whole q.form) qs ≡ true
all_pass whole [] all = refl
all_pass whole (q ∷ qs) all = ap (λ b. b && list_all (λ (r : Equation). form_fits whole r.form) qs) all.0 ∙ all_pass whole qs all.1

pub forms_fit : (flat : FlatBody) → AllByRecursion (IsMadeEquation flat.signals) flat.equations
    → AllPass (λ (q : Equation). form_fits (kernel_of flat).signals q.form) (kernel_of flat).equations
forms_fit flat are =
    let start : Made = record { signals = flat.signals; equations = [] } in
    let whole : List Signal = (made_of flat).signals in
    AllPass-from_list_all (λ (q : Equation). form_fits whole q.form) (made_of flat).equations
    (all_pass whole (made_of flat).equations (equations_fit flat.equations start flat.signals whole ([], sym (append-nil flat.signals)) ([], sym (append-nil whole)) are tt))
