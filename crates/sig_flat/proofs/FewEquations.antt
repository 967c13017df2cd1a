-- A kernel has few equations beside its signals.
use Rattle.sig_flat.proofs.Common.{◌≡◌, ◌+◌, ◌*◌, ◌≤◌, ℕ, suc, ℤ, pos, List, [], ◌∷◌, length, Option, None, Some, refl, ap, arith, length-append, Kind, Boolean, Event, SigId, Span, flat_weight, flat_weights, BinOp, Plus, Meet, Less, FlatExpression, SigOf, Const as ConstOf, Unary, Binary, DelayOf, Cell, FlatEquation, Defines, Equal, FlatBody, unary_row, binary_row, kind_of_result, stored, Id, Not, Operand, Sig, Form, Fun, Delay, WhenConst, Sync, EventOf, Site, Made, Translated, Together, signal_id, signal_in, with_equation, with_signal, with_own, with_clocks, with_clock_equations, by_one, own, next, unary_form, binary_form, kind_at, cluster_at, less, binary, cell, translate, operands_from, with_syncs, with_all_syncs, with_flat_equation, with_flat_equations, kernel_of, clocked}
use Rattle.sig_kernel.specs.declared.equation.Form.TheVariants.{When, Default}

-- at most two equations for each signal that was made, and so many more
record Few (extra : ℕ) (a b : Made) : Type 0 where
  bound : length b.equations + 2 * length a.signals ≤ length a.equations + 2 * length b.signals + extra

same : (made : Made) → Few 0 made made
same made = record { bound = omega arith }

then : {x y : ℕ} {a b c : Made} → Few x a b → Few y b c → Few (x + y) a c
then f g = let first = f.bound in let second = g.bound in record { bound = omega arith }

after : {y : ℕ} {a b c : Made} → Few 0 a b → Few y b c → Few y a c
after f g = let first = f.bound in let second = g.bound in record { bound = omega arith }

less_than : {x y : ℕ} {a b : Made} → x ≤ y → Few x a b → Few y a b
less_than within f = let bound = f.bound in record { bound = omega arith }

pub signal_more : (site : Site) (kind : Kind) (at : Span) (made : Made) → length (with_signal site kind at made).signals ≡ length made.signals + 1
signal_more site kind at made = length-append made.signals _

equation_more : (made : Made) (at : Span) (form : Form) → length (with_equation made at form).equations ≡ length made.equations + 1
equation_more made at form = length-append made.equations _

one_few : (site : Site) (kind : Kind) (at : Span) (form : SigId → Form) (made : Made) → Few 0 made (by_one None site kind at form made).made
one_few site kind at form made =
    let signals = signal_more site kind at made in
    let equations = equation_more (with_signal site kind at made) at (form (signal_id (next made))) in
    record { bound = omega arith }

left_few : (left : ℕ) (site : Site) (kind : Kind) (at : Span) (form : SigId → Form) (made : Made) → Few 1 made (by_one (Some left) site kind at form made).made
left_few left site kind at form made = let equations = equation_more made at (form (signal_id left)) in record { bound = omega arith }

pub clocks_more : (site : Site) (at : Span) (made : Made) → length (with_clocks site at made).signals ≡ length made.signals + 2
clocks_more site at made =
    let one = signal_more site Event at made in
    let two = signal_more site Event at (with_signal site Event at made) in
    omega arith

clock_equations_more : (at : Span) (e : ℕ) (u v : Operand) (made : Made) → length (with_clock_equations at e u v made).equations ≡ length made.equations + 2
clock_equations_more at e u v made =
    let one = equation_more made at (EventOf (signal_id e) (signal_in u)) in
    let two = equation_more (with_equation made at (EventOf (signal_id e) (signal_in u))) at (EventOf (signal_id (suc e)) (signal_in v)) in
    omega arith

own_equations : (left : Option ℕ) (site : Site) (kind : Kind) (at : Span) (made : Made) → length (with_own left site kind at made).equations ≡ length made.equations
own_equations None site kind at made = refl
own_equations (Some left) site kind at made = refl

own_at_least : (left : Option ℕ) (site : Site) (kind : Kind) (at : Span) (made : Made) → length made.signals ≤ length (with_own left site kind at made).signals
own_at_least None site kind at made = let one = signal_more site kind at made in omega arith
own_at_least (Some left) site kind at made = omega arith

clocked_few : (left : Option ℕ) (site : Site) (at : Span) (last : SigId → SigId → SigId → Form) (u v : Operand) (made : Made) → Few 0 made (clocked left site at last u v made).made
clocked_few left site at last u v made =
    let clocks : Made = with_clocks site at made in
    let owned : Made = with_own left site Event at clocks in
    let a = clocks_more site at made in
    let b = own_at_least left site Event at clocks in
    let c = own_equations left site Event at clocks in
    let d = clock_equations_more at (next made) u v owned in
    let e = equation_more (with_clock_equations at (next made) u v owned) at (last (signal_id (own left clocks)) (signal_id (next made)) (signal_id (suc (next made)))) in
    record { bound = omega arith }

less_few : (left : Option ℕ) (site : Site) (at : Span) (u v : Operand) (made : Made) → Few 0 made (less left site at u v made).made
less_few left site at u v made =
    let clocks : Made = with_clocks site at made in
    let z : ℕ = next clocks in
    let first : Made = with_signal site Boolean at clocks in
    let truths : Made = with_signal site Boolean at first in
    let owned : Made = with_own left site Event at truths in
    let q2 : Made = with_clock_equations at (next made) u v owned in
    let q3 : Made = with_equation q2 at (Fun (signal_id z) Not (Sig (signal_id (suc (next made))) ∷ [])) in
    let q4 : Made = with_equation q3 at (Default (signal_id (suc z)) (signal_id z) (signal_id (next made))) in
    let a = clocks_more site at made in
    let t = signal_more site Boolean at clocks in
    let s = signal_more site Boolean at first in
    let b = own_at_least left site Event at truths in
    let c = own_equations left site Event at truths in
    let d = clock_equations_more at (next made) u v owned in
    let e = equation_more q2 at (Fun (signal_id z) Not (Sig (signal_id (suc (next made))) ∷ [])) in
    let f = equation_more q3 at (Default (signal_id (suc z)) (signal_id z) (signal_id (next made))) in
    let g = equation_more q4 at (WhenConst (signal_id (own left truths)) (pos 1) (signal_id (suc z))) in
    record { bound = omega arith }

cell_few : (left : Option ℕ) (site : Site) (init : ℤ) (at : Span) (x b : Translated) → Few 0 b.made (cell left site init at x b).made
cell_few left site init at x b =
    let kind : Kind = stored x.kind in
    let kept : Made = with_signal site kind at b.made in
    let z : SigId = signal_id (next b.made) in
    let y : SigId = signal_id (own left kept) in
    let owned : Made = with_own left site kind at kept in
    let e : SigId = signal_id (next owned) in
    let w : SigId = signal_id (suc (next owned)) in
    let d : SigId = signal_id (suc (suc (next owned))) in
    let one : Made = with_signal site Event at owned in
    let two : Made = with_signal site Event at one in
    let signals : Made = with_signal site Event at two in
    let q1 : Made = with_equation signals at (Delay z y init) in
    let q2 : Made = with_equation q1 at (Default y (signal_in x.operand) z) in
    let q3 : Made = with_equation q2 at (EventOf e (signal_in x.operand)) in
    let q4 : Made = with_equation q3 at (WhenConst w (pos 1) (signal_in b.operand)) in
    let q5 : Made = with_equation q4 at (Default d e w) in
    let s1 = signal_more site kind at b.made in
    let s2 = own_at_least left site kind at kept in
    let s3 = own_equations left site kind at kept in
    let s4 = signal_more site Event at owned in
    let s5 = signal_more site Event at one in
    let s6 = signal_more site Event at two in
    let e1 = equation_more signals at (Delay z y init) in
    let e2 = equation_more q1 at (Default y (signal_in x.operand) z) in
    let e3 = equation_more q2 at (EventOf e (signal_in x.operand)) in
    let e4 = equation_more q3 at (WhenConst w (pos 1) (signal_in b.operand)) in
    let e5 = equation_more q4 at (Default d e w) in
    let e6 = equation_more q5 at (Sync y d) in
    record { bound = omega arith }

abbrev result_of : BinOp → Translated → Translated → Kind
result_of op u v = kind_of_result (binary_row op).result u.kind (Some v.kind)

binary_few : (site : Site) (op : BinOp) (at : Span) (u v : Translated) → Few 0 v.made (binary None site op at u v).made
binary_few site Plus at u v = clocked_few None site at Default u.operand v.operand v.made
binary_few site Meet at u v = clocked_few None site at When u.operand v.operand v.made
binary_few site Less at u v = less_few None site at u.operand v.operand v.made
binary_few site op at u v = one_few site (result_of op u v) at (binary_form op u.operand v.operand) v.made

whole_few : (left : ℕ) (site : Site) (op : BinOp) (at : Span) (u v : Translated) → Few 1 v.made (binary (Some left) site op at u v).made
whole_few left site Plus at u v = less_than (omega arith) (clocked_few (Some left) site at Default u.operand v.operand v.made)
whole_few left site Meet at u v = less_than (omega arith) (clocked_few (Some left) site at When u.operand v.operand v.made)
whole_few left site Less at u v = less_than (omega arith) (less_few (Some left) site at u.operand v.operand v.made)
whole_few left site op at u v = left_few left site (result_of op u v) at (binary_form op u.operand v.operand) v.made

translate_few : (site : Site) (e : FlatExpression) (made : Made) → Few 0 made (translate None site e made).made
translate_few site (Unary op operand at) made =
    let x : Translated = translate None site operand made in
    then (translate_few site operand made) (one_few site (kind_of_result (unary_row op).result x.kind None) at (unary_form op x.operand) x.made)
translate_few site (DelayOf operand init at) made =
    let x : Translated = translate None site operand made in
    then (translate_few site operand made) (one_few site (stored x.kind) at (λ y. Delay y (signal_in x.operand) init) x.made)
translate_few site (Binary op first second at) made =
    let u : Translated = translate None site first made in
    let v : Translated = translate None site second u.made in
    then (translate_few site first made) (then (translate_few site second u.made) (binary_few site op at u v))
translate_few site (Cell operand held init at) made =
    let x : Translated = translate None site operand made in
    let b : Translated = translate None site held x.made in
    then (translate_few site operand made) (then (translate_few site held x.made) (cell_few None site init at x b))
translate_few site _ made = same made

definition_few : (left : ℕ) (site : Site) (e : FlatExpression) (made : Made) → Few 1 made (translate (Some left) site e made).made
definition_few left site (SigOf number at) made = left_few left site (kind_at made.signals left) at (λ y. Fun y Id (Sig (signal_id number) ∷ [])) made
definition_few left site (ConstOf value kind at) made = less_than (omega arith) (same made)
definition_few left site (Unary op operand at) made =
    let x : Translated = translate None site operand made in
    after (translate_few site operand made) (left_few left site (kind_of_result (unary_row op).result x.kind None) at (unary_form op x.operand) x.made)
definition_few left site (DelayOf operand init at) made =
    let x : Translated = translate None site operand made in
    after (translate_few site operand made) (left_few left site (stored x.kind) at (λ y. Delay y (signal_in x.operand) init) x.made)
definition_few left site (Binary op first second at) made =
    let u : Translated = translate None site first made in
    let v : Translated = translate None site second u.made in
    after (translate_few site first made) (after (translate_few site second u.made) (whole_few left site op at u v))
definition_few left site (Cell operand held init at) made =
    let x : Translated = translate None site operand made in
    let b : Translated = translate None site held x.made in
    after (translate_few site operand made) (after (translate_few site held x.made) (less_than {x = 0} {y = 1} (omega arith) (cell_few (Some left) site init at x b)))

operands_few : (site : Site) (es : List FlatExpression) (made : Made) → Few 0 made (operands_from site es made).made
operands_few site [] made = same made
operands_few site (e ∷ es) made = after (translate_few site e made) (operands_few site es (translate None site e made).made)

operands_as_many : (site : Site) (es : List FlatExpression) (made : Made) → length (operands_from site es made).signals ≡ length es
operands_as_many site [] made = refl
operands_as_many site (e ∷ es) made = ap suc (operands_as_many site es (translate None site e made).made)

syncs_few : (first : SigId) (others : List (SigId × Span)) (made : Made) → Few (length others) made (with_syncs first others made)
syncs_few first [] made = same made
syncs_few first (second ∷ others) made =
    let one = equation_more made second.1 (Sync first second.0) in
    let rest = (syncs_few second.0 others (with_equation made second.1 (Sync first second.0))).bound in
    record { bound = omega arith }

all_syncs_few : (n : ℕ) (signals : List (SigId × Span)) (made : Made) → length signals ≤ suc n → Few n made (with_all_syncs signals made)
all_syncs_few n [] made within = less_than (omega arith) (same made)
all_syncs_few n (first ∷ others) made within = less_than (omega arith) (syncs_few first.0 others made)

counted_operands : (es : List FlatExpression) (prefix : List ℕ) → length es ≤ suc (flat_weight (Equal es prefix))
counted_operands [] prefix = omega arith
counted_operands (e ∷ []) prefix = omega arith
counted_operands (e ∷ f ∷ es) prefix = omega arith

equation_few : (q : FlatEquation) (made : Made) → Few (flat_weight q) made (with_flat_equation q made)
equation_few (Defines left e prefix) made = definition_few left (record { cluster = cluster_at made.signals left; prefix = prefix }) e made
equation_few (Equal operands prefix) made =
    let site : Site = record { cluster = 0; prefix = prefix } in
    let together : Together = operands_from site operands made in
    let as_many = operands_as_many site operands made in
    let few = counted_operands operands prefix in
    after (operands_few site operands made) (all_syncs_few (flat_weight (Equal operands prefix)) together.signals together.made (omega arith))

equations_few : (qs : List FlatEquation) (made : Made) → Few (flat_weights qs) made (with_flat_equations qs made)
equations_few [] made = same made
equations_few (q ∷ qs) made = then (equation_few q made) (equations_few qs (with_flat_equation q made))

pub few_equations : (flat : FlatBody)
    → length (kernel_of flat).equations + 2 * length flat.signals ≤ 2 * length (kernel_of flat).signals + flat_weights flat.equations
few_equations flat = let whole = (equations_few flat.equations (record { signals = flat.signals; equations = [] })).bound in omega (arith, whole)
