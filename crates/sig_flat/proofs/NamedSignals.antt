-- The equations of a kernel name signals that are there.
use Rattle.sig_flat.proofs.Common.{◌≡◌, ◌≤◌, ◌<◌, ◌+◌, ◌&&◌, ℕ, suc, ℤ, pos, true, List, [], ◌∷◌, Option, None, Some, length, refl, ap, ◌∙◌, arith, lt-ltb, AllPass-from_list_all, AllByRecursion, AllPass, list_all, Kind, Boolean, Event, SigId, Span, UnOp, WhenOf, Clock, BinOp, Default as DefaultOf, When as Sampled, Plus, Meet, Less, FlatExpression, SigOf, Const as ConstOf, Unary, Binary, DelayOf, Cell, FlatEquation, Defines, Equal, FlatBody, unary_row, binary_row, kind_of_result, stored, operands_of, target_of, form_within, operand_within, target_within, Equation, Id, Not as Negation, Operand, Sig, Form, Fun, Delay, WhenConst, Sync, EventOf, Site, Made, Translated, Together, with_signal, with_equation, with_own, with_clocks, own, next, by_one, unary_form, sampled_form, binary_form, kind_at, cluster_at, signal_in, signal_id, less, binary, cell, translate, operands_from, with_syncs, with_all_syncs, with_flat_equation, with_flat_equations, made_of, kernel_of, NamesBelow, IsBelow, NamesItsSignals, all_added, all_so, clocked}
use Rattle.sig_kernel.specs.declared.equation.Operand.TheVariants.{Const}
use Rattle.sig_kernel.specs.declared.equation.Form.TheVariants.{When, Default}
use Rattle.sig_flat.proofs.FewEquations.{signal_more, clocks_more}
use Rattle.sig_flat.proofs.Sizes.{own_no_less, translate_no_less, operands_no_less, equation_no_less}

abbrev OperandLow : ℕ → Operand → Type 0
OperandLow n (Sig x) = x.0 < n
OperandLow n (Const c) = Unit {0}

abbrev TargetLow : ℕ → Option SigId → Type 0
TargetLow n None = Unit {0}
TargetLow n (Some y) = y.0 < n

abbrev LeftLow : ℕ → Option ℕ → Type 0
LeftLow n None = Unit {0}
LeftLow n (Some left) = left < n

record FormLow (n : ℕ) (form : Form) : Type 0 where
  target : TargetLow n (target_of form)
  operands : AllByRecursion (OperandLow n) (operands_of form)

abbrev IsLow : Made → Type 0
IsLow made = AllByRecursion (λ (q : Equation). FormLow (length made.signals) q.form) made.equations

-- what is low for a count is low for a greater one
operand_more : (m n : ℕ) (o : Operand) → m ≤ n → OperandLow m o → OperandLow n o
operand_more m n (Sig x) more h = let below : x.0 < m = h in omega arith
operand_more m n (Const c) more h = tt

target_more : (m n : ℕ) (y : Option SigId) → m ≤ n → TargetLow m y → TargetLow n y
target_more m n None more h = tt
target_more m n (Some y) more h = let below : y.0 < m = h in omega arith

left_more : (m n : ℕ) (y : Option ℕ) → m ≤ n → LeftLow m y → LeftLow n y
left_more m n None more h = tt
left_more m n (Some y) more h = let below : y < m = h in omega arith

form_more : (m n : ℕ) (form : Form) → m ≤ n → FormLow m form → FormLow n form
form_more m n form more h = record {
  target = target_more m n (target_of form) more h.target;
  operands = all_so (OperandLow m) (OperandLow n) (λ o. operand_more m n o more) (operands_of form) h.operands;
}

low_added : (made : Made) (at : Span) (form : Form) → IsLow made → FormLow (length made.signals) form → IsLow (with_equation made at form)
low_added made at form low h = all_added (λ (q : Equation). FormLow (length made.signals) q.form) made.equations (record { form = form; at = at }) low h

low_signal : (site : Site) (kind : Kind) (at : Span) (made : Made) → IsLow made → IsLow (with_signal site kind at made)
low_signal site kind at made low =
    let more : length (with_signal site kind at made).signals ≡ length made.signals + 1 = signal_more site kind at made in
    all_so (λ (q : Equation). FormLow (length made.signals) q.form) (λ (q : Equation). FormLow (length (with_signal site kind at made).signals) q.form) (λ q. form_more (length made.signals) (length (with_signal site kind at made).signals) q.form (omega arith)) made.equations low

low_own : (left : Option ℕ) (site : Site) (kind : Kind) (at : Span) (made : Made) → IsLow made → IsLow (with_own left site kind at made)
low_own None site kind at made low = low_signal site kind at made low
low_own (Some left) site kind at made low = low

own_low : (left : Option ℕ) (site : Site) (kind : Kind) (at : Span) (made : Made) → LeftLow (length made.signals) left → own left made < length (with_own left site kind at made).signals
own_low None site kind at made h = let more : length (with_signal site kind at made).signals ≡ length made.signals + 1 = signal_more site kind at made in omega arith
own_low (Some left) site kind at made h = h

signal_is_low : (n : ℕ) (o : Operand) → 0 < n → OperandLow n o → (signal_in o).0 < n
signal_is_low n (Sig x) some h = h
signal_is_low n (Const c) some h = some

-- a translation, what it adds to, and what is low
record Good (t : Translated) : Type 0 where
  low : IsLow t.made
  operand : OperandLow (length t.made.signals) t.operand

one_good : (left : Option ℕ) (site : Site) (kind : Kind) (at : Span) (form : SigId → Form) (made : Made) → IsLow made → LeftLow (length made.signals) left
    → ((n : ℕ) (y : SigId) → length made.signals ≤ n → y.0 < n → FormLow n (form y)) → Good (by_one left site kind at form made)
one_good left site kind at form made low left_is forms =
    let below = own_low left site kind at made left_is in
    record {
      low = low_added (with_own left site kind at made) at (form (signal_id (own left made))) (low_own left site kind at made low)
          (forms (length (with_own left site kind at made).signals) (signal_id (own left made)) (own_no_less left site kind at made) below);
      operand = below;
    }

unary_low : (op : UnOp) (n : ℕ) (x : Operand) (y : SigId) → 0 < n → OperandLow n x → y.0 < n → FormLow n (unary_form op x y)
unary_low WhenOf n x y some h k = record { target = k; operands = (tt, (signal_is_low n x some h, tt)) }
unary_low Clock n x y some h k = record { target = k; operands = (signal_is_low n x some h, tt) }
unary_low _ n x y some h k = record { target = k; operands = (h, tt) }

sampled_low : (n : ℕ) (x b : Operand) (y : SigId) → 0 < n → OperandLow n x → OperandLow n b → y.0 < n → FormLow n (sampled_form x b y)
sampled_low n (Sig x) b y some h i k = record { target = k; operands = (h, (signal_is_low n b some i, tt)) }
sampled_low n (Const c) b y some h i k = record { target = k; operands = (tt, (signal_is_low n b some i, tt)) }

binary_low : (op : BinOp) (n : ℕ) (u v : Operand) (y : SigId) → 0 < n → OperandLow n u → OperandLow n v → y.0 < n → FormLow n (binary_form op u v y)
binary_low DefaultOf n u v y some h i k = record { target = k; operands = (signal_is_low n u some h, (signal_is_low n v some i, tt)) }
binary_low Sampled n u v y some h i k = sampled_low n u v y some h i k
binary_low Plus n u v y some h i k = record { target = tt; operands = (k, (k, tt)) }
binary_low Meet n u v y some h i k = record { target = tt; operands = (k, (k, tt)) }
binary_low Less n u v y some h i k = record { target = tt; operands = (k, (k, tt)) }
binary_low _ n u v y some h i k = record { target = k; operands = (h, (i, tt)) }

-- the two clocks of an operator on clocks
low_clocks : (site : Site) (at : Span) (made : Made) → IsLow made → IsLow (with_clocks site at made)
low_clocks site at made low = low_signal site Event at (with_signal site Event at made) (low_signal site Event at made low)

clocked_good : (left : Option ℕ) (site : Site) (at : Span) (last : SigId → SigId → SigId → Form) (u v : Operand) (made : Made)
    → ((n : ℕ) (y e f : SigId) → y.0 < n → e.0 < n → f.0 < n → FormLow n (last y e f)) → 0 < length made.signals → IsLow made → LeftLow (length made.signals) left
    → OperandLow (length made.signals) u → OperandLow (length made.signals) v → Good (clocked left site at last u v made)
clocked_good left site at last u v made last_low some low left_is u_is v_is =
    let clocks : Made = with_clocks site at made in
    let whole : Made = with_own left site Event at clocks in
    let n : ℕ = length whole.signals in
    let e : SigId = signal_id (next made) in
    let f : SigId = signal_id (suc (next made)) in
    let y : SigId = signal_id (own left clocks) in
    let two : length clocks.signals ≡ length made.signals + 2 = clocks_more site at made in
    let more : length clocks.signals ≤ n = own_no_less left site Event at clocks in
    let e_low : e.0 < n = omega arith in
    let f_low : f.0 < n = omega arith in
    let y_low : y.0 < n = own_low left site Event at clocks (left_more (length made.signals) (length clocks.signals) left (omega arith) left_is) in
    let u_low : (signal_in u).0 < n = signal_is_low n u (omega arith) (operand_more (length made.signals) n u (omega arith) u_is) in
    let v_low : (signal_in v).0 < n = signal_is_low n v (omega arith) (operand_more (length made.signals) n v (omega arith) v_is) in
    let start : IsLow whole = low_own left site Event at clocks (low_clocks site at made low) in
    let first : Made = with_equation whole at (EventOf e (signal_in u)) in
    let second : Made = with_equation first at (EventOf f (signal_in v)) in
    let first_low : IsLow first = low_added whole at (EventOf e (signal_in u)) start (record { target = e_low; operands = (u_low, tt) }) in
    let second_low : IsLow second = low_added first at (EventOf f (signal_in v)) first_low (record { target = f_low; operands = (v_low, tt) }) in
    record {
      low = low_added second at (last y e f) second_low (last_low n y e f y_low e_low f_low);
      operand = y_low;
    }

less_good : (left : Option ℕ) (site : Site) (at : Span) (u v : Operand) (made : Made) → 0 < length made.signals → IsLow made → LeftLow (length made.signals) left
    → OperandLow (length made.signals) u → OperandLow (length made.signals) v → Good (less left site at u v made)
less_good left site at u v made some low left_is u_is v_is =
    let clocks : Made = with_clocks site at made in
    let one : Made = with_signal site Boolean at clocks in
    let truths : Made = with_signal site Boolean at one in
    let whole : Made = with_own left site Event at truths in
    let n : ℕ = length whole.signals in
    let e : SigId = signal_id (next made) in
    let f : SigId = signal_id (suc (next made)) in
    let z : SigId = signal_id (next clocks) in
    let w : SigId = signal_id (suc (next clocks)) in
    let y : SigId = signal_id (own left truths) in
    let two : length clocks.signals ≡ length made.signals + 2 = clocks_more site at made in
    let three : length one.signals ≡ length clocks.signals + 1 = signal_more site Boolean at clocks in
    let four : length truths.signals ≡ length one.signals + 1 = signal_more site Boolean at one in
    let more : length truths.signals ≤ n = own_no_less left site Event at truths in
    let e_low : e.0 < n = omega arith in
    let f_low : f.0 < n = omega arith in
    let z_low : z.0 < n = omega arith in
    let w_low : w.0 < n = omega arith in
    let y_low : y.0 < n = own_low left site Event at truths (left_more (length made.signals) (length truths.signals) left (omega arith) left_is) in
    let u_low : (signal_in u).0 < n = signal_is_low n u (omega arith) (operand_more (length made.signals) n u (omega arith) u_is) in
    let v_low : (signal_in v).0 < n = signal_is_low n v (omega arith) (operand_more (length made.signals) n v (omega arith) v_is) in
    let start : IsLow whole = low_own left site Event at truths (low_signal site Boolean at one (low_signal site Boolean at clocks (low_clocks site at made low))) in
    let first : Made = with_equation whole at (EventOf e (signal_in u)) in
    let second : Made = with_equation first at (EventOf f (signal_in v)) in
    let third : Made = with_equation second at (Fun z Negation (Sig f ∷ [])) in
    let fourth : Made = with_equation third at (Default w z e) in
    let first_low : IsLow first = low_added whole at (EventOf e (signal_in u)) start (record { target = e_low; operands = (u_low, tt) }) in
    let second_low : IsLow second = low_added first at (EventOf f (signal_in v)) first_low (record { target = f_low; operands = (v_low, tt) }) in
    let third_low : IsLow third = low_added second at (Fun z Negation (Sig f ∷ [])) second_low (record { target = z_low; operands = (f_low, tt) }) in
    let fourth_low : IsLow fourth = low_added third at (Default w z e) third_low (record { target = w_low; operands = (z_low, (e_low, tt)) }) in
    record {
      low = low_added fourth at (WhenConst y (pos 1) w) fourth_low (record { target = y_low; operands = (tt, (w_low, tt)) });
      operand = y_low;
    }

cell_good : (left : Option ℕ) (site : Site) (init : ℤ) (at : Span) (x b : Translated) → 0 < length b.made.signals → IsLow b.made → LeftLow (length b.made.signals) left
    → OperandLow (length b.made.signals) x.operand → OperandLow (length b.made.signals) b.operand → Good (cell left site init at x b)
cell_good left site init at x b some low left_is x_is b_is =
    let kind : Kind = stored x.kind in
    let kept : Made = with_signal site kind at b.made in
    let whole : Made = with_own left site kind at kept in
    let one : Made = with_signal site Event at whole in
    let two : Made = with_signal site Event at one in
    let all : Made = with_signal site Event at two in
    let n : ℕ = length all.signals in
    let z : SigId = signal_id (next b.made) in
    let y : SigId = signal_id (own left kept) in
    let e : SigId = signal_id (next whole) in
    let w : SigId = signal_id (suc (next whole)) in
    let d : SigId = signal_id (suc (suc (next whole))) in
    let count_kept : length kept.signals ≡ length b.made.signals + 1 = signal_more site kind at b.made in
    let count_whole : length kept.signals ≤ length whole.signals = own_no_less left site kind at kept in
    let count_one : length one.signals ≡ length whole.signals + 1 = signal_more site Event at whole in
    let count_two : length two.signals ≡ length one.signals + 1 = signal_more site Event at one in
    let count_all : n ≡ length two.signals + 1 = signal_more site Event at two in
    let own_is : y.0 < length whole.signals = own_low left site kind at kept (left_more (length b.made.signals) (length kept.signals) left (omega arith) left_is) in
    let z_low : z.0 < n = omega arith in
    let y_low : y.0 < n = omega arith in
    let e_low : e.0 < n = omega arith in
    let w_low : w.0 < n = omega arith in
    let d_low : d.0 < n = omega arith in
    let x_low : (signal_in x.operand).0 < n = signal_is_low n x.operand (omega arith) (operand_more (length b.made.signals) n x.operand (omega arith) x_is) in
    let b_low : (signal_in b.operand).0 < n = signal_is_low n b.operand (omega arith) (operand_more (length b.made.signals) n b.operand (omega arith) b_is) in
    let start : IsLow all = low_signal site Event at two (low_signal site Event at one (low_signal site Event at whole (low_own left site kind at kept (low_signal site kind at b.made low)))) in
    let m1 : Made = with_equation all at (Delay z y init) in
    let m2 : Made = with_equation m1 at (Default y (signal_in x.operand) z) in
    let m3 : Made = with_equation m2 at (EventOf e (signal_in x.operand)) in
    let m4 : Made = with_equation m3 at (WhenConst w (pos 1) (signal_in b.operand)) in
    let m5 : Made = with_equation m4 at (Default d e w) in
    let l1 : IsLow m1 = low_added all at (Delay z y init) start (record { target = z_low; operands = (y_low, (tt, tt)) }) in
    let l2 : IsLow m2 = low_added m1 at (Default y (signal_in x.operand) z) l1 (record { target = y_low; operands = (x_low, (z_low, tt)) }) in
    let l3 : IsLow m3 = low_added m2 at (EventOf e (signal_in x.operand)) l2 (record { target = e_low; operands = (x_low, tt) }) in
    let l4 : IsLow m4 = low_added m3 at (WhenConst w (pos 1) (signal_in b.operand)) l3 (record { target = w_low; operands = (tt, (b_low, tt)) }) in
    let l5 : IsLow m5 = low_added m4 at (Default d e w) l4 (record { target = d_low; operands = (e_low, (w_low, tt)) }) in
    record {
      low = low_added m5 at (Sync y d) l5 (record { target = tt; operands = (y_low, (d_low, tt)) });
      operand = y_low;
    }

abbrev kind_of_row : BinOp → Translated → Translated → Kind
kind_of_row op u v = kind_of_result (binary_row op).result u.kind (Some v.kind)

plain_good : (left : Option ℕ) (site : Site) (op : BinOp) (at : Span) (u v : Translated) → 0 < length v.made.signals → IsLow v.made → LeftLow (length v.made.signals) left
    → OperandLow (length v.made.signals) u.operand → OperandLow (length v.made.signals) v.operand → Good (by_one left site (kind_of_row op u v) at (binary_form op u.operand v.operand) v.made)
plain_good left site op at u v some low left_is u_is v_is = one_good left site (kind_of_row op u v) at (binary_form op u.operand v.operand) v.made low left_is
    (λ n y more below. binary_low op n u.operand v.operand y (omega arith) (operand_more (length v.made.signals) n u.operand more u_is) (operand_more (length v.made.signals) n v.operand more v_is) below)

binary_good : (left : Option ℕ) (site : Site) (op : BinOp) (at : Span) (u v : Translated) → 0 < length v.made.signals → IsLow v.made → LeftLow (length v.made.signals) left
    → OperandLow (length v.made.signals) u.operand → OperandLow (length v.made.signals) v.operand → Good (binary left site op at u v)
binary_good left site Plus at u v some low left_is u_is v_is =
    clocked_good left site at Default u.operand v.operand v.made (λ n y e f own first second. record { target = own; operands = (first, (second, tt)) }) some low left_is u_is v_is
binary_good left site Meet at u v some low left_is u_is v_is =
    clocked_good left site at When u.operand v.operand v.made (λ n y e f own first second. record { target = own; operands = (first, (second, tt)) }) some low left_is u_is v_is
binary_good left site Less at u v some low left_is u_is v_is = less_good left site at u.operand v.operand v.made some low left_is u_is v_is
binary_good left site op at u v some low left_is u_is v_is = plain_good left site op at u v some low left_is u_is v_is

names_more : (m n : ℕ) (e : FlatExpression) → m ≤ n → NamesBelow m e → NamesBelow n e
names_more m n (SigOf number at) more h = let below : number < m = h in omega arith
names_more m n (ConstOf value kind at) more h = h
names_more m n (Unary op operand at) more h = names_more m n operand more h
names_more m n (Binary op first second at) more h = (names_more m n first more h.0, names_more m n second more h.1)
names_more m n (DelayOf operand init at) more h = names_more m n operand more h
names_more m n (Cell operand held init at) more h = (names_more m n operand more h.0, names_more m n held more h.1)

-- the two operands of an operator, one after the other
record Both (made : Made) (u v : Translated) : Type 0 where
  some : 0 < length v.made.signals
  more : length made.signals ≤ length v.made.signals
  low : IsLow v.made
  first : OperandLow (length v.made.signals) u.operand
  second : OperandLow (length v.made.signals) v.operand

unary_good : (left : Option ℕ) (site : Site) (op : UnOp) (at : Span) (n : ℕ) (x : Translated) → 0 < n → n ≤ length x.made.signals → LeftLow n left → Good x
    → Good (by_one left site (kind_of_result (unary_row op).result x.kind None) at (unary_form op x.operand) x.made)
unary_good left site op at n x some count left_is good =
    one_good left site (kind_of_result (unary_row op).result x.kind None) at (unary_form op x.operand) x.made good.low (left_more n (length x.made.signals) left count left_is)
    (λ m y more below. unary_low op m x.operand y (omega arith) (operand_more (length x.made.signals) m x.operand more good.operand) below)

delay_good : (left : Option ℕ) (site : Site) (init : ℤ) (at : Span) (n : ℕ) (x : Translated) → 0 < n → n ≤ length x.made.signals → LeftLow n left → Good x
    → Good (by_one left site (stored x.kind) at (λ y. Delay y (signal_in x.operand) init) x.made)
delay_good left site init at n x some count left_is good =
    one_good left site (stored x.kind) at (λ y. Delay y (signal_in x.operand) init) x.made good.low (left_more n (length x.made.signals) left count left_is)
    (λ m y more below. record { target = below; operands = (signal_is_low m x.operand (omega arith) (operand_more (length x.made.signals) m x.operand more good.operand), (tt, tt)) })

both_good : (made : Made) (u v : Translated) → 0 < length made.signals → length made.signals ≤ length u.made.signals → length u.made.signals ≤ length v.made.signals → Good u → Good v → Both made u v
both_good made u v some one two u_good v_good = record {
  some = omega arith;
  more = omega arith;
  low = v_good.low;
  first = operand_more (length u.made.signals) (length v.made.signals) u.operand two u_good.operand;
  second = v_good.operand;
}

two_good : (left : Option ℕ) (site : Site) (op : BinOp) (at : Span) (made : Made) (u v : Translated) → LeftLow (length made.signals) left → Both made u v → Good (binary left site op at u v)
two_good left site op at made u v left_is both =
    binary_good left site op at u v both.some both.low (left_more (length made.signals) (length v.made.signals) left both.more left_is) both.first both.second

held_good : (left : Option ℕ) (site : Site) (init : ℤ) (at : Span) (made : Made) (x b : Translated) → LeftLow (length made.signals) left → Both made x b → Good (cell left site init at x b)
held_good left site init at made x b left_is both =
    cell_good left site init at x b both.some both.low (left_more (length made.signals) (length b.made.signals) left both.more left_is) both.first both.second

-- an operand behind another one
some_more : (site : Site) (e : FlatExpression) (made : Made) → 0 < length made.signals → 0 < length (translate None site e made).made.signals
some_more site e made some = let count : length made.signals ≤ length (translate None site e made).made.signals = translate_no_less None site e made in omega arith

operand_good : (site : Site) (e : FlatExpression) (made : Made) → 0 < length made.signals → IsLow made → NamesBelow (length made.signals) e → Good (translate None site e made)
operand_good site (SigOf number at) made some low h = record { low = low; operand = h }
operand_good site (ConstOf value kind at) made some low h = record { low = low; operand = tt }
operand_good site (Unary op operand at) made some low h =
    unary_good None site op at (length made.signals) (translate None site operand made) some (translate_no_less None site operand made) tt (operand_good site operand made some low h)
operand_good site (DelayOf operand init at) made some low h =
    delay_good None site init at (length made.signals) (translate None site operand made) some (translate_no_less None site operand made) tt (operand_good site operand made some low h)
operand_good site (Binary op first second at) made some low h =
    let u : Translated = translate None site first made in
    let u_good : Good u = operand_good site first made some low h.0 in
    let v_good : Good (translate None site second u.made) = operand_good site second u.made (some_more site first made some) u_good.low (names_more (length made.signals) (length u.made.signals) second (translate_no_less None site first made) h.1) in
    two_good None site op at made u (translate None site second u.made) tt (both_good made u (translate None site second u.made) some (translate_no_less None site first made) (translate_no_less None site second u.made) u_good v_good)
operand_good site (Cell operand held init at) made some low h =
    let x : Translated = translate None site operand made in
    let x_good : Good x = operand_good site operand made some low h.0 in
    let b_good : Good (translate None site held x.made) = operand_good site held x.made (some_more site operand made some) x_good.low (names_more (length made.signals) (length x.made.signals) held (translate_no_less None site operand made) h.1) in
    held_good None site init at made x (translate None site held x.made) tt (both_good made x (translate None site held x.made) some (translate_no_less None site operand made) (translate_no_less None site held x.made) x_good b_good)

pair_good : (site : Site) (first second : FlatExpression) (made : Made) → 0 < length made.signals → IsLow made → NamesBelow (length made.signals) first → NamesBelow (length made.signals) second
    → Both made (translate None site first made) (translate None site second (translate None site first made).made)
pair_good site first second made some low h k =
    let u : Translated = translate None site first made in
    let u_good : Good u = operand_good site first made some low h in
    both_good made u (translate None site second u.made) some (translate_no_less None site first made) (translate_no_less None site second u.made) u_good
    (operand_good site second u.made (some_more site first made some) u_good.low (names_more (length made.signals) (length u.made.signals) second (translate_no_less None site first made) k))

whole_good : (left : ℕ) (site : Site) (e : FlatExpression) (made : Made) → 0 < length made.signals → IsLow made → left < length made.signals → NamesBelow (length made.signals) e → Good (translate (Some left) site e made)
whole_good left site (SigOf number at) made some low left_is h = one_good (Some left) site (kind_at made.signals left) at (λ y. Fun y Id (Sig (signal_id number) ∷ [])) made low left_is
    (λ n y more below. record { target = below; operands = (operand_more (length made.signals) n (Sig (signal_id number)) more h, tt) })
whole_good left site (ConstOf value kind at) made some low left_is h = record { low = low; operand = tt }
whole_good left site (Unary op operand at) made some low left_is h =
    unary_good (Some left) site op at (length made.signals) (translate None site operand made) some (translate_no_less None site operand made) left_is (operand_good site operand made some low h)
whole_good left site (DelayOf operand init at) made some low left_is h =
    delay_good (Some left) site init at (length made.signals) (translate None site operand made) some (translate_no_less None site operand made) left_is (operand_good site operand made some low h)
whole_good left site (Binary op first second at) made some low left_is h =
    two_good (Some left) site op at made (translate None site first made) (translate None site second (translate None site first made).made) left_is (pair_good site first second made some low h.0 h.1)
whole_good left site (Cell operand held init at) made some low left_is h =
    held_good (Some left) site init at made (translate None site operand made) (translate None site held (translate None site operand made).made) left_is (pair_good site operand held made some low h.0 h.1)

-- signals whose numbers are below the count
abbrev AreBelow : ℕ → List (SigId × Span) → Type 0
AreBelow n signals = AllByRecursion (λ (s : SigId × Span). s.0.0 < n) signals

record AllGood (t : Together) : Type 0 where
  low : IsLow t.made
  signals : AreBelow (length t.made.signals) t.signals

operands_good : (site : Site) (es : List FlatExpression) (made : Made) → 0 < length made.signals → IsLow made → AllByRecursion (NamesBelow (length made.signals)) es → AllGood (operands_from site es made)
operands_good site [] made some low h = record { low = low; signals = tt }
operands_good site (e ∷ es) made some low h =
    let x : Translated = translate None site e made in
    let good : Good x = operand_good site e made some low h.0 in
    let count : length made.signals ≤ length x.made.signals = translate_no_less None site e made in
    let rest : AllGood (operands_from site es x.made) = operands_good site es x.made (omega arith) good.low
    (all_so (NamesBelow (length made.signals)) (NamesBelow (length x.made.signals)) (λ e. names_more (length made.signals) (length x.made.signals) e count) es h.1) in
    let n : ℕ = length (operands_from site es x.made).made.signals in
    let more : length x.made.signals ≤ n = operands_no_less site es x.made in
    record {
      low = rest.low;
      signals = (signal_is_low n x.operand (omega arith) (operand_more (length x.made.signals) n x.operand more good.operand), rest.signals);
    }

syncs_low : (first : SigId) (others : List (SigId × Span)) (made : Made) → IsLow made → first.0 < length made.signals → AreBelow (length made.signals) others → IsLow (with_syncs first others made)
syncs_low first [] made low below h = low
syncs_low first (second ∷ others) made low below h = syncs_low second.0 others (with_equation made second.1 (Sync first second.0))
    (low_added made second.1 (Sync first second.0) low (record { target = tt; operands = (below, (h.0, tt)) })) h.0 h.1

all_syncs_low : (signals : List (SigId × Span)) (made : Made) → IsLow made → AreBelow (length made.signals) signals → IsLow (with_all_syncs signals made)
all_syncs_low [] made low h = low
all_syncs_low (first ∷ others) made low h = syncs_low first.0 others made low h.0 h.1

equation_low : (q : FlatEquation) (made : Made) → 0 < length made.signals → IsLow made → IsBelow (length made.signals) q → IsLow (with_flat_equation q made)
equation_low (Defines left e prefix) made some low h = (whole_good left (record { cluster = cluster_at made.signals left; prefix = prefix }) e made some low h.0 h.1).low
equation_low (Equal operands prefix) made some low h =
    let good : AllGood (operands_from (record { cluster = 0; prefix = prefix }) operands made) = operands_good (record { cluster = 0; prefix = prefix }) operands made some low h in
    all_syncs_low _ _ good.low good.signals

below_more : (m n : ℕ) (q : FlatEquation) → m ≤ n → IsBelow m q → IsBelow n q
below_more m n (Defines left e prefix) more h = (let below : left < m = h.0 in omega arith, names_more m n e more h.1)
below_more m n (Equal operands prefix) more h = all_so (NamesBelow m) (NamesBelow n) (λ e. names_more m n e more) operands h

equations_low : (qs : List FlatEquation) (made : Made) → 0 < length made.signals → IsLow made → AllByRecursion (IsBelow (length made.signals)) qs → IsLow (with_flat_equations qs made)
equations_low [] made some low h = low
equations_low (q ∷ qs) made some low h =
    let count : length made.signals ≤ length (with_flat_equation q made).signals = equation_no_less q made in
    equations_low qs (with_flat_equation q made) (omega arith) (equation_low q made some low h.0)
    (all_so (IsBelow (length made.signals)) (IsBelow (length (with_flat_equation q made).signals)) (λ r. below_more (length made.signals) (length (with_flat_equation q made).signals) r count) qs h.1)

-- the same as tests
operands_pass : (n : ℕ) (os : List Operand) → AllByRecursion (OperandLow n) os → list_all (operand_within n) os ≡ true
operands_pass n [] h = refl
operands_pass n (Sig x ∷ os) h = ap (λ b. b && list_all (operand_within n) os) (lt-ltb x.0 n h.0) ∙ operands_pass n os h.1
operands_pass n (Const c ∷ os) h = operands_pass n os h.1

target_passes : (n : ℕ) (y : Option SigId) → TargetLow n y → target_within n y ≡ true
target_passes n None h = refl
target_passes n (Some y) h = lt-ltb y.0 n h

form_passes : (n : ℕ) (form : Form) → FormLow n form → form_within n form ≡ true
form_passes n form h = ap (λ b. b && list_all (operand_within n) (operands_of form)) (target_passes n (target_of form) h.target) ∙ operands_pass n (operands_of form) h.operands

all_pass : (n : ℕ) (qs : List Equation) → AllByRecursion (λ (q : Equation). FormLow n q.form) qs → list_all (λ (q : Equation). form_within n q.form) qs ≡ true
all_pass n [] h = refl
all_pass n (q ∷ qs) h = ap (λ b. b && list_all (λ (r : Equation). form_within n r.form) qs) (form_passes n q.form h.0) ∙ all_pass n qs h.1

pub within : (flat : FlatBody) → NamesItsSignals flat → AllPass (λ (q : Equation). form_within (length (kernel_of flat).signals) q.form) (kernel_of flat).equations
within flat h =
    let n : ℕ = length (made_of flat).signals in
    let low : IsLow (made_of flat) = equations_low flat.equations (record { signals = flat.signals; equations = [] }) h.some tt h.equations in
    AllPass-from_list_all (λ (q : Equation). form_within n q.form) (made_of flat).equations (all_pass n (made_of flat).equations low)
