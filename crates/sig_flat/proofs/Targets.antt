-- Which signals the equations of a translation define: each signal that is made, once, and the left side.
use Rattle.sig_flat.proofs.Common.{◌≡◌, ◌++◌, ◌+◌, ℕ, suc, ℤ, pos, false, List, [], ◌∷◌, length, Option, None, Some, refl, sym, ap, ◌∙◌, append_assoc, arith, append-nil, length-append, false≢true, range_with_len, Kind, Boolean, Event, SigId, Span, is_constant, UnOp, NotOf, BinOp, When as Sampled, Plus, Meet, Less, FlatExpression, SigOf, Const as ConstOf, Unary, Binary, DelayOf, Cell, unary_row, binary_row, kind_of_result, stored, Equation, Id, Not, Operand, Sig, Form, Fun, Delay, WhenConst, Sync, EventOf, target_of, Site, Made, Translated, signal_id, signal_in, with_equation, with_signal, with_own, with_clocks, with_clock_equations, by_one, own, next, unary_form, sampled_form, binary_form, kind_at, plus, meet, less, binary, cell, translate, clocked}
use Rattle.sig_kernel.specs.declared.equation.Operand.TheVariants.{Const}
use Rattle.sig_kernel.specs.declared.equation.Form.TheVariants.{When, Default}
use Rattle.sig_flat.proofs.Counts.{range_append}
use Rattle.sig_flat.proofs.FewEquations.{signal_more, clocks_more}

abbrev pub target_list : Option SigId → List ℕ
target_list None = []
target_list (Some y) = y.0 ∷ []

-- the signals that equations define, in their order
abbrev pub targets : List Equation → List ℕ
targets [] = []
targets (q ∷ qs) = target_list (target_of q.form) ++ targets qs

pub targets_added : (qs : List Equation) (q : Equation) → targets (qs ++ q ∷ []) ≡ targets qs ++ target_list (target_of q.form)
targets_added [] q = append-nil (target_list (target_of q.form))
targets_added (r ∷ qs) q = ap (λ l. target_list (target_of r.form) ++ l) (targets_added qs q)
    ∙ sym (append_assoc (target_list (target_of r.form)) (targets qs) (target_list (target_of q.form)))

-- one more equation, which defines y
more : (made : Made) (at : Span) (form : Form) (y : SigId) (start ys : List ℕ) → target_of form ≡ Some y → targets made.equations ≡ start ++ ys
    → targets (with_equation made at form).equations ≡ start ++ (ys ++ y.0 ∷ [])
more made at form y start ys is so_far =
    targets_added made.equations (record { form = form; at = at })
    ∙ (ap (λ o. targets made.equations ++ target_list o) is ∙ (ap (λ l. l ++ y.0 ∷ []) so_far ∙ append_assoc start ys (y.0 ∷ [])))

-- signals that are made are defined, in their order
pub record Plain (a b : Made) : Type 0 where
  pub count : ℕ
  pub signals : length b.signals ≡ length a.signals + count
  pub defined : targets b.equations ≡ targets a.equations ++ range_with_len (length a.signals) count

-- and a left side is defined somewhere between
pub record Around (left : ℕ) (a b : Made) : Type 0 where
  pub first : ℕ
  pub second : ℕ
  pub signals : length b.signals ≡ length a.signals + (first + second)
  pub defined : targets b.equations
      ≡ targets a.equations ++ (range_with_len (length a.signals) first ++ left ∷ range_with_len (length a.signals + first) second)

pub none_made : (made : Made) → Plain made made
none_made made = record { count = 0; signals = omega arith; defined = sym (append-nil (targets made.equations)) }

pub plain_then : {a b c : Made} → Plain a b → Plain b c → Plain a c
plain_then {a} {b} {c} f g =
    let n : ℕ = length a.signals in
    let at_b = f.signals in
    let at_c = g.signals in
    record {
      count = f.count + g.count;
      signals = omega arith;
      defined = g.defined ∙ (ap (λ l. l ++ range_with_len (length b.signals) g.count) f.defined
          ∙ (ap (λ m. (targets a.equations ++ range_with_len n f.count) ++ range_with_len m g.count) at_b
          ∙ (append_assoc (targets a.equations) (range_with_len n f.count) (range_with_len (n + f.count) g.count)
          ∙ ap (λ l. targets a.equations ++ l) (sym (range_append n f.count g.count)))));
    }

plain_around : {left : ℕ} {a b c : Made} → Plain a b → Around left b c → Around left a c
plain_around {left} {a} {b} {c} f g =
    let n : ℕ = length a.signals in
    let at_b = f.signals in
    let at_c = g.signals in
    let there : n + f.count + g.first ≡ n + (f.count + g.first) = omega arith in
    let inner : List ℕ = left ∷ range_with_len (n + f.count + g.first) g.second in
    record {
      first = f.count + g.first;
      second = g.second;
      signals = omega arith;
      defined = g.defined ∙ (ap (λ l. l ++ (range_with_len (length b.signals) g.first ++ left ∷ range_with_len (length b.signals + g.first) g.second)) f.defined
          ∙ (ap (λ m. (targets a.equations ++ range_with_len n f.count) ++ (range_with_len m g.first ++ left ∷ range_with_len (m + g.first) g.second)) at_b
          ∙ (append_assoc (targets a.equations) (range_with_len n f.count) (range_with_len (n + f.count) g.first ++ inner)
          ∙ ap (λ l. targets a.equations ++ l) (sym (append_assoc (range_with_len n f.count) (range_with_len (n + f.count) g.first) inner)
          ∙ (ap (λ l. l ++ inner) (sym (range_append n f.count g.first))
          ∙ ap (λ m. range_with_len n (f.count + g.first) ++ left ∷ range_with_len m g.second) there)))));
    }

-- an operator that is one equation
abbrev Aims : (SigId → Form) → Type 0
Aims form = (y : SigId) → target_of (form y) ≡ Some y

one_plain : (site : Site) (kind : Kind) (at : Span) (form : SigId → Form) (made : Made) → Aims form → Plain made (by_one None site kind at form made).made
one_plain site kind at form made aims = record {
  count = 1;
  signals = length-append made.signals _;
  defined = more (with_signal site kind at made) at (form (signal_id (next made))) (signal_id (next made)) (targets made.equations) [] (aims _) (sym (append-nil (targets made.equations)));
}

one_around : (left : ℕ) (site : Site) (kind : Kind) (at : Span) (form : SigId → Form) (made : Made) → Aims form → Around left made (by_one (Some left) site kind at form made).made
one_around left site kind at form made aims = record {
  first = 0;
  second = 0;
  signals = omega arith;
  defined = more made at (form (signal_id left)) (signal_id left) (targets made.equations) [] (aims _) (sym (append-nil (targets made.equations)));
}

unary_aims : (op : UnOp) (x : Operand) → Aims (unary_form op x)
unary_aims NotOf x y = refl
unary_aims _ x y = refl

sampled_aims : (x b : Operand) → Aims (sampled_form x b)
sampled_aims (Sig x) b y = refl
sampled_aims (Const c) b y = refl

-- numbers, one behind another
two_follow : (n a : ℕ) (rest : List ℕ) → a ≡ n + 1 → n ∷ a ∷ rest ≡ n ∷ (n + 1) ∷ rest
two_follow n a rest is = ap (λ m. n ∷ m ∷ rest) is

three_follow : (n a b : ℕ) (rest : List ℕ) → a ≡ n + 1 → b ≡ n + 1 + 1 → n ∷ a ∷ b ∷ rest ≡ n ∷ (n + 1) ∷ (n + 1 + 1) ∷ rest
three_follow n a b rest is then_is = two_follow n a (b ∷ rest) is ∙ ap (λ l. n ∷ l) (ap (λ m. (n + 1) ∷ m ∷ rest) then_is)

five_follow : (n a b c d : ℕ) → a ≡ n + 1 → b ≡ n + 1 + 1 → c ≡ n + 1 + 1 + 1 → d ≡ n + 1 + 1 + 1 + 1
    → n ∷ a ∷ b ∷ c ∷ d ∷ [] ≡ range_with_len n 5
five_follow n a b c d a_is b_is c_is d_is =
    three_follow n a b (c ∷ d ∷ []) a_is b_is
    ∙ ap (λ l. n ∷ (n + 1) ∷ l) (ap (λ m. (n + 1 + 1) ∷ m ∷ d ∷ []) c_is ∙ ap (λ m. (n + 1 + 1) ∷ (n + 1 + 1 + 1) ∷ m ∷ []) d_is)

own_equations : (left : Option ℕ) (site : Site) (kind : Kind) (at : Span) (made : Made) → (with_own left site kind at made).equations ≡ made.equations
own_equations None site kind at made = refl
own_equations (Some left) site kind at made = refl

clock_targets : (at : Span) (e : ℕ) (u v : Operand) (made : Made) (start : List ℕ) → targets made.equations ≡ start
    → targets (with_clock_equations at e u v made).equations ≡ start ++ e ∷ suc e ∷ []
clock_targets at e u v made start is =
    more (with_equation made at (EventOf (signal_id e) (signal_in u))) at (EventOf (signal_id (suc e)) (signal_in v)) (signal_id (suc e)) start (e ∷ []) refl
    (more made at (EventOf (signal_id e) (signal_in u)) (signal_id e) start [] refl (is ∙ sym (append-nil start)))

clocked_targets : (left : Option ℕ) (site : Site) (at : Span) (last : SigId → SigId → SigId → Form) (u v : Operand) (made : Made) → ((e f : SigId) → Aims (λ y. last y e f))
    → targets (clocked left site at last u v made).made.equations ≡ targets made.equations ++ next made ∷ suc (next made) ∷ own left (with_clocks site at made) ∷ []
clocked_targets left site at last u v made aims =
    let clocks : Made = with_clocks site at made in
    let owned : Made = with_own left site Event at clocks in
    more (with_clock_equations at (next made) u v owned) at (last (signal_id (own left clocks)) (signal_id (next made)) (signal_id (suc (next made))))
    (signal_id (own left clocks)) (targets made.equations) (next made ∷ suc (next made) ∷ []) (aims _ _ _)
    (clock_targets at (next made) u v owned (targets made.equations) (ap targets (own_equations left site Event at clocks)))

less_targets : (left : Option ℕ) (site : Site) (at : Span) (u v : Operand) (made : Made)
    → targets (less left site at u v made).made.equations ≡ targets made.equations ++ next made ∷ suc (next made) ∷ next (with_clocks site at made) ∷ suc (next (with_clocks site at made))
    ∷ own left (with_signal site Boolean at (with_signal site Boolean at (with_clocks site at made))) ∷ []
less_targets left site at u v made =
    let clocks : Made = with_clocks site at made in
    let z : ℕ = next clocks in
    let truths : Made = with_signal site Boolean at (with_signal site Boolean at clocks) in
    let owned : Made = with_own left site Event at truths in
    let q2 : Made = with_clock_equations at (next made) u v owned in
    let q3 : Made = with_equation q2 at (Fun (signal_id z) Not (Sig (signal_id (suc (next made))) ∷ [])) in
    let q4 : Made = with_equation q3 at (Default (signal_id (suc z)) (signal_id z) (signal_id (next made))) in
    let start : List ℕ = targets made.equations in
    let e : ℕ = next made in
    more q4 at (WhenConst (signal_id (own left truths)) (pos 1) (signal_id (suc z))) (signal_id (own left truths)) start (e ∷ suc e ∷ z ∷ suc z ∷ []) refl
    (more q3 at (Default (signal_id (suc z)) (signal_id z) (signal_id e)) (signal_id (suc z)) start (e ∷ suc e ∷ z ∷ []) refl
    (more q2 at (Fun (signal_id z) Not (Sig (signal_id (suc e)) ∷ [])) (signal_id z) start (e ∷ suc e ∷ []) refl
    (clock_targets at e u v owned start (ap targets (own_equations left site Event at truths)))))

cell_targets : (left : Option ℕ) (site : Site) (init : ℤ) (at : Span) (x b : Translated)
    → (let kept : Made = with_signal site (stored x.kind) at b.made in let e : ℕ = next (with_own left site (stored x.kind) at kept) in
    targets (cell left site init at x b).made.equations ≡ targets b.made.equations ++ next b.made ∷ own left kept ∷ e ∷ suc e ∷ suc (suc e) ∷ [])
cell_targets left site init at x b =
    let kind : Kind = stored x.kind in
    let kept : Made = with_signal site kind at b.made in
    let z : ℕ = next b.made in
    let y : ℕ = own left kept in
    let owned : Made = with_own left site kind at kept in
    let e : ℕ = next owned in
    let signals : Made = with_signal site Event at (with_signal site Event at (with_signal site Event at owned)) in
    let start : List ℕ = targets b.made.equations in
    let q1 : Made = with_equation signals at (Delay (signal_id z) (signal_id y) init) in
    let q2 : Made = with_equation q1 at (Default (signal_id y) (signal_in x.operand) (signal_id z)) in
    let q3 : Made = with_equation q2 at (EventOf (signal_id e) (signal_in x.operand)) in
    let q4 : Made = with_equation q3 at (WhenConst (signal_id (suc e)) (pos 1) (signal_in b.operand)) in
    let q5 : Made = with_equation q4 at (Default (signal_id (suc (suc e))) (signal_id e) (signal_id (suc e))) in
    let five = more q4 at (Default (signal_id (suc (suc e))) (signal_id e) (signal_id (suc e))) (signal_id (suc (suc e))) start (z ∷ y ∷ e ∷ suc e ∷ []) refl
    (more q3 at (WhenConst (signal_id (suc e)) (pos 1) (signal_in b.operand)) (signal_id (suc e)) start (z ∷ y ∷ e ∷ []) refl
    (more q2 at (EventOf (signal_id e) (signal_in x.operand)) (signal_id e) start (z ∷ y ∷ []) refl
    (more q1 at (Default (signal_id y) (signal_in x.operand) (signal_id z)) (signal_id y) start (z ∷ []) refl
    (more signals at (Delay (signal_id z) (signal_id y) init) (signal_id z) start [] refl
    (ap targets (own_equations left site kind at kept) ∙ sym (append-nil start)))))) in
    targets_added q5.equations (record { form = Sync (signal_id y) (signal_id (suc (suc e))); at = at }) ∙ (append-nil (targets q5.equations) ∙ five)

-- what the operators on clocks define
own_more : (site : Site) (kind : Kind) (at : Span) (made : Made) → length (with_own None site kind at made).signals ≡ length made.signals + 1
own_more site kind at made = signal_more site kind at made

clock_plain : (site : Site) (at : Span) (made after : Made) → after.signals ≡ (with_own None site Event at (with_clocks site at made)).signals
    → targets after.equations ≡ targets made.equations ++ next made ∷ suc (next made) ∷ next (with_clocks site at made) ∷ [] → Plain made after
clock_plain site at made after same defined =
    let n : ℕ = length made.signals in
    let clocks = clocks_more site at made in
    let owned = own_more site Event at (with_clocks site at made) in
    let count = ap length same in
    let second : suc n ≡ n + 1 = omega arith in
    record {
      count = 3;
      signals = omega arith;
      defined = defined ∙ ap (λ l. targets made.equations ++ l) (three_follow n (suc n) (next (with_clocks site at made)) [] second (omega arith));
    }

clock_around : (left : ℕ) (site : Site) (at : Span) (made after : Made) → after.signals ≡ (with_clocks site at made).signals
    → targets after.equations ≡ targets made.equations ++ next made ∷ suc (next made) ∷ left ∷ [] → Around left made after
clock_around left site at made after same defined =
    let n : ℕ = length made.signals in
    let clocks = clocks_more site at made in
    let count = ap length same in
    record {
      first = 2;
      second = 0;
      signals = omega arith;
      defined = defined ∙ ap (λ l. targets made.equations ++ l) (two_follow n (suc n) (left ∷ []) (omega arith));
    }

truths_more : (site : Site) (at : Span) (made : Made) → length (with_signal site Boolean at (with_signal site Boolean at made)).signals ≡ length made.signals + 2
truths_more site at made =
    let one = signal_more site Boolean at made in
    let two = signal_more site Boolean at (with_signal site Boolean at made) in
    omega arith

less_plain : (site : Site) (at : Span) (u v : Operand) (made : Made) → Plain made (less None site at u v made).made
less_plain site at u v made =
    let n : ℕ = length made.signals in
    let clocks : Made = with_clocks site at made in
    let truths : Made = with_signal site Boolean at (with_signal site Boolean at clocks) in
    let a = clocks_more site at made in
    let b = truths_more site at clocks in
    let c = own_more site Event at truths in
    record {
      count = 5;
      signals = omega arith;
      defined = less_targets None site at u v made ∙ ap (λ l. targets made.equations ++ l)
          (five_follow n (suc n) (next clocks) (suc (next clocks)) (next truths) (omega arith) (omega arith) (omega arith) (omega arith));
    }

less_around : (left : ℕ) (site : Site) (at : Span) (u v : Operand) (made : Made) → Around left made (less (Some left) site at u v made).made
less_around left site at u v made =
    let n : ℕ = length made.signals in
    let clocks : Made = with_clocks site at made in
    let truths : Made = with_signal site Boolean at (with_signal site Boolean at clocks) in
    let a = clocks_more site at made in
    let b = truths_more site at clocks in
    let z_is : next clocks ≡ n + 1 + 1 = omega arith in
    let w_is : suc (next clocks) ≡ n + 1 + 1 + 1 = omega arith in
    record {
      first = 4;
      second = 0;
      signals = omega arith;
      defined = less_targets (Some left) site at u v made ∙ ap (λ l. targets made.equations ++ l)
          (three_follow n (suc n) (next clocks) (suc (next clocks) ∷ left ∷ []) (omega arith) z_is ∙ ap (λ m. n ∷ (n + 1) ∷ (n + 1 + 1) ∷ m ∷ left ∷ []) w_is);
    }

events_more : (site : Site) (at : Span) (made : Made)
    → length (with_signal site Event at (with_signal site Event at (with_signal site Event at made))).signals ≡ length made.signals + 3
events_more site at made =
    let two = clocks_more site at made in
    let three = signal_more site Event at (with_clocks site at made) in
    omega arith

cell_plain : (site : Site) (init : ℤ) (at : Span) (x b : Translated) → Plain b.made (cell None site init at x b).made
cell_plain site init at x b =
    let n : ℕ = length b.made.signals in
    let kept : Made = with_signal site (stored x.kind) at b.made in
    let owned : Made = with_signal site (stored x.kind) at kept in
    let e : ℕ = next owned in
    let k = signal_more site (stored x.kind) at b.made in
    let o = signal_more site (stored x.kind) at kept in
    let s = events_more site at owned in
    record {
      count = 5;
      signals = omega arith;
      defined = cell_targets None site init at x b ∙ ap (λ l. targets b.made.equations ++ l)
          (five_follow n (next kept) e (suc e) (suc (suc e)) (omega arith) (omega arith) (omega arith) (omega arith));
    }

cell_around : (left : ℕ) (site : Site) (init : ℤ) (at : Span) (x b : Translated) → Around left b.made (cell (Some left) site init at x b).made
cell_around left site init at x b =
    let n : ℕ = length b.made.signals in
    let kept : Made = with_signal site (stored x.kind) at b.made in
    let e : ℕ = next kept in
    let k = signal_more site (stored x.kind) at b.made in
    let s = events_more site at kept in
    let e_is : e ≡ n + 1 = omega arith in
    let w_is : suc e ≡ n + 1 + 1 = omega arith in
    let d_is : suc (suc e) ≡ n + 1 + 1 + 1 = omega arith in
    record {
      first = 1;
      second = 3;
      signals = omega arith;
      defined = cell_targets (Some left) site init at x b ∙ ap (λ l. targets b.made.equations ++ n ∷ left ∷ l)
          (ap (λ m. m ∷ suc e ∷ suc (suc e) ∷ []) e_is ∙ (ap (λ m. (n + 1) ∷ m ∷ suc (suc e) ∷ []) w_is ∙ ap (λ m. (n + 1) ∷ (n + 1 + 1) ∷ m ∷ []) d_is));
    }

-- an operator of two operands
abbrev result_of : BinOp → Translated → Translated → Kind
result_of op u v = kind_of_result (binary_row op).result u.kind (Some v.kind)

binary_plain : (site : Site) (op : BinOp) (at : Span) (u v : Translated) → Plain v.made (binary None site op at u v).made
binary_plain site Plus at u v = clock_plain site at v.made (plus None site at u.operand v.operand v.made).made refl (clocked_targets None site at Default u.operand v.operand v.made (λ e f y. refl))
binary_plain site Meet at u v = clock_plain site at v.made (meet None site at u.operand v.operand v.made).made refl (clocked_targets None site at When u.operand v.operand v.made (λ e f y. refl))
binary_plain site Less at u v = less_plain site at u.operand v.operand v.made
binary_plain site Sampled at u v = one_plain site (result_of Sampled u v) at (binary_form Sampled u.operand v.operand) v.made (sampled_aims u.operand v.operand)
binary_plain site op at u v = one_plain site (result_of op u v) at (binary_form op u.operand v.operand) v.made (λ y. refl)

binary_around : (left : ℕ) (site : Site) (op : BinOp) (at : Span) (u v : Translated) → Around left v.made (binary (Some left) site op at u v).made
binary_around left site Plus at u v = clock_around left site at v.made (plus (Some left) site at u.operand v.operand v.made).made refl (clocked_targets (Some left) site at Default u.operand v.operand v.made (λ e f y. refl))
binary_around left site Meet at u v = clock_around left site at v.made (meet (Some left) site at u.operand v.operand v.made).made refl (clocked_targets (Some left) site at When u.operand v.operand v.made (λ e f y. refl))
binary_around left site Less at u v = less_around left site at u.operand v.operand v.made
binary_around left site Sampled at u v = one_around left site (result_of Sampled u v) at (binary_form Sampled u.operand v.operand) v.made (sampled_aims u.operand v.operand)
binary_around left site op at u v = one_around left site (result_of op u v) at (binary_form op u.operand v.operand) v.made (λ y. refl)

-- an expression, and a whole right side
pub translate_plain : (site : Site) (e : FlatExpression) (made : Made) → Plain made (translate None site e made).made
translate_plain site (Unary op operand at) made =
    let x : Translated = translate None site operand made in
    plain_then (translate_plain site operand made) (one_plain site (kind_of_result (unary_row op).result x.kind None) at (unary_form op x.operand) x.made (unary_aims op x.operand))
translate_plain site (DelayOf operand init at) made =
    let x : Translated = translate None site operand made in
    plain_then (translate_plain site operand made) (one_plain site (stored x.kind) at (λ y. Delay y (signal_in x.operand) init) x.made (λ y. refl))
translate_plain site (Binary op first second at) made =
    let u : Translated = translate None site first made in
    let v : Translated = translate None site second u.made in
    plain_then (translate_plain site first made) (plain_then (translate_plain site second u.made) (binary_plain site op at u v))
translate_plain site (Cell operand held init at) made =
    let x : Translated = translate None site operand made in
    let b : Translated = translate None site held x.made in
    plain_then (translate_plain site operand made) (plain_then (translate_plain site held x.made) (cell_plain site init at x b))
translate_plain site _ made = none_made made

pub translate_around : (left : ℕ) (site : Site) (e : FlatExpression) (made : Made) → is_constant e ≡ false → Around left made (translate (Some left) site e made).made
translate_around left site (SigOf number at) made signal = one_around left site (kind_at made.signals left) at (λ y. Fun y Id (Sig (signal_id number) ∷ [])) made (λ y. refl)
translate_around left site (ConstOf value kind at) made signal = absurd (false≢true (sym signal))
translate_around left site (Unary op operand at) made signal =
    let x : Translated = translate None site operand made in
    plain_around (translate_plain site operand made) (one_around left site (kind_of_result (unary_row op).result x.kind None) at (unary_form op x.operand) x.made (unary_aims op x.operand))
translate_around left site (DelayOf operand init at) made signal =
    let x : Translated = translate None site operand made in
    plain_around (translate_plain site operand made) (one_around left site (stored x.kind) at (λ y. Delay y (signal_in x.operand) init) x.made (λ y. refl))
translate_around left site (Binary op first second at) made signal =
    let u : Translated = translate None site first made in
    let v : Translated = translate None site second u.made in
    plain_around (translate_plain site first made) (plain_around (translate_plain site second u.made) (binary_around left site op at u v))
translate_around left site (Cell operand held init at) made signal =
    let x : Translated = translate None site operand made in
    let b : Translated = translate None site held x.made in
    plain_around (translate_plain site operand made) (plain_around (translate_plain site held x.made) (cell_around left site init at x b))
