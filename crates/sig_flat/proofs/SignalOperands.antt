-- The equations of a kernel have a signal among their operands.
use Rattle.sig_flat.proofs.Common.{◌≡◌, ◌⊎◌, ◌++◌, ◌&&◌, ◌||◌, ℕ, ℤ, true, List, [], ◌∷◌, Option, None, Some, refl, ap, ◌∙◌, inl, inr, AllPass-from_list_all, AllByRecursion, AllPass, list_all, list_any, Kind, SigId, Span, UnOp, WhenOf, Clock, BinOp, Default as DefaultOf, When as Sampled, Plus, Meet, Less, FlatExpression, SigOf, Const as ConstOf, Unary, Binary, DelayOf, Cell, FlatEquation, Defines, Equal, FlatBody, unary_row, binary_row, kind_of_result, stored, operands_of, is_signal, Equation, Id, Operand, Sig, Form, Fun, Delay, Sync, Site, Made, Translated, Together, with_equation, with_own, by_one, unary_form, sampled_form, binary_form, kind_at, cluster_at, own, signal_in, signal_id, binary, cell, translate, operands_from, with_syncs, with_all_syncs, with_flat_equation, with_flat_equations, made_of, kernel_of, IsSignal, Speaks, EquationSpeaks, all_added}
use Rattle.sig_kernel.specs.declared.equation.Operand.TheVariants.{Const}

abbrev Tells : Form → Type 0
Tells form = list_any is_signal (operands_of form) ≡ true

abbrev AllTell : Made → Type 0
AllTell made = AllByRecursion (λ (q : Equation). Tells q.form) made.equations

told : (made : Made) (at : Span) (form : Form) → AllTell made → Tells form → AllTell (with_equation made at form)
told made at form all h = all_added (λ (q : Equation). Tells q.form) made.equations (record { form = form; at = at }) all h

told_list : (qs : List Equation) (q : Equation) → AllByRecursion (λ (r : Equation). Tells r.form) qs → Tells q.form → AllByRecursion (λ (r : Equation). Tells r.form) (qs ++ q ∷ [])
told_list qs q all h = all_added (λ (r : Equation). Tells r.form) qs q all h

told_own : (left : Option ℕ) (site : Site) (kind : Kind) (at : Span) (made : Made) → AllTell made → AllTell (with_own left site kind at made)
told_own None site kind at made all = all
told_own (Some left) site kind at made all = all

told_one : (left : Option ℕ) (site : Site) (kind : Kind) (at : Span) (form : SigId → Form) (made : Made) → AllTell made → ((y : SigId) → Tells (form y)) → AllTell (by_one left site kind at form made).made
told_one left site kind at form made all h = told (with_own left site kind at made) at (form (signal_id (own left made))) (told_own left site kind at made all) (h (signal_id (own left made)))

unary_tells : (op : UnOp) (x : Operand) (y : SigId) → is_signal x ≡ true → Tells (unary_form op x y)
unary_tells WhenOf x y h = refl
unary_tells Clock x y h = refl
unary_tells _ x y h = ap (λ b. b || list_any is_signal []) h

sampled_tells : (x b : Operand) (y : SigId) → Tells (sampled_form x b y)
sampled_tells (Sig x) b y = refl
sampled_tells (Const c) b y = refl

-- one of two operands is a signal
either : (u v : Operand) → (is_signal u ≡ true) ⊎ (is_signal v ≡ true) → list_any is_signal (u ∷ v ∷ []) ≡ true
either (Const c) (Const d) (inl e) = absurd cc
either (Const c) (Const d) (inr e) = absurd cc
either _ _ h = refl

binary_tells : (op : BinOp) (u v : Operand) (y : SigId) → (is_signal u ≡ true) ⊎ (is_signal v ≡ true) → Tells (binary_form op u v y)
binary_tells DefaultOf u v y h = refl
binary_tells Sampled u v y h = sampled_tells u v y
binary_tells Plus u v y h = refl
binary_tells Meet u v y h = refl
binary_tells Less u v y h = refl
binary_tells _ u v y h = either u v h

abbrev kind_of_row : BinOp → Translated → Translated → Kind
kind_of_row op u v = kind_of_result (binary_row op).result u.kind (Some v.kind)

plain_told : (left : Option ℕ) (site : Site) (op : BinOp) (at : Span) (u v : Translated) → AllTell v.made → (is_signal u.operand ≡ true) ⊎ (is_signal v.operand ≡ true)
    → AllTell (by_one left site (kind_of_row op u v) at (binary_form op u.operand v.operand) v.made).made
plain_told left site op at u v all h = told_one left site (kind_of_row op u v) at (binary_form op u.operand v.operand) v.made all (λ y. binary_tells op u.operand v.operand y h)

three_told : (left : Option ℕ) (site : Site) (kind : Kind) (at : Span) (made : Made) (f g h : Form) → AllTell made → Tells f → Tells g → Tells h
    → AllTell (with_equation (with_equation (with_equation (with_own left site kind at made) at f) at g) at h)
three_told left site kind at made f g h all a b c =
    let start : AllTell (with_own left site kind at made) = told_own left site kind at made all in
    let one : AllTell (with_equation (with_own left site kind at made) at f) = told (with_own left site kind at made) at f start a in
    let two : AllTell (with_equation (with_equation (with_own left site kind at made) at f) at g) = told (with_equation (with_own left site kind at made) at f) at g one b in
    told (with_equation (with_equation (with_own left site kind at made) at f) at g) at h two c

binary_told : (left : Option ℕ) (site : Site) (op : BinOp) (at : Span) (u v : Translated) → AllTell v.made → (is_signal u.operand ≡ true) ⊎ (is_signal v.operand ≡ true) → AllTell (binary left site op at u v).made
binary_told left site Less at u v all h = told_list _ _ (told_list _ _ (three_told left site _ at _ _ _ _ all refl refl refl) refl) refl
binary_told left site Plus at u v all h = three_told left site _ at _ _ _ _ all refl refl refl
binary_told left site Meet at u v all h = three_told left site _ at _ _ _ _ all refl refl refl
binary_told left site op at u v all h = plain_told left site op at u v all h

cell_told : (left : Option ℕ) (site : Site) (init : ℤ) (at : Span) (x b : Translated) → AllTell b.made → AllTell (cell left site init at x b).made
cell_told None site init at x b all = told_list _ _ (told_list _ _ (told_list _ _ (told_list _ _ (told_list _ _ (told_list _ _ all refl) refl) refl) refl) refl) refl
cell_told (Some left) site init at x b all = told_list _ _ (told_list _ _ (told_list _ _ (told_list _ _ (told_list _ _ (told_list _ _ all refl) refl) refl) refl) refl) refl

-- what is no constant is a signal
binary_is_one : (site : Site) (op : BinOp) (at : Span) (u v : Translated) → is_signal (binary None site op at u v).operand ≡ true
binary_is_one site Plus at u v = refl
binary_is_one site _ at u v = refl

is_one : (site : Site) (e : FlatExpression) (made : Made) → IsSignal e → is_signal (translate None site e made).operand ≡ true
is_one site (ConstOf value kind at) made h = absurd h
is_one site (Binary op first second at) made h = binary_is_one site op at (translate None site first made) (translate None site second (translate None site first made).made)
is_one site _ made h = refl

one_of : (site : Site) (first second : FlatExpression) (made : Made) → IsSignal first ⊎ IsSignal second
    → (is_signal (translate None site first made).operand ≡ true) ⊎ (is_signal (translate None site second (translate None site first made).made).operand ≡ true)
one_of site first second made (inl h) = inl (is_one site first made h)
one_of site first second made (inr h) = inr (is_one site second (translate None site first made).made h)

operand_told : (site : Site) (e : FlatExpression) (made : Made) → AllTell made → Speaks e → AllTell (translate None site e made).made
operand_told site (Unary op operand at) made all h = let x : Translated = translate None site operand made in
    told_one None site (kind_of_result (unary_row op).result x.kind None) at (unary_form op x.operand) x.made (operand_told site operand made all h.1) (λ y. unary_tells op x.operand y (is_one site operand made h.0))
operand_told site (Binary op first second at) made all h = let u : Translated = translate None site first made in
    binary_told None site op at u (translate None site second u.made) (operand_told site second u.made (operand_told site first made all h.1) h.2) (one_of site first second made h.0)
operand_told site (DelayOf operand init at) made all h = let x : Translated = translate None site operand made in
    told_one None site (stored x.kind) at (λ y. Delay y (signal_in x.operand) init) x.made (operand_told site operand made all h) (λ y. refl)
operand_told site (Cell operand held init at) made all h = let x : Translated = translate None site operand made in
    cell_told None site init at x (translate None site held x.made) (operand_told site held x.made (operand_told site operand made all h.0) h.1)
operand_told site _ made all h = all

whole_told : (left : ℕ) (site : Site) (e : FlatExpression) (made : Made) → AllTell made → Speaks e → AllTell (translate (Some left) site e made).made
whole_told left site (SigOf number at) made all h = told_one (Some left) site (kind_at made.signals left) at (λ y. Fun y Id (Sig (signal_id number) ∷ [])) made all (λ y. refl)
whole_told left site (ConstOf value kind at) made all h = all
whole_told left site (Unary op operand at) made all h = let x : Translated = translate None site operand made in
    told_one (Some left) site (kind_of_result (unary_row op).result x.kind None) at (unary_form op x.operand) x.made (operand_told site operand made all h.1) (λ y. unary_tells op x.operand y (is_one site operand made h.0))
whole_told left site (Binary op first second at) made all h = let u : Translated = translate None site first made in
    binary_told (Some left) site op at u (translate None site second u.made) (operand_told site second u.made (operand_told site first made all h.1) h.2) (one_of site first second made h.0)
whole_told left site (DelayOf operand init at) made all h = let x : Translated = translate None site operand made in
    told_one (Some left) site (stored x.kind) at (λ y. Delay y (signal_in x.operand) init) x.made (operand_told site operand made all h) (λ y. refl)
whole_told left site (Cell operand held init at) made all h = let x : Translated = translate None site operand made in
    cell_told (Some left) site init at x (translate None site held x.made) (operand_told site held x.made (operand_told site operand made all h.0) h.1)

operands_told : (site : Site) (es : List FlatExpression) (made : Made) → AllTell made → AllByRecursion Speaks es → AllTell (operands_from site es made).made
operands_told site [] made all h = all
operands_told site (e ∷ es) made all h = operands_told site es (translate None site e made).made (operand_told site e made all h.0) h.1

syncs_told : (first : SigId) (others : List (SigId × Span)) (made : Made) → AllTell made → AllTell (with_syncs first others made)
syncs_told first [] made all = all
syncs_told first (second ∷ others) made all = syncs_told second.0 others (with_equation made second.1 (Sync first second.0)) (told made second.1 (Sync first second.0) all refl)

all_syncs_told : (signals : List (SigId × Span)) (made : Made) → AllTell made → AllTell (with_all_syncs signals made)
all_syncs_told [] made all = all
all_syncs_told (first ∷ others) made all = syncs_told first.0 others made all

equation_told : (q : FlatEquation) (made : Made) → AllTell made → EquationSpeaks q → AllTell (with_flat_equation q made)
equation_told (Defines left e prefix) made all h = whole_told left (record { cluster = cluster_at made.signals left; prefix = prefix }) e made all h
equation_told (Equal operands prefix) made all h = let t : Together = operands_from (record { cluster = 0; prefix = prefix }) operands made in
    all_syncs_told t.signals t.made (operands_told (record { cluster = 0; prefix = prefix }) operands made all h)

equations_told : (qs : List FlatEquation) (made : Made) → AllTell made → AllByRecursion EquationSpeaks qs → AllTell (with_flat_equations qs made)
equations_told [] made all h = all
equations_told (q ∷ qs) made all h = equations_told qs (with_flat_equation q made) (equation_told q made all h.0) h.1

all_pass : (qs : List Equation) → AllByRecursion (λ (q : Equation). Tells q.form) qs → list_all (λ (q : Equation). list_any is_signal (operands_of q.form)) qs ≡ true
all_pass [] h = refl
all_pass (q ∷ qs) h = ap (λ b. b && list_all (λ (r : Equation). list_any is_signal (operands_of r.form)) qs) h.0 ∙ all_pass qs h.1

pub speak : (flat : FlatBody) → AllByRecursion EquationSpeaks flat.equations → AllPass (λ (q : Equation). list_any is_signal (operands_of q.form)) (kernel_of flat).equations
speak flat h = AllPass-from_list_all (λ (q : Equation). list_any is_signal (operands_of q.form)) (made_of flat).equations
    (all_pass (made_of flat).equations (equations_told flat.equations (record { signals = flat.signals; equations = [] }) tt h))
