-- A translation adds signals behind those that are there.
use Rattle.sig_flat.proofs.Common.{◌≡◌, ◌++◌, ℕ, ℤ, List, [], ◌∷◌, Option, None, Some, refl, sym, ap, ◌∙◌, append_assoc, append-nil, Kind, Boolean, Event, SigId, Signal, Span, IsPrefixOf, BinOp, Plus, Meet, Less, FlatExpression, SigOf, Unary, Binary, DelayOf, Cell, FlatEquation, Defines, Equal, FlatBody, Form, Fun, Delay, Id, Operand, Sig, stored, unary_row, binary_row, kind_of_result, Site, Made, Translated, Together, with_signal, with_equation, with_own, with_clocks, by_one, unary_form, binary_form, kind_at, signal_in, signal_id, less, binary, cell, translate, operands_from, with_syncs, with_all_syncs, with_flat_equation, with_flat_equations, made_of, clocked}
use Rattle.sig_kernel.specs.declared.equation.Form.TheVariants.{When, Default}

pub record Grows (before after : Made) : Type 0 where
  pub more : List Signal
  pub is : after.signals ≡ before.signals ++ more

same : (made : Made) → Grows made made
same made = record { more = []; is = sym (append-nil made.signals) }

pub then : {a b c : Made} → Grows a b → Grows b c → Grows a c
then {a} {b} {c} g h = record {
  more = g.more ++ h.more;
  is = h.is ∙ (ap (λ signals. signals ++ h.more) g.is ∙ append_assoc a.signals g.more h.more);
}

signal_grows : (site : Site) (kind : Kind) (at : Span) (made : Made) → Grows made (with_signal site kind at made)
signal_grows site kind at made = record { more = _; is = refl }

equation_adds_none : (made : Made) (at : Span) (form : Form) → Grows made (with_equation made at form)
equation_adds_none made at form = record { more = []; is = sym (append-nil made.signals) }

pub own_grows : (left : Option ℕ) (site : Site) (kind : Kind) (at : Span) (made : Made) → Grows made (with_own left site kind at made)
own_grows None site kind at made = signal_grows site kind at made
own_grows (Some left) site kind at made = same made

-- equations behind a growth change no signal
as_signals : {a b c : Made} → c.signals ≡ b.signals → Grows a b → Grows a c
as_signals e g = record { more = g.more; is = e ∙ g.is }

pub one_grows : (left : Option ℕ) (site : Site) (kind : Kind) (at : Span) (form : SigId → Form) (made : Made) → Grows made (by_one left site kind at form made).made
one_grows left site kind at form made = as_signals refl (own_grows left site kind at made)

clocks_grow : (site : Site) (at : Span) (made : Made) → Grows made (with_clocks site at made)
clocks_grow site at made = then (signal_grows site Event at made) (signal_grows site Event at (with_signal site Event at made))

clocked_grows : (left : Option ℕ) (site : Site) (at : Span) (last : SigId → SigId → SigId → Form) (u v : Operand) (made : Made) → Grows made (clocked left site at last u v made).made
clocked_grows left site at last u v made = as_signals refl (then (clocks_grow site at made) (own_grows left site Event at (with_clocks site at made)))

less_grows : (left : Option ℕ) (site : Site) (at : Span) (u v : Operand) (made : Made) → Grows made (less left site at u v made).made
less_grows left site at u v made =
    let clocks : Made = with_clocks site at made in
    let one : Made = with_signal site Boolean at clocks in
    let two : Made = with_signal site Boolean at one in
    as_signals refl (then (clocks_grow site at made) (then (signal_grows site Boolean at clocks)
    (then (signal_grows site Boolean at one) (own_grows left site Event at two))))

abbrev kind_of_row : BinOp → Translated → Translated → Kind
kind_of_row op u v = kind_of_result (binary_row op).result u.kind (Some v.kind)

pub binary_grows : (left : Option ℕ) (site : Site) (op : BinOp) (at : Span) (u v : Translated) → Grows v.made (binary left site op at u v).made
binary_grows left site Plus at u v = clocked_grows left site at Default u.operand v.operand v.made
binary_grows left site Meet at u v = clocked_grows left site at When u.operand v.operand v.made
binary_grows left site Less at u v = less_grows left site at u.operand v.operand v.made
binary_grows left site op at u v = one_grows left site (kind_of_row op u v) at (binary_form op u.operand v.operand) v.made

pub cell_grows : (left : Option ℕ) (site : Site) (init : ℤ) (at : Span) (x b : Translated) → Grows b.made (cell left site init at x b).made
cell_grows left site init at x b =
    let kind : Kind = stored x.kind in
    let kept : Made = with_signal site kind at b.made in
    let whole : Made = with_own left site kind at kept in
    let one : Made = with_signal site Event at whole in
    let two : Made = with_signal site Event at one in
    as_signals refl (then (signal_grows site kind at b.made) (then (own_grows left site kind at kept)
    (then (signal_grows site Event at whole) (then (signal_grows site Event at one) (signal_grows site Event at two)))))

pub translate_grows : (left : Option ℕ) (site : Site) (e : FlatExpression) (made : Made) → Grows made (translate left site e made).made
translate_grows (Some left) site (SigOf number at) made = one_grows (Some left) site (kind_at made.signals left) at (λ y. Fun y Id (Sig (signal_id number) ∷ [])) made
translate_grows left site (Unary op operand at) made = let x : Translated = translate None site operand made in
    then (translate_grows None site operand made) (one_grows left site (kind_of_result (unary_row op).result x.kind None) at (unary_form op x.operand) x.made)
translate_grows left site (Binary op first second at) made = let u : Translated = translate None site first made in let v : Translated = translate None site second u.made in
    then (translate_grows None site first made) (then (translate_grows None site second u.made) (binary_grows left site op at u v))
translate_grows left site (DelayOf operand init at) made = let x : Translated = translate None site operand made in
    then (translate_grows None site operand made) (one_grows left site (stored x.kind) at (λ y. Delay y (signal_in x.operand) init) x.made)
translate_grows left site (Cell operand held init at) made = let x : Translated = translate None site operand made in let b : Translated = translate None site held x.made in
    then (translate_grows None site operand made) (then (translate_grows None site held x.made) (cell_grows left site init at x b))
translate_grows _ site _ made = same made

pub operands_grow : (site : Site) (es : List FlatExpression) (made : Made) → Grows made (operands_from site es made).made
operands_grow site [] made = same made
operands_grow site (e ∷ es) made = then (translate_grows None site e made) (operands_grow site es (translate None site e made).made)

pub syncs_grow : (first : SigId) (others : List (SigId × Span)) (made : Made) → Grows made (with_syncs first others made)
syncs_grow first [] made = same made
syncs_grow first (second ∷ others) made = then (equation_adds_none made _ _) (syncs_grow second.0 others _)

pub all_syncs_grow : (signals : List (SigId × Span)) (made : Made) → Grows made (with_all_syncs signals made)
all_syncs_grow [] made = same made
all_syncs_grow (first ∷ others) made = syncs_grow first.0 others made

pub equation_grows : (equation : FlatEquation) (made : Made) → Grows made (with_flat_equation equation made)
equation_grows (Defines left e prefix) made = translate_grows (Some left) _ e made
equation_grows (Equal operands prefix) made = let site : Site = record { cluster = 0; prefix = prefix } in let together : Together = operands_from site operands made in
    then (operands_grow site operands made) (all_syncs_grow together.signals together.made)

pub equations_grow : (equations : List FlatEquation) (made : Made) → Grows made (with_flat_equations equations made)
equations_grow [] made = same made
equations_grow (equation ∷ equations) made = then (equation_grows equation made) (equations_grow equations (with_flat_equation equation made))

pub begins : (flat : FlatBody) → IsPrefixOf flat.signals (made_of flat).signals
begins flat = let g = equations_grow flat.equations (record { signals = flat.signals; equations = [] }) in (g.more, g.is)
