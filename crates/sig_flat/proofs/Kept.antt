-- What holds of each signal that an operator adds to a kernel, and at the place of each equation, holds of all of them.
use Rattle.sig_flat.proofs.Common.{ℕ, ℤ, List, [], ◌∷◌, Option, None, Some, AllByRecursion, Kind, Boolean, Event, SigId, Signal, Span, placed_name, AtOperators, BinOp, Plus, Meet, Less, FlatExpression, SigOf, Const as ConstOf, Unary, Binary, DelayOf, Cell, FlatEquation, Defines, Equal, Equation, Form, Delay, Operand, unary_row, binary_row, kind_of_result, stored, Site, Made, Translated, Together, next, with_signal, with_own, with_clocks, with_clock_equations, with_equation, by_one, unary_form, signal_in, binary, binary_form, cell, cluster_at, place_of, translate, operands_from, with_syncs, with_all_syncs, with_flat_equation, with_flat_equations, all_added}

-- of what was made so far: this of each signal, and that at the place of each equation
pub record Kept (OfSignal : Signal → Type 0) (Holds : Span → Type 0) (made : Made) : Type 0 where
  pub signals : AllByRecursion OfSignal made.signals
  pub equations : AllByRecursion (λ (equation : Equation). Holds equation.at) made.equations

-- what is asked of an equation of the flat body: one thing at the place of each operator, by its copy's prefix, and one at those of whole expressions
abbrev pub Asks : (List ℕ → Span → Type 0) → (Span → Type 0) → FlatEquation → Type 0
Asks At Holds (Defines left e prefix) = Holds (place_of e) × AtOperators (At prefix) e
Asks At Holds (Equal operands prefix) = AllByRecursion (λ e. Holds (place_of e) × AtOperators (At prefix) e) operands

abbrev result_of : BinOp → Translated → Translated → Kind
result_of op u v = kind_of_result (binary_row op).result u.kind (Some v.kind)

-- a signal that is added for an operator is such, and so is the operator's place
module _ (OfSignal : Signal → Type 0) (Holds : Span → Type 0) (At : List ℕ → Span → Type 0)
    (such : (site : Site) (kind : Kind) (at : Span) → At site.prefix at → OfSignal (record { name = placed_name site.prefix at; kind = kind; cluster = site.cluster; at = at }))
    (holds : (prefix : List ℕ) (at : Span) → At prefix at → Holds at) where
  signal_kept : (site : Site) (kind : Kind) (at : Span) (made : Made) → At site.prefix at → Kept OfSignal Holds made → Kept OfSignal Holds (with_signal site kind at made)
  signal_kept site kind at made h kept = record { signals = all_added OfSignal made.signals _ kept.signals (such site kind at h); equations = kept.equations }

  equation_kept : (at : Span) (form : Form) (made : Made) → Holds at → Kept OfSignal Holds made → Kept OfSignal Holds (with_equation made at form)
  equation_kept at form made h kept = record { signals = kept.signals; equations = all_added (λ (q : Equation). Holds q.at) made.equations _ kept.equations h }

  own_kept : (left : Option ℕ) (site : Site) (kind : Kind) (at : Span) (made : Made) → At site.prefix at → Kept OfSignal Holds made → Kept OfSignal Holds (with_own left site kind at made)
  own_kept None site kind at made h kept = signal_kept site kind at made h kept
  own_kept (Some left) site kind at made h kept = kept

  clocks_kept : (site : Site) (at : Span) (made : Made) → At site.prefix at → Kept OfSignal Holds made → Kept OfSignal Holds (with_clocks site at made)
  clocks_kept site at made h kept = signal_kept site Event at (with_signal site Event at made) h (signal_kept site Event at made h kept)

  one_kept : (left : Option ℕ) (site : Site) (kind : Kind) (at : Span) (form : SigId → Form) (made : Made) → At site.prefix at → Kept OfSignal Holds made → Kept OfSignal Holds (by_one left site kind at form made).made
  one_kept left site kind at form made h kept = equation_kept at _ (with_own left site kind at made) (holds site.prefix at h) (own_kept left site kind at made h kept)

  -- the clocks of two operands, and an equation on them
  clock_equations_kept : (at : Span) (e : ℕ) (u v : Operand) (made : Made) → Holds at → Kept OfSignal Holds made → Kept OfSignal Holds (with_clock_equations at e u v made)
  clock_equations_kept at e u v made h kept = record {
    signals = kept.signals;
    equations = all_added (λ (q : Equation). Holds q.at) _ _ (all_added (λ (q : Equation). Holds q.at) _ _ kept.equations h) h;
  }

  joined_kept : (left : Option ℕ) (site : Site) (at : Span) (u v : Operand) (form : Form) (made : Made) → At site.prefix at → Kept OfSignal Holds made
      → Kept OfSignal Holds (with_equation (with_clock_equations at (next made) u v (with_own left site Event at (with_clocks site at made))) at form)
  joined_kept left site at u v form made h kept =
      let owned : Made = with_own left site Event at (with_clocks site at made) in
      equation_kept at form (with_clock_equations at (next made) u v owned) (holds site.prefix at h)
      (clock_equations_kept at (next made) u v owned (holds site.prefix at h) (own_kept left site Event at (with_clocks site at made) h (clocks_kept site at made h kept)))

  less_kept : (left : Option ℕ) (site : Site) (at : Span) (u v : Translated) → At site.prefix at → Kept OfSignal Holds v.made → Kept OfSignal Holds (binary left site Less at u v).made
  less_kept left site at u v h kept =
      let held = holds site.prefix at h in
      let clocks : Made = with_clocks site at v.made in
      let first : Made = with_signal site Boolean at clocks in
      let truths : Made = with_signal site Boolean at first in
      let owned : Made = with_own left site Event at truths in
      let begun = clock_equations_kept at (next v.made) u.operand v.operand owned held
      (own_kept left site Event at truths h (signal_kept site Boolean at first h (signal_kept site Boolean at clocks h (clocks_kept site at v.made h kept)))) in
      let P : Equation → Type 0 = λ q. Holds q.at in
      record { signals = begun.signals; equations = all_added P _ _ (all_added P _ _ (all_added P _ _ begun.equations held) held) held }

  binary_kept : (left : Option ℕ) (site : Site) (op : BinOp) (at : Span) (u v : Translated) → At site.prefix at → Kept OfSignal Holds v.made → Kept OfSignal Holds (binary left site op at u v).made
  binary_kept left site Less at u v h kept = less_kept left site at u v h kept
  binary_kept left site Plus at u v h kept = joined_kept left site at u.operand v.operand _ v.made h kept
  binary_kept left site Meet at u v h kept = joined_kept left site at u.operand v.operand _ v.made h kept
  binary_kept left site op at u v h kept = one_kept left site (result_of op u v) at (binary_form op u.operand v.operand) v.made h kept

  cell_kept : (left : Option ℕ) (site : Site) (init : ℤ) (at : Span) (x b : Translated) → At site.prefix at → Kept OfSignal Holds b.made → Kept OfSignal Holds (cell left site init at x b).made
  cell_kept left site init at x b h kept =
      let held = holds site.prefix at h in
      let kind : Kind = stored x.kind in
      let remembered : Made = with_signal site kind at b.made in
      let owned : Made = with_own left site kind at remembered in
      let begun = signal_kept site Event at (with_clocks site at owned) h (clocks_kept site at owned h (own_kept left site kind at remembered h (signal_kept site kind at b.made h kept))) in
      let P : Equation → Type 0 = λ q. Holds q.at in
      record {
        signals = begun.signals;
        equations = all_added P _ _ (all_added P _ _ (all_added P _ _ (all_added P _ _ (all_added P _ _ (all_added P _ _ begun.equations held) held) held) held) held) held;
      }

  -- an operand, and a whole right side
  operand_kept : (site : Site) (e : FlatExpression) (made : Made) → AtOperators (At site.prefix) e → Kept OfSignal Holds made → Kept OfSignal Holds (translate None site e made).made
  operand_kept site (Unary op operand at) made h kept =
      let x : Translated = translate None site operand made in
      one_kept None site (kind_of_result (unary_row op).result x.kind None) at (unary_form op x.operand) x.made h.0 (operand_kept site operand made h.1 kept)
  operand_kept site (DelayOf operand init at) made h kept =
      let x : Translated = translate None site operand made in
      one_kept None site (stored x.kind) at (λ y. Delay y (signal_in x.operand) init) x.made h.0 (operand_kept site operand made h.1 kept)
  operand_kept site (Binary op first second at) made h kept =
      let u : Translated = translate None site first made in
      binary_kept None site op at u (translate None site second u.made) h.0 (operand_kept site second u.made h.2 (operand_kept site first made h.1 kept))
  operand_kept site (Cell operand held init at) made h kept =
      let x : Translated = translate None site operand made in
      cell_kept None site init at x (translate None site held x.made) h.0 (operand_kept site held x.made h.2 (operand_kept site operand made h.1 kept))
  operand_kept site _ made h kept = kept

  right_kept : (left : ℕ) (site : Site) (e : FlatExpression) (made : Made) → Holds (place_of e) → AtOperators (At site.prefix) e → Kept OfSignal Holds made → Kept OfSignal Holds (translate (Some left) site e made).made
  right_kept left site (SigOf number at) made whole h kept = equation_kept at _ made whole kept
  right_kept left site (ConstOf value kind at) made whole h kept = kept
  right_kept left site (Unary op operand at) made whole h kept =
      let x : Translated = translate None site operand made in
      one_kept (Some left) site (kind_of_result (unary_row op).result x.kind None) at (unary_form op x.operand) x.made h.0 (operand_kept site operand made h.1 kept)
  right_kept left site (DelayOf operand init at) made whole h kept =
      let x : Translated = translate None site operand made in
      one_kept (Some left) site (stored x.kind) at (λ y. Delay y (signal_in x.operand) init) x.made h.0 (operand_kept site operand made h.1 kept)
  right_kept left site (Binary op first second at) made whole h kept =
      let u : Translated = translate None site first made in
      binary_kept (Some left) site op at u (translate None site second u.made) h.0 (operand_kept site second u.made h.2 (operand_kept site first made h.1 kept))
  right_kept left site (Cell operand held init at) made whole h kept =
      let x : Translated = translate None site operand made in
      cell_kept (Some left) site init at x (translate None site held x.made) h.0 (operand_kept site held x.made h.2 (operand_kept site operand made h.1 kept))

  -- clock equations: their operands, and the places of these
  operands_kept : (site : Site) (es : List FlatExpression) (made : Made) → AllByRecursion (λ e. Holds (place_of e) × AtOperators (At site.prefix) e) es → Kept OfSignal Holds made → Kept OfSignal Holds (operands_from site es made).made
  operands_kept site [] made h kept = kept
  operands_kept site (e ∷ es) made h kept = operands_kept site es (translate None site e made).made h.1 (operand_kept site e made h.0.1 kept)

  places_kept : (site : Site) (es : List FlatExpression) (made : Made) → AllByRecursion (λ e. Holds (place_of e) × AtOperators (At site.prefix) e) es
      → AllByRecursion (λ (found : SigId × Span). Holds found.1) (operands_from site es made).signals
  places_kept site [] made h = tt
  places_kept site (e ∷ es) made h = (h.0.0, places_kept site es (translate None site e made).made h.1)

  syncs_kept : (first : SigId) (others : List (SigId × Span)) (made : Made) → AllByRecursion (λ (found : SigId × Span). Holds found.1) others → Kept OfSignal Holds made → Kept OfSignal Holds (with_syncs first others made)
  syncs_kept first [] made h kept = kept
  syncs_kept first (second ∷ others) made h kept = syncs_kept second.0 others _ h.1 (equation_kept second.1 _ made h.0 kept)

  all_syncs_kept : (signals : List (SigId × Span)) (made : Made) → AllByRecursion (λ (found : SigId × Span). Holds found.1) signals → Kept OfSignal Holds made → Kept OfSignal Holds (with_all_syncs signals made)
  all_syncs_kept [] made h kept = kept
  all_syncs_kept (first ∷ others) made h kept = syncs_kept first.0 others made h.1 kept

  -- equations of the flat body
  flat_kept : (q : FlatEquation) (made : Made) → Asks At Holds q → Kept OfSignal Holds made → Kept OfSignal Holds (with_flat_equation q made)
  flat_kept (Defines left e prefix) made h kept = right_kept left (record { cluster = cluster_at made.signals left; prefix = prefix }) e made h.0 h.1 kept
  flat_kept (Equal operands prefix) made h kept =
      let site : Site = record { cluster = 0; prefix = prefix } in
      let together : Together = operands_from site operands made in
      all_syncs_kept together.signals together.made (places_kept site operands made h) (operands_kept site operands made h kept)

  pub all_kept : (qs : List FlatEquation) (made : Made) → AllByRecursion (Asks At Holds) qs → Kept OfSignal Holds made → Kept OfSignal Holds (with_flat_equations qs made)
  all_kept [] made h kept = kept
  all_kept (q ∷ qs) made h kept = all_kept qs (with_flat_equation q made) h.1 (flat_kept q made h.0 kept)
