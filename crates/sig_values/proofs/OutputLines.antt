-- The lines of the first outputs.
use Rattle.sig_values.proofs.Common.{same_Some, ◌≡◌, ◌<◌, ◌≤◌, ◌+◌, ◌-◌, ◌∙◌, ℕ, zero, suc, List, [], ◌∷◌, ◌++◌, length, length-drop, length-take-le, map, take, drop, append_assoc, refl, sym, ap, subst, arith, Option, None, Some, slice_get, range_with_len, append-nil, Seen, Signal, outputs_of, reaction_in, seen_line, seen_lines, Kernel, Registers, line_at, line_where, lines_of, IsAccepted, PlanView, Joins, TookPrefix, TookPrefix-longer, TookPrefix-then}

-- the lines of so many outputs
abbrev pub lines_upto : Kernel → Registers → ℕ → List ℕ
lines_upto kernel registers n = seen_lines (take n (drop kernel.inputs kernel.signals)) (map registers (range_with_len kernel.inputs n))

one_more : (registers : Registers) (a n : ℕ) (signals : List Signal) (signal : Signal) → slice_get signals n ≡ Some signal
    → seen_lines (take (suc n) signals) (map registers (range_with_len a (suc n)))
    ≡ seen_lines (take n signals) (map registers (range_with_len a n)) ++ seen_line signal (registers (a + n))
one_more registers a n [] signal is = absurd (let e : None ≡ Some signal = is in cc)
one_more registers a zero (s ∷ signals) signal is =
    let here : a ≡ a + 0 = omega arith in
    append-nil (seen_line s (registers a)) ∙ ap (λ (t : Signal). seen_line t (registers a)) (same_Some s signal is) ∙ ap (λ (k : ℕ). seen_line signal (registers k)) here
one_more registers a (suc n) (s ∷ signals) signal is =
    let there : a + 1 + n ≡ a + suc n = omega arith in
    ap (λ rest. seen_line s (registers a) ++ rest) (one_more registers (a + 1) n signals signal is)
    ∙ sym (append_assoc (seen_line s (registers a)) (seen_lines (take n signals) (map registers (range_with_len (a + 1) n))) (seen_line signal (registers (a + 1 + n))))
    ∙ ap (λ (k : ℕ). (seen_line s (registers a) ++ seen_lines (take n signals) (map registers (range_with_len (a + 1) n))) ++ seen_line signal (registers k)) there

drop_get : (signals : List Signal) (a n : ℕ) → slice_get (drop a signals) n ≡ slice_get signals (a + n)
drop_get signals zero n = ap (slice_get signals) (let e : n ≡ 0 + n = omega arith in e)
drop_get [] (suc a) n = refl
drop_get (s ∷ signals) (suc a) n = drop_get signals a n ∙ ap (slice_get (s ∷ signals)) (let e : suc (a + n) ≡ suc a + n = omega arith in e)

none_past : (signals : List Signal) (i : ℕ) → slice_get signals i ≡ None → length signals ≤ i
none_past [] i is = omega arith
none_past (s ∷ signals) zero is = absurd (let e : Some s ≡ None = is in cc)
none_past (s ∷ signals) (suc i) is = omega (arith, none_past signals i is)

module _ (kernel : Kernel) (registers : Registers) where
  pub line_more : (n : ℕ) → kernel.inputs + n < length kernel.signals
      → lines_upto kernel registers (n + 1) ≡ lines_upto kernel registers n ++ line_at kernel registers (kernel.inputs + n)
  line_more n within = by (slice_get kernel.signals (kernel.inputs + n)) refl where
    by : (found : Option Signal) → slice_get kernel.signals (kernel.inputs + n) ≡ found
        → lines_upto kernel registers (n + 1) ≡ lines_upto kernel registers n ++ line_at kernel registers (kernel.inputs + n)
    by None none = absurd (let past = none_past kernel.signals (kernel.inputs + n) none in omega (arith, past, within))
    by (Some signal) is =
        let next : n + 1 ≡ suc n = omega arith in
        ap (λ (k : ℕ). lines_upto kernel registers k) next
        ∙ one_more registers kernel.inputs n (drop kernel.inputs kernel.signals) signal (drop_get kernel.signals kernel.inputs n ∙ is)
        ∙ ap (λ (o : Option Signal). lines_upto kernel registers n ++ line_where o (registers (kernel.inputs + n))) (sym is)

  -- the lines of fewer outputs begin those of more
  begins : (m k : ℕ) → kernel.inputs + (m + k) ≤ length kernel.signals → (more : List ℕ) × (lines_upto kernel registers (m + k) ≡ lines_upto kernel registers m ++ more)
  begins m zero within =
      let same : m + 0 ≡ m = omega arith in
      ([], ap (λ (n : ℕ). lines_upto kernel registers n) same ∙ sym (append-nil (lines_upto kernel registers m)))
  begins m (suc k) within =
      let (more, is) = begins m k (omega (arith, within)) in
      let next : m + suc k ≡ m + k + 1 = omega arith in (
        more ++ line_at kernel registers (kernel.inputs + (m + k)),
        ap (λ (n : ℕ). lines_upto kernel registers n) next ∙ line_more (m + k) (omega (arith, within))
            ∙ ap (λ front. front ++ line_at kernel registers (kernel.inputs + (m + k))) is
            ∙ append_assoc (lines_upto kernel registers m) more (line_at kernel registers (kernel.inputs + (m + k))),
      )

  pub prefix_of_lines : {S : Type 0} (took : S → List ℕ → S → Type 0) → Joins took → (n : ℕ) → n < kernel.outputs → kernel.inputs + kernel.outputs ≤ length kernel.signals
      → (first middle last : S) → took first (lines_upto kernel registers n) middle → TookPrefix took middle (line_at kernel registers (kernel.inputs + n)) last
      → TookPrefix took first (lines_of kernel registers) last
  prefix_of_lines took joins n below within first middle last all part =
      let (more, is) = begins (n + 1) (kernel.outputs - (n + 1)) (omega (arith, below, within)) in
      let whole : n + 1 + (kernel.outputs - (n + 1)) ≡ kernel.outputs = omega (arith, below) in
      let line : lines_upto kernel registers (n + 1) ≡ lines_upto kernel registers n ++ line_at kernel registers (kernel.inputs + n) = line_more n (omega (arith, below, within)) in
      let every : lines_of kernel registers ≡ (lines_upto kernel registers n ++ line_at kernel registers (kernel.inputs + n)) ++ more =
      ap (λ (k : ℕ). lines_upto kernel registers k) (sym whole) ∙ is ∙ ap (λ front. front ++ more) line in
      subst (λ bytes. TookPrefix took first bytes last) (sym every)
      (TookPrefix-longer took first last (lines_upto kernel registers n ++ line_at kernel registers (kernel.inputs + n)) more
      (TookPrefix-then took joins first middle last (lines_upto kernel registers n) (line_at kernel registers (kernel.inputs + n)) all part))

-- the inputs and outputs are signals
abbrev pub InterfaceFits : Kernel → Type 0
InterfaceFits kernel = kernel.inputs + kernel.outputs ≤ length kernel.signals

pub interface_fits : (plan : PlanView) → IsAccepted plan → (kernel : Kernel) → kernel ≡ plan.kernel → InterfaceFits kernel
interface_fits plan accepted kernel is =
    let interface = accepted.valid.parts.interface in
    let declared = accepted.valid.parts.declared in
    subst InterfaceFits (sym is) (omega (arith, interface, declared))

-- ---- what an output is in a reaction

get_of_range : (f : ℕ → Seen) (a n place : ℕ) → place < n → slice_get (map f (range_with_len a n)) place ≡ Some (f (a + place))
get_of_range f a zero place below = absurd (omega (arith, below))
get_of_range f a (suc n) zero below = ap (λ (k : ℕ). Some (f k)) (let e : a ≡ a + 0 = omega arith in e)
get_of_range f a (suc n) (suc place) below = get_of_range f (a + 1) n place (omega (arith, below)) ∙ ap (λ (k : ℕ). Some (f k)) (let e : a + 1 + place ≡ a + suc place = omega arith in e)

module _ (kernel : Kernel) (fits : InterfaceFits kernel) (place : ℕ) (below : place < length (outputs_of kernel)) where
  among : place < kernel.outputs
  among =
      let behind = length-drop kernel.inputs kernel.signals in
      let all = length-take-le kernel.outputs (drop kernel.inputs kernel.signals) (omega (arith, behind, fits)) in
      omega (arith, all, below)

  pub output_is_signal : kernel.inputs + place < length kernel.signals
  output_is_signal = omega (arith, fits, among)

  pub output_in_reaction : (registers : Registers) → slice_get (reaction_in kernel registers) place ≡ Some (registers (kernel.inputs + place))
  output_in_reaction registers = get_of_range registers kernel.inputs kernel.outputs place among
