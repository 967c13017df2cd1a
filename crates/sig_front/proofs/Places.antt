-- The places of the kernel of a text lie in the text.
use Rattle.sig_front.proofs.Common.{◌+◌, ◌&&◌, ℕ, Bool, List, length, and_from, and_parts, le-leb, leb-true, nat_le, sym, subst, IsTrue, Signal, Span, IsFlatBody, FlatBody, FlatEquation, IsText, ProcessModel, Kernel, kernel_of, IsKernelText, AtPlaces, AtPlacesOfBody, AtPlacesOfEquation, AtPlacesOfKernel, AtTaken, AtTakenOfBody, AtTakenOfEquation, IsWithin, place_of, operators_of, FlatExpression, Sig, Const, Unary, Binary, Delay, Cell, Defines, Equal, Equation, all_so}

-- whether a place lies in a text of so many bytes
abbrev lies_within : ℕ → Span → Bool
lies_within size at = nat_le at.line (size + 1) && nat_le at.col (size + 1)

abbrev Lies : ℕ → Span → Type 0
Lies size at = IsTrue (lies_within size at)

lies : (size : ℕ) (at : Span) → IsWithin size at → Lies size at
lies size at h = and_from (nat_le at.line (size + 1)) (nat_le at.col (size + 1)) (le-leb at.line (size + 1) h.line) (le-leb at.col (size + 1) h.col)

within : (size : ℕ) (at : Span) → Lies size at → IsWithin size at
within size at h =
    let both = and_parts (nat_le at.line (size + 1)) (nat_le at.col (size + 1)) h in
    record { line = leb-true at.line (size + 1) both.0; col = leb-true at.col (size + 1) both.1 }

-- what holds at all places of a flat body holds at those that its kernel takes
whole_place : (P : Span → Type 0) (e : FlatExpression) → AtPlaces P e → P (place_of e)
whole_place P (Sig number at) h = h
whole_place P (Const value kind at) h = h
whole_place P (Unary op operand at) h = h.0
whole_place P (Binary op left right at) h = h.0
whole_place P (Delay operand init at) h = h.0
whole_place P (Cell operand held init at) h = h.0

taken : (size : ℕ) (e : FlatExpression) → AtPlaces (IsWithin size) e → AtTaken (Lies size) e
taken size e h = (lies size (place_of e) (whole_place (IsWithin size) e h), operators_of (IsWithin size) (Lies size) (lies size) e h)

equation_taken : (size : ℕ) (q : FlatEquation) → AtPlacesOfEquation (IsWithin size) q → AtTakenOfEquation (Lies size) q
equation_taken size (Defines left e prefix) h = taken size e h
equation_taken size (Equal operands prefix) h = all_so (AtPlaces (IsWithin size)) (AtTaken (Lies size)) (taken size) operands h

body_taken : (size : ℕ) (flat : FlatBody) → AtPlacesOfBody (IsWithin size) flat → AtTakenOfBody (Lies size) flat
body_taken size flat h = record {
  signals = all_so (λ (signal : Signal). IsWithin size signal.at) (λ (signal : Signal). Lies size signal.at) (λ signal is. lies size signal.at is) flat.signals h.signals;
  equations = all_so (AtPlacesOfEquation (IsWithin size)) (AtTakenOfEquation (Lies size)) (equation_taken size) flat.equations h.equations;
}

kernel_within : (size : ℕ) (kernel : Kernel) → AtPlacesOfKernel (Lies size) kernel → AtPlacesOfKernel (IsWithin size) kernel
kernel_within size kernel h = record {
  signals = all_so (λ (signal : Signal). Lies size signal.at) (λ (signal : Signal). IsWithin size signal.at) (λ signal is. within size signal.at is) kernel.signals h.signals;
  equations = all_so (λ (equation : Equation). Lies size equation.at) (λ (equation : Equation). IsWithin size equation.at) (λ equation is. within size equation.at is) kernel.equations h.equations;
}

module _ (lie : (text : List ℕ) (program : List ProcessModel) (flat : FlatBody) → IsText text program → IsFlatBody program flat → AtPlacesOfBody (IsWithin (length text)) flat)
    (keep : (holds : Span → Bool) (flat : FlatBody) → AtTakenOfBody (λ at. IsTrue (holds at)) flat → AtPlacesOfKernel (λ at. IsTrue (holds at)) (kernel_of flat)) where
  pub places : (text : List ℕ) (kernel : Kernel) → IsKernelText text kernel → AtPlacesOfKernel (IsWithin (length text)) kernel
  places text kernel is =
      let flat : FlatBody = is.flat in
      let size : ℕ = length text in
      subst (AtPlacesOfKernel (IsWithin size)) (sym is.made)
      (kernel_within size (kernel_of flat) (keep (lies_within size) flat (body_taken size flat (lie text is.says.tree flat is.says.good.reads is.says.expands))))
