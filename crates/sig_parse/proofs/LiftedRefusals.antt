-- A refusal of a part as one of what the part stands in, where the parser stands.
use Rattle.sig_parse.proofs.Common.{◌≡◌, ◌++◌, ℕ, suc, List, ◌∷◌, arith, sym, ap, ◌∙◌, subst, Result, Ok, Err, IfErr, IsErr, IsErrAnd, Span, Terminal, Leaf, leaf, Limits, StopsBefore, Refusal, Syntax, Nesting, Operators, State, Reads, IsLeaf, IsOfText, Cause, Wrong, TooDeep, TooMany, cause_of, Refuses}

-- What is refused of the part here is refused of the whole, from before it on.
abbrev pub Lifts : (Part : Limits → List Leaf → Type 0) (PartContinues : Terminal → Type 0) (here : List Leaf) (Whole : Limits → List Leaf → Type 0) (Continues : Terminal → Type 0) (before : List Leaf) → Type 0
Lifts Part PartContinues here Whole Continues before = (cause : Cause) (after : List Leaf) → Refuses Part PartContinues cause here after → Refuses Whole Continues cause before after

-- the refusal, with its cause
abbrev pub Refusing : (Limits → List Leaf → Type 0) → (Terminal → Type 0) → (before after : List Leaf) → Refusal → Type 0
Refusing Is Continues before after why = IsOfText why → Refuses Is Continues (cause_of why) before after

module _ {Part Whole : Limits → List Leaf → Type 0} {PartContinues Continues : Terminal → Type 0} {before here : List Leaf} where
  -- a refusal that is handed on, and one of a last call
  pub raised : {after : List Leaf} {T : Type 0} (r : Result T Refusal) (e : Refusal) → IsErr r × IsErrAnd r (λ f. f ≡ e) → Lifts Part PartContinues here Whole Continues before
      → (IsOfText e → Refuses Part PartContinues (cause_of e) here after) → IfErr r (Refusing Whole Continues before after)
  raised (Ok x) e h lift refused = tt
  raised {after} (Err f) e h lift refused = subst (λ (why : Refusal). Refusing Whole Continues before after why) (sym h.1) (λ text. lift (cause_of e) after (refused text))

  pub raised_last : (after : List Leaf) {T : Type 0} (r : Result T Refusal) → Lifts Part PartContinues here Whole Continues before
      → IfErr r (Refusing Part PartContinues here after) → IfErr r (Refusing Whole Continues before after)
  raised_last after (Ok x) lift refused = tt
  raised_last after (Err e) lift refused = λ text. lift (cause_of e) after (refused text)

module _ {Part Whole : Limits → List Leaf → Type 0} {PartContinues Continues : Terminal → Type 0} {before here : List Leaf} where
  pub behind_one : {l : Leaf} → before ≡ l ∷ here → Lifts Part PartContinues here Whole Continues (l ∷ here) → Lifts Part PartContinues here Whole Continues before
  behind_one split lift cause after r = subst (λ (b : List Leaf). Refuses Whole Continues cause b after) (sym split) (lift cause after r)

-- what stops here stops where the parser stood
pub stops_same : (Continues : Terminal → Type 0) {s t : State} → t ≡ s → StopsBefore Continues t.leaves → StopsBefore Continues s.leaves
stops_same Continues same stops = subst (λ (x : State). StopsBefore Continues x.leaves) same stops

-- the next leaf
pub leaf_split : {t : Terminal} {at : Span} {n : ℕ} {s u : State} → Reads (IsLeaf t at) n s u → s.leaves ≡ leaf t at ∷ u.leaves
leaf_split {u = u} r = r.split ∙ ap (λ front. front ++ u.leaves) r.is

module _ {Is : Limits → List Leaf → Type 0} {Continues : Terminal → Type 0} where
  -- refusals where the parser stands
  pub wrong_here : {s u : State} (why : Refusal) → u ≡ s → why ≡ Syntax → Refuses Is Continues Wrong s.leaves s.leaves → Refuses Is Continues (cause_of why) s.leaves u.leaves
  wrong_here {s} {u} why same is_syntax r =
      subst (λ (w : Refusal). Refuses Is Continues (cause_of w) s.leaves u.leaves) (sym is_syntax) (subst (λ (x : State). Refuses Is Continues Wrong s.leaves x.leaves) (sym same) r)

  pub deep_here : {before after : List Leaf} (why : Refusal) → why ≡ Nesting → Refuses Is Continues TooDeep before after → Refuses Is Continues (cause_of why) before after
  deep_here {before} {after} why is_nesting r = subst (λ (w : Refusal). Refuses Is Continues (cause_of w) before after) (sym is_nesting) r

  pub handed_on : {T : Type 0} {before after : List Leaf} (r : Result T Refusal) (e : Refusal) → IsErr r × IsErrAnd r (λ f. f ≡ e) → (IsOfText e → Refuses Is Continues (cause_of e) before after) → IfErr r (Refusing Is Continues before after)
  handed_on (Ok x) e h refused = tt
  handed_on {before = before} {after = after} (Err f) e h refused = subst (λ (why : Refusal). Refusing Is Continues before after why) (sym h.1) refused

  -- with the cause of the refusal
  pub wrong : {before after : List Leaf} (why : Refusal) → why ≡ Syntax → Refuses Is Continues Wrong before after → Refuses Is Continues (cause_of why) before after
  wrong {before} {after} why is_syntax r = subst (λ (w : Refusal). Refuses Is Continues (cause_of w) before after) (sym is_syntax) r

  pub too_many : {before after : List Leaf} (why : Refusal) → why ≡ Operators → Refuses Is Continues TooMany before after → Refuses Is Continues (cause_of why) before after
  too_many {before} {after} why is_operators r = subst (λ (w : Refusal). Refuses Is Continues (cause_of w) before after) (sym is_operators) r

  pub same_after : {cause : Cause} {before : List Leaf} {s t : State} → t ≡ s → Refuses Is Continues cause before s.leaves → Refuses Is Continues cause before t.leaves
  same_after {cause} {before} {s} {t} same r = subst (λ (x : State). Refuses Is Continues cause before x.leaves) (sym same) r

-- what stops where the parser stood
pub stops_again : (Continues : Terminal → Type 0) {s t : State} → t ≡ s → StopsBefore Continues s.leaves → StopsBefore Continues t.leaves
stops_again Continues same stops = subst (λ (x : State). StopsBefore Continues x.leaves) (sym same) stops

-- an operator more
pub one_more : {A : List Leaf → Type 0} {s t : State} → Reads A 1 s t → t.operators ≡ suc s.operators
one_more r = omega (arith, r.counted)
