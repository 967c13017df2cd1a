-- What the lines of a flow file give each input.
use Rattle.sig_flow.proofs.Common.{◌≡◌, ◌≢◌, ◌<◌, ◌+◌, ℕ, ℤ, List, [], ◌∷◌, ◌++◌, length, get_or, set, map, Option, None, Some, Result, Ok, Err, bytes_eq, sym, refl, ◌∙◌, ap, subst, ⊎_elim, ◌⊎◌, inl, inr, arith, cases_eq, get_or_default, get_or-set_same, get_or-set_other, get_or-map, append-nil, ext_get_or, length-map, bytes_eq-Decides, IsDistinct, IfOk, IfErr, MatchResult, IsErrAnd, lines, Signal, FlowAnswer, OutOfMemory, Version, first_fault, AreFlows, AreFlowsIn, Body, IsFirstBadPlace, IsFirstIn, file_body, flow_in, line_judge, text_fault, values_for, values_of, words_of, Line, numbered, Word, append_assoc, other_bytes}
use Rattle.sig_flow.proofs.FirstLemmas.{judged_at, good_from_none, first_from_some, not_both, one_first}
use Rattle.sig_flow.proofs.InputLemmas.{names_differ, nobody}

-- the values of a line are those of the input that it names
values_for_own : (version : Version) (input : Signal) (name : Word) (values : List Word) → name.text ≡ input.name → values_for version input (name ∷ values) ≡ values_of version input.kind values
values_for_own version input name values same = rw ((bytes_eq-Decides name.text input.name).1 same) refl

-- and no other's
values_for_other : (version : Version) (input : Signal) (name : Word) (values : List Word) → name.text ≢ input.name → values_for version input (name ∷ values) ≡ []
values_for_other version input name values other = rw (other_bytes name.text input.name other) refl

-- after a line, the input that it names has its values at the end, and the others' flows are as before
pub after_line : (version : Version) (inputs : List Signal) (flows : List (List ℤ)) (i : ℕ) (e : Signal) (name : Word) (values : List Word) (flow : List ℤ) → IsDistinct bytes_eq (map (λ input. input.name) inputs) → length flows ≡ length inputs → i < length inputs → (get_or inputs i e).name ≡ name.text → flow ≡ get_or flows i [] ++ values_of version (get_or inputs i e).kind values → (k : ℕ) (d : Signal) → k < length inputs → get_or (set flows i flow) k [] ≡ get_or flows k [] ++ values_for version (get_or inputs k d) (name ∷ values)
after_line version inputs flows i e name values flow distinct same lt at is k d lt_k =
    let at_i : get_or inputs i e ≡ get_or inputs i d = get_or_default inputs i e d lt in
    let named : (get_or inputs i d).name ≡ name.text = ap (λ (s : Signal). s.name) (sym at_i) ∙ at in
    let own : flow ≡ get_or flows i [] ++ values_for version (get_or inputs i d) (name ∷ values) =
    is ∙ ap (λ (s : Signal). get_or flows i [] ++ values_of version s.kind values) at_i
    ∙ ap (λ (vs : List ℤ). get_or flows i [] ++ vs) (sym (values_for_own version (get_or inputs i d) name values (sym named))) in
    ⊎_elim
    (λ (e : k ≡ i). subst (λ j. get_or (set flows i flow) j [] ≡ get_or flows j [] ++ values_for version (get_or inputs j d) (name ∷ values)) (sym e)
    (get_or-set_same flows i flow [] (omega arith) ∙ own))
    (λ (ne : k ≢ i). get_or-set_other flows i k flow [] ne
    ∙ sym (append-nil (get_or flows k []))
    ∙ ap (λ (vs : List ℤ). get_or flows k [] ++ vs) (sym (values_for_other version (get_or inputs k d) name values (λ other. names_differ inputs i k d distinct lt lt_k ne (named ∙ other)))))
    (cases_eq k i)

-- the text of a line, as one of this number
abbrev pub line_at : ℕ → List ℕ → Line
line_at number text = record { number = number; text = text }

module _ (version : Version) (inputs : List Signal) (rest line after : List ℕ) (number : ℕ) (first : lines rest ≡ line ∷ lines after) where
  numbered_first : numbered number (lines rest) ≡ line_at number line ∷ numbered (number + 1) (lines after)
  numbered_first = ap (numbered number) first

  -- at a wrong line
  pub wrong_at : (old : ℕ) (fault : FlowAnswer) → text_fault version inputs number old line ≡ Some fault → first_fault (line_judge version inputs) old (numbered number (lines rest)) ≡ Some fault
  wrong_at old fault wrong =
      judged_at (line_judge version inputs) old (line_at number line) (numbered (number + 1) (lines after)) (numbered number (lines rest)) fault numbered_first wrong

  -- what a line and those behind it give an input
  pub flow_behind : (input : Signal) → flow_in version (numbered number (lines rest)) input ≡ values_for version input (words_of line) ++ flow_in version (numbered (number + 1) (lines after)) input
  flow_behind input = ap (λ ls. flow_in version ls input) numbered_first

  -- a flow with what the line gives it, and what the lines behind it give
  pub flow_on : (old new : List ℤ) (input : Signal) → new ≡ old ++ values_for version input (words_of line) → new ++ flow_in version (numbered (number + 1) (lines after)) input ≡ old ++ flow_in version (numbered number (lines rest)) input
  flow_on old new input is =
      ap (λ vs. vs ++ flow_in version (numbered (number + 1) (lines after)) input) is
      ∙ append_assoc old (values_for version input (words_of line)) (flow_in version (numbered (number + 1) (lines after)) input)
      ∙ ap (λ vs. old ++ vs) (sym (flow_behind input))

-- the first line that is wrong
pub fault_here : (inputs : List Signal) (body : Body) (rest line after : List ℕ) (number before : ℕ) (fault : FlowAnswer) → lines rest ≡ line ∷ lines after → (fault ≡ OutOfMemory) ⊎ (text_fault body.version inputs number before line ≡ Some fault) → first_fault (line_judge body.version inputs) before (numbered number (lines rest)) ≡ first_fault (line_judge body.version inputs) 0 body.lines → (fault ≡ OutOfMemory) ⊎ IsFirstIn inputs body fault
fault_here inputs body rest line after number before fault first why so_far =
    ⊎_elim
    (λ memory. inl memory)
    (λ wrong. inr (first_from_some (line_judge body.version inputs) 0 body.lines fault (sym so_far ∙ wrong_at body.version inputs rest line after number first before fault wrong)))
    why

-- behind the last line
pub all_read : (inputs : List Signal) (body : Body) (rest : List ℕ) (number before : ℕ) (flows : List (List ℤ)) → length rest ≡ 0 → length flows ≡ length inputs
    → ((k : ℕ) (d : Signal) → k < length inputs → get_or flows k [] ++ flow_in body.version (numbered number (lines rest)) (get_or inputs k d) ≡ flow_in body.version body.lines (get_or inputs k d))
    → first_fault (line_judge body.version inputs) before (numbered number (lines rest)) ≡ first_fault (line_judge body.version inputs) 0 body.lines
    → AreFlowsIn inputs body flows
all_read inputs body [] number before flows none same read judged = record {
  good = good_from_none (line_judge body.version inputs) 0 body.lines (sym judged);
  each = ext_get_or [] flows (map (flow_in body.version body.lines) inputs) (same ∙ sym (length-map inputs (flow_in body.version body.lines)))
      (λ k lt. sym (append-nil (get_or flows k [])) ∙ read k nobody (omega arith) ∙ sym (get_or-map (flow_in body.version body.lines) inputs k nobody [] (omega arith)));
}
all_read inputs body (b ∷ rest) number before flows none same read judged = absurd (omega arith)

-- what is given is the one reading, or the one fault
module _ {V : Type 0} (items : V → List (List ℤ)) (inputs : List Signal) (bytes : List ℕ) where
  abbrev body : Body
  body = file_body inputs bytes

  pub given : (result : Result V FlowAnswer) → IfOk result (λ v. AreFlows inputs bytes (items v)) → IfErr result (λ answer. (answer ≡ OutOfMemory) ⊎ IsFirstBadPlace inputs bytes answer) → (flows : List (List ℤ)) → AreFlows inputs bytes flows → MatchResult result (λ v. items v ≡ flows) (λ answer. answer ≡ OutOfMemory)
  given (Ok v) is fault flows are = is.each ∙ sym are.each
  given (Err answer) is fault flows are = ⊎_elim (λ memory. memory) (λ first. absurd (not_both (line_judge body.version inputs) 0 body.lines answer are.good first)) fault

  pub refused : (result : Result V FlowAnswer) → IfOk result (λ v. AreFlows inputs bytes (items v)) → IfErr result (λ answer. (answer ≡ OutOfMemory) ⊎ IsFirstBadPlace inputs bytes answer) → (fault : FlowAnswer) → IsFirstBadPlace inputs bytes fault → IsErrAnd result (λ answer. (answer ≡ OutOfMemory) ⊎ (answer ≡ fault))
  refused (Ok v) is begins fault first = not_both (line_judge body.version inputs) 0 body.lines fault is.good first
  refused (Err answer) is begins fault first = ⊎_elim (λ memory. inl memory) (λ also. inr (one_first (line_judge body.version inputs) 0 body.lines answer fault also first)) begins

-- a file has flows, or a first offending place
pub flows_or_fault : (inputs : List Signal) (bytes : List ℕ) (o : Option FlowAnswer) → first_fault (line_judge (file_body inputs bytes).version inputs) 0 (file_body inputs bytes).lines ≡ o → ((flows : List (List ℤ)) × AreFlows inputs bytes flows) ⊎ ((fault : FlowAnswer) × IsFirstBadPlace inputs bytes fault)
flows_or_fault inputs bytes None is =
    let body = file_body inputs bytes in
    inl (map (flow_in body.version body.lines) inputs, record { good = good_from_none (line_judge body.version inputs) 0 body.lines is; each = refl })
flows_or_fault inputs bytes (Some fault) is =
    let body = file_body inputs bytes in
    inr (fault, first_from_some (line_judge body.version inputs) 0 body.lines fault is)

pub flows_and_fault : (inputs : List Signal) (bytes : List ℕ) (flows : List (List ℤ)) (fault : FlowAnswer) → AreFlows inputs bytes flows → IsFirstBadPlace inputs bytes fault → ⊥
flows_and_fault inputs bytes flows fault are first =
    let body = file_body inputs bytes in
    not_both (line_judge body.version inputs) 0 body.lines fault are.good first

pub one_place : (inputs : List Signal) (bytes : List ℕ) (a b : FlowAnswer) → IsFirstBadPlace inputs bytes a → IsFirstBadPlace inputs bytes b → a ≡ b
one_place inputs bytes a b here there =
    let body = file_body inputs bytes in
    one_first (line_judge body.version inputs) 0 body.lines a b here there
