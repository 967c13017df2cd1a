-- What is written of an element, by the equation that its table has for it.
use Rattle.sig_rel.proofs.Common.{◌≡◌, ◌<◌, ◌≤◌, ◌+◌, ◌*◌, ◌++◌, ℕ, Bool, List, [], ◌∷◌, length, take, get_or, Some, Result, Ok, Err, sym, ap, ◌∙◌, subst, arith, slice_get, IsErrAnd, Signal, take_more, sum_by_more, sum_by-take-le, contains_at, get_at, get_within, StoreView, test, DdAnswer, Node, Ref, Form, Kernel, IsGiven, signal_of, presence_by, Makes, itself, Gives, GivesTruth, IsPartlyWritten, SpanColumns, given_by, no_ref, size_of, step_at, steps, values_at, IsOrderOfWriting, Element, Presence, Truth, Rules, Columns}
use Rattle.sig_rel.proofs.Makings.{makes_err, makes_ok, makes_then}
use Rattle.sig_rel.proofs.UnknownLemmas.{boolean_within}

pub element_at : (own list : List Element) (k : ℕ) (d : Element) → own ≡ list → k < length own → slice_get list k ≡ Some (get_or own k d)
element_at own list k d same lt = subst (λ xs. slice_get xs k ≡ Some (get_or own k d)) same (get_at own k d lt)

-- there is a row for each element of an order of writing
pub has_row : (kernel : Kernel) (rules : Rules) (list : List Element) (columns : Columns) → IsOrderOfWriting kernel rules list → length columns.rows.items ≡ length kernel.signals
    → (k : ℕ) (element : Element) → slice_get list k ≡ Some element → signal_of element < length columns.rows.items
has_row kernel rules list columns order count k (Presence class) at =
    let is = order.classes class (contains_at list k (Presence class) at) in
    subst (λ n. class < n) (sym count) is.0
has_row kernel rules list columns order count k (Truth signal) at =
    let boolean = order.truths signal (contains_at list k (Truth signal) at) in
    subst (λ n. signal < n) (sym count) (boolean_within kernel signal boolean)

-- the elements so far, and one more
more_taken : (list : List Element) (k : ℕ) (element : Element) → slice_get list k ≡ Some element → take (k + 1) list ≡ take k list ++ element ∷ []
more_taken list k element at =
    let lt = get_within list k element at in
    let same : Some (get_or list k element) ≡ Some element = sym (get_at list k element lt) ∙ at in
    take_more list k element lt ∙ ap (λ e. take k list ++ e ∷ []) (let e : get_or list k element ≡ element = cc in e)

pub next_written : (kernel : Kernel) (rules : Rules) (old new : List Node) (before after : Columns) (list : List Element) (k : ℕ) (element : Element) → slice_get list k ≡ Some element
    → IsPartlyWritten kernel rules old new before after (take k list ++ element ∷ []) → IsPartlyWritten kernel rules old new before after (take (k + 1) list)
next_written kernel rules old new before after list k element at = subst (IsPartlyWritten kernel rules old new before after) (sym (more_taken list k element at))

-- and they take as many calls as their equations
pub steps_more : (rules : Rules) (list : List Element) (k : ℕ) (element : Element) → slice_get list k ≡ Some element → steps rules (take (k + 1) list) ≡ steps rules (take k list) + step_at rules element
steps_more rules list k element at =
    let lt = get_within list k element at in
    let same : Some (get_or list k element) ≡ Some element = sym (get_at list k element lt) ∙ at in
    sum_by_more (step_at rules) list k element lt ∙ ap (λ e. steps rules (take k list) + step_at rules e) (let e : get_or list k element ≡ element = cc in e)

pub steps_within : (rules : Rules) (list : List Element) (k : ℕ) → steps rules (take k list) ≤ steps rules list
steps_within rules list k = sum_by-take-le (step_at rules) list k

-- the calls so far, and those of one more element
pub made_more : (kernel : Kernel) (rules : Rules) (list : List Element) (k : ℕ) (element : Element) (start : Columns) (r s t : StoreView) (before : Columns) (result : Result (Unit {0}) DdAnswer)
    → slice_get list k ≡ Some element → Makes (3 * steps rules (take k list)) (SpanColumns r.nodes start) r s no_ref (Ok tt) → IsPartlyWritten kernel rules r.nodes s.nodes start before (take k list)
    → Makes (3 * step_at rules element) (SpanColumns s.nodes before) s t no_ref result → Makes (3 * steps rules (take (k + 1) list)) (SpanColumns r.nodes start) r t no_ref result
made_more kernel rules list k element start r s t before result at so_far partly one =
    let more = steps_more rules list k element at in
    let sum : 3 * steps rules (take k list) + 3 * step_at rules element ≡ 3 * steps rules (take (k + 1) list) = omega (arith, more) in
    subst (λ n. Makes n (SpanColumns r.nodes start) r t no_ref result) sum
    (makes_then (3 * steps rules (take k list)) (3 * step_at rules element) (SpanColumns r.nodes start) (SpanColumns r.nodes start) (SpanColumns s.nodes before) r s t no_ref no_ref tt result so_far one
    (λ vs wide. wide) (λ vs wide spans. partly.spans vs wide))

-- ---- what an equation gives an element

module _ (old new : List Node) (columns : Columns) (signals : List Signal) (least : List ℕ) (form : Form) (element : Element) (x : ℕ) (r : Ref) where
  pub presence_gives : element ≡ Presence x → ((truths : List Bool) → test new r truths ≡ presence_by least (values_at old columns truths) form) → Gives old new columns signals least form element r
  presence_gives same is truths b told =
      let both : Some (presence_by least (values_at old columns truths) form) ≡ Some b = ap (given_by signals least (values_at old columns truths) form) (sym same) ∙ told in
      let e : presence_by least (values_at old columns truths) form ≡ b = cc in
      is truths ∙ e

  pub truth_gives : element ≡ Truth x → GivesTruth old new columns signals least form r → Gives old new columns signals least form element r
  truth_gives same is truths b told = is truths b (ap (given_by signals least (values_at old columns truths) form) (sym same) ∙ told)

-- three calls for an element that an equation gives
module _ (kernel : Kernel) (rules : Rules) (element : Element) (form : Form) (given : IsGiven kernel rules element form) (s t : StoreView) (Wide : List ℕ → Type 0) where
  pub element_made : (r : Ref) → Makes 3 Wide s t itself (Ok r) → Makes (3 * step_at rules element) Wide s t no_ref (Ok tt)
  element_made r made = subst (λ o. Makes (3 * size_of o) Wide s t no_ref (Ok tt)) (sym given.1.0) (makes_ok 3 Wide s t itself no_ref r tt made tt (λ vs wide spans. tt))

  pub element_refused : (e : DdAnswer) (result : Result (Unit {0}) DdAnswer) → Makes 3 Wide s t itself (Err e) → IsErrAnd result (λ d. d ≡ e) → Makes (3 * step_at rules element) Wide s t no_ref result
  element_refused e result made is = subst (λ o. Makes (3 * size_of o) Wide s t no_ref result) (sym given.1.0) (makes_err 3 3 Wide Wide s t itself no_ref e result made (omega arith) (λ vs wide. wide) is)
