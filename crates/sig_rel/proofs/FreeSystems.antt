-- Columns that keep to the tables of a triangular kernel are its system.
use Rattle.sig_rel.proofs.Common.{◌≡◌, ◌<◌, ◌≤◌, inl, inr, ℕ, Bool, true, false, cond, List, [], ◌∷◌, length, map, Option, None, Some, refl, sym, ap, ◌∙◌, subst, arith, if◌then◌else◌, slice_get, slice_index, count_by, option_map, range_with_len, and_parts, cases_Bool, cases_eq, cases_lt, length-map, length-filter, sum_by-cons, get_or-map-range_with_len, get_or-range_with_len, length-map-range_with_len, length-range_with_len, get_or_from_slice_get, slice_get-map, slice_get_past, slice_get_within, filter, SigId, IsValid, Kernel, Allows, KeepsTo, conditions_of, is_condition, is_free, signal_id, Reaction, Speaks, Status, status_at, truth_of_status, contains_at, truth_of, with_truth, Holds, IsRefOf, Spans, test, truth_of-with_other, Node, Ref, IsUnknownCount, is_boolean, AreValues, has, value_status, IsSystemOf, truth_ref, HoldColumns, SpanColumns, present_at, truth_at, values_at, AreConditions, IsFreeSystem, IsOver, IsSolution, IsSystem, IsVariable, SystemView, proposed, reading, status_read, statuses_read, AreRulesOf, IsTriangle, Element, Rules, Columns, within_range}
use Rattle.sig_rel.proofs.ClassLemmas.{least_of_class}
use Rattle.sig_rel.proofs.OneReaction.{one_reaction}
use Rattle.sig_rel.proofs.RuleLemmas.{got_map_range, map_range_got}
use Rattle.sig_rel.proofs.SoundValues.{values_speak}
use Rattle.sig_rel.proofs.UnknownLemmas.{boolean_within}

-- ---- how many conditions there are

abbrev one_where : Bool → ℕ
one_where b = cond b 1 0

one_le : (a b : Bool) → (a ≡ true → b ≡ true) → one_where a ≤ one_where b
one_le true b each = let e = ap one_where (each refl) in omega (arith, e)
one_le false b each = omega arith

count_le : (p q : ℕ → Bool) → ((x : ℕ) → p x ≡ true → q x ≡ true) → (xs : List ℕ) → count_by p xs ≤ count_by q xs
count_le p q each [] = omega arith
count_le p q each (x ∷ xs) =
    let rest = count_le p q each xs in
    let a = sum_by-cons (λ y. one_where (p y)) x xs in
    let b = sum_by-cons (λ y. one_where (q y)) x xs in
    let c = one_le (p x) (q x) (each x) in
    omega (arith, rest, a, b, c)

pub conditions_few : (kernel : Kernel) (count : ℕ) → IsUnknownCount kernel count → length (conditions_of kernel) ≤ count
conditions_few kernel count is =
    let range = range_with_len 0 (length kernel.signals) in
    let a = length-map (filter (is_condition kernel) range) signal_id in
    let b = length-filter (is_condition kernel) range in
    let c = count_le (is_condition kernel) (is_boolean kernel) (λ x e. (and_parts (is_boolean kernel x) (is_free kernel x) e).0) range in
    let e = is.2 in
    omega (arith, a, b, c, e)

-- ---- what is read

pub read_maps : (nodes : List Node) (truths : List Bool) (f g : ℕ → Ref) (xs : List ℕ) → statuses_read nodes truths (map f xs) (map g xs) ≡ map (λ s. status_read nodes truths (f s) (g s)) xs
read_maps nodes truths f g [] = refl
read_maps nodes truths f g (x ∷ xs) = ap (λ rest. status_read nodes truths (f x) (g x) ∷ rest) (read_maps nodes truths f g xs)

pub same_where : (p t : Bool) → t ≡ true → (let s : Status = if p then Some p else None in s) ≡ (if p then Some t else None)
same_where true t is = ap Some (sym is)
same_where false t is = refl

allows_own : (s : Status) → Allows s (truth_of_status s)
allows_own None = tt
allows_own (Some b) = refl

pub allows_if : (p t u : Bool) → t ≡ u → Allows (let s : Status = if p then Some t else None in s) u
allows_if true t u is = is
allows_if false t u is = tt

range_place : (n i v : ℕ) → slice_get (range_with_len 0 n) i ≡ Some v → (v ≡ i) × (i < n)
range_place n i v at =
    let long = length-range_with_len 0 n in
    let lt = slice_get_within (range_with_len 0 n) i v at in
    let within : i < n = omega (arith, long, lt) in
    let e = get_or-range_with_len 0 n i v within in
    let is = get_or_from_slice_get (range_with_len 0 n) i v v at in
    (omega (arith, e, is), within)

module _ (kernel : Kernel) (valid : IsValid kernel) (conditions : List SigId) (are : AreConditions kernel conditions) (rules : Rules) (are_rules : AreRulesOf kernel rules)
    (list : List Element) (tri : IsTriangle kernel rules.least.items list) (nodes : List Node) (columns : Columns) (held : HoldColumns nodes columns)
    (span : SpanColumns nodes columns (range_with_len 0 (length conditions))) (always : IsRefOf nodes (λ truths. true) columns.always)
    (keeps : (truths : List Bool) → AreValues kernel rules.least.items rules.counted.items rules.defined.items conditions tri.top truths (values_at nodes columns truths))
    (system : SystemView) (is : IsSystemOf kernel rules columns conditions system) where
  abbrev least : List ℕ
  least = rules.least.items

  abbrev size : ℕ
  size = length kernel.signals

  variable : (v : ℕ) → v < length conditions → IsVariable system v
  variable v lt = (let a = is.first in omega (arith, a), let a = is.first in let b = is.variables in omega (arith, a, b, lt))

  over : (r : Ref) → Holds nodes r → Spans nodes r (range_with_len 0 (length conditions)) → IsOver nodes system r
  over r hold spans = record { held = hold; within = λ v d. variable v (within_range (length conditions) v (spans v d)) }

  own_status : (truths : List Bool) (s : ℕ) → status_read nodes truths (present_at columns (slice_index least s)) (truth_ref kernel rules columns s) ≡ value_status least (values_at nodes columns truths) s
  own_status truths s = elim (cases_Bool (is_boolean kernel s)) [
    | inl boolean ↦ ap (λ (b : Bool). status_read nodes truths (present_at columns (slice_index least s)) (if b then truth_at columns s else present_at columns (slice_index least s))) boolean
    | inr other ↦ ap (λ (b : Bool). status_read nodes truths (present_at columns (slice_index least s)) (if b then truth_at columns s else present_at columns (slice_index least s))) other
        ∙ same_where (has least (values_at nodes columns truths) s) (test nodes (truth_at columns s) truths) (let k = keeps truths in k.plain s other)
  ]

  -- what is read off is the reaction that the values are
  pub reading_is : (truths : List Bool) → reading nodes system truths ≡ map (value_status least (values_at nodes columns truths)) (range_with_len 0 size)
  reading_is truths =
      (λ j. statuses_read nodes truths (is.present j) (is.truth j))
      ∙ read_maps nodes truths (λ s. present_at columns (slice_index least s)) (truth_ref kernel rules columns) (range_with_len 0 size)
      ∙ ap (λ (f : ℕ → Status). map f (range_with_len 0 size)) (λ j s. own_status truths s j)

  speaks : (truths : List Bool) → Speaks kernel (reading nodes system truths)
  speaks truths = subst (Speaks kernel) (sym (reading_is truths)) (values_speak kernel valid least rules.counted.items rules.defined.items are_rules conditions list tri truths (values_at nodes columns truths) (keeps truths))

  solution : (truths : List Bool) → IsSolution nodes system truths
  solution truths = (ap (λ (r : Ref). test nodes r truths) is.residue ∙ always.function truths, ap (λ (r : Ref). test nodes r truths) is.speaks ∙ always.function truths)

  -- the one reaction that keeps to a proposal
  only : (r : Reaction) (truths : List Bool) → Speaks kernel r → KeepsTo conditions truths r → reading nodes system truths ≡ r
  only r truths speaks_r kept = reading_is truths
      ∙ one_reaction kernel valid least rules.counted.items rules.defined.items are_rules list tri r speaks_r conditions are truths (values_at nodes columns truths) (keeps truths) kept

  condition_within : (i : ℕ) (c : SigId) → slice_get conditions i ≡ Some c → c.0 < size
  condition_within i c at = boolean_within kernel c.0 (and_parts (is_boolean kernel c.0) (is_free kernel c.0) ((are.all c).0 (contains_at conditions i c at))).0

  reading_at : (truths : List Bool) (s : ℕ) → s < size → status_at (reading nodes system truths) s ≡ value_status least (values_at nodes columns truths) s
  reading_at truths s lt = ap (λ r. status_at r s) (reading_is truths) ∙ get_or-map-range_with_len (value_status least (values_at nodes columns truths)) 0 size s s None lt (omega arith)

  keeps_proposals : (truths : List Bool) → KeepsTo conditions truths (reading nodes system truths)
  keeps_proposals truths v c at = subst (λ s. Allows s (truth_of truths v)) (sym (reading_at truths c.0 (condition_within v c at)))
      (allows_if (has least (values_at nodes columns truths) c.0) (test nodes (truth_at columns c.0) truths) (truth_of truths v) (let k = keeps truths in k.proposals v c at))

  -- a proposal is the variable of its condition's number
  proposal_place : (i v : ℕ) → slice_get system.proposals i ≡ Some v → (v ≡ i) × (i < length conditions)
  proposal_place i v at = range_place (length conditions) i v (ap (λ xs. slice_get xs i) (sym is.proposals) ∙ at)

  proposed_at : (truths : List Bool) (i : ℕ) → i < length conditions → truth_of (proposed system truths) i ≡ truth_of truths i
  proposed_at truths i lt = ap (λ xs. truth_of (map (truth_of truths) xs) i) is.proposals ∙ get_or-map-range_with_len (truth_of truths) 0 (length conditions) i i false lt (omega arith)

  keeps_proposed : (truths : List Bool) → KeepsTo conditions (proposed system truths) (reading nodes system truths)
  keeps_proposed truths i c at = subst (Allows (status_at (reading nodes system truths) c.0)) (sym (proposed_at truths i (slice_get_within conditions i c at))) (keeps_proposals truths i c at)

  abbrev chosen : Reaction → List Bool
  chosen r = map (λ (c : SigId). truth_of_status (status_at r c.0)) conditions

  keeps_chosen : (r : Reaction) → KeepsTo conditions (chosen r) r
  keeps_chosen r v c at =
      let e = get_or_from_slice_get (chosen r) v (truth_of_status (status_at r c.0)) false (slice_get-map (λ (c : SigId). truth_of_status (status_at r c.0)) conditions v ∙ ap (option_map (λ (c : SigId). truth_of_status (status_at r c.0))) at) in
      subst (Allows (status_at r c.0)) (sym e) (allows_own (status_at r c.0))

  keeps_without : (i : ℕ) (condition : SigId) (truths : List Bool) (b : Bool) → slice_get conditions i ≡ Some condition → status_at (reading nodes system truths) condition.0 ≡ None → KeepsTo conditions (with_truth truths i b) (reading nodes system truths)
  keeps_without i condition truths b at absent v c there = elim (cases_eq v i) [
    | inl same ↦
        let both : Some condition ≡ Some c = sym at ∙ ap (slice_get conditions) (sym same) ∙ there in
        let e : condition ≡ c = cc in
        subst (λ s. Allows s (truth_of (with_truth truths i b) v)) (sym (ap (λ (x : SigId). status_at (reading nodes system truths) x.0) (sym e) ∙ absent)) tt
    | inr apart ↦ subst (Allows (status_at (reading nodes system truths) c.0)) (sym (truth_of-with_other truths i b v apart)) (keeps_proposals truths v c there)
  ]

  present_got : (s : ℕ) (r : Ref) → slice_get system.present s ≡ Some r → present_at columns (slice_index least s) ≡ r
  present_got s r at = (got_map_range (λ s. present_at columns (slice_index least s)) size s r (ap (λ xs. slice_get xs s) (sym is.present) ∙ at)).1

  truth_got : (s : ℕ) (r : Ref) → slice_get system.truth s ≡ Some r → truth_ref kernel rules columns s ≡ r
  truth_got s r at = (got_map_range (truth_ref kernel rules columns) size s r (ap (λ xs. slice_get xs s) (sym is.truth) ∙ at)).1

  truth_over : (s : ℕ) → IsOver nodes system (truth_ref kernel rules columns s)
  truth_over s = elim (cases_Bool (is_boolean kernel s)) [
    | inl boolean ↦ subst (IsOver nodes system) (sym (ap (λ (b : Bool). if b then truth_at columns s else present_at columns (slice_index least s)) boolean)) (over (truth_at columns s) (held.truth s) (span.truth s))
    | inr other ↦ subst (IsOver nodes system) (sym (ap (λ (b : Bool). if b then truth_at columns s else present_at columns (slice_index least s)) other)) (over (present_at columns (slice_index least s)) (held.present (slice_index least s)) (span.present (slice_index least s)))
  ]

  always_over : (r : Ref) → r ≡ columns.always → IsOver nodes system r
  always_over r same = subst (IsOver nodes system) (sym same) (record { held = always.holds; within = λ v d. absurd (d.1 (always.function (with_truth d.0 v false) ∙ sym (always.function (with_truth d.0 v true)))) })

  plain_at : (s : ℕ) → is_boolean kernel s ≡ false → (o : Option ℕ) → slice_get system.truth s ≡ slice_get system.present s
  plain_at s other o = ap (λ xs. slice_get xs s) is.truth ∙ elim (cases_lt s size) [
    | inl lt ↦ map_range_got (truth_ref kernel rules columns) size s lt ∙ ap (λ (b : Bool). Some (if b then truth_at columns s else present_at columns (slice_index least s))) other
        ∙ sym (map_range_got (λ s. present_at columns (slice_index least s)) size s lt) ∙ ap (λ xs. slice_get xs s) (sym is.present)
    | inr le ↦ slice_get_past (map (truth_ref kernel rules columns) (range_with_len 0 size)) s (let long = length-map-range_with_len (truth_ref kernel rules columns) 0 size in omega (arith, long, le))
        ∙ sym (slice_get_past system.present s (let long = ap length is.present ∙ length-map-range_with_len (λ s. present_at columns (slice_index least s)) 0 size in omega (arith, long, le)))
  ]

  pub is_system : IsSystem kernel nodes system
  is_system = record {
    presences = ap length is.present ∙ length-map-range_with_len (λ s. present_at columns (slice_index least s)) 0 size;
    truths = ap length is.truth ∙ length-map-range_with_len (truth_ref kernel rules columns) 0 size;
    present = λ s r at. subst (IsOver nodes system) (present_got s r at) (over (present_at columns (slice_index least s)) (held.present (slice_index least s)) (span.present (slice_index least s)));
    truth = λ s r at. subst (IsOver nodes system) (truth_got s r at) (truth_over s);
    residue = always_over system.residue is.residue;
    speaks = always_over system.speaks is.speaks;
    few = λ count counts. let le = conditions_few kernel count counts in let e = is.variables in let same = are.count in omega (arith, le, e, same);
    counted = ap length is.proposals ∙ length-range_with_len 0 (length conditions) ∙ ap length (sym is.listed);
    proposal = λ i v at. let place = proposal_place i v at in variable v (let lt = place.1 in let same = place.0 in omega (arith, lt, same));
    apart = λ i j v at there. sym (proposal_place i v at).0 ∙ (proposal_place j v there).0;
    classes = λ s t ls lt same.
        ap (λ xs. slice_get xs s) is.present ∙ map_range_got (λ s. present_at columns (slice_index least s)) size s ls
        ∙ ap (λ c. Some (present_at columns c)) (least_of_class kernel least are_rules.are_least s t ls lt same)
        ∙ sym (map_range_got (λ s. present_at columns (slice_index least s)) size t lt) ∙ ap (λ xs. slice_get xs t) (sym is.present);
    plain = λ s other. plain_at s other None;
    sound = λ truths solves. speaks truths;
    complete = λ r speaks_r. (chosen r, solution (chosen r), only r (chosen r) speaks_r (keeps_chosen r));
    keeps = λ truths. subst (λ cs. KeepsTo cs (proposed system truths) (reading nodes system truths)) (sym is.listed) (keeps_proposed truths);
    idle = λ i v condition truths b at place solves absent.
        let same = (proposal_place i v place).0 in (
          solution (with_truth truths v b),
          only (reading nodes system truths) (with_truth truths v b) (speaks truths)
              (subst (λ n. KeepsTo conditions (with_truth truths n b) (reading nodes system truths)) (sym same) (keeps_without i condition truths b (ap (λ cs. slice_get cs i) (sym is.listed) ∙ at) absent)),
        );
  }

  pub is_free_system : IsFreeSystem nodes system
  is_free_system = record {
    residue = λ truths. (solution truths).0;
    speaks = λ truths. (solution truths).1;
    first = is.first;
    proposals = is.proposals ∙ ap (λ (cs : List SigId). range_with_len 0 (length cs)) (sym is.listed);
    variables = is.variables ∙ ap length (sym is.listed);
  }
