-- Columns that were written by a schedule, with what is left to be met, are the system of a kernel's clocks.
use Rattle.sig_rel.proofs.Common.{◌≡◌, ◌<◌, ◌≤◌, ◌+◌, ◌-◌, inl, inr, ℕ, suc, Bool, true, false, List, [], ◌∷◌, length, get_or, map, Option, None, Some, refl, sym, ap, ◌∙◌, subst, arith, Contains, if◌then◌else◌, IsTrue, is_some, slice_get, slice_index, option_map, list_all, range_with_len, and_parts, cases_Bool, cases_lt, eq-eqb, eqb-true, false≢true, length-map, get_or-range_with_len, length-map-range_with_len, length-range_with_len, get_or_from_slice_get, slice_get-map, slice_get_past, SigId, IsValid, Equation, Kernel, Allows, KeepsTo, is_condition, is_free, IsReaction, Reaction, Speaks, Status, is_present, is_silent, status_at, contains_at, absent_in_silence, truth_of, with_truth, Holds, Spans, test, Node, Ref, truth_ref, number_of, AreUnknowns, IsUnknownCount, IsUsed, is_boolean, truth_in, IsPresentFrom, is_met, Values, has, value_status, IsSchedule, AreSubstituted, Fits, IsCutTruth, HoldColumns, SpanColumns, present_at, truth_at, values_at, AreConditions, IsOver, IsSolution, IsSystem, IsVariable, SystemView, proposed, reading, status_read, statuses_read, Unknowns, Schedule, Columns}
use Rattle.sig_rel.proofs.FreeSystems.{read_maps, same_where, allows_if}
use Rattle.sig_rel.proofs.ScheduledReaction.{agreeing_all}
use Rattle.sig_rel.proofs.ChosenTruths.{choices}
use Rattle.sig_rel.proofs.ClassLemmas.{least_of_class, least_own, least_within}
use Rattle.sig_rel.proofs.FittingTruths.{changed_fits, chosen_fit, reading_fits}
use Rattle.sig_rel.proofs.PlacingLemmas.{past}
use Rattle.sig_rel.proofs.RuleLemmas.{got_map_range, map_range_got}
use Rattle.sig_rel.proofs.UnknownLemmas.{boolean_within}
use Rattle.sig_rel.proofs.ValueReactions.{reaction, reaction_at, reaction_has, reaction_met, values_react}

-- ---- lists

-- some signal of a reaction that is not silent is present
pub someone : (r : Reaction) → is_silent r ≡ false → (k : ℕ) × (k < length r) × (is_present r k ≡ true)
someone [] loud = absurd (false≢true (sym loud))
someone (None ∷ r) loud = let rest = someone r loud in (suc rest.0, omega (arith, rest.1), rest.2)
someone (Some b ∷ r) loud = (0, omega arith, refl)

in_range : (first count v : ℕ) → Contains (range_with_len first count) v → (first ≤ v) × (v < first + count)
in_range first count v there =
    let long = length-range_with_len first count in
    let lt = there.1 in
    let within : there.0 < count = omega (arith, long, lt) in
    let e = get_or-range_with_len first count there.0 v within in
    let is = there.2 in
    (omega (arith, within, e, is), omega (arith, within, e, is))

number_told : (row : Option (Option ℕ)) (v w : ℕ) → row ≡ Some (Some v) → number_of row ≡ w → v ≡ w
number_told row v w at is = sym (ap number_of at) ∙ is

module _ (kernel : Kernel) (valid : IsValid kernel) (conditions : List SigId) (are_conditions : AreConditions kernel conditions) (schedule : Schedule) (sched : IsSchedule kernel schedule)
    (count : ℕ) (unknowns : Unknowns) (are : AreUnknowns kernel count unknowns.present.items unknowns.truth.items) (size_few : (c : ℕ) → IsUnknownCount kernel c → unknowns.end ≤ unknowns.first + c)
    (ordered : unknowns.first ≤ unknowns.end) (between : (v : ℕ) → IsUsed unknowns.present.items unknowns.truth.items v → (unknowns.first ≤ v) × (v < unknowns.end))
    (nodes : List Node) (columns : Columns) (held : HoldColumns nodes columns) (span : SpanColumns nodes columns (range_with_len unknowns.first (unknowns.end - unknowns.first)))
    (all : (truths : List Bool) → AreSubstituted kernel schedule.rules unknowns truths (values_at nodes columns truths)) where
  abbrev least : List ℕ
  least = schedule.rules.least.items

  abbrev size : ℕ
  size = length kernel.signals

  abbrev vs : List ℕ
  vs = range_with_len unknowns.first (unknowns.end - unknowns.first)

  abbrev values : List Bool → Values
  values truths = values_at nodes columns truths

  abbrev seen : List Bool → Reaction
  seen truths = reaction kernel valid least sched.order.named.are_least (values truths) (let a = all truths in a.plain)

  -- values at truths that fit a reaction are that one
  fitting : (r : Reaction) (is : IsReaction kernel r) (truths : List Bool) → Fits kernel schedule.rules unknowns r truths → seen truths ≡ r
  fitting r is truths fits = agreeing_all kernel valid schedule.rules schedule.list.items sched.order r is unknowns truths (values truths) (all truths) fits sched.all_classes sched.all_truths

  has_in : (truths : List Bool) (x : ℕ) → x < size → is_present (seen truths) x ≡ has least (values truths) x
  has_in truths x lt = reaction_has kernel valid least sched.order.named.are_least (values truths) (let a = all truths in a.plain) x lt

  status_in : (truths : List Bool) (x : ℕ) → x < size → status_at (seen truths) x ≡ value_status least (values truths) x
  status_in truths x lt = reaction_at kernel valid least sched.order.named.are_least (values truths) (let a = all truths in a.plain) x lt

  -- ---- the unknown of a condition

  module _ (i : ℕ) (condition : SigId) (at : slice_get conditions i ≡ Some condition) where
    is_one : is_condition kernel condition.0 ≡ true
    is_one = (are_conditions.all condition).0 (contains_at conditions i condition at)

    boolean : is_boolean kernel condition.0 ≡ true
    boolean = (and_parts (is_boolean kernel condition.0) (is_free kernel condition.0) is_one).0

    own_unknown : (v : ℕ) × (slice_get unknowns.truth.items condition.0 ≡ Some (Some v))
    own_unknown = are.some condition.0 boolean

    -- no equation is named for it
    is_cut : IsCutTruth kernel schedule.rules condition.0
    is_cut = (boolean, by (slice_get schedule.rules.defined.items condition.0) refl) where
      by : (o : Option (Option ℕ)) → slice_get schedule.rules.defined.items condition.0 ≡ o → slice_get schedule.rules.defined.items condition.0 ≡ Some None
      by None there = absurd (past schedule.rules.defined.items condition.0 there (let lt = boolean_within kernel condition.0 boolean in let long = sched.order.named.definitions in omega (arith, lt, long)))
      by (Some None) there = there
      by (Some (Some number)) there = let named = sched.order.named.truth condition.0 number there in absurd (false≢true (sym named.4 ∙ is_one))

    own_truth : (truths : List Bool) → (values truths).truth condition.0 ≡ truth_of truths own_unknown.0
    own_truth truths =
        let a = all truths in
        a.cut_truths condition.0 is_cut ∙ ap (truth_in truths) (get_or_from_slice_get unknowns.truth.items condition.0 (Some own_unknown.0) None own_unknown.1)

  -- ---- what is left to be met

  module _ (residue speaks : Ref) (residue_held : Holds nodes residue) (speaks_held : Holds nodes speaks) (residue_span : Spans nodes residue vs) (speaks_span : Spans nodes speaks vs)
      (residue_is : (truths : List Bool) → test nodes residue truths ≡ list_all (λ (equation : Equation). is_met kernel.signals least (values_at nodes columns truths) equation.form) kernel.equations)
      (said : (truths : List Bool) → IsTrue (test nodes speaks truths) → IsPresentFrom nodes least columns truths 0) (says : (truths : List Bool) → IsPresentFrom nodes least columns truths 0 → IsTrue (test nodes speaks truths)) where
    react : (truths : List Bool) → test nodes residue truths ≡ true → IsReaction kernel (seen truths)
    react truths met = values_react kernel valid least sched.order.named.are_least (values truths) (let a = all truths in a.plain) (sym (residue_is truths) ∙ met)

    met_at : (truths : List Bool) → IsReaction kernel (seen truths) → test nodes residue truths ≡ true
    met_at truths is = residue_is truths ∙ reaction_met kernel valid least sched.order.named.are_least (values truths) (let a = all truths in a.plain) is

    loud : (truths : List Bool) → IsTrue (test nodes speaks truths) → is_silent (seen truths) ≡ false
    loud truths some = by (is_silent (seen truths)) refl where
      there : IsPresentFrom nodes least columns truths 0
      there = said truths some

      lt : there.0 < size
      lt = let l = there.2 in let e = sched.order.named.are_least.count in omega (arith, l, e)

      present : is_present (seen truths) there.0 ≡ true
      present = has_in truths there.0 lt ∙ ap (λ c. test nodes (present_at columns c) truths) (eqb-true (slice_index least there.0) there.0 there.3) ∙ there.4

      by : (b : Bool) → is_silent (seen truths) ≡ b → is_silent (seen truths) ≡ false
      by false e = e
      by true e = absurd (false≢true (ap is_some (sym (absent_in_silence (seen truths) there.0 e)) ∙ present))

    -- where the reaction is not silent, some class is present
    spoken : (truths : List Bool) → is_silent (seen truths) ≡ false → IsTrue (test nodes speaks truths)
    spoken truths not_silent =
        let one = someone (seen truths) not_silent in
        let lt : one.0 < size = let l = one.1 in let long = length-map-range_with_len (value_status least (values truths)) 0 size in omega (arith, l, long) in
        let class = get_or least one.0 0 in
        let within = least_within kernel least sched.order.named.are_least one.0 lt in
        says truths (
          class,
          omega arith,
          let e = sched.order.named.are_least.count in omega (arith, within, e),
          eq-eqb (slice_index least class) class (least_own kernel least sched.order.named.are_least one.0 lt),
          sym (has_in truths one.0 lt) ∙ one.2,
        )

    speak : (truths : List Bool) → test nodes residue truths ≡ true → IsTrue (test nodes speaks truths) → Speaks kernel (seen truths)
    speak truths met some = record { is = react truths met; some = loud truths some }

    solved : (truths : List Bool) (r : Reaction) → Speaks kernel r → seen truths ≡ r → (test nodes residue truths ≡ true) × IsTrue (test nodes speaks truths)
    solved truths r speaks_r same = (met_at truths (subst (IsReaction kernel) (sym same) speaks_r.is), spoken truths (ap is_silent same ∙ speaks_r.some))

    -- ---- the system

    module _ (system : SystemView) (is_present_map : system.present ≡ map (λ signal. present_at columns (slice_index least signal)) (range_with_len 0 size))
        (is_truth_map : system.truth ≡ map (truth_ref kernel schedule.rules columns) (range_with_len 0 size)) (is_residue : system.residue ≡ residue) (is_speaks : system.speaks ≡ speaks) (listed : system.conditions ≡ conditions)
        (is_proposals : system.proposals ≡ map (λ (condition : SigId). number_of (slice_get unknowns.truth.items condition.0)) conditions) (is_first : system.first ≡ unknowns.first) (is_variables : system.variables ≡ unknowns.end - unknowns.first) where
      variable : (v : ℕ) → unknowns.first ≤ v → v < unknowns.first + (unknowns.end - unknowns.first) → IsVariable system v
      variable v low high = (let a = is_first in omega (arith, a, low), let a = is_first in let b = is_variables in omega (arith, a, b, high))

      over : (r : Ref) → Holds nodes r → Spans nodes r vs → IsOver nodes system r
      over r hold spans = record { held = hold; within = λ v d. let range = in_range unknowns.first (unknowns.end - unknowns.first) v (spans v d) in variable v range.0 range.1 }

      own_status : (truths : List Bool) (s : ℕ) → status_read nodes truths (present_at columns (slice_index least s)) (truth_ref kernel schedule.rules columns s) ≡ value_status least (values truths) s
      own_status truths s = elim (cases_Bool (is_boolean kernel s)) [
        | inl boolean ↦ ap (λ (b : Bool). status_read nodes truths (present_at columns (slice_index least s)) (if b then truth_at columns s else present_at columns (slice_index least s))) boolean
        | inr other ↦ ap (λ (b : Bool). status_read nodes truths (present_at columns (slice_index least s)) (if b then truth_at columns s else present_at columns (slice_index least s))) other
            ∙ same_where (has least (values truths) s) (test nodes (truth_at columns s) truths) (let a = all truths in a.plain s other)
      ]

      -- what is read off is the reaction that the values are
      reading_is : (truths : List Bool) → reading nodes system truths ≡ seen truths
      reading_is truths =
          (λ j. statuses_read nodes truths (is_present_map j) (is_truth_map j))
          ∙ read_maps nodes truths (λ s. present_at columns (slice_index least s)) (truth_ref kernel schedule.rules columns) (range_with_len 0 size)
          ∙ ap (λ (f : ℕ → Status). map f (range_with_len 0 size)) (λ j s. own_status truths s j)

      solution : (truths : List Bool) → (test nodes residue truths ≡ true) × IsTrue (test nodes speaks truths) → IsSolution nodes system truths
      solution truths both = (ap (λ (r : Ref). test nodes r truths) is_residue ∙ both.0, ap (λ (r : Ref). test nodes r truths) is_speaks ∙ both.1)

      solves : (truths : List Bool) → IsSolution nodes system truths → (test nodes residue truths ≡ true) × IsTrue (test nodes speaks truths)
      solves truths both = (ap (λ (r : Ref). test nodes r truths) (sym is_residue) ∙ both.0, ap (λ (r : Ref). test nodes r truths) (sym is_speaks) ∙ both.1)

      -- the proposal of a condition is its unknown
      proposal_at : (i v : ℕ) → slice_get system.proposals i ≡ Some v → (condition : SigId) × (slice_get conditions i ≡ Some condition) × (slice_get unknowns.truth.items condition.0 ≡ Some (Some v))
      proposal_at i v at = by (slice_get conditions i) refl (sym (slice_get-map (λ (condition : SigId). number_of (slice_get unknowns.truth.items condition.0)) conditions i) ∙ ap (λ xs. slice_get xs i) (sym is_proposals) ∙ at) where
        by : (o : Option SigId) → slice_get conditions i ≡ o → option_map (λ (condition : SigId). number_of (slice_get unknowns.truth.items condition.0)) o ≡ Some v
            → (condition : SigId) × (slice_get conditions i ≡ Some condition) × (slice_get unknowns.truth.items condition.0 ≡ Some (Some v))
        by None there is = absurd (let no : None ≡ Some v = is in cc)
        by (Some condition) there is =
            let u = own_unknown i condition there in
            let number : number_of (slice_get unknowns.truth.items condition.0) ≡ v = cc in
            let same : u.0 ≡ v = number_told (slice_get unknowns.truth.items condition.0) u.0 v u.1 number in
            (condition, there, subst (λ n. slice_get unknowns.truth.items condition.0 ≡ Some (Some n)) same u.1)

      own_proposal : (i : ℕ) (condition : SigId) (at : slice_get conditions i ≡ Some condition) → slice_get system.proposals i ≡ Some (own_unknown i condition at).0
      own_proposal i condition at =
          let u = own_unknown i condition at in
          ap (λ xs. slice_get xs i) is_proposals ∙ slice_get-map (λ (condition : SigId). number_of (slice_get unknowns.truth.items condition.0)) conditions i
          ∙ ap (option_map (λ (condition : SigId). number_of (slice_get unknowns.truth.items condition.0))) at ∙ ap (λ o. Some (number_of o)) u.1

      present_got : (s : ℕ) (r : Ref) → slice_get system.present s ≡ Some r → present_at columns (slice_index least s) ≡ r
      present_got s r at = (got_map_range (λ s. present_at columns (slice_index least s)) size s r (ap (λ xs. slice_get xs s) (sym is_present_map) ∙ at)).1

      truth_got : (s : ℕ) (r : Ref) → slice_get system.truth s ≡ Some r → truth_ref kernel schedule.rules columns s ≡ r
      truth_got s r at = (got_map_range (truth_ref kernel schedule.rules columns) size s r (ap (λ xs. slice_get xs s) (sym is_truth_map) ∙ at)).1

      truth_over : (s : ℕ) → IsOver nodes system (truth_ref kernel schedule.rules columns s)
      truth_over s = elim (cases_Bool (is_boolean kernel s)) [
        | inl boolean ↦ subst (IsOver nodes system) (sym (ap (λ (b : Bool). if b then truth_at columns s else present_at columns (slice_index least s)) boolean)) (over (truth_at columns s) (held.truth s) (span.truth s))
        | inr other ↦ subst (IsOver nodes system) (sym (ap (λ (b : Bool). if b then truth_at columns s else present_at columns (slice_index least s)) other))
            (over (present_at columns (slice_index least s)) (held.present (slice_index least s)) (span.present (slice_index least s)))
      ]

      plain_at : (s : ℕ) → is_boolean kernel s ≡ false → slice_get system.truth s ≡ slice_get system.present s
      plain_at s other = ap (λ xs. slice_get xs s) is_truth_map ∙ elim (cases_lt s size) [
        | inl lt ↦ map_range_got (truth_ref kernel schedule.rules columns) size s lt ∙ ap (λ (b : Bool). Some (if b then truth_at columns s else present_at columns (slice_index least s))) other
            ∙ sym (map_range_got (λ s. present_at columns (slice_index least s)) size s lt) ∙ ap (λ xs. slice_get xs s) (sym is_present_map)
        | inr le ↦ slice_get_past (map (truth_ref kernel schedule.rules columns) (range_with_len 0 size)) s (let long = length-map-range_with_len (truth_ref kernel schedule.rules columns) 0 size in omega (arith, long, le))
            ∙ sym (slice_get_past system.present s (let long = ap length is_present_map ∙ length-map-range_with_len (λ s. present_at columns (slice_index least s)) 0 size in omega (arith, long, le)))
      ]

      completed : (r : Reaction) → Speaks kernel r → (truths : List Bool) × IsSolution nodes system truths × (reading nodes system truths ≡ r)
      completed r speaks_r =
          let truths = choices kernel count unknowns.present.items unknowns.truth.items are r speaks_r.is in
          let same = fitting r speaks_r.is truths (chosen_fit kernel schedule.rules count unknowns are r speaks_r.is) in
          (truths, solution truths (solved truths r speaks_r same), reading_is truths ∙ same)

      kept : (truths : List Bool) → KeepsTo conditions (proposed system truths) (reading nodes system truths)
      kept truths i condition at =
          let u = own_unknown i condition at in
          let lt = boolean_within kernel condition.0 (boolean i condition at) in
          let proposal : truth_of (proposed system truths) i ≡ truth_of truths u.0 =
          get_or_from_slice_get (proposed system truths) i (truth_of truths u.0) false (slice_get-map (truth_of truths) system.proposals i ∙ ap (option_map (truth_of truths)) (own_proposal i condition at)) in
          subst (λ s. Allows s (truth_of (proposed system truths) i)) (sym (ap (λ r. status_at r condition.0) (reading_is truths) ∙ status_in truths condition.0 lt))
          (allows_if (has least (values truths) condition.0) ((values truths).truth condition.0) (truth_of (proposed system truths) i) (own_truth i condition at truths ∙ sym proposal))

      idle_at : (i v : ℕ) (condition : SigId) (truths : List Bool) (b : Bool) → slice_get conditions i ≡ Some condition → slice_get system.proposals i ≡ Some v → IsSolution nodes system truths → status_at (reading nodes system truths) condition.0 ≡ None
          → IsSolution nodes system (with_truth truths v b) × (reading nodes system (with_truth truths v b) ≡ reading nodes system truths)
      idle_at i v condition truths b at proposal sol absent =
          let own = proposal_at i v proposal in
          let both : Some own.0 ≡ Some condition = sym own.1 ∙ at in
          let one : own.0 ≡ condition = cc in
          let there : slice_get unknowns.truth.items condition.0 ≡ Some (Some v) = subst (λ (c : SigId). slice_get unknowns.truth.items c.0 ≡ Some (Some v)) one own.2 in
          let parts = solves truths sol in
          let speaks_here = speak truths parts.0 parts.1 in
          let absent_here : status_at (seen truths) condition.0 ≡ None = ap (λ r. status_at r condition.0) (sym (reading_is truths)) ∙ absent in
          let fits = changed_fits kernel schedule.rules count unknowns are (seen truths) truths (reading_fits kernel schedule.rules count unknowns are valid sched.order.named.are_least truths (values truths) (all truths)) condition.0 v b there absent_here in
          let same = fitting (seen truths) speaks_here.is (with_truth truths v b) fits in
          (solution (with_truth truths v b) (solved (with_truth truths v b) (seen truths) speaks_here same), reading_is (with_truth truths v b) ∙ same ∙ sym (reading_is truths))

      pub is_system : IsSystem kernel nodes system
      is_system = record {
        presences = ap length is_present_map ∙ length-map-range_with_len (λ s. present_at columns (slice_index least s)) 0 size;
        truths = ap length is_truth_map ∙ length-map-range_with_len (truth_ref kernel schedule.rules columns) 0 size;
        present = λ s r at. subst (IsOver nodes system) (present_got s r at) (over (present_at columns (slice_index least s)) (held.present (slice_index least s)) (span.present (slice_index least s)));
        truth = λ s r at. subst (IsOver nodes system) (truth_got s r at) (truth_over s);
        residue = subst (IsOver nodes system) (sym is_residue) (over residue residue_held residue_span);
        speaks = subst (IsOver nodes system) (sym is_speaks) (over speaks speaks_held speaks_span);
        few = λ c counts. let le = size_few c counts in let e = is_variables in omega (arith, le, e);
        counted = ap length is_proposals ∙ length-map conditions (λ (condition : SigId). number_of (slice_get unknowns.truth.items condition.0)) ∙ ap length (sym listed);
        proposal = λ i v at.
            let own = proposal_at i v at in
            let in_between = between v (inr (own.0.0, own.2)) in
            variable v in_between.0 (let high = in_between.1 in let low = ordered in omega (arith, high, low));
        apart = λ i j v at there.
            let a = proposal_at i v at in
            let b = proposal_at j v there in
            let same : a.0.0 ≡ b.0.0 = are.apart a.0.0 b.0.0 v a.2 b.2 in
            are_conditions.once i j a.0 a.1 (b.1 ∙ ap Some (sym (λ k. record { 0 = same k })));
        classes = λ s t ls lt same.
            ap (λ xs. slice_get xs s) is_present_map ∙ map_range_got (λ s. present_at columns (slice_index least s)) size s ls
            ∙ ap (λ c. Some (present_at columns c)) (least_of_class kernel least sched.order.named.are_least s t ls lt same)
            ∙ sym (map_range_got (λ s. present_at columns (slice_index least s)) size t lt) ∙ ap (λ xs. slice_get xs t) (sym is_present_map);
        plain = λ s other. plain_at s other;
        sound = λ truths sol. let parts = solves truths sol in subst (Speaks kernel) (sym (reading_is truths)) (speak truths parts.0 parts.1);
        complete = completed;
        keeps = λ truths. subst (λ cs. KeepsTo cs (proposed system truths) (reading nodes system truths)) (sym listed) (kept truths);
        idle = λ i v condition truths b at proposal sol absent. idle_at i v condition truths b (ap (λ cs. slice_get cs i) (sym listed) ∙ at) proposal sol absent;
      }
