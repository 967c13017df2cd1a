-- Lemmas on the solutions of a system, and on images of statements on reactions.
use Rattle.sig_solve.proofs.Common.{◌≡◌, ◌≢◌, ◌<◌, ◌≤◌, ◌↔◌, ◌&&◌, inl, inr, ℕ, Bool, true, false, not, List, length, get_or, refl, sym, ap, ◌∙◌, subst, arith, Contains, IsTrue, zero, suc, None, Some, Result, Ok, Err, IfOk, slice_get, if◌then◌else◌, cases_eq, false≢true, SigId, IsValid, Allows, is_condition, signal_id, Reaction, Status, Speaks, is_present, status_at, truth_of, with_truth, Holds, IsRefOf, IsStore, Keeps, Spans, StoreView, test, AgreeBut, IsProduct, DdAnswer, Node, Ref, Depends-of_one, Depends-of_two, ref_depends, product_forgets, product_spanned, truth_of-with_other, truth_of-with_same, AreConditions, IsOver, IsSolution, IsSystem, IsVariable, SystemView, reading, AreProposed, ForgetsAllBut, IsAskedIn, IsImage, IsProposalOf, variables_of, IsFrame, Asked, both_true, not_true, at_contained, contains_at, slice_get-get_or, slice_get_within, test-kept}
use Rattle.sig_solve.proofs.SystemLemmas.{in_variables, keeps_at, of_variables, over_kept, presence_over, presence_read, status_is, truth_over, reading_kept, reading_same, solution_newer, solution_older, solution_same, system_kept}
use Rattle.sig_solve.proofs.TruthLemmas.{is_in, mixed, mixed_at, mixed_outside}

-- ---- functions of the variables

pub over_spans : (nodes : List Node) (system : SystemView) (r : Ref) → IsOver nodes system r → Spans nodes r (variables_of system)
over_spans nodes system r over v d = in_variables system v (over.within v d)

pub over_of : (nodes : List Node) (system : SystemView) (r : Ref) → Holds nodes r → Spans nodes r (variables_of system) → IsOver nodes system r
over_of nodes system r held spans = record { held = held; within = λ v d. of_variables system v (spans v d) }

-- a function of two functions of the variables is one
pub over_two : (old new : List Node) (system : SystemView) (op : Bool → Bool → Bool) (f g r : Ref) → IsOver old system f → IsOver old system g → IsRefOf new (λ ts. op (test old f ts) (test old g ts)) r → IsOver new system r
over_two old new system op f g r over_f over_g is = record {
  held = is.holds;
  within = λ v d. elim (Depends-of_two op (test old f) (test old g) v (ref_depends new (λ ts. op (test old f ts) (test old g ts)) r is v d)) [ inl a ↦ over_f.within v a | inr b ↦ over_g.within v b ];
}

pub over_one : (old new : List Node) (system : SystemView) (op : Bool → Bool) (f r : Ref) → IsOver old system f → IsRefOf new (λ ts. op (test old f ts)) r → IsOver new system r
over_one old new system op f r over_f is = record {
  held = is.holds;
  within = λ v d. over_f.within v (Depends-of_one op (test old f) v (ref_depends new (λ ts. op (test old f ts)) r is v d));
}

pub product_over : (store : StoreView) (has : IsStore store) (system : SystemView) (f g : Ref) → IsOver store.nodes system f → IsOver store.nodes system g → (nodes : List Node) (forgotten : List Bool) (r : Ref)
    → IsProduct nodes forgotten (test store.nodes f) (test store.nodes g) r → IsOver nodes system r
product_over store has system f g over_f over_g nodes forgotten r is =
    over_of nodes system r is.holds
    (product_spanned store has f g over_f.held over_g.held nodes forgotten r is (variables_of system) (over_spans store.nodes system f over_f) (over_spans store.nodes system g over_g))

status_both : (p t : Bool) → IsTrue (p && t) ↔ ((if p then Some t else None) ≡ Some true)
status_both true true = ((λ t. refl), (λ e. refl))
status_both true false = ((λ t. absurd (false≢true t)), (λ e. let f : false ≡ true = cc in f))
status_both false t = ((λ t. absurd (false≢true t)), (λ e. absurd (let none : None ≡ Some true = e in cc)))

status_fails : (p t : Bool) → IsTrue (p && not t) ↔ ((if p then Some t else None) ≡ Some false)
status_fails true true = ((λ t. absurd (false≢true t)), (λ e. let f : true ≡ false = cc in sym f))
status_fails true false = ((λ t. refl), (λ e. refl))
status_fails false t = ((λ t. absurd (false≢true t)), (λ e. absurd (let none : None ≡ Some false = e in cc)))

-- ---- a kernel with its solutions

-- the solutions are where the residue and the speaking are both true
pub asked_is : (old new : StoreView) (kept : Keeps old new) (asked : Asked) → IsStore new → IsValid asked.frame.kernel.now → IsFrame asked.frame → AreConditions asked.frame.kernel.now asked.system.conditions
    → IsSystem asked.frame.kernel.now old.nodes asked.system → IsRefOf new.nodes (λ ts. test old.nodes asked.system.residue ts && test old.nodes asked.system.speaks ts) asked.solutions → IsAskedIn new asked
asked_is old new kept asked has valid parts conditions is made = record {
  has_store = has;
  valid = valid;
  parts = parts;
  conditions = conditions;
  is_system = system_kept old new kept asked.system asked.frame.kernel.now is;
  over = over_two old.nodes new.nodes asked.system (λ x y. x && y) asked.system.residue asked.system.speaks asked.solutions is.residue is.speaks made;
  solutions = λ ts. (
    (λ t. solution_newer old new kept asked.system asked.frame.kernel.now is ts ((both_true (test old.nodes asked.system.residue ts) (test old.nodes asked.system.speaks ts)).0 (sym (made.function ts) ∙ t))),
    (λ solves. made.function ts ∙ (both_true (test old.nodes asked.system.residue ts) (test old.nodes asked.system.speaks ts)).1 (solution_older old new kept asked.system asked.frame.kernel.now is ts solves)),
  );
}

-- and they stay so as the store grows
pub asked_stays : (old new : StoreView) (kept : Keeps old new) (asked : Asked) → IsStore new → IsAskedIn old asked → IsAskedIn new asked
asked_stays old new kept asked has is = record {
  has_store = has;
  valid = is.valid;
  parts = is.parts;
  conditions = is.conditions;
  is_system = system_kept old new kept asked.system asked.frame.kernel.now is.is_system;
  over = over_kept old new kept asked.system asked.solutions is.over;
  solutions = λ ts. (
    (λ t. solution_newer old new kept asked.system asked.frame.kernel.now is.is_system ts ((is.solutions ts).0 (sym (test-kept old new kept asked.solutions is.over.held ts) ∙ t))),
    (λ solves. test-kept old new kept asked.solutions is.over.held ts ∙ (is.solutions ts).1 (solution_older old new kept asked.system asked.frame.kernel.now is.is_system ts solves)),
  );
}

pub are_proposed : (store : StoreView) (asked : Asked) → IsAskedIn store asked → AreProposed asked.system
are_proposed store asked is = record { counted = is.is_system.counted; proposal = is.is_system.proposal; apart = is.is_system.apart }

-- ---- images

module _ (store : StoreView) (asked : Asked) (is : IsAskedIn store asked) where
  -- each product of the solutions and a part is the image of what the part says of a reaction
  pub image_is : (part : Ref) (P : Reaction → Type 0) → ((ts : List Bool) → IsTrue (test store.nodes part ts) ↔ P (reading store.nodes asked.system ts)) → (new : StoreView) → Keeps store new → (forgotten : List Bool) (r : Ref)
      → IsOver new.nodes asked.system r → IsProduct new.nodes forgotten (test store.nodes asked.solutions) (test store.nodes part) r → IsImage new.nodes asked forgotten P r
  image_is part P says new kept forgotten r over product = record {
    over = over;
    forgets = product_forgets new.nodes forgotten (test store.nodes asked.solutions) (test store.nodes part) r product;
    function = λ ts. (
      (λ t.
          let w = (product.function ts).0 t in (
            w.0,
            w.1,
            solution_newer store new kept asked.system asked.frame.kernel.now is.is_system w.0 ((is.solutions w.0).0 w.2),
            subst P (sym (reading_kept store new kept asked.system asked.frame.kernel.now is.is_system w.0)) ((says w.0).0 w.3),
          )),
      (λ w.
          (product.function ts).1 (
            w.0,
            w.1,
            (is.solutions w.0).1 (solution_older store new kept asked.system asked.frame.kernel.now is.is_system w.0 w.2),
            (says w.0).1 (subst P (reading_kept store new kept asked.system asked.frame.kernel.now is.is_system w.0) w.3),
          )),
    );
  }

  pub imaged : (part : Ref) (P : Reaction → Type 0) → ((ts : List Bool) → IsTrue (test store.nodes part ts) ↔ P (reading store.nodes asked.system ts)) → (new : StoreView) → Keeps store new → (forgotten : List Bool) (result : Result Ref DdAnswer)
      → IfOk result (IsOver new.nodes asked.system) → IfOk result (IsProduct new.nodes forgotten (test store.nodes asked.solutions) (test store.nodes part)) → IfOk result (IsImage new.nodes asked forgotten P)
  imaged part P says new kept forgotten (Ok r) over product = image_is part P says new kept forgotten r over product
  imaged part P says new kept forgotten (Err e) over product = tt

  -- the parts of which images are made
  module _ (s : ℕ) (lt : s < length asked.frame.kernel.now.signals) where
    abbrev present : Ref
    present = get_or asked.system.present s asked.system.residue

    abbrev truth : Ref
    truth = get_or asked.system.truth s asked.system.residue

    pub says_present : (ts : List Bool) → IsTrue (test store.nodes (get_or asked.system.present s asked.system.residue) ts) ↔ (is_present (reading store.nodes asked.system ts) s ≡ true)
    says_present ts = let read = presence_read asked.frame.kernel.now store.nodes asked.system is.is_system s lt ts in ((λ t. read ∙ t), (λ p. sym read ∙ p))

    pub present_over : (f : Ref) → f ≡ get_or asked.system.present s asked.system.residue → IsOver store.nodes asked.system f
    present_over f e = subst (IsOver store.nodes asked.system) (sym e) (presence_over asked.frame.kernel.now store.nodes asked.system is.is_system s lt)

    pub truth_is_over : (f : Ref) → f ≡ get_or asked.system.truth s asked.system.residue → IsOver store.nodes asked.system f
    truth_is_over f e = subst (IsOver store.nodes asked.system) (sym e) (truth_over asked.frame.kernel.now store.nodes asked.system is.is_system s lt)

    status_here : (ts : List Bool) → status_at (reading store.nodes asked.system ts) s ≡ (if test store.nodes present ts then Some (test store.nodes truth ts) else None)
    status_here ts = status_is asked.frame.kernel.now store.nodes asked.system is.is_system s lt ts

    module _ (mid : StoreView) (kept : Keeps store mid) where
      pub says_absent : (absent : Ref) → IsRefOf mid.nodes (λ ts. not (test store.nodes (get_or asked.system.present s asked.system.residue) ts)) absent → (ts : List Bool)
          → IsTrue (test mid.nodes absent ts) ↔ (is_present (reading mid.nodes asked.system ts) s ≡ false)
      says_absent absent made ts =
          let read = ap (λ r. is_present r s) (reading_kept store mid kept asked.system asked.frame.kernel.now is.is_system ts) ∙ presence_read asked.frame.kernel.now store.nodes asked.system is.is_system s lt ts in
          ((λ t. read ∙ not_true (test store.nodes present ts) (sym (made.function ts) ∙ t)), (λ p. made.function ts ∙ ap not (sym read ∙ p)))

      -- the solutions without the signal
      pub says_rest : (absent : Ref) → IsRefOf mid.nodes (λ ts. not (test store.nodes (get_or asked.system.present s asked.system.residue) ts)) absent → (hi : StoreView) → Keeps mid hi → (rest : Ref)
          → IsRefOf hi.nodes (λ ts. test mid.nodes asked.solutions ts && test mid.nodes absent ts) rest → (ts : List Bool)
          → IsTrue (test hi.nodes rest ts) ↔ (IsSolution hi.nodes asked.system ts × (is_present (reading hi.nodes asked.system ts) s ≡ false))
      says_rest absent gone hi more rest made ts =
          let is_mid = system_kept store mid kept asked.system asked.frame.kernel.now is.is_system in
          let read = ap (λ r. is_present r s) (reading_kept mid hi more asked.system asked.frame.kernel.now is_mid ts) in
          let both = both_true (test mid.nodes asked.solutions ts) (test mid.nodes absent ts) in
          let same = test-kept store mid kept asked.solutions is.over.held ts in (
            (λ t.
                let parts = both.0 (sym (made.function ts) ∙ t) in (
                  solution_newer mid hi more asked.system asked.frame.kernel.now is_mid ts (solution_newer store mid kept asked.system asked.frame.kernel.now is.is_system ts ((is.solutions ts).0 (sym same ∙ parts.0))),
                  read ∙ (says_absent absent gone ts).0 parts.1,
                )),
            (λ parts.
                made.function ts
                ∙ both.1 (
                  same ∙ (is.solutions ts).1 (solution_older store mid kept asked.system asked.frame.kernel.now is.is_system ts (solution_older mid hi more asked.system asked.frame.kernel.now is_mid ts parts.0)),
                  (says_absent absent gone ts).1 (sym read ∙ parts.1),
                )),
          )

      pub says_true : (holds : Ref) → IsRefOf mid.nodes (λ ts. test store.nodes (get_or asked.system.present s asked.system.residue) ts && test store.nodes (get_or asked.system.truth s asked.system.residue) ts) holds → (ts : List Bool)
          → IsTrue (test mid.nodes holds ts) ↔ (status_at (reading mid.nodes asked.system ts) s ≡ Some true)
      says_true holds made ts =
          let read = ap (λ r. status_at r s) (reading_kept store mid kept asked.system asked.frame.kernel.now is.is_system ts) ∙ status_here ts in
          let both = status_both (test store.nodes present ts) (test store.nodes truth ts) in
          ((λ t. read ∙ both.0 (sym (made.function ts) ∙ t)), (λ p. made.function ts ∙ both.1 (sym read ∙ p)))

      pub says_false : (falsehood : Ref) → IsRefOf mid.nodes (λ ts. not (test store.nodes (get_or asked.system.truth s asked.system.residue) ts)) falsehood → (hi : StoreView) → Keeps mid hi → (fails : Ref)
          → IsRefOf hi.nodes (λ ts. test mid.nodes (get_or asked.system.present s asked.system.residue) ts && test mid.nodes falsehood ts) fails → (ts : List Bool)
          → IsTrue (test hi.nodes fails ts) ↔ (status_at (reading hi.nodes asked.system ts) s ≡ Some false)
      says_false falsehood lie hi more fails made ts =
          let read = ap (λ r. status_at r s) (reading_kept mid hi more asked.system asked.frame.kernel.now (system_kept store mid kept asked.system asked.frame.kernel.now is.is_system) ts
          ∙ reading_kept store mid kept asked.system asked.frame.kernel.now is.is_system ts) ∙ status_here ts in
          let value : test hi.nodes fails ts ≡ (test store.nodes present ts && not (test store.nodes truth ts)) =
          made.function ts ∙ ap (λ b. b && test mid.nodes falsehood ts) (test-kept store mid kept present (presence_over asked.frame.kernel.now store.nodes asked.system is.is_system s lt).held ts) ∙ ap (λ b. test store.nodes present ts && b) (lie.function ts) in
          let both = status_fails (test store.nodes present ts) (test store.nodes truth ts) in
          ((λ t. read ∙ both.0 (sym value ∙ t)), (λ p. value ∙ both.1 (sym read ∙ p)))

  pub image_stays : (new : StoreView) (kept : Keeps store new) (forgotten : List Bool) (P : Reaction → Type 0) (r : Ref) → IsImage store.nodes asked forgotten P r → IsImage new.nodes asked forgotten P r
  image_stays new kept forgotten P r image = record {
    over = over_kept store new kept asked.system r image.over;
    forgets = λ v d. image.forgets v (d.0, λ e. d.1 (test-kept store new kept r image.over.held _ ∙ e ∙ sym (test-kept store new kept r image.over.held _)));
    function = λ ts. (
      (λ t.
          let w = (image.function ts).0 (sym (test-kept store new kept r image.over.held ts) ∙ t) in
          (w.0, w.1, solution_newer store new kept asked.system asked.frame.kernel.now is.is_system w.0 w.2, subst P (sym (reading_kept store new kept asked.system asked.frame.kernel.now is.is_system w.0)) w.3)),
      (λ w.
          test-kept store new kept r image.over.held ts
          ∙ (image.function ts).1 (w.0, w.1, solution_older store new kept asked.system asked.frame.kernel.now is.is_system w.0 w.2, subst P (reading_kept store new kept asked.system asked.frame.kernel.now is.is_system w.0) w.3)),
    );
  }

  pub speaks_read : (ts : List Bool) → IsSolution store.nodes asked.system ts → Speaks asked.frame.kernel.now (reading store.nodes asked.system ts)
  speaks_read ts solves = is.is_system.sound ts solves

  -- the number of a condition, and its variable
  pub number_of : (c : ℕ) → is_condition asked.frame.kernel.now c ≡ true → (i : ℕ) × (slice_get asked.system.conditions i ≡ Some (signal_id c))
  number_of c is_c = let there = (is.conditions.all (signal_id c)).1 is_c in (there.0, at_contained asked.system.conditions (signal_id c) there)

  pub variable_at : (i : ℕ) (c : SigId) → slice_get asked.system.conditions i ≡ Some c → slice_get asked.system.proposals i ≡ Some (get_or asked.system.proposals i 0)
  variable_at i c at = slice_get-get_or asked.system.proposals i 0 (omega (arith, slice_get_within asked.system.conditions i c at, is.is_system.counted))

  -- a variable is the proposal of one condition
  pub one_condition : (v : ℕ) (c d : SigId) → IsProposalOf asked.system v c → IsProposalOf asked.system v d → c ≡ d
  one_condition v c d a b =
      let same : a.0 ≡ b.0 = is.is_system.apart a.0 b.0 v a.2 b.2 in
      let e : Some c ≡ Some d = sym a.1 ∙ ap (slice_get asked.system.conditions) same ∙ b.1 in
      cc

  -- A solution with the proposals of some conditions put in for its own: where it has such a condition, the
  -- proposal is its truth.
  module _ (forgotten : List Bool) (proposals : (v : ℕ) → IsVariable asked.system v → truth_of forgotten v ≡ false → (i : ℕ) × (slice_get asked.system.proposals i ≡ Some v)) (a b : List Bool) (solves : IsSolution store.nodes asked.system b)
      (allowed : (i v : ℕ) (c : SigId) → slice_get asked.system.conditions i ≡ Some c → slice_get asked.system.proposals i ≡ Some v → truth_of forgotten v ≡ false → Allows (status_at (reading store.nodes asked.system b) c.0) (truth_of a v)) where
    abbrev Turned : ℕ → Type 0
    Turned n = (t : List Bool) × IsSolution store.nodes asked.system t × (reading store.nodes asked.system t ≡ reading store.nodes asked.system b)
        × ((i v : ℕ) → i < n → slice_get asked.system.proposals i ≡ Some v → truth_of forgotten v ≡ false → truth_of t v ≡ truth_of a v)

    same_variable : (i v w : ℕ) → slice_get asked.system.proposals i ≡ Some v → slice_get asked.system.proposals i ≡ Some w → v ≡ w
    same_variable i v w at at' = let e : Some v ≡ Some w = sym at ∙ at' in cc

    -- what is proposed holds already
    stays : (n : ℕ) (before : Turned n) (v : ℕ) → slice_get asked.system.proposals n ≡ Some v → (truth_of forgotten v ≡ false → truth_of before.0 v ≡ truth_of a v) → Turned (suc n)
    stays n before v at own = (
      before.0,
      before.1,
      before.2,
      λ i w lt at_i kept. elim (cases_eq i n) [
        | inl e ↦
            let same = same_variable n w v (ap (slice_get asked.system.proposals) (sym e) ∙ at_i) at in
            subst (λ u. truth_of before.0 u ≡ truth_of a u) (sym same) (own (ap (truth_of forgotten) (sym same) ∙ kept))
        | inr ne ↦ before.3 i w (omega (arith, lt, ne)) at_i kept
      ],
    )

    -- or it is put in
    turns : (n : ℕ) (before : Turned n) (v : ℕ) (c : SigId) → slice_get asked.system.proposals n ≡ Some v → slice_get asked.system.conditions n ≡ Some c → status_at (reading store.nodes asked.system before.0) c.0 ≡ None → Turned (suc n)
    turns n before v c at at_c absent =
        let idle = is.is_system.idle n v c before.0 (truth_of a v) at_c at before.1 absent in (
          with_truth before.0 v (truth_of a v),
          idle.0,
          idle.1 ∙ before.2,
          λ i w lt at_i kept. elim (cases_eq i n) [
            | inl e ↦
                let same = same_variable n w v (ap (slice_get asked.system.proposals) (sym e) ∙ at_i) at in
                subst (λ u. truth_of (with_truth before.0 v (truth_of a v)) u ≡ truth_of a u) (sym same) (truth_of-with_same before.0 v (truth_of a v))
            | inr ne ↦
                let apart : w ≢ v = λ e. ne (is.is_system.apart i n v (at_i ∙ ap Some e) at) in
                truth_of-with_other before.0 v (truth_of a v) w apart ∙ before.3 i w (omega (arith, lt, ne)) at_i kept
          ],
        )

    one_more : (n : ℕ) (before : Turned n) (v : ℕ) (c : SigId) → slice_get asked.system.proposals n ≡ Some v → slice_get asked.system.conditions n ≡ Some c → (gone : Bool) → truth_of forgotten v ≡ gone
        → (status : Status) → status_at (reading store.nodes asked.system before.0) c.0 ≡ status → Turned (suc n)
    one_more n before v c at at_c true e status here = stays n before v at (λ kept. absurd (false≢true (sym kept ∙ e)))
    one_more n before v c at at_c false e None here = turns n before v c at at_c here
    one_more n before v c at at_c false e (Some x) here =
        let wanted : Allows (Some x) (truth_of a v) = subst (λ s. Allows s (truth_of a v)) (ap (λ r. status_at r c.0) (sym before.2) ∙ here) (allowed n v c at_c at e) in
        let has : Allows (Some x) (truth_of before.0 v) = subst (λ s. Allows s (truth_of before.0 v)) here (keeps_at asked.frame.kernel.now store.nodes asked.system is.is_system before.0 n v c at_c at) in
        stays n before v at (λ kept. sym has ∙ wanted)

    turned : (n : ℕ) → n ≤ length asked.system.conditions → Turned n
    turned zero le = (b, solves, refl, λ i v lt at kept. absurd (omega (arith, lt)))
    turned (suc n) le =
        let before = turned n (omega (arith, le)) in
        let c = get_or asked.system.conditions n (signal_id 0) in
        let at_c = slice_get-get_or asked.system.conditions n (signal_id 0) (omega (arith, le)) in
        let v = get_or asked.system.proposals n 0 in
        one_more n before v c (variable_at n c at_c) at_c (truth_of forgotten v) refl (status_at (reading store.nodes asked.system before.0) c.0) refl

    pub moved : (o : List Bool) × AgreeBut forgotten a o × IsSolution store.nodes asked.system o × (reading store.nodes asked.system o ≡ reading store.nodes asked.system b)
    moved =
        let end = turned (length asked.system.conditions) (omega arith) in
        let o = mixed (variables_of asked.system) end.0 a in
        let same : (v : ℕ) → IsVariable asked.system v → truth_of o v ≡ truth_of end.0 v = λ v var. mixed_at (variables_of asked.system) end.0 a v (in_variables asked.system v var) in (
          o,
          λ v kept. elim (is_in (variables_of asked.system) v) [
            | inl there ↦
                let var = of_variables asked.system v there in
                let at = proposals v var kept in
                let lt : at.0 < length asked.system.conditions = omega (arith, slice_get_within asked.system.proposals at.0 v at.1, is.is_system.counted) in
                sym (same v var ∙ end.3 at.0 v lt at.1 kept)
            | inr out ↦ mixed_outside (variables_of asked.system) end.0 a v out
          ],
          solution_same asked.frame.kernel.now store is.has_store asked.system is.is_system o end.0 same end.1,
          reading_same asked.frame.kernel.now store is.has_store asked.system is.is_system o end.0 same ∙ end.2,
        )

  -- the variables that are not forgotten are proposals
  pub kept_proposals : (known : List SigId) (forgotten : List Bool) → ForgetsAllBut asked.system known forgotten → (v : ℕ) → IsVariable asked.system v → truth_of forgotten v ≡ false → (i : ℕ) × (slice_get asked.system.proposals i ≡ Some v)
  kept_proposals known forgotten but v var kept = let at = but.others v var kept in (at.2.0, at.2.2)

  -- a variable that is not forgotten is the proposal of a known condition
  pub kept_known : (known : List SigId) (forgotten : List Bool) → ForgetsAllBut asked.system known forgotten → (i v : ℕ) (c : SigId) → slice_get asked.system.conditions i ≡ Some c → slice_get asked.system.proposals i ≡ Some v → truth_of forgotten v ≡ false
      → Contains known c
  kept_known known forgotten but i v c at_c at kept =
      let other = but.others v (is.is_system.proposal i v at) kept in
      subst (Contains known) (one_condition v other.0 c other.2 (i, at_c, at)) other.1

  pub is_condition_at : (i : ℕ) (c : SigId) → slice_get asked.system.conditions i ≡ Some c → is_condition asked.frame.kernel.now c.0 ≡ true
  is_condition_at i c at = (is.conditions.all c).0 (contains_at asked.system.conditions i c at)
