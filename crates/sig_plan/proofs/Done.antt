-- What is done at a reaction that keeps to a proposal: the signals that are there, and these alone, are written, each once; and
-- what is read is there.
use Rattle.sig_plan.proofs.Common.{◌≡◌, ◌≢◌, ◌<◌, ◌≤◌, ◌+◌, ◌⊎◌, inl, inr, ◌&&◌, ◌||◌, ℕ, Bool, true, false, not, cond, List, [], ◌∷◌, ◌++◌, length, map, get_or, refl, sym, ap, ◌∙◌, subst, arith, Contains, zero, suc, All, None, Option, Some, is_some, slice_get, ◌==◌, count_by, list_all, range_with_len, and_parts, cases_order, eqb-false, eqb-true, false≢true, All-cons, All-contains, All-nil, EqId, SigId, statuses_are_same, truths_are_same, KeepsTo, signal_id, IsReaction, Reaction, Speaks, Status, function_truth, has_truth, is_present, is_with, meets, or_else, same_truth, status_at, where_true, target_of, IsValid, defines, form_within, is_target, Equation, Form, Fun, Delay, When, WhenConst, Default, Sync, Event, Operand, Sig, Const, Kernel, HasOperations, Operation, Presence, equation_id, of_each, operations_of, read_of, signals_of, store_of, stores_of, without, writes_of, writing, Writes, OpKind, Compute, Left, Right, DelayRead, contains_at, contains_cons, contains_none}
use Rattle.sig_plan.proofs.Counts.{counted, fold_tally, found, one_of, one_place, scaled, scaled_none, scaled_one, tally, tally_append, tally_cons, tally_none}
use Rattle.sig_plan.proofs.Indices.{written_below}
use Rattle.sig_plan.proofs.EachOperation.{each_operation, first_below, only, operands_below, second_below, target_below}

-- the operation writes the signal, and its guard is true
pub does : SigId → List Bool → Operation → Bool
does x proposal p = is_target x.0 p.writes && p.guard proposal

single_of : (b g r : Bool) → (b ≡ true → g ≡ r) → one_of (b && g) ≡ cond b (one_of r) 0
single_of true g r same = ap one_of (same refl)
single_of false g r same = refl

two_of : (b gu gv r : Bool) → (b ≡ true → (gu || gv) ≡ r) → one_of (b && gu) + one_of (b && (gv && not gu)) ≡ cond b (one_of r) 0
two_of false gu gv r same = refl
two_of true true true r same = ap one_of (same refl)
two_of true true false r same = ap one_of (same refl)
two_of true false true r same = ap one_of (same refl)
two_of true false false r same = ap one_of (same refl)

or_else_present : (a b : Status) → is_some (or_else a b) ≡ (is_some a || is_some b)
or_else_present None b = refl
or_else_present (Some u) b = refl

where_true_present : (b x : Status) → is_some (where_true b x) ≡ true → is_some x ≡ true
where_true_present (Some true) x is = is
where_true_present _ x is = absurd (false≢true is)

operands_present : (reaction : Reaction) (present : Bool) (operands : List Operand) (x : SigId) → list_all (is_with reaction present) operands ≡ true → Contains (signals_of operands) x → present ≡ is_present reaction x.0
operands_present reaction present [] x all there = absurd (contains_none x there)
operands_present reaction present (Sig z ∷ operands) x all there =
    let parts = and_parts (same_truth present (is_present reaction z.0)) (list_all (is_with reaction present) operands) all in
    elim (contains_cons z x (signals_of operands) there) [
      | inl is ↦ truths_are_same present (is_present reaction z.0) parts.0 ∙ ap (λ (y : SigId). is_present reaction y.0) (sym is)
      | inr later ↦ operands_present reaction present operands x parts.1 later
    ]
operands_present reaction present (Const c ∷ operands) x all there = operands_present reaction present operands x (and_parts true (list_all (is_with reaction present) operands) all).1 there

module _ (kernel : Kernel) (presence : Presence) (proposal : List Bool) (reaction : Reaction) (at : (x : SigId) → x.0 < length kernel.signals → is_present reaction x.0 ≡ presence x proposal) where
  Made : Form → Type 0
  Made form = (form_within (length kernel.signals) form ≡ true) × (meets kernel.signals reaction form ≡ true)

  -- ---- what is read

  abbrev ReadsPresent : Operation → Type 0
  ReadsPresent p = p.guard proposal ≡ true → (x : SigId) → Contains p.reads x → is_present reaction x.0 ≡ true

  only_read : (x y : SigId) → Contains (y ∷ []) x → x ≡ y
  only_read x y there = elim (contains_cons y x [] there) [ inl is ↦ is | inr none ↦ absurd (contains_none x none) ]

  reads_one : (y x : SigId) → Contains (y ∷ []) x → is_present reaction y.0 ≡ true → is_present reaction x.0 ≡ true
  reads_one y x there is = ap (λ (z : SigId). is_present reaction z.0) (only_read x y there) ∙ is

  writes_read : (number : EqId) (form : Form) → Made form → All ReadsPresent (writes_of kernel.signals presence number form)
  unfolding Made
  writes_read number (Fun y op operands) (within, is) =
      let parts = and_parts (list_all (is_with reaction (is_present reaction y.0)) operands) (has_truth (status_at reaction y.0) (function_truth kernel.signals reaction op operands)) is in
      let there = at y (target_below (length kernel.signals) (Fun y op operands) y within refl) in
      only ReadsPresent _ (λ done x among. sym (operands_present reaction (is_present reaction y.0) operands x parts.0 among) ∙ (there ∙ done))
  writes_read number (When y x b) (within, is) =
      let there = at y (target_below (length kernel.signals) (When y x b) y within refl) in
      only ReadsPresent _ (λ done z among.
      reads_one x z among (where_true_present (status_at reaction b.0) (status_at reaction x.0) (sym (statuses_are_same (status_at reaction y.0) (where_true (status_at reaction b.0) (status_at reaction x.0)) is) ∙ (there ∙ done))))
  writes_read number (Sync x y) (within, is) = All-nil ReadsPresent
  writes_read number (Default y u v) (within, is) =
      let operands = operands_below (length kernel.signals) (Default y u v) within in
      let there_u = at u (first_below (length kernel.signals) u _ operands) in
      let there_v = at v (second_below (length kernel.signals) u v operands) in
      All-cons ReadsPresent (writing kernel.signals number Left (presence u) y (u ∷ [])) (writing kernel.signals number Right (without (presence v) (presence u)) y (v ∷ []) ∷ [])
      (λ done x among. reads_one u x among (there_u ∙ done))
      (only ReadsPresent _ (λ done x among. reads_one v x among (there_v ∙ (and_parts (presence v proposal) (not (presence u proposal)) done).0)))
  writes_read number _ (within, is) = only ReadsPresent _ (λ done z among. absurd (contains_none z among))

  stores_read : (number : EqId) (form : Form) → Made form → All ReadsPresent (stores_of kernel.signals presence number form)
  unfolding Made
  stores_read number (Delay y x initial) (within, is) =
      let there = at x (first_below (length kernel.signals) x _ (operands_below (length kernel.signals) (Delay y x initial) within)) in
      only ReadsPresent _ (λ done z among. reads_one x z among (there ∙ done))
  stores_read number _ (within, is) = All-nil ReadsPresent

  module _ (valid : IsValid kernel) (is : IsReaction kernel reaction) where
    each_made : (k : ℕ) (d : Equation) → k < length kernel.equations → Made (get_or kernel.equations k d).form
    unfolding Made
    each_made k d lt = (valid.equations.within k d lt, is.equations k d lt)

    pub all_read : All ReadsPresent (operations_of kernel presence)
    all_read = each_operation ReadsPresent kernel presence (λ number form. Made form) each_made (λ number lt. λ done z among. absurd (contains_none z among)) writes_read stores_read

  -- ---- what is written

  module _ (x : SigId) where
    here : ℕ
    here = cond (is_present reaction x.0) 1 0

    same_signal : (y : SigId) → y.0 ≡ x.0 → is_present reaction y.0 ≡ is_present reaction x.0
    same_signal y same = ap (is_present reaction) same

    tally_one : (p : Operation) → tally (does x proposal) (p ∷ []) ≡ cond (is_target x.0 p.writes && p.guard proposal) 1 0
    unfolding does
    tally_one p = let more = tally_cons (does x proposal) p [] in let none = tally_none (does x proposal) in omega (arith, more, none)

    tally_two : (p q : Operation) → tally (does x proposal) (p ∷ q ∷ []) ≡ cond (is_target x.0 p.writes && p.guard proposal) 1 0 + cond (is_target x.0 q.writes && q.guard proposal) 1 0
    unfolding does
    tally_two p q = let more = tally_cons (does x proposal) p (q ∷ []) in let last = tally_one q in omega (arith, more, last)

    written_once : (number : EqId) (kind : OpKind) (y : SigId) (reads : List SigId) → y.0 < length kernel.signals
        → tally (does x proposal) (writing kernel.signals number kind (presence y) y reads ∷ []) ≡ cond (is_target x.0 (Some y)) here 0
    unfolding here
    written_once number kind y reads lt =
        tally_one (writing kernel.signals number kind (presence y) y reads)
        ∙ single_of (y.0 == x.0) (presence y proposal) (is_present reaction x.0) (λ same. sym (at y lt) ∙ same_signal y (eqb-true y.0 x.0 same))

    form_tally : (number : EqId) (form : Form) → Made form → tally (does x proposal) (writes_of kernel.signals presence number form) ≡ cond (is_target x.0 (target_of form)) here 0
    unfolding Made here
    form_tally number (Fun y op operands) (within, is) = written_once number Compute y (signals_of operands) (target_below (length kernel.signals) (Fun y op operands) y within refl)
    form_tally number (When y z b) (within, is) = written_once number Compute y (z ∷ []) (target_below (length kernel.signals) (When y z b) y within refl)
    form_tally number (WhenConst y constant b) (within, is) = written_once number Compute y [] (target_below (length kernel.signals) (WhenConst y constant b) y within refl)
    form_tally number (Event y z) (within, is) = written_once number Compute y [] (target_below (length kernel.signals) (Event y z) y within refl)
    form_tally number (Delay y z initial) (within, is) = written_once number DelayRead y [] (target_below (length kernel.signals) (Delay y z initial) y within refl)
    form_tally number (Sync y z) (within, is) = tally_none (does x proposal)
    form_tally number (Default y u v) (within, is) =
        let operands = operands_below (length kernel.signals) (Default y u v) within in
        let there_u = at u (first_below (length kernel.signals) u _ operands) in
        let there_v = at v (second_below (length kernel.signals) u v operands) in
        let merged : is_present reaction y.0 ≡ (is_present reaction u.0 || is_present reaction v.0) =
        statuses_are_same (status_at reaction y.0) (or_else (status_at reaction u.0) (status_at reaction v.0)) is ∙ or_else_present (status_at reaction u.0) (status_at reaction v.0) in
        tally_two (writing kernel.signals number Left (presence u) y (u ∷ [])) (writing kernel.signals number Right (without (presence v) (presence u)) y (v ∷ []))
        ∙ two_of (y.0 == x.0) (presence u proposal) (presence v proposal) (is_present reaction x.0)
        (λ same. sym (λ j. there_u j || there_v j) ∙ (sym merged ∙ same_signal y (eqb-true y.0 x.0 same)))

    stores_tally : (number : EqId) (form : Form) → tally (does x proposal) (stores_of kernel.signals presence number form) ≡ 0
    stores_tally number (Delay y z initial) = tally_one (store_of kernel.signals presence number y z)
    stores_tally number _ = tally_none (does x proposal)

    all_stores : (n : ℕ) (equations : List Equation) → tally (does x proposal) (of_each (stores_of kernel.signals presence) n equations) ≡ 0
    all_stores n [] = tally_none (does x proposal)
    all_stores n (equation ∷ equations) =
        let both = tally_append (does x proposal) (stores_of kernel.signals presence (equation_id n) equation.form) (of_each (stores_of kernel.signals presence) (n + 1) equations) in
        let first = stores_tally (equation_id n) equation.form in
        let rest = all_stores (n + 1) equations in
        omega (arith, both, first, rest)

    all_writes : (n : ℕ) (equations : List Equation) → ((k : ℕ) (d : Equation) → k < length equations → Made (get_or equations k d).form)
        → tally (does x proposal) (of_each (writes_of kernel.signals presence) n equations) ≡ scaled here (defines x.0) equations
    unfolding scaled
    all_writes n [] each = tally_none (does x proposal)
    all_writes n (equation ∷ equations) each =
        let both = tally_append (does x proposal) (writes_of kernel.signals presence (equation_id n) equation.form) (of_each (writes_of kernel.signals presence) (n + 1) equations) in
        let first = form_tally (equation_id n) equation.form (each 0 equation (omega arith)) in
        let rest = all_writes (n + 1) equations (λ k d lt. each (suc k) d (omega (arith, lt))) in
        omega (arith, both, first, rest)

    abbrev reads : ℕ → ℕ → List Operation
    reads a n = map (λ number. read_of kernel.signals presence (signal_id number)) (range_with_len a n)

    not_it : (a : ℕ) (b : Bool) → (a == x.0) ≡ b → a ≢ x.0 → one_of ((a == x.0) && presence (signal_id a) proposal) ≡ 0
    not_it a true is apart = absurd (apart (eqb-true a x.0 is))
    not_it a false is apart = ap (λ b. one_of (b && presence (signal_id a) proposal)) is

    it : (a : ℕ) (b : Bool) → (a == x.0) ≡ b → a ≡ x.0 → a < length kernel.signals → one_of ((a == x.0) && presence (signal_id a) proposal) ≡ here
    unfolding here
    it a true is same lt = ap (λ b. one_of (b && presence (signal_id a) proposal)) is ∙ ap one_of (sym (at (signal_id a) lt) ∙ same_signal (signal_id a) same)
    it a false is same lt = absurd (eqb-false a x.0 is same)

    read_first : (a n : ℕ) → tally (does x proposal) (reads a (suc n)) ≡ cond ((a == x.0) && presence (signal_id a) proposal) 1 0 + tally (does x proposal) (reads (a + 1) n)
    unfolding does
    read_first a n = tally_cons (does x proposal) (read_of kernel.signals presence (signal_id a)) (reads (a + 1) n)

    reads_other : (a n : ℕ) → (x.0 < a) ⊎ (a + n ≤ x.0) → tally (does x proposal) (reads a n) ≡ 0
    reads_other a zero apart = tally_none (does x proposal)
    reads_other a (suc n) apart =
        let first = read_first a n in
        let none = not_it a (a == x.0) refl (λ same. elim apart [ inl less ↦ omega (arith, same, less) | inr more ↦ omega (arith, same, more) ]) in
        let rest = reads_other (a + 1) n (elim apart [ inl less ↦ inl (omega (arith, less)) | inr more ↦ inr (omega (arith, more)) ]) in
        omega (arith, first, none, rest)

    reads_it : (a n : ℕ) → a ≤ x.0 → x.0 < a + n → a + n ≤ length kernel.signals → tally (does x proposal) (reads a n) ≡ here
    reads_it a zero above below most = absurd (omega (arith, above, below))
    reads_it a (suc n) above below most = by (cases_order a x.0) (reads_it (a + 1) n)
      where
        by : ((a ≡ x.0) ⊎ ((a < x.0) ⊎ (x.0 < a))) → (a + 1 ≤ x.0 → x.0 < a + 1 + n → a + 1 + n ≤ length kernel.signals → tally (does x proposal) (reads (a + 1) n) ≡ here) → tally (does x proposal) (reads a (suc n)) ≡ here
        by (inl same) later =
            let first = read_first a n in
            let one = it a (a == x.0) refl same (omega (arith, most)) in
            let rest = reads_other (a + 1) n (inl (omega (arith, same))) in
            omega (arith, first, one, rest)
        by (inr (inl less)) later =
            let first = read_first a n in
            let none = not_it a (a == x.0) refl (λ same. omega (arith, same, less)) in
            let rest = later (omega (arith, less)) (omega (arith, below)) (omega (arith, most)) in
            omega (arith, first, none, rest)
        by (inr (inr more)) later = absurd (omega (arith, more, above))

    module _ (valid : IsValid kernel) (is : IsReaction kernel reaction) (within : x.0 < length kernel.signals) where
      defined : tally (defines x.0) kernel.equations ≡ count_by (defines x.0) kernel.equations
      defined = let folded = fold_tally (defines x.0) 0 kernel.equations in omega (arith, folded)

      whole : tally (does x proposal) (operations_of kernel presence) ≡ tally (does x proposal) (reads 0 kernel.inputs) + scaled here (defines x.0) kernel.equations
      whole =
          let outer = tally_append (does x proposal) (reads 0 kernel.inputs ++ of_each (writes_of kernel.signals presence) 0 kernel.equations) (of_each (stores_of kernel.signals presence) 0 kernel.equations) in
          let inner = tally_append (does x proposal) (reads 0 kernel.inputs) (of_each (writes_of kernel.signals presence) 0 kernel.equations) in
          let writes = all_writes 0 kernel.equations (each_made valid is) in
          let stores = all_stores 0 kernel.equations in
          omega (arith, outer, inner, writes, stores)

      -- an operation that writes a signal is done where the signal is there, and one alone
      pub done_once : tally (does x proposal) (operations_of kernel presence) ≡ cond (is_present reaction x.0) 1 0
      unfolding here
      done_once = by (cases_order x.0 kernel.inputs)
        where
          local : kernel.inputs ≤ x.0 → tally (does x proposal) (operations_of kernel presence) ≡ here
          local le =
              let none = reads_other 0 kernel.inputs (inr (omega (arith, le))) in
              let count = valid.defined.others x.0 le within in
              let one = scaled_one (defines x.0) here kernel.equations (defined ∙ count) in
              omega (arith, whole, none, one)

          by : ((x.0 ≡ kernel.inputs) ⊎ ((x.0 < kernel.inputs) ⊎ (kernel.inputs < x.0))) → tally (does x proposal) (operations_of kernel presence) ≡ here
          by (inl same) = local (omega (arith, same))
          by (inr (inr more)) = local (omega (arith, more))
          by (inr (inl less)) =
              let one = reads_it 0 kernel.inputs (omega arith) (omega (arith, less)) (omega (arith, valid.parts.interface, valid.parts.declared)) in
              let count = valid.defined.inputs x.0 less in
              let none = scaled_none (defines x.0) here kernel.equations (defined ∙ count) in
              omega (arith, whole, one, none)

-- ---- the operations of a kernel with clocks

module _ (kernel : Kernel) (valid : IsValid kernel) (conditions : List SigId) (operations : List Operation) (has : HasOperations kernel conditions operations) (proposal : List Bool) (reaction : Reaction) (speaks : Speaks kernel reaction) (keeps : KeepsTo conditions proposal reaction) where
  at_signal : (x : SigId) → x.0 < length kernel.signals → is_present reaction x.0 ≡ has.presence x proposal
  at_signal x within = has.functions x.0 within proposal reaction speaks keeps

  tally_is : (x : SigId) → x.0 < length kernel.signals → tally (does x proposal) operations ≡ cond (is_present reaction x.0) 1 0
  tally_is x within = ap (tally (does x proposal)) has.are ∙ done_once kernel has.presence proposal reaction at_signal x valid speaks.is within

  itself : (x : SigId) → (x.0 == x.0) ≡ true
  itself x = by (x.0 == x.0) refl
    where
      by : (b : Bool) → (x.0 == x.0) ≡ b → (x.0 == x.0) ≡ true
      by true is = is
      by false is = absurd (eqb-false x.0 x.0 is refl)

  does_it : (p : Operation) (x : SigId) → Writes p x → p.guard proposal ≡ true → does x proposal p ≡ true
  unfolding does
  does_it p x writes done = ap (λ w. is_target x.0 w && p.guard proposal) writes ∙ (ap (λ b. b && p.guard proposal) (itself x) ∙ done)

  writes_of_target : (o : Option SigId) (x : SigId) → is_target x.0 o ≡ true → o ≡ Some x
  writes_of_target None x is = absurd (false≢true is)
  writes_of_target (Some y) x is = let same = eqb-true y.0 x.0 is in λ j. Some (record { 0 = same j })

  -- a signal that is there is written by an operation that is done
  pub present_written : (x : SigId) → x.0 < length kernel.signals → is_present reaction x.0 ≡ true → (number : ℕ) × (p : Operation) × (slice_get operations number ≡ Some p) × Writes p x × (p.guard proposal ≡ true)
  unfolding does
  present_written x within present =
      let count = tally_is x within ∙ ap one_of present in
      let there = found (does x proposal) operations (omega (arith, count)) in
      let parts = and_parts (is_target x.0 there.1.writes) (there.1.guard proposal) there.3 in
      (there.0, there.1, there.2, writes_of_target there.1.writes x parts.0, parts.1)

  present_of_count : (b : Bool) → 1 ≤ cond b 1 0 → b ≡ true
  present_of_count true most = refl
  present_of_count false most = absurd (omega (arith, most))

  at_most_one : (b : Bool) → cond b 1 0 ≤ 1
  at_most_one true = omega arith
  at_most_one false = omega arith

  -- and what is done writes signals that are there
  pub written_present : (number : ℕ) (p : Operation) (x : SigId) → slice_get operations number ≡ Some p → Writes p x → p.guard proposal ≡ true → is_present reaction x.0 ≡ true
  written_present number p x is writes done =
      let within = written_below kernel valid conditions operations has number p is x writes in
      let one = counted (does x proposal) operations number p is (does_it p x writes done) in
      present_of_count (is_present reaction x.0) (omega (arith, one, tally_is x within))

  -- one operation alone
  pub written_by_one : (i j : ℕ) (p q : Operation) (x : SigId) → slice_get operations i ≡ Some p → slice_get operations j ≡ Some q → Writes p x → Writes q x
      → p.guard proposal ≡ true → q.guard proposal ≡ true → i ≡ j
  written_by_one i j p q x at_i at_j one two done also =
      let within = written_below kernel valid conditions operations has i p at_i x one in
      one_place (does x proposal) operations (let most = at_most_one (is_present reaction x.0) in omega (arith, most, tally_is x within)) i j p q at_i at_j (does_it p x one done) (does_it q x two also)

  pub read_present : (number : ℕ) (p : Operation) (x : SigId) → slice_get operations number ≡ Some p → Contains p.reads x → p.guard proposal ≡ true → is_present reaction x.0 ≡ true
  read_present number p x is reads done =
      All-contains (λ (q : Operation). q.guard proposal ≡ true → (y : SigId) → Contains q.reads y → is_present reaction y.0 ≡ true) (operations_of kernel has.presence) p
      (all_read kernel has.presence proposal reaction at_signal valid speaks.is)
      (subst (λ (ps : List Operation). Contains ps p) has.are (contains_at operations number p is)) done x reads
