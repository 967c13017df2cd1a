-- Lemmas on rounds.
use Rattle.sig_solve.proofs.Common.{◌≡◌, ◌≢◌, ◌<◌, ◌≤◌, ◌+◌, ◌⊎◌, inl, inr, ℕ, true, eqb, count_by, List, [], ◌∷◌, ◌++◌, length, get_or, set, drop, drop-cons, replicate, filter, sym, ap, ◌∙◌, subst, arith, Contains, get_or-set_same, get_or-set_other, zero, suc, length-set, cases_eq, cases_lt, lt-ltb, ltb-true, range_with_len, get_or-replicate, length-replicate, length_push, length-range_with_len, count_by-le-length, length-filter, all_pairs_push, SigId, Kernel, conditions_of, is_condition, signal_id, EntersBy, HasLayer, IsDetermined, SameClock, turned, enters_stays, present_together, IsAmong, AreEntered, AreIncreasing, ArePassed, AreRounds, AreSettled, has_entered, Frame, IsFrame, contains_cons, contains_head, contains_last, contains_later, contains_mapped, contains_none, mapped_from, in_filter, of_filter, contains_more, among_more}
use Rattle.sig_solve.proofs.FrameLemmas.{leader_in, leader_is}
use Rattle.sig_solve.proofs.ReactionLemmas.{condition_is_signal}
use Rattle.sig_solve.proofs.RootLemmas.{ordered_leaders}
use Rattle.sig_lists.proofs.Ranges.{in_range}

-- signals of one clock enter together
pub enters_same : (kernel : Kernel) (round s t : ℕ) → SameClock kernel s t → EntersBy kernel round s → EntersBy kernel round t
enters_same kernel zero s t same enters = absurd enters
enters_same kernel (suc round) s t same enters = λ a b speaks_a speaks_b agree.
    sym (present_together kernel a s t speaks_a.is same) ∙ enters a b speaks_a speaks_b agree ∙ present_together kernel b s t speaks_b.is same

pub enters_later : (kernel : Kernel) (a b s : ℕ) → a ≤ b → EntersBy kernel a s → EntersBy kernel b s
enters_later kernel a zero s le enters = let e : a ≡ 0 = omega (arith, le) in subst (λ n. EntersBy kernel n s) e enters
enters_later kernel a (suc b) s le enters = elim (cases_eq a (suc b)) [
  | inl e ↦ subst (λ n. EntersBy kernel n s) e enters
  | inr ne ↦ enters_stays kernel s b (enters_later kernel a b s (omega (arith, le, ne)) enters)
]

-- what the entered conditions determine enters in the next round
module _ (kernel : Kernel) (round : ℕ) (known : List SigId) (are : AreEntered kernel round known) (s : ℕ) where
  pub determined_enters : IsDetermined kernel (IsAmong known) s → EntersBy kernel (suc round) s
  determined_enters is = λ a b speaks_a speaks_b agree. is a b speaks_a speaks_b (λ c is_c there. agree c is_c ((are c is_c).0 there))

  pub enters_determined : EntersBy kernel (suc round) s → IsDetermined kernel (IsAmong known) s
  enters_determined enters = λ a b speaks_a speaks_b agree. enters a b speaks_a speaks_b (λ c is_c there. agree c is_c ((are c is_c).1 there))

increasing_none : AreIncreasing []
increasing_none i j d less within = absurd (omega (arith, within))

increasing_rest : (x : ℕ) (xs : List ℕ) → AreIncreasing (x ∷ xs) → AreIncreasing xs
increasing_rest x xs all i j d less within = all (suc i) (suc j) d (omega (arith, less)) (omega (arith, within))

increasing_head : (x : ℕ) (xs : List ℕ) → AreIncreasing (x ∷ xs) → (t : ℕ) → Contains xs t → x < t
increasing_head x xs all t there =
    let less = all 0 (suc there.0) t (omega arith) (omega (arith, there.1)) in
    subst (λ w. x < w) there.2 less

module _ (frame : Frame) (is : IsFrame frame) (round : ℕ) where
  pub pass_begins : (layers waiting : List ℕ) → AreRounds frame round layers waiting → ArePassed frame round layers [] waiting
  pass_begins layers waiting are = record {
    count = are.count;
    increasing = increasing_none;
    later = are.increasing;
    before = λ s t there _. absurd (contains_none s there);
    entered = λ s leads pos. let at = are.entered s leads pos in (at.0, omega (arith, at.1));
    left = λ s there. absurd (contains_none s there);
    unknown = λ s there. let at = are.left s there in (at.0, zero_of layers s at.0 (λ pos. let e = are.entered s at.0 pos in at.1 (enters_later frame.kernel.now (get_or layers s 0) round s e.1 e.0.enters)), at.1);
    all = λ s leads none. inr (are.all s leads none);
  } where
    zero_of : (layers : List ℕ) (s : ℕ) → Contains frame.leaders.items s → (0 < get_or layers s 0 → ⊥) → get_or layers s 0 ≡ 0
    zero_of layers s leads not = elim (cases_lt 0 (get_or layers s 0)) [ inl pos ↦ absurd (not pos) | inr le ↦ omega (arith, le) ]

  pub pass_ends : (layers still : List ℕ) → ArePassed frame round layers still [] → AreRounds frame (suc round) layers still
  pass_ends layers still are = record {
    count = are.count;
    increasing = are.increasing;
    entered = are.entered;
    left = are.left;
    all = λ s leads none. elim (are.all s leads none) [ inl there ↦ there | inr rest ↦ absurd (contains_none s rest) ];
  }

  pub pass_stays : (layers still rest : List ℕ) (x : ℕ) → ArePassed frame round layers still (x ∷ rest) → (EntersBy frame.kernel.now (suc round) x → ⊥) → ArePassed frame round layers (still ++ x ∷ []) rest
  pass_stays layers still rest x are not = record {
    count = are.count;
    increasing = all_pairs_push (λ a b. a < b) still x are.increasing (λ k d lt. are.before (get_or still k d) x (k, lt, Rattle.std.proofs.lemmas.List.get_or_default still k (get_or still k d) d lt) (contains_head x rest));
    later = increasing_rest x rest are.later;
    before = λ s t in_still in_rest. elim (among_more still x s in_still) [
      | inl there ↦ are.before s t there (contains_later x t rest in_rest)
      | inr e ↦ subst (λ w. w < t) (sym e) (increasing_head x rest are.later t in_rest)
    ];
    entered = are.entered;
    left = λ s in_still. elim (among_more still x s in_still) [
      | inl there ↦ are.left s there
      | inr e ↦ subst (λ w. Contains frame.leaders.items w × (EntersBy frame.kernel.now (suc round) w → ⊥)) (sym e) ((are.unknown x (contains_head x rest)).0, not)
    ];
    unknown = λ s in_rest. are.unknown s (contains_later x s rest in_rest);
    all = λ s leads none. elim (are.all s leads none) [
      | inl there ↦ inl (contains_more still x s there)
      | inr there ↦ elim (contains_cons x s rest there) [
        | inl e ↦ inl (subst (λ w. Contains (still ++ x ∷ []) w) (sym e) (contains_last still x))
        | inr later ↦ inr later
      ]
    ];
  }

  pub pass_enters : (layers still rest : List ℕ) (x : ℕ) → ArePassed frame round layers still (x ∷ rest) → EntersBy frame.kernel.now (suc round) x → ArePassed frame round (set layers x (suc round)) still rest
  pass_enters layers still rest x are enters = record {
    count = length-set layers x (suc round) ∙ are.count;
    increasing = are.increasing;
    later = increasing_rest x rest are.later;
    before = λ s t in_still in_rest. are.before s t in_still (contains_later x t rest in_rest);
    entered = λ s leads pos. by_entered s leads pos (cases_eq s x);
    left = are.left;
    unknown = λ s in_rest.
        let at = are.unknown s (contains_later x s rest in_rest) in
        let less = increasing_head x rest are.later s in_rest in
        let ne : s ≢ x = omega (arith, less) in
        (at.0, other s ne ∙ at.1, at.2);
    all = λ s leads none. by_all s leads none (cases_eq s x);
  } where
    x_within : x < length layers
    x_within = let leads = (leader_is frame is x (are.unknown x (contains_head x rest)).0).0 in omega (arith, leads, are.count)

    own : get_or (set layers x (suc round)) x 0 ≡ suc round
    own = get_or-set_same layers x (suc round) 0 x_within

    other : (s : ℕ) → s ≢ x → get_or (set layers x (suc round)) s 0 ≡ get_or layers s 0
    other s ne = get_or-set_other layers x s (suc round) 0 ne

    by_entered : (s : ℕ) → Contains frame.leaders.items s → 0 < get_or (set layers x (suc round)) s 0 → ((s ≡ x) ⊎ (s ≢ x))
        → HasLayer frame.kernel.now s (get_or (set layers x (suc round)) s 0) × (get_or (set layers x (suc round)) s 0 ≤ suc round)
    by_entered s leads pos (inl e) =
        let at : get_or (set layers x (suc round)) s 0 ≡ suc round = ap (λ k. get_or (set layers x (suc round)) k 0) e ∙ own in
        let first : HasLayer frame.kernel.now x (suc round) = record { enters = enters; first = λ r less early. (are.unknown x (contains_head x rest)).2 (enters_later frame.kernel.now r round x (omega (arith, less)) early) } in
        (subst (λ k. HasLayer frame.kernel.now s k) (sym at) (subst (λ k. HasLayer frame.kernel.now k (suc round)) (sym e) first), omega (arith, at))
    by_entered s leads pos (inr ne) =
        let same = other s ne in
        let at = are.entered s leads (omega (arith, same, pos)) in
        (subst (λ k. HasLayer frame.kernel.now s k) (sym same) at.0, omega (arith, at.1, same))

    by_all : (s : ℕ) → Contains frame.leaders.items s → get_or (set layers x (suc round)) s 0 ≡ 0 → ((s ≡ x) ⊎ (s ≢ x)) → Contains still s ⊎ Contains rest s
    by_all s leads none (inl e) = let at : get_or (set layers x (suc round)) s 0 ≡ suc round = ap (λ k. get_or (set layers x (suc round)) k 0) e ∙ own in absurd (omega (arith, none, at))
    by_all s leads none (inr ne) = elim (are.all s leads (sym (other s ne) ∙ none)) [
      | inl there ↦ inl there
      | inr there ↦ elim (contains_cons x s rest there) [ inl e ↦ absurd (ne e) | inr later ↦ inr later ]
    ]

next_drop : (waiting : List ℕ) (i : ℕ) → i < length waiting → drop i waiting ≡ get_or waiting i 0 ∷ drop (i + 1) waiting
next_drop waiting i lt = let next : suc i ≡ i + 1 = omega arith in drop-cons waiting i 0 lt ∙ ap (λ n. get_or waiting i 0 ∷ drop n waiting) next

module _ (frame : Frame) (is : IsFrame frame) (round : ℕ) (layers still waiting : List ℕ) (i : ℕ) (lt : i < length waiting) (are : ArePassed frame round layers still (drop i waiting)) where
  pub turn_stays : (layers' still' : List ℕ) → layers' ≡ layers → still' ≡ still ++ get_or waiting i 0 ∷ [] → (EntersBy frame.kernel.now (suc round) (get_or waiting i 0) → ⊥) → ArePassed frame round layers' still' (drop (i + 1) waiting)
  turn_stays layers' still' same_layers same_still not =
      subst (λ xs. ArePassed frame round xs still' (drop (i + 1) waiting)) (sym same_layers)
      (subst (λ xs. ArePassed frame round layers xs (drop (i + 1) waiting)) (sym same_still)
      (pass_stays frame is round layers still (drop (i + 1) waiting) (get_or waiting i 0) (subst (λ xs. ArePassed frame round layers still xs) (next_drop waiting i lt) are) not))

  pub turn_enters : (layers' still' : List ℕ) → layers' ≡ set layers (get_or waiting i 0) (round + 1) → still' ≡ still → EntersBy frame.kernel.now (suc round) (get_or waiting i 0) → ArePassed frame round layers' still' (drop (i + 1) waiting)
  turn_enters layers' still' same_layers same_still enters =
      let next : suc round ≡ round + 1 = omega arith in
      subst (λ xs. ArePassed frame round xs still' (drop (i + 1) waiting)) (sym same_layers)
      (subst (λ n. ArePassed frame round (set layers (get_or waiting i 0) n) still' (drop (i + 1) waiting)) next
      (subst (λ xs. ArePassed frame round (set layers (get_or waiting i 0) (suc round)) xs (drop (i + 1) waiting)) (sym same_still)
      (pass_enters frame is round layers still (drop (i + 1) waiting) (get_or waiting i 0) (subst (λ xs. ArePassed frame round layers still xs) (next_drop waiting i lt) are) enters)))

-- where each class of a round stays, the last one does
pub stuck_more : (still still' waiting : List ℕ) (i : ℕ) → still' ≡ still ++ get_or waiting i 0 ∷ [] → (length still ≡ i → (k : ℕ) → k < i → Contains still (get_or waiting k 0))
    → length still' ≡ i + 1 → (k : ℕ) → k < i + 1 → Contains still' (get_or waiting k 0)
stuck_more still still' waiting i same before full k lt =
    let count : length still ≡ i = omega (arith, ap length same, full, length_push still (get_or waiting i 0)) in
    subst (λ xs. Contains xs (get_or waiting k 0)) (sym same)
    (elim (cases_eq k i) [
      | inl e ↦ subst (λ j. Contains (still ++ get_or waiting i 0 ∷ []) (get_or waiting j 0)) (sym e) (contains_last still (get_or waiting i 0))
      | inr ne ↦ contains_more still (get_or waiting i 0) (get_or waiting k 0) (before count k (omega (arith, lt, ne)))
    ])

-- the conditions of a kernel, in a list
pub condition_listed : (kernel : Kernel) (c : SigId) → Contains (conditions_of kernel) c → is_condition kernel c.0 ≡ true
condition_listed kernel c there =
    let of = mapped_from signal_id (filter (is_condition kernel) (range_with_len 0 (length kernel.signals))) c there in
    ap (is_condition kernel) (ap (λ (x : SigId). x.0) of.2) ∙ (of_filter (is_condition kernel) (range_with_len 0 (length kernel.signals)) of.0 of.1).1

pub listed_condition : (kernel : Kernel) (c : ℕ) → is_condition kernel c ≡ true → Contains (conditions_of kernel) (signal_id c)
listed_condition kernel c is =
    contains_mapped signal_id (filter (is_condition kernel) (range_with_len 0 (length kernel.signals))) c
    (in_filter (is_condition kernel) (range_with_len 0 (length kernel.signals)) c (in_range (length kernel.signals) c (condition_is_signal kernel c is)) is)

module _ (frame : Frame) (is : IsFrame frame) (round : ℕ) (layers waiting : List ℕ) (are : AreRounds frame round layers waiting) where
  -- the classes that have entered, as signals
  pub entered_signal : (s : ℕ) → s < length frame.kernel.now.signals → 0 < get_or layers (get_or frame.least.items s 0) 0 → EntersBy frame.kernel.now round s
  entered_signal s lt pos =
      let at = are.entered (get_or frame.least.items s 0) (leader_in frame is s lt) pos in
      enters_same frame.kernel.now round (get_or frame.least.items s 0) s (turned s (get_or frame.least.items s 0) (is.least.same s lt))
      (enters_later frame.kernel.now (get_or layers (get_or frame.least.items s 0) 0) round (get_or frame.least.items s 0) at.1 at.0.enters)

  pub signal_entered : (s : ℕ) → s < length frame.kernel.now.signals → EntersBy frame.kernel.now round s → 0 < get_or layers (get_or frame.least.items s 0) 0
  signal_entered s lt enters = elim (cases_lt 0 (get_or layers (get_or frame.least.items s 0) 0)) [
    | inl pos ↦ pos
    | inr le ↦
        let none : get_or layers (get_or frame.least.items s 0) 0 ≡ 0 = omega (arith, le) in
        absurd ((are.left (get_or frame.least.items s 0) (are.all (get_or frame.least.items s 0) (leader_in frame is s lt) none)).1
        (enters_same frame.kernel.now round s (get_or frame.least.items s 0) (is.least.same s lt) enters))
  ]

  pub entered_conditions : (conditions known : List SigId) → conditions ≡ conditions_of frame.kernel.now → known ≡ filter (has_entered frame layers) conditions → AreEntered frame.kernel.now round known
  entered_conditions conditions known same filtered c is_c =
      let lt = condition_is_signal frame.kernel.now c is_c in (
        (λ there.
            let parts = of_filter (has_entered frame layers) conditions (signal_id c) (subst (λ (xs : List SigId). Contains xs (signal_id c)) filtered there) in
            entered_signal c lt (ltb-true 0 (get_or layers (get_or frame.least.items c 0) 0) parts.1)),
        (λ enters.
            subst (λ (xs : List SigId). Contains xs (signal_id c)) (sym filtered)
            (in_filter (has_entered frame layers) conditions (signal_id c) (subst (λ (xs : List SigId). Contains xs (signal_id c)) (sym same) (listed_condition frame.kernel.now c is_c))
            (lt-ltb 0 (get_or layers (get_or frame.least.items c 0) 0) (signal_entered c lt enters)))),
      )

-- nothing has entered before the first round
pub rounds_begin : (frame : Frame) (is : IsFrame frame) (layers waiting : List ℕ) (n : ℕ) → n ≡ length frame.least.items → layers ≡ replicate n 0 → waiting ≡ frame.leaders.items → AreRounds frame 0 layers waiting
rounds_begin frame is layers waiting n count zeros same = record {
  count = ap length zeros ∙ length-replicate n 0 ∙ count ∙ is.least.count;
  increasing = ordered_leaders frame.least.items waiting (same ∙ is.leaders);
  entered = λ s leads pos. absurd (let lt = (leader_is frame is s leads).0 in let none : get_or layers s 0 ≡ 0 = ap (λ (xs : List ℕ). get_or xs s 0) zeros ∙ get_or-replicate n s 0 0 (omega (arith, lt, count, is.least.count)) in omega (arith, pos, none));
  left = λ s there. (subst (λ (xs : List ℕ). Contains xs s) same there, λ enters. enters);
  all = λ s leads none. subst (λ (xs : List ℕ). Contains xs s) (sym same) leads;
}

-- where a round brings nothing new, none does
module _ (kernel : Kernel) (round : ℕ) (stuck : (s : ℕ) → s < length kernel.signals → EntersBy kernel (suc round) s → EntersBy kernel round s) where
  pub no_later : (r s : ℕ) → s < length kernel.signals → EntersBy kernel r s → EntersBy kernel round s
  no_later zero s lt enters = absurd enters
  no_later (suc r) s lt enters =
      stuck s lt (λ a b speaks_a speaks_b agree. enters a b speaks_a speaks_b (λ c is_c known. agree c is_c (no_later r c (condition_is_signal kernel c is_c) known)))

pub rounds_stick : (frame : Frame) (is : IsFrame frame) (round : ℕ) (layers waiting layers' still : List ℕ) → AreRounds frame round layers waiting → AreRounds frame (suc round) layers' still
    → round < length frame.leaders.items → ((s : ℕ) → Contains waiting s → Contains still s) → AreSettled frame layers' still
rounds_stick frame is round layers waiting layers' still before after few all = record {
  count = after.count;
  increasing = after.increasing;
  entered = λ s leads pos. let at = after.entered s leads pos in (at.0, omega (arith, at.1, few));
  left = λ s there. (
    (after.left s there).0,
    λ r enters.
        let lt = (leader_is frame is s (after.left s there).0).0 in
        (after.left s there).1 (enters_stays frame.kernel.now s round (no_later frame.kernel.now round stuck r s lt enters)),
  );
  all = after.all;
} where
  stuck_leader : (l : ℕ) → Contains frame.leaders.items l → EntersBy frame.kernel.now (suc round) l → EntersBy frame.kernel.now round l
  stuck_leader l leads enters = elim (cases_lt 0 (get_or layers l 0)) [
    | inl pos ↦ (let at = before.entered l leads pos in enters_later frame.kernel.now (get_or layers l 0) round l at.1 at.0.enters)
    | inr le ↦ (let none : get_or layers l 0 ≡ 0 = omega (arith, le) in absurd ((after.left l (all l (before.all l leads none))).1 enters))
  ]

  stuck : (s : ℕ) → s < length frame.kernel.now.signals → EntersBy frame.kernel.now (suc round) s → EntersBy frame.kernel.now round s
  stuck s lt enters =
      let same = is.least.same s lt in
      enters_same frame.kernel.now round (get_or frame.least.items s 0) s (turned s (get_or frame.least.items s 0) same)
      (stuck_leader (get_or frame.least.items s 0) (leader_in frame is s lt) (enters_same frame.kernel.now (suc round) s (get_or frame.least.items s 0) same enters))

pub leaders_fewer : (frame : Frame) (is : IsFrame frame) → length frame.leaders.items ≤ length frame.kernel.now.signals
leaders_fewer frame is =
    let p = λ (s : ℕ). eqb (get_or frame.least.items s 0) s in
    let range = range_with_len 0 (length frame.least.items) in
    let count : length frame.leaders.items ≡ count_by p range = ap length is.leaders ∙ length-filter p range in
    let few = count_by-le-length p range in
    omega (arith, count, few, length-range_with_len 0 (length frame.least.items), is.least.count)
