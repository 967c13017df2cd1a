-- One thread more: what is required, and what all of it comes to.
use Rattle.sig_work.proofs.Common.{◌≡◌, ◌++◌, ℕ, suc, ℤ, List, [], ◌∷◌, length, refl, ap, sym, subst, arith, Err, Ok, OnErr, OnOk, Result, Halt, Reaction, PlanView, Joins, TookPrefix, run_of, AreBegun, AreBegunInSome, AreKept, IsOfSomeClusters, IsServedAs, WereHalted, WereRun, AreOfRun, AreOfSomeRun, AreSameShares, WereServed, WereStopped, Share, on_err_weaker, on_ok_weaker}
use Rattle.sig_work.proofs.Kept.{begun_less, begun_moved, begun_run, halted_again, halted_base, halted_pushed, kept_moved, kept_pushed, kept_same, kept_single, kept_then, middle_is, one_collector, run_again, run_base, run_moved, run_pushed, same_itself}

pub nil_of : (xs : List Share) → length xs ≡ 0 → xs ≡ []
nil_of [] none = refl
nil_of (x ∷ xs) none = absurd (let e : suc (length xs) ≡ 0 = none in omega (arith, e))

pub one_of_length : (xs : List Share) → length xs ≡ 1 → (x : Share) × (xs ≡ x ∷ [])
one_of_length [] one = absurd (let e : 0 ≡ 1 = one in omega (arith, e))
one_of_length (x ∷ xs) one = (x, ap (λ (ys : List Share). x ∷ ys) (nil_of xs (let e : suc (length xs) ≡ 1 = one in omega (arith, e))))

module _ (plan : PlanView) (flows : List (List ℤ)) (word : Halt) {X E S : Type 0} (took : S → List ℕ → S → Type 0) (before after : S) (answer : Result X E) where
  -- what is said of each run of the plan
  abbrev pub SaysServed : List Share → List Share → Type 0
  SaysServed old new = (capacity limit : ℕ) (committed : List Reaction) → AreOfRun (run_of plan flows capacity limit) word committed old
      → OnOk answer (WereServed took (run_of plan flows capacity limit) word old new before after committed)

  abbrev pub SaysStopped : List Share → List Share → Type 0
  SaysStopped old new = (capacity limit : ℕ) (committed : List Reaction) → AreOfRun (run_of plan flows capacity limit) word committed old
      → OnErr answer (WereStopped (TookPrefix took) (run_of plan flows capacity limit) word new before after committed)

  abbrev pub SaysRun : List Share → List Share → List Share → Type 0
  SaysRun others mine new = (capacity limit : ℕ) (committed : List Reaction) → AreBegun (run_of plan flows capacity limit) word committed others mine
      → OnOk answer (WereRun took (run_of plan flows capacity limit) word (others ++ mine) new before after committed)

  abbrev pub SaysHalted : List Share → List Share → List Share → Type 0
  SaysHalted others mine new = (capacity limit : ℕ) (committed : List Reaction) → AreBegun (run_of plan flows capacity limit) word committed others mine
      → OnErr answer (WereHalted (TookPrefix took) (run_of plan flows capacity limit) new before after committed)

  -- ---- no thread more

  alone_served : (mine new : List Share) → SaysServed mine new → SaysRun [] mine new
  alone_served mine new says capacity limit committed begun =
      let given = run_of plan flows capacity limit in
      on_ok_weaker answer
      (run_base took given word mine new before after committed) (says capacity limit committed (begun_run given word committed mine begun))

  alone_stopped : (mine new : List Share) → SaysStopped mine new → SaysHalted [] mine new
  alone_stopped mine new says capacity limit committed begun =
      let given = run_of plan flows capacity limit in
      on_err_weaker answer
      (halted_base (TookPrefix took) given word new before after committed) (says capacity limit committed (begun_run given word committed mine begun))

  pub base_served : (others mine now new final : List Share) → others ≡ [] → now ≡ mine → final ≡ new → SaysServed now new → SaysRun others mine final
  base_served others mine now new final empty is back says =
      subst (λ xs. SaysRun xs mine final) (sym empty) (subst (λ xs. SaysRun [] mine xs) (sym back) (alone_served mine new (subst (λ xs. SaysServed xs new) is says)))

  pub base_stopped : (others mine now new final : List Share) → others ≡ [] → now ≡ mine → final ≡ new → SaysStopped now new → SaysHalted others mine final
  base_stopped others mine now new final empty is back says =
      subst (λ xs. SaysHalted xs mine final) (sym empty) (subst (λ xs. SaysHalted [] mine xs) (sym back) (alone_stopped mine new (subst (λ xs. SaysStopped xs new) is says)))

  -- ---- a share that a thread gave back

  module _ (rest mine : List Share) (s t : Share) (from : IsServedAs plan flows word s t) where
    given_served : (new : List Share) → SaysRun rest mine new → SaysRun (rest ++ s ∷ []) mine (new ++ t ∷ [])
    given_served new says capacity limit committed begun =
        let given = run_of plan flows capacity limit in
        let of = from.clusters capacity limit (middle_is given word committed rest mine s begun) in
        on_ok_weaker answer
        (run_pushed took given word rest mine s t from.unfaulted of before after committed new) (says capacity limit committed (begun_less given word committed rest mine s begun))

    given_stopped : (new : List Share) → SaysHalted rest mine new → SaysHalted (rest ++ s ∷ []) mine (new ++ t ∷ [])
    given_stopped new says capacity limit committed begun =
        let given = run_of plan flows capacity limit in
        let of = from.clusters capacity limit (middle_is given word committed rest mine s begun) in
        on_err_weaker answer
        (halted_pushed (TookPrefix took) given word rest mine s t from.unfaulted of before after committed new) (says capacity limit committed (begun_less given word committed rest mine s begun))

    pub pushed_served : (others new final : List Share) → others ≡ rest ++ s ∷ [] → final ≡ new ++ t ∷ [] → SaysRun rest mine new → SaysRun others mine final
    pushed_served others new final popped back says =
        subst (λ xs. SaysRun xs mine final) (sym popped) (subst (λ xs. SaysRun (rest ++ s ∷ []) mine xs) (sym back) (given_served new says))

    pub pushed_stopped : (others new final : List Share) → others ≡ rest ++ s ∷ [] → final ≡ new ++ t ∷ [] → SaysHalted rest mine new → SaysHalted others mine final
    pushed_stopped others new final popped back says =
        subst (λ xs. SaysHalted xs mine final) (sym popped) (subst (λ xs. SaysHalted (rest ++ s ∷ []) mine xs) (sym back) (given_stopped new says))

    -- ---- one that came back at once

    came_served : (new : List Share) → SaysRun rest (mine ++ t ∷ []) new → SaysRun (rest ++ s ∷ []) mine new
    came_served new says capacity limit committed begun =
        let given = run_of plan flows capacity limit in
        let of = from.clusters capacity limit (middle_is given word committed rest mine s begun) in
        on_ok_weaker answer
        (run_moved took given word rest mine s t from.unfaulted of before after committed new) (says capacity limit committed (begun_moved given word committed rest mine s begun t from.same of))

    came_stopped : (new : List Share) → SaysHalted rest (mine ++ t ∷ []) new → SaysHalted (rest ++ s ∷ []) mine new
    came_stopped new says capacity limit committed begun =
        let given = run_of plan flows capacity limit in
        let of = from.clusters capacity limit (middle_is given word committed rest mine s begun) in
        says capacity limit committed (begun_moved given word committed rest mine s begun t from.same of)

    pub moved_served : (others more new : List Share) → others ≡ rest ++ s ∷ [] → more ≡ mine ++ t ∷ [] → SaysRun rest more new → SaysRun others mine new
    moved_served others more new popped is says =
        subst (λ xs. SaysRun xs mine new) (sym popped) (came_served new (subst (λ xs. SaysRun rest xs new) is says))

    pub moved_stopped : (others more new : List Share) → others ≡ rest ++ s ∷ [] → more ≡ mine ++ t ∷ [] → SaysHalted rest more new → SaysHalted others mine new
    moved_stopped others more new popped is says =
        subst (λ xs. SaysHalted xs mine new) (sym popped) (came_stopped new (subst (λ xs. SaysHalted rest xs new) is says))

-- ---- what is required, and what is kept

module _ (plan : PlanView) (flows : List (List ℤ)) (word : Halt) where
  pub base_requires : (others mine now : List Share) → others ≡ [] → now ≡ mine → AreBegunInSome plan flows word others mine → AreOfSomeRun plan flows word now
  base_requires others mine now empty is some = (
    some.0,
    some.1,
    some.2,
    subst (λ xs. AreOfRun (run_of plan flows some.0 some.1) word some.2 xs) (sym is)
        (begun_run (run_of plan flows some.0 some.1) word some.2 mine (subst (λ xs. AreBegun (run_of plan flows some.0 some.1) word some.2 xs mine) empty some.3)),
  )

  pub base_kept : (others mine now new final : List Share) → others ≡ [] → now ≡ mine → final ≡ new → AreSameShares now new → AreKept (others ++ mine) final
  base_kept others mine now new final empty is back same =
      subst (λ xs. AreKept (xs ++ mine) final) (sym empty) (subst (λ xs. AreKept mine xs) (sym back) (kept_same mine new (subst (λ xs. AreSameShares xs new) is same)))

  module _ (others rest mine : List Share) (s : Share) (popped : others ≡ rest ++ s ∷ []) (some : AreBegunInSome plan flows word others mine) where
    begun : AreBegun (run_of plan flows some.0 some.1) word some.2 (rest ++ s ∷ []) mine
    begun = subst (λ xs. AreBegun (run_of plan flows some.0 some.1) word some.2 xs mine) popped some.3

    pub pushed_middle : IsOfSomeClusters plan flows word s
    pushed_middle = (some.0, some.1, middle_is (run_of plan flows some.0 some.1) word some.2 rest mine s begun)

    pub pushed_begun : AreBegunInSome plan flows word rest mine
    pushed_begun = (some.0, some.1, some.2, begun_less (run_of plan flows some.0 some.1) word some.2 rest mine s begun)

    pub moved_begun : (more : List Share) (t : Share) → more ≡ mine ++ t ∷ [] → IsServedAs plan flows word s t → AreBegunInSome plan flows word rest more
    moved_begun more t is from = (
      some.0,
      some.1,
      some.2,
      subst (λ xs. AreBegun (run_of plan flows some.0 some.1) word some.2 rest xs) (sym is)
          (begun_moved (run_of plan flows some.0 some.1) word some.2 rest mine s begun t from.same (from.clusters some.0 some.1 (middle_is (run_of plan flows some.0 some.1) word some.2 rest mine s begun))),
    )

  module _ (others rest mine : List Share) (s t : Share) (popped : others ≡ rest ++ s ∷ []) (from : IsServedAs plan flows word s t) where
    pub pushed_kept : (new final : List Share) → final ≡ new ++ t ∷ [] → AreKept (rest ++ mine) new → AreKept (others ++ mine) final
    pushed_kept new final back kept = subst (λ xs. AreKept (xs ++ mine) final) (sym popped) (subst (λ xs. AreKept ((rest ++ s ∷ []) ++ mine) xs) (sym back) (kept_pushed rest mine s t from.same new kept))

    pub moved_kept : (more new : List Share) → more ≡ mine ++ t ∷ [] → AreKept (rest ++ more) new → AreKept (others ++ mine) new
    moved_kept more new is kept = subst (λ xs. AreKept (xs ++ mine) new) (sym popped)
        (kept_then ((rest ++ s ∷ []) ++ mine) (rest ++ (mine ++ t ∷ [])) new (kept_moved rest mine s t from.same) (subst (λ xs. AreKept (rest ++ xs) new) is kept))

-- ---- a share that the caller serves from the first on

pub served_itself : (plan : PlanView) (flows : List (List ℤ)) (word : Halt) (s : Share) → IsServedAs plan flows word s s
served_itself plan flows word s = record {
  same = same_itself s;
  unfaulted = λ is. is;
  clusters = λ capacity limit is. is;
}

-- ---- told of equal plans, flows, words and shares

pub served_alike : (plan other : PlanView) → plan ≡ other → (flows more : List (List ℤ)) → flows ≡ more → (word same : Halt) → word ≡ same → (s r : Share) → s ≡ r → (t : Share)
    → IsServedAs plan flows word s t → IsServedAs other more same r t
served_alike plan other p flows more q word same w s r e t is =
    subst (λ (x : Share). IsServedAs other more same x t) e (subst (λ (x : Halt). IsServedAs other more x s t) w
    (subst (λ (x : List (List ℤ)). IsServedAs other x word s t) q (subst (λ (x : PlanView). IsServedAs x flows word s t) p is)))

pub clusters_alike : (plan other : PlanView) → other ≡ plan → (flows more : List (List ℤ)) → more ≡ flows → (word same : Halt) → same ≡ word → (s r : Share) → r ≡ s
    → IsOfSomeClusters plan flows word s → IsOfSomeClusters other more same r
clusters_alike plan other p flows more q word same w s r e is =
    subst (λ (x : Share). IsOfSomeClusters other more same x) (sym e) (subst (λ (x : Halt). IsOfSomeClusters other more x s) (sym w)
    (subst (λ (x : List (List ℤ)). IsOfSomeClusters other x word s) (sym q) (subst (λ (x : PlanView). IsOfSomeClusters x flows word s) (sym p) is)))

-- ---- a second service of all

pub always_ok : {X E : Type 0} (answer : Result X E) (P : Type 0) → P → OnOk answer P
always_ok (Ok x) P is = is
always_ok (Err e) P is = tt

pub ok_of : {X E : Type 0} (answer : Result X E) (x : X) (P : Type 0) → answer ≡ Ok x → OnOk answer P → P
ok_of (Ok y) x P is all = all
ok_of (Err e) x P is all = absurd (let clash : Err e ≡ Ok x = is in cc)

pub err_of : {X E : Type 0} (answer : Result X E) (e : E) (P : Type 0) → answer ≡ Err e → OnErr answer P → P
err_of (Ok x) e P is all = absurd (let clash : Ok x ≡ Err e = is in cc)
err_of (Err d) e P is all = all

module _ (plan : PlanView) (flows : List (List ℤ)) (word : Halt) {X E S : Type 0} (took : S → List ℕ → S → Type 0) (joins : Joins took) (before middle after : S)
    (others mine mid now new final : List Share) (first : Result X E) (x : X) (is_ok : first ≡ Ok x) (kept : AreKept (others ++ mine) mid) (now_is : now ≡ mid) (back : final ≡ new)
    (ran : SaysRun plan flows word took before middle first others mine mid) where
  were : (capacity limit : ℕ) (committed : List Reaction) → AreBegun (run_of plan flows capacity limit) word committed others mine
      → WereRun took (run_of plan flows capacity limit) word (others ++ mine) mid before middle committed
  were capacity limit committed begun =
      ok_of first x (WereRun took (run_of plan flows capacity limit) word (others ++ mine) mid before middle committed) is_ok (ran capacity limit committed begun)

  run_now : (capacity limit : ℕ) (committed : List Reaction) (begun : AreBegun (run_of plan flows capacity limit) word committed others mine)
      → AreOfRun (run_of plan flows capacity limit) word (were capacity limit committed begun).behind now
  run_now capacity limit committed begun =
      subst (λ xs. AreOfRun (run_of plan flows capacity limit) word (were capacity limit committed begun).behind xs) (sym now_is)
      (record { serving = (were capacity limit committed begun).serving; one = one_collector (run_of plan flows capacity limit) mid (kept_single (others ++ mine) mid kept begun.single) })

  pub again_requires : AreBegunInSome plan flows word others mine → AreOfSomeRun plan flows word now
  again_requires some = (some.0, some.1, (were some.0 some.1 some.2 some.3).behind, run_now some.0 some.1 some.2 some.3)

  pub again_kept : AreSameShares now new → AreKept (others ++ mine) final
  again_kept same = subst (λ xs. AreKept (others ++ mine) xs) (sym back) (kept_then (others ++ mine) mid new kept (kept_same mid new (subst (λ xs. AreSameShares xs new) now_is same)))

  pub again_served : (answer : Result X E) → SaysServed plan flows word took middle after answer now new → SaysRun plan flows word took before after answer others mine final
  again_served answer says capacity limit committed begun =
      let given = run_of plan flows capacity limit in
      let w = were capacity limit committed begun in
      subst (λ xs. OnOk answer (WereRun took given word (others ++ mine) xs before after committed)) (sym back)
      (on_ok_weaker answer
      (λ served. run_again took joins given word (others ++ mine) mid new before middle after committed w (subst (λ xs. WereServed took given word xs new middle after w.behind) now_is served))
      (says capacity limit w.behind (run_now capacity limit committed begun)))

  pub again_stopped : (answer : Result X E) → SaysStopped plan flows word took middle after answer now new → SaysHalted plan flows word took before after answer others mine final
  again_stopped answer says capacity limit committed begun =
      let given = run_of plan flows capacity limit in
      let w = were capacity limit committed begun in
      subst (λ xs. OnErr answer (WereHalted (TookPrefix took) given xs before after committed)) (sym back)
      (on_err_weaker answer
      (halted_again took joins given word (others ++ mine) mid new before middle after committed w) (says capacity limit w.behind (run_now capacity limit committed begun)))
