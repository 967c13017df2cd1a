-- The parts of a kernel are one thing: the imports of each actor and the links.
use Rattle.sig_plan.proofs.Common.{◌≡◌, ◌<◌, ◌≤◌, ◌+◌, ◌⊎◌, ◌++◌, inl, inr, ℕ, true, List, [], ◌∷◌, length, map, get_or, refl, sym, ap, ◌∙◌, subst, arith, Contains, zero, suc, Option, None, Some, IfSome, All, slice_get, AllPass, list_all, range_with_len, and_parts, ltb-true, ext_get_or, All-append, All-cons, All-contains, All-head, All-nil, All-tail, EqId, SigId, Signal, signal_id, operands_of, target_of, IsValid, form_within, operand_within, target_within, Equation, Form, Fun, Delay, When, WhenConst, Default, Sync, Event, Kernel, Operation, Presence, equation_id, of_each, operations_of, read_of, stores_of, without, writes_of, writing, Left, Right, Writes, AreImports, AreParts, AreSignalLinks, Carries, Imports, used, output, guarded, IsEarlierLink, IsOperation, PartsView, report_link, LinkInfo, same_list, at_contained, contains_at}

-- ---- operations write signals of the kernel

abbrev pub WritesWithin : ℕ → Operation → Type 0
WritesWithin n p = IfSome p.writes (λ x. x.0 < n)

module _ (signals : List Signal) (p : Presence) where
  target : (form : Form) (y : SigId) → form_within (length signals) form ≡ true → target_of form ≡ Some y → y.0 < length signals
  target form y within is =
      let first = (and_parts (target_within (length signals) (target_of form)) (list_all (operand_within (length signals)) (operands_of form)) within).0 in
      ltb-true y.0 (length signals) (subst (λ found. target_within (length signals) found ≡ true) is first)

  one_operation : (o : Operation) → WritesWithin (length signals) o → All (WritesWithin (length signals)) (o ∷ [])
  one_operation o is = All-cons (WritesWithin (length signals)) o [] is (All-nil (WritesWithin (length signals)))

  writes_fine : (number : EqId) (form : Form) → form_within (length signals) form ≡ true → All (WritesWithin (length signals)) (writes_of signals p number form)
  writes_fine number (Fun y op xs) within = one_operation _ (target (Fun y op xs) y within refl)
  writes_fine number (When y x b) within = one_operation _ (target (When y x b) y within refl)
  writes_fine number (WhenConst y constant b) within = one_operation _ (target (WhenConst y constant b) y within refl)
  writes_fine number (Event y x) within = one_operation _ (target (Event y x) y within refl)
  writes_fine number (Delay y x initial) within = one_operation _ (target (Delay y x initial) y within refl)
  writes_fine number (Sync x y) within = All-nil (WritesWithin (length signals))
  writes_fine number (Default y u v) within =
      let is = target (Default y u v) y within refl in
      let right = writing signals number Right (without (p v) (p u)) y (v ∷ []) in
      All-cons (WritesWithin (length signals)) (writing signals number Left (p u) y (u ∷ [])) (right ∷ []) is (one_operation right is)

  stores_fine : (number : EqId) (form : Form) → form_within (length signals) form ≡ true → All (WritesWithin (length signals)) (stores_of signals p number form)
  stores_fine number (Delay y x initial) within = one_operation _ tt
  stores_fine number _ within = All-nil (WritesWithin (length signals))

  each_fine : (make : EqId → Form → List Operation) → ((number : EqId) (form : Form) → form_within (length signals) form ≡ true → All (WritesWithin (length signals)) (make number form))
      → (n : ℕ) (equations : List Equation) → AllPass (λ equation. form_within (length signals) equation.form) equations → All (WritesWithin (length signals)) (of_each make n equations)
  each_fine make fine n [] within = All-nil (WritesWithin (length signals))
  each_fine make fine n (equation ∷ equations) within =
      All-append (WritesWithin (length signals)) (make (equation_id n) equation.form) (of_each make (n + 1) equations)
      (fine (equation_id n) equation.form (All-head (λ (e : Equation). form_within (length signals) e.form ≡ true) equation equations within))
      (each_fine make fine (n + 1) equations (All-tail (λ (e : Equation). form_within (length signals) e.form ≡ true) equation equations within))

  reads_fine : (a n : ℕ) → a + n ≤ length signals → All (WritesWithin (length signals)) (map (λ number. read_of signals p (signal_id number)) (range_with_len a n))
  reads_fine a zero le = All-nil (WritesWithin (length signals))
  reads_fine a (suc n) le =
      let first : a < length signals = omega (arith, le) in
      All-cons (WritesWithin (length signals)) _ _ first (reads_fine (a + 1) n (omega (arith, le)))

pub operations_fine : (kernel : Kernel) (p : Presence) → IsValid kernel → All (WritesWithin (length kernel.signals)) (operations_of kernel p)
operations_fine kernel p valid =
    All-append (WritesWithin (length kernel.signals)) _ _
    (All-append (WritesWithin (length kernel.signals)) _ _ (reads_fine kernel.signals p 0 kernel.inputs (omega (arith, valid.parts.interface, valid.parts.declared)))
    (each_fine kernel.signals p (writes_of kernel.signals p) (writes_fine kernel.signals p) 0 kernel.equations valid.equations.within))
    (each_fine kernel.signals p (stores_of kernel.signals p) (stores_fine kernel.signals p) 0 kernel.equations valid.equations.within)

-- ---- imports

imports_once : (kernel : Kernel) (conditions : List SigId) (operations : List Operation) (actor : ℕ) (a b : List SigId) → AreImports kernel conditions operations actor a → AreImports kernel conditions operations actor b → a ≡ b
imports_once kernel conditions operations actor a b one other =
    same_list (λ (x y : SigId). x.0 < y.0) (λ x y less more. omega (arith, less, more)) a b one.order other.order
    (λ x there. (other.all x).1 ((one.all x).0 there)) (λ x there. (one.all x).1 ((other.all x).0 there))

-- ---- links

there_is : {X : Type 0} (xs : List X) (k : ℕ) → k < length xs → slice_get xs k ≡ None → ⊥
there_is [] k lt none = omega (arith, lt)
there_is (x ∷ xs) zero lt none = let both : Some x ≡ None = none in cc
there_is (x ∷ xs) (suc k) lt none = there_is xs k (omega (arith, lt)) none

one_way : (a b : LinkInfo) → IsEarlierLink a b → IsEarlierLink b a → ⊥
one_way a b before behind = at before.before behind.before where
  first : before.x ≡ behind.y
  first = let e : Some before.x ≡ Some behind.y = sym before.is ∙ behind.other in cc

  second : before.y ≡ behind.x
  second = let e : Some before.y ≡ Some behind.x = sym before.other ∙ behind.is in cc

  number : (x y : SigId) → x ≡ y → x.0 ≡ y.0
  number x y same = ap (λ (z : SigId). z.0) same

  at : (before.x.0 < before.y.0) ⊎ ((before.x ≡ before.y) × (a.reader < b.reader)) → (behind.x.0 < behind.y.0) ⊎ ((behind.x ≡ behind.y) × (b.reader < a.reader)) → ⊥
  at (inl less) (inl more) = omega (arith, number before.x behind.y first, number before.y behind.x second, less, more)
  at (inl less) (inr more) = omega (arith, number before.x behind.y first, number before.y behind.x second, less, number behind.x behind.y more.0)
  at (inr less) (inl more) = omega (arith, number before.x behind.y first, number before.y behind.x second, number before.x before.y less.0, more)
  at (inr less) (inr more) = omega (arith, less.1, more.1)

module _ (kernel : Kernel) (conditions : List SigId) (operations : List Operation) (fine : All (WritesWithin (length kernel.signals)) operations) where
  written : (writer : Operation) → IsOperation operations writer → (x : SigId) → Writes writer x → x.0 < length kernel.signals
  written writer there x writes =
      let is : WritesWithin (length kernel.signals) writer = All-contains (WritesWithin (length kernel.signals)) operations writer fine (contains_at operations there.0 writer there.1) in
      subst (λ found. IfSome found (λ y. y.0 < length kernel.signals)) writes is

  imported_within : (actor : ℕ) (x : SigId) → Imports kernel conditions operations actor x → x.0 < length kernel.signals
  imported_within actor _ (used x lt is elsewhere) = written elsewhere.writer elsewhere.is x elsewhere.writes
  imported_within actor _ (output x lt is elsewhere) = written elsewhere.writer elsewhere.is x elsewhere.writes
  imported_within actor _ (guarded x condition imported needed elsewhere) = written elsewhere.writer elsewhere.is condition elsewhere.writes

  module _ (imports : List (List SigId)) (within : (actor : ℕ) (x : SigId) → actor < length imports → Contains (get_or imports actor []) x → x.0 < length kernel.signals) where
    -- two links of one signal to one reader are one
    same_link : (a b : LinkInfo) (x y : SigId) → Carries kernel.signals imports a x → Carries kernel.signals imports b y → b.signal ≡ Some x → b.reader ≡ a.reader → b ≡ a
    same_link a b x y one other signal reader =
        let same : y ≡ x = (let e : Some y ≡ Some x = sym other.signal ∙ signal in cc) in
        let inside : x.0 < length kernel.signals = within a.reader x one.reader one.imported in
        at (slice_get kernel.signals x.0) refl inside same
      where
        at : (found : Option Signal) → slice_get kernel.signals x.0 ≡ found → x.0 < length kernel.signals → y ≡ x → b ≡ a
        at None none inside same = absurd (there_is kernel.signals x.0 inside none)
        at (Some owner) is inside same =
            let own : a.writer ≡ owner.cluster = one.writer owner is in
            let others : b.writer ≡ owner.cluster = other.writer owner (subst (λ (z : SigId). slice_get kernel.signals z.0 ≡ Some owner) (sym same) is) in
            let signals : b.signal ≡ a.signal = signal ∙ sym one.signal in
            let writers : b.writer ≡ a.writer = others ∙ sym own in
            λ j. record { signal = signals j; writer = writers j; reader = reader j }

    among : (xs ys : List LinkInfo) → AreSignalLinks kernel.signals imports xs → AreSignalLinks kernel.signals imports ys → (link : LinkInfo) → Contains xs link → Contains ys link
    among xs ys one other link there =
        let carried = one.each there.0 link (at_contained xs link there) in
        let found = other.all link.reader carried.0 carried.1.reader carried.1.imported in
        let carried_there = other.each found.1.0 found.0 (at_contained ys found.0 found.1) in
        subst (Contains ys) (same_link link found.0 carried.0 carried_there.0 carried.1 carried_there.1 found.2 found.3) found.1

    pub links_once : (xs ys : List LinkInfo) → AreSignalLinks kernel.signals imports xs → AreSignalLinks kernel.signals imports ys → xs ≡ ys
    links_once xs ys one other = same_list IsEarlierLink one_way xs ys one.order other.order (among xs ys one other) (among ys xs other one)

  -- the parts of a kernel are one thing
  pub parts_once : (a b : PartsView) → AreParts kernel conditions operations a → AreParts kernel conditions operations b → (a.clusters ≡ b.clusters) × (a.links ≡ b.links)
  parts_once a b one other = (clusters, links) where
    clusters : a.clusters ≡ b.clusters
    clusters = one.clusters ∙ sym other.clusters

    actors : length a.imports ≡ length b.imports
    actors = one.actors ∙ ap (λ m. m + 1) clusters ∙ sym other.actors

    actor_within : (actor : ℕ) → actor < length a.imports → actor ≤ a.clusters
    actor_within actor lt = let full = one.actors in omega (arith, lt, full)

    imports : a.imports ≡ b.imports
    imports = ext_get_or [] a.imports b.imports actors (λ actor lt.
        imports_once kernel conditions operations actor (get_or a.imports actor []) (get_or b.imports actor [])
        (one.imports actor (actor_within actor lt)) (other.imports actor (subst (λ m. actor ≤ m) clusters (actor_within actor lt))))

    within : (actor : ℕ) (x : SigId) → actor < length a.imports → Contains (get_or a.imports actor []) x → x.0 < length kernel.signals
    within actor x lt there = imported_within actor x (((one.imports actor (actor_within actor lt)).all x).0 there)

    carrying : one.links.carrying ≡ other.links.carrying
    carrying = links_once a.imports within one.links.carrying other.links.carrying one.links.are
        (subst (λ (imports : List (List SigId)). AreSignalLinks kernel.signals imports other.links.carrying) (sym imports) other.links.are)

    links : a.links ≡ b.links
    links = one.links.joined ∙ (λ j. carrying j ++ map (report_link (clusters j)) (range_with_len 0 (clusters j))) ∙ sym other.links.joined
