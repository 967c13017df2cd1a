-- A link has one writer and one reader, and what is sent on it is received at an equal position under an equal guard.
use Rattle.sig_plan.proofs.Common.{◌≡◌, ◌≢◌, ◌<◌, ◌≤◌, ◌+◌, ◌*◌, ◌⊎◌, ◌++◌, inl, inr, ℕ, Bool, true, List, [], ◌∷◌, length, map, refl, sym, ap, ◌∙◌, subst, arith, Contains, zero, suc, None, Option, Some, fold, max, slice_get, ◌==◌, if◌then◌else◌, enumerate_from, range_with_len, le-max_left, le-max_right, Contains-append_left, Contains-append_right, SigId, Signal, IsValid, Kernel, HasOperations, Instruction, at_end, at_number, at_place, instructions_of, is_signal, links_of, links_to, over_order, op_id, report_links, reports_of, under, unguarded, CarriesFrom, IsFor, StandsAt, collects, receives, reports, sends, Operation, AreParts, Imports, used, output, guarded, IsWrittenElsewhere, PartsView, report_link, AreWritten, Do, Send, Receive, Report, Collect, Commit, LinkInfo, at_contained, contains_at, contains_head, contains_later, contains_mapped, mapped_from, Contains-append_cases, eq-eqb, ne_eqb}
use Rattle.sig_plan.proofs.InstructionsOfActors.{chosen, instruction_for}
use Rattle.sig_plan.proofs.Lists.{contains_flat, contains_numbered, in_range}
use Rattle.sig_plan.proofs.WrittenSignals.{operations_written}

-- ---- clusters

pub grows : (a : ℕ) (xs : List ℕ) → a ≤ fold max a xs
grows a [] = omega arith
grows a (x ∷ xs) = let rest = grows (max a x) xs in let first = le-max_left a x in omega (arith, rest, first)

pub cluster_under : (a : ℕ) (signals : List Signal) (k : ℕ) (owner : Signal) → slice_get signals k ≡ Some owner → owner.cluster + 1 ≤ fold max a (map (λ (signal : Signal). signal.cluster + 1) signals)
cluster_under a [] k owner is = cc
cluster_under a (signal ∷ signals) zero owner is =
    let same : signal ≡ owner = cc in
    let one = ap (λ (s : Signal). s.cluster) same in
    let first = le-max_right a (signal.cluster + 1) in
    let rest = grows (max a (signal.cluster + 1)) (map (λ (s : Signal). s.cluster + 1) signals) in
    omega (arith, one, first, rest)
cluster_under a (signal ∷ signals) (suc k) owner is = cluster_under (max a (signal.cluster + 1)) signals k owner is

-- ---- instructions that are there

module _ (operations : List Operation) (order : List ℕ) (parts : PartsView) (actor j number : ℕ) (p : Operation) (stands : StandsAt operations order j number p) where
  at_this_place : (i : Instruction) → Contains (at_place parts.links actor j number p) i → Contains (instructions_of operations order parts actor) i
  at_this_place i there =
      let here : 0 + j ≡ j = omega arith in
      Contains-append_left (over_order operations order parts.links actor) (at_end parts.links parts.clusters (length operations) actor) i
      (contains_flat (λ place. at_number operations parts.links actor place.0 place.1 (slice_get operations place.1)) (enumerate_from 0 order) (j, number) i
      (subst (λ m. Contains (enumerate_from 0 order) (m, number)) here (contains_numbered 0 order j number stands.place))
      (subst (λ o. Contains (at_number operations parts.links actor j number o) i) (sym stands.is) there))

  abbrev Own : Bool → List Instruction
  Own b = if b then under p (Do (op_id number)) (2 * j) ∷ map (λ link. under p (Send link) (2 * j + 1)) (links_of parts.links p.writes)
      else map (λ link. under p (Receive link) (2 * j + 1)) (links_to parts.links p.writes actor)

  pub does_there : p.cluster ≡ actor → Contains (instructions_of operations order parts actor) (under p (Do (op_id number)) (2 * j))
  does_there own =
      at_this_place (under p (Do (op_id number)) (2 * j))
      (subst (λ b. Contains (Own b) (under p (Do (op_id number)) (2 * j))) (sym (eq-eqb p.cluster actor own)) (contains_head (under p (Do (op_id number)) (2 * j)) (map (λ link. under p (Send link) (2 * j + 1)) (links_of parts.links p.writes))))

  module _ (link : ℕ) (from : CarriesFrom parts.links p link) where
    same_signal : is_signal from.info.signal (Some from.signal) ≡ true
    same_signal = ap (λ o. is_signal o (Some from.signal)) from.carries ∙ eq-eqb from.signal.0 from.signal.0 refl

    number_zero : (let o : Option ℕ = Some (0 + link) in o) ≡ Some link
    number_zero = ap Some (omega arith)

    pub sends_there : p.cluster ≡ actor → Contains (instructions_of operations order parts actor) (under p (Send link) (2 * j + 1))
    sends_there own =
        let among : Contains (links_of parts.links (Some from.signal)) link =
        chosen (λ l. if is_signal l.1.signal (Some from.signal) then Some l.0 else None) 0 parts.links link from.info link from.is (ap (λ b. if b then Some (0 + link) else None) same_signal ∙ number_zero) in
        at_this_place (under p (Send link) (2 * j + 1))
        (subst (λ b. Contains (Own b) (under p (Send link) (2 * j + 1))) (sym (eq-eqb p.cluster actor own))
        (contains_later (under p (Do (op_id number)) (2 * j)) (under p (Send link) (2 * j + 1)) (map (λ l. under p (Send l) (2 * j + 1)) (links_of parts.links p.writes))
        (contains_mapped (λ l. under p (Send l) (2 * j + 1)) (links_of parts.links p.writes) link (subst (λ w. Contains (links_of parts.links w) link) (sym from.writes) among))))

    pub receives_there : p.cluster ≢ actor → from.info.reader ≡ actor → Contains (instructions_of operations order parts actor) (under p (Receive link) (2 * j + 1))
    receives_there other reader =
        let among : Contains (links_to parts.links (Some from.signal) actor) link =
        chosen (λ l. if is_signal l.1.signal (Some from.signal) then (if l.1.reader == actor then Some l.0 else None) else None) 0 parts.links link from.info link from.is
        (ap (λ b. if b then (if from.info.reader == actor then Some (0 + link) else None) else None) same_signal
        ∙ (ap (λ b. if b then Some (0 + link) else None) (eq-eqb from.info.reader actor reader) ∙ number_zero)) in
        at_this_place (under p (Receive link) (2 * j + 1))
        (subst (λ b. Contains (Own b) (under p (Receive link) (2 * j + 1))) (sym (ne_eqb p.cluster actor other))
        (contains_mapped (λ l. under p (Receive l) (2 * j + 1)) (links_to parts.links p.writes actor) link (subst (λ w. Contains (links_to parts.links w actor) link) (sym from.writes) among)))

-- ---- the ends of links

apart_from : (cluster owner writer reader : ℕ) → cluster ≢ reader → cluster ≡ owner → writer ≡ owner → writer ≢ reader
apart_from cluster owner writer reader other is same e = other (is ∙ (sym same ∙ e))

elsewhere : (kernel : Kernel) (conditions : List SigId) (operations : List Operation) (actor : ℕ) (x : SigId) → Imports kernel conditions operations actor x → IsWrittenElsewhere operations actor x
elsewhere kernel conditions operations actor _ (used x lt is other) = other
elsewhere kernel conditions operations actor _ (output x lt is other) = other
elsewhere kernel conditions operations actor _ (guarded x condition imported needed other) = other

module _ (kernel : Kernel) (valid : IsValid kernel) (conditions : List SigId) (operations : List Operation) (has : HasOperations kernel conditions operations) (parts : PartsView) (split : AreParts kernel conditions operations parts) where
  are_written : AreWritten kernel.signals operations
  are_written = operations_written kernel has.presence operations valid has.are

  -- a link carries a signal that its reader imports, or a report
  pub record Ends (info : LinkInfo) (x : SigId) : Type 0 where
    pub imported : Imports kernel conditions operations info.reader x
    pub reader : info.reader ≤ parts.clusters
    pub owner : Signal
    pub owned : slice_get kernel.signals x.0 ≡ Some owner
    pub writer : info.writer ≡ owner.cluster
    pub apart : info.writer ≢ info.reader

  pub carrying_ends : (link : ℕ) (info : LinkInfo) (x : SigId) → slice_get parts.links link ≡ Some info → info.signal ≡ Some x → Ends info x
  carrying_ends link info x at is = elim (Contains-append_cases split.links.carrying (map (report_link parts.clusters) (range_with_len 0 parts.clusters)) info (subst (λ (ls : List LinkInfo). Contains ls info) split.links.joined (contains_at parts.links link info at))) [
    | inr report ↦
        let (cluster, there, same) = mapped_from (report_link parts.clusters) (range_with_len 0 parts.clusters) info report in
        let none : Some x ≡ None = sym is ∙ ap (λ (l : LinkInfo). l.signal) same in
        cc
    | inl carrying ↦
        let (y, carries) = split.links.are.each carrying.0 info (at_contained split.links.carrying info carrying) in
        let same : y ≡ x = (let e : Some y ≡ Some x = sym carries.signal ∙ is in cc) in
        let most : info.reader ≤ parts.clusters = (let lt = carries.reader in let count = split.actors in omega (arith, lt, count)) in
        let imported : Imports kernel conditions operations info.reader x = subst (Imports kernel conditions operations info.reader) same (((split.imports info.reader most).all y).0 carries.imported) in
        let other = elsewhere kernel conditions operations info.reader x imported in
        let owner = are_written.owner other.writer x other.is other.writes in
        let writer = carries.writer owner.0 (subst (λ (z : SigId). slice_get kernel.signals z.0 ≡ Some owner.0) (sym same) owner.1) in
        record { imported = imported; reader = most; owner = owner.0; owned = owner.1; writer = writer; apart = apart_from other.writer.cluster owner.0.cluster info.writer info.reader other.other owner.2 writer }
  ]

  -- what writes a link's signal is of the link's writer
  pub writer_cluster : (link : ℕ) (p : Operation) (from : CarriesFrom parts.links p link) (number : ℕ) → slice_get operations number ≡ Some p → p.cluster ≡ from.info.writer
  writer_cluster link p from number at =
      let ends = carrying_ends link from.info from.signal from.is from.carries in
      let owner = are_written.owner p from.signal (number, at) from.writes in
      let same : owner.0 ≡ ends.owner = (let e : Some owner.0 ≡ Some ends.owner = sym owner.1 ∙ ends.owned in cc) in
      owner.2 ∙ (ap (λ (s : Signal). s.cluster) same ∙ sym ends.writer)

  report_ends : (link : ℕ) (info : LinkInfo) → slice_get parts.links link ≡ Some info → info.signal ≡ None → (info.writer < parts.clusters) × (info.reader ≡ parts.clusters)
  report_ends link info at is = elim (Contains-append_cases split.links.carrying (map (report_link parts.clusters) (range_with_len 0 parts.clusters)) info (subst (λ (ls : List LinkInfo). Contains ls info) split.links.joined (contains_at parts.links link info at))) [
    | inr report ↦
        let (cluster, there, same) = mapped_from (report_link parts.clusters) (range_with_len 0 parts.clusters) info report in
        let lt = in_range 0 parts.clusters cluster there in
        let writer = ap (λ (l : LinkInfo). l.writer) same in
        (omega (arith, lt, writer), ap (λ (l : LinkInfo). l.reader) same)
    | inl carrying ↦
        let (y, carries) = split.links.are.each carrying.0 info (at_contained split.links.carrying info carrying) in
        let none : Some y ≡ None = sym carries.signal ∙ is in
        cc
  ]

  -- a link goes from a cluster to another actor
  pub ends_within : (link : ℕ) (info : LinkInfo) → slice_get parts.links link ≡ Some info → (info.writer < parts.clusters) × (info.reader ≤ parts.clusters) × (info.writer ≢ info.reader)
  ends_within link info at = by info.signal refl
    where
      by : (o : Option SigId) → info.signal ≡ o → (info.writer < parts.clusters) × (info.reader ≤ parts.clusters) × (info.writer ≢ info.reader)
      by None is = let ends = report_ends link info at is in let first = ends.0 in let second = ends.1 in (ends.0, omega (arith, second), λ e. omega (arith, e, first, second))
      by (Some x) is =
          let ends = carrying_ends link info x at is in
          let under = cluster_under 1 kernel.signals x.0 ends.owner ends.owned in
          let writer = ends.writer in
          let count = split.clusters in
          (omega (arith, under, writer, count), ends.reader, ends.apart)

  module _ (order : List ℕ) (actor : ℕ) (link : ℕ) (info : LinkInfo) (at : slice_get parts.links link ≡ Some info) where
    same_info : (other : ℕ) (found : LinkInfo) → slice_get parts.links other ≡ Some found → other ≡ link → found ≡ info
    same_info other found is same = let e : Some found ≡ Some info = sym is ∙ (ap (slice_get parts.links) same ∙ at) in cc

    send_same : (a b : ℕ) → Send a ≡ Send b → a ≡ b
    send_same a b is = cc

    receive_same : (a b : ℕ) → Receive a ≡ Receive b → a ≡ b
    receive_same a b is = cc

    report_same : (a b : ℕ) → Report a ≡ Report b → a ≡ b
    report_same a b is = cc

    -- its writer alone sends or reports on it
    sender : (i : Instruction) → IsFor operations order parts.links parts.clusters actor i → (i.kind ≡ Send link) ⊎ (i.kind ≡ Report link) → actor ≡ info.writer
    sender _ (sends j number l p stands own from) (inl is) =
        let same = same_info l from.info from.is (send_same l link is) in
        sym own ∙ (writer_cluster l p from number stands.is ∙ ap (λ (f : LinkInfo). f.writer) same)
    sender _ (reports l found other there none writer) (inr is) =
        let same = same_info l found there (report_same l link is) in
        sym writer ∙ ap (λ (f : LinkInfo). f.writer) same
    sender _ _ (inl is) = cc
    sender _ _ (inr is) = cc

    collect_same : (a b : ℕ) → Collect a ≡ Collect b → a ≡ b
    collect_same a b is = cc

    -- and its reader alone receives or collects from it
    receiver : (i : Instruction) → IsFor operations order parts.links parts.clusters actor i → (i.kind ≡ Receive link) ⊎ (i.kind ≡ Collect link) → actor ≡ info.reader
    receiver _ (receives j number l p stands other from reader) (inl is) =
        let same = same_info l from.info from.is (receive_same l link is) in
        sym reader ∙ ap (λ (f : LinkInfo). f.reader) same
    receiver _ (collects l found own there none) (inr is) =
        let same = same_info l found there (collect_same l link is) in
        let ends = report_ends l found there none in
        own ∙ (sym ends.1 ∙ ap (λ (f : LinkInfo). f.reader) same)
    receiver _ _ (inl is) = cc
    receiver _ _ (inr is) = cc

    pub one_writer : (i : Instruction) → Contains (instructions_of operations order parts actor) i → (i.kind ≡ Send link) ⊎ (i.kind ≡ Report link) → actor ≡ info.writer
    one_writer i there kind = sender i (instruction_for operations order parts actor i there) kind

    pub one_reader : (i : Instruction) → Contains (instructions_of operations order parts actor) i → (i.kind ≡ Receive link) ⊎ (i.kind ≡ Collect link) → actor ≡ info.reader
    one_reader i there kind = receiver i (instruction_for operations order parts actor i there) kind

  -- what is sent is received
  pub paired : (order : List ℕ) (j number link : ℕ) (p : Operation) → StandsAt operations order j number p → (from : CarriesFrom parts.links p link)
      → Contains (instructions_of operations order parts from.info.writer) (under p (Send link) (2 * j + 1)) × Contains (instructions_of operations order parts from.info.reader) (under p (Receive link) (2 * j + 1))
  paired order j number link p stands from =
      let own = writer_cluster link p from number stands.is in
      let ends = carrying_ends link from.info from.signal from.is from.carries in (
        sends_there operations order parts from.info.writer j number p stands link from own,
        receives_there operations order parts from.info.reader j number p stands link from (λ e. ends.apart (sym own ∙ e)) refl,
      )

-- ---- reports

module _ (operations : List Operation) (order : List ℕ) (parts : PartsView) (link : ℕ) (info : LinkInfo) (at : slice_get parts.links link ≡ Some info) (none : info.signal ≡ None) where
  report_number : (let o : Option ℕ = Some (0 + link) in o) ≡ Some link
  report_number = ap Some (omega arith)

  pub reports_there : (actor : ℕ) → actor ≢ parts.clusters → info.writer ≡ actor → Contains (instructions_of operations order parts actor) (unguarded (Report link) (2 * length operations))
  reports_there actor other writer =
      let among : Contains (reports_of parts.links actor) link =
      chosen (λ l. if is_signal l.1.signal None then (if l.1.writer == actor then Some l.0 else None) else None) 0 parts.links link info link at
      (ap (λ o. if is_signal o None then (if info.writer == actor then Some (0 + link) else None) else None) none
      ∙ (ap (λ b. if b then Some (0 + link) else None) (eq-eqb info.writer actor writer) ∙ report_number)) in
      Contains-append_right (over_order operations order parts.links actor) (at_end parts.links parts.clusters (length operations) actor) (unguarded (Report link) (2 * length operations))
      (subst (λ b. Contains (if b then map (λ l. unguarded (Collect l) (2 * length operations)) (report_links parts.links) ++ unguarded Commit (2 * length operations + 1) ∷ [] else map (λ l. unguarded (Report l) (2 * length operations)) (reports_of parts.links actor)) (unguarded (Report link) (2 * length operations)))
      (sym (ne_eqb actor parts.clusters other))
      (contains_mapped (λ l. unguarded (Report l) (2 * length operations)) (reports_of parts.links actor) link among))

  pub collects_there : (actor : ℕ) → actor ≡ parts.clusters → Contains (instructions_of operations order parts actor) (unguarded (Collect link) (2 * length operations))
  collects_there actor own =
      let among : Contains (report_links parts.links) link =
      chosen (λ l. if is_signal l.1.signal None then Some l.0 else None) 0 parts.links link info link at (ap (λ o. if is_signal o None then Some (0 + link) else None) none ∙ report_number) in
      Contains-append_right (over_order operations order parts.links actor) (at_end parts.links parts.clusters (length operations) actor) (unguarded (Collect link) (2 * length operations))
      (subst (λ b. Contains (if b then map (λ l. unguarded (Collect l) (2 * length operations)) (report_links parts.links) ++ unguarded Commit (2 * length operations + 1) ∷ [] else map (λ l. unguarded (Report l) (2 * length operations)) (reports_of parts.links actor)) (unguarded (Collect link) (2 * length operations)))
      (sym (eq-eqb actor parts.clusters own))
      (Contains-append_left (map (λ l. unguarded (Collect l) (2 * length operations)) (report_links parts.links)) (unguarded Commit (2 * length operations + 1) ∷ []) (unguarded (Collect link) (2 * length operations))
      (contains_mapped (λ l. unguarded (Collect l) (2 * length operations)) (report_links parts.links) link among)))

-- what is reported is collected
pub report_paired : (kernel : Kernel) → IsValid kernel → (conditions : List SigId) (operations : List Operation) → HasOperations kernel conditions operations → (parts : PartsView) → AreParts kernel conditions operations parts
    → (order : List ℕ) (link : ℕ) (info : LinkInfo) → slice_get parts.links link ≡ Some info → info.signal ≡ None
    → Contains (instructions_of operations order parts info.writer) (unguarded (Report link) (2 * length operations)) × Contains (instructions_of operations order parts info.reader) (unguarded (Collect link) (2 * length operations))
report_paired kernel valid conditions operations has parts split order link info at none =
    let ends = report_ends kernel valid conditions operations has parts split link info at none in (
      reports_there operations order parts link info at none info.writer (λ e. let lt = ends.0 in omega (arith, e, lt)) refl,
      collects_there operations order parts link info at none info.reader ends.1,
    )
