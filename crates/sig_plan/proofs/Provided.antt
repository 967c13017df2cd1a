-- Before a step whose guard holds, an actor has done or received what the step needs and reads.
use Rattle.sig_plan.proofs.Common.{◌≡◌, ◌≢◌, ◌<◌, ◌≤◌, ◌+◌, ◌*◌, inl, inr, ℕ, Bool, true, List, [], ◌∷◌, length, map, get_or, refl, sym, ap, ◌∙◌, subst, arith, Contains, All, None, Option, Some, slice_get, slice_index, zero, suc, and_parts, cases_eq, false≢true, All-cons, All-contains, All-nil, Contains-append_left, EqId, SigId, Signal, KeepsTo, signal_id, Reaction, Speaks, are_statuses, is_present, is_status_of, Depends, IsValid, Form, Fun, Delay, When, WhenConst, Default, Sync, Event, Kernel, HasOperations, Instruction, instructions_of, op_id, under, IsFor, Provides, StandsAt, commits, does, receives, sends, Operation, Presence, cluster_at, cluster_of, operations_of, stores_of, without, writes_of, writing, IsCompiledOrder, Needs, Writes, AreParts, Imports, used, output, guarded, IsOutput, PartsView, cluster_count, Do, Send, Receive, Commit, Left, Right, LinkInfo, Precedes, at_contained, contains_at, slice_get-get_or, slice_get_within}
use Rattle.sig_plan.proofs.Done.{present_written}
use Rattle.sig_plan.proofs.EachOperation.{each_operation, only}
use Rattle.sig_plan.proofs.Earlier.{needed_earlier, read_earlier}
use Rattle.sig_plan.proofs.InstructionsOfActors.{instruction_for}
use Rattle.sig_plan.proofs.LinkEnds.{carrying_ends, cluster_under, does_there, grows, receives_there}
use Rattle.sig_plan.proofs.Positions.{stands_before}
use Rattle.sig_plan.proofs.Orders.{stands_somewhere}

-- a signal that is there is one of the kernel
present_below : (signals : List Signal) (reaction : Reaction) (k : ℕ) → are_statuses signals reaction ≡ true → is_present reaction k ≡ true → k < length signals
present_below signals [] k kinds present = absurd (false≢true present)
present_below [] (status ∷ reaction) k kinds present = absurd (false≢true kinds)
present_below (signal ∷ signals) (status ∷ reaction) zero kinds present = omega arith
present_below (signal ∷ signals) (status ∷ reaction) (suc k) kinds present =
    let rest = present_below signals reaction k (and_parts (is_status_of signal.kind status) (are_statuses signals reaction) kinds).1 present in omega (arith, rest)

-- ---- the clusters of operations

some_cluster : (signals : List Signal) (x : SigId) → cluster_at signals x < cluster_count signals
some_cluster signals x = by (slice_get signals x.0) refl
  where
    by : (o : Option Signal) → slice_get signals x.0 ≡ o → cluster_of (slice_get signals x.0) < cluster_count signals
    by None is = let first = grows 1 (map (λ (signal : Signal). signal.cluster + 1) signals) in let none : cluster_of (slice_get signals x.0) ≡ 0 = ap cluster_of is in omega (arith, first, none)
    by (Some owner) is = let under = cluster_under 1 signals x.0 owner is in let one : cluster_of (slice_get signals x.0) ≡ owner.cluster = ap cluster_of is in omega (arith, under, one)

module _ (kernel : Kernel) (presence : Presence) where
  abbrev InCluster : Operation → Type 0
  InCluster p = p.cluster < cluster_count kernel.signals

  writes_in : (number : EqId) (form : Form) → Unit {0} → All InCluster (writes_of kernel.signals presence number form)
  writes_in number (Fun y op operands) t = only InCluster _ (some_cluster kernel.signals y)
  writes_in number (When y x b) t = only InCluster _ (some_cluster kernel.signals y)
  writes_in number (WhenConst y constant b) t = only InCluster _ (some_cluster kernel.signals y)
  writes_in number (Event y x) t = only InCluster _ (some_cluster kernel.signals y)
  writes_in number (Delay y x initial) t = only InCluster _ (some_cluster kernel.signals y)
  writes_in number (Sync x y) t = All-nil InCluster
  writes_in number (Default y u v) t =
      All-cons InCluster (writing kernel.signals number Left (presence u) y (u ∷ [])) (writing kernel.signals number Right (without (presence v) (presence u)) y (v ∷ []) ∷ [])
      (some_cluster kernel.signals y) (only InCluster _ (some_cluster kernel.signals y))

  stores_in : (number : EqId) (form : Form) → Unit {0} → All InCluster (stores_of kernel.signals presence number form)
  stores_in number (Delay y x initial) t = only InCluster _ (some_cluster kernel.signals y)
  stores_in number _ t = All-nil InCluster

  pub all_in_clusters : All InCluster (operations_of kernel presence)
  all_in_clusters = each_operation InCluster kernel presence (λ number form. Unit {0}) (λ k d lt. tt) (λ number lt. some_cluster kernel.signals (signal_id number)) writes_in stores_in

module _ (kernel : Kernel) (valid : IsValid kernel) (conditions : List SigId) (operations : List Operation) (has : HasOperations kernel conditions operations)
    (order : List ℕ) (ordered : IsCompiledOrder conditions operations order) (parts : PartsView) (split : AreParts kernel conditions operations parts)
    (proposal : List Bool) (reaction : Reaction) (speaks : Speaks kernel reaction) (keeps : KeepsTo conditions proposal reaction)
    (actor : ℕ) (most : actor ≤ parts.clusters) where
  abbrev all : List Instruction
  all = instructions_of operations order parts actor

  in_cluster : (number : ℕ) (p : Operation) → slice_get operations number ≡ Some p → p.cluster < cluster_count kernel.signals
  in_cluster number p at =
      All-contains (λ (q : Operation). q.cluster < cluster_count kernel.signals) (operations_of kernel has.presence) p (all_in_clusters kernel has.presence)
      (subst (λ (ps : List Operation). Contains ps p) has.are (contains_at operations number p at))

  -- an instruction whose guard holds gives the actor the signal
  pub record IsProvided (x : SigId) (below : ℕ) : Type 0 where
    pub instruction : Instruction
    pub there : Contains all instruction
    pub earlier : instruction.position ≤ below
    pub done : instruction.guard proposal ≡ true
    pub provides : Provides operations parts.links x instruction

  -- what is done at a place the actor does, or receives where it imports the signal
  provided : (i number : ℕ) (p : Operation) (x : SigId) → StandsAt operations order i number p → Writes p x → p.guard proposal ≡ true → (p.cluster ≢ actor → Imports kernel conditions operations actor x)
      → IsProvided x (2 * i + 1)
  provided i number p x stands writes done imported = elim (cases_eq p.cluster actor) [
    | inl own ↦ record {
      instruction = under p (Do (op_id number)) (2 * i);
      there = does_there operations order parts actor i number p stands own;
      earlier = omega arith;
      done = done;
      provides = inl (number, p, stands.is, writes, refl);
    }
    | inr other ↦
        let among = ((split.imports actor most).all x).1 (imported other) in
        let count = split.actors in
        let link = split.links.are.all actor x (omega (arith, most, count)) among in
        let joined : Contains parts.links link.0 = subst (λ (ls : List LinkInfo). Contains ls link.0) (sym split.links.joined) (Contains-append_left split.links.carrying _ link.0 link.1) in
        let at = at_contained parts.links link.0 joined in
        record {
          instruction = under p (Receive joined.0) (2 * i + 1);
          there = receives_there operations order parts actor i number p stands joined.0 (record { info = link.0; signal = x; is = at; writes = writes; carries = link.2 }) other link.3;
          earlier = omega arith;
          done = done;
          provides = inr (joined.0, link.0, at, link.2, refl);
        }
  ]

  number_at : (j number : ℕ) → slice_get order j ≡ Some number → slice_index order j ≡ number
  number_at j number place = let e : Some (get_or order j 0) ≡ Some number = sym (slice_get-get_or order j 0 (slice_get_within order j number place)) ∙ place in cc

  place_below : (j number : ℕ) → slice_get order j ≡ Some number → j < length operations
  place_below j number place = let lt = slice_get_within order j number place in let full = ordered.all in omega (arith, lt, full)

  stands_at : (i j number : ℕ) (p : Operation) → i < j → j < length operations → slice_index order i ≡ number → slice_get operations number ≡ Some p → StandsAt operations order i number p
  stands_at i j number p less lt same at =
      let full = ordered.all in
      record { place = slice_get-get_or order i 0 (omega (arith, less, lt, full)) ∙ ap Some same; is = at }

  -- what the guard of an operation needs, where the actor imports what it does not write
  module _ (j number : ℕ) (q : Operation) (stands : StandsAt operations order j number q) where
    q_at : slice_get operations (slice_index order j) ≡ Some q
    q_at = ap (slice_get operations) (number_at j number stands.place) ∙ stands.is

    lt : j < length operations
    lt = place_below j number stands.place

    guard_provided : (condition : SigId) → condition.0 < length kernel.signals → Needs conditions q condition → is_present reaction condition.0 ≡ true
        → ((p : Operation) (m : ℕ) → slice_get operations m ≡ Some p → Writes p condition → p.cluster ≢ actor → Imports kernel conditions operations actor condition)
        → (i : ℕ) × (i < j) × IsProvided condition (2 * i + 1)
    guard_provided condition within needs present imports =
        let (m, p, at, writes, done) = present_written kernel valid conditions operations has proposal reaction speaks keeps condition within present in
        let (i, less, same) = needed_earlier kernel valid conditions operations has order ordered j lt q q_at condition needs m p at writes in
        (i, less, provided i m p condition (stands_at i j m p less lt same at) writes done (imports p m at writes))

    reads_provided : q.cluster ≡ actor → q.guard proposal ≡ true → (x : SigId) → Contains q.reads x → (i : ℕ) × (i < j) × IsProvided x (2 * i + 1)
    reads_provided own holds x reads =
        let (i, p, less, at, writes, done) = read_earlier kernel valid conditions operations has order ordered j lt q q_at proposal holds x reads in
        let stands' = stands_at i j (slice_index order i) p less lt refl at in
        let few = in_cluster number q stands.is in (
          i,
          less,
          provided i (slice_index order i) p x stands' writes done (λ other.
              used x (subst (λ c. c < cluster_count kernel.signals) own few) (record { user = q; is = (number, stands.is); own = own; used = inl reads })
              (record { writer = p; is = (slice_index order i, at); writes = writes; other = other })),
        )

  -- ---- steps

  before : (k : ℕ) (b : Instruction) → slice_get all k ≡ Some b → (x : SigId) (below : ℕ) → IsProvided x below → below < b.position
      → (i : ℕ) × (a : Instruction) × (i < k) × (slice_get all i ≡ Some a) × (a.guard proposal ≡ true) × Provides operations parts.links x a
  before k b at x below is lt =
      let early = is.earlier in
      let (i, less, found) = stands_before operations order parts actor ordered.all k is.instruction b is.there at (omega (arith, early, lt)) in
      (i, is.instruction, less, found, is.done, is.provides)

  abbrev Before : ℕ → SigId → Type 0
  Before k x = (i : ℕ) × (a : Instruction) × (i < k) × (slice_get all i ≡ Some a) × (a.guard proposal ≡ true) × Provides operations parts.links x a

  module _ (v : ℕ) (condition : SigId) (there : slice_get conditions v ≡ Some condition) (present : is_present reaction condition.0 ≡ true) where
    within : condition.0 < length kernel.signals
    within = present_below kernel.signals reaction condition.0 speaks.is.kinds present

    own_imports : (number : ℕ) (q : Operation) → slice_get operations number ≡ Some q → q.cluster ≡ actor → Needs conditions q condition
        → (p : Operation) (m : ℕ) → slice_get operations m ≡ Some p → Writes p condition → p.cluster ≢ actor → Imports kernel conditions operations actor condition
    own_imports number q at own needs p m at_p writes other =
        let few = in_cluster number q at in
        used condition (subst (λ c. c < cluster_count kernel.signals) own few) (record { user = q; is = (number, at); own = own; used = inr needs })
        (record { writer = p; is = (m, at_p); writes = writes; other = other })

    needed_before : (k : ℕ) (b : Instruction) → slice_get all k ≡ Some b → IsFor operations order parts.links parts.clusters actor b → Depends b.guard v → Before k condition
    needed_before k _ at (does j number q stands own) depends =
        let needs : Needs conditions q condition = record { variable = v; is = there; depends = depends } in
        let (i, less, is) = guard_provided j number q stands condition within needs present (own_imports number q stands.is own needs) in
        before k _ at condition (2 * i + 1) is (omega (arith, less))
    needed_before k _ at (sends j number link q stands own from) depends =
        let needs : Needs conditions q condition = record { variable = v; is = there; depends = depends } in
        let (i, less, is) = guard_provided j number q stands condition within needs present (own_imports number q stands.is own needs) in
        before k _ at condition (2 * i + 1) is (omega (arith, less))
    needed_before k _ at (receives j number link q stands other from reader) depends =
        let needs : Needs conditions q condition = record { variable = v; is = there; depends = depends } in
        let ends = carrying_ends kernel valid conditions operations has parts split link from.info from.signal from.is from.carries in
        let imported : Imports kernel conditions operations actor from.signal = subst (λ a. Imports kernel conditions operations a from.signal) reader ends.imported in
        let (i, less, is) = guard_provided j number q stands condition within needs present (λ p m at_p writes apart.
        guarded from.signal condition imported (record { writer = q; is = (number, stands.is); writes = from.writes; needs = needs })
        (record { writer = p; is = (m, at_p); writes = writes; other = apart })) in
        before k _ at condition (2 * i + 1) is (omega (arith, less))
    needed_before k _ at _ (ts, ne) = absurd (ne refl)

    -- a condition that a step's guard needs, and that is present, was written or received before
    pub condition_before : (k : ℕ) (b : Instruction) → slice_get all k ≡ Some b → Depends b.guard v → Before k condition
    condition_before k b at depends = needed_before k b at (instruction_for operations order parts actor b (contains_at all k b at)) depends

  do_same : (a b : ℕ) → Do (op_id a) ≡ Do (op_id b) → a ≡ b
  do_same a b is = let e : op_id a ≡ op_id b = cc in ap (λ o. o.0) e

  read_by : (k : ℕ) (b : Instruction) → slice_get all k ≡ Some b → IsFor operations order parts.links parts.clusters actor b → (number : ℕ) (q : Operation) → b.kind ≡ Do (op_id number) → slice_get operations number ≡ Some q
      → b.guard proposal ≡ true → (x : SigId) → Contains q.reads x → Before k x
  read_by k _ at (does j m p stands own) number q kind at_q holds x reads =
      let e : Some p ≡ Some q = sym stands.is ∙ (ap (slice_get operations) (do_same m number kind) ∙ at_q) in
      let same : p ≡ q = cc in
      let (i, less, is) = reads_provided j m p stands own holds x (subst (λ (r : Operation). Contains r.reads x) (sym same) reads) in
      before k _ at x (2 * i + 1) is (omega (arith, less))
  read_by k _ at _ number q kind at_q holds x reads = cc

  -- what an operation that is done reads was written or received before
  pub read_before : (k : ℕ) (b : Instruction) → slice_get all k ≡ Some b → (number : ℕ) (q : Operation) → b.kind ≡ Do (op_id number) → slice_get operations number ≡ Some q
      → b.guard proposal ≡ true → (x : SigId) → Contains q.reads x → Before k x
  read_before k b at = read_by k b at (instruction_for operations order parts actor b (contains_at all k b at))

  send_same : (a b : ℕ) → Send a ≡ Send b → a ≡ b
  send_same a b is = cc

  sent_by : (k : ℕ) (b : Instruction) → slice_get all k ≡ Some b → IsFor operations order parts.links parts.clusters actor b → (link : ℕ) (info : LinkInfo) (x : SigId) → b.kind ≡ Send link → slice_get parts.links link ≡ Some info
      → info.signal ≡ Some x → b.guard proposal ≡ true → Before k x
  sent_by k _ at (sends j m l p stands own from) link info x kind at_link carries holds =
      let e : Some from.info ≡ Some info = sym from.is ∙ (ap (slice_get parts.links) (send_same l link kind) ∙ at_link) in
      let same : from.info ≡ info = cc in
      let f : Some from.signal ≡ Some x = sym from.carries ∙ (ap (λ (i : LinkInfo). i.signal) same ∙ carries) in
      let signal : from.signal ≡ x = cc in
      before k _ at x (2 * j)
      (record { instruction = under p (Do (op_id m)) (2 * j); there = does_there operations order parts actor j m p stands own; earlier = omega arith; done = holds; provides = inl (m, p, stands.is, subst (Writes p) signal from.writes, refl) })
      (omega arith)
  sent_by k _ at _ link info x kind at_link carries holds = cc

  -- what is sent was written before
  pub sent_before : (k : ℕ) (b : Instruction) → slice_get all k ≡ Some b → (link : ℕ) (info : LinkInfo) (x : SigId) → b.kind ≡ Send link → slice_get parts.links link ≡ Some info
      → info.signal ≡ Some x → b.guard proposal ≡ true → Before k x
  sent_before k b at = sent_by k b at (instruction_for operations order parts actor b (contains_at all k b at))

  commit_by : (k : ℕ) (b : Instruction) → slice_get all k ≡ Some b → IsFor operations order parts.links parts.clusters actor b → b.kind ≡ Commit → (x : SigId) → IsOutput kernel x → is_present reaction x.0 ≡ true → Before k x
  commit_by k _ at (commits own) kind x is_output present =
      let within : x.0 < length kernel.signals = (let upper = is_output.1 in omega (arith, upper, valid.parts.interface, valid.parts.declared)) in
      let (m, p, at_p, writes, done) = present_written kernel valid conditions operations has proposal reaction speaks keeps x within present in
      let (i, lt_i, at_i) = stands_somewhere (Precedes conditions operations) (length operations) order ordered m (slice_get_within operations m p at_p) in
      let full = ordered.all in
      let place : slice_get order i ≡ Some m = slice_get-get_or order i m lt_i ∙ ap Some at_i in
      before k _ at x (2 * i + 1)
      (provided i m p x (record { place = place; is = at_p }) writes done (λ other. output x (own ∙ split.clusters) is_output (record { writer = p; is = (m, at_p); writes = writes; other = other })))
      (omega (arith, lt_i, full))
  commit_by k _ at _ kind x is_output present = cc

  -- what is committed was received before
  pub committed_before : (k : ℕ) (b : Instruction) → slice_get all k ≡ Some b → b.kind ≡ Commit → (x : SigId) → IsOutput kernel x → is_present reaction x.0 ≡ true → Before k x
  committed_before k b at = commit_by k b at (instruction_for operations order parts actor b (contains_at all k b at))
