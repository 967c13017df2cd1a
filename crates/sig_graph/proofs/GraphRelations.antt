-- What a graph of operations says of them.
use Rattle.sig_graph.proofs.Common.{◌≡◌, ◌<◌, inl, inr, ℕ, List, length, get_or, refl, sym, ap, ◌∙◌, subst, arith, None, Some, slice_get, take, length-map, SigId, Node, Operation, operation_in, operations_in, ComesBefore, HasNoCycle, IsCycle, IsOnCycle, IsOrdered, IsReady, Precedes, Reaches, directly, onward, Op, OpKind, DelayRead, Store, none_before_itself, Edge, IsAcyclic, IsGraph, IsWithin, IsLeastOnCycle, WritesOnCycle, get_map, map_get, some_at, slice_get_within}
use Rattle.sig_graph.proofs.NumberCounts.{edge_within}

-- a relation that holds where another one does
pub reaches_as : (R S : ℕ → ℕ → Type 0) → ((p q : ℕ) → R p q → S p q) → (i j : ℕ) → Reaches R i j → Reaches S i j
reaches_as R S gives _ _ (directly i j edge) = directly i j (gives i j edge)
reaches_as R S gives _ _ (onward i j k edge rest) = onward i j k (gives i j edge) (reaches_as R S gives j k rest)

reaches_then : (R : ℕ → ℕ → Type 0) (i j k : ℕ) → Reaches R i j → R j k → Reaches R i k
reaches_then R _ _ k (directly i j edge) last = onward i j k edge (directly j k last)
reaches_then R _ _ k (onward i m j edge rest) last = onward i m k edge (reaches_then R m j k rest last)

module _ (R S : ℕ → ℕ → Type 0) (gives : (p q : ℕ) → R p q → S p q) (back : (p q : ℕ) → S p q → R p q) where
  ready_as : (count : ℕ) (taken : List ℕ) (i : ℕ) → IsReady R count taken i → IsReady S count taken i
  ready_as count taken i ready = record { within = ready.within; left = ready.left; free = λ p edge. ready.free p (back p i edge) }

  ready_back : (count : ℕ) (taken : List ℕ) (i : ℕ) → IsReady S count taken i → IsReady R count taken i
  ready_back count taken i ready = record { within = ready.within; left = ready.left; free = λ p edge. ready.free p (gives p i edge) }

  pub ordered_as : (count : ℕ) (order : List ℕ) → IsOrdered R count order → IsOrdered S count order
  ordered_as count order ordered = record {
    all = ordered.all;
    each = λ k lt.
        let least = ordered.each k lt in
        record { holds = ready_as count (take k order) (get_or order k 0) least.holds; least = λ other ready. least.least other (ready_back count (take k order) other ready) };
  }

module _ (conditions : List SigId) (nodes : List Node) (ops : List Op) (graph : List (List ℕ)) (is : IsGraph conditions nodes ops graph) where
  pub graph_within : IsWithin graph
  graph_within p q edge =
      let count = is.count in
      let lt = edge_within graph p q edge in
      let at_q = some_at ops q (omega (arith, lt, count)) in
      let below = (is.each q at_q.0 at_q.1).within p edge in
      omega (arith, below, count)

  pub edge_precedes : (p q : ℕ) → Edge graph p q → Precedes conditions (operations_in nodes ops) p q
  edge_precedes p q edge =
      let count = is.count in
      let lt = edge_within graph p q edge in
      let at_q = some_at ops q (omega (arith, lt, count)) in
      let before = is.each q at_q.0 at_q.1 in
      let at_p = some_at ops p (before.within p edge) in
      record {
        p = operation_in nodes at_p.0;
        q = operation_in nodes at_q.0;
        is = get_map (operation_in nodes) ops p at_p.0 at_p.1;
        other = get_map (operation_in nodes) ops q at_q.0 at_q.1;
        before = (before.exact p at_p.0 at_p.1).0 edge;
      }

  pub precedes_edge : (p q : ℕ) → Precedes conditions (operations_in nodes ops) p q → Edge graph p q
  precedes_edge p q precedes =
      let at_p = map_get (operation_in nodes) ops p precedes.p precedes.is in
      let at_q = map_get (operation_in nodes) ops q precedes.q precedes.other in
      let before : ComesBefore conditions (operation_in nodes at_p.0) (operation_in nodes at_q.0) =
      subst (λ (a : Operation). ComesBefore conditions a (operation_in nodes at_q.0)) (sym at_p.2) (subst (ComesBefore conditions precedes.p) (sym at_q.2) precedes.before) in
      ((is.each q at_q.0 at_q.1).exact p at_p.0 at_p.1).1 before

  pub on_cycle_from : (n signal : ℕ) → WritesOnCycle graph ops n signal → IsOnCycle conditions (operations_in nodes ops) signal
  on_cycle_from n signal on = record {
    number = on.number;
    p = operation_in nodes on.op;
    writes = on.writes;
    is = get_map (operation_in nodes) ops on.number on.op on.is;
    target = on.target;
    named = on.named;
    cycle = reaches_as (Edge graph) (Precedes conditions (operations_in nodes ops)) edge_precedes on.number on.number on.cycle;
  }

  pub on_cycle_to : (signal : ℕ) → IsOnCycle conditions (operations_in nodes ops) signal → WritesOnCycle graph ops (length ops) signal
  on_cycle_to signal on =
      let at = map_get (operation_in nodes) ops on.number on.p on.is in
      record {
        number = on.number;
        below = slice_get_within ops on.number at.0 at.1;
        op = at.0;
        writes = on.writes;
        is = at.1;
        target = ap (λ (p : Operation). p.writes) at.2 ∙ on.target;
        named = on.named;
        cycle = reaches_as (Precedes conditions (operations_in nodes ops)) (Edge graph) precedes_edge on.number on.number on.cycle;
      }

module _ (conditions : List SigId) (operations : List Operation) where
  -- some signal that an operation of a cycle writes
  abbrev Written : Type 0
  Written = (signal : ℕ) × IsOnCycle conditions operations signal

  abbrev Before : ℕ → ℕ → Type 0
  Before = Precedes conditions operations

  starts_within : (i k : ℕ) → Reaches Before i k → i < length operations
  starts_within _ _ (directly i k step) = slice_get_within operations i step.p step.is
  starts_within _ _ (onward i j k step rest) = slice_get_within operations i step.p step.is

  -- operations with a compiled order have no cycle
  pub ordered_no_cycle : (order : List ℕ) → IsOrdered Before (length operations) order → HasNoCycle conditions operations
  ordered_no_cycle order ordered i cycle = none_before_itself Before (length operations) order ordered i (starts_within i i cycle) cycle

  written_by : (i : ℕ) (p : Operation) (x : SigId) → slice_get operations i ≡ Some p → p.writes ≡ Some x → Reaches Before i i → Written
  written_by i p x is writes cycle = (x.0, record { number = i; p = p; writes = x; is = is; target = writes; named = refl; cycle = cycle })

  -- a store comes before another operation only where it writes
  store_writes : (j m : ℕ) (p : Operation) (of : ℕ) → slice_get operations j ≡ Some p → (kind : OpKind) → p.kind ≡ kind → (kind ≡ DelayRead → ⊥) → Before j m → Reaches Before j j → Written
  store_writes j m p of is kind same no_read step cycle = at step.before where
    own : step.p ≡ p
    own = let e : Some step.p ≡ Some p = sym step.is ∙ is in cc

    at : ComesBefore conditions step.p step.q → Written
    at (inl feeds) = written_by j step.p feeds.signal step.is feeds.writes cycle
    at (inr (inl decides)) = written_by j step.p decides.condition step.is decides.writes cycle
    at (inr (inr keeps)) = absurd (no_read (sym same ∙ ap (λ (q : Operation). q.kind) (sym own) ∙ keeps.read))

  first_step : (i k : ℕ) → Reaches Before i k → (j : ℕ) × Before i j
  first_step _ _ (directly i k step) = (k, step)
  first_step _ _ (onward i j k step rest) = (j, step)

  -- one of two neighbours on a cycle writes
  step_writes : (i j : ℕ) → Before i j → Reaches Before i i → (Reaches Before j j × ((m : ℕ) × Before j m)) → Written
  step_writes i j step cycle next = at step.before where
    at : ComesBefore conditions step.p step.q → Written
    at (inl feeds) = written_by i step.p feeds.signal step.is feeds.writes cycle
    at (inr (inl decides)) = written_by i step.p decides.condition step.is decides.writes cycle
    at (inr (inr keeps)) = store_writes j next.1.0 step.q 0 step.other (Store keeps.delay) keeps.store (λ e. cc) next.1.1 next.0

  cycle_writes : (i k : ℕ) → Reaches Before i k → i ≡ k → Written
  cycle_writes _ _ (directly i k step) same =
      let step_back : Before i i = subst (Before i) (sym same) step in
      let cycle : Reaches Before i i = directly i i step_back in
      step_writes i i step_back cycle (cycle, (i, step_back))
  cycle_writes _ _ (onward i j k step rest) same =
      let closed : Reaches Before j i = subst (Reaches Before j) (sym same) rest in
      step_writes i j step (onward i j i step closed) (reaches_then Before j i j closed step, first_step j k rest)

  pub some_signal : (i : ℕ) → Reaches Before i i → Written
  some_signal i cycle = cycle_writes i i cycle refl

module _ (conditions : List SigId) (nodes : List Node) (ops : List Op) (graph : List (List ℕ)) (is : IsGraph conditions nodes ops graph) where
  pub no_cycle : IsLeastOnCycle graph ops (length ops) None → HasNoCycle conditions (operations_in nodes ops)
  no_cycle none i cycle =
      let on = some_signal conditions (operations_in nodes ops) i cycle in
      none on.0 (on_cycle_to conditions nodes ops graph is on.0 on.1)

  pub acyclic : IsLeastOnCycle graph ops (length ops) None → IsAcyclic graph
  acyclic none i cycle = no_cycle none i (reaches_as (Edge graph) (Precedes conditions (operations_in nodes ops)) (edge_precedes conditions nodes ops graph is) i i cycle)

  pub cycle_is : (x : SigId) → IsLeastOnCycle graph ops (length ops) (Some x) → IsCycle conditions (operations_in nodes ops) x.0
  cycle_is x least = record {
    holds = on_cycle_from conditions nodes ops graph is (length ops) x.0 least.holds;
    least = λ other on. least.least other (on_cycle_to conditions nodes ops graph is other on);
  }

  pub order_is : (order : List ℕ) → IsOrdered (Edge graph) (length graph) order → IsOrdered (Precedes conditions (operations_in nodes ops)) (length (operations_in nodes ops)) order
  order_is order ordered =
      let count : length graph ≡ length (operations_in nodes ops) = is.count ∙ sym (length-map ops (operation_in nodes)) in
      subst (λ (n : ℕ). IsOrdered (Precedes conditions (operations_in nodes ops)) n order) count
      (ordered_as (Edge graph) (Precedes conditions (operations_in nodes ops)) (edge_precedes conditions nodes ops graph is) (precedes_edge conditions nodes ops graph is) (length graph) order ordered)
