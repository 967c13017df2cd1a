use Rattle.sig_dd.proofs.{◌≡◌, ◌≤◌, ◌+◌, ◌^◌, ap, sym, ◌∙◌, subst, arith, Some, length, ◌++◌, [], slice_get, append-nil, IsStore, IsNodeAt, IsChoice, StoreView, IsReduced, IsCache, Node, IsCache-append, IsStore-insert, length-insert, IsNodeAt-next, IsChoice-same, IsChoice-node, nodes-insert, ref_apart, ref_same, node_eq-same, stands_at_position}
use Rattle.sig_dd.proofs.store.Store.node_for.Goals as goal
use Rattle.sig_dd.proofs.store.Store.node_for.Goals.{in-Some, in-None, in-None-2}

pub returns-then-eq-clause-value : goal.returns-then-eq-clause-value
returns-then-eq-clause-value c =
    IsChoice-same c.args.self.now.nodes c.args.variable c.args.low c.args.high c.requires.low (ref_same c.args.low c.args.high c.if-eq.ensures) c.requires.low_later

-- the node that is asked for
asked : (c : goal.After-to_node) → Node
asked c = record { variable = c.args.variable; low = c.args.low; high = c.args.high }

old : (c : goal.After-to_node) → IsStore c.args.self.now
old c = subst IsStore c.self.view_is c.self.invariant.store

nodes_are : (c : goal.After-to_node) → c.self.inside.nodes.keys ≡ c.args.self.now.nodes
nodes_are c = ap (λ (s : StoreView). s.nodes) c.self.view_is

-- it may stand next
next : (c : goal.After-to_node) → IsNodeAt c.self.inside.nodes.keys (length c.self.inside.nodes.keys) (asked c)
unfolding asked
next c = subst (λ ns. IsNodeAt ns (length ns) (asked c)) (sym (nodes_are c))
    (IsNodeAt-next c.args.self.now.nodes (asked c) (old c).reduced c.requires.low c.requires.high (ref_apart c.args.low c.args.high c.if-eq.ensures) c.requires.low_later c.requires.high_later)

-- the store stays one
new : (c : goal.After-to_node) → IsStore (record { nodes = c.insert_full.new.self.keys; made_for = c.self.inside.made_for })
unfolding asked
new c =
    let len = c.len-count.ensures.len in
    subst (λ ns. IsStore (record { nodes = ns; made_for = c.self.inside.made_for })) (sym c.in_ok-place.ensures.keys)
    (IsStore-insert c.self.inside.nodes.keys c.self.inside.made_for (asked c) c.self.invariant.store (next c) (omega arith))

-- its nodes keep numbers of 32 bits
numbered : (c : goal.After-to_node) → length c.insert_full.new.self.keys + 2 ≤ 2 ^ 32
unfolding asked
numbered c =
    let len = c.len-count.ensures.len in
    let more = length-insert c.self.inside.nodes.keys (asked c) in
    subst (λ ns. length ns + 2 ≤ 2 ^ 32) (sym c.in_ok-place.ensures.keys) (omega (arith, len, more))

-- and what it keeps stays right
kept : (c : goal.After-to_node) → IsCache c.insert_full.new.self.keys c.self.inside.cache.entries
unfolding asked
kept c =
    let (more, grown) = nodes-insert c.self.inside.nodes.keys (asked c) in
    subst (λ ns. IsCache ns c.self.inside.cache.entries) (sym (c.in_ok-place.ensures.keys ∙ grown))
    (IsCache-append c.self.inside.nodes.keys more c.self.inside.cache.entries c.self.invariant.cache)

pub invariant_of-self-then-count-lt-NUMBERS : goal.invariant_of-self-then-count-lt-NUMBERS
invariant_of-self-then-count-lt-NUMBERS c = record { store = new c; numbered = numbered c; cache = kept c }

pub returns-then-count-lt-NUMBERS-clause-store : goal.returns-then-count-lt-NUMBERS-clause-store
returns-then-count-lt-NUMBERS-clause-store c = new c

pub returns-then-count-lt-NUMBERS-clause-value : goal.returns-then-count-lt-NUMBERS-clause-value
unfolding asked
returns-then-count-lt-NUMBERS-clause-value c =
    let (more, grown) = nodes-insert c.self.inside.nodes.keys (asked c) in
    let is : c.insert_full.new.self.keys ≡ c.args.self.now.nodes ++ more = c.in_ok-place.ensures.keys ∙ grown ∙ ap (λ ns. ns ++ more) (nodes_are c) in
    let (k, here, equal) = c.in_ok-place.ensures.stored in
    let same : asked c ≡ k = node_eq-same (asked c) k equal in
    let at : slice_get (c.args.self.now.nodes ++ more) c.in_ok-place.place ≡ Some (asked c) = ap (λ ns. slice_get ns c.in_ok-place.place) (sym is) ∙ here ∙ ap Some (sym same) in
    subst (λ ns. IsChoice c.args.self.now.nodes ns c.args.variable c.args.low c.args.high c.to_node.result) (sym is)
    (IsChoice-node c.args.self.now.nodes more c.in_ok-place.place (asked c) c.to_node.result (subst IsReduced is (new c).reduced) c.requires.low c.requires.high at c.to_node.ensures)

pub returns-clause-value : goal.returns-clause-value
returns-clause-value c = elim c.match-get_index_of.branch [
  | in-Some w ↦
      let store : IsStore c.args.self.now = subst IsStore c.self.view_is c.self.invariant.store in
      let node : Node = record { variable = c.args.variable; low = c.args.low; high = c.args.high } in
      let at : slice_get c.args.self.now.nodes w.in-Some.place ≡ Some node = ap (λ (s : StoreView). slice_get s.nodes w.in-Some.place) (sym c.self.view_is) ∙ stands_at_position c.self.inside.nodes.keys node w.in-Some.place (sym w.in-Some.ensures.index) in
      let nil = append-nil c.args.self.now.nodes in
      rw w.result-is
      (subst (λ ns. IsChoice c.args.self.now.nodes ns c.args.variable c.args.low c.args.high w.to_node-in-Some.result) nil
      (IsChoice-node c.args.self.now.nodes [] w.in-Some.place node w.to_node-in-Some.result (subst IsReduced (sym nil) store.reduced) c.requires.low c.requires.high
      (ap (λ ns. slice_get ns w.in-Some.place) nil ∙ at) w.to_node-in-Some.ensures))
  | in-None w ↦ rw w.result-is tt
  | in-None-2 w ↦ rw w.result-is tt
]
