use Rattle.sig_solve.proofs.{◌≡◌, ◌<◌, ◌≤◌, ◌+◌, ◌*◌, ℕ, List, length, map, get_or, refl, sym, ap, ◌∙◌, subst, arith, slice_get, range_with_len, length-range_with_len, SigId, signal_id, AreClasses, AreFirsts, AreGuardsOf, layer_in, by_layer, by_fewer, by_order, listed_signal, sorted_signals, first_within, leaders_fewer, length-map}
use Rattle.sig_solve.proofs.classes.clocks_of.Goals as goal
use Rattle.sig_solve.proofs.classes.clocks_of.Goals.{In_ok-ordered, In_ok-firsts}

pub overflow_cast-len-2 : goal.overflow_cast-len-2
overflow_cast-len-2 c = let few = leaders_fewer c.args.frame.now c.requires.frame in record { fits = omega (arith, few, c.requires.few, c.len-2.ensures, c.args.frame.now.leaders.ok.0) }

pub by_layer-requires : goal.by_layer-requires
by_layer-requires c = let few = leaders_fewer c.args.frame.now c.requires.frame in omega (arith, few, c.requires.few, c.len-2.ensures, c.args.frame.now.leaders.ok.0)

-- all signals, layer after layer
ordered_is : (c : In_ok-ordered) → c.in_ok-ordered.ordered.items ≡ by_layer c.args.frame.now c.args.layers.now (map signal_id (range_with_len 0 (length c.args.frame.now.kernel.now.signals))) (length c.args.frame.now.leaders.items)
ordered_is c =
    let count : c.len.result ≡ length c.args.frame.now.kernel.now.signals = c.len.ensures ∙ c.args.frame.now.least.ok.0 ∙ c.requires.frame.least.count in
    c.in_ok-ordered.ensures ∙ ap (λ xs. by_layer c.args.frame.now c.args.layers.now xs c.len-2.result) (c.as_slice.ensures.value ∙ c.in_ok-signals.ensures ∙ ap (λ n. map signal_id (range_with_len 0 n)) count)
    ∙ ap (by_layer c.args.frame.now c.args.layers.now (map signal_id (range_with_len 0 (length c.args.frame.now.kernel.now.signals)))) (c.len-2.ensures ∙ c.args.frame.now.leaders.ok.0)

ordered_few : (c : In_ok-ordered) → length c.in_ok-ordered.ordered.items ≤ length c.args.frame.now.kernel.now.signals
ordered_few c =
    omega (
      arith,
      ap length (ordered_is c),
      by_fewer c.args.frame.now c.args.layers.now (map signal_id (range_with_len 0 (length c.args.frame.now.kernel.now.signals))) (length c.args.frame.now.leaders.items),
      length-map (range_with_len 0 (length c.args.frame.now.kernel.now.signals)) signal_id,
      length-range_with_len 0 (length c.args.frame.now.kernel.now.signals),
    )

pub firsts_of-requires-clause-order : goal.firsts_of-requires-clause-order
firsts_of-requires-clause-order c i j a d lt at_i at_j =
    let same = c.as_slice-2.ensures.value ∙ ordered_is (goal.at.firsts_of-requires-clause-order c).In_ok-ordered in
    by_order c.args.frame.now c.args.layers.now (map signal_id (range_with_len 0 (length c.args.frame.now.kernel.now.signals))) (sorted_signals (length c.args.frame.now.kernel.now.signals)) (length c.args.frame.now.leaders.items) i j a d lt
    (ap (λ (xs : List SigId). slice_get xs i) (sym same) ∙ at_i) (ap (λ (xs : List SigId). slice_get xs j) (sym same) ∙ at_j)

pub firsts_of-requires-clause-few : goal.firsts_of-requires-clause-few
firsts_of-requires-clause-few c = omega (arith, ap length c.as_slice-2.ensures.value, ordered_few (goal.at.firsts_of-requires-clause-few c).In_ok-ordered, c.requires.few)

pub classes_of-requires-clause-few : goal.classes_of-requires-clause-few
classes_of-requires-clause-few c =
    omega (arith, ap length c.as_slice-firsts.ensures.value, c.in_ok-firsts.ensures.1, ap length c.as_slice-2.ensures.value, ordered_few (goal.at.classes_of-requires-clause-few c).In_ok-ordered, c.requires.few)

pub classes_of-requires-clause-all : goal.classes_of-requires-clause-all
classes_of-requires-clause-all c s lt =
    let within : s < length c.args.frame.now.kernel.now.signals = omega (arith, lt, c.requires.frame.least.count) in
    let same = c.as_slice-2.ensures.value ∙ ordered_is (goal.at.classes_of-requires-clause-all c).In_ok-ordered in
    let found = c.in_ok-firsts.ensures.0.all (signal_id s) (subst (λ (xs : List SigId). Rattle.std.proofs.Common.Contains xs (signal_id s)) (sym same) (listed_signal c.args.frame.now c.requires.frame c.args.layers.now c.requires.settled s within)) in
    (found.0, found.1, ap (λ (xs : List SigId). slice_get xs found.0) c.as_slice-firsts.ensures.value ∙ found.2, found.3)

pub guards_at-requires : goal.guards_at-requires
guards_at-requires c i a at =
    let same = c.as_slice-2.ensures.value ∙ ordered_is (goal.at.guards_at-requires c).In_ok-ordered in
    c.requires.guards a.0 (first_within c.args.frame.now c.args.layers.now c.args.guards.now c.args.root c.in_ok-firsts.firsts.items
    (subst (λ xs. AreFirsts c.args.frame.now c.args.layers.now c.args.guards.now c.args.root xs c.in_ok-firsts.firsts.items) same c.in_ok-firsts.ensures.0) c.requires.root i a (ap (λ (xs : List SigId). slice_get xs i) (sym c.as_slice-firsts.ensures.value) ∙ at))

pub returns : goal.returns
returns c =
    let same = c.as_slice-2.ensures.value ∙ ordered_is (goal.at.returns c).In_ok-ordered in
    let own = c.as_slice-firsts.ensures.value in
    record {
      firsts = c.in_ok-firsts.firsts.items;
      are = subst (λ xs. AreFirsts c.args.frame.now c.args.layers.now c.args.guards.now c.args.root xs c.in_ok-firsts.firsts.items) same c.in_ok-firsts.ensures.0;
      count = c.in_ok-classes_of.ensures.0 ∙ c.requires.frame.least.count;
      classes = subst (λ xs. AreClasses c.args.frame.now c.args.guards.now xs c.in_ok-classes_of.field-0.items) own c.in_ok-classes_of.ensures.1;
      guard = subst (λ xs. AreGuardsOf c.args.frame.now c.args.guards.now xs c.in_ok-guards_at.field-0.items) own c.in_ok-guards_at.ensures;
      layer = c.in_ok-layers_at.ensures ∙ ap (map (λ (x : SigId). layer_in c.args.frame.now c.args.layers.now x.0)) own;
      conditions_are = refl;
    }
