use Rattle.sig_graph.proofs.{◌≡◌, ◌<◌, ◌≤◌, ◌∷◌, [], ◌∙◌, ℕ, List, sym, ap, subst, length, get_or, arith, rules, Contains, vec_len, get_or_read, length-map, map-append, Contains-get_or, le_from_not_gt, OpId, AreFirst, Releases, Takes, occurs, numbers_of, enough_left, least_open, popped, successors_within, takes_begins, takes_goes_on, room_left, written}
use Rattle.sig_graph.proofs.taking.take_all.Goals as goal

pub loop-number-init : goal.loop-number-init
loop-number-init c =
    let graph = c.args.graph.now in
    let ready = c.in_ok-ready.ready in
    let lengths = c.in_ok-counts.ensures in
    subst (λ (order : List OpId). Takes graph c.in_ok-counts.counts.items ready (numbers_of order)) (sym c.new-order.ensures.items)
    (subst (λ (counts : List ℕ). Takes graph counts ready []) (sym lengths)
    (takes_begins graph ready (subst (λ (counts : List ℕ). AreFirst counts ready) (c.as_slice.ensures.value ∙ lengths) c.in_ok-ready.ensures)))

pub release-requires-clause-within : goal.release-requires-clause-within
release-requires-clause-within c k d less =
    let graph = c.args.graph.now in
    let successors = c.in_ok-successors.successors.items in
    let n = c.in-Some.number in
    let has = c.in-Some.ensures.member in
    let within : c.in-Some.number < length c.args.graph.now = ((c.loop-number.invariant.exact n).0 has).within in
    let all = c.in_ok-successors.ensures.all in
    let list_is : c.as_slice-in-Some.result.now ≡ get_or c.in_ok-successors.successors.items c.in-Some.number [] =
    c.as_slice-in-Some.ensures ∙ get_or_read successors n c.index.result.now (omega (arith, within, all)) c.index.ensures [] in
    subst (λ (counts : List ℕ). get_or c.as_slice-in-Some.result.now k d < length counts) (sym c.deref_mut.ensures.value)
    (successors_within graph successors c.in_ok-successors.ensures n within c.loop-number.counts.items c.loop-number.ready c.pop_first.new.self (numbers_of c.loop-number.order.items) c.loop-number.invariant has (get_or c.as_slice-in-Some.result.now k d)
    (subst (λ (list : List ℕ). Contains list (get_or c.as_slice-in-Some.result.now k d)) list_is (Contains-get_or c.as_slice-in-Some.result.now k d less)))

pub release-requires-clause-enough : goal.release-requires-clause-enough
release-requires-clause-enough c number =
    let graph = c.args.graph.now in
    let successors = c.in_ok-successors.successors.items in
    let n = c.in-Some.number in
    let has = c.in-Some.ensures.member in
    let within : c.in-Some.number < length c.args.graph.now = ((c.loop-number.invariant.exact n).0 has).within in
    let all = c.in_ok-successors.ensures.all in
    let list_is : c.as_slice-in-Some.result.now ≡ get_or c.in_ok-successors.successors.items c.in-Some.number [] =
    c.as_slice-in-Some.ensures ∙ get_or_read successors n c.index.result.now (omega (arith, within, all)) c.index.ensures [] in
    subst (λ (list : List ℕ). occurs number list ≤ get_or c.deref_mut.result.now number 0) (sym list_is)
    (subst (λ (counts : List ℕ). occurs number (get_or c.in_ok-successors.successors.items c.in-Some.number []) ≤ get_or counts number 0) (sym c.deref_mut.ensures.value)
    (enough_left graph successors c.in_ok-successors.ensures n within c.loop-number.counts.items c.loop-number.ready c.pop_first.new.self (numbers_of c.loop-number.order.items) c.loop-number.invariant has number))

pub loop-number-smaller : goal.loop-number-smaller
loop-number-smaller c =
    let graph = c.args.graph.now in
    let successors = c.in_ok-successors.successors.items in
    let n = c.in-Some.number in
    let has = c.in-Some.ensures.member in
    let is = c.loop-number.invariant in
    let within : c.in-Some.number < length c.args.graph.now = ((c.loop-number.invariant.exact n).0 has).within in
    let room = room_left graph is.marks (numbers_of c.loop-number.order.items) is.taken n
    (least_open graph successors c.in_ok-successors.ensures n within c.loop-number.counts.items c.loop-number.ready c.pop_first.new.self (numbers_of c.loop-number.order.items) is has (λ q there. le_from_not_gt n q (c.in-Some.ensures.least q there))) in
    let count = length-map c.loop-number.order.items (λ (op : OpId). op.0) in
    let more = c.in_ok-push.ensures.len in
    let whole : vec_len c.loop-number.order ≡ length c.loop-number.order.items = search rules in
    omega (arith, room, count, more, whole)

pub loop-number-preserved : goal.loop-number-preserved
loop-number-preserved c =
    let graph = c.args.graph.now in
    let successors = c.in_ok-successors.successors.items in
    let n = c.in-Some.number in
    let number : OpId = record { 0 = c.in-Some.number } in
    let has = c.in-Some.ensures.member in
    let is = c.loop-number.invariant in
    let within : c.in-Some.number < length c.args.graph.now = ((c.loop-number.invariant.exact n).0 has).within in
    let all = c.in_ok-successors.ensures.all in
    let list_is : c.as_slice-in-Some.result.now ≡ get_or c.in_ok-successors.successors.items c.in-Some.number [] =
    c.as_slice-in-Some.ensures ∙ get_or_read successors n c.index.result.now (omega (arith, within, all)) c.index.ensures [] in
    let value = c.deref_mut.ensures.value in
    let releases = c.in_ok-release.ensures in
    let whole = written c.loop-number.counts.len c.release.new.counts c.loop-number.counts.items (releases.count ∙ ap length value) (sym c.deref_mut.ensures.len ∙ ap length value) in
    let from_counts : Releases (get_or c.in_ok-successors.successors.items c.in-Some.number []) c.loop-number.counts.items c.release.new.counts c.pop_first.new.self c.release.new.ready =
    subst (λ (counts : List ℕ). Releases (get_or c.in_ok-successors.successors.items c.in-Some.number []) counts c.release.new.counts c.pop_first.new.self c.release.new.ready) value
    (subst (λ (list : List ℕ). Releases list c.deref_mut.result.now c.release.new.counts c.pop_first.new.self c.release.new.ready) list_is releases) in
    subst (λ (counts : List ℕ). Takes graph counts c.release.new.ready (numbers_of c.push.new.self.items)) (sym whole)
    (subst (Takes graph c.release.new.counts c.release.new.ready) (sym (ap numbers_of c.in_ok-push.ensures.items ∙ map-append (λ (op : OpId). op.0) c.loop-number.order.items (number ∷ [])))
    (takes_goes_on graph successors c.in_ok-successors.ensures n within c.loop-number.counts.items c.loop-number.ready c.pop_first.new.self (numbers_of c.loop-number.order.items) is has
    (λ q there. le_from_not_gt n q (c.in-Some.ensures.least q there)) (popped c.loop-number.ready c.pop_first.new.self n c.in-Some.ensures.updates.0) c.release.new.counts c.release.new.ready from_counts))
