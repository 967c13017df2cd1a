use Rattle.sig_interleaving.proofs.{no_word_keeps, no_word_tells, ◌≡◌, ◌<◌, ◌≤◌, ◌∙◌, ◌^◌, ap, arith, refl, rules, sym, Some, slice_get, with_item, slice_get_read, no_place, packed, Place, look_core, look_keeps, look_leaves, look_tells, Core, place_of, same_Some, get_set_other}
use Rattle.sig_interleaving.proofs.state.Core.look.Goals as goal

pub returns-then-self-clause-happened : goal.returns-then-self-clause-happened
returns-then-self-clause-happened c = no_word_keeps c.args.self.now c.args.k c.if-self.true

pub returns-then-self-clause-answer : goal.returns-then-self-clause-answer
returns-then-self-clause-answer c = no_word_tells c.args.self.now c.args.k c.if-self.true

within : (c : goal.After-self-1) → c.args.k < c.args.self.now.states.len
within c = let lt = c.if-k-len.false in let len = c.len.ensures in omega (arith, lt, len)

there : (c : goal.After-self-1) → slice_get c.args.self.now.states.items c.args.k ≡ Some c.index_mut.result.now
there c = slice_get_read c.args.self.now.states.items c.args.self.now.states.len c.args.k c.index_mut.result.now c.args.self.now.states.ok.0 (within c) c.index_mut.ensures.value

-- the place that was read is that of the actor
the_place : (c : goal.After-self-1) → c.next_place-place.result ≡ place_of c.index_mut.result.now
the_place c =
    let read = slice_get_read c.args.self.now.states.items c.args.self.now.states.len c.args.k c.index.result.now c.args.self.now.states.ok.0 (within c) c.index.ensures in
    c.next_place-place.ensures ∙ ap place_of (same_Some c.index.result.now c.index_mut.result.now (sym read ∙ there c))

position : (c : goal.After-self-1) → c.index_mut.result.now.pos < 2 ^ 32
position c =
    let same : c.next_place-place.result.pos ≡ c.index_mut.result.now.pos = ap (λ (p : Place). p.pos) (the_place c) in
    let fits : c.next_place-place.result.pos < 2 ^ 32 = search rules in
    omega (arith, same, fits)

below : (c : goal.After-self-1) → packed (place_of c.index_mut.result.now) ≤ no_place
below c =
    let same : packed c.next_place-place.result ≡ packed (place_of c.index_mut.result.now) = ap packed (the_place c) in
    let fits : c.next_place-place.result.pos < 2 ^ 32 = search rules in
    let instant : c.next_place-place.result.instant < 2 ^ 32 = search rules in
    omega (arith, same, fits, instant)

-- the core with that state
abbrev behind : goal.After-self-1 → Core
behind c = record c.args.self.now { states = with_item c.args.self.now.states c.args.k c.look.new.self }

pub returns-clause-core : goal.returns-clause-core
returns-clause-core c =
    look_core c.args.self.now c.requires c.args.k c.index_mut.result.now c.look.new.self (there c) (position c) (below c) c.look.result c.look.ensures.answer c.look.ensures.state
    (c.look.ensures.kept c.args.self.now.plan.now c.args.self.now.inputs.now (c.requires.states c.args.k c.index_mut.result.now (there c)).state) (behind c) refl refl

pub returns-clause-happened : goal.returns-clause-happened
returns-clause-happened c =
    look_keeps c.args.self.now c.requires c.args.k c.index_mut.result.now c.look.new.self (there c) (position c) (below c) c.look.result c.look.ensures.answer c.look.ensures.state
    (c.look.ensures.kept c.args.self.now.plan.now c.args.self.now.inputs.now (c.requires.states c.args.k c.index_mut.result.now (there c)).state) (behind c) refl refl

pub returns-clause-answer : goal.returns-clause-answer
returns-clause-answer c =
    look_tells c.args.self.now c.requires c.args.k c.index_mut.result.now c.look.new.self (there c) (position c) (below c) c.look.result c.look.ensures.answer c.look.ensures.state
    (c.look.ensures.kept c.args.self.now.plan.now c.args.self.now.inputs.now (c.requires.states c.args.k c.index_mut.result.now (there c)).state) (behind c) refl refl

pub returns-clause-left : goal.returns-clause-left
returns-clause-left c =
    look_leaves c.args.self.now c.requires c.args.k c.index_mut.result.now c.look.new.self (there c) (position c) (below c) c.look.result c.look.ensures.answer c.look.ensures.state
    (c.look.ensures.kept c.args.self.now.plan.now c.args.self.now.inputs.now (c.requires.states c.args.k c.index_mut.result.now (there c)).state) (behind c) refl refl

pub returns-clause-touches : goal.returns-clause-touches
returns-clause-touches c = record { states = λ i other. get_set_other c.args.self.now.states.items c.args.k i c.look.new.self other; links = λ j apart. refl }
