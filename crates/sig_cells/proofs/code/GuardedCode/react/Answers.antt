use Rattle.std.proofs.Common.{◌≡◌, ◌<◌, ◌∙◌, ℕ, List, length, refl, sym, ap, subst, arith}
use Rattle.sig_values.proofs.Common.{slice_get_read}
use Rattle.sig_cells.specs.Prelude.{Depends, SigId, test}
use Rattle.sig_cells.specs.Codes.{instructions_in}
use Rattle.sig_cells.specs.Instants.{FailsAt}
use Rattle.sig_cells.specs.Rows.{GoesTo}
use Rattle.sig_cells.specs.Instructions.{cells_of, registers_in}
use Rattle.sig_cells.specs.inner.Tests.{is_end, truth_by}
use Rattle.sig_cells.proofs.BehindRuns.{AtWays, before_end, fails_off, fails_on, forth_off, forth_on, further_off, further_on, guard_held, guard_told, next_off, next_on, place_off, place_on, test_asks, within_off, within_on}
use Rattle.sig_cells.proofs.code.GuardedCode.react.Goals.{After-index-ways, After-is_on}
use Rattle.sig_cells.proofs.code.GuardedCode.react.Goals as goal

-- the run whose ways were read
abbrev at_ways : After-index-ways → AtWays
at_ways c =
    let code = c.args.self.now in
    let next = c.loop-next.next.now in
    let before = c.loop-next.invariant.before in
    let more = sym c.is_end.ensures ∙ c.loop-next-test.true in
    let within = before_end next.place (length code.runs.items) (is_end next.test) before.end more in
    let count = c.requires.code.ways.count in
    record {
      nodes = c.args.store.now.nodes;
      code = code;
      flows = c.args.inputs.now;
      instant = c.args.instant;
      start = cells_of c.args.cells.now c.args.stamps.now c.args.taken.now;
      s = cells_of c.loop-next.cells c.loop-next.stamps c.loop-next.taken;
      next = next;
      ways = c.index-ways.result.now;
      is = c.requires.code;
      at = before;
      more = more;
      ways_at = slice_get_read code.ways.items (length code.ways.items) next.place c.index-ways.result.now refl (omega (arith, within, count)) c.index-ways.ensures;
    }

-- the test tells the guard by the conditions of the code
told_by_test : (c : After-is_on) → c.is_on.result ≡ truth_by c.args.store.now.nodes c.args.self.now.conditions.items c.loop-next.next.now.test c.index-ways.result.now.guard (registers_in c.args.self.now.signals c.args.instant (cells_of c.loop-next.cells c.loop-next.stamps c.loop-next.taken))
told_by_test c = c.is_on.ensures ∙ ap (λ (conditions : List SigId). truth_by c.args.store.now.nodes conditions c.loop-next.next.now.test c.index-ways.result.now.guard (registers_in c.args.self.now.signals c.args.instant (cells_of c.loop-next.cells c.loop-next.stamps c.loop-next.taken))) c.as_slice.ensures.value

pub is_on-requires-clause-held : goal.is_on-requires-clause-held
is_on-requires-clause-held c = guard_held (at_ways (goal.at.is_on-requires-clause-held c).After-index-ways)

pub is_on-requires-clause-told : goal.is_on-requires-clause-told
is_on-requires-clause-told c =
    subst (λ (conditions : List SigId). (v : ℕ) → Depends (test c.args.store.now.nodes c.index-ways.result.now.guard) v → v < length conditions) (sym c.as_slice.ensures.value)
    (guard_told (at_ways (goal.at.is_on-requires-clause-told c).After-index-ways))

pub is_on-requires-clause-asks : goal.is_on-requires-clause-asks
is_on-requires-clause-asks c = test_asks (at_ways (goal.at.is_on-requires-clause-asks c).After-index-ways)

pub execute-reached-requires-clause-forth : goal.execute-reached-requires-clause-forth
execute-reached-requires-clause-forth c = forth_on (at_ways (goal.at.execute-reached-requires-clause-forth c).After-index-ways)

pub execute-reached-requires-clause-within : goal.execute-reached-requires-clause-within
execute-reached-requires-clause-within c = within_on (at_ways (goal.at.execute-reached-requires-clause-within c).After-index-ways)

pub loop-next-smaller-else-reached-next : goal.loop-next-smaller-else-reached-next
loop-next-smaller-else-reached-next c =
    let w = at_ways (goal.at.loop-next-smaller-else-reached-next c).After-index-ways in
    omega (arith, further_on w, place_on w)

pub loop-next-preserved-else-reached-next : goal.loop-next-preserved-else-reached-next
loop-next-preserved-else-reached-next c =
    let w = at_ways (goal.at.loop-next-preserved-else-reached-next c).After-index-ways in
    let told = sym c.if-is_on.true ∙ told_by_test (goal.at.loop-next-preserved-else-reached-next c).After-is_on in
    let done = c.execute-reached.new in
    let u = cells_of done.cells done.stamps done.taken in
    let past = c.if-reached-next.false in
    let most = c.execute-reached.ensures.within in
    let all : c.execute-reached.result ≡ w.ways.on.to = omega (arith, past, most) in
    record {
      before = next_on w told u (subst (λ (n : ℕ). GoesTo (instructions_in w.code) w.flows w.instant w.ways.on.from n w.s u) all c.execute-reached.ensures.goes) c.execute-reached.ensures.keeps;
    }

pub returns-then-reached-next-clause-fault : goal.returns-then-reached-next-clause-fault
returns-then-reached-next-clause-fault c =
    let w = at_ways (goal.at.returns-then-reached-next-clause-fault c).After-index-ways in
    let told = sym c.if-is_on.true ∙ told_by_test (goal.at.returns-then-reached-next-clause-fault c).After-is_on in
    let there = c.fault_at.ensures.place in
    let done = c.execute-reached.new in
    let u = cells_of done.cells done.stamps done.taken in
    let here = c.if-reached-next.true in
    λ stands.
    fails_on w told u c.fault_at.result (omega (arith, there, here))
    (subst (λ (n : ℕ). GoesTo (instructions_in w.code) w.flows w.instant w.ways.on.from n w.s u) (sym there) c.execute-reached.ensures.goes)
    (subst (λ (n : ℕ). FailsAt (instructions_in w.code) w.flows n u c.fault_at.result.cause) (sym there) (c.fault_at.ensures.fails done.stamps)) stands

pub returns-then-reached-next-clause-place : goal.returns-then-reached-next-clause-place
returns-then-reached-next-clause-place c =
    let most = within_on (at_ways (goal.at.returns-then-reached-next-clause-place c).After-index-ways) in
    let same = c.fault_at.ensures.place in
    let here = c.if-reached-next.true in
    omega (arith, most, same, here)

pub execute-reached-requires-else-is_on-clause-forth : goal.execute-reached-requires-else-is_on-clause-forth
execute-reached-requires-else-is_on-clause-forth c = forth_off (at_ways (goal.at.execute-reached-requires-else-is_on-clause-forth c).After-index-ways)

pub execute-reached-requires-else-is_on-clause-within : goal.execute-reached-requires-else-is_on-clause-within
execute-reached-requires-else-is_on-clause-within c = within_off (at_ways (goal.at.execute-reached-requires-else-is_on-clause-within c).After-index-ways)

pub loop-next-smaller : goal.loop-next-smaller
loop-next-smaller c =
    let w = at_ways (goal.at.loop-next-smaller c).After-index-ways in
    omega (arith, further_off w, place_off w)

pub loop-next-preserved : goal.loop-next-preserved
loop-next-preserved c =
    let w = at_ways (goal.at.loop-next-preserved c).After-index-ways in
    let told = sym c.if-is_on.false ∙ told_by_test (goal.at.loop-next-preserved c).After-is_on in
    let done = c.execute-reached-else-is_on.new in
    let u = cells_of done.cells done.stamps done.taken in
    let past = c.if-reached-next-2.false in
    let most = c.execute-reached-else-is_on.ensures.within in
    let all : c.execute-reached-else-is_on.result ≡ w.ways.off.to = omega (arith, past, most) in
    record {
      before = next_off w told u (subst (λ (n : ℕ). GoesTo (instructions_in w.code) w.flows w.instant w.ways.off.from n w.s u) all c.execute-reached-else-is_on.ensures.goes) c.execute-reached-else-is_on.ensures.keeps;
    }

pub returns-then-reached-next-2-clause-fault : goal.returns-then-reached-next-2-clause-fault
returns-then-reached-next-2-clause-fault c =
    let w = at_ways (goal.at.returns-then-reached-next-2-clause-fault c).After-index-ways in
    let told = sym c.if-is_on.false ∙ told_by_test (goal.at.returns-then-reached-next-2-clause-fault c).After-is_on in
    let there = c.fault_at-then-reached-next-2.ensures.place in
    let done = c.execute-reached-else-is_on.new in
    let u = cells_of done.cells done.stamps done.taken in
    let here = c.if-reached-next-2.true in
    λ stands.
    fails_off w told u c.fault_at-then-reached-next-2.result (omega (arith, there, here))
    (subst (λ (n : ℕ). GoesTo (instructions_in w.code) w.flows w.instant w.ways.off.from n w.s u) (sym there) c.execute-reached-else-is_on.ensures.goes)
    (subst (λ (n : ℕ). FailsAt (instructions_in w.code) w.flows n u c.fault_at-then-reached-next-2.result.cause) (sym there) (c.fault_at-then-reached-next-2.ensures.fails done.stamps)) stands

pub returns-then-reached-next-2-clause-place : goal.returns-then-reached-next-2-clause-place
returns-then-reached-next-2-clause-place c =
    let most = within_off (at_ways (goal.at.returns-then-reached-next-2-clause-place c).After-index-ways) in
    let same = c.fault_at-then-reached-next-2.ensures.place in
    let here = c.if-reached-next-2.true in
    omega (arith, most, same, here)
