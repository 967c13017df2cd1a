-- What a reader waits for, the writer sends at an equal position.
use Rattle.sig_schedule_laws.proofs.Common.{compiled_operations, compiled_order, ◌≡◌, ◌<◌, ◌≤◌, ◌+◌, ◌*◌, ◌⊎◌, inl, inr, ℕ, ℤ, pos, true, cond, List, length, ap, sym, subst, ◌∙◌, arith, None, Some, slice_get, Instant, Trace, seen_at, guard_holds, truths_of, sent_on, item_of, CodeView, Instruction, under, unguarded, CarriesFrom, IsFor, StandsAt, does, sends, receives, reports, collects, commits, Operation, IsAccepted, PlanView, Step, Do, Send, Receive, Report, Collect, Commit, LinkInfo, plan_operations, ends_within, writer_cluster}
use Rattle.sig_schedule_laws.proofs.Ends.{IsItem}
use Rattle.sig_schedule_laws.proofs.EndsOfLinks.{writer_end}
use Rattle.sig_schedule_laws.proofs.Moved.{chosen_of}
use Rattle.sig_schedule_laws.proofs.Steps.{DoesStep, instruction_step}

module _ (plan : PlanView) (accepted : IsAccepted plan) (reference : Trace) (instant : Instant) (l : ℕ) (info : LinkInfo) (at_l : slice_get plan.links l ≡ Some info)
    (code : CodeView) (coded : slice_get plan.codes info.writer ≡ Some code) where
  abbrev IsKnown : ℕ → Instruction → Type 0
  IsKnown k i = IsFor (compiled_operations plan) (compiled_order plan) accepted.parts.links accepted.parts.clusters k i

  -- a step of the writer that sends, at a position at which the writer takes nothing and that no operation behind another has
  pub record IsSending (position : ℕ) : Type 0 where
    pub t : ℕ
    pub other : Step
    pub at : slice_get code.steps t ≡ Some other
    pub d : DoesStep plan accepted info.writer code coded t other
    pub item : ℤ
    pub sends : chosen_of plan code reference (sent_on plan.links l) instant other ≡ Some item
    pub same : d.i.position ≡ position
    pub alone : (i : Instruction) → IsKnown info.writer i → i.position ≡ position → (m : ℕ) → (i.kind ≡ Receive m) ⊎ (i.kind ≡ Collect m) → ⊥
    pub behind : (j : ℕ) → j < length (compiled_order plan) → 2 * j ≤ position → 2 * j < position

  at_parts : slice_get accepted.parts.links l ≡ Some info
  at_parts = subst (λ (ls : List LinkInfo). slice_get ls l ≡ Some info) (sym accepted.links) at_l

  chosen_some : (other : Step) (item : ℤ) → guard_holds plan code (seen_at instant) other ≡ true → sent_on plan.links l instant other.kind ≡ Some item → chosen_of plan code reference (sent_on plan.links l) instant other ≡ Some item
  chosen_some other item holds gives = ap (λ b. cond b (sent_on plan.links l instant other.kind) None) holds ∙ gives

  -- where the writer sends what its operation writes, it takes nothing
  alone_item : (j number : ℕ) (p : Operation) → StandsAt (compiled_operations plan) (compiled_order plan) j number p → p.cluster ≡ info.writer
      → (i : Instruction) → IsKnown info.writer i → i.position ≡ 2 * j + 1 → (m : ℕ) → (i.kind ≡ Receive m) ⊎ (i.kind ≡ Collect m) → ⊥
  alone_item j number p stands own _ (receives j2 number2 link p2 stands2 other from reader) position m kind =
      let same : j2 ≡ j = omega (arith, position) in
      let e : Some number2 ≡ Some number = sym stands2.place ∙ ap (slice_get (compiled_order plan)) same ∙ stands.place in
      let one : number2 ≡ number = cc in
      let f : Some p2 ≡ Some p = sym stands2.is ∙ ap (slice_get (compiled_operations plan)) one ∙ stands.is in
      let two : p2 ≡ p = cc in
      other (ap (λ (q : Operation). q.cluster) two ∙ own)
  alone_item j number p stands own _ (collects link found mine there none) position m kind = omega (arith, position)
  alone_item j number p stands own _ (does j2 number2 p2 stands2 mine) position m (inl kind) = let e : Do (record { 0 = number2 }) ≡ Receive m = kind in cc
  alone_item j number p stands own _ (does j2 number2 p2 stands2 mine) position m (inr kind) = let e : Do (record { 0 = number2 }) ≡ Collect m = kind in cc
  alone_item j number p stands own _ (sends j2 number2 link p2 stands2 mine from) position m (inl kind) = let e : Send link ≡ Receive m = kind in cc
  alone_item j number p stands own _ (sends j2 number2 link p2 stands2 mine from) position m (inr kind) = let e : Send link ≡ Collect m = kind in cc
  alone_item j number p stands own _ (reports link found other there none writer) position m (inl kind) = let e : Report link ≡ Receive m = kind in cc
  alone_item j number p stands own _ (reports link found other there none writer) position m (inr kind) = let e : Report link ≡ Collect m = kind in cc
  alone_item j number p stands own _ (commits mine) position m (inl kind) = let e : Commit ≡ Receive m = kind in cc
  alone_item j number p stands own _ (commits mine) position m (inr kind) = let e : Commit ≡ Collect m = kind in cc

  -- and where it reports neither
  alone_report : info.writer < accepted.parts.clusters
      → (i : Instruction) → IsKnown info.writer i → i.position ≡ 2 * length (compiled_operations plan) → (m : ℕ) → (i.kind ≡ Receive m) ⊎ (i.kind ≡ Collect m) → ⊥
  alone_report lt _ (receives j2 number2 link p2 stands2 other from reader) position m kind = omega (arith, position)
  alone_report lt _ (collects link found mine there none) position m kind = omega (arith, mine, lt)
  alone_report lt _ (does j2 number2 p2 stands2 mine) position m (inl kind) = let e : Do (record { 0 = number2 }) ≡ Receive m = kind in cc
  alone_report lt _ (does j2 number2 p2 stands2 mine) position m (inr kind) = let e : Do (record { 0 = number2 }) ≡ Collect m = kind in cc
  alone_report lt _ (sends j2 number2 link p2 stands2 mine from) position m (inl kind) = let e : Send link ≡ Receive m = kind in cc
  alone_report lt _ (sends j2 number2 link p2 stands2 mine from) position m (inr kind) = let e : Send link ≡ Collect m = kind in cc
  alone_report lt _ (reports link found other there none writer) position m (inl kind) = let e : Report link ≡ Receive m = kind in cc
  alone_report lt _ (reports link found other there none writer) position m (inr kind) = let e : Report link ≡ Collect m = kind in cc
  alone_report lt _ (commits mine) position m (inl kind) = let e : Commit ≡ Receive m = kind in cc
  alone_report lt _ (commits mine) position m (inr kind) = let e : Commit ≡ Collect m = kind in cc

  -- beside an item that is due to be received
  pub sends_item : (i : Instruction) → IsItem plan accepted l info at_l (Receive l) i → i.guard (truths_of plan.clocks.conditions (seen_at instant)) ≡ true → IsSending i.position
  sends_item i item done =
      let end = writer_end plan accepted l info at_l in
      let there = instruction_step plan accepted info.writer code coded (under item.p (Send l) (2 * item.j + 1)) (end.has_item item.j item.number item.p item.x item.stands item.writes item.carries) in
      let from : CarriesFrom accepted.parts.links item.p l = record { info = info; signal = item.x; is = at_parts; writes = item.writes; carries = item.carries } in
      let own : item.p.cluster ≡ info.writer = writer_cluster plan.kernel accepted.valid plan.clocks.conditions (compiled_operations plan) (plan_operations plan accepted) accepted.parts accepted.split l item.p from item.number item.stands.is in
      let kind : there.1.kind ≡ Send l = there.3.kind ∙ ap (λ (z : Instruction). z.kind) there.4 in
      let guard : item.p.guard (truths_of plan.clocks.conditions (seen_at instant)) ≡ true = sym (ap (λ (z : Instruction). z.guard (truths_of plan.clocks.conditions (seen_at instant))) item.is) ∙ done in
      let holds : guard_holds plan code (seen_at instant) there.1 ≡ true = there.3.guard (seen_at instant) ∙ ap (λ (z : Instruction). z.guard (truths_of plan.clocks.conditions (seen_at instant))) there.4 ∙ guard in
      let position : i.position ≡ 2 * item.j + 1 = ap (λ (z : Instruction). z.position) item.is in
      let theirs : there.3.i.position ≡ 2 * item.j + 1 = ap (λ (z : Instruction). z.position) there.4 in
      record {
        t = there.0;
        other = there.1;
        at = there.2;
        d = there.3;
        item = item_of (seen_at instant) info.signal;
        sends = chosen_some there.1 (item_of (seen_at instant) info.signal) holds (ap (sent_on plan.links l instant) kind ∙ end.gives instant);
        same = theirs ∙ sym position;
        alone = λ a known same. alone_item item.j item.number item.p item.stands own a known (same ∙ position);
        behind = λ j lt le. omega (arith, le, position);
      }

  -- and beside a report
  pub sends_report : (i : Instruction) → (info.signal ≡ None) × (i ≡ unguarded (Collect l) (2 * length (compiled_operations plan))) → IsSending i.position
  sends_report i report =
      let end = writer_end plan accepted l info at_l in
      let there = instruction_step plan accepted info.writer code coded (unguarded (Report l) (2 * length (compiled_operations plan))) (end.has_report report.0) in
      let ends = ends_within plan.kernel accepted.valid plan.clocks.conditions (compiled_operations plan) (plan_operations plan accepted) accepted.parts accepted.split l info at_parts in
      let kind : there.1.kind ≡ Report l = there.3.kind ∙ ap (λ (z : Instruction). z.kind) there.4 in
      let holds : guard_holds plan code (seen_at instant) there.1 ≡ true = there.3.guard (seen_at instant) ∙ ap (λ (z : Instruction). z.guard (truths_of plan.clocks.conditions (seen_at instant))) there.4 in
      let position : i.position ≡ 2 * length (compiled_operations plan) = ap (λ (z : Instruction). z.position) report.1 in
      let theirs : there.3.i.position ≡ 2 * length (compiled_operations plan) = ap (λ (z : Instruction). z.position) there.4 in
      let full = accepted.order.all in
      record {
        t = there.0;
        other = there.1;
        at = there.2;
        d = there.3;
        item = pos 0;
        sends = chosen_some there.1 (pos 0) holds (ap (sent_on plan.links l instant) kind ∙ end.marks instant);
        same = theirs ∙ sym position;
        alone = λ a known same. alone_report ends.0 a known (same ∙ position);
        behind = λ j lt le. omega (arith, lt, full, position);
      }
