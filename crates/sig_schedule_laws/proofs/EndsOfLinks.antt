-- The writer and the reader of a link are its two ends.
use Rattle.sig_schedule_laws.proofs.Common.{compiled_operations, compiled_order, ◌≡◌, ◌+◌, ◌*◌, ◌⊎◌, inl, inr, ℕ, ℤ, pos, Bool, true, false, cond, List, length, refl, ap, sym, subst, ◌∙◌, None, Option, Some, slice_get, option_and_then, ◌==◌, eq-eqb, eqb-true, Instant, seen_at, SigId, sent_on, taken_from, carried, item_of, Instruction, under, unguarded, CarriesFrom, IsFor, StandsAt, does, sends, receives, reports, collects, commits, Operation, Writes, IsAccepted, PlanView, StepKind, Do, Send, Receive, Report, Collect, Commit, LinkInfo, plan_operations, paired, report_paired}
use Rattle.sig_schedule_laws.proofs.Ends.{IsItem, IsLinkEnd}

when_some : (b : Bool) (v w : ℤ) → (let chosen : Option ℤ = cond b (Some v) None in chosen) ≡ Some w → b ≡ true
when_some true v w is = refl
when_some false v w is = absurd (let e : None ≡ Some w = is in cc)

module _ (plan : PlanView) (accepted : IsAccepted plan) (link : ℕ) (info : LinkInfo) (at : slice_get plan.links link ≡ Some info) where
  abbrev IsKnown : ℕ → Instruction → Type 0
  IsKnown k i = IsFor (compiled_operations plan) (compiled_order plan) accepted.parts.links accepted.parts.clusters k i

  at_parts : slice_get accepted.parts.links link ≡ Some info
  at_parts = subst (λ (ls : List LinkInfo). slice_get ls link ≡ Some info) (sym accepted.links) at

  pub carried_is : carried plan.links link ≡ info.signal
  carried_is = ap (λ (o : Option LinkInfo). option_and_then (λ (l : LinkInfo). l.signal) o) at

  it_is : (link == link) ≡ true
  it_is = eq-eqb link link refl

  same_info : (l : ℕ) (found : LinkInfo) → slice_get accepted.parts.links l ≡ Some found → l ≡ link → found ≡ info
  same_info l found there same = let e : Some found ≡ Some info = sym there ∙ (ap (slice_get accepted.parts.links) same ∙ at_parts) in cc

  send_same : (a b : ℕ) → Send a ≡ Send b → a ≡ b
  send_same a b is = cc

  receive_same : (a b : ℕ) → Receive a ≡ Receive b → a ≡ b
  receive_same a b is = cc

  report_same : (a b : ℕ) → Report a ≡ Report b → a ≡ b
  report_same a b is = cc

  collect_same : (a b : ℕ) → Collect a ≡ Collect b → a ≡ b
  collect_same a b is = cc

  abbrev carries_from : (p : Operation) (x : SigId) → Writes p x → info.signal ≡ Some x → CarriesFrom accepted.parts.links p link
  carries_from p x writes carries = record { info = info; signal = x; is = at_parts; writes = writes; carries = carries }

  made_item : (K : ℕ → StepKind) (j number l : ℕ) (p : Operation) → StandsAt (compiled_operations plan) (compiled_order plan) j number p → (from : CarriesFrom accepted.parts.links p l) → l ≡ link
      → IsItem plan accepted link info at (K link) (under p (K l) (2 * j + 1))
  made_item K j number l p stands from same =
      let found = same_info l from.info from.is same in
      record { j = j; number = number; p = p; x = from.signal; stands = stands; writes = from.writes; carries = ap (λ (i : LinkInfo). i.signal) (sym found) ∙ from.carries; is = ap (λ n. under p (K n) (2 * j + 1)) same }

  made_report : (M : ℕ → StepKind) (l : ℕ) (found : LinkInfo) → slice_get accepted.parts.links l ≡ Some found → found.signal ≡ None → l ≡ link
      → (info.signal ≡ None) × (unguarded (M l) (2 * length (compiled_operations plan)) ≡ unguarded (M link) (2 * length (compiled_operations plan)))
  made_report M l found there none same = (ap (λ (i : LinkInfo). i.signal) (sym (same_info l found there same)) ∙ none, ap (λ n. unguarded (M n) (2 * length (compiled_operations plan))) same)

  -- ---- the writer

  sent_only : (instant : Instant) (kind : StepKind) (w : ℤ) → sent_on plan.links link instant kind ≡ Some w → (kind ≡ Send link) ⊎ (kind ≡ Report link)
  sent_only instant (Send l) w is = inl (ap Send (eqb-true l link (when_some (l == link) (item_of (seen_at instant) (carried plan.links link)) w is)))
  sent_only instant (Report l) w is = inr (ap Report (eqb-true l link (when_some (l == link) (pos 0) w is)))
  sent_only instant _ w is = absurd (let e : None ≡ Some w = is in cc)

  sent_items : (k : ℕ) (i : Instruction) → IsKnown k i → i.kind ≡ Send link → IsItem plan accepted link info at (Send link) i
  sent_items k _ (sends j number l p stands own from) is = made_item Send j number l p stands from (send_same l link is)
  sent_items k _ (does j number p stands own) is = absurd (let e : Do (record { 0 = number }) ≡ Send link = is in cc)
  sent_items k _ (receives j number l p stands other from reader) is = absurd (let e : Receive l ≡ Send link = is in cc)
  sent_items k _ (reports l found other there none writer) is = absurd (let e : Report l ≡ Send link = is in cc)
  sent_items k _ (collects l found own there none) is = absurd (let e : Collect l ≡ Send link = is in cc)
  sent_items k _ (commits own) is = absurd (let e : Commit ≡ Send link = is in cc)

  sent_reports : (k : ℕ) (i : Instruction) → IsKnown k i → i.kind ≡ Report link → (info.signal ≡ None) × (i ≡ unguarded (Report link) (2 * length (compiled_operations plan)))
  sent_reports k _ (reports l found other there none writer) is = made_report Report l found there none (report_same l link is)
  sent_reports k _ (does j number p stands own) is = absurd (let e : Do (record { 0 = number }) ≡ Report link = is in cc)
  sent_reports k _ (sends j number l p stands own from) is = absurd (let e : Send l ≡ Report link = is in cc)
  sent_reports k _ (receives j number l p stands other from reader) is = absurd (let e : Receive l ≡ Report link = is in cc)
  sent_reports k _ (collects l found own there none) is = absurd (let e : Collect l ≡ Report link = is in cc)
  sent_reports k _ (commits own) is = absurd (let e : Commit ≡ Report link = is in cc)

  pub writer_end : IsLinkEnd plan accepted link info at info.writer (sent_on plan.links link) (Send link) (Report link)
  writer_end = record {
    gives = λ instant. ap (λ b. cond b (Some (item_of (seen_at instant) (carried plan.links link))) None) it_is ∙ ap (λ o. Some (item_of (seen_at instant) o)) carried_is;
    marks = λ instant. ap (λ b. cond b (Some (pos 0)) None) it_is;
    only = sent_only;
    items = sent_items info.writer;
    reports = sent_reports info.writer;
    has_item = λ j number p x stands writes carries.
        (paired plan.kernel accepted.valid plan.clocks.conditions (compiled_operations plan) (plan_operations plan accepted) accepted.parts accepted.split (compiled_order plan) j number link p stands (carries_from p x writes carries)).0;
    has_report = λ none. (report_paired plan.kernel accepted.valid plan.clocks.conditions (compiled_operations plan) (plan_operations plan accepted) accepted.parts accepted.split (compiled_order plan) link info at_parts none).0;
  }

  -- ---- the reader

  taken_only : (instant : Instant) (kind : StepKind) (w : ℤ) → taken_from plan.links link instant kind ≡ Some w → (kind ≡ Receive link) ⊎ (kind ≡ Collect link)
  taken_only instant (Receive l) w is = inl (ap Receive (eqb-true l link (when_some (l == link) (item_of (seen_at instant) (carried plan.links link)) w is)))
  taken_only instant (Collect l) w is = inr (ap Collect (eqb-true l link (when_some (l == link) (pos 0) w is)))
  taken_only instant _ w is = absurd (let e : None ≡ Some w = is in cc)

  taken_items : (k : ℕ) (i : Instruction) → IsKnown k i → i.kind ≡ Receive link → IsItem plan accepted link info at (Receive link) i
  taken_items k _ (receives j number l p stands other from reader) is = made_item Receive j number l p stands from (receive_same l link is)
  taken_items k _ (does j number p stands own) is = absurd (let e : Do (record { 0 = number }) ≡ Receive link = is in cc)
  taken_items k _ (sends j number l p stands own from) is = absurd (let e : Send l ≡ Receive link = is in cc)
  taken_items k _ (reports l found other there none writer) is = absurd (let e : Report l ≡ Receive link = is in cc)
  taken_items k _ (collects l found own there none) is = absurd (let e : Collect l ≡ Receive link = is in cc)
  taken_items k _ (commits own) is = absurd (let e : Commit ≡ Receive link = is in cc)

  taken_reports : (k : ℕ) (i : Instruction) → IsKnown k i → i.kind ≡ Collect link → (info.signal ≡ None) × (i ≡ unguarded (Collect link) (2 * length (compiled_operations plan)))
  taken_reports k _ (collects l found own there none) is = made_report Collect l found there none (collect_same l link is)
  taken_reports k _ (does j number p stands own) is = absurd (let e : Do (record { 0 = number }) ≡ Collect link = is in cc)
  taken_reports k _ (sends j number l p stands own from) is = absurd (let e : Send l ≡ Collect link = is in cc)
  taken_reports k _ (receives j number l p stands other from reader) is = absurd (let e : Receive l ≡ Collect link = is in cc)
  taken_reports k _ (reports l found other there none writer) is = absurd (let e : Report l ≡ Collect link = is in cc)
  taken_reports k _ (commits own) is = absurd (let e : Commit ≡ Collect link = is in cc)

  pub reader_end : IsLinkEnd plan accepted link info at info.reader (taken_from plan.links link) (Receive link) (Collect link)
  reader_end = record {
    gives = λ instant. ap (λ b. cond b (Some (item_of (seen_at instant) (carried plan.links link))) None) it_is ∙ ap (λ o. Some (item_of (seen_at instant) o)) carried_is;
    marks = λ instant. ap (λ b. cond b (Some (pos 0)) None) it_is;
    only = taken_only;
    items = taken_items info.reader;
    reports = taken_reports info.reader;
    has_item = λ j number p x stands writes carries.
        (paired plan.kernel accepted.valid plan.clocks.conditions (compiled_operations plan) (plan_operations plan accepted) accepted.parts accepted.split (compiled_order plan) j number link p stands (carries_from p x writes carries)).1;
    has_report = λ none. (report_paired plan.kernel accepted.valid plan.clocks.conditions (compiled_operations plan) (plan_operations plan accepted) accepted.parts accepted.split (compiled_order plan) link info at_parts none).1;
  }
