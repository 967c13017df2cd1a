-- The state of an actor at the opening.
use Rattle.sig_step.proofs.Common.{◌≡◌, ◌<◌, ◌≤◌, ◌+◌, ◌^◌, ◌∙◌, ℕ, zero, suc, ℤ, false, List, length, replicate, slice_get, None, Some, sym, ap, subst, arith, length-replicate, Registers, code_of, position_of, IsRunnable, PlanView, AreMarksAt, AreRows, IsStateOf, ClusterState, Mark, same_Some, IsMachineOfActor, instant_of, seen_in}

-- a guard that was not met yet
abbrev pub unknown : Mark
unknown = record { instant = 0; holds = false }

all_unknown : (n slot : ℕ) (mark : Mark) → slice_get (replicate n unknown) slot ≡ Some mark → mark.instant ≡ 0
all_unknown zero slot mark is = absurd (let e : None ≡ Some mark = is in cc)
all_unknown (suc n) zero mark is = ap (λ (m : Mark). m.instant) (sym (same_Some unknown mark is))
all_unknown (suc n) (suc slot) mark is = all_unknown n slot mark is

none_known : (plan : PlanView) (actor instant : ℕ) (registers : Registers) (marks : List Mark) → 1 ≤ instant
    → marks ≡ replicate (length (code_of plan actor).slots) unknown → AreMarksAt plan actor instant 0 registers marks
none_known plan actor instant registers marks later is =
    let none : (slot : ℕ) (mark : Mark) → slice_get marks slot ≡ Some mark → mark.instant ≡ 0 =
    λ slot mark at. all_unknown (length (code_of plan actor).slots) slot mark (ap (λ (ms : List Mark). slice_get ms slot) (sym is) ∙ at) in
    record {
      count = ap length is ∙ length-replicate (length (code_of plan actor).slots) unknown;
      past = λ slot mark at. omega (arith, none slot mark at);
      known = λ slot mark at now. absurd (omega (arith, none slot mark at, now, later));
      reached = λ number step below at. absurd (omega (arith, below));
    }

pub opened : (plan : PlanView) (flows : List (List ℤ)) (s : ClusterState) → IsRunnable plan → s.actor < length plan.codes → s.limit + 1 < 2 ^ 32
    → s.step ≡ 0 → length (code_of plan s.actor).steps < 2 ^ 32 → s.pos ≡ position_of (slice_get (code_of plan s.actor).steps 0)
    → IsMachineOfActor plan s.actor flows s.values → instant_of s.values ≡ 1 → s.marks.items ≡ replicate (length (code_of plan s.actor).slots) unknown
    → length s.rows.items ≡ length (code_of plan s.actor).steps → AreRows (code_of plan s.actor).steps s.rows.items → IsStateOf plan flows s
opened plan flows s runnable actor limit first short position values opening marks row_count rows =
    let later : 1 ≤ instant_of s.values = omega (arith, opening) in
    record {
      actor = actor;
      limit = limit;
      from = later;
      within = omega (arith, opening);
      step = subst (λ (n : ℕ). n < length (code_of plan s.actor).steps) (sym first) (runnable.begins s.actor actor);
      short = short;
      position = position ∙ ap (λ (n : ℕ). position_of (slice_get (code_of plan s.actor).steps n)) (sym first);
      values = values;
      marks = subst (λ (n : ℕ). AreMarksAt plan s.actor (instant_of s.values) n (seen_in s.values) s.marks.items) (sym first)
          (none_known plan s.actor (instant_of s.values) (seen_in s.values) s.marks.items later marks);
      row_count = row_count;
      rows = rows;
    }
