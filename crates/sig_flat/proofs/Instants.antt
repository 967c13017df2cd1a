-- The traces of a kernel, one instant at a time: behind an instant, each delay begins with what it keeps there.
use Rattle.sig_flat.proofs.Common.{◌≡◌, ◌↔◌, ◌++◌, ℤ, List, [], ◌∷◌, None, Some, map, refl, sym, ap, subst, ◌∙◌, option_to_list, AllByRecursion, Kind, Seen, Instant, Trace, Bounded, AreOfKinds, seen_at, flow_of, Memory, Meets, last_of, remembered, where_present, IsKernelTrace, Equation, Form, Fun, Delay, WhenConst, Sync, EventOf, Kernel, kept, kinds_of, Made, Translated}
use Rattle.sig_kernel.specs.declared.equation.Form.TheVariants.{When, Default}

-- what delays remember where nothing was before: their initial values
abbrev pub at_first : Memory
at_first = remembered []

abbrev pub behind_form : Instant → Form → Form
behind_form now (Fun y op operands) = Fun y op operands
behind_form now (Delay y x init) = Delay y x (kept init (seen_at now x.0))
behind_form now (When y x b) = When y x b
behind_form now (WhenConst y constant b) = WhenConst y constant b
behind_form now (Default y u v) = Default y u v
behind_form now (Sync x y) = Sync x y
behind_form now (EventOf y x) = EventOf y x

abbrev pub behind_equation : Instant → Equation → Equation
behind_equation now q = record { form = behind_form now q.form; at = q.at }

abbrev pub behind_equations : Instant → List Equation → List Equation
behind_equations now qs = map (behind_equation now) qs

abbrev pub MeetAll : Memory → Instant → List Equation → Type 0
MeetAll memory now qs = AllByRecursion (λ (q : Equation). Meets Bounded memory now q.form) qs

last_behind : (init : ℤ) (s : Seen) (values : List ℤ) → last_of init (option_to_list s ++ values) ≡ last_of (kept init s) values
last_behind init None values = refl
last_behind init (Some v) values = refl

form_behind : (now : Instant) (past : Trace) (later : Instant) (form : Form) → Meets Bounded (remembered (now ∷ past)) later form ↔ Meets Bounded (remembered past) later (behind_form now form)
form_behind now past later (Delay y x init) =
    let same : last_of init (flow_of x.0 (now ∷ past)) ≡ last_of (kept init (seen_at now x.0)) (flow_of x.0 past) = last_behind init (seen_at now x.0) (flow_of x.0 past) in
    (λ h. h ∙ ap (where_present (seen_at later x.0)) same, λ h. h ∙ ap (where_present (seen_at later x.0)) (sym same))
form_behind now past later _ = (λ h. h, λ h. h)

meet_behind : (now : Instant) (past : Trace) (later : Instant) (qs : List Equation) → MeetAll (remembered (now ∷ past)) later qs → MeetAll (remembered past) later (behind_equations now qs)
meet_behind now past later [] h = h
meet_behind now past later (q ∷ qs) h = ((form_behind now past later q.form).0 h.0, meet_behind now past later qs h.1)

meet_before : (now : Instant) (past : Trace) (later : Instant) (qs : List Equation) → MeetAll (remembered past) later (behind_equations now qs) → MeetAll (remembered (now ∷ past)) later qs
meet_before now past later [] h = h
meet_before now past later (q ∷ qs) h = ((form_behind now past later q.form).1 h.0, meet_before now past later qs h.1)

-- the traces of equations over signals of kinds
pub record Reacts (of : List Kind) (qs : List Equation) (memory : Memory) (now : Instant) : Type 0 where
  pub kinds : AreOfKinds Bounded of now
  pub equations : MeetAll memory now qs

abbrev pub Runs : List Kind → List Equation → Trace → Type 0
Runs kinds qs [] = Unit {0}
Runs kinds qs (now ∷ trace) = Reacts kinds qs at_first now × Runs kinds (behind_equations now qs) trace

abbrev RunsAt : List Kind → List Equation → Trace → Type 0
RunsAt kinds qs trace = (past : Trace) (now : Instant) (future : Trace) → trace ≡ past ++ now ∷ future → Reacts kinds qs (remembered past) now

runs : (kinds : List Kind) (qs : List Equation) (trace : Trace) → RunsAt kinds qs trace → Runs kinds qs trace
runs kinds qs [] h = tt
runs kinds qs (now ∷ trace) h = (
  h [] now trace refl,
  runs kinds (behind_equations now qs) trace (λ past later future e.
      let r = h (now ∷ past) later future (ap (λ (t : Trace). now ∷ t) e) in
      record { kinds = r.kinds; equations = meet_behind now past later qs r.equations }),
)

runs_at : (kinds : List Kind) (qs : List Equation) (trace : Trace) → Runs kinds qs trace → RunsAt kinds qs trace
runs_at kinds qs [] h [] now future e = absurd cc
runs_at kinds qs [] h (first ∷ past) now future e = absurd cc
runs_at kinds qs (first ∷ trace) h [] now future e = let same : first ≡ now = cc in subst (λ i. Reacts kinds qs at_first i) same h.0
runs_at kinds qs (first ∷ trace) h (other ∷ past) now future e =
    let same : first ≡ other = cc in
    let rest : trace ≡ past ++ now ∷ future = cc in
    let r = runs_at kinds (behind_equations first qs) trace h.1 past now future rest in
    subst (λ i. Reacts kinds qs (remembered (i ∷ past)) now) same (record { kinds = r.kinds; equations = meet_before first past now qs r.equations })

pub runs_from : (kernel : Kernel) (trace : Trace) → IsKernelTrace kernel trace → Runs (kinds_of kernel.signals) kernel.equations trace
runs_from kernel trace h = runs (kinds_of kernel.signals) kernel.equations trace
    (λ past now future e. let r = h past now future e in record { kinds = r.kinds; equations = r.equations })

pub trace_from : (kernel : Kernel) (trace : Trace) → Runs (kinds_of kernel.signals) kernel.equations trace → IsKernelTrace kernel trace
trace_from kernel trace h past now future e =
    let r = runs_at (kinds_of kernel.signals) kernel.equations trace h past now future e in
    record { kinds = r.kinds; equations = r.equations }

-- what was made, behind an instant
abbrev pub behind_made : Instant → Made → Made
behind_made now made = record { signals = made.signals; equations = behind_equations now made.equations }

abbrev pub behind_translated : Instant → Translated → Translated
behind_translated now t = record { operand = t.operand; kind = t.kind; made = behind_made now t.made }
