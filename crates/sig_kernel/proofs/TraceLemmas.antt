-- Lemmas on the traces of a kernel.
use Rattle.sig_kernel.proofs.Common.{◌≡◌, ◌++◌, ℕ, Bool, true, false, List, [], ◌∷◌, length, map, refl, ap, sym, subst, ◌∙◌, arith, append_assoc, None, Some, option_to_list, ⊤, AllByRecursion, append-nil, Trace, Instant, Range, is_silent, flow_of, reduce, IsPrefixOf, AreOfKinds, flow_append, flow_reduced, silent_at, Signal, Memory, last_of, remembered, AreAbsent, IsReaction, IsTraceIn, Meets, Equation, Form, Fun, Delay, When, WhenConst, Default, Sync, Event, Operand, Sig, Const, Kernel}

-- the instants of a trace are instants of a kernel, behind others
abbrev pub Runs : Range → Kernel → Trace → Trace → Type 0
Runs range kernel past [] = ⊤
Runs range kernel past (instant ∷ trace) = IsReaction range kernel (remembered past) instant × Runs range kernel (past ++ instant ∷ []) trace

pub runs_behind : (range : Range) (kernel : Kernel) (past trace : Trace) → IsTraceIn range kernel (past ++ trace) → Runs range kernel past trace
runs_behind range kernel past [] is = tt
runs_behind range kernel past (instant ∷ trace) is =
    (is past instant trace refl, runs_behind range kernel (past ++ instant ∷ []) trace (rw append_assoc is))

at_split : (range : Range) (kernel : Kernel) (past front : Trace) (instant : Instant) (back : Trace) → Runs range kernel past (front ++ instant ∷ back) → IsReaction range kernel (remembered (past ++ front)) instant
at_split range kernel past [] instant back runs = rw append-nil runs.0
at_split range kernel past (first ∷ front) instant back runs =
    rw (← append_assoc past (first ∷ []) front) (at_split range kernel (past ++ first ∷ []) front instant back runs.1)

pub trace_from_runs : (range : Range) (kernel : Kernel) (trace : Trace) → Runs range kernel [] trace → IsTraceIn range kernel trace
trace_from_runs range kernel trace runs past instant back is = at_split range kernel [] past instant back (subst (λ t. Runs range kernel [] t) is runs)

pub runs_from_trace : (range : Range) (kernel : Kernel) (trace : Trace) → IsTraceIn range kernel trace → Runs range kernel [] trace
runs_from_trace range kernel trace is = runs_behind range kernel [] trace is

-- two pasts that leave the same to be remembered
abbrev pub SameFlows : Trace → Trace → Type 0
SameFlows past other = (signal : ℕ) → flow_of signal past ≡ flow_of signal other

same_memory : (past other : Trace) → SameFlows past other → remembered past ≡ remembered other
same_memory past other same = λ i signal delayed initial. last_of initial (same delayed i)

-- an instant behind both
same_more : (past other more : Trace) → SameFlows past other → SameFlows (past ++ more) (other ++ more)
same_more past other more same signal =
    flow_append signal past more ∙ ap (λ front. front ++ flow_of signal more) (same signal) ∙ sym (flow_append signal other more)

-- a silent instant leaves nothing to be remembered
silent_more : (past : Trace) (instant : Instant) → is_silent instant ≡ true → SameFlows (past ++ instant ∷ []) past
silent_more past instant silent signal =
    flow_append signal past (instant ∷ []) ∙ ap (λ seen. flow_of signal past ++ (option_to_list seen ++ [])) (silent_at instant signal silent) ∙ append-nil (flow_of signal past)

-- the same instants behind another past
pub runs_same : (range : Range) (kernel : Kernel) (past other trace : Trace) → SameFlows past other → Runs range kernel past trace → Runs range kernel other trace
runs_same range kernel past other [] same runs = tt
runs_same range kernel past other (instant ∷ trace) same runs = (
  subst (λ m. IsReaction range kernel m instant) (same_memory past other same) runs.0,
  runs_same range kernel (past ++ instant ∷ []) (other ++ instant ∷ []) trace (same_more past other (instant ∷ []) same) runs.1,
)

runs_reduced : (range : Range) (kernel : Kernel) (past other trace : Trace) → SameFlows past other → Runs range kernel past trace → Runs range kernel other (reduce trace)
runs_reduced range kernel past other [] same runs = tt
runs_reduced range kernel past other (instant ∷ trace) same runs = one (is_silent instant) refl (λ q e. runs_reduced range kernel (past ++ instant ∷ []) q trace e runs.1) where
  one : (silent : Bool) → is_silent instant ≡ silent → ((q : Trace) → SameFlows (past ++ instant ∷ []) q → Runs range kernel q (reduce trace)) → Runs range kernel other (reduce (instant ∷ trace))
  one true is rest = rw is (rest other (λ signal. silent_more past instant is signal ∙ same signal))
  one false is rest = rw is (subst (λ m. IsReaction range kernel m instant) (same_memory past other same) runs.0, rest (other ++ instant ∷ []) (same_more past other (instant ∷ []) same))

pub reduced_trace : (range : Range) (kernel : Kernel) (trace : Trace) → IsTraceIn range kernel trace → IsTraceIn range kernel (reduce trace)
reduced_trace range kernel trace is =
    trace_from_runs range kernel (reduce trace) (runs_reduced range kernel [] [] trace (λ signal. refl) (runs_from_trace range kernel trace is))

silent_operands : (instant : Instant) (operands : List Operand) → is_silent instant ≡ true → AreAbsent instant operands
silent_operands instant [] silent = tt
silent_operands instant (Sig x ∷ operands) silent = (silent_at instant x.0 silent, silent_operands instant operands silent)
silent_operands instant (Const c ∷ operands) silent = silent_operands instant operands silent

-- a silent instant meets each equation
silent_meets : (range : Range) (memory : Memory) (instant : Instant) (form : Form) → is_silent instant ≡ true → Meets range memory instant form
silent_meets range memory instant (Fun y op operands) silent = rw (silent_at instant y.0 silent) (silent_operands instant operands silent)
silent_meets range memory instant (Delay y x initial) silent = rw (silent_at instant y.0 silent, silent_at instant x.0 silent) refl
silent_meets range memory instant (When y x b) silent = rw (silent_at instant y.0 silent, silent_at instant b.0 silent) refl
silent_meets range memory instant (WhenConst y c b) silent = rw (silent_at instant y.0 silent, silent_at instant b.0 silent) refl
silent_meets range memory instant (Default y u v) silent = rw (silent_at instant y.0 silent, silent_at instant u.0 silent, silent_at instant v.0 silent) refl
silent_meets range memory instant (Sync x y) silent = rw (silent_at instant x.0 silent, silent_at instant y.0 silent) refl
silent_meets range memory instant (Event y x) silent = rw (silent_at instant y.0 silent, silent_at instant x.0 silent) refl

silent_meets_all : (range : Range) (memory : Memory) (instant : Instant) (equations : List Equation) → is_silent instant ≡ true → AllByRecursion (λ equation. Meets range memory instant equation.form) equations
silent_meets_all range memory instant [] silent = tt
silent_meets_all range memory instant (equation ∷ equations) silent = (silent_meets range memory instant equation.form silent, silent_meets_all range memory instant equations silent)

silent_kinds : (range : Range) (signals : List Signal) (instant : Instant) → is_silent instant ≡ true → length instant ≡ length signals → AreOfKinds range (map (λ signal. signal.kind) signals) instant
silent_kinds range [] [] silent count = tt
silent_kinds range [] (seen ∷ instant) silent count = absurd (omega (arith, count))
silent_kinds range (signal ∷ signals) [] silent count = absurd (omega (arith, count))
silent_kinds range (signal ∷ signals) (None ∷ instant) silent count = (tt, silent_kinds range signals instant silent (omega (arith, count)))
silent_kinds range (signal ∷ signals) (Some v ∷ instant) silent count = cc

runs_with : (range : Range) (kernel : Kernel) (past front back : Trace) (instant : Instant) → is_silent instant ≡ true → length instant ≡ length kernel.signals
    → Runs range kernel past (front ++ back) → Runs range kernel past (front ++ instant ∷ back)
runs_with range kernel past [] back instant silent count runs = (
  record { kinds = silent_kinds range kernel.signals instant silent count; equations = silent_meets_all range (remembered past) instant kernel.equations silent },
  runs_same range kernel past (past ++ instant ∷ []) back (λ signal. sym (silent_more past instant silent signal)) runs,
)
runs_with range kernel past (first ∷ front) back instant silent count runs = (runs.0, runs_with range kernel (past ++ first ∷ []) front back instant silent count runs.1)

pub silent_put_in : (range : Range) (kernel : Kernel) (front back : Trace) (instant : Instant) → is_silent instant ≡ true → length instant ≡ length kernel.signals
    → IsTraceIn range kernel (front ++ back) → IsTraceIn range kernel (front ++ instant ∷ back)
silent_put_in range kernel front back instant silent count is =
    trace_from_runs range kernel (front ++ instant ∷ back) (runs_with range kernel [] front back instant silent count (runs_from_trace range kernel (front ++ back) is))

pub prefix_trace : (range : Range) (kernel : Kernel) (front trace : Trace) → IsPrefixOf front trace → IsTraceIn range kernel trace → IsTraceIn range kernel front
prefix_trace range kernel front trace begins is past instant back split =
    is past instant (back ++ begins.0) (begins.1 ∙ ap (λ t. t ++ begins.0) split ∙ append_assoc past (instant ∷ back) begins.0)

pub no_instants : (range : Range) (kernel : Kernel) → IsTraceIn range kernel []
no_instants range kernel past instant back split = absurd (never past instant back (ap length split)) where
  never : (past : Trace) (instant : Instant) (back : Trace) → 0 ≡ length (past ++ instant ∷ back) → ⊥
  never [] instant back e = omega (arith, e)
  never (first ∷ past) instant back e = omega (arith, e)

-- a trace goes on by an instant of the kernel
pub goes_on : (range : Range) (kernel : Kernel) (trace : Trace) (instant : Instant) → IsTraceIn range kernel trace → IsReaction range kernel (remembered trace) instant
    → IsTraceIn range kernel (trace ++ instant ∷ [])
goes_on range kernel trace instant is next = trace_from_runs range kernel (trace ++ instant ∷ []) (more [] trace next (runs_from_trace range kernel trace is)) where
  more : (past trace : Trace) → IsReaction range kernel (remembered (past ++ trace)) instant → Runs range kernel past trace → Runs range kernel past (trace ++ instant ∷ [])
  more past [] next runs = (rw append-nil at next, tt)
  more past (first ∷ trace) next runs = (runs.0, more (past ++ first ∷ []) trace (rw append_assoc next) runs.1)

pub comes_from : (range : Range) (kernel : Kernel) (trace : Trace) (instant : Instant) → IsTraceIn range kernel (trace ++ instant ∷ [])
    → IsTraceIn range kernel trace × IsReaction range kernel (remembered trace) instant
comes_from range kernel trace instant is = (prefix_trace range kernel trace (trace ++ instant ∷ []) (instant ∷ [], refl) is, is trace instant [] refl)

-- what silent instants leave is what was there
pub silent_leaves : (past : Trace) (instant : Instant) → is_silent instant ≡ true → remembered (past ++ instant ∷ []) ≡ remembered past
silent_leaves past instant silent = same_memory (past ++ instant ∷ []) past (silent_more past instant silent)

pub reduced_leaves : (past : Trace) → remembered (reduce past) ≡ remembered past
reduced_leaves past = same_memory (reduce past) past (λ signal. flow_reduced signal past)
