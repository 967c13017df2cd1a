-- A load comes to one outcome at most.
use Rattle.sig_load_command.proofs.Common.{◌∙◌, ℕ, ℤ, false, List, None, inl, inr, sym, ap, subst, arith, Trace, INSTANTS_DEFAULT, AreFlowsFor, inputs_of, Kernel, Ended, IsValid, IsAcceptedKernel, IsAcceptedAs, one_kernel_end, AreFlows, read_fit, flows, program, Settings, OneAtMost, Outcome, refused, accepted_once, program_apart, program_once, flows_apart, no_flows_line, one_at_links, one_flows, AtFlowsText, AtProgramText, LoadComesTo, LoadsTo, counted, flows_name}

-- bytes are one program, or are refused with one line
one_at_program : (bytes : List ℕ) (Next : Kernel → Outcome → Type 0) → ((kernel : Kernel) → IsAcceptedAs false bytes kernel → OneAtMost (Next kernel)) → OneAtMost (AtProgramText bytes Next)
one_at_program bytes Next one o p (inl x) (inl y) =
    x.2 ∙ ap (λ (line : List ℕ). refused 1 line None) (program_once false bytes x.0 y.0 x.1 y.1) ∙ sym y.2
one_at_program bytes Next one o p (inl x) (inr y) =
    absurd (program_apart false bytes x.0 (record { short = y.1.0; kernel = y.0; is = y.1.1 }) x.1)
one_at_program bytes Next one o p (inr x) (inl y) =
    absurd (program_apart false bytes y.0 (record { short = x.1.0; kernel = x.0; is = x.1.1 }) y.1)
one_at_program bytes Next one o p (inr x) (inr y) =
    one x.0 x.1.1 o p x.2 (subst (λ (kernel : Kernel). Next kernel p) (accepted_once false bytes y.0 x.0 y.1.1 x.1.1) y.2)

-- and one list of flows, or are refused with one line
one_at_flows : (kernel : Kernel) (bytes : List ℕ) (Next : List (List ℤ) → Outcome → Type 0)
    → ((values : List (List ℤ)) → AreFlows (inputs_of kernel) bytes values → OneAtMost (Next values)) → OneAtMost (AtFlowsText kernel bytes Next)
one_at_flows kernel bytes Next one o p (inl x) (inl y) = x.1 ∙ sym y.1
one_at_flows kernel bytes Next one o p (inl x) (inr (inl y)) = absurd (omega (arith, x.0, y.1))
one_at_flows kernel bytes Next one o p (inl x) (inr (inr y)) = absurd (omega (arith, x.0, y.1.0))
one_at_flows kernel bytes Next one o p (inr (inl x)) (inl y) = absurd (omega (arith, y.0, x.1))
one_at_flows kernel bytes Next one o p (inr (inr x)) (inl y) = absurd (omega (arith, y.0, x.1.0))
one_at_flows kernel bytes Next one o p (inr (inl x)) (inr (inl y)) =
    x.3 ∙ ap (λ (line : List ℕ). refused 4 line None) (no_flows_line flows_name (inputs_of kernel) bytes x.0 y.0 x.2 y.2) ∙ sym y.3
one_at_flows kernel bytes Next one o p (inr (inl x)) (inr (inr y)) = absurd (flows_apart flows_name (inputs_of kernel) bytes y.0 x.0 y.1.1 x.2)
one_at_flows kernel bytes Next one o p (inr (inr x)) (inr (inl y)) = absurd (flows_apart flows_name (inputs_of kernel) bytes x.0 y.0 x.1.1 y.2)
one_at_flows kernel bytes Next one o p (inr (inr x)) (inr (inr y)) =
    one x.0 x.1.1 o p x.2 (subst (λ (values : List (List ℤ)). Next values p) (one_flows (inputs_of kernel) bytes y.0 x.0 y.1.1 x.1.1) y.2)

-- a run has one end
one_count : (stages : ℕ) (kernel : Kernel) → IsValid kernel → IsAcceptedKernel kernel → (values : List (List ℤ)) → AreFlowsFor kernel values → OneAtMost (LoadsTo stages kernel values)
one_count stages kernel valid accepted values fit o p x y =
    let same = one_kernel_end kernel valid accepted values fit INSTANTS_DEFAULT x.trace y.trace x.place y.place x.end y.end x.ends y.ends in
    x.is ∙ ap (λ (t : Trace). counted stages kernel t x.end) same.0 ∙ ap (λ (e : Ended). counted stages kernel y.trace e) same.2 ∙ sym y.is

pub one_load_outcome : (seed stages : ℕ) (settings : Settings) → OneAtMost (LoadComesTo seed stages settings)
one_load_outcome seed stages settings =
    one_at_program (program stages) _
    (λ kernel is. one_at_links kernel is.has.valid settings.capacity None (AtFlowsText kernel (flows seed stages) (LoadsTo stages kernel))
    (one_at_flows kernel (flows seed stages) (LoadsTo stages kernel)
    (λ values read. one_count stages kernel is.has.valid is.accepted values (read_fit kernel (flows seed stages) values read))))
