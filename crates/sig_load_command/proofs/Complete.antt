-- Every load comes to an outcome, and one that can be run over its flows to the end of its load.
use Rattle.sig_load_command.proofs.Common.{◌⊎◌, ◌<◌, ◌≤◌, ℕ, ℤ, Bool, false, List, length, None, ⊎_elim, inl, inr, refl, sym, ap, subst, arith, cases_lt, FLOW_BYTES, INSTANTS_DEFAULT, AreFlows, inputs_of, Kernel, some_kernel_end, read_fit, flows, program, Settings, Outcome, long_file, refused, too_many_items, IsEnded, HasVerdict, accepted_once, program_apart, AtLinks, HoldFew, items_are, RefusesFlows, flows_apart, flows_either, one_flows, is_ended, CanLoad, IsShortProgram, AtFlowsText, AtProgramText, LoadComesTo, LoadsTo, counted, flows_name}

-- a generated program that is accepted comes to an outcome, whatever its flows are
module _ (seed stages : ℕ) (settings : Settings) (kernel : Kernel) (accepted : IsShortProgram (program stages) kernel) where
  over : (values : List (List ℤ)) → AreFlows (inputs_of kernel) (flows seed stages) values → (o : Outcome) × LoadsTo stages kernel values o
  over values read =
      let end = some_kernel_end kernel accepted.1.has.valid accepted.1.accepted values (read_fit kernel (flows seed stages) values read) INSTANTS_DEFAULT in
      (counted stages kernel end.0 end.2, record { trace = end.0; place = end.1; end = end.2; ends = end.3; is = refl })

  by_flows : (FLOW_BYTES < length (flows seed stages)) ⊎ (length (flows seed stages) ≤ FLOW_BYTES)
      → ((values : List (List ℤ)) × AreFlows (inputs_of kernel) (flows seed stages) values) ⊎ ((line : List ℕ) × RefusesFlows flows_name (inputs_of kernel) (flows seed stages) line)
      → (o : Outcome) × AtFlowsText kernel (flows seed stages) (LoadsTo stages kernel) o
  by_flows (inl long) of = (refused 4 (long_file flows_name) None, inl (long, refl))
  by_flows (inr short) (inl good) = let behind = over good.0 good.1 in (behind.0, inr (inr (good.0, (short, good.1), behind.1)))
  by_flows (inr short) (inr bad) = (refused 4 bad.0 None, inr (inl (bad.0, short, bad.1, refl)))

  abbrev BehindProgram : Outcome → Type 0
  BehindProgram o = AtLinks kernel settings.capacity None (AtFlowsText kernel (flows seed stages) (LoadsTo stages kernel)) o

  few_load : HoldFew kernel settings.capacity → (o : Outcome) × BehindProgram o
  few_load few =
      let behind = by_flows (cases_lt FLOW_BYTES (length (flows seed stages))) (flows_either flows_name (inputs_of kernel) (flows seed stages)) in
      (behind.0, inr (few, behind.1))

  some_behind : (o : Outcome) × BehindProgram o
  some_behind = ⊎_elim (λ many. (refused 2 too_many_items None, inl (many, refl))) few_load (items_are kernel accepted.1.accepted settings.capacity)

  pub some_outcome : (o : Outcome) × LoadComesTo seed stages settings o
  some_outcome = (some_behind.0, inr (kernel, accepted, some_behind.1))

-- and whatever the generated program is
of_verdict : (seed stages : ℕ) (settings : Settings) → HasVerdict false (program stages) → (o : Outcome) × LoadComesTo seed stages settings o
of_verdict seed stages settings (inl is) = some_outcome seed stages settings is.kernel (is.short, is.is)
of_verdict seed stages settings (inr bad) = (refused 1 bad.0 None, inl (bad.0, bad.1, refl))

pub any_outcome : ((pace : Bool) (bytes : List ℕ) → HasVerdict pace bytes) → (seed stages : ℕ) (settings : Settings) → (o : Outcome) × LoadComesTo seed stages settings o
any_outcome verdicts seed stages settings = of_verdict seed stages settings (verdicts false (program stages))

module _ (seed stages : ℕ) (settings : Settings) (can : CanLoad seed stages settings) where
  abbrev AtKernel : Kernel → Outcome → Type 0
  AtKernel kernel o = AtLinks kernel settings.capacity None (AtFlowsText kernel (flows seed stages) (LoadsTo stages kernel)) o

  behind_program : (o : Outcome) → AtProgramText (program stages) (λ kernel. AtKernel kernel) o → AtKernel can.kernel o
  behind_program o (inl x) = absurd (program_apart false (program stages) x.0 (record { short = can.accepted.0; kernel = can.kernel; is = can.accepted.1 }) x.1)
  behind_program o (inr x) = subst (λ (kernel : Kernel). AtKernel kernel o) (accepted_once false (program stages) x.0 can.kernel x.1.1 can.accepted.1) x.2

  behind_links : (o : Outcome) → AtKernel can.kernel o → AtFlowsText can.kernel (flows seed stages) (LoadsTo stages can.kernel) o
  behind_links o (inl many) = absurd (can.few many.0)
  behind_links o (inr few) = few.1

  behind_flows : (o : Outcome) → AtFlowsText can.kernel (flows seed stages) (LoadsTo stages can.kernel) o → LoadsTo stages can.kernel can.values o
  behind_flows o (inl x) = absurd (omega (arith, x.0, can.read.0))
  behind_flows o (inr (inl x)) = absurd (flows_apart flows_name (inputs_of can.kernel) (flows seed stages) can.values x.0 can.read.1 x.2)
  behind_flows o (inr (inr x)) =
      subst (λ (values : List (List ℤ)). LoadsTo stages can.kernel values o) (one_flows (inputs_of can.kernel) (flows seed stages) x.0 can.values x.1.1 can.read.1) x.2

  pub only_end : (o : Outcome) → LoadComesTo seed stages settings o → LoadsTo stages can.kernel can.values o
  only_end o x = behind_flows o (behind_links o (behind_program o x))

  pub end_status_is : (o : Outcome) → LoadComesTo seed stages settings o → IsEnded o.status
  end_status_is o x = let load = only_end o x in subst IsEnded (sym (ap (λ (q : Outcome). q.status) load.is)) (is_ended load.end.cause)

  pub some_load : (o : Outcome) × LoadComesTo seed stages settings o
  some_load = some_outcome seed stages settings can.kernel can.accepted
