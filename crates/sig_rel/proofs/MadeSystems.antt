-- What is made of substituted columns is the system of a kernel's clocks.
use Rattle.sig_rel.proofs.Common.{◌≡◌, ◌+◌, ◌*◌, ℕ, Bool, List, Result, Ok, length, sym, ap, ◌∙◌, subst, IsTrue, list_all, SigId, IsValid, Equation, Kernel, Agree, StoreView, test, DdAnswer, AreSubstitutedColumns, IsSystemWith, numbers_of, classes_below, IsPresentFrom, IsSomePresent, is_met, left_refs, Values, IsSchedule, Makes, AreUnknownsOf, LieWithin, AreSubstituted, SpanColumns, present_at, values_at, AreConditions, IsSystem, SystemView, Left, Unknowns, Schedule, Columns}
use Rattle.sig_rel.proofs.GeneralSystems.{is_system}
use Rattle.sig_rel.proofs.ResidueLemmas.{columns_hold, columns_span, columns_values}
use Rattle.sig_rel.proofs.KeptFunctions.{test_kept}

-- how many calls ask what is left
abbrev pub asking : Kernel → List ℕ → ℕ
asking kernel least = 11 * length kernel.equations + classes_below least (length least)

-- what is left was made of the columns
pub record IsLeft (kernel : Kernel) (least : List ℕ) (columns : Columns) (old new : StoreView) (left : Left) : Type 0 where
  pub made : Makes (asking kernel least) (SpanColumns old.nodes columns) old new left_refs (let result : Result Left DdAnswer = Ok left in result)
  pub residue : Agree (test new.nodes left.residue) (λ truths. list_all (λ (equation : Equation). is_met kernel.signals least (values_at old.nodes columns truths) equation.form) kernel.equations)
  pub speaks : IsSomePresent old.nodes new.nodes least columns 0 left.speaks

module _ (kernel : Kernel) (valid : IsValid kernel) (conditions : List SigId) (are_conditions : AreConditions kernel conditions) (schedule : Schedule) (sched : IsSchedule kernel schedule)
    (unknowns : Unknowns) (own : AreUnknownsOf kernel unknowns) (lie : LieWithin kernel unknowns) (s t : StoreView) (columns : Columns) (sub : AreSubstitutedColumns kernel schedule.rules unknowns s.nodes columns)
    (left : Left) (is : IsLeft kernel schedule.rules.least.items columns s t left) where
  abbrev least : List ℕ
  least = schedule.rules.least.items

  values_stay : (truths : List Bool) → values_at t.nodes columns truths ≡ values_at s.nodes columns truths
  values_stay truths = columns_values s t is.made.kept columns sub.held truths

  substituted : (truths : List Bool) → AreSubstituted kernel schedule.rules unknowns truths (values_at t.nodes columns truths)
  substituted truths = subst (AreSubstituted kernel schedule.rules unknowns truths) (sym (values_stay truths)) (sub.are truths)

  residue_is : (truths : List Bool) → test t.nodes left.residue truths ≡ list_all (λ (equation : Equation). is_met kernel.signals least (values_at t.nodes columns truths) equation.form) kernel.equations
  residue_is truths = is.residue truths ∙ ap (λ (v : Values). list_all (λ (equation : Equation). is_met kernel.signals least v equation.form) kernel.equations) (sym (values_stay truths))

  present_stays : (class : ℕ) (truths : List Bool) → test t.nodes (present_at columns class) truths ≡ test s.nodes (present_at columns class) truths
  present_stays class truths = test_kept s t is.made.kept (present_at columns class) (sub.held.present class) truths

  said : (truths : List Bool) → IsTrue (test t.nodes left.speaks truths) → IsPresentFrom t.nodes least columns truths 0
  said truths some = let there = (is.speaks truths).0 some in (there.0, there.1, there.2, there.3, present_stays there.0 truths ∙ there.4)

  says : (truths : List Bool) → IsPresentFrom t.nodes least columns truths 0 → IsTrue (test t.nodes left.speaks truths)
  says truths there = (is.speaks truths).1 (there.0, there.1, there.2, there.3, sym (present_stays there.0 truths) ∙ there.4)

  pub made_system : (system : SystemView) → IsSystemWith kernel schedule.rules columns unknowns conditions left system → IsSystem kernel t.nodes system
  made_system system with_columns =
      let leads = is.made.leads (numbers_of unknowns) sub.span in
      is_system kernel valid conditions are_conditions schedule sched own.0 unknowns own.1 lie.few lie.order lie.within t.nodes columns (columns_hold s t is.made.kept columns sub.held)
      (columns_span s t is.made.kept columns sub.held (numbers_of unknowns) sub.span) substituted left.residue left.speaks leads.held.0 leads.held.1.0 leads.spans.0 leads.spans.1.0 residue_is said says
      system with_columns.present with_columns.truth with_columns.residue with_columns.speaks with_columns.listed with_columns.proposals with_columns.first with_columns.variables
