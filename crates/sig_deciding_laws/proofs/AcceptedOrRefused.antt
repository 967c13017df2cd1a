-- Each kernel is accepted or refused.
use Rattle.sig_deciding_laws.proofs.Common.{◌⊎◌, inl, inr, List, length, refl, All, cases_lt, SigId, LINKS, HasClocks, AreInOrder, Kernel, Cycle, HasOperations, IsAcceptedKernel, IsRefusedFor, KernelFault, TooManyLinks, Operation, operations_of, HasNoCycle}
use Rattle.sig_deciding_laws.proofs.CyclesOrNone.{acyclic_or_cycle}
use Rattle.sig_deciding_laws.proofs.ClockFunctionsOfKernel.{IsSound, all_sound, presence_functions, presence_of}
use Rattle.sig_deciding_laws.proofs.PartsOfOperations.{parts_exist}
use Rattle.sig_deciding_laws.proofs.PinnedOrFree.{conditions_ordered}
use Rattle.sig_deciding_laws.proofs.FirstRefusal.{clocks_or_refused}

abbrev Settled : Kernel → Type 0
Settled kernel = IsAcceptedKernel kernel ⊎ ((fault : KernelFault) × IsRefusedFor kernel fault)

module _ (kernel : Kernel) (conditions : List SigId) (operations : List Operation) (has : HasOperations kernel conditions operations) (sound : All (IsSound (length conditions)) operations) where
  without_cycle : HasNoCycle conditions operations → Settled kernel
  without_cycle acyclic =
      let parts = parts_exist kernel conditions operations sound in
      elim (cases_lt LINKS (length parts.0.links)) [
        | inl many ↦ inr (
          TooManyLinks,
          record {
            conditions = conditions;
            operations = operations;
            has = has;
            acyclic = acyclic;
            many = record { parts = parts.0; are = parts.1; many = many };
          },
        )
        | inr few ↦ inl (record { conditions = conditions; operations = operations; has = has; acyclic = acyclic; parts = parts.0; split = parts.1; few = few })
      ]

  with_operations : Settled kernel
  with_operations = elim (acyclic_or_cycle conditions operations sound) [
    | inl acyclic ↦ without_cycle acyclic
    | inr cycle ↦ inr (Cycle cycle.0, record { conditions = conditions; operations = operations; has = has; cycle = cycle.1 })
  ]

pub has_operations : (kernel : Kernel) (has : HasClocks kernel) (conditions : List SigId) (order : AreInOrder kernel conditions)
    → HasOperations kernel conditions (operations_of kernel (presence_of kernel has conditions order))
has_operations kernel has conditions order = record {
  clocks = has;
  order = order;
  presence = presence_of kernel has conditions order;
  functions = presence_functions kernel has conditions order;
  are = refl;
}

with_clocks : (kernel : Kernel) → HasClocks kernel → Settled kernel
with_clocks kernel has =
    let conditions = conditions_ordered kernel has.solved in
    with_operations kernel conditions.0 (operations_of kernel (presence_of kernel has conditions.0 conditions.1))
    (has_operations kernel has conditions.0 conditions.1) (all_sound kernel has conditions.0 conditions.1)

pub accepted_or_refused : (kernel : Kernel) → IsAcceptedKernel kernel ⊎ ((fault : KernelFault) × IsRefusedFor kernel fault)
accepted_or_refused kernel = elim (clocks_or_refused kernel) [ inl has ↦ with_clocks kernel has | inr refused ↦ inr refused ]
