-- The plan that is made of its parts.
use Rattle.std.specs.Prelude.{◌≡◌}
use Rattle.sig_code.specs.Prelude.{List, OpId, ClocksView, StoreView, Kernel, PartsView, PlanView, Op}

-- The plan holds what it was made of, of the parts the links. That its codes are those of these parts is part of its being accepted.
pub record Holds (kernel : Kernel) (clocks : ClocksView) (store : StoreView) (ops : List Op) (order : List OpId) (parts : PartsView)
    (plan : PlanView) : Type 0 where
  pub kernel_held : plan.kernel ≡ kernel
  pub clocks_held : plan.clocks ≡ clocks
  pub store_held : plan.store ≡ store
  pub ops_held : plan.ops ≡ ops
  pub order_held : plan.order ≡ order
  pub links_held : plan.links ≡ parts.links
