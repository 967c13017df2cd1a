use Rattle.sig_file.proofs.{◌≡◌, drop, eq-value, made_behind}
use Rattle.sig_file.specs.inner.Numbering.{AreNumbered}
use Rattle.sig_file.proofs.image_parts.Made.add_all.Given as goal

abbrev pub invariant-loop-id : goal.invariant-loop-id
invariant-loop-id l =
    record {
      numbered : AreNumbered eq-value.it l.plan.store.nodes l.self.numbering.nodes.keys l.self.numbering.numbers;
      made : made_behind l.plan (drop l.id-index l.order) l.self.numbering.nodes.keys l.self.ops.items ≡ made_behind l.plan l.order l.fn.self.numbering.nodes.keys l.fn.self.ops.items;
    }
