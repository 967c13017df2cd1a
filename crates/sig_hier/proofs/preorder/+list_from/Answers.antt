use Rattle.sig_hier.proofs.{true, false, ap, sym, ◌∙◌, arith, append-nil, below_all, below_more}
use Rattle.sig_hier.proofs.preorder.+list_from.Goals as goal
use Rattle.sig_hier.proofs.preorder.+list_from.Goals.{then-is_parent+in_ok-list_from, else-is_parent}

pub loop-class-preserved : goal.loop-class-preserved
loop-class-preserved t c =
    elim c.if-is_parent.branch [
      | then-is_parent+in_ok-list_from w ↦
          below_more c.args.levels c.args.tree.now c.args.line c.loop-class.class c.push.new.self.items c.loop-class.lines.items c.if-is_parent.lines.items true
          (sym c.is_parent.ensures ∙ w.if-is_parent.true) c.loop-class.invariant (ap (λ v. v.items) w.lines-is ∙ w.in_ok-list_from.ensures)
      | else-is_parent w ↦
          below_more c.args.levels c.args.tree.now c.args.line c.loop-class.class c.push.new.self.items c.loop-class.lines.items c.if-is_parent.lines.items false
          (sym c.is_parent.ensures ∙ w.if-is_parent.false) c.loop-class.invariant (ap (λ v. v.items) w.lines-is ∙ sym (append-nil c.loop-class.lines.items))
    ]

pub returns : goal.returns
returns t c =
    below_all c.args.levels c.args.tree.now c.args.line c.loop-class.class c.args.lines.now.items c.push.new.self.items c.loop-class.lines.items
    (omega arith) (omega arith) c.in_ok-push.ensures.items c.loop-class.invariant
