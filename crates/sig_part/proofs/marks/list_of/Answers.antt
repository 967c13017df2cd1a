use Rattle.sig_part.proofs.{◌≡◌, ◌+◌, ◌++◌, ◌∷◌, [], ◌∙◌, sym, subst, SigId, AreMarked, marked_next, marked_not}
use Rattle.sig_part.proofs.marks.list_of.Goals as goal
use Rattle.sig_part.proofs.marks.list_of.Goals.{then-has+in_ok-push, else-has}

pub loop-number-preserved : goal.loop-number-preserved
loop-number-preserved c =
    let n = c.loop-number.number in
    let marks = c.args.marks.now in
    let old = c.loop-number.list.items in
    let here : SigId = record { 0 = n } in
    elim c.if-has.branch [
      | then-has+in_ok-push w ↦
          let new : w.push.new.self.items ≡ old ++ here ∷ [] = w.in_ok-push.ensures.items in
          let all : c.if-has.list.items ≡ old ++ here ∷ [] = cc (w.list-is) in
          subst (AreMarked (n + 1) marks) (sym all) (marked_next n marks old c.loop-number.invariant (sym c.has.ensures ∙ w.if-has.true))
      | else-has w ↦
          let all : c.if-has.list.items ≡ old = cc (w.list-is) in
          subst (AreMarked (n + 1) marks) (sym all) (marked_not n marks old c.loop-number.invariant (sym c.has.ensures ∙ w.if-has.false))
    ]
