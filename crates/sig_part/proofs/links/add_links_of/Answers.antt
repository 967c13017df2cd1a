use Rattle.sig_part.proofs.{◌≡◌, ◌+◌, ◌++◌, ◌∷◌, [], ◌∙◌, ℕ, Bool, List, length, get_or, sym, ap, subst, arith, Some, get_or_read, LinkInfo, AreLinksBefore, mark_at, links_more, links_not}
use Rattle.sig_part.proofs.links.add_links_of.Goals as goal
use Rattle.sig_part.proofs.links.add_links_of.Goals.{then-has+in_ok-push, else-has}

pub loop-reader-preserved : goal.loop-reader-preserved
loop-reader-preserved c signals owner before =
    let marks = c.args.marks.now in
    let x = c.args.x in
    let r = c.loop-reader.reader in
    let old = c.loop-reader.links.items in
    let earlier = c.loop-reader.invariant signals owner before in
    let read = get_or_read marks r c.index-marks-reader.result c.loop-reader-test.true c.index-marks-reader.is [] in
    let has : c.has.result ≡ mark_at (get_or marks r []) x.0 = c.has.ensures ∙ ap (λ (of_actor : List Bool). mark_at of_actor x.0) read in
    let link : LinkInfo = record { signal = Some x; writer = c.args.writer; reader = r } in
    elim c.if-has.branch [
      | then-has+in_ok-push w ↦
          let new : w.push.new.self.items ≡ old ++ link ∷ [] = w.in_ok-push.ensures.items in
          let all : c.if-has.links.items ≡ old ++ link ∷ [] = cc (w.links-is) in
          subst (AreLinksBefore signals marks x.0 (r + 1)) (sym all) (links_more signals marks x r old earlier c.args.writer owner c.loop-reader-test.true (sym has ∙ w.if-has.true))
      | else-has w ↦
          let all : c.if-has.links.items ≡ old = cc (w.links-is) in
          subst (AreLinksBefore signals marks x.0 (r + 1)) (sym all) (links_not signals marks x r old earlier (sym has ∙ w.if-has.false))
    ]

pub returns : goal.returns
returns c signals owner before =
    let last = c.loop-reader-test.false in
    let most = c.loop-reader.auto.reader-end in
    let same : c.loop-reader.reader ≡ length c.args.marks.now = omega (arith, last, most) in
    subst (λ (r : ℕ). AreLinksBefore signals c.args.marks.now c.args.x.0 r c.loop-reader.links.items) same (c.loop-reader.invariant signals owner before)
