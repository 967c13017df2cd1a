use Rattle.sig_work.proofs.{◌≡◌, ◌++◌, ◌∷◌, [], sym, subst, List, rules, closed_all, IsClosed, Share}
use Rattle.sig_work.proofs.word.close.Goals as goal

pub returns : goal.returns
returns c =
    let all : c.args.shares.items ≡ c.pop.new.self.items ++ c.in-Some.last ∷ [] = search rules in
    subst (λ (xs : List Share). IsClosed xs c.close.result) (sym all)
    (closed_all c.pop.new.self.items c.in-Some.last c.joined-seat.result c.close.result c.joined-seat.ensures.joined c.close.ensures.least c.close.ensures.seen)
