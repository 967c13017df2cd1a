use Rattle.sig_scope.proofs.{◌≡◌, ◌↔◌, IsTrue, Bool, Contains, is_some, subst, sym, ap, ◌∙◌, place_of, place_found}
use Rattle.sig_scope.proofs.texts.Texts.has.Goals as goal

pub returns : goal.returns
returns c =
    let e : c.is_some.result ≡ is_some (place_of c.args.self.now c.args.text.now) = c.is_some.ensures ∙ ap is_some c.place.ensures in
    let P = λ (b : Bool). IsTrue b ↔ Contains c.args.self.now c.args.text.now in
    subst P (sym e) (place_found c.args.self.now c.args.text.now)
