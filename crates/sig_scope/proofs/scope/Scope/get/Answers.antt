use Rattle.sig_scope.proofs.{◌≡◌, ◌∙◌, ap, length, ◌<◌, arith, Declaration, declaration_of, declaration_in, declarations_in, is_found, is_missing, read_declared, within_declared}
use Rattle.sig_scope.proofs.scope.Scope.get.Goals as goal

pub index-requires : goal.index-requires
index-requires c =
    let below : c.in-Some.place < length c.self.inside.declared.items = within_declared c.self.inside.names c.self.inside.declared.items c.args.text.now c.in-Some.place c.self.invariant c.in-Some.ensures in
    let size : c.self.inside.declared.len ≡ length c.self.inside.declared.items = c.self.inside.declared.ok.0 in
    omega arith

pub returns-in-Some : goal.returns-in-Some
returns-in-Some c =
    let seen : declarations_in c.self.inside.declared.items ≡ c.args.self.now = cc in
    is_found (λ (d : Declaration). d.name.text) c.self.inside.names (declarations_in c.self.inside.declared.items) c.args.text.now c.in-Some.place (declaration_in c.index.result.now) c.self.invariant c.in-Some.ensures
    (read_declared c.self.inside.declared.items c.in-Some.place c.index.result.now (within_declared c.self.inside.names c.self.inside.declared.items c.args.text.now c.in-Some.place c.self.invariant c.in-Some.ensures) c.index.ensures)
    ∙ ap (λ l. declaration_of l c.args.text.now) seen

pub returns-in-None : goal.returns-in-None
returns-in-None c =
    let seen : declarations_in c.self.inside.declared.items ≡ c.args.self.now = cc in
    is_missing (λ (d : Declaration). d.name.text) c.self.inside.names (declarations_in c.self.inside.declared.items) c.args.text.now c.self.invariant c.in-None.ensures
    ∙ ap (λ l. declaration_of l c.args.text.now) seen
