use Rattle.sig_scope.proofs.{name_of, model_of, within, is_found, is_missing, interface_models, arith, length, ◌≡◌, ◌<◌, length-map, Interface, read_mapped}
use Rattle.sig_scope.proofs.processes.Processes.get.Goals as goal

pub index-requires : goal.index-requires
index-requires c =
    let below : c.in-Some.place < length (interface_models c.args.self.now.interfaces.items) = within (λ p. (name_of p).text) c.args.self.now.names (interface_models c.args.self.now.interfaces.items) c.args.text.now c.in-Some.place c.args.self.now.named c.in-Some.ensures in
    let same : length (interface_models c.args.self.now.interfaces.items) ≡ length c.args.self.now.interfaces.items = length-map c.args.self.now.interfaces.items _ in
    let size : c.args.self.now.interfaces.len ≡ length c.args.self.now.interfaces.items = c.args.self.now.interfaces.ok.0 in
    omega arith

pub returns-in-Some : goal.returns-in-Some
returns-in-Some c =
    let below : c.in-Some.place < length (interface_models c.args.self.now.interfaces.items) = within (λ p. (name_of p).text) c.args.self.now.names (interface_models c.args.self.now.interfaces.items) c.args.text.now c.in-Some.place c.args.self.now.named c.in-Some.ensures in
    let same : length (interface_models c.args.self.now.interfaces.items) ≡ length c.args.self.now.interfaces.items = length-map c.args.self.now.interfaces.items _ in
    let inside : c.in-Some.place < length c.args.self.now.interfaces.items = omega arith in
    is_found (λ p. (name_of p).text) c.args.self.now.names (interface_models c.args.self.now.interfaces.items) c.args.text.now c.in-Some.place (model_of c.index.result.now.process.now) c.args.self.now.named c.in-Some.ensures
    (read_mapped (λ (i : Interface). model_of i.process.now) c.args.self.now.interfaces.items c.in-Some.place c.index.result.now inside c.index.ensures)

pub returns-in-None : goal.returns-in-None
returns-in-None c = is_missing (λ p. (name_of p).text) c.args.self.now.names (interface_models c.args.self.now.interfaces.items) c.args.text.now c.args.self.now.named c.in-None.ensures
