use Rattle.sig_call.proofs.{◌≡◌, ◌∙◌, ap, ℕ, List, length, ◌<◌, arith, option_map, length-map, Binding as BoundTo, within, is_found, is_missing, bound_in, bindings_in, binding_found, read_mapped}
use Rattle.sig_call.proofs.binding.Bindings.get.Goals as goal

pub index-requires : goal.index-requires
index-requires c =
    let below : c.in-Some.place < length (bindings_in c.self.inside.bound.items) = within (λ (b : List ℕ × BoundTo). b.0) c.self.inside.names (bindings_in c.self.inside.bound.items) c.args.text.now c.in-Some.place c.self.invariant c.in-Some.ensures in
    let same : length (bindings_in c.self.inside.bound.items) ≡ length c.self.inside.bound.items = length-map c.self.inside.bound.items bound_in in
    let size : c.self.inside.bound.len ≡ length c.self.inside.bound.items = c.self.inside.bound.ok.0 in
    omega arith

pub returns-in-Some : goal.returns-in-Some
returns-in-Some c =
    let seen : bindings_in c.self.inside.bound.items ≡ c.args.self.now = cc in
    let below : c.in-Some.place < length (bindings_in c.self.inside.bound.items) = within (λ (b : List ℕ × BoundTo). b.0) c.self.inside.names (bindings_in c.self.inside.bound.items) c.args.text.now c.in-Some.place c.self.invariant c.in-Some.ensures in
    let same : length (bindings_in c.self.inside.bound.items) ≡ length c.self.inside.bound.items = length-map c.self.inside.bound.items bound_in in
    let inside : c.in-Some.place < length c.self.inside.bound.items = omega arith in
    ap (option_map (λ (b : List ℕ × BoundTo). b.1)) (is_found (λ (b : List ℕ × BoundTo). b.0) c.self.inside.names (bindings_in c.self.inside.bound.items) c.args.text.now c.in-Some.place (bound_in c.index.result.now) c.self.invariant c.in-Some.ensures
    (read_mapped bound_in c.self.inside.bound.items c.in-Some.place c.index.result.now inside c.index.ensures))
    ∙ ap (λ l. binding_found l c.args.text.now) seen

pub returns-in-None : goal.returns-in-None
returns-in-None c =
    let seen : bindings_in c.self.inside.bound.items ≡ c.args.self.now = cc in
    ap (option_map (λ (b : List ℕ × BoundTo). b.1)) (is_missing (λ (b : List ℕ × BoundTo). b.0) c.self.inside.names (bindings_in c.self.inside.bound.items) c.args.text.now c.self.invariant c.in-None.ensures)
    ∙ ap (λ l. binding_found l c.args.text.now) seen
