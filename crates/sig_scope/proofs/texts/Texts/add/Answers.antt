use Rattle.sig_scope.proofs.{◌≡◌, ◌++◌, ◌∷◌, [], ◌∙◌, ap, sym, subst, arith, ℕ, List, length, map, Bor, Contains, true, false, map-append, length-map, btree_map_updates_str, places_again, places_new}
use Rattle.sig_scope.proofs.texts.Texts.add.Goals as goal

abbrev bytes : List (Bor (List ℕ)) → List (List ℕ)
bytes xs = map (λ (t : Bor (List ℕ)). t.now) xs

pub invariant_of-self-in_default : goal.invariant_of-self-in_default
invariant_of-self-in_default c = λ q.
    let put = btree_map_updates_str c.args.text.now c.self.inside.places c.insert.new.self _ c.in_default.ensures.updates q in
    let seen : c.args.self.now ≡ bytes c.self.inside.texts.items = cc in
    let apart : c.has-before.result ≡ false = grind arith in
    let none : Contains c.args.self.now c.args.text.now → ⊥ = λ h. (let t : c.has-before.result ≡ true = c.has-before.ensures.1 h in absurd cc) in
    let P = λ (l : List (List ℕ)). Contains l c.args.text.now → ⊥ in
    let grown : bytes c.push.new.self.items ≡ bytes c.self.inside.texts.items ++ c.args.text.now ∷ [] = ap bytes c.in_ok-push.ensures.items ∙ map-append (λ (t : Bor (List ℕ)). t.now) c.self.inside.texts.items (c.args.text ∷ []) in
    let size : c.len-place.result ≡ length (bytes c.self.inside.texts.items) = c.len-place.ensures ∙ c.self.inside.texts.ok.0 ∙ sym (length-map c.self.inside.texts.items (λ (t : Bor (List ℕ)). t.now)) in
    put ∙ places_new (bytes c.self.inside.texts.items) (bytes c.push.new.self.items) c.args.text.now q _ c.len-place.result grown size (subst P seen none) (c.self.invariant q)

pub invariant_of-self-else-not-before : goal.invariant_of-self-else-not-before
invariant_of-self-else-not-before c = λ q.
    let seen : c.args.self.now ≡ bytes c.self.inside.texts.items = cc in
    let again : c.has-before.result ≡ true = grind arith in
    let P = λ (l : List (List ℕ)). Contains l c.args.text.now in
    let grown : bytes c.push.new.self.items ≡ bytes c.self.inside.texts.items ++ c.args.text.now ∷ [] = ap bytes c.in_ok-push.ensures.items ∙ map-append (λ (t : Bor (List ℕ)). t.now) c.self.inside.texts.items (c.args.text ∷ []) in
    places_again (bytes c.self.inside.texts.items) (bytes c.push.new.self.items) c.args.text.now q _ grown (subst P seen (c.has-before.ensures.0 again)) (c.self.invariant q)
