use Rattle.sig_dd.proofs.{◌≡◌, Err, length, ap, arith, rules, sym, ◌∙◌, subst, IfSome, Contains, IsChoiceBy, Budget, Keeps-trans, below_room, constant_renamed, high_only, high_spans, low_only, low_spans, new_ones, own_target, positive, renamed_node, renamed_on, rest, table_kept, within_room, constant_tests, high_below, high_held, low_below, low_held}
use Rattle.sig_dd.specs.contracts.node.RefPartialEq.TheImpl.{eq-value}
use Rattle.sig_dd.proofs.store.Store.+rename_in.Goals as goal

pub returns-in_default-clause-value : goal.returns-in_default-clause-value
returns-in_default-clause-value t c =
    constant_renamed c.args.self.now.nodes c.args.to.now c.args.f c.requires.held
    (constant_tests c.args.self.now.nodes c.node.ensures.store.reduced c.args.f c.requires.held (sym c.in_default.is ∙ c.node.ensures.node))

pub rename_in-requires : goal.rename_in-requires
rename_in-requires t c =
    let nodes = c.args.self.now.nodes in
    let reduced = c.node.ensures.store.reduced in
    let below = low_below nodes reduced c.args.f c.requires.held c.in-Some.node c.in-Some.ensures.node in
    (omega arith, (low_held nodes reduced c.args.f c.requires.held c.in-Some.node c.in-Some.ensures.node, c.requires.renamed))

pub rename_in-requires-2 : goal.rename_in-requires-2
rename_in-requires-2 t c =
    let nodes = c.args.self.now.nodes in
    let reduced = c.node.ensures.store.reduced in
    let below = high_below nodes reduced c.args.f c.requires.held c.in-Some.node c.in-Some.ensures.node in
    let there = high_held nodes reduced c.args.f c.requires.held c.in-Some.node c.in-Some.ensures.node in
    let more = c.in_ok-low.ensures.kept.grows in
    (omega arith, (omega (arith, there, more), c.in_ok-low.ensures.renamed))

pub returns-in_err-low-clause-added : goal.returns-in_err-low-clause-added
returns-in_err-low-clause-added t c vs only =
    let old = c.args.self.now in
    let store = c.node.ensures.store in
    let n = c.in-Some.node in
    let is = c.in-Some.ensures.node in
    let ws = rest old store c.args.f c.requires.held n is vs only in
    let low = c.in_err-low.ensures.added ws (low_only old store c.args.f c.requires.held n is vs only) in
    within_room old store c.args.f c.requires.held n is vs only c.args.to.now (length c.rename_in.new.self.nodes) (length c.rename_in.new.self.nodes) (length c.rename_in.new.self.nodes) low (omega arith) (omega arith)

pub returns-in_err-low-clause-budget : goal.returns-in_err-low-clause-budget
returns-in_err-low-clause-budget t c n1 is1 vs only =
    let old = c.args.self.now in
    let store = c.node.ensures.store in
    let n = c.in-Some.node in
    let is = c.in-Some.ensures.node in
    let ws = rest old store c.args.f c.requires.held n is vs only in
    let refused : c.in_err-low.field-0.0 ≡ Budget n1 = search rules in
    let low = c.in_err-low.ensures.budget n1 (ap Err refused) ws (low_only old store c.args.f c.requires.held n is vs only) in
    (low.0, below_room old store c.args.f c.requires.held n is vs only c.args.to.now n1 n1 n1 (let lt = low.1 in omega (arith, lt)) (omega arith) (positive old store c.args.f c.requires.held n is vs only c.args.to.now n1))

pub returns-in_err-high-clause-added : goal.returns-in_err-high-clause-added
returns-in_err-high-clause-added t c vs only =
    let old = c.args.self.now in
    let store = c.node.ensures.store in
    let n = c.in-Some.node in
    let is = c.in-Some.ensures.node in
    let ws = rest old store c.args.f c.requires.held n is vs only in
    let low = c.in_ok-low.ensures.added ws (low_only old store c.args.f c.requires.held n is vs only) in
    let high = c.in_err-high.ensures.added ws (high_only old store c.args.f c.requires.held n is vs only c.rename_in.new.self c.in_ok-low.ensures.kept) in
    within_room old store c.args.f c.requires.held n is vs only c.args.to.now _ (length c.rename_in-2.new.self.nodes) (length c.rename_in-2.new.self.nodes) low high (omega arith)

pub returns-in_err-high-clause-budget : goal.returns-in_err-high-clause-budget
returns-in_err-high-clause-budget t c n1 is1 vs only =
    let old = c.args.self.now in
    let store = c.node.ensures.store in
    let n = c.in-Some.node in
    let is = c.in-Some.ensures.node in
    let ws = rest old store c.args.f c.requires.held n is vs only in
    let refused : c.in_err-high.field-0.0 ≡ Budget n1 = search rules in
    let low = c.in_ok-low.ensures.added ws (low_only old store c.args.f c.requires.held n is vs only) in
    let high = c.in_err-high.ensures.budget n1 (ap Err refused) ws (high_only old store c.args.f c.requires.held n is vs only c.rename_in.new.self c.in_ok-low.ensures.kept) in
    (high.0, below_room old store c.args.f c.requires.held n is vs only c.args.to.now _ n1 n1 low (let lt = high.1 in omega (arith, lt)) (positive old store c.args.f c.requires.held n is vs only c.args.to.now n1))

pub returns-in_err-r-clause-renamed : goal.returns-in_err-r-clause-renamed
returns-in_err-r-clause-renamed t c =
    table_kept c.rename_in-2.new.self c.choice_by.new.self c.in_err-r.ensures.kept c.args.to.now eq-value.it c.rename_in-2.new.renamed c.in_ok-high.ensures.renamed

pub returns-in_err-r-clause-added : goal.returns-in_err-r-clause-added
returns-in_err-r-clause-added t c vs only =
    let old = c.args.self.now in
    let store = c.node.ensures.store in
    let n = c.in-Some.node in
    let is = c.in-Some.ensures.node in
    let ws = rest old store c.args.f c.requires.held n is vs only in
    let low = c.in_ok-low.ensures.added ws (low_only old store c.args.f c.requires.held n is vs only) in
    let high = c.in_ok-high.ensures.added ws (high_only old store c.args.f c.requires.held n is vs only c.rename_in.new.self c.in_ok-low.ensures.kept) in
    let low_spanned = low_spans old store c.args.f c.requires.held n is vs only c.args.to.now c.rename_in.new.self c.rename_in-2.new.self c.in_ok-high.ensures.kept c.in_ok-low.low c.in_ok-low.ensures.value in
    let high_spanned = high_spans old store c.args.f c.requires.held n is vs only c.args.to.now c.rename_in.new.self c.rename_in-2.new.self c.in_ok-low.ensures.kept c.in_ok-high.high c.in_ok-high.ensures.value in
    let own = subst (λ o. IfSome o (Contains (new_ones old store c.args.f c.requires.held n is vs only c.args.to.now))) (sym (c.target.ensures)) (own_target old store c.args.f c.requires.held n is vs only c.args.to.now) in
    within_room old store c.args.f c.requires.held n is vs only c.args.to.now _ _ _ low high (c.choice_by.ensures.added _ low_spanned high_spanned own)

pub returns-in_err-r-clause-budget : goal.returns-in_err-r-clause-budget
returns-in_err-r-clause-budget t c n1 is1 vs only =
    let old = c.args.self.now in
    let store = c.node.ensures.store in
    let n = c.in-Some.node in
    let is = c.in-Some.ensures.node in
    let ws = rest old store c.args.f c.requires.held n is vs only in
    let refused : c.in_err-r.field-0.0 ≡ Budget n1 = search rules in
    let low = c.in_ok-low.ensures.added ws (low_only old store c.args.f c.requires.held n is vs only) in
    let high = c.in_ok-high.ensures.added ws (high_only old store c.args.f c.requires.held n is vs only c.rename_in.new.self c.in_ok-low.ensures.kept) in
    let low_spanned = low_spans old store c.args.f c.requires.held n is vs only c.args.to.now c.rename_in.new.self c.rename_in-2.new.self c.in_ok-high.ensures.kept c.in_ok-low.low c.in_ok-low.ensures.value in
    let high_spanned = high_spans old store c.args.f c.requires.held n is vs only c.args.to.now c.rename_in.new.self c.rename_in-2.new.self c.in_ok-low.ensures.kept c.in_ok-high.high c.in_ok-high.ensures.value in
    let own = subst (λ o. IfSome o (Contains (new_ones old store c.args.f c.requires.held n is vs only c.args.to.now))) (sym (c.target.ensures)) (own_target old store c.args.f c.requires.held n is vs only c.args.to.now) in
    let why = c.in_err-r.ensures.budget n1 (ap Err refused) _ low_spanned high_spanned own in
    (why.0, below_room old store c.args.f c.requires.held n is vs only c.args.to.now _ _ n1 low high why.1)

pub keep_renamed-requires-clause-value : goal.keep_renamed-requires-clause-value
keep_renamed-requires-clause-value t c =
    let choice = subst (λ o. IsChoiceBy c.rename_in-2.new.self.nodes c.choice_by.new.self.nodes o c.in_ok-low.low c.in_ok-high.high c.in_ok-r.r) (c.target.ensures) c.in_ok-r.ensures.value in
    let made = renamed_node c.args.self.now c.rename_in.new.self c.rename_in-2.new.self c.choice_by.new.self c.node.ensures.store c.in_ok-low.ensures.kept c.in_ok-high.ensures.kept c.args.to.now c.args.f c.requires.held
    c.in-Some.node c.in-Some.ensures.node c.in_ok-low.low c.in_ok-high.high c.in_ok-low.ensures.value c.in_ok-high.ensures.value c.in_ok-r.r choice in
    let kept = Keeps-trans c.args.self.now c.rename_in.new.self c.choice_by.new.self c.in_ok-low.ensures.kept (Keeps-trans c.rename_in.new.self c.rename_in-2.new.self c.choice_by.new.self c.in_ok-high.ensures.kept c.in_ok-r.ensures.kept) in
    renamed_on c.args.self.now c.choice_by.new.self kept c.args.to.now c.choice_by.new.self.nodes c.args.f c.in_ok-r.r c.requires.held made

pub keep_renamed-requires-clause-renamed : goal.keep_renamed-requires-clause-renamed
keep_renamed-requires-clause-renamed t c =
    table_kept c.rename_in-2.new.self c.choice_by.new.self c.in_ok-r.ensures.kept c.args.to.now eq-value.it c.rename_in-2.new.renamed c.in_ok-high.ensures.renamed

pub returns-in_err-keep_renamed-clause-added : goal.returns-in_err-keep_renamed-clause-added
returns-in_err-keep_renamed-clause-added t c vs only =
    let old = c.args.self.now in
    let store = c.node.ensures.store in
    let n = c.in-Some.node in
    let is = c.in-Some.ensures.node in
    let ws = rest old store c.args.f c.requires.held n is vs only in
    let low = c.in_ok-low.ensures.added ws (low_only old store c.args.f c.requires.held n is vs only) in
    let high = c.in_ok-high.ensures.added ws (high_only old store c.args.f c.requires.held n is vs only c.rename_in.new.self c.in_ok-low.ensures.kept) in
    let low_spanned = low_spans old store c.args.f c.requires.held n is vs only c.args.to.now c.rename_in.new.self c.rename_in-2.new.self c.in_ok-high.ensures.kept c.in_ok-low.low c.in_ok-low.ensures.value in
    let high_spanned = high_spans old store c.args.f c.requires.held n is vs only c.args.to.now c.rename_in.new.self c.rename_in-2.new.self c.in_ok-low.ensures.kept c.in_ok-high.high c.in_ok-high.ensures.value in
    let own = subst (λ o. IfSome o (Contains (new_ones old store c.args.f c.requires.held n is vs only c.args.to.now))) (sym (c.target.ensures)) (own_target old store c.args.f c.requires.held n is vs only c.args.to.now) in
    within_room old store c.args.f c.requires.held n is vs only c.args.to.now _ _ _ low high (c.choice_by.ensures.added _ low_spanned high_spanned own)

pub returns-clause-value : goal.returns-clause-value
returns-clause-value t c =
    let choice = subst (λ o. IsChoiceBy c.rename_in-2.new.self.nodes c.choice_by.new.self.nodes o c.in_ok-low.low c.in_ok-high.high c.in_ok-r.r) (c.target.ensures) c.in_ok-r.ensures.value in
    let made = renamed_node c.args.self.now c.rename_in.new.self c.rename_in-2.new.self c.choice_by.new.self c.node.ensures.store c.in_ok-low.ensures.kept c.in_ok-high.ensures.kept c.args.to.now c.args.f c.requires.held
    c.in-Some.node c.in-Some.ensures.node c.in_ok-low.low c.in_ok-high.high c.in_ok-low.ensures.value c.in_ok-high.ensures.value c.in_ok-r.r choice in
    made

pub returns-clause-added : goal.returns-clause-added
returns-clause-added t c vs only =
    let old = c.args.self.now in
    let store = c.node.ensures.store in
    let n = c.in-Some.node in
    let is = c.in-Some.ensures.node in
    let ws = rest old store c.args.f c.requires.held n is vs only in
    let low = c.in_ok-low.ensures.added ws (low_only old store c.args.f c.requires.held n is vs only) in
    let high = c.in_ok-high.ensures.added ws (high_only old store c.args.f c.requires.held n is vs only c.rename_in.new.self c.in_ok-low.ensures.kept) in
    let low_spanned = low_spans old store c.args.f c.requires.held n is vs only c.args.to.now c.rename_in.new.self c.rename_in-2.new.self c.in_ok-high.ensures.kept c.in_ok-low.low c.in_ok-low.ensures.value in
    let high_spanned = high_spans old store c.args.f c.requires.held n is vs only c.args.to.now c.rename_in.new.self c.rename_in-2.new.self c.in_ok-low.ensures.kept c.in_ok-high.high c.in_ok-high.ensures.value in
    let own = subst (λ o. IfSome o (Contains (new_ones old store c.args.f c.requires.held n is vs only c.args.to.now))) (sym (c.target.ensures)) (own_target old store c.args.f c.requires.held n is vs only c.args.to.now) in
    within_room old store c.args.f c.requires.held n is vs only c.args.to.now _ _ _ low high (c.choice_by.ensures.added _ low_spanned high_spanned own)
