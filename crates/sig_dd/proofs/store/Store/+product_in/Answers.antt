use Rattle.sig_dd.proofs.{◌≡◌, Err, length, ap, arith, rules, Budget, eq-value, Keeps-trans, high_later, low_later, pair_product, product_on, products_kept}
use Rattle.sig_dd.proofs.RelationalProducts.{below_room, high_only, high_spans, low_only, low_spans, positive, rest, within_room}
use Rattle.sig_dd.proofs.store.Store.+product_in.Goals as goal

pub returns-in-Known-clause-value : goal.returns-in-Known-clause-value
returns-in-Known-clause-value t c = c.in-Known.ensures.step c.args.forgotten.now

pub returns-in_err-low-clause-budget : goal.returns-in_err-low-clause-budget
returns-in_err-low-clause-budget t c n is vs only =
    let old = c.args.self.now in
    let store = c.product_step.ensures.store in
    let split = c.in-Open.ensures.step in
    let refused : c.in_err-low.field-0.0 ≡ Budget n = search rules in
    let low = c.in_err-low.ensures.budget n (ap Err refused) (rest old store c.args.pair c.in-Open.split split vs only) (low_only old store c.args.pair c.in-Open.split split vs only) in
    (low.0, below_room old store c.args.pair c.in-Open.split split vs only n n n (let lt = low.1 in omega (arith, lt)) (omega arith) (positive (length (rest old store c.args.pair c.in-Open.split split vs only)) n))

pub returns-in_err-high-clause-added : goal.returns-in_err-high-clause-added
returns-in_err-high-clause-added t c vs only =
    let old = c.args.self.now in
    let store = c.product_step.ensures.store in
    let split = c.in-Open.ensures.step in
    let s = c.in-Open.split in
    let low = c.in_ok-low.ensures.added (rest old store c.args.pair s split vs only) (low_only old store c.args.pair s split vs only) in
    let high = c.in_err-high.ensures.added (rest old store c.args.pair s split vs only) (high_only old store c.args.pair s split vs only c.product_in.new.self c.in_ok-low.ensures.kept) in
    within_room old store c.args.pair s split vs only _ _ _ low high (omega arith)

pub returns-in_err-high-clause-budget : goal.returns-in_err-high-clause-budget
returns-in_err-high-clause-budget t c n is vs only =
    let old = c.args.self.now in
    let store = c.product_step.ensures.store in
    let split = c.in-Open.ensures.step in
    let s = c.in-Open.split in
    let refused : c.in_err-high.field-0.0 ≡ Budget n = search rules in
    let low = c.in_ok-low.ensures.added (rest old store c.args.pair s split vs only) (low_only old store c.args.pair s split vs only) in
    let high = c.in_err-high.ensures.budget n (ap Err refused) (rest old store c.args.pair s split vs only) (high_only old store c.args.pair s split vs only c.product_in.new.self c.in_ok-low.ensures.kept) in
    (high.0, below_room old store c.args.pair s split vs only _ n n low (let lt = high.1 in omega (arith, lt)) (positive (length (rest old store c.args.pair s split vs only)) n))

pub join-requires-clause-low_later : goal.join-requires-clause-low_later
join-requires-clause-low_later t c =
    low_later c.args.self.now c.product_in.new.self c.product_in-2.new.self c.product_step.ensures.store c.in_ok-high.ensures.store c.in_ok-low.ensures.kept c.in_ok-high.ensures.kept c.args.forgotten.now
    c.args.pair c.in-Open.split c.in-Open.ensures.step c.in_ok-low.low c.in_ok-low.ensures.value

pub join-requires-clause-high_later : goal.join-requires-clause-high_later
join-requires-clause-high_later t c =
    high_later c.args.self.now c.product_in.new.self c.product_in-2.new.self c.product_step.ensures.store c.in_ok-high.ensures.store c.in_ok-low.ensures.kept c.in_ok-high.ensures.kept c.args.forgotten.now
    c.args.pair c.in-Open.split c.in-Open.ensures.step c.in_ok-high.high c.in_ok-high.ensures.value

pub returns-in_err-r-clause-products : goal.returns-in_err-r-clause-products
returns-in_err-r-clause-products t c =
    products_kept c.product_in-2.new.self c.join.new.self c.in_err-r.ensures.kept eq-value.it c.args.forgotten.now c.product_in-2.new.products c.in_ok-high.ensures.products

pub returns-in_err-r-clause-added : goal.returns-in_err-r-clause-added
returns-in_err-r-clause-added t c vs only =
    let old = c.args.self.now in
    let store = c.product_step.ensures.store in
    let split = c.in-Open.ensures.step in
    let s = c.in-Open.split in
    let low = c.in_ok-low.ensures.added (rest old store c.args.pair s split vs only) (low_only old store c.args.pair s split vs only) in
    let high = c.in_ok-high.ensures.added (rest old store c.args.pair s split vs only) (high_only old store c.args.pair s split vs only c.product_in.new.self c.in_ok-low.ensures.kept) in
    let low_spanned = low_spans c.args.self.now c.product_in.new.self c.product_in-2.new.self store c.in_ok-high.ensures.store c.in_ok-low.ensures.kept c.in_ok-high.ensures.kept c.args.forgotten.now c.args.pair s split c.in_ok-low.low c.in_ok-low.ensures.value vs only in
    let high_spanned = high_spans c.args.self.now c.product_in.new.self c.product_in-2.new.self store c.in_ok-high.ensures.store c.in_ok-low.ensures.kept c.in_ok-high.ensures.kept c.args.forgotten.now c.args.pair s split c.in_ok-high.high c.in_ok-high.ensures.value vs only in
    within_room old store c.args.pair s split vs only _ _ _ low high (c.join.ensures.added _ low_spanned high_spanned)

pub returns-in_err-r-clause-budget : goal.returns-in_err-r-clause-budget
returns-in_err-r-clause-budget t c n is vs only =
    let old = c.args.self.now in
    let store = c.product_step.ensures.store in
    let split = c.in-Open.ensures.step in
    let s = c.in-Open.split in
    let refused : c.in_err-r.field-0.0 ≡ Budget n = search rules in
    let low = c.in_ok-low.ensures.added (rest old store c.args.pair s split vs only) (low_only old store c.args.pair s split vs only) in
    let high = c.in_ok-high.ensures.added (rest old store c.args.pair s split vs only) (high_only old store c.args.pair s split vs only c.product_in.new.self c.in_ok-low.ensures.kept) in
    let low_spanned = low_spans c.args.self.now c.product_in.new.self c.product_in-2.new.self store c.in_ok-high.ensures.store c.in_ok-low.ensures.kept c.in_ok-high.ensures.kept c.args.forgotten.now c.args.pair s split c.in_ok-low.low c.in_ok-low.ensures.value vs only in
    let high_spanned = high_spans c.args.self.now c.product_in.new.self c.product_in-2.new.self store c.in_ok-high.ensures.store c.in_ok-low.ensures.kept c.in_ok-high.ensures.kept c.args.forgotten.now c.args.pair s split c.in_ok-high.high c.in_ok-high.ensures.value vs only in
    let why = c.in_err-r.ensures.budget n (ap Err refused) _ low_spanned high_spanned in
    (why.0, below_room old store c.args.pair s split vs only _ _ n low high why.1)

pub keep_product-requires-clause-product : goal.keep_product-requires-clause-product
keep_product-requires-clause-product t c =
    let made =
    pair_product c.args.self.now c.product_in.new.self c.product_in-2.new.self c.product_step.ensures.store c.in_ok-high.ensures.store c.in_ok-low.ensures.kept c.in_ok-high.ensures.kept c.args.forgotten.now
    c.args.pair c.in-Open.split c.in-Open.ensures.step c.in_ok-low.low c.in_ok-high.high c.in_ok-r.r c.join.new.self c.in_ok-low.ensures.value c.in_ok-high.ensures.value c.in_ok-r.ensures.value in
    let kept = Keeps-trans c.args.self.now c.product_in.new.self c.join.new.self c.in_ok-low.ensures.kept (Keeps-trans c.product_in.new.self c.product_in-2.new.self c.join.new.self c.in_ok-high.ensures.kept c.in_ok-r.ensures.kept) in
    product_on c.args.self.now c.join.new.self kept c.join.new.self.nodes c.args.forgotten.now c.args.pair c.requires.held c.in_ok-r.r made

pub keep_product-requires-clause-products : goal.keep_product-requires-clause-products
keep_product-requires-clause-products t c =
    products_kept c.product_in-2.new.self c.join.new.self c.in_ok-r.ensures.kept eq-value.it c.args.forgotten.now c.product_in-2.new.products c.in_ok-high.ensures.products

pub returns-in_err-keep_product-clause-added : goal.returns-in_err-keep_product-clause-added
returns-in_err-keep_product-clause-added t c vs only =
    let old = c.args.self.now in
    let store = c.product_step.ensures.store in
    let split = c.in-Open.ensures.step in
    let s = c.in-Open.split in
    let low = c.in_ok-low.ensures.added (rest old store c.args.pair s split vs only) (low_only old store c.args.pair s split vs only) in
    let high = c.in_ok-high.ensures.added (rest old store c.args.pair s split vs only) (high_only old store c.args.pair s split vs only c.product_in.new.self c.in_ok-low.ensures.kept) in
    let low_spanned = low_spans c.args.self.now c.product_in.new.self c.product_in-2.new.self store c.in_ok-high.ensures.store c.in_ok-low.ensures.kept c.in_ok-high.ensures.kept c.args.forgotten.now c.args.pair s split c.in_ok-low.low c.in_ok-low.ensures.value vs only in
    let high_spanned = high_spans c.args.self.now c.product_in.new.self c.product_in-2.new.self store c.in_ok-high.ensures.store c.in_ok-low.ensures.kept c.in_ok-high.ensures.kept c.args.forgotten.now c.args.pair s split c.in_ok-high.high c.in_ok-high.ensures.value vs only in
    within_room old store c.args.pair s split vs only _ _ _ low high (c.join.ensures.added _ low_spanned high_spanned)

pub returns-clause-value : goal.returns-clause-value
returns-clause-value t c =
    pair_product c.args.self.now c.product_in.new.self c.product_in-2.new.self c.product_step.ensures.store c.in_ok-high.ensures.store c.in_ok-low.ensures.kept c.in_ok-high.ensures.kept c.args.forgotten.now
    c.args.pair c.in-Open.split c.in-Open.ensures.step c.in_ok-low.low c.in_ok-high.high c.in_ok-r.r c.join.new.self c.in_ok-low.ensures.value c.in_ok-high.ensures.value c.in_ok-r.ensures.value

pub returns-clause-added : goal.returns-clause-added
returns-clause-added t c vs only =
    let old = c.args.self.now in
    let store = c.product_step.ensures.store in
    let split = c.in-Open.ensures.step in
    let s = c.in-Open.split in
    let low = c.in_ok-low.ensures.added (rest old store c.args.pair s split vs only) (low_only old store c.args.pair s split vs only) in
    let high = c.in_ok-high.ensures.added (rest old store c.args.pair s split vs only) (high_only old store c.args.pair s split vs only c.product_in.new.self c.in_ok-low.ensures.kept) in
    let low_spanned = low_spans c.args.self.now c.product_in.new.self c.product_in-2.new.self store c.in_ok-high.ensures.store c.in_ok-low.ensures.kept c.in_ok-high.ensures.kept c.args.forgotten.now c.args.pair s split c.in_ok-low.low c.in_ok-low.ensures.value vs only in
    let high_spanned = high_spans c.args.self.now c.product_in.new.self c.product_in-2.new.self store c.in_ok-high.ensures.store c.in_ok-low.ensures.kept c.in_ok-high.ensures.kept c.args.forgotten.now c.args.pair s split c.in_ok-high.high c.in_ok-high.ensures.value vs only in
    within_room old store c.args.pair s split vs only _ _ _ low high (c.join.ensures.added _ low_spanned high_spanned)
