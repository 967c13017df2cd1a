use Rattle.sig_plan.proofs.{◌≡◌, ◌⊎◌, inl, inr, ℤ, sym, ap, ◌∙◌, ◌∷◌, [], List, subst, on_ok_weaker, EqId, SigId, Signal, Form, WhenConst, Event, Extends, Presence, signals_of, writes_of, writing, Compute, DelayRead, extends_one}
use Rattle.sig_plan.proofs.making.add_writes_of.Goals as goal

pub returns-in_ok-reads-in-Fun-clause-adds : goal.returns-in_ok-reads-in-Fun-clause-adds
returns-in_ok-reads-in-Fun-clause-adds c =
    let signals = c.args.source.now.signals.now in
    let y = c.in-Fun.y in
    extends_one c.args.store.now.nodes c.args.source.now.clocks.now _ (λ presence. writing signals c.args.number Compute (presence y) y c.in_ok-reads-in-Fun.reads) c.args.ops.now.items c.add.new.ops.items c.writing.result c.add.result
    c.requires.held c.requires.ops c.writing.ensures c.add.ensures.added
    (λ presence. ap (λ (reads : List SigId). writing signals c.args.number Compute (presence y) y reads ∷ []) (c.in_ok-reads-in-Fun.ensures ∙ ap signals_of c.as_slice.ensures) ∙ sym (ap (writes_of signals presence c.args.number) c.in-Fun.is))

pub returns-in_ok-reads-in-When-clause-adds : goal.returns-in_ok-reads-in-When-clause-adds
returns-in_ok-reads-in-When-clause-adds c =
    let signals = c.args.source.now.signals.now in
    let y = c.in-When.y in
    extends_one c.args.store.now.nodes c.args.source.now.clocks.now _ (λ presence. writing signals c.args.number Compute (presence y) y c.in_ok-reads-in-When.reads) c.args.ops.now.items c.add-in-When.new.ops.items c.writing-in-When.result c.add-in-When.result
    c.requires.held c.requires.ops c.writing-in-When.ensures c.add-in-When.ensures.added
    (λ presence. ap (λ (reads : List SigId). writing signals c.args.number Compute (presence y) y reads ∷ []) c.in_ok-reads-in-When.ensures ∙ sym (ap (writes_of signals presence c.args.number) c.in-When.is))

pub returns-in-Delay-clause-adds : goal.returns-in-Delay-clause-adds
returns-in-Delay-clause-adds c =
    let signals = c.args.source.now.signals.now in
    let y = c.in-Delay.y in
    extends_one c.args.store.now.nodes c.args.source.now.clocks.now _ (λ presence. writing signals c.args.number DelayRead (presence y) y c.none.result) c.args.ops.now.items c.add-in-Delay.new.ops.items c.writing-in-Delay.result c.add-in-Delay.result
    c.requires.held c.requires.ops c.writing-in-Delay.ensures c.add-in-Delay.ensures.added
    (λ presence. ap (λ (reads : List SigId). writing signals c.args.number DelayRead (presence y) y reads ∷ []) c.none.ensures ∙ sym (ap (writes_of signals presence c.args.number) c.in-Delay.is))

pub returns-in-Default-clause-adds : goal.returns-in-Default-clause-adds
returns-in-Default-clause-adds c =
    let signals = c.args.source.now.signals.now in
    on_ok_weaker c.add_default.result (λ added.
    subst (λ (form : Form). Extends c.args.store.now.nodes c.add_default.new.store.nodes c.args.source.now.clocks.now (λ presence. writes_of signals presence c.args.number form) c.args.ops.now.items c.add_default.new.ops.items) (sym c.in-Default.is) added)
    c.add_default.ensures.adds

no_reads : (signals : List Signal) (presence : Presence) (number : EqId) (y : SigId) (reads : List SigId) (form : Form) → reads ≡ [] → ((constant : ℤ) × (b : SigId) × (form ≡ WhenConst y constant b)) ⊎ ((x : SigId) × (form ≡ Event y x))
    → writing signals number Compute (presence y) y reads ∷ [] ≡ writes_of signals presence number form
no_reads signals presence number y reads form none (inl is) = ap (λ (reads : List SigId). writing signals number Compute (presence y) y reads ∷ []) none ∙ sym (ap (writes_of signals presence number) is.2)
no_reads signals presence number y reads form none (inr is) = ap (λ (reads : List SigId). writing signals number Compute (presence y) y reads ∷ []) none ∙ sym (ap (writes_of signals presence number) is.1)

pub returns-in-WhenConst-clause-adds : goal.returns-in-WhenConst-clause-adds
returns-in-WhenConst-clause-adds c =
    let signals = c.args.source.now.signals.now in
    let y = c.in-WhenConst.y in
    extends_one c.args.store.now.nodes c.args.source.now.clocks.now _ (λ presence. writing signals c.args.number Compute (presence y) y c.none-in-WhenConst.result) c.args.ops.now.items c.add-in-WhenConst.new.ops.items c.writing-in-WhenConst.result c.add-in-WhenConst.result
    c.requires.held c.requires.ops c.writing-in-WhenConst.ensures c.add-in-WhenConst.ensures.added
    (λ presence. no_reads signals presence c.args.number y c.none-in-WhenConst.result c.args.form.now c.none-in-WhenConst.ensures c.in-WhenConst.is)
