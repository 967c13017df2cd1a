use Rattle.sig_exec.proofs.{◌≡◌, ◌≤◌, ◌+◌, ℕ, List, length, ap, sym, subst, drop, arith, AreOutputsOfFirst, OnErr, OnOk, Signal, TookPrefix, lines_of_image, output_shown, registers_of}
use Rattle.sig_exec.proofs.putting.Outputs.put.Goals as goal

pub returns-clause-all : goal.returns-clause-all
returns-clause-all g c =
    let image = c.args.image.now in
    let interface = c.images_are_right.ensures.interface in
    let fits : image.inputs + image.outputs ≤ length image.signals = omega (arith, interface) in
    let are = c.requires.outputs in
    let registers = registers_of image c.args.machine.now in
    subst (λ (bytes : List ℕ). OnOk c.put_instant.result (g.S.Sink.took c.args.sink.now bytes c.put_instant.new.sink)) (lines_of_image image fits c.as_slice.result.now (subst (λ (own : List Signal). length own ≡ image.outputs) (sym c.as_slice.ensures.value) are.count) (subst (AreOutputsOfFirst image) (sym c.as_slice.ensures.value) are.each) registers)
    (c.put_instant.ensures.all (drop image.inputs registers) (λ place seen below told.
    let count = are.count in
    let same : length c.as_slice.result.now ≡ length c.args.self.now.signals.items = ap (λ (own : List Signal). length own) c.as_slice.ensures.value in
    output_shown image fits c.args.machine.now c.requires.cells c.inputs_of-first.result c.inputs_of-first.ensures place (omega (arith, below, count, same)) seen told))

pub returns-clause-prefix : goal.returns-clause-prefix
returns-clause-prefix g c =
    let image = c.args.image.now in
    let interface = c.images_are_right.ensures.interface in
    let fits : image.inputs + image.outputs ≤ length image.signals = omega (arith, interface) in
    let are = c.requires.outputs in
    let registers = registers_of image c.args.machine.now in
    subst (λ (bytes : List ℕ). OnErr c.put_instant.result (TookPrefix g.S.Sink.took c.args.sink.now bytes c.put_instant.new.sink)) (lines_of_image image fits c.as_slice.result.now (subst (λ (own : List Signal). length own ≡ image.outputs) (sym c.as_slice.ensures.value) are.count) (subst (AreOutputsOfFirst image) (sym c.as_slice.ensures.value) are.each) registers)
    (c.put_instant.ensures.prefix (drop image.inputs registers) (λ place seen below told.
    let count = are.count in
    let same : length c.as_slice.result.now ≡ length c.args.self.now.signals.items = ap (λ (own : List Signal). length own) c.as_slice.ensures.value in
    output_shown image fits c.args.machine.now c.requires.cells c.inputs_of-first.result c.inputs_of-first.ensures place (omega (arith, below, count, same)) seen told))
