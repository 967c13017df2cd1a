use Rattle.sig_verify.proofs.{◌*◌, arith, false, ◌∙◌, asked, choices, guard_at, IsRefusal, of_kept, high_less, high_within, low_less, low_within, variable_within, pass_on, are_told_kept, scene_kept, constant_is_told, high_next, high_refused, low_next, low_refused, node_is_told, node_next, node_refused}
use Rattle.sig_verify.proofs.walk.+walk.Goals as goal

pub returns-then-n-lt2-clause-value : goal.returns-then-n-lt2-clause-value
returns-then-n-lt2-clause-value t c = λ exact was.
    constant_is_told exact c.args.diagrams.now c.args.image.now (asked c.args.diagrams.now c.args.image.now c.args.written.now) c.args.n c.if-n-lt2.true c.constant_told.result
    c.constant_told.ensures.function c.constant_told.ensures.written

pub walk-requires : goal.walk-requires
walk-requires t c =
    let image = c.args.image.now in
    let node = c.node_at-node.result in
    let less = low_less image c.node_at-node.ensures.right c.args.n node c.if-n-lt2.false c.node_at-node.ensures.node in
    (omega (arith, less), (c.requires.scene, (low_within image c.node_at-node.ensures.right c.args.n node c.if-n-lt2.false c.node_at-node.ensures.node, c.requires.told)))

pub returns-in_err-low-clause-next : goal.returns-in_err-low-clause-next
returns-in_err-low-clause-next t c =
    low_next c.args.image.now c.node_at-node.ensures.right c.args.n c.node_at-node.result c.if-n-lt2.false c.node_at-node.ensures.node c.args.diagrams.now c.walk.new.diagrams c.in_err-low.ensures.next

pub returns-in_err-low-clause-refused : goal.returns-in_err-low-clause-refused
returns-in_err-low-clause-refused t c =
    pass_on (IsRefusal c.args.diagrams.now (5 * choices (guard_at c.args.image.now c.args.n))) c.from_residual.result c.in_err-low.field-0.0 c.from_residual.ensures.1
    (low_refused c.args.image.now c.node_at-node.ensures.right c.args.n c.node_at-node.result c.if-n-lt2.false c.node_at-node.ensures.node c.args.diagrams.now c.in_err-low.field-0.0 c.in_err-low.ensures.refused)

pub walk-requires-2 : goal.walk-requires-2
walk-requires-2 t c =
    let image = c.args.image.now in
    let node = c.node_at-node.result in
    let less = high_less image c.node_at-node.ensures.right c.args.n node c.if-n-lt2.false c.node_at-node.ensures.node in (
      omega (arith, less),
      (
        scene_kept (5 * choices (guard_at image node.low)) c.args.diagrams.now c.walk.new.diagrams c.in_ok-low.ensures.next image c.args.written.now c.requires.scene,
        (high_within image c.node_at-node.ensures.right c.args.n node c.if-n-lt2.false c.node_at-node.ensures.node, c.in_ok-low.ensures.told false c.requires.told),
      ),
    )

pub returns-in_err-high-clause-next : goal.returns-in_err-high-clause-next
returns-in_err-high-clause-next t c =
    high_next c.args.image.now c.node_at-node.ensures.right c.args.n c.node_at-node.result c.if-n-lt2.false c.node_at-node.ensures.node c.args.diagrams.now c.walk.new.diagrams c.walk-2.new.diagrams
    c.in_ok-low.ensures.next c.in_err-high.ensures.next

pub returns-in_err-high-clause-refused : goal.returns-in_err-high-clause-refused
returns-in_err-high-clause-refused t c =
    pass_on (IsRefusal c.args.diagrams.now (5 * choices (guard_at c.args.image.now c.args.n))) c.from_residual-in_err-high.result c.in_err-high.field-0.0 c.from_residual-in_err-high.ensures.1
    (high_refused c.args.image.now c.node_at-node.ensures.right c.args.n c.node_at-node.result c.if-n-lt2.false c.node_at-node.ensures.node c.args.diagrams.now c.walk.new.diagrams
    c.in_ok-low.ensures.next c.in_err-high.field-0.0 c.in_err-high.ensures.refused)

pub node_told-requires-clause-scene : goal.node_told-requires-clause-scene
node_told-requires-clause-scene t c =
    let image = c.args.image.now in
    let node = c.node_at-node.result in
    scene_kept (5 * choices (guard_at image node.high)) c.walk.new.diagrams c.walk-2.new.diagrams c.in_ok-high.ensures.next image c.args.written.now
    (scene_kept (5 * choices (guard_at image node.low)) c.args.diagrams.now c.walk.new.diagrams c.in_ok-low.ensures.next image c.args.written.now c.requires.scene)

pub node_told-requires-clause-v : goal.node_told-requires-clause-v
node_told-requires-clause-v t c =
    let within = variable_within c.args.image.now c.node_at-node.ensures.right c.args.n c.node_at-node.result c.if-n-lt2.false c.node_at-node.ensures.node in
    let same = c.in_ok-high.ensures.next.conditions ∙ (c.in_ok-low.ensures.next.conditions ∙ c.requires.scene.conditions) in
    omega (arith, within, same)

pub node_told-requires-clause-low_function : goal.node_told-requires-clause-low_function
node_told-requires-clause-low_function t c =
    of_kept (5 * choices (guard_at c.args.image.now c.node_at-node.result.high)) c.walk.new.diagrams c.walk-2.new.diagrams c.in_ok-high.ensures.next c.in_ok-low.low.function (c.in_ok-low.ensures.value false c.requires.told).function.of

pub node_told-requires-clause-low_written : goal.node_told-requires-clause-low_written
node_told-requires-clause-low_written t c =
    of_kept (5 * choices (guard_at c.args.image.now c.node_at-node.result.high)) c.walk.new.diagrams c.walk-2.new.diagrams c.in_ok-high.ensures.next c.in_ok-low.low.written (c.in_ok-low.ensures.value false c.requires.told).of

pub node_told-requires-clause-high_function : goal.node_told-requires-clause-high_function
node_told-requires-clause-high_function t c = (c.in_ok-high.ensures.value false (c.in_ok-low.ensures.told false c.requires.told)).function.of

pub node_told-requires-clause-high_written : goal.node_told-requires-clause-high_written
node_told-requires-clause-high_written t c = (c.in_ok-high.ensures.value false (c.in_ok-low.ensures.told false c.requires.told)).of

pub returns-in_err-own-clause-next : goal.returns-in_err-own-clause-next
returns-in_err-own-clause-next t c =
    node_next c.args.image.now c.node_at-node.ensures.right c.args.n c.node_at-node.result c.if-n-lt2.false c.node_at-node.ensures.node c.args.diagrams.now c.walk.new.diagrams c.walk-2.new.diagrams
    c.node_told.new.diagrams c.in_ok-low.ensures.next c.in_ok-high.ensures.next c.in_err-own.ensures.next

pub returns-in_err-own-clause-refused : goal.returns-in_err-own-clause-refused
returns-in_err-own-clause-refused t c =
    pass_on (IsRefusal c.args.diagrams.now (5 * choices (guard_at c.args.image.now c.args.n))) c.from_residual-in_err-own.result c.in_err-own.field-0.0 c.from_residual-in_err-own.ensures.1
    (node_refused c.args.image.now c.node_at-node.ensures.right c.args.n c.node_at-node.result c.if-n-lt2.false c.node_at-node.ensures.node c.args.diagrams.now c.walk.new.diagrams c.walk-2.new.diagrams
    c.in_ok-low.ensures.next c.in_ok-high.ensures.next c.in_err-own.field-0.0 c.in_err-own.ensures.refused)

pub returns-in_err-keep_told-clause-next : goal.returns-in_err-keep_told-clause-next
returns-in_err-keep_told-clause-next t c =
    node_next c.args.image.now c.node_at-node.ensures.right c.args.n c.node_at-node.result c.if-n-lt2.false c.node_at-node.ensures.node c.args.diagrams.now c.walk.new.diagrams c.walk-2.new.diagrams
    c.node_told.new.diagrams c.in_ok-low.ensures.next c.in_ok-high.ensures.next c.in_ok-own.ensures.next

pub returns-clause-next : goal.returns-clause-next
returns-clause-next t c =
    node_next c.args.image.now c.node_at-node.ensures.right c.args.n c.node_at-node.result c.if-n-lt2.false c.node_at-node.ensures.node c.args.diagrams.now c.walk.new.diagrams c.walk-2.new.diagrams
    c.node_told.new.diagrams c.in_ok-low.ensures.next c.in_ok-high.ensures.next c.in_ok-own.ensures.next

pub returns-clause-told : goal.returns-clause-told
returns-clause-told t c = λ exact was.
    let image = c.args.image.now in
    let node = c.node_at-node.result in
    let mid_scene = scene_kept (5 * choices (guard_at image node.low)) c.args.diagrams.now c.walk.new.diagrams c.in_ok-low.ensures.next image c.args.written.now c.requires.scene in
    let high_scene = scene_kept (5 * choices (guard_at image node.high)) c.walk.new.diagrams c.walk-2.new.diagrams c.in_ok-high.ensures.next image c.args.written.now mid_scene in
    let low_table = c.in_ok-low.ensures.told exact was in
    c.in_ok-keep_told.ensures exact c.node_told.new.diagrams image (asked c.node_told.new.diagrams image c.args.written.now)
    (node_is_told image c.node_at-node.ensures.right c.args.n node c.if-n-lt2.false c.node_at-node.ensures.node exact c.args.written.now c.walk.new.diagrams c.walk-2.new.diagrams c.node_told.new.diagrams
    high_scene.of mid_scene.of c.in_ok-high.ensures.next c.in_ok-own.ensures.next c.in_ok-low.low c.in_ok-high.high c.in_ok-own.own (c.in_ok-low.ensures.value exact was) (c.in_ok-high.ensures.value exact low_table)
    c.in_ok-own.ensures.function c.in_ok-own.ensures.written)
    (are_told_kept 5 c.walk-2.new.diagrams c.node_told.new.diagrams c.in_ok-own.ensures.next exact image c.args.written.now high_scene.of c.walk-2.new.told (c.in_ok-high.ensures.told exact low_table))

pub returns-clause-value : goal.returns-clause-value
returns-clause-value t c = λ exact was.
    let image = c.args.image.now in
    let node = c.node_at-node.result in
    let mid_scene = scene_kept (5 * choices (guard_at image node.low)) c.args.diagrams.now c.walk.new.diagrams c.in_ok-low.ensures.next image c.args.written.now c.requires.scene in
    let high_scene = scene_kept (5 * choices (guard_at image node.high)) c.walk.new.diagrams c.walk-2.new.diagrams c.in_ok-high.ensures.next image c.args.written.now mid_scene in
    node_is_told image c.node_at-node.ensures.right c.args.n node c.if-n-lt2.false c.node_at-node.ensures.node exact c.args.written.now c.walk.new.diagrams c.walk-2.new.diagrams c.node_told.new.diagrams
    high_scene.of mid_scene.of c.in_ok-high.ensures.next c.in_ok-own.ensures.next c.in_ok-low.low c.in_ok-high.high c.in_ok-own.own (c.in_ok-low.ensures.value exact was)
    (c.in_ok-high.ensures.value exact (c.in_ok-low.ensures.told exact was)) c.in_ok-own.ensures.function c.in_ok-own.ensures.written
