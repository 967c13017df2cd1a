use Rattle.sig_machine.proofs.{◌≡◌, ◌<◌, arith, get_or, length, Some, slice_get, SigId, get_at, all_entered, none_entered, one_entered}
use Rattle.sig_machine.proofs.truths.variables_of.Goals as goal

pub index_mut-requires : goal.index_mut-requires
index_mut-requires c =
    let condition : SigId = get_or c.args.conditions.now c.loop-variable.variable (record { 0 = 0 }) in
    let at : slice_get c.args.conditions.now c.loop-variable.variable ≡ Some condition = get_at c.args.conditions.now c.loop-variable.variable (record { 0 = 0 }) c.loop-variable-test.true in
    let within : condition.0 < c.args.signals = c.requires.within c.loop-variable.variable condition at in
    let count : length c.loop-variable.variables.items ≡ c.args.signals = c.loop-variable.invariant.count in
    omega (arith, within, count, c.loop-variable.variables.ok.0)

pub loop-variable-init : goal.loop-variable-init
loop-variable-init c = none_entered c.args.conditions.now c.args.signals c.in_ok-variables.variables.items c.in_ok-variables.ensures

pub loop-variable-preserved : goal.loop-variable-preserved
loop-variable-preserved c =
    let condition : SigId = get_or c.args.conditions.now c.loop-variable.variable (record { 0 = 0 }) in
    let at : slice_get c.args.conditions.now c.loop-variable.variable ≡ Some condition = get_at c.args.conditions.now c.loop-variable.variable (record { 0 = 0 }) c.loop-variable-test.true in
    one_entered c.args.conditions.now c.args.signals c.loop-variable.variable condition c.loop-variable.variables.items c.requires.differ
    (c.requires.within c.loop-variable.variable condition at) at c.loop-variable.invariant

pub returns : goal.returns
returns c = all_entered c.args.conditions.now c.args.signals c.loop-variable.variable c.loop-variable.variables.items c.loop-variable-test.false c.loop-variable.invariant
