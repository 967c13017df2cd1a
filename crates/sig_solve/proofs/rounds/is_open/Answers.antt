use Rattle.sig_solve.proofs.{◌<◌, [], length, get_or, ◌∙◌, arith, get_or_read, marked_answer}
use Rattle.sig_solve.proofs.rounds.is_open.Goals as goal

pub bounds-needs-signal : goal.bounds-needs-signal
bounds-needs-signal c =
    let count = c.requires.needs.count in
    let present = c.requires.free.is_system.presences in
    let lt = c.requires.signal in
    omega (arith, lt, count, present)

pub returns : goal.returns
returns c =
    let needs = c.args.needs.now in
    let s = c.args.signal in
    let count = c.requires.needs.count in
    let present = c.requires.free.is_system.presences in
    let lt = c.requires.signal in
    let within : s < length needs = omega (arith, lt, count, present) in
    marked_answer c.args._frame.now.kernel.now c.args._store.now c.args._system.now c.requires.free c.requires.entered.0 c.args._known.now (get_or needs s []) c.as_slice.result.now c.args.unknown.now s c.is_one_unknown.result
    c.requires.entered.1 lt (c.requires.needs.exact s (omega (arith, lt, present))) (c.as_slice.ensures ∙ get_or_read needs s c.index-needs-signal.result within c.index-needs-signal.is []) c.requires.unknown c.is_one_unknown.ensures
