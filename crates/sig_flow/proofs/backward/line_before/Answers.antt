use Rattle.sig_flow.proofs.{◌-◌, arith, length-set, to_z-of_z, line_is_written, size_of_line, value_text}
use Rattle.sig_flow.proofs.backward.line_before.Goals as goal

pub returns-clause-start : goal.returns-clause-start
returns-clause-start c =
    let same = to_z-of_z c.ranges.item in
    let from = rw same at c.value_before-value.ensures.start in
    let short = rw same at c.value_before-value.ensures.short in
    let size = size_of_line c.args.name.now (value_text c.args.kind c.args.item) in
    omega (arith, size, from, short)

pub returns-clause-written : goal.returns-clause-written
returns-clause-written c =
    let v = c.value_before-value in
    let w = c.word_before in
    let same = to_z-of_z c.ranges.item in
    let written = rw same at v.ensures.written in
    line_is_written c.args.bytes.now v.new.bytes w.new.bytes c.args.name.now (value_text c.args.kind c.args.item) (c.args.end - 1) (v.result - 1) v.result w.result c.args.end
    (omega arith) (omega arith) written (omega arith) (omega (arith, length-set c.args.bytes.now (c.args.end - 1) 10)) w.ensures.written

pub returns-clause-short : goal.returns-clause-short
returns-clause-short c =
    let same = to_z-of_z c.ranges.item in
    let short = rw same at c.value_before-value.ensures.short in
    let size = size_of_line c.args.name.now (value_text c.args.kind c.args.item) in
    omega (arith, size, short)
