use Rattle.sig_flow.proofs.{◌≡◌, ◌+◌, ◌-◌, ◌∙◌, ◌∷◌, ◌++◌, ℕ, List, length, drop, ap, arith, decimal, signed_decimal, drop-set, length-decimal-le, to_z-of_z, integer_is_short, text_of_minus}
use Rattle.sig_flow.proofs.backward.integer_before.Goals as goal

pub write_digits-start-requires : goal.write_digits-start-requires
write_digits-start-requires c = (omega (arith, length-decimal-le 19 c.unsigned_abs.result (omega arith) (omega arith) (omega arith)), c.requires.within)

pub returns-then-item-ge0-clause-short : goal.returns-then-item-ge0-clause-short
returns-then-item-ge0-clause-short c = integer_is_short c.args.item c.ranges.item

pub overflow_sub-bytes : goal.overflow_sub-bytes
overflow_sub-bytes c = omega (arith, length-decimal-le 19 c.unsigned_abs.result (omega arith) (omega arith) (omega arith))

pub overflow_sub-result : goal.overflow_sub-result
overflow_sub-result c = omega (arith, length-decimal-le 19 c.unsigned_abs.result (omega arith) (omega arith) (omega arith))

pub returns-clause-start : goal.returns-clause-start
returns-clause-start c =
    let back = to_z-of_z c.ranges.item in
    let text : 45 ∷ decimal c.unsigned_abs.result ≡ signed_decimal c.args.item = rw (c.unsigned_abs.ensures.value, back) (text_of_minus c.args.item (rw back at c.if-item-ge0.false)) in
    let long = length-decimal-le 19 c.unsigned_abs.result (omega arith) (omega arith) (omega arith) in
    let size : length (decimal c.unsigned_abs.result) + 1 ≡ length (signed_decimal c.args.item) = omega (arith, ap length text) in
    omega (arith, long, size)

pub returns-clause-written : goal.returns-clause-written
returns-clause-written c =
    let w = c.write_digits-start in
    let back = to_z-of_z c.ranges.item in
    let text : 45 ∷ decimal c.unsigned_abs.result ≡ signed_decimal c.args.item = rw (c.unsigned_abs.ensures.value, back) (text_of_minus c.args.item (rw back at c.if-item-ge0.false)) in
    let long = length-decimal-le 19 c.unsigned_abs.result (omega arith) (omega arith) (omega arith) in
    let first : w.result - 1 + 1 ≡ w.result = omega (arith, long) in
    drop-set w.new.buf (w.result - 1) 45 (omega (arith, long))
    ∙ ap (λ k. 45 ∷ drop k w.new.buf) first
    ∙ ap (λ (back : List ℕ). 45 ∷ back) w.ensures.written
    ∙ ap (λ front. front ++ drop c.args.end c.args.bytes.now) text

pub returns-clause-short : goal.returns-clause-short
returns-clause-short c = integer_is_short c.args.item c.ranges.item
