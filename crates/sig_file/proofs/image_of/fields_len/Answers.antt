use Rattle.sig_file.proofs.{arith, ◌≡◌, ap, length, flat_map, operand_bytes, constant_len, copy_len, delay_read_len, function_len, read_len, store_len}
use Rattle.sig_file.proofs.image_of.fields_len.Goals as goal

pub returns-in-Read : goal.returns-in-Read
returns-in-Read c = rw c.in-Read.is (omega (arith, read_len c.in-Read.field-0))

pub returns-in-Fun : goal.returns-in-Fun
returns-in-Fun c =
    let same : length (flat_map operand_bytes c.as_slice.result.now) ≡ length (flat_map operand_bytes c.in-Fun.operands) = ap (λ xs. length (flat_map operand_bytes xs)) c.as_slice.ensures in
    rw c.in-Fun.is (omega (arith, function_len c.in-Fun.field-0 c.in-Fun.field-1 c.in-Fun.operands, c.operands_len.ensures, c.saturating_add.ensures, same))

pub returns-in-Copy : goal.returns-in-Copy
returns-in-Copy c = rw c.in-Copy.is (omega (arith, copy_len c.in-Copy.field-0 c.in-Copy.field-1))

pub returns-in-Const : goal.returns-in-Const
returns-in-Const c = rw c.in-Const.is (omega (arith, constant_len c.in-Const.field-0 c.in-Const.field-1))

pub returns-in-DelayRead : goal.returns-in-DelayRead
returns-in-DelayRead c = rw c.in-DelayRead.is (omega (arith, delay_read_len c.in-DelayRead.field-0 c.in-DelayRead.field-1))

pub returns-in-Store : goal.returns-in-Store
returns-in-Store c = rw c.in-Store.is (omega (arith, store_len c.in-Store.field-0 c.in-Store.field-1))
