use Rattle.std.proofs.Common.{refl}
use Rattle.sig_c_write.specs.inner.Tables.{row_bytes}
use Rattle.sig_c_write.proofs.Chains.{four}
use Rattle.sig_c_write.proofs.ends.put_row.Goals as goal

pub returns : goal.returns
returns c =
    four _ _ _ _ _ _ _ _ _ (row_bytes c.args.prefix.now c.args.cause.now c.args.line c.args.column c.args.name.now)
    c.in_ok-put_cause.ensures c.in_ok-put_comma.ensures c.in_ok-put_comma-2.ensures c.in_ok-put_quoted.ensures refl
