use Rattle.std.proofs.Common.{◌++◌, ℕ, List, Err, ap, [], sym, append-nil}
use Rattle.sig_c_write.specs.Given.{scope_in}
use Rattle.sig_c_write.specs.declared.limits.TheConstants.{TEXT_BYTES}
use Rattle.sig_c_write.specs.inner.Blocks.{block_closing, block_opening}
use Rattle.sig_c_write.proofs.Chains.{long_before, passed_on}
use Rattle.sig_c_write.proofs.blocks.put_change.Goals as goal

pub returns-in_err-put_beginning-clause-long : goal.returns-in_err-put_beginning-clause-long
returns-in_err-put_beginning-clause-long c = λ is.
    let scope = scope_in c.args.names.now in
    let opening = block_opening c.args.image.now scope c.args.guard in
    let l = c.in_err-put_beginning.ensures.long (ap Err (passed_on c.from_residual-in_err-put_beginning.result c.in_err-put_beginning.field-0.0 c.from_residual-in_err-put_beginning.ensures.1 is)) in
    long_before TEXT_BYTES c.args.text.now.items c.put_closing.new.text.items (block_closing c.args.last) opening []
    (block_closing c.args.last ++ opening) c.in_ok-put_closing.ensures (ap (λ (x : List ℕ). block_closing c.args.last ++ x) (sym (append-nil opening))) l
