use Rattle.std.proofs.Common.{◌++◌, append_assoc, codes}
use Rattle.sig_c.specs.Layout.{refusal_text}
use Rattle.sig_c_write.proofs.Chains.{four}
use Rattle.sig_c_write.proofs.lines.put_refusal.Goals as goal

pub returns : goal.returns
returns c =
    four _ _ _ _ _ _ _ _ _ (refusal_text c.args.code ++ codes "\n") c.in_ok-extend_from_slice.ensures.items c.in_ok-put_number.ensures c.in_ok-extend_from_slice-2.ensures.items c.in_ok-extend_from_slice-3.ensures.items
    (simp append_assoc)
