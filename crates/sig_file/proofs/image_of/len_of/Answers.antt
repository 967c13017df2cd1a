use Rattle.sig_file.proofs.{◌≡◌, ap, arith, flat_map, length, op_bytes, signal_bytes, view_of, image_len}
use Rattle.sig_file.proofs.image_of.len_of.Goals as goal

pub returns : goal.returns
returns c =
    let signals : length (flat_map signal_bytes c.deref.result.now) ≡ length (flat_map signal_bytes c.args.parts.now.signals.items) = ap (λ xs. length (flat_map signal_bytes xs)) c.deref.ensures.value in
    let ops : length (flat_map op_bytes c.deref-2.result.now) ≡ length (flat_map op_bytes c.args.parts.now.ops.items) = ap (λ xs. length (flat_map op_bytes xs)) c.deref-2.ensures.value in
    omega (
      arith,
      image_len (view_of c.args.parts.now),
      signals,
      ops,
      c.signals_len.ensures,
      c.saturating_add.ensures,
      c.len.ensures,
      c.saturating_mul.ensures,
      c.saturating_add-2.ensures,
      c.len-2.ensures,
      c.saturating_mul-2.ensures,
      c.saturating_add-3.ensures,
      c.len-3.ensures,
      c.saturating_mul-3.ensures,
      c.saturating_add-4.ensures,
      c.ops_len.ensures,
      c.saturating_add-5.ensures,
    )
