use Rattle.sig_exec.proofs.{◌≡◌, ap, sym, subst, length, List, Some, slice_get, slice_get_read, ImageOp, operation_at}
use Rattle.sig_exec.proofs.images.op_at.Goals as goal

pub returns-clause-right : goal.returns-clause-right
returns-clause-right c =
    let ops = c.ops_of-ops.result.now in
    let found : slice_get ops c.args.place ≡ Some c.index-ops-place.result =
    slice_get_read ops (length c.args.image.now.ops) c.args.place c.index-ops-place.result (ap (λ (l : List ImageOp). length l) (sym c.ops_of-ops.ensures)) c.requires c.index-ops-place.is in
    let at : slice_get c.args.image.now.ops c.args.place ≡ Some c.index-ops-place.result = subst (λ (l : List ImageOp). slice_get l c.args.place ≡ Some c.index-ops-place.result) c.ops_of-ops.ensures found in
    operation_at c.args.image.now c.images_are_right.ensures c.args.place c.index-ops-place.result at
