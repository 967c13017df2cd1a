-- Parts of the statements of a step are laid out as the whole is.
use Rattle.std.proofs.Common.{◌≡◌, ℕ, List, Some, slice_get}
use Rattle.sig_file.specs.Images.{ImageView, IsImage, MayDo, scope_of}
use Rattle.sig_file.specs.declared.images.ImageOp.{ImageOp}
use Rattle.sig_exec.proofs.Places.{operation_at}
use Rattle.sig_c.specs.SmallC.{Statements, none, more}
use Rattle.sig_c.specs.Layout.{AreLaid}
use Rattle.sig_c_step.specs.Translation.{joined}

pub first_laid : (a b : Statements) → AreLaid (joined a b) → AreLaid a
first_laid none b laid = tt
first_laid (more statement rest) b laid = (laid.0, first_laid rest b laid.1)

pub last_laid : (a b : Statements) → AreLaid (joined a b) → AreLaid b
last_laid none b laid = laid
last_laid (more statement rest) b laid = last_laid rest b laid.1

-- all operations may be done
abbrev pub MayAll : ImageView → List ImageOp → Type 0
MayAll image ops = (k : ℕ) (op : ImageOp) → slice_get ops k ≡ Some op → MayDo (scope_of image) op.kind

pub may_all : (image : ImageView) → IsImage image → MayAll image image.ops
may_all image right k op is = (operation_at image right k op is).kind
