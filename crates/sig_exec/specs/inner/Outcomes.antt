-- Why a run ends.
use Rattle.sig_exec.specs.Prelude.{Cause, Span, ImageCause}
use Rattle.sig_plan.specs.declared.ended.Cause.TheVariants as plan
use Rattle.sig_file.specs.declared.run.ImageCause.TheVariants as image

-- the cause of an instruction without a value, as that of an operation at this place
abbrev pub cause_of : Span → Cause → ImageCause
cause_of at (plan.Exhausted x) = image.Exhausted x
cause_of at (plan.Overflow e) = image.Overflow at
cause_of at (plan.ZeroDivisor e) = image.ZeroDivisor at
cause_of at plan.Limit = image.Limit
