-- The end of a run as the image of its plan has it.
use Rattle.sig_shipped_laws.specs.Prelude.{Option, None, Some, slice_get, EqId, Span, Equation, Kernel, Cause, Ended, ImageCause, ImageEnd}
use Rattle.sig_plan.specs.declared.ended.Cause.TheVariants.{Exhausted, Overflow, ZeroDivisor, Limit}
use Rattle.sig_file.specs.declared.run.ImageCause.TheVariants as image

abbrev pub span_of : Option Equation → Span
span_of None = record { line = 0; col = 0 }
span_of (Some equation) = equation.at

-- where an equation stands in the program
abbrev pub span_at : Kernel → EqId → Span
span_at kernel e = span_of (slice_get kernel.equations e.0)

-- a cause, with the place of its equation
abbrev pub cause_in : Kernel → Cause → ImageCause
cause_in kernel (Exhausted x) = image.Exhausted x
cause_in kernel (Overflow e) = image.Overflow (span_at kernel e)
cause_in kernel (ZeroDivisor e) = image.ZeroDivisor (span_at kernel e)
cause_in kernel Limit = image.Limit

-- the end, with its cause at the place of its equation
abbrev pub end_in : Kernel → Ended → ImageEnd
end_in kernel ended = record { instants = ended.instants; cause = cause_in kernel ended.cause }
