-- How the reason is told for which a kernel is refused: with the names of the signals that it is said of, and the place of the
-- first of them.
use Rattle.std.specs.Prelude.{◌≡◌, ◌∷◌}
use Rattle.sig_back.specs.Prelude.{ℕ, List, [], map, slice_get, Option, None, Some, SigId, Signal, Span, Kernel, IsRefusedFor, KernelFault, Dead, MissingRoot, Unsolved, Pinned, Cycle, TooManyLinks}
use Rattle.sig_back.specs.declared.fault.BackKind.{BackKind}
use Rattle.sig_back.specs.declared.fault.BackKind.TheVariants.{Dead as IsDead, MissingRoot as IsMissingRoot, Unsolved as IsUnsolved, Pinned as IsPinned, Cycle as IsCycle, TooManyLinks as AreTooManyLinks}

pub record FaultView : Type 0 where
  pub kind : BackKind
  pub names : List (List ℕ)
  pub at : Option Span

abbrev pub name_of : Option Signal → List ℕ
name_of None = []
name_of (Some signal) = signal.name

abbrev pub place_of : Option Signal → Option Span
place_of None = None
place_of (Some signal) = Some signal.at

abbrev pub name_at : Kernel → SigId → List ℕ
name_at kernel x = name_of (slice_get kernel.signals x.0)

-- where a signal is declared, or its operator stands
abbrev pub place_at : Kernel → SigId → Option Span
place_at kernel x = place_of (slice_get kernel.signals x.0)

abbrev pub first_place : Kernel → List SigId → Option Span
first_place kernel [] = None
first_place kernel (x ∷ others) = place_at kernel x

-- a rule is not met, and these signals are named
abbrev pub said_of : Kernel → BackKind → List SigId → FaultView
said_of kernel kind signals = record { kind = kind; names = map (name_at kernel) signals; at = first_place kernel signals }

-- how the reason for which a kernel is refused is told
abbrev pub told_as : Kernel → KernelFault → FaultView
told_as kernel Dead = said_of kernel IsDead []
told_as kernel (MissingRoot x y) = said_of kernel IsMissingRoot (x ∷ y ∷ [])
told_as kernel (Unsolved x) = said_of kernel IsUnsolved (x ∷ [])
told_as kernel (Pinned b) = said_of kernel IsPinned (b ∷ [])
told_as kernel (Cycle x) = said_of kernel IsCycle (x ∷ [])
told_as kernel TooManyLinks = said_of kernel AreTooManyLinks []

-- the kernel is refused for the reason that is told
abbrev pub IsFaultOf : Kernel → FaultView → Type 0
IsFaultOf kernel told = (fault : KernelFault) × IsRefusedFor kernel fault × (told ≡ told_as kernel fault)
