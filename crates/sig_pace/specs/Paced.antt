-- The paced kernel: one boolean input for each maximal clock, which says whether that clock is present. These inputs
-- come together, so each of them is a root.
use Rattle.std.specs.Prelude.{◌≡◌, ◌≤◌, ◌⊎◌, ◌+◌, ◌++◌, ◌∷◌}
use Rattle.sig_pace.specs.Prelude.{ℕ, suc, pos, List, [], length, map, take, drop, Option, None, Some, slice_get, codes, decimal, Boolean, Event as EventKind, SIGNALS, Signal, Span, HasNoRoot, HasRoot, IsAlive, IsDead, WhenConst, Sync, Equation, Kernel}
use Rattle.sig_pace.specs.MaximalClocks.{AreMaximalClocks}
use Rattle.sig_pace.specs.Renumbering.{moved, renumbered_equation}

-- the names of a pace and of the signal that is present where the pace is true; they are counted from 1
abbrev pub pace_name : ℕ → List ℕ
pace_name number = codes "pace_" ++ decimal number

abbrev pub mark_name : ℕ → List ℕ
mark_name number = codes "#pace_" ++ decimal number

-- where a signal of a kernel is declared, or where its operator stands
abbrev pub place_in : Option Signal → Span
place_in None = record { line = 0; col = 0 }
place_in (Some found) = found.at

abbrev pub place_of : Kernel → ℕ → Span
place_of kernel signal = place_in (slice_get kernel.signals signal)

-- the paces of some signals, the first of which is the pace of this number
abbrev pub paces_from : Kernel → ℕ → List ℕ → List Signal
paces_from kernel number [] = []
paces_from kernel number (m ∷ least) =
    record { name = pace_name number; kind = Boolean; cluster = 0; at = place_of kernel m } ∷ paces_from kernel (suc number) least

-- the events at which a pace is true
abbrev pub marks_from : Kernel → ℕ → List ℕ → List Signal
marks_from kernel number [] = []
marks_from kernel number (m ∷ least) =
    record { name = mark_name number; kind = EventKind; cluster = 0; at = place_of kernel m } ∷ marks_from kernel (suc number) least

-- the first pace comes with each other one; the paces have the numbers behind the old inputs
abbrev pub together_from : Kernel → ℕ → List ℕ → List Equation
together_from kernel number [] = []
together_from kernel number (m ∷ least) =
    record { form = Sync (record { 0 = kernel.inputs }) (record { 0 = number }); at = place_of kernel m } ∷ together_from kernel (suc number) least

-- each clock is present where its pace is true: its mark is true then, and comes with the clock's least signal
abbrev pub marked_from : Kernel → (ℕ → ℕ) → ℕ → ℕ → List ℕ → List Equation
marked_from kernel place pace mark [] = []
marked_from kernel place pace mark (m ∷ least) =
    record { form = WhenConst (record { 0 = mark }) (pos 1) (record { 0 = pace }); at = place_of kernel m }
    ∷ record { form = Sync (record { 0 = place m }) (record { 0 = mark }); at = place_of kernel m }
    ∷ marked_from kernel place (suc pace) (suc mark) least

-- all paces but the first
abbrev pub others_together : Kernel → List ℕ → List Equation
others_together kernel [] = []
others_together kernel (m ∷ least) = together_from kernel (suc kernel.inputs) least

-- the kernel with paces for clocks of these least signals
abbrev pub paced_kernel : Kernel → List ℕ → Kernel
paced_kernel kernel least = record {
  signals = take kernel.inputs kernel.signals ++ (paces_from kernel 1 least
      ++ (drop kernel.inputs kernel.signals ++ marks_from kernel 1 least));
  equations = map (renumbered_equation (moved kernel.inputs (length least))) kernel.equations
      ++ (others_together kernel least
      ++ marked_from kernel (moved kernel.inputs (length least)) kernel.inputs (length kernel.signals + length least) least);
  inputs = kernel.inputs + length least;
  outputs = kernel.outputs;
  declared = kernel.declared + length least;
}

-- a kernel needs no paces: it has a root, or no reaction but the silent one
abbrev pub NeedsNoPaces : Kernel → Type 0
NeedsNoPaces kernel = HasRoot kernel ⊎ IsDead kernel

-- some reaction is possible beside the silent one, there is no root, and these are the least signals of the maximal clocks
pub record NeedsPaces (kernel : Kernel) (least : List ℕ) : Type 0 where
  pub alive : IsAlive kernel
  pub none : HasNoRoot kernel
  pub clocks : AreMaximalClocks kernel least

-- a declared signal has the name of a pace
pub record IsTaken (kernel : Kernel) (least : List ℕ) (signal : ℕ) : Type 0 where
  pub declared : suc signal ≤ kernel.declared
  pub found : Signal
  pub is : slice_get kernel.signals signal ≡ Some found
  pub number : ℕ
  pub counted : (1 ≤ number) × (number ≤ length least)
  pub named : found.name ≡ pace_name number

-- a kernel that needs paces gets them
pub record GetsPaces (kernel paced : Kernel) (least : List ℕ) : Type 0 where
  pub needs : NeedsPaces kernel least
  pub free : (signal : ℕ) → IsTaken kernel least signal → ⊥
  pub few : length kernel.signals + (length least + length least) ≤ SIGNALS
  pub is : paced ≡ paced_kernel kernel least

-- what pacing makes of a kernel
abbrev pub IsPaced : Kernel → Kernel → Type 0
IsPaced kernel paced = (NeedsNoPaces kernel × (paced ≡ kernel)) ⊎ ((least : List ℕ) × GetsPaces kernel paced least)
