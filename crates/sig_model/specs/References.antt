-- The extended reference: what a kernel does over flows that never end, its integers being all whole numbers. Of an accepted
-- kernel there is one such trace of each length, and the longest trace within 64 bits begins it.
use Rattle.std.specs.Prelude.{◌≡◌, ◌++◌}
use Rattle.sig_model.specs.Prelude.{ℕ, ℤ, pos, List, length, map, replicate, zip, Trace, Unbounded, Fits, NoneSilent, Kind, Integer, Boolean, Signal, IsTraceIn, inputs_of, Kernel}
use Rattle.sig_base.specs.declared.ids.Kind.TheVariants.{Event}

-- the value that follows the end of a flow for ever
abbrev pub filler : Kind → ℤ
filler Integer = pos 0
filler Boolean = pos 0
filler Event = pos 1

-- the flow of an input, followed by so many values
abbrev pub extended_by : ℕ → Signal × List ℤ → List ℤ
extended_by count (input, flow) = flow ++ replicate count (filler input.kind)

-- the flows of a kernel, each followed by so many values
abbrev pub extended : Kernel → ℕ → List (List ℤ) → List (List ℤ)
extended kernel count flows = map (extended_by count) (zip (inputs_of kernel) flows)

-- The extended reference of so many instants. An instant takes at most one value of an input, so that many more values of
-- each flow are enough.
pub record IsReference (kernel : Kernel) (flows : List (List ℤ)) (count : ℕ) (trace : Trace) : Type 0 where
  pub is : IsTraceIn Unbounded kernel trace
  pub speaks : NoneSilent trace
  pub instants : length trace ≡ count
  pub fits : Fits (extended kernel count flows) trace
