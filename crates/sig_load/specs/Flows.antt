-- The generated flows, from a seed on.
use Rattle.std.specs.Prelude.{ℕ, ◌+◌, ◌*◌, ◌%◌, List, ◌++◌, decimal, codes, if◌then◌else◌}
use Rattle.sig_load.specs.inner.Draws.{draw, is_odd}
use Rattle.sig_load.specs.inner.Pieces.{each, numbered}

-- the number of values of each input
abbrev pub flow_values : ℕ
flow_values = 20000

-- a value of the input A, and one of a condition, in a line, from a draw
abbrev pub integer_value : ℕ → List ℕ
integer_value drawn = codes " " ++ decimal (drawn % 1000)

abbrev pub truth_value : ℕ → List ℕ
truth_value drawn = if is_odd drawn then codes " true" else codes " false"

-- the flow of A, from the first draws
abbrev pub integers : ℕ → List ℕ
integers seed = codes "A" ++ (each (λ k. integer_value (draw seed k)) flow_values ++ codes "\n")

-- the flow of a condition of this number from the draws after a state
abbrev pub truths_from : ℕ → ℕ → List ℕ
truths_from state number = numbered 66 number ++ (each (λ k. truth_value (draw state k)) flow_values ++ codes "\n")

-- the flow of the i-th condition, from as many draws after those of A and of the conditions before it
abbrev pub truths : ℕ → ℕ → List ℕ
truths seed i = numbered 66 i ++ (each (λ k. truth_value (draw seed (i * flow_values + k))) flow_values ++ codes "\n")

-- the text of the flows
abbrev pub flows : ℕ → ℕ → List ℕ
flows seed stages = integers seed ++ each (truths seed) stages
