-- The summary of a generated run.
use Rattle.std.specs.Prelude.{◌%◌, ◌^◌, ◌∷◌}
use Rattle.sig_load_command.specs.Prelude.{decimal, ℕ, List, [], codes, flat_map, length, sum}

-- its pieces: the stages, the instants, and the number and the sum of the bytes of the run's text
abbrev pub summary_pieces : (stages instants bytes total : ℕ) → List (List ℕ)
summary_pieces stages instants bytes total =
    codes "stages " ∷ decimal stages ∷ codes "\ninstants " ∷ decimal instants ∷ codes "\nbytes " ∷ decimal bytes ∷ codes "\nsum " ∷ decimal total ∷ codes "\n" ∷ []

-- that of a run of so many instants with this text, whose bytes are counted and summed modulo 2 ^ 64
abbrev pub summary : (stages instants : ℕ) → List ℕ → List ℕ
summary stages instants text = flat_map (λ piece. piece) (summary_pieces stages instants (length text % 2 ^ 64) (sum text % 2 ^ 64))
