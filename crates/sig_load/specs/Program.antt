-- The generated program, of so many stages.
use Rattle.std.specs.Prelude.{◌==◌, ℕ, ◌-◌, ◌%◌, List, [], ◌++◌, decimal, codes, if◌then◌else◌}
use Rattle.sig_load.specs.inner.Pieces.{at_first, each, numbered}

-- the letters of the conditions and of the two signals of a stage
abbrev pub letter_b : ℕ
letter_b = 66

abbrev pub letter_x : ℕ
letter_x = 88

abbrev pub letter_y : ℕ
letter_y = 89

-- a signal of the stage before the stage i, where the input A stands for that of stage 0
abbrev pub before : ℕ → ℕ → List ℕ
before letter i = if i == 1 then codes "A" else numbered letter (i - 1)

-- a name in a list of names
abbrev pub listed : ℕ → ℕ → List ℕ
listed letter i = at_first i [] (codes ", ") ++ numbered letter i

-- the interface: an integer, as many conditions as stages, and the last stage's signal
abbrev pub interface : ℕ → List ℕ
interface stages = codes "process LOAD = (? integer A; boolean " ++ (each (listed letter_b) stages
    ++ (codes " ! integer " ++ (numbered letter_y stages ++ codes ")\n")))

-- the cluster of the signals of the stage i, which is the number of the stage modulo 4
abbrev pub cluster : ℕ → List ℕ
cluster i = codes "RunOn {" ++ (numbered letter_x i ++ (codes ", " ++ (numbered letter_y i
    ++ (codes "} \"" ++ (decimal (i % 4) ++ codes "\"\n")))))

abbrev pub clusters : ℕ → List ℕ
clusters stages = codes "pragmas\n" ++ (each cluster stages ++ codes "end pragmas\n")

-- the three equations of the stage i: its condition is present with the signal X before it, its X is
-- that signal and the stage's number where the condition is true, and its Y is X, or else the Y before
abbrev pub clock : ℕ → List ℕ
clock i = at_first i (codes "(| ") (codes " | ") ++ (numbered letter_b i ++ (codes " ^= " ++ (before letter_x i ++ codes "\n")))

abbrev pub sample : ℕ → List ℕ
sample i = codes " | " ++ (numbered letter_x i ++ (codes " := (" ++ (before letter_x i ++ (codes " + "
    ++ (decimal i ++ (codes ") when " ++ (numbered letter_b i ++ codes "\n")))))))

abbrev pub merge : ℕ → List ℕ
merge i = codes " | " ++ (numbered letter_y i ++ (codes " := " ++ (numbered letter_x i ++ (codes " default "
    ++ (before letter_y i ++ codes "\n")))))

abbrev pub stage : ℕ → List ℕ
stage i = clock i ++ (sample i ++ merge i)

-- the local signals: each X, and each Y but the last
abbrev pub further : ℕ → List ℕ
further i = codes ", " ++ numbered letter_y i

abbrev pub locals : ℕ → List ℕ
locals stages = codes " |)\nwhere integer " ++ (each (listed letter_x) stages ++ (each further (stages - 1) ++ codes "; end;\n"))

-- the text of the program
abbrev pub program : ℕ → List ℕ
program stages = interface stages ++ (clusters stages ++ (each stage stages ++ locals stages))
