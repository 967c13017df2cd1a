-- The tops among some signals: those below no other one, each clock by its least signal.
use Rattle.std.specs.Prelude.{◌≡◌, ◌≤◌, ◌<◌, ◌⊎◌}
use Rattle.sig_pace.specs.Prelude.{ℕ, List, length, map, Contains, AllPairs, IsPossible, Kernel}
use Rattle.sig_pace.specs.inner.Leaders.{AreIncreasing}
use Rattle.sig_pace.specs.MaximalClocks.{AreMaximalClocks, IsBelow}
use Rattle.sig_pace.specs.declared.candidates.Candidate.{Candidate}

-- each of some signals is below one of these, which is no greater
pub record IsCover (kernel : Kernel) (signals found : List ℕ) : Type 0 where
  pub count : length found ≤ length signals
  pub among : (x : ℕ) → Contains found x → Contains signals x
  pub order : AreIncreasing found
  pub cover : (y : ℕ) → Contains signals y → (x : ℕ) × Contains found x × (x ≤ y) × IsBelow kernel y x

-- a signal is below one of some others
abbrev pub IsBelowOne : Kernel → ℕ → List ℕ → Type 0
IsBelowOne kernel signal others = (x : ℕ) × Contains others x × IsBelow kernel signal x

abbrev pub signals_of : List Candidate → List ℕ
signals_of candidates = map (λ candidate. candidate.signal) candidates

-- by the numbers of their signals
abbrev pub AreByNumber : List Candidate → Type 0
AreByNumber candidates = AllPairs (λ a b. a.signal < b.signal) candidates

abbrev pub IsBelowCandidate : Kernel → ℕ → List Candidate → Type 0
IsBelowCandidate kernel signal others = (m : Candidate) × Contains others m × IsBelow kernel signal m.signal

-- those of some candidates that are not below a signal
pub record AreNotBelow (kernel : Kernel) (signal : ℕ) (candidates others : List Candidate) : Type 0 where
  pub among : (m : Candidate) → Contains others m → Contains candidates m × (IsBelow kernel m.signal signal → ⊥)
  pub all : (m : Candidate) → Contains candidates m → Contains others m ⊎ IsBelow kernel m.signal signal
  pub order : AreByNumber candidates → AreByNumber others

-- the tops among the candidates that were seen
pub record AreTops (kernel : Kernel) (seen tops : List Candidate) : Type 0 where
  pub among : (m : Candidate) → Contains tops m → Contains seen m
  pub possible : (m : Candidate) → Contains tops m → IsPossible kernel m.signal
  pub top : (m y : Candidate) → Contains tops m → Contains seen y → IsBelow kernel m.signal y.signal
      → IsBelow kernel y.signal m.signal × (m.signal ≤ y.signal)
  pub cover : (y : Candidate) → Contains seen y → IsPossible kernel y.signal → IsBelowCandidate kernel y.signal tops
  pub order : AreByNumber tops

-- the tops among some signals and one more, where all of them have lesser numbers
abbrev pub AddsTop : Kernel → List Candidate → Candidate → List Candidate → Type 0
AddsTop kernel old candidate new = (seen : List Candidate) → ((y : Candidate) → Contains seen y → y.signal < candidate.signal)
    → AreTops kernel seen old → (whole : List Candidate) → ((y : Candidate) → Contains whole y → Contains seen y ⊎ (y ≡ candidate))
    → ((y : Candidate) → Contains seen y → Contains whole y) → Contains whole candidate → AreTops kernel whole new

-- the least signals of the maximal clocks, and each possible signal is below one of them
pub record AreMaxima (kernel : Kernel) (least : List ℕ) : Type 0 where
  pub clocks : AreMaximalClocks kernel least
  pub cover : (s : ℕ) → IsPossible kernel s → IsBelowOne kernel s least
