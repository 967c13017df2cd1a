-- Names that are used for signals, among all uses.
use Rattle.sig_type.proofs.Common.{List, sym, Name, ProcessModel, Declaration, signals_used, OfSignal, Use, Candidate, unknown_use, First, Finds, unknown_signals, unknown_uses, [], ◌∷◌, ◌++◌, each_map}
use Rattle.sig_type.proofs.Sequences.{finds_as, finds_both}

pub finds_signals : {a b : First} (all : List ProcessModel) (scope : List Declaration) (names : List Name) → Finds a b (unknown_signals scope names) → Finds a b (unknown_uses all scope (signals_used names))
finds_signals all scope names h = finds_as (sym (each_map (λ u. unknown_use all scope u ∷ []) OfSignal names)) h

-- what is asked for of a name
abbrev pub unknown_one : List Declaration → Name → List Candidate
unknown_one scope name = unknown_signals scope (name ∷ [])

abbrev pub unknown_at : List ProcessModel → List Declaration → Use → List Candidate
unknown_at all scope u = unknown_use all scope u ∷ []

pub unknown_both : {a b c : First} (scope : List Declaration) (xs ys : List Name) → Finds a b (unknown_signals scope xs) → Finds b c (unknown_signals scope ys) → Finds a c (unknown_signals scope (xs ++ ys))
unknown_both scope xs ys h k = finds_both (unknown_one scope) xs ys h k

pub uses_both : {a b c : First} (all : List ProcessModel) (scope : List Declaration) (xs ys : List Use) → Finds a b (unknown_uses all scope xs) → Finds b c (unknown_uses all scope ys) → Finds a c (unknown_uses all scope (xs ++ ys))
uses_both all scope xs ys h k = finds_both (unknown_at all scope) xs ys h k
