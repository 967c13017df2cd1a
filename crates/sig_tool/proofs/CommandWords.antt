-- Facts of the command that words are.
use Rattle.sig_tool.proofs.Common.{NoMemory, ◌≡◌, ◌⊎◌, ◌∙◌, ℕ, List, [], Bool, Option, None, inl, inr, refl, sym, subst, Contents, Word, Command, Build, Exec, Judge, Load, Play, Run, IsRefusedBy, Performs, memory_line, WordsAnswer, Refused, AreNoCommand, OutOfMemory, performs_refusal, loading, one_load_outcome, ComesTo, IfLoad, IsAbout, OfCommand}
use Rattle.sig_load_command.proofs.Stopped.{load_number, stops_memory}

-- what holds of the one command that the words are holds of each
pub of_one : (words : List Word) (command : Command) (Fact : Command → Type 0) → OfCommand words (λ c. c ≡ command) → Fact command → OfCommand words Fact
of_one words command Fact only fact = λ c is. subst Fact (sym (only c is)) fact

-- words that are refused are no command
pub no_command : (words : List Word) (answer : WordsAnswer) → answer ≡ Refused → ((answer ≡ NoMemory) ⊎ AreNoCommand words) → AreNoCommand words
no_command words answer refused (inl none) = λ c is. let same : Refused ≡ NoMemory = sym refused ∙ none in cc
no_command words answer refused (inr none) = none

-- a command for whose words there was no memory was refused for that
about_none : (c : Command) → IsAbout c OutOfMemory
about_none (Run program flows settings) = inl tt
about_none (Play program flows events settings) = inl (inl tt)
about_none (Judge program traces) = inl tt
about_none (Build program) = inl tt
about_none (Exec image flows settings) = inl tt
about_none other = tt

pub refused_unread : (contents : Option Contents) (c : Command) (before at : Option (List ℕ)) (misses misses' faults faults' : ℕ) (Said : List ℕ → Type 0) → Said memory_line → IsRefusedBy (λ held. ComesTo held c) (IsAbout c) contents before at misses misses' faults faults' 7 Said
refused_unread contents c before at misses misses' faults faults' Said line = record {
  refusal = OutOfMemory;
  numbered = refl;
  line = line;
  about = about_none c;
  count = tt;
  owed = λ own. absurd own;
}

-- and so was a load, which asks for no file
pub load_unread : (c : Command) → {S : Type 0} (took : S → List ℕ → S → Type 0) (out : S) (wrote : ℕ) (clean : Bool) (Said : List ℕ → Type 0) → took out [] out → Said memory_line
    → IfLoad c (λ seed stages settings. (contents : Option Contents) → Performs (loading seed stages settings) contents None None 0 0 0 0 took out out wrote wrote clean Said 7)
load_unread (Load seed stages settings) took out wrote clean Said nothing line = λ contents.
    performs_refusal (loading seed stages settings) contents None None 0 0 0 0 (λ held. one_load_outcome seed stages settings) took out wrote wrote clean Said 7 OutOfMemory nothing load_number
    (stops_memory seed stages settings.capacity settings contents None 0 0 refl) line refl
load_unread _ took out wrote clean Said nothing line = tt
