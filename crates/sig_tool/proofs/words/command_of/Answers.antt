use Rattle.sig_tool.proofs.{◌≡◌, ◌⊎◌, List, Result, Ok, Err, IfErr, IfOk, inl, inr, refl, sym, MatchResult, IsCommand, Word, texts, WordsAnswer, Refused, Command, AreNoCommand, OfCommand}
use Rattle.sig_words.specs.declared.answer.WordsAnswer.TheVariants.{OutOfMemory}
use Rattle.sig_tool.proofs.words.command_of.Goals as goal

-- a result is the command that the words are, unless memory runs out
abbrev Gives : List Word → Result Command WordsAnswer → Type 0
Gives words result = (c : Command) → IsCommand words c → MatchResult result (λ given. given ≡ c) (λ answer. answer ≡ OutOfMemory)

only_one : (words : List Word) (result : Result Command WordsAnswer) → Gives words result → IfOk result (λ command. OfCommand words (λ c. c ≡ command))
only_one words (Ok command) given = λ c is. sym (given c is)
only_one words (Err answer) given = tt

-- where the words are a command, only memory was wanting
none_or_memory : (words : List Word) (answer : WordsAnswer) → ((c : Command) → IsCommand words c → answer ≡ OutOfMemory) → (answer ≡ OutOfMemory) ⊎ AreNoCommand words
none_or_memory words OutOfMemory given = inl refl
none_or_memory words Refused given = inr (λ c is. let same : Refused ≡ OutOfMemory = given c is in cc)

refused_or : (words : List Word) (result : Result Command WordsAnswer) → Gives words result → IfErr result (λ answer. (answer ≡ OutOfMemory) ⊎ AreNoCommand words)
refused_or words (Ok command) given = tt
refused_or words (Err answer) given = none_or_memory words answer given

pub returns-clause-only : goal.returns-clause-only
returns-clause-only c = only_one (texts c.args.words.now) c.read_words.result c.read_words.ensures.given

pub returns-clause-refused : goal.returns-clause-refused
returns-clause-refused c = refused_or (texts c.args.words.now) c.read_words.result c.read_words.ensures.given
