-- The line of a flow file that is refused tells of a fault of its bytes, and not of memory that was wanting.
use Rattle.sig_loaded.proofs.Common.{◌≡◌, ◌≢◌, ◌∙◌, ◌+◌, ℕ, Bool, true, false, List, [], ◌∷◌, Option, None, Some, Result, Ok, Err, ap, subst, sum_by, ⊤, nat_le, if◌then◌else◌, list_all, Kind, Signal, VALUES, IsFirstBadPlace, file_body, is_line_byte, is_name, kind_named, named_fault, text_fault, value_judge, word_fault, words_fault, run_said, Word, words_of, FlowAnswer, BadLine, NotAnInput, BadValue, OutOfRange, TooMany, OutOfMemory, Run, WordFault, Bad, Outside, Version, first_from_some, IsFlowLine, RefusesFlows}

-- a fault, if there is one, is none of memory
abbrev Tells : Option FlowAnswer → Type 0
Tells None = ⊤
Tells (Some (BadLine n)) = ⊤
Tells (Some (NotAnInput n)) = ⊤
Tells (Some (BadValue n col)) = ⊤
Tells (Some (OutOfRange n col)) = ⊤
Tells (Some (TooMany n)) = ⊤
Tells (Some OutOfMemory) = ⊥

told : (o : Option FlowAnswer) (fault : FlowAnswer) → Tells o → o ≡ Some fault → fault ≢ OutOfMemory
told o fault tells is memory = subst Tells (is ∙ ap Some memory) tells

few_or_many : (few : Bool) → Tells (if few then None else Some (TooMany VALUES))
few_or_many true = tt
few_or_many false = tt

word_tells : (number before col : ℕ) (said : Result Run WordFault) → Tells (word_fault number before col said)
word_tells number before col (Err Bad) = tt
word_tells number before col (Err Outside) = tt
word_tells number before col (Ok run) = few_or_many (nat_le (before + run.times) VALUES)

named_told : (version : Version) (number before : ℕ) (values : List Word) (kind : Option Kind) (fault : FlowAnswer) → named_fault version number before values kind ≡ Some fault → fault ≢ OutOfMemory
named_told version number before values None fault is = told (Some (NotAnInput number)) fault tt is
named_told version number before values (Some kind) fault is =
    let first = first_from_some (value_judge version kind number) before values fault is in
    let sum = before + sum_by (value_judge version kind number).size first.earlier in
    told (word_fault number sum first.here.col (run_said version kind first.here.text)) fault
    (word_tells number sum first.here.col (run_said version kind first.here.text)) first.wrong

-- a line is bad, or what is wrong with it is this
chosen : (good : Bool) (o : Option FlowAnswer) (number : ℕ) (fault : FlowAnswer) → (o ≡ Some fault → fault ≢ OutOfMemory) → (if good then o else Some (BadLine number)) ≡ Some fault → fault ≢ OutOfMemory
chosen true o number fault other is = other is
chosen false o number fault other is = told (Some (BadLine number)) fault tt is

words_told : (version : Version) (inputs : List Signal) (number before : ℕ) (words : List Word) (fault : FlowAnswer) → words_fault version inputs number before words ≡ Some fault → fault ≢ OutOfMemory
words_told version inputs number before [] fault is = told None fault tt is
words_told version inputs number before (name ∷ values) fault is =
    chosen (is_name name.text) (named_fault version number before values (kind_named inputs name.text)) number fault
    (named_told version number before values (kind_named inputs name.text) fault) is

text_told : (version : Version) (inputs : List Signal) (number before : ℕ) (text : List ℕ) (fault : FlowAnswer) → text_fault version inputs number before text ≡ Some fault → fault ≢ OutOfMemory
text_told version inputs number before text fault is =
    chosen (list_all is_line_byte text) (words_fault version inputs number before (words_of text)) number fault
    (words_told version inputs number before (words_of text) fault) is

place_told : (inputs : List Signal) (bytes : List ℕ) (fault : FlowAnswer) → IsFirstBadPlace inputs bytes fault → fault ≢ OutOfMemory
place_told inputs bytes fault first = text_told (file_body inputs bytes).version inputs first.here.number _ first.here.text fault first.wrong

pub flow_line : (name : List ℕ) (inputs : List Signal) (bytes line : List ℕ) → RefusesFlows name inputs bytes line → IsFlowLine name line
flow_line name inputs bytes line refuses = (refuses.answer, place_told inputs bytes refuses.answer refuses.none, refuses.says)
