-- What sigc promises, on one page: the sentence that it is for, and what its top call `sig_main` promises of every command.
--
--     If the compiler accepts a process, for all input flows and limits of instants its fitting traces, silent instants
--     removed, are the prefixes of one trace; every interleaving of its clusters, over links of any capacity from one,
--     writes a prefix of that trace's text and has an enabled event until finished; every finished run, threaded or not,
--     wrote exactly that text and names the first cause of its end.
--
-- The first part of the page is this sentence, as the law `accepted_programs_keep_the_headline` (src/headline.rt) proves it.
-- The second part is what `sig_main` (src/top.rt) promises: for each of its clauses a definition, and above it the sentence
-- that it is. A clause that is one short fact is told in brackets, and stands in src/top.rt alone. docs/meaning.md tells the
-- first part, but for paces, with an example, and docs/top-call.md how the definitions under the second part hang together.
use Rattle.std.specs.Prelude.{◌≡◌, ◌⊎◌, ◌≤◌, ◌++◌}
use Rattle.sig_tool.specs.Prelude.{ℕ, ℤ, List, length, map, take, AreFlowsFor, GetsPaces, HasOwnKernel, IsProgramTrace, restricted, without_paces, Option, None, IfSome, Bool, DidNotRise, IsPrefixOf, Trace, Fits, reduce, IsKernelTrace, output_text, Kernel, Place, Ended, IsKernelEnd, IsPlanOf, PlanView, Given, Core, Event, after, cause_of, reactions_text, run_of, IsEnabled, IsFinished, Contents, Word, TookPrefix, HasRun, HasPlay, HasBuilt, HasExecuted, HasLongImage, IsCut, IsDone, IsDue, IsEnded, IsRefused, IsRefusedBy, MayAnswer, Performs, CanLoad, loading}
use Rattle.sig_tool.specs.Complete.{CanBeDone}
use Rattle.sig_tool.specs.TopCall.{ComesTo, NeedsBeyondBound, HasBegun, IfLoad, IsAbout, IsStatusOf, OfBuild, OfCommand, OfExec, OfOutcome, OfPlay, OfRun}

-- ==== the sentence ==================================================================================================

-- "If the compiler accepts a process": `IsAcceptedProgram` of sig_program, over the bytes of the program. The text has a
-- tree by the grammar, is well formed, nothing in it is too large, and its kernel is accepted: it has a root, each of its
-- clocks is determined, no condition is forced, no operation waits for itself. `check` and all commands that compile answer
-- by this definition (clauses `whole` and `refused`), want of memory and of the nodes of diagrams aside.
--
-- "its traces": those of the process that the text is (`IsProgramTrace` of sig_front, `IsProcessTrace` of sig_tree), over its
-- declared and copied signals alone. "all input flows": every list with one flow for each input, its values of the input's
-- kind (`AreFlowsFor`). "limits of instants": every number. "silent": an instant at which no signal is present.

-- "its fitting traces": the values of each input, in order, begin its flow, and no more instants than the limit are not silent
pub record IsFitting (bytes : List ℕ) (flows : List (List ℤ)) (limit : ℕ) (trace : Trace) : Type 0 where
  pub is : IsProgramTrace bytes trace
  pub fits : Fits flows trace
  pub within : length (reduce trace) ≤ limit

-- "its fitting traces, silent instants removed, are the prefixes of one trace"
pub record AreItsPrefixes (bytes : List ℕ) (flows : List (List ℤ)) (limit : ℕ) (trace : Trace) : Type 0 where
  pub traces : (other : Trace) → IsFitting bytes flows limit other → IsPrefixOf (reduce other) trace
  pub prefixes : (front : Trace) → IsPrefixOf front trace → IsFitting bytes flows limit front × (reduce front ≡ front)

-- "every interleaving of its clusters, over links of any capacity from one": any list of events, each an actor that does its
-- next step or looks whether it has to end, one after another, from the opening of any plan of the kernel. An event that
-- cannot happen changes nothing. The state behind them has the actors, what the links hold, and what is written.
abbrev pub OfEachInterleaving : Kernel → List (List ℤ) → ℕ → (Given → Core → Type 0) → Type 0
OfEachInterleaving kernel flows limit Fact = (plan : PlanView) → IsPlanOf kernel plan → (capacity : ℕ) → 1 ≤ capacity → (events : List Event)
    → Fact (run_of plan flows capacity limit) (after (run_of plan flows capacity limit) events)

-- What is promised of such a state, where this is the trace's text.
pub record KeepsToTheText (kernel : Kernel) (text : List ℕ) (place : Option Place) (end : Ended) (given : Given) (state : Core) : Type 0 where
  -- "writes a prefix of that trace's text"
  pub prefix : IsPrefixOf (reactions_text kernel state.committed) text
  -- "and has an enabled event until finished": one that changes the state, while not all actors have ended
  pub enabled : (IsFinished state → ⊥) → (event : Event) × IsEnabled given state event
  -- a finished one "wrote exactly that text"
  pub whole : IsFinished state → reactions_text kernel state.committed ≡ text
  -- "and names the first cause of its end": its failure word is the place of that cause, and names it
  pub word : IsFinished state → state.word ≡ place
  pub cause : IsFinished state → cause_of given.plan given.flows state state.word ≡ end.cause

-- The kernel has a plan, so there are interleavings, and each of them keeps to the text.
pub record KeepInterleavings (kernel : Kernel) (flows : List (List ℤ)) (limit : ℕ) (text : List ℕ) (place : Option Place) (end : Ended) : Type 0 where
  pub plan : PlanView
  pub planned : IsPlanOf kernel plan
  pub each : OfEachInterleaving kernel flows limit (KeepsToTheText kernel text place end)

-- The sentence, of an accepted program with its kernel, flows and a limit of instants.
pub record KeepsHeadline (bytes : List ℕ) (kernel : Kernel) (flows : List (List ℤ)) (limit : ℕ) : Type 0 where
  -- "one trace", of the process
  pub trace : Trace
  pub one : AreItsPrefixes bytes flows limit trace
  -- it is what is left of the kernel's longest trace without the signals that the compiler made for operators
  pub whole : Trace
  pub restricts : restricted kernel.declared whole ≡ trace
  -- "the first cause of its end": the limit, or the first operation in the compiled order that cannot be done in any instant
  -- by which the trace could go on. The trace, the cause and its place are the only ones (clause `one` of the law).
  pub place : Option Place
  pub end : Ended
  pub ends : IsKernelEnd kernel flows limit whole place end
  -- "that trace's text"
  pub written : output_text kernel whole ≡ output_text kernel trace
  pub interleavings : KeepInterleavings kernel flows limit (output_text kernel trace) place end

-- With the flag `--pace` a program without a root gets a boolean input for each maximal clock, its pace, behind its own inputs:
-- an accepted one has a kernel with paces for the clocks of these least signals (`GetsPaces` of sig_pace). A pace says when
-- its clock comes, so flows of the inputs and of the paces leave one trace of the process.

-- what of a trace of the kernel with paces is the process's
abbrev pub at_paces : Kernel → List ℕ → Trace → Trace
at_paces own least wide = restricted own.declared (map (without_paces own least) wide)

-- "its fitting traces", at these paces: what is left of a trace of the kernel with paces that fits all flows, with no more
-- instants than the limit that are not silent
pub record IsFittingAtPaces (own kernel : Kernel) (least : List ℕ) (flows : List (List ℤ)) (limit : ℕ) (trace : Trace) : Type 0 where
  pub wide : Trace
  pub is : IsKernelTrace kernel wide
  pub fits : Fits flows wide
  pub within : length (reduce wide) ≤ limit
  pub left : at_paces own least wide ≡ trace

-- they are fitting traces of the process for the flows of its own inputs and, "silent instants removed, are the prefixes of one trace"
pub record ArePrefixesAtPaces (bytes : List ℕ) (own kernel : Kernel) (least : List ℕ) (flows : List (List ℤ)) (limit : ℕ) (trace : Trace) : Type 0 where
  pub own_traces : (other : Trace) → IsFittingAtPaces own kernel least flows limit other → IsFitting bytes (take own.inputs flows) limit other
  pub traces : (other : Trace) → IsFittingAtPaces own kernel least flows limit other → IsPrefixOf (reduce other) trace
  pub prefixes : (front : Trace) → IsPrefixOf front trace → (other : Trace) × IsFittingAtPaces own kernel least flows limit other × (reduce other ≡ front)

pub record KeepsHeadlineAtPaces (bytes : List ℕ) (own kernel : Kernel) (least : List ℕ) (flows : List (List ℤ)) (limit : ℕ) : Type 0 where
  pub trace : Trace
  pub one : ArePrefixesAtPaces bytes own kernel least flows limit trace
  pub whole : Trace
  pub left : reduce (at_paces own least whole) ≡ trace
  pub place : Option Place
  pub end : Ended
  pub ends : IsKernelEnd kernel flows limit whole place end
  -- the same of the kernel with paces: its instants are those that the limit and the `end:` line count, those at which every
  -- pace is false too (that the fitting traces begin this one is in `ends`)
  pub begins : (front : Trace) → IsPrefixOf front whole → IsKernelTrace kernel front × Fits flows front × (reduce front ≡ front)
  pub written : output_text kernel whole ≡ output_text own trace
  pub interleavings : KeepInterleavings kernel flows limit (output_text own trace) place end

-- With the flag: no paces are needed, and the sentence holds as it stands; or it holds at the paces.
abbrev pub KeepsHeadlineWithFlag : List ℕ → Kernel → List (List ℤ) → ℕ → Type 0
KeepsHeadlineWithFlag bytes kernel flows limit = (HasOwnKernel bytes kernel × KeepsHeadline bytes kernel flows limit)
    ⊎ ((own : Kernel) × (least : List ℕ) × HasOwnKernel bytes own × GetsPaces own kernel least × KeepsHeadlineAtPaces bytes own kernel least flows limit)

-- Each fitting trace of the process, silent instants removed, is one at some paces.
abbrev pub HasFlowsOfPaces : List ℕ → Kernel → Kernel → List ℕ → Type 0
HasFlowsOfPaces bytes own kernel least = (flows : List (List ℤ)) → AreFlowsFor own flows → (limit : ℕ) (trace : Trace) → IsFitting bytes flows limit trace
    → (paces : List (List ℤ)) × AreFlowsFor kernel (flows ++ paces) × IsFittingAtPaces own kernel least (flows ++ paces) limit (reduce trace)

-- "every finished run, threaded or not": the commands `run`, with any number of workers, and `play`. What they promise are
-- the clauses `run` and `play` below, over the same `IsKernelEnd`; so that trace, text and cause are these, by `ends` and `written`. With workers,
-- what the threads did is a finished state of one of the interleavings above (`settled_actors_are_finished` of sig_settling_laws,
-- `gather` of sig_work).

-- ==== what the top call promises ====================================================================================

-- What the words of a command line ask for is a command (`IsCommand` of sig_words), and over told contents of its files a
-- command comes to one outcome at most (`ComesTo`): the text that is due, the status, the line on standard error. In what
-- follows `contents` are the contents of the files, where they are told, `at` is the file that was begun last, `out` the
-- output, and `'` marks what is so after the call. A line that is said is said where the count of faults of standard error
-- did not rise (`SaysLine`).

-- ---- the text

-- Clause `prefix`: whatever the status, what was appended to the output is a prefix of the text that is due.
abbrev pub WritesPrefix : {S : Type 0} → List Word → Option Contents → (S → List ℕ → S → Type 0) → (out out' : S) → Type 0
WritesPrefix words contents took out out' = OfCommand words (λ c. OfOutcome contents c (λ o. TookPrefix took out o.text out'))

-- Clause `whole`: with status 0, 3 or 9 the command comes to an outcome of this status, wrote the whole text that is due, and
-- said its line and no more: the `end:` line of a run, also of an image, the broken equation of a trace, and else nothing.
-- (Clause `flushed`: and it flushed the output.)
abbrev pub WritesWhole : {S : Type 0} → List Word → Option Contents → (at at' : Option (List ℕ)) → (S → List ℕ → S → Type 0) → (out out' : S) → (Said : List ℕ → Type 0) → (status : ℕ) → Type 0
WritesWhole words contents at at' took out out' Said status = IsDone status → OfCommand words (λ c. IfSome contents (λ held.
    IsDue (ComesTo held c) held at at' status (λ text line. took out text out' × Said line)))

-- Clause `run`: a run with status 0 or 3 wrote the text of the one trace of the accepted program that its file holds, for the
-- flows that the flow file says and the limit of instants, and said the first cause of its end with the number of the
-- trace's instants (with paces, of the trace with them); the status is 3 exactly where that cause is an equation. The number of workers is no part of it.
abbrev pub WritesTheTrace : {S : Type 0} → List Word → Option Contents → (S → List ℕ → S → Type 0) → (out out' : S) → (Said : List ℕ → Type 0) → (status : ℕ) → Type 0
WritesTheTrace words contents took out out' Said status = IsEnded status → OfRun words (λ program flows settings. IfSome contents (λ held.
    HasRun held program flows settings status (λ text. took out text out') Said))

-- Clause `play`: a play with status 0 or 3 wrote what the events of its file commit, the state that they leave, and what was
-- missing there of the text of the one trace; and it said the same cause.
abbrev pub WritesThePlay : {S : Type 0} → List Word → Option Contents → (S → List ℕ → S → Type 0) → (out out' : S) → (Said : List ℕ → Type 0) → (status : ℕ) → Type 0
WritesThePlay words contents took out out' Said status = IsEnded status → OfPlay words (λ program flows events settings. IfSome contents (λ held.
    HasPlay held program flows events settings status (λ text. took out text out') Said))

-- Clause `build`: a build with status 0 wrote the bytes of the image of the accepted program that its file holds, no more than
-- 67,108,864. All plans of a kernel have one image (`images_of_kernels_are_one` of sig_image_command); by
-- `images_run_as_their_kernels` of sig_image_command it is sound, and its run over flows that fit has the text of the one trace, and
-- `exec` over it comes to the outcome of `run` over the program (`built_images_come_to_what_their_programs_do`).
abbrev pub WritesTheImage : {S : Type 0} → List Word → Option Contents → (S → List ℕ → S → Type 0) → (out out' : S) → (status : ℕ) → Type 0
WritesTheImage words contents took out out' status = status ≡ 0 → OfBuild words (λ program. IfSome contents (λ held.
    HasBuilt held program (λ text. took out text out')))

-- Clause `exec`: a run of an image with status 0 or 3 wrote the text of the run (`IsImageRun` of sig_file) of the sound image
-- that its file holds, for the flows that the flow file says and the limit of instants, and said its cause with the number of
-- committed instants; the status is 3 exactly where that is an overflow or a division by zero.
abbrev pub WritesTheImageRun : {S : Type 0} → List Word → Option Contents → (S → List ℕ → S → Type 0) → (out out' : S) → (Said : List ℕ → Type 0) → (status : ℕ) → Type 0
WritesTheImageRun words contents took out out' Said status = IsEnded status → OfExec words (λ image flows settings. IfSome contents (λ held.
    HasExecuted held image flows settings status (λ text. took out text out') Said))

-- Clause `cut`: where a write failed, what was appended is a prefix of the text of the outcome, which was to be done.
-- (Clauses `failed` and `fault_line`: that is status 6, it comes only where the count of faults of the output rose, and its
-- line is said.)
abbrev pub WasCut : {S : Type 0} → List Word → Option Contents → (S → List ℕ → S → Type 0) → (out out' : S) → (status : ℕ) → Type 0
WasCut words contents took out out' status = status ≡ 6 → OfCommand words (λ c. IfSome contents (λ held. IsCut (ComesTo held c) took out out'))

-- ---- the status

-- Clause `numbers_of`: the status is one of the command's own. (Clause `numbers`: and no status but 0 to 10 is answered,
-- whatever the words. Clauses `no_command`, `words_line` and `none_begun`: of words that are no command it is 2, and their
-- line is said, or 7 where memory was wanting to read them; and no file was touched.)
abbrev pub HasOwnStatus : List Word → (status : ℕ) → Type 0
HasOwnStatus words status = OfCommand words (λ c. IsStatusOf c status)

-- Clause `status`: the status is the outcome's; or 5 where a call of the files failed, 6 where a write failed of a command
-- that was to be done, 7, or 8.
abbrev pub AnswersTheOutcome : List Word → Option Contents → (ReadFailed WriteFailed : Type 0) → (status : ℕ) → Type 0
AnswersTheOutcome words contents ReadFailed WriteFailed status = OfCommand words (λ c. OfOutcome contents c (λ o. MayAnswer o.status status ReadFailed WriteFailed))

-- a command is done, or memory or the nodes of diagrams were wanting
abbrev pub IsDoneUnlessWanting : (status : ℕ) → Type 0
IsDoneUnlessWanting status = IsDone status ⊎ ((status ≡ 7) ⊎ (status ≡ 8))

-- Clause `complete`: where the program is accepted, its links do not hold too many items, and the flows and the events have a
-- reading (or, of `print`, the text has a tree; of `build`, the image is not too long; of `exec`, the image is sound and the
-- flows have a reading), and no call failed, the command is done, or the status is 7 or 8.
abbrev pub IsComplete : List Word → Option Contents → (faults faults' wrote wrote' : ℕ) → (status : ℕ) → Type 0
IsComplete words contents faults faults' wrote wrote' status = DidNotRise faults faults' → DidNotRise wrote wrote' → OfCommand words (λ c. IfSome contents (λ held.
    CanBeDone held c → IsDoneUnlessWanting status))

-- Clause `budget`: 8 comes only of a program that the passes up to its kernel do not refuse, and whose kernel is within none
-- of the bounds for which the nodes of diagrams suffice; or, with the flag `--pace`, not within the bound for its pacing; or, of
-- `exec`, of an image that is not within the bound for verifying it (`IsBeyondBound` of sig_verify).
abbrev pub ExceedsBounds : List Word → Option Contents → (status : ℕ) → Type 0
ExceedsBounds words contents status = status ≡ 8 → OfCommand words (λ c. IfSome contents (λ held. NeedsBeyondBound held c))

-- ---- refusals

-- Clause `refused`: with status 1, 2, 4, 5, 7, 8 or 10 there is one refusal, and its line is said. It is about a file of the
-- command, the counts of misses and faults show its cause, and where the contents alone decide it is the command's outcome:
-- so of 1 the line is that of the first rule that the program does not meet, and of 4 that of the first offending place.
-- (Clause `untouched`: and the output is as it was. Clauses `items_line`, `memory_line` and `image_line`: the lines of 2, of 7
-- and of 10.)
abbrev pub SaysItsRefusal : List Word → Option Contents → (at at' : Option (List ℕ)) → (misses misses' faults faults' : ℕ) → (Said : List ℕ → Type 0) → (status : ℕ) → Type 0
SaysItsRefusal words contents at at' misses misses' faults faults' Said status = IsRefused status → OfCommand words (λ c.
    IsRefusedBy (λ held. ComesTo held c) (IsAbout c) contents at at' misses misses' faults faults' status Said)

-- Clause `too_long`: 10 comes only of a build of an accepted program whose image has more than 67,108,864 bytes. (It is no status
-- of another command, and by clause `status` the one of such a build, unless 5, 7 or 8 comes.)
abbrev pub HasTooLongImage : List Word → Option Contents → (status : ℕ) → Type 0
HasTooLongImage words contents status = status ≡ 10 → OfBuild words (λ program. IfSome contents (λ held. HasLongImage held program))

-- ---- the files

-- Clause `begun`: the file that was begun last, where it is there, is one of the command's; or none was begun, since memory
-- was wanting to read the words. (Clause `no_files`: a command that names no file leaves the files as they were.)
abbrev pub BeginsItsFiles : {F : Type 0} → List Word → Option Contents → (at' : Option (List ℕ)) → (files files' : F) → (status : ℕ) → Type 0
BeginsItsFiles words contents at' files files' status = OfCommand words (λ c.
    IfSome contents (λ held. HasBegun held c at') ⊎ ((status ≡ 7) × (files' ≡ files)))

-- Clauses `load` and `load_complete`: a load asks for no file, so all that is said here of a command holds of it whatever
-- contents files would tell, and where they tell nothing.
abbrev pub LoadsWithoutFiles : {S : Type 0} → List Word → (S → List ℕ → S → Type 0) → (out out' : S) → (wrote wrote' : ℕ) → (clean : Bool) → (Said : List ℕ → Type 0) → (status : ℕ) → Type 0
LoadsWithoutFiles words took out out' wrote wrote' clean Said status = OfCommand words (λ c. IfLoad c (λ seed stages settings. (contents : Option Contents) →
    Performs (loading seed stages settings) contents None None 0 0 0 0 took out out' wrote wrote' clean Said status))

abbrev pub IsLoadComplete : List Word → (wrote wrote' : ℕ) → (status : ℕ) → Type 0
IsLoadComplete words wrote wrote' status = DidNotRise wrote wrote' → OfCommand words (λ c. IfLoad c (λ seed stages settings.
    CanLoad seed stages settings → IsDoneUnlessWanting status))
