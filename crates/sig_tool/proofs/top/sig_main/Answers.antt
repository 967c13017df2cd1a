use Rattle.sig_tool.proofs.{◌≡◌, ◌⊎◌, [], arith, Option, None, inl, inr, refl, subst, sym, ◌∙◌, IfSome, Rose, Contents, TookPrefix, files_of, texts, IsCut, IsDone, IsDue, IsOwn, IsRefusedBy, MayAnswer, Owes, Performs, SaysLine, ComesTo, NeedsBeyondBound, HasBegun, IfLoad, IsAbout, IsStatusOf, OfOutcome, Command, Build, Exec, Play, Run, told, told_both, CanLoad, loading, has_built, has_executed, has_long_image, has_play, has_run, CanBeDone, complete, load_complete, load_unread_complete, load_unread, no_command, of_one, refused_unread, is_status}
use Rattle.sig_tool.proofs.top.sig_main.Goals as goal

-- ---- the words are a command, and each clause is a part of what is promised of it

pub returns-in-Ok-clause-numbers : goal.returns-in-Ok-clause-numbers
returns-in-Ok-clause-numbers g c = is_status c.in-Ok.command c.perform.result c.perform.ensures.performs.numbers

pub returns-in-Ok-clause-numbers_of : goal.returns-in-Ok-clause-numbers_of
returns-in-Ok-clause-numbers_of g c =
    of_one (texts c.args.words.now) c.in-Ok.command (λ command. IsStatusOf command c.perform.result) c.in-Ok.ensures.only c.perform.ensures.performs.numbers

pub returns-in-Ok-clause-prefix : goal.returns-in-Ok-clause-prefix
returns-in-Ok-clause-prefix g c =
    of_one (texts c.args.words.now) c.in-Ok.command
    (λ command. OfOutcome (g.F.Files.contents c.args.files.now) command (λ o. TookPrefix g.S.Sink.took c.args.out.now o.text c.perform.new.out))
    c.in-Ok.ensures.only c.perform.ensures.performs.prefix

pub returns-in-Ok-clause-whole : goal.returns-in-Ok-clause-whole
returns-in-Ok-clause-whole g c = λ ends.
    of_one (texts c.args.words.now) c.in-Ok.command
    (λ command. IfSome (g.F.Files.contents c.args.files.now) (λ held. IsDue (ComesTo held command) held (g.F.Files.at c.args.files.now) (g.F.Files.at c.perform.new.files) c.perform.result
    (λ text line. g.S.Sink.took c.args.out.now text c.perform.new.out
    × SaysLine g.E.Sink.took (g.E.Sink.faults c.args.err.now) (g.E.Sink.faults c.perform.new.err) c.args.err.now c.perform.new.err line)))
    c.in-Ok.ensures.only (c.perform.ensures.performs.whole ends)

pub returns-in-Ok-clause-run : goal.returns-in-Ok-clause-run
returns-in-Ok-clause-run g c = λ ends program flows settings is.
    told_both (g.F.Files.contents c.args.files.now) _ _ _
    (λ held due same. has_run held program flows settings (g.F.Files.at c.args.files.now) (g.F.Files.at c.perform.new.files) c.perform.result
    (λ text. g.S.Sink.took c.args.out.now text c.perform.new.out)
    (SaysLine g.E.Sink.took (g.E.Sink.faults c.args.err.now) (g.E.Sink.faults c.perform.new.err) c.args.err.now c.perform.new.err)
    (subst (λ (d : Command). IsDue (ComesTo held d) held (g.F.Files.at c.args.files.now) (g.F.Files.at c.perform.new.files) c.perform.result
    (λ text line. g.S.Sink.took c.args.out.now text c.perform.new.out
    × SaysLine g.E.Sink.took (g.E.Sink.faults c.args.err.now) (g.E.Sink.faults c.perform.new.err) c.args.err.now c.perform.new.err line))
    (sym (c.in-Ok.ensures.only (Run program flows settings) is)) due) ends)
    (c.perform.ensures.performs.whole (inl ends)) (c.perform.ensures.performs.whole (inl ends))

pub returns-in-Ok-clause-play : goal.returns-in-Ok-clause-play
returns-in-Ok-clause-play g c = λ ends program flows events settings is.
    told_both (g.F.Files.contents c.args.files.now) _ _ _
    (λ held due same. has_play held program flows events settings (g.F.Files.at c.args.files.now) (g.F.Files.at c.perform.new.files) c.perform.result
    (λ text. g.S.Sink.took c.args.out.now text c.perform.new.out)
    (SaysLine g.E.Sink.took (g.E.Sink.faults c.args.err.now) (g.E.Sink.faults c.perform.new.err) c.args.err.now c.perform.new.err)
    (subst (λ (d : Command). IsDue (ComesTo held d) held (g.F.Files.at c.args.files.now) (g.F.Files.at c.perform.new.files) c.perform.result
    (λ text line. g.S.Sink.took c.args.out.now text c.perform.new.out
    × SaysLine g.E.Sink.took (g.E.Sink.faults c.args.err.now) (g.E.Sink.faults c.perform.new.err) c.args.err.now c.perform.new.err line))
    (sym (c.in-Ok.ensures.only (Play program flows events settings) is)) due) ends)
    (c.perform.ensures.performs.whole (inl ends)) (c.perform.ensures.performs.whole (inl ends))

pub returns-in-Ok-clause-build : goal.returns-in-Ok-clause-build
returns-in-Ok-clause-build g c = λ zero program is.
    told_both (g.F.Files.contents c.args.files.now) _ _ _
    (λ held due same. has_built held program (g.F.Files.at c.args.files.now) (g.F.Files.at c.perform.new.files) c.perform.result
    (λ text. g.S.Sink.took c.args.out.now text c.perform.new.out)
    (SaysLine g.E.Sink.took (g.E.Sink.faults c.args.err.now) (g.E.Sink.faults c.perform.new.err) c.args.err.now c.perform.new.err)
    (subst (λ (d : Command). IsDue (ComesTo held d) held (g.F.Files.at c.args.files.now) (g.F.Files.at c.perform.new.files) c.perform.result
    (λ text line. g.S.Sink.took c.args.out.now text c.perform.new.out
    × SaysLine g.E.Sink.took (g.E.Sink.faults c.args.err.now) (g.E.Sink.faults c.perform.new.err) c.args.err.now c.perform.new.err line))
    (sym (c.in-Ok.ensures.only (Build program) is)) due) zero)
    (c.perform.ensures.performs.whole (inl (inl zero))) (c.perform.ensures.performs.whole (inl (inl zero)))

pub returns-in-Ok-clause-exec : goal.returns-in-Ok-clause-exec
returns-in-Ok-clause-exec g c = λ ends image flows settings is.
    told_both (g.F.Files.contents c.args.files.now) _ _ _
    (λ held due same. has_executed held image flows settings (g.F.Files.at c.args.files.now) (g.F.Files.at c.perform.new.files) c.perform.result
    (λ text. g.S.Sink.took c.args.out.now text c.perform.new.out)
    (SaysLine g.E.Sink.took (g.E.Sink.faults c.args.err.now) (g.E.Sink.faults c.perform.new.err) c.args.err.now c.perform.new.err)
    (subst (λ (d : Command). IsDue (ComesTo held d) held (g.F.Files.at c.args.files.now) (g.F.Files.at c.perform.new.files) c.perform.result
    (λ text line. g.S.Sink.took c.args.out.now text c.perform.new.out
    × SaysLine g.E.Sink.took (g.E.Sink.faults c.args.err.now) (g.E.Sink.faults c.perform.new.err) c.args.err.now c.perform.new.err line))
    (sym (c.in-Ok.ensures.only (Exec image flows settings) is)) due) ends)
    (c.perform.ensures.performs.whole (inl ends)) (c.perform.ensures.performs.whole (inl ends))

pub returns-in-Ok-clause-too_long : goal.returns-in-Ok-clause-too_long
returns-in-Ok-clause-too_long g c = λ ten program is.
    let by = c.perform.ensures.performs.refused (inr (inr (inr (inr (inr (inr ten)))))) in
    has_long_image (g.F.Files.contents c.args.files.now) program by.refusal (sym by.numbered ∙ ten) (g.F.Files.faults c.args.files.now) (g.F.Files.faults c.perform.new.files)
    (g.F.Files.at c.args.files.now) (g.F.Files.at c.perform.new.files)
    (subst (λ (d : Command). IsOwn by.refusal (g.F.Files.faults c.args.files.now) (g.F.Files.faults c.perform.new.files) → IfSome (g.F.Files.contents c.args.files.now) (λ held.
    Owes (ComesTo held d) held (g.F.Files.at c.args.files.now) (g.F.Files.at c.perform.new.files) by.refusal))
    (sym (c.in-Ok.ensures.only (Build program) is)) by.owed)

pub returns-in-Ok-clause-image_line : goal.returns-in-Ok-clause-image_line
returns-in-Ok-clause-image_line g c = λ ten d is. c.perform.ensures.performs.image_line ten

pub returns-in-Ok-clause-status : goal.returns-in-Ok-clause-status
returns-in-Ok-clause-status g c =
    of_one (texts c.args.words.now) c.in-Ok.command
    (λ command. OfOutcome (g.F.Files.contents c.args.files.now) command (λ o. MayAnswer o.status c.perform.result
    (Rose (g.F.Files.faults c.args.files.now) (g.F.Files.faults c.perform.new.files))
    (Rose (g.S.Sink.faults c.args.out.now) (g.S.Sink.faults c.perform.new.out))))
    c.in-Ok.ensures.only c.perform.ensures.performs.owed

pub returns-in-Ok-clause-complete : goal.returns-in-Ok-clause-complete
returns-in-Ok-clause-complete g c = λ read written.
    of_one (texts c.args.words.now) c.in-Ok.command
    (λ command. IfSome (g.F.Files.contents c.args.files.now) (λ held. CanBeDone held command → IsDone c.perform.result ⊎ ((c.perform.result ≡ 7) ⊎ (c.perform.result ≡ 8))))
    c.in-Ok.ensures.only
    (complete c.in-Ok.command (g.F.Files.contents c.args.files.now) (g.F.Files.at c.args.files.now) (g.F.Files.at c.perform.new.files)
    (g.F.Files.misses c.args.files.now) (g.F.Files.misses c.perform.new.files) (g.F.Files.faults c.args.files.now) (g.F.Files.faults c.perform.new.files) c.perform.result
    g.S.Sink.took c.args.out.now c.perform.new.out (g.S.Sink.faults c.args.out.now) (g.S.Sink.faults c.perform.new.out) (g.S.Sink.clean c.perform.new.out)
    (SaysLine g.E.Sink.took (g.E.Sink.faults c.args.err.now) (g.E.Sink.faults c.perform.new.err) c.args.err.now c.perform.new.err)
    (is_status c.in-Ok.command c.perform.result c.perform.ensures.performs.numbers) c.perform.ensures.performs read written)

pub returns-in-Ok-clause-budget : goal.returns-in-Ok-clause-budget
returns-in-Ok-clause-budget g c = λ eight.
    of_one (texts c.args.words.now) c.in-Ok.command
    (λ command. IfSome (g.F.Files.contents c.args.files.now) (λ held. NeedsBeyondBound held command))
    c.in-Ok.ensures.only (c.perform.ensures.performs.budget eight)

pub returns-in-Ok-clause-cut : goal.returns-in-Ok-clause-cut
returns-in-Ok-clause-cut g c = λ six.
    of_one (texts c.args.words.now) c.in-Ok.command
    (λ command. IfSome (g.F.Files.contents c.args.files.now) (λ held. IsCut (ComesTo held command) g.S.Sink.took c.args.out.now c.perform.new.out))
    c.in-Ok.ensures.only (c.perform.ensures.performs.cut six)

pub returns-in-Ok-clause-refused : goal.returns-in-Ok-clause-refused
returns-in-Ok-clause-refused g c = λ refuses.
    of_one (texts c.args.words.now) c.in-Ok.command
    (λ command. IsRefusedBy (λ held. ComesTo held command) (IsAbout command) (g.F.Files.contents c.args.files.now) (g.F.Files.at c.args.files.now) (g.F.Files.at c.perform.new.files)
    (g.F.Files.misses c.args.files.now) (g.F.Files.misses c.perform.new.files) (g.F.Files.faults c.args.files.now) (g.F.Files.faults c.perform.new.files) c.perform.result
    (SaysLine g.E.Sink.took (g.E.Sink.faults c.args.err.now) (g.E.Sink.faults c.perform.new.err) c.args.err.now c.perform.new.err))
    c.in-Ok.ensures.only (c.perform.ensures.performs.refused refuses)

pub returns-in-Ok-clause-begun : goal.returns-in-Ok-clause-begun
returns-in-Ok-clause-begun g c = λ d is.
    inl (of_one (texts c.args.words.now) c.in-Ok.command
    (λ command. IfSome (g.F.Files.contents c.args.files.now) (λ held. HasBegun held command (g.F.Files.at c.perform.new.files)))
    c.in-Ok.ensures.only c.perform.ensures.performs.begun d is)

pub returns-in-Ok-clause-words_line : goal.returns-in-Ok-clause-words_line
returns-in-Ok-clause-words_line g c = λ none two. absurd (none c.in-Ok.command c.in-Ok.ensures.command)

pub returns-in-Ok-clause-items_line : goal.returns-in-Ok-clause-items_line
returns-in-Ok-clause-items_line g c = λ two d is. c.perform.ensures.performs.items_line two

pub returns-in-Ok-clause-load : goal.returns-in-Ok-clause-load
returns-in-Ok-clause-load g c =
    of_one (texts c.args.words.now) c.in-Ok.command
    (λ command. IfLoad command (λ seed stages settings. (contents : Option Contents) → Performs (loading seed stages settings) contents None None 0 0 0 0
    g.S.Sink.took c.args.out.now c.perform.new.out (g.S.Sink.faults c.args.out.now) (g.S.Sink.faults c.perform.new.out) (g.S.Sink.clean c.perform.new.out)
    (SaysLine g.E.Sink.took (g.E.Sink.faults c.args.err.now) (g.E.Sink.faults c.perform.new.err) c.args.err.now c.perform.new.err) c.perform.result))
    c.in-Ok.ensures.only c.perform.ensures.load

pub returns-in-Ok-clause-load_complete : goal.returns-in-Ok-clause-load_complete
returns-in-Ok-clause-load_complete g c = λ written.
    of_one (texts c.args.words.now) c.in-Ok.command
    (λ command. IfLoad command (λ seed stages settings. CanLoad seed stages settings → IsDone c.perform.result ⊎ ((c.perform.result ≡ 7) ⊎ (c.perform.result ≡ 8))))
    c.in-Ok.ensures.only
    (load_complete c.in-Ok.command c.perform.result g.S.Sink.took c.args.out.now c.perform.new.out (g.S.Sink.faults c.args.out.now) (g.S.Sink.faults c.perform.new.out) (g.S.Sink.clean c.perform.new.out)
    (SaysLine g.E.Sink.took (g.E.Sink.faults c.args.err.now) (g.E.Sink.faults c.perform.new.err) c.args.err.now c.perform.new.err)
    c.perform.ensures.load written)

-- ---- memory was wanting to read the words

pub returns-in-Err-OutOfMemory-clause-load : goal.returns-in-Err-OutOfMemory-clause-load
returns-in-Err-OutOfMemory-clause-load g c = λ d is.
    load_unread d g.S.Sink.took c.args.out.now (g.S.Sink.faults c.args.out.now) (g.S.Sink.clean c.args.out.now) _ (g.met.S.Sink.took_nothing c.args.out.now) c.say_no_memory.ensures

pub returns-in-Err-OutOfMemory-clause-load_complete : goal.returns-in-Err-OutOfMemory-clause-load_complete
returns-in-Err-OutOfMemory-clause-load_complete g c = λ written d is. load_unread_complete d 7 refl

pub returns-in-Err-OutOfMemory-clause-complete : goal.returns-in-Err-OutOfMemory-clause-complete
returns-in-Err-OutOfMemory-clause-complete g c = λ read written d is. told (g.F.Files.contents c.args.files.now) _ (λ held can. inr (inl refl))

pub returns-in-Err-OutOfMemory-clause-refused : goal.returns-in-Err-OutOfMemory-clause-refused
returns-in-Err-OutOfMemory-clause-refused g c = λ refuses d is.
    refused_unread _ d _ _ _ _ _ _ _ c.say_no_memory.ensures

pub returns-in-Ok-clause-no_files : goal.returns-in-Ok-clause-no_files
returns-in-Ok-clause-no_files g c =
    of_one (texts c.args.words.now) c.in-Ok.command (λ command. files_of command ≡ [] → c.perform.new.files ≡ c.args.files.now) c.in-Ok.ensures.only c.perform.ensures.no_files

-- ---- the words are no command, so nothing is promised of one

pub returns-in-Err-Refused-clause-numbers_of : goal.returns-in-Err-Refused-clause-numbers_of
returns-in-Err-Refused-clause-numbers_of g c = λ d is. absurd (no_command (texts c.args.words.now) c.in-Err-Refused.field-0 c.in-Err-Refused.field-0-is c.in-Err-Refused.ensures.refused d is)

pub returns-in-Err-Refused-clause-prefix : goal.returns-in-Err-Refused-clause-prefix
returns-in-Err-Refused-clause-prefix g c = λ d is. absurd (no_command (texts c.args.words.now) c.in-Err-Refused.field-0 c.in-Err-Refused.field-0-is c.in-Err-Refused.ensures.refused d is)

pub returns-in-Err-Refused-clause-whole : goal.returns-in-Err-Refused-clause-whole
returns-in-Err-Refused-clause-whole g c = λ ends d is. absurd (no_command (texts c.args.words.now) c.in-Err-Refused.field-0 c.in-Err-Refused.field-0-is c.in-Err-Refused.ensures.refused d is)

pub returns-in-Err-Refused-clause-run : goal.returns-in-Err-Refused-clause-run
returns-in-Err-Refused-clause-run g c = λ ends program flows settings is. absurd (no_command (texts c.args.words.now) c.in-Err-Refused.field-0 c.in-Err-Refused.field-0-is c.in-Err-Refused.ensures.refused (Run program flows settings) is)

pub returns-in-Err-Refused-clause-play : goal.returns-in-Err-Refused-clause-play
returns-in-Err-Refused-clause-play g c = λ ends program flows events settings is. absurd (no_command (texts c.args.words.now) c.in-Err-Refused.field-0 c.in-Err-Refused.field-0-is c.in-Err-Refused.ensures.refused (Play program flows events settings) is)

pub returns-in-Err-Refused-clause-status : goal.returns-in-Err-Refused-clause-status
returns-in-Err-Refused-clause-status g c = λ d is. absurd (no_command (texts c.args.words.now) c.in-Err-Refused.field-0 c.in-Err-Refused.field-0-is c.in-Err-Refused.ensures.refused d is)

pub returns-in-Err-Refused-clause-complete : goal.returns-in-Err-Refused-clause-complete
returns-in-Err-Refused-clause-complete g c = λ read written d is. absurd (no_command (texts c.args.words.now) c.in-Err-Refused.field-0 c.in-Err-Refused.field-0-is c.in-Err-Refused.ensures.refused d is)

pub returns-in-Err-Refused-clause-budget : goal.returns-in-Err-Refused-clause-budget
returns-in-Err-Refused-clause-budget g c = λ eight d is. absurd (no_command (texts c.args.words.now) c.in-Err-Refused.field-0 c.in-Err-Refused.field-0-is c.in-Err-Refused.ensures.refused d is)

pub returns-in-Err-Refused-clause-cut : goal.returns-in-Err-Refused-clause-cut
returns-in-Err-Refused-clause-cut g c = λ six d is. absurd (no_command (texts c.args.words.now) c.in-Err-Refused.field-0 c.in-Err-Refused.field-0-is c.in-Err-Refused.ensures.refused d is)

pub returns-in-Err-Refused-clause-refused : goal.returns-in-Err-Refused-clause-refused
returns-in-Err-Refused-clause-refused g c = λ refuses d is. absurd (no_command (texts c.args.words.now) c.in-Err-Refused.field-0 c.in-Err-Refused.field-0-is c.in-Err-Refused.ensures.refused d is)

pub returns-in-Err-Refused-clause-items_line : goal.returns-in-Err-Refused-clause-items_line
returns-in-Err-Refused-clause-items_line g c = λ two d is. absurd (no_command (texts c.args.words.now) c.in-Err-Refused.field-0 c.in-Err-Refused.field-0-is c.in-Err-Refused.ensures.refused d is)

pub returns-in-Err-Refused-clause-begun : goal.returns-in-Err-Refused-clause-begun
returns-in-Err-Refused-clause-begun g c = λ d is. absurd (no_command (texts c.args.words.now) c.in-Err-Refused.field-0 c.in-Err-Refused.field-0-is c.in-Err-Refused.ensures.refused d is)

pub returns-in-Err-Refused-clause-no_files : goal.returns-in-Err-Refused-clause-no_files
returns-in-Err-Refused-clause-no_files g c = λ d is. absurd (no_command (texts c.args.words.now) c.in-Err-Refused.field-0 c.in-Err-Refused.field-0-is c.in-Err-Refused.ensures.refused d is)

pub returns-in-Err-Refused-clause-load : goal.returns-in-Err-Refused-clause-load
returns-in-Err-Refused-clause-load g c = λ d is. absurd (no_command (texts c.args.words.now) c.in-Err-Refused.field-0 c.in-Err-Refused.field-0-is c.in-Err-Refused.ensures.refused d is)

pub returns-in-Err-Refused-clause-load_complete : goal.returns-in-Err-Refused-clause-load_complete
returns-in-Err-Refused-clause-load_complete g c = λ written d is. absurd (no_command (texts c.args.words.now) c.in-Err-Refused.field-0 c.in-Err-Refused.field-0-is c.in-Err-Refused.ensures.refused d is)

-- ---- no image is built or run where the words are not read

pub returns-in-Err-Refused-clause-build : goal.returns-in-Err-Refused-clause-build
returns-in-Err-Refused-clause-build g c = λ status program is. absurd (omega (arith, status))

pub returns-in-Err-Refused-clause-too_long : goal.returns-in-Err-Refused-clause-too_long
returns-in-Err-Refused-clause-too_long g c = λ status program is. absurd (omega (arith, status))

pub returns-in-Err-Refused-clause-image_line : goal.returns-in-Err-Refused-clause-image_line
returns-in-Err-Refused-clause-image_line g c = λ status d is. absurd (omega (arith, status))

pub returns-in-Err-Refused-clause-exec : goal.returns-in-Err-Refused-clause-exec
returns-in-Err-Refused-clause-exec g c = λ ends image flows settings is. elim ends [ inl zero ↦ absurd (omega (arith, zero)) | inr three ↦ absurd (omega (arith, three)) ]

pub returns-in-Err-OutOfMemory-clause-build : goal.returns-in-Err-OutOfMemory-clause-build
returns-in-Err-OutOfMemory-clause-build g c = λ status program is. absurd (omega (arith, status))

pub returns-in-Err-OutOfMemory-clause-too_long : goal.returns-in-Err-OutOfMemory-clause-too_long
returns-in-Err-OutOfMemory-clause-too_long g c = λ status program is. absurd (omega (arith, status))

pub returns-in-Err-OutOfMemory-clause-image_line : goal.returns-in-Err-OutOfMemory-clause-image_line
returns-in-Err-OutOfMemory-clause-image_line g c = λ status d is. absurd (omega (arith, status))

pub returns-in-Err-OutOfMemory-clause-exec : goal.returns-in-Err-OutOfMemory-clause-exec
returns-in-Err-OutOfMemory-clause-exec g c = λ ends image flows settings is. elim ends [ inl zero ↦ absurd (omega (arith, zero)) | inr three ↦ absurd (omega (arith, three)) ]
