use Rattle.std.proofs.Common.{◌≡◌, ◌∙◌, [], ℤ, Result, Ok, Err, sym, ap}
use Rattle.std.proofs.lemmas.Option.{same_Some}
use Rattle.sig_plan.specs.declared.ended.Cause.{Cause}
use Rattle.sig_cells.specs.Instructions.{answer_of}
use Rattle.sig_cells.specs.declared.instruction.Instruction.{Instruction}
use Rattle.sig_cells.proofs.code.GuardedCode.fault_at.Goals as goal

pub come_to-requires : goal.come_to-requires
come_to-requires c =
    let at = c.at.ensures in
    (c.requires.code.within c.args.place c.at.result at).reads

-- an answer is no value and a cause
no_both : (answer : Result ℤ Cause) (v : ℤ) (cause : Cause) → Ok v ≡ answer → Err cause ≡ answer → ⊥
no_both answer v cause value fails = let clash : Ok v ≡ Err cause = value ∙ sym fails in cc

pub returns-in-Ok-clause-fails : goal.returns-in-Ok-clause-fails
returns-in-Ok-clause-fails c = λ stamps.
    let (cause, fails) = c.requires.stops [] in
    let at = c.at.ensures in
    let same : c.at.result ≡ fails.0 = same_Some c.at.result fails.0 (sym at ∙ fails.1) in
    absurd (no_both (answer_of c.args.inputs.now c.args.cells.now c.args.taken.now fails.0.work) _ cause
    (c.in-Ok.ensures ∙ ap (λ (i : Instruction). answer_of c.args.inputs.now c.args.cells.now c.args.taken.now i.work) same) fails.2)

pub returns-in-Err-clause-fails : goal.returns-in-Err-clause-fails
returns-in-Err-clause-fails c = λ stamps.
    let (cause, fails) = c.requires.stops [] in
    let at = c.at.ensures in
    (c.at.result, at, c.in-Err.ensures)
