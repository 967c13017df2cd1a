use Rattle.sig_back.proofs.{refl, subst, [], operations, refuses, TooManyLinks as AreTooManyLinks, operations_in}
use Rattle.sig_part.specs.Answers.{IsRefusal}
use Rattle.sig_plan.specs.Acceptance.{TooManyLinks}
use Rattle.sig_back.proofs.passes.parts_of.Goals as goal

pub returns-in-Err-TooManyLinks-clause-refused : goal.returns-in-Err-TooManyLinks-clause-refused
returns-in-Err-TooManyLinks-clause-refused c =
    let ops = operations_in c.args.store.now.nodes c.args.ops.now in
    let many = subst (IsRefusal c.args.kernel.now c.args.clocks.now.conditions ops) c.in-Err-TooManyLinks.field-0-is c.in-Err-TooManyLinks.ensures.refused in
    refuses c.args.kernel.now TooManyLinks AreTooManyLinks [] _ (record {
      conditions = c.args.clocks.now.conditions;
      operations = ops;
      has = operations c.args.kernel.now c.args.store.now.nodes c.args.clocks.now c.args.ops.now c.requires.has_clocks c.requires.clocks c.requires.operations;
      acyclic = c.requires.no_cycle;
      many = many.1;
    }) refl c.told.ensures
