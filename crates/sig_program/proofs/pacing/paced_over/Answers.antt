use Rattle.sig_program.proofs.{inl, refl, subst, arith, Kernel, IsNameTaken, IsPaceRefusal, no_pace_room, refused_many, own_once}
use Rattle.sig_program.proofs.pacing.paced_over.Goals as goal

pub pace-requires-clause-few : goal.pace-requires-clause-few
pace-requires-clause-few c =
    let small = c.kernels_of_texts.ensures.small c.args.bytes.now c.args.own c.requires.short c.requires.own.text in
    omega (arith, small)

pub name_taken-requires-clause-taken : goal.name_taken-requires-clause-taken
name_taken-requires-clause-taken c = λ own has.
    let taken : IsNameTaken c.args.own c.in-Err-NameTaken.x.0 = subst (IsPaceRefusal c.args.own) c.in-Err-NameTaken.field-0-is c.in-Err-NameTaken.ensures.refused in
    subst (λ (k : Kernel). IsNameTaken k c.in-Err-NameTaken.x.0) (own_once c.args.bytes.now c.args.own own c.requires.own has) taken

pub returns-in-Err-TooManySignals-clause-refused : goal.returns-in-Err-TooManySignals-clause-refused
returns-in-Err-TooManySignals-clause-refused c =
    refused_many c.args.bytes.now c.args.own c.in-Err-TooManySignals.field-0 c.in-Err-TooManySignals.limit c.refused_program.result c.requires.own c.in-Err-TooManySignals.field-0-is c.in-Err-TooManySignals.ensures.refused c.refused_program.ensures

pub returns-in-Err-Budget-clause-refused : goal.returns-in-Err-Budget-clause-refused
returns-in-Err-Budget-clause-refused c = record {
  number = refl;
  beyond = inl (
    c.args.own,
    c.requires.own,
    no_pace_room c.args.own c.args.store.now c.pace.new.store c.in-Err-Budget.field-0 _ c.in-Err-Budget.field-0-is c.requires.empty c.requires.made_for c.pace.ensures.kept c.in-Err-Budget.ensures.share.refused,
  );
}
