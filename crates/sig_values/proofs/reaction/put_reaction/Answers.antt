use Rattle.sig_values.proofs.{◌<◌, ◌+◌, ◌∙◌, List, Some, length, refl, ap, subst, sym, OnErr, OnOk, TookPrefix, Seen, Signal, outputs_of, reaction_in, seen_lines}
use Rattle.sig_values.proofs.OutputLines.{interface_fits, output_in_reaction, output_is_signal}
use Rattle.sig_values.proofs.reaction.put_reaction.Goals as goal

pub returns-clause-all : goal.returns-clause-all
returns-clause-all g c registers tells =
    let kernel = c.args.plan.now.kernel in
    let fits = interface_fits c.args.plan.now c.kernel_of.ensures.accepted kernel refl in
    subst (λ (outputs : List Signal). OnOk c.put_instant.result (g.S.Sink.took c.args.sink.now (seen_lines outputs (reaction_in kernel registers)) c.put_instant.new.sink)) c.outputs_of.ensures
    (c.put_instant.ensures.all (reaction_in kernel registers) (λ place seen below post.
    let within : place < length (outputs_of kernel) = subst (λ (outputs : List Signal). place < length outputs) c.outputs_of.ensures below in
    output_in_reaction kernel fits place within registers
    ∙ ap (λ (s : Seen). Some s) (sym (tells (kernel.inputs + place) seen (output_is_signal kernel fits place within) (rw c.kernel_of.ensures.kernel at post)))))

pub returns-clause-prefix : goal.returns-clause-prefix
returns-clause-prefix g c registers tells =
    let kernel = c.args.plan.now.kernel in
    let fits = interface_fits c.args.plan.now c.kernel_of.ensures.accepted kernel refl in
    subst (λ (outputs : List Signal). OnErr c.put_instant.result (TookPrefix g.S.Sink.took c.args.sink.now (seen_lines outputs (reaction_in kernel registers)) c.put_instant.new.sink)) c.outputs_of.ensures
    (c.put_instant.ensures.prefix (reaction_in kernel registers) (λ place seen below post.
    let within : place < length (outputs_of kernel) = subst (λ (outputs : List Signal). place < length outputs) c.outputs_of.ensures below in
    output_in_reaction kernel fits place within registers
    ∙ ap (λ (s : Seen). Some s) (sym (tells (kernel.inputs + place) seen (output_is_signal kernel fits place within) (rw c.kernel_of.ensures.kernel at post)))))
