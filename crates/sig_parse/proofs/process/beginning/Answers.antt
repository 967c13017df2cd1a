use Rattle.sig_parse.proofs.{map, arith, declared_of, placement_of, covered, handed, process_title, process_params, process_interface, process_pragmas, process_body, no_more}
use Rattle.sig_parse.proofs.process.beginning.Goals as goal

pub returns-clause-reads : goal.returns-clause-reads
returns-clause-reads c = record {
  titled = _;
  title = covered c.in_ok-name.ensures.reads;
  given = _;
  params_are = covered c.in_ok-params.ensures.reads;
  params_settled = c.in_ok-params.ensures.settles;
  told = _;
  interface = covered c.in_ok-interface.ensures.reads;
  placed = _;
  pragmas_are = covered c.in_ok-run_on.ensures.reads;
  pragmas_settled = c.in_ok-run_on.ensures.settles;
  body_is = c.in_ok-body.ensures.reads;
  body_settled = c.in_ok-body.ensures.settles;
}

pub returns-clause-shorter : goal.returns-clause-shorter
returns-clause-shorter c = omega (arith, c.in_ok-name.ensures.shorter, no_more (covered c.in_ok-params.ensures.reads), no_more (covered c.in_ok-interface.ensures.reads), no_more (covered c.in_ok-run_on.ensures.reads), no_more c.in_ok-body.ensures.reads)

pub returns-in_err-name-clause-refuses : goal.returns-in_err-name-clause-refuses
returns-in_err-name-clause-refuses c = handed _ _ _ c.from_residual.ensures (λ text. process_title c.args.depth (c.in_err-name.ensures.refuses text))

pub returns-in_err-params-clause-refuses : goal.returns-in_err-params-clause-refuses
returns-in_err-params-clause-refuses c = handed _ _ _ c.from_residual-in_err-params.ensures (λ text. process_params c.args.depth c.in_ok-name.name (covered c.in_ok-name.ensures.reads) (c.in_err-params.ensures.refuses text))

pub returns-in_err-interface-clause-refuses : goal.returns-in_err-interface-clause-refuses
returns-in_err-interface-clause-refuses c = handed _ _ _ c.from_residual-in_err-interface.ensures (λ text. process_interface c.args.depth c.in_ok-name.name (covered c.in_ok-name.ensures.reads) (map declared_of c.in_ok-params.params.items) (covered c.in_ok-params.ensures.reads) c.in_ok-params.ensures.settles (c.in_err-interface.ensures.refuses text))

pub returns-in_err-run_on-clause-refuses : goal.returns-in_err-run_on-clause-refuses
returns-in_err-run_on-clause-refuses c = handed _ _ _ c.from_residual-in_err-run_on.ensures (λ text. process_pragmas c.args.depth c.in_ok-name.name (covered c.in_ok-name.ensures.reads) (map declared_of c.in_ok-params.params.items) (covered c.in_ok-params.ensures.reads) c.in_ok-params.ensures.settles (map declared_of c.in_ok-interface.interface.inputs.items) (map declared_of c.in_ok-interface.interface.outputs.items) (covered c.in_ok-interface.ensures.reads) (c.in_err-run_on.ensures.refuses text))

pub returns-in_err-body-clause-refuses : goal.returns-in_err-body-clause-refuses
returns-in_err-body-clause-refuses c = handed _ _ _ c.from_residual-in_err-body.ensures (λ text. process_body c.args.depth c.in_ok-name.name (covered c.in_ok-name.ensures.reads) (map declared_of c.in_ok-params.params.items) (covered c.in_ok-params.ensures.reads) c.in_ok-params.ensures.settles (map declared_of c.in_ok-interface.interface.inputs.items) (map declared_of c.in_ok-interface.interface.outputs.items) (covered c.in_ok-interface.ensures.reads) (map placement_of c.in_ok-run_on.run_on.items) (covered c.in_ok-run_on.ensures.reads) c.in_ok-run_on.ensures.settles (c.in_err-body.ensures.refuses text))
