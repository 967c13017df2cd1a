use Rattle.sig_rel.proofs.{sym, ◌∙◌, given_allows, none_allows}
use Rattle.sig_rel.proofs.rules.is_never_given.Goals as goal

pub returns-in-Some : goal.returns-in-Some
returns-in-Some c =
    given_allows c.args._kernel.now.equations c.args._least.now c.args.class _ (sym (c.requires.firsts.each c.args.class c.requires.class) ∙ sym c.row.ensures ∙ c.in-Some.is)

pub returns-in-None : goal.returns-in-None
returns-in-None c =
    none_allows c.args._kernel.now.equations c.args._least.now c.args.class (sym (c.requires.firsts.each c.args.class c.requires.class) ∙ sym c.row.ensures ∙ c.in-None.is)
