use Rattle.sig_dd.proofs.{refl, Depends-of_one, Depends-of_two, choice_depends, depends_variable, variable_depends}
use Rattle.sig_dd.proofs.laws.functions_depend_on_their_parts.Goals as goal

pub returns : goal.returns
returns c = record {
  constant = λ b v (ts, ne). ne refl;
  variable = λ u v. (variable_depends u v, depends_variable u v);
  of_one = Depends-of_one;
  of_two = Depends-of_two;
  choice = choice_depends;
}
