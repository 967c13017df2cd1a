use Rattle.sig_dd.proofs.{product_forgets, product_spanned}
use Rattle.sig_dd.proofs.laws.products_forget_their_variables.Goals as goal

pub returns : goal.returns
returns c = record {
  forgotten = product_forgets;
  spans = product_spanned;
}
