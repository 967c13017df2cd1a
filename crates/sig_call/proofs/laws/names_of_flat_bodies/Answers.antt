use Rattle.sig_call.proofs.{names_differ, all_spelled}
use Rattle.sig_call.proofs.laws.names_of_flat_bodies.Goals as goal

pub returns : goal.returns
returns c = record {
  differ = λ text program flat is well expands few.
      let words = c.each_token.ensures.words text is.0 is.1 in
      names_differ program flat (c.trees_of_texts.ensures.tree text program is) well (all_spelled text is.0 words.0 program words.1 words.2 is.2) expands few;
}
