use Rattle.sig_tree.specs.Syntax.{program_of}
use Rattle.sig_rows_text.proofs.calls.write_typed.Goals as goal

-- the program that is given back is the tree of the text
pub inline-requires : goal.inline-requires
inline-requires c =
    rw c.in-Ok.ensures.same (c.trees_of_texts.ensures.tree c.args.text.now (program_of c.in_ok-program.program) c.in_ok-program.ensures)
