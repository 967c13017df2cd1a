-- What the definitions and the clauses of this crate cite of std and of the crates below, passed on from one place.
pub use Rattle.std.specs.Prelude.{IfOk, List, None, OnOk, Option, Result, Some, [], codes, decimal, drop, flat_map, if◌then◌else◌, map, nat_lt, negsuc, pos, suc, ℕ, ℤ, ◌++◌, ◌<◌, ◌^◌, ◌∷◌, ◌≡◌}
pub use Rattle.sig_lex.specs.Lexemes.{IsPrintable, Spaced, lexemes, printed_text, spaced_text, the_end, word_of}
pub use Rattle.sig_tree.specs.Grammar.{HasTree, IsText}
pub use Rattle.sig_tree.specs.Leaves.{leaves_of}
pub use Rattle.sig_tree.specs.Levels.{and_level, binary_level, clock_level, default_level, delay_level, left_level, level_of, minus_level, mixed_level, not_level, operand_level, or_level, primary_level, product_level, relation_level, right_level, sum_level, unary_level}
pub use Rattle.sig_tree.specs.Prelude.{AllByRecursion, AreTokens, Boolean, Event, Integer, Kind, Label, Mark, Name, Number, Token, TokenKind, Word}
pub use Rattle.sig_tree.specs.Syntax.{Binary, Bodies, Called, Cell, Computed, Declared, Defines, Delay, Equal, Equations, Expression, Heading, Modelled, Named, Placement, ProcessModel, ProcessModels, RightSide, Together, Truth, Unary, declared_of, equations_of, expression_of, model_of, more_bodies, more_models, no_body, no_model, placement_of, program_of, right_side_of}
pub use Rattle.sig_tree.specs.Unplaced.{unplaced, unplaced_leaves}
pub use Rattle.sig_tree.specs.declared.expr.BinOp.{BinOp}
pub use Rattle.sig_tree.specs.declared.expr.BinOp.TheVariants.{Add, And, Default, Div, Eq, Ge, Gt, Le, Less, Lt, Meet, Mod, Mul, Ne, Or, Plus, Sub, When, Xor}
pub use Rattle.sig_tree.specs.declared.expr.Constant.{Constant}
pub use Rattle.sig_tree.specs.declared.expr.Constant.TheVariants.{Bool, Int, Param}
pub use Rattle.sig_tree.specs.declared.expr.Name.{Name as TreeName}
pub use Rattle.sig_tree.specs.declared.expr.UnOp.{UnOp}
pub use Rattle.sig_tree.specs.declared.expr.UnOp.TheVariants.{Clock, Neg, Not, When as UnaryWhen}
pub use Rattle.sig_tree.specs.declared.process.Item.{Item}
