-- What the definitions and the clauses of this crate cite of std and of the crates below, passed on from one place.
pub use Rattle.std.specs.Prelude.{Bool, IfErr, IfNone, IfOk, IfSome, IsTrue, List, MatchBool, MatchOption, OnErr, OnOk, Option, [], codes, decimal, if◌then◌else◌, length, map, option_map, slice_get, suc, sum_by, true, unwrap_or, ℕ, ◌++◌, ◌+◌, ◌-◌, ◌<◌, ◌==◌, ◌↔◌, ◌∷◌, ◌≡◌, ◌≢◌, ◌≤◌, ◌⊎◌}
pub use Rattle.sig_base.specs.Lines.{refusal, refusal_at}
pub use Rattle.sig_lex.specs.Lexemes.{Spells}
pub use Rattle.sig_lex.specs.Slices.{StandsIn}
pub use Rattle.sig_lex.specs.Tables.{IsMark, IsWord}
pub use Rattle.sig_tree.specs.Beginning.{BeginsName, BeginsProcess, StartsWith}
pub use Rattle.sig_tree.specs.Continuing.{ContinuesBody, ContinuesClockEquation, ContinuesDefinition, ContinuesDelay, ContinuesExpression, ContinuesInit, ContinuesList, ContinuesNothing, ContinuesOptional, IsInfix}
pub use Rattle.sig_tree.specs.Equations.{AreArguments, AreConstants, IsBody, IsClockEquation, IsDefinition, IsLeft, IsName, IsRight}
pub use Rattle.sig_tree.specs.Expressions.{IsAtLevel, IsConstant, IsExpression, IsInit, IsOptionalInit, IsOptionalOne}
pub use Rattle.sig_tree.specs.Grammar.{Begins, HasTree, IsProgram}
pub use Rattle.sig_tree.specs.Leaves.{leaf_of, leaves_of, terminal_of}
pub use Rattle.sig_tree.specs.Levels.{and_level, binary_level, clock_level, default_level, delay_level, left_level, minus_level, mixed_level, not_level, operand_level, or_level, primary_level, product_level, relation_level, right_level, sum_level, unary_level}
pub use Rattle.sig_tree.specs.Limits.{Limits, MayHave, MayStandInside, both_limits, nesting_limit, no_limits, operators, right_operators}
pub use Rattle.sig_tree.specs.Prelude.{AreTokens, Event, Kind, Last, NESTING, OPERATORS, Span, Token, text_of}
pub use Rattle.sig_tree.specs.Processes.{AreGroups, AreLocals, AreParams, ArePragmas, IsGroup, IsInterface, IsItem, IsLocalGroup, IsModel, IsParam, IsPlacement, IsPlainItem, IsWhere}
pub use Rattle.sig_tree.specs.Readings.{StopsBefore}
pub use Rattle.sig_tree.specs.Repeated.{Between, Each, Listed, Separated}
pub use Rattle.sig_tree.specs.Spines.{AreSoMany, IsAtom, IsOperand, IsStep, Step, WithCell, WithDelay, WithOperand}
pub use Rattle.sig_tree.specs.Syntax.{Binary, Cell, Declared, Equations, Expression, Placement, ProcessModel, ProcessModels, RightSide, declared_of, equations_of, expression_of, model_of, placement_of, program_of, right_side_of}
pub use Rattle.sig_tree.specs.Terminals.{Leaf, Terminal, binary_terminal, kind_word, label, leaf, mark, name, name_leaf, number, truth_word, unary_terminal, word}
pub use Rattle.sig_tree.specs.declared.expr.Constant.{Constant}
pub use Rattle.sig_tree.specs.declared.expr.Name.{Name}
pub use Rattle.sig_tree.specs.declared.expr.UnOp.{UnOp}
pub use Rattle.sig_tree.specs.declared.process.Item.{Item}
pub use Rattle.sig_tree.specs.declared.process.Process.{roll-Process}
