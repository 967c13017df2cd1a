-- What the proofs of this crate cite of std, of the crates below and of its own specs, passed on from one place.
pub use Rattle.std.proofs.Common.{Bool, Err, Global, IfErr, IfOk, IsErr, IsErrAnd, IsTrue, List, MatchBool, MatchOption, None, Ok, OnOk, Option, Result, Some, Vec, [], ap, append-nil, append_assoc, arith, below_more, codes, cond, decimal, drop, drop-cons, eqb, false, get_or, if◌then◌else◌, inl, inr, leb, leb-false, leb-true, length, length-append, length-drop, map, map-id, ne_eqb, neg_ℤ, option_map, option_to_list, pos, refl, rules, subst, suc, sum_by, sym, take, true, zero, ℕ, ◌*◌, ◌++◌, ◌+◌, ◌-◌, ◌<◌, ◌↔◌, ◌∙◌, ◌∷◌, ◌≡◌, ◌≢◌, ◌≤◌, ◌⊎◌}
pub use Rattle.std.proofs.lemmas.List.{length-map, map-append, take_more}
pub use Rattle.std.proofs.lemmas.List.Concat.{flat_map-append}
pub use Rattle.std.proofs.lemmas.List.Sums.{sum_by-cons, sum_by_push}
pub use Rattle.std.proofs.lemmas.Result.{IfOk-weaker}
pub use Rattle.std.proofs.lemmas.Bool.{cases_lt}
pub use Rattle.std.proofs.Math.Decide.{map_dec, dec_le}
pub use Rattle.sig_lists.proofs.Decided.{dec_both, dec_either, dec_number, dec_text}
pub use Rattle.sig_lists.proofs.Fronts.{no_more}
pub use Rattle.sig_base.specs.Lines.{refusal_at}
pub use Rattle.sig_lex.specs.Tables.{marks, words}
pub use Rattle.sig_tree.specs.Grammar.{Begins}
pub use Rattle.sig_tree.specs.Leaves.{leaf_of}
pub use Rattle.sig_tree.specs.Limits.{nesting_limit, operators, right_operators}
pub use Rattle.sig_tree.specs.Processes.{IsProcess}
pub use Rattle.sig_tree.specs.Spines.{IsOperand}
pub use Rattle.sig_tree.specs.Syntax.{Defines, Equal, bodies_of, declared_of, equations_of, expression_of, heading_of, model_of, models_of, placement_of, right_side_of}
pub use Rattle.sig_tree.specs.Unplaced.{no_place}
pub use Rattle.sig_tree.specs.declared.expr.BinOp.{BinOp}
pub use Rattle.sig_tree.specs.declared.expr.BinOp.TheVariants.{Add, And as OpAnd, Default, Div, Eq, Ge, Gt, Le, Less as OpLess, Lt, Meet, Mod, Mul, Ne, Or as OpOr, Plus as OpPlus, Sub, When as OpWhen, Xor as OpXor}
pub use Rattle.sig_tree.specs.declared.expr.Constant.{Constant}
pub use Rattle.sig_tree.specs.declared.expr.Constant.TheVariants.{Bool as BoolConstant, Int, Param}
pub use Rattle.sig_tree.specs.declared.expr.Expr.{Expr}
pub use Rattle.sig_tree.specs.declared.expr.Name.{Name}
pub use Rattle.sig_tree.specs.declared.expr.UnOp.{UnOp}
pub use Rattle.sig_tree.specs.declared.expr.UnOp.TheVariants.{Clock, Neg, Not, When}
pub use Rattle.sig_tree.specs.declared.process.Body.{All, All', Body, Row_of-Body, end_of-Body, items-the_row-Body, items_hidden-the_row-Body-0, more_of-Body}
pub use Rattle.sig_tree.specs.declared.process.Group.{Group}
pub use Rattle.sig_tree.specs.declared.process.Item.{Item}
pub use Rattle.sig_tree.specs.declared.process.Process.{Process', Row_of-Process, end_of-Process, items-the_row-Process, items_hidden-the_row-Process-0, more_of-Process}
unfoldable pub use Rattle.sig_tree.specs.declared.process.Process.{roll-Process}
pub use Rattle.sig_tree.specs.declared.process.RunOn.{RunOn}
pub use Rattle.sig_tree.proofs.CombinedReadings.{append_to, between_at, between_once, cons_same, listed_once, part_at, starts_apart}
pub use Rattle.sig_tree.proofs.Common.{AreArguments, AreBodies, AreConstants, AreFurtherBodies, AreGroups, AreLocals, AreParams, ArePragmas, AreSoMany, BeginsBody, BeginsConstant, BeginsExpression, BeginsGroup, BeginsLeft, BeginsName, BeginsPlacement, BeginsProcess, Between, Bodies, Boolean, Called, Computed, ContinuesBodies, ContinuesBody, ContinuesClockEquation, ContinuesDefinition, ContinuesDelay, ContinuesEach, ContinuesExpression, ContinuesGroups, ContinuesInit, ContinuesList, ContinuesLocals, ContinuesNothing, ContinuesOptional, ContinuesPlacements, Declared, Each, Enclosed, Equations, Event, Expression, Further, HasTree, Heading, Integer, IsAtLevel, IsAtom, IsBare, IsBody, IsClockEquation, IsConstant, IsDefinition, IsExpression, IsGroup, IsInit, IsInterface, IsItem, IsLeft, IsLocalGroup, IsModel, IsName, IsOptionalInit, IsOptionalOne, IsParam, IsPlacement, IsPlainItem, IsProgram, IsRight, IsStep, IsWhere, Kind, Leaf, Limits, Listed, MayHave, MayStandInside, Modelled, Named, Number, OneReading, Placement, ProcessModel, ProcessModels, RightSide, Separated, Span, StartsWith, Step, StopsBefore, Terminal, Together, Token, Truth, Unary, WithCell, WithDelay, WithOperand, append_cancel_left, append_cancel_right, binary_level, binary_terminal, both_limits, default_level, delay_level, kind_word, label, leaf, leaves_of, left_level, level_of, mark, mixed_level, more_bodies, more_models, name, name_leaf, no_body, no_limits, no_model, number, operand_level, primary_level, relation_level, right_level, stepped, stepped_all, truth_word, unary_level, unary_terminal, word}
pub use Rattle.sig_tree.proofs.FirstLeaves.{body_begins, clock_equation_begins, constant_begins, expression_begins, left_begins, local_group_begins, model_begins, starts_longer, starts_front}
pub use Rattle.sig_tree.proofs.ListsThatStop.{stops_smaller}
pub use Rattle.sig_tree.proofs.Operators.{Infix as TreeInfix, OfCell, OfDelay, OfTwo, Tighter, continues_tighter, different, infix_found, infix_is, infix_level as tree_level, infix_of, infix_seen, infix_stands, infix_terminal as tree_terminal, is_terminal, no_infix, not_tighter, tighter_continues, two_levels}
pub use Rattle.sig_tree.proofs.ReadBodies.{bar_apart, bodies_once, clock_equation_once, definition_starts, together_apart}
pub use Rattle.sig_tree.proofs.ReadDeclarations.{interface_once, item_groups_once, local_group_once, param_groups_once, placement_once, plain_groups_once, pragma_list_once}
pub use Rattle.sig_tree.proofs.ReadEquations.{Opens, arguments_once, call_opens, call_or_expression, constants_once, left_once, mark_apart, name_no_mark, name_once, name_same, named_alone, names_once, opens_apart, starts_conflict, stops_nothing}
pub use Rattle.sig_tree.proofs.ReadExpressions.{constant_once, expression_once, expression_read, init_once, prefix_first, truth_first}
pub use Rattle.sig_tree.proofs.ReadProcesses.{locals_at, model_once}
pub use Rattle.sig_tree.proofs.ReadSpines.{infix_of_step, infix_same, inner_begins, operand_once, operand_stops, operand_tighter, place_of_step, prefix_no_inner, primary_ends, step_once, step_seen, step_stops, unary_same}
pub use Rattle.sig_tree.proofs.Reader.{AtOpening, AtPrefix, AtTruth, Behind, From, closed, first_of, run}
pub use Rattle.sig_tree.proofs.SettledFunctions.{Settles as ReadSettles, settles_bind, settles_next, settles_now, settles_once, ◌>>=◌}
pub use Rattle.sig_tree.proofs.Spines.{operand_at, operand_unlimited, operand_within, spine_at, spine_of, step_unlimited, step_within}
pub use Rattle.sig_tree.proofs.Unlimited.{body_unlimited, body_within, clock_equation_unlimited, definition_unlimited, expression_unlimited, expression_within, left_unlimited, left_within, model_unlimited, model_within, program_unlimited, program_within, right_unlimited}
pub use Rattle.sig_parse.specs.Declarations.{AreBehindWhere, AreDeclared, HasSides, IsGroupOf, IsInnerProcess, IsItemOf, IsTitle}
pub use Rattle.sig_parse.specs.Exact.{GoesOn, GoesOnOtherwise, IsAnswerOf, IsFirstRefusal, IsRefused, answer_for}
pub use Rattle.sig_parse.specs.Languages.{InArgumentList, InArguments, InClockEquation, InConstant, InConstantList, InConstants, InDefinition, InInit, InLabel, InLeaf, InLeft, InLevel, InName, InNumber, InOne, InOperand, InOptionalInit, InOptionalOne, InRight, InStep, InSteps, counted, step_operators, steps_operators}
pub use Rattle.sig_parse.specs.Lines.{answer_line}
pub use Rattle.sig_parse.specs.Parts.{Body_at, ContinuesItem, ContinuesItems, EndsGroups, InAny, InBodies, InBody, InBraced, InDeclared, InGroup, InGroups, InInterface, InItem, InItems, InKind, InLocalGroup, InNames, InParams, InPragma, InPragmaList, InPragmas, InProcess, InProgram, InSome, InTitle, InWhere, IsAnything, IsBraced, IsDeclared, IsKindOf, IsWherePart, UpTo}
pub use Rattle.sig_parse.specs.Reads.{Covers, IsLeaf, Reads, Shorter}
pub use Rattle.sig_parse.specs.Refusals.{Agrees, Cause, IsAllowed, IsOfText, Reaches, ReachesNext, RefusedBy, Refuses, TooDeep, TooMany, Wrong, cause_of, refused_within}
pub use Rattle.sig_parse.specs.Refused.{IsRefusal, StandsBehind, answer_of, end_of, place_of}
pub use Rattle.sig_parse.specs.Seen.{leaf_seen, terminal_seen}
pub use Rattle.sig_parse.specs.Settling.{Closes, Settles}
pub use Rattle.sig_parse.specs.State.{State}
pub use Rattle.sig_parse.specs.contracts.declaration.Declares.{the_type}
pub use Rattle.sig_parse.specs.declared.declaration.Declares.{Declares}
pub use Rattle.sig_parse.specs.declared.declaration.Declares.TheVariants.{Inputs, Parameters, Signals}
pub use Rattle.sig_parse.specs.declared.keyword.Keyword.{Keyword}
pub use Rattle.sig_parse.specs.declared.keyword.Keyword.TheVariants.{And, Bar, BodyClose, BodyOpen, BraceClose, BraceOpen, ClockLess, ClockMeet, ClockPlus, Close, Comma, Define, Divide, Dollar, End, Exclamation, False, Greater, GreaterEqual, Init, Less, LessEqual, Minus, Modulo, NotEqual, Open, Or, Plus, Pragmas, Process, Question, SameClock, Semicolon, Times, True, Where, Xor}
pub use Rattle.sig_parse.specs.declared.keyword.TheConstants.{MARKS, WORDS}
pub use Rattle.sig_parse.specs.declared.natural.Natural.{Natural}
pub use Rattle.sig_parse.specs.declared.operator.Infix.{Infix}
pub use Rattle.sig_parse.specs.declared.operator.Infix.TheVariants.{Binary, Cell, Delay}
pub use Rattle.sig_parse.specs.declared.operator.Level.{Level}
pub use Rattle.sig_parse.specs.declared.operator.Level.TheVariants.{Mixed, Primary, Product, Relation, Sum}
pub use Rattle.sig_parse.specs.declared.parse_answer.ParseAnswer.{ParseAnswer}
pub use Rattle.sig_parse.specs.declared.parse_answer.ParseAnswer.TheVariants.{OutOfMemory}
pub use Rattle.sig_parse.specs.declared.refusal.Refusal.{Refusal}
pub use Rattle.sig_parse.specs.declared.refusal.Refusal.TheVariants.{Nesting, Operators, Syntax}
pub use Rattle.sig_parse.specs.inner.Ahead.{BeginsCall, BeginsDefinition}
pub use Rattle.sig_parse.specs.inner.Keywords.{IsKeyword, spelling_of, terminal_of}
pub use Rattle.sig_parse.specs.inner.Operators.{BeginsAtom, Completes, ContinuesStep, IsInfix, IsOperator, IsOperatorOf, IsTighter, ReadsStep, first_level, infix_left, infix_level, infix_terminal, level_number}
pub use Rattle.sig_parse.specs.inner.Repeats.{ReadsFurther, ReadsParts, ReadsSeparated, RefusesSeparated}
