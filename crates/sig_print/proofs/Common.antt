-- What the proofs of this crate cite of std, of the crates below and of its own specs, passed on from one place.
pub use Rattle.std.proofs.Common.{All, Err, Global, List, None, Ok, OnOk, Option, Result, Some, Vec, [], ap, append-nil, append_assoc, arith, codes, false, flat_map, fold, get_or, if◌then◌else◌, inl, inr, length, length-append, lit<, lit≤, map, nat_lt, neg_ℤ, option_map, option_to_list, pos, refl, rules, slice_range, subst, suc, sum_by, sym, take, take_all, take_at, true, zero, ℕ, ℤ, ◌++◌, ◌+◌, ◌-◌, ◌<◌, ◌==◌, ◌^◌, ◌∙◌, ◌∷◌, ◌≡◌, ◌≢◌, ◌≤◌, ◌⊎◌}
pub use Rattle.std.proofs.lemmas.Fmt.{decimal_nonempty, digits_decimal, digits_value-decimal}
pub use Rattle.std.proofs.lemmas.List.{get_or_default}
pub use Rattle.std.proofs.lemmas.List.Concat.{flat_map-append}
pub use Rattle.std.proofs.lemmas.List.Elements.{All-cons, All-head, All-nil, All-tail}
pub use Rattle.std.proofs.lemmas.List.Folds.{flat_map-map}
pub use Rattle.sig_lex.specs.declared.token.TokenKind.{TokenKind}
pub use Rattle.sig_lex.specs.declared.token.TokenKind.TheVariants.{Label, Last, Mark, Word}
pub use Rattle.sig_lex.proofs.Common.{AllByRecursion, AllPass, IsInRange, IsMark, IsPrintable, IsWord, Lexeme, Spaced, Span, Spells, greatest_number, is_ascii_digit, is_label_byte, lexemes, map-append, nat_tests, numerals_by_value, spaced_text, take_more, tells_by_index, text_of, the_end, word_of}
pub use Rattle.sig_tree.specs.Leaves.{terminal_of}
pub use Rattle.sig_tree.specs.Limits.{operators, right_operators}
pub use Rattle.sig_tree.specs.Syntax.{Defines, Equal, bodies_of, declared_of, equations_of, expression_of, heading_of, model_of, models_of, placement_of}
pub use Rattle.sig_tree.specs.Terminals.{kind_word as kind_terminal, label as label_terminal, mark as mark_terminal, name as name_terminal}
pub use Rattle.sig_tree.specs.Unplaced.{no_place, unplaced, unplaced_bodies, unplaced_constant, unplaced_declared, unplaced_equations, unplaced_expression, unplaced_init, unplaced_item, unplaced_leaf, unplaced_leaves, unplaced_model, unplaced_models, unplaced_name, unplaced_placement, unplaced_right}
pub use Rattle.sig_tree.specs.declared.expr.BinOp.{BinOp}
pub use Rattle.sig_tree.specs.declared.expr.BinOp.TheVariants.{Add, And, Default, Div, Eq, Ge, Gt, Le, Less, Lt, Meet, Mod, Mul, Ne, Or, Plus, Sub, When, Xor}
pub use Rattle.sig_tree.specs.declared.expr.Constant.{Constant}
pub use Rattle.sig_tree.specs.declared.expr.Constant.TheVariants.{Bool, Int, Param}
pub use Rattle.sig_tree.specs.declared.expr.Name.{Name}
pub use Rattle.sig_tree.specs.declared.expr.UnOp.{UnOp}
pub use Rattle.sig_tree.specs.declared.expr.UnOp.TheVariants.{Clock, Neg, Not, When as UnaryWhen}
pub use Rattle.sig_tree.specs.declared.process.Body.{All', Body, Row_of-Body, end_of-Body, items-the_row-Body, items_hidden-the_row-Body-0, more_of-Body}
pub use Rattle.sig_tree.specs.declared.process.Group.{Group}
pub use Rattle.sig_tree.specs.declared.process.Item.{Item}
pub use Rattle.sig_tree.specs.declared.process.Process.{Process, Process', Row_of-Process, end_of-Process, items-the_row-Process, items_shown-the_row-Process-0, more_of-Process}
unfoldable pub use Rattle.sig_tree.specs.declared.process.Process.{out-Process}
pub use Rattle.sig_tree.specs.declared.process.RunOn.{RunOn}
pub use Rattle.sig_tree.proofs.Common.{AreArguments, AreBodies, AreConstants, AreFurtherBodies, AreGroups, AreLocals, AreParams, ArePragmas, Between, Binary, Bodies, Boolean, Called, Cell, Computed, Declared, Delay, Each, Enclosed, Equations, Event, Expression, Further, Heading, Integer, IsAtLevel, IsBare, IsBody, IsClockEquation, IsConstant, IsDefinition, IsExpression, IsGroup, IsInit, IsInterface, IsItem, IsLeft, IsLocalGroup, IsModel, IsName, IsOptionalInit, IsOptionalOne, IsParam, IsPlacement, IsPlainItem, IsRight, IsWhere, Kind, Leaf, Limits, Listed, MayHave, MayStandInside, Modelled, Named, Number, Placement, ProcessModel, ProcessModels, RightSide, Separated, Stands, Terminal, Together, Token, Truth, Unary, binary_terminal, both_limits, default_level, delay_level, leaf, leaves_of, left_level, level_of, mixed_level, more_bodies, more_models, name_leaf, no_body, no_model, number, operand_level, primary_level, right_level, truth_word, unary_terminal, word}
pub use Rattle.sig_print.specs.Canonical.{bare_words, bodies_words, body_list_words, body_words, canonical_text, constant_words, constants_words, expression_words, fitted, further, further_bodies_words, group_words, groups_words, heading_in, heading_words, init_words, integer_words, item_words, left_words, local_words, names_words, optional_init_words, params_words, pragma_words, pragmas_words, process_words, processes_words, right_words, separated, where_words}
pub use Rattle.sig_print.specs.inner.Prints.{Adds}
pub use Rattle.sig_print.specs.inner.Words.{after_blank, binary_word, kind_word, label, mark, name, number as number_of, on_new_line, one, reserved, truth, unary_word}
