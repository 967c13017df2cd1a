-- What the proofs of this crate cite of std, of the crates below and of its own specs, passed on from one place.
pub use Rattle.std.proofs.Common.{Bool, Bor, Contains, Global, IsTrue, List, None, Option, Some, Vec, [], ap, append_assoc, arith, bytes_eq, cond, false, find, flat_map, get_or, inl, inr, is_some, length, map, option_map, refl, subst, suc, sym, take, take_all, true, zero, ℕ, ◌++◌, ◌+◌, ◌<◌, ◌↔◌, ◌∙◌, ◌∷◌, ◌≡◌, ◌⊎◌}
pub use Rattle.std.proofs.lemmas.List.{get_or_default, length-map, map-append, take_more}
pub use Rattle.std.proofs.lemmas.List.Concat.{flat_map-append}
pub use Rattle.std.proofs.lemmas.Map.Text.{btree_map_updates_str}
pub use Rattle.std.proofs.lemmas.Simd.{map-map}
pub use Rattle.std.proofs.lemmas.Slice.Eq.{bytes_eq-Decides}
pub use Rattle.sig_lists.proofs.Contained.{contains_later, contains_none}
pub use Rattle.sig_lists.proofs.Grown.{grown}
pub use Rattle.sig_lists.proofs.Places.{read_mapped}
pub use Rattle.sig_tree.specs.Declarations.{Declaration, Input, Local, Output, Parameter, declaration_of, declared_as, equations_in, equations_inside, equations_of_model, inputs_of, locals_of, name_of, outputs_of, params_of, pragmas_of_model, those_inner, with_inner}
pub use Rattle.sig_tree.specs.Syntax.{ProcessModel, bodies_of, declared_of, equations_of, model_of, models_of, placement_of}
pub use Rattle.sig_tree.specs.declared.expr.Name.{Name}
pub use Rattle.sig_tree.specs.declared.process.Body.{All, All', Body, Row_of-Body, end_of-Body, items-the_row-Body, items_hidden-the_row-Body-0, more_of-Body}
pub use Rattle.sig_tree.specs.declared.process.Process.{Process, Process', Row_of-Process, end_of-Process, items-the_row-Process, items_shown-the_row-Process-0, more_of-Process}
unfoldable pub use Rattle.sig_tree.specs.declared.process.Process.{out-Process}
pub use Rattle.sig_scope.specs.Declarations.{declaration_in, declarations_in, item_in, role_in, texts_in}
pub use Rattle.sig_scope.specs.Places.{place_of}
pub use Rattle.sig_scope.specs.Walked.{bodies_in, interface_models, models_in}
pub use Rattle.sig_scope.specs.declared.declared.Declared.{Declared}
pub use Rattle.sig_scope.specs.declared.scope.Interface.{Interface}
