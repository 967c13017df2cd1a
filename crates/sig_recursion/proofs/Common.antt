-- What the proofs of this crate cite of std, of the crates below and of its own specs, passed on from one place.
pub use Rattle.std.proofs.Common.{All, Bool, Bor, Contains, IsTrue, List, None, Option, Some, [], ap, arith, bytes_eq, cond, count_by, false, find, flat_map, get_or, get_or-set_other, get_or-set_same, inl, inr, leb, leb-false, length, length-append, length-set, map, map-id, not, refl, set, subst, suc, sym, take, take_all, true, zero, ℕ, ◌++◌, ◌+◌, ◌<◌, ◌↔◌, ◌∙◌, ◌∷◌, ◌≡◌, ◌≢◌, ◌≤◌, ◌⊎◌}
pub use Rattle.std.proofs.lemmas.Bool.{cases_eq, cases_lt}
pub use Rattle.std.proofs.lemmas.List.{get_or-map, get_or_past}
pub use Rattle.std.proofs.lemmas.List.Elements.{All-contains, All-more, Contains-append_cases, Contains-append_left, Contains-append_right, Contains-get_or, Contains-push, Contains-push_cases}
pub use Rattle.std.proofs.lemmas.List.Sums.{sum_by-set}
pub use Rattle.std.specs.Global.{Vec}
pub use Rattle.std.specs.List.{AllByRecursion}
pub use Rattle.sig_lists.proofs.Contained.{contains_head}
pub use Rattle.sig_lists.proofs.Fronts.{front_more}
pub use Rattle.sig_lists.proofs.Grown.{lengthens}
pub use Rattle.sig_tree.specs.Declarations.{called_by, called_in, process_of, texts}
pub use Rattle.sig_tree.specs.Rules.{ByCall, Itself, Reaches}
pub use Rattle.sig_scope.specs.Walked.{names_in, process_texts}
pub use Rattle.sig_scope.specs.declared.scope.Interface.{Interface}
pub use Rattle.sig_scope.proofs.Common.{Body, Name, ProcessModel, bodies_in, bytes_eq-Decides, contains_later, contains_none, equations_of, get_or_default, grown, interface_models, length-map, map-map, model_of, name_of, place_of}
pub use Rattle.sig_scope.proofs.FirstPlaces.{find_none, find_some, within}
pub use Rattle.sig_scope.proofs.Trees.{body_is}
pub use Rattle.sig_recursion.specs.Calls.{Here, IsCovered, IsFalling, IsGraph, IsPassed, IsVisited, IsWalk, Path, There, Visits, callees_at, graph_in, graph_of, list_of, places_called, rank_of}
