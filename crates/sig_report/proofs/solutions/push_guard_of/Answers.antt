use Rattle.std.proofs.Common.{◌≡◌, ◌∙◌, List, ap, refl, sym}
use Rattle.std.proofs.lemmas.Option.{slice_get_read}
use Rattle.std.specs.Prelude.{slice_get}
use Rattle.sig_clock.specs.Clocks.{ClocksView}
use Rattle.sig_dd.specs.declared.node.Ref.{Ref}
use Rattle.sig_report.proofs.solutions.push_guard_of.Goals as goal

-- the guard is the one that stands at this class
pub push_guard-requires : goal.push_guard-requires
push_guard-requires c =
    let found = c.in-Some.ensures.lookup in
    let same : c.deref.result.now ≡ c.args.clocks.now.guard = c.deref.ensures.value ∙ ap (λ (v : ClocksView). v.guard) c.clocks.view_is in
    c.requires c.args.class c.in-Some.guard.now
    (ap (λ (l : List Ref). slice_get l c.args.class) (sym same) ∙ slice_get_read c.deref.result.now _ c.args.class c.in-Some.guard.now refl found.3.0 found.1)
