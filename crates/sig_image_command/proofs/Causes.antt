-- The cause of the end of an image's run names an input of the image.
use Rattle.sig_image_command.proofs.Common.{◌∷◌, ◌++◌, ℕ, zero, suc, ℤ, List, [], map, inl, inr, sym, subst, arith, Trace, Span, Guards, guarded_in, guards_of, Ends, EndsIn, IsImageRun, Runs, State, cleared, opening, Each, ImageView, IsImage, IsOperation, MayDo, scope_of, ImageNode, ImageOp, ImageOpKind, ImageCause, ImageEnd, IsOfImage}
use Rattle.sig_file.specs.declared.images.ImageOpKind.TheVariants as does

module _ (image : ImageView) (right : IsImage image) where
  ends_there : (kind : ImageOpKind) (at : Span) (s : State) (cause : ImageCause) → MayDo (scope_of image) kind → Ends kind at s cause → IsOfImage image cause
  ends_there (does.Read x) at s cause may ends = subst (λ (c : ImageCause). IsOfImage image c) (sym ends.1) (let within = right.interface in omega (arith, may, within))
  ends_there (does.Fun y op operands) at s cause may (inl over) = subst (λ (c : ImageCause). IsOfImage image c) (sym over.3) tt
  ends_there (does.Fun y op operands) at s cause may (inr divides) = subst (λ (c : ImageCause). IsOfImage image c) (sym divides.3) tt
  ends_there kind at s cause may ends = absurd ends

  ends_in : (guards : Guards) (nodes : List ImageNode) (before ops : List ImageOp) (s : State) (cause : ImageCause) → Each (λ before. IsOperation (scope_of image)) before ops
      → EndsIn guards (map (guarded_in nodes) ops) s cause → IsOfImage image cause
  ends_in guards nodes before [] s cause each ends = absurd ends
  ends_in guards nodes before (op ∷ ops) s cause each (inl here) = ends_there op.kind op.at s cause each.0.kind here.1
  ends_in guards nodes before (op ∷ ops) s cause each (inr later) = ends_in guards nodes (before ++ op ∷ []) ops later.0 cause each.1 later.2

  runs_there : (left : ℕ) (s : State) (committed : Trace) (cause : ImageCause) → Runs (guards_of image) left s committed cause → IsOfImage image cause
  runs_there zero s committed cause runs = subst (λ (c : ImageCause). IsOfImage image c) (sym runs.1) tt
  runs_there (suc left) s committed cause (inl ended) = ends_in (guards_of image) image.nodes [] image.ops (cleared (guards_of image) s) cause right.ops ended.1
  runs_there (suc left) s committed cause (inr goes) = runs_there left goes.0 goes.1 cause goes.4

  pub cause_there : (flows : List (List ℤ)) (limit : ℕ) (text : List ℕ) (end : ImageEnd) → IsImageRun image flows limit text end → IsOfImage image end.cause
  cause_there flows limit text end run = runs_there limit (opening (guards_of image) flows) run.committed end.cause run.runs
