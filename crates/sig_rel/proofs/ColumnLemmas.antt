-- What columns span.
use Rattle.sig_rel.proofs.Common.{◌≡◌, ℕ, List, subst, sym, Spans, Node, Ref, SpanColumns, present_at, truth_at, Columns}

module _ (nodes : List Node) (columns : Columns) (vs : List ℕ) (span : SpanColumns nodes columns vs) where
  pub presence_spans : (r : Ref) (k : ℕ) → r ≡ present_at columns k → Spans nodes r vs
  presence_spans r k is = subst (λ (r : Ref). Spans nodes r vs) (sym is) (span.present k)

  pub truth_spans : (r : Ref) (k : ℕ) → r ≡ truth_at columns k → Spans nodes r vs
  truth_spans r k is = subst (λ (r : Ref). Spans nodes r vs) (sym is) (span.truth k)
