-- Calls in a row, one after another.
use Rattle.sig_dd.proofs.Common.{ℕ, ◌+◌, List, [], ◌∷◌, Option, None, StoreView, Holds, Keeps, Spans, Share, Shares, SpanAll, HoldAll, HasAll, Trail, DdAnswer, Ref}
use Rattle.sig_dd.proofs.CallsInARow.{Share-none, Share-then}
use Rattle.sig_dd.proofs.CallerLemmas.{Keeps-itself, Keeps-trans, Holds-kept, Spans-kept}

pub Trail-begins : (vs : List ℕ) (s : StoreView) (fs : List Ref) → HoldAll s.nodes fs → SpanAll s.nodes fs vs → Trail 0 vs s s fs
Trail-begins vs s fs held spans = record { kept = Keeps-itself s; share = Share-none s vs; held = held; spans = spans }

module _ (s t : StoreView) (kept : Keeps s t) where
  HoldAll-kept : (fs : List Ref) → HoldAll s.nodes fs → HoldAll t.nodes fs
  HoldAll-kept [] h = tt
  HoldAll-kept (f ∷ fs) h = (Holds-kept s t kept f h.0, HoldAll-kept fs h.1)

  SpanAll-kept : (vs : List ℕ) (fs : List Ref) → HoldAll s.nodes fs → SpanAll s.nodes fs vs → SpanAll t.nodes fs vs
  SpanAll-kept vs [] h spans = tt
  SpanAll-kept vs (f ∷ fs) h spans = (Spans-kept s t kept f h.0 vs spans.0, SpanAll-kept vs fs h.1 spans.1)

module _ (m n : ℕ) (vs : List ℕ) (r s t : StoreView) (fs gs : List Ref) (us : List ℕ) where
  -- one more call, or several
  pub Trail-next : Trail m vs r s fs → Keeps s t → Shares n gs us s t None → SpanAll s.nodes gs vs → HasAll vs us
      → (f : Ref) → Holds t.nodes f → Spans t.nodes f vs → Trail (m + n) vs r t (f ∷ fs)
  Trail-next trail kept call spans has f held spans_f = record {
    kept = Keeps-trans r s t trail.kept kept;
    share = Share-then r s t m n vs None trail.share (call.over vs spans has);
    held = (held, HoldAll-kept s t kept fs trail.held);
    spans = (spans_f, SpanAll-kept s t kept vs fs trail.held trail.spans);
  }

  -- and where the last one is refused
  pub Trail-fails : (why : Option DdAnswer) → Trail m vs r s fs → Shares n gs us s t why → SpanAll s.nodes gs vs → HasAll vs us → Share (m + n) vs r t why
  Trail-fails why trail call spans has = Share-then r s t m n vs why trail.share (call.over vs spans has)
