-- Expressions with a separator between them, from the trace of a parser that read them one after another.
use Rattle.sig_parse.proofs.Common.{◌≡◌, ◌≤◌, ℕ, List, arith, Expression, Terminal, Leaf, default_level, Limits, both_limits, no_limits, MayHave, operators, IsExpression, StopsBefore, ContinuesNothing, ContinuesList, ContinuesExpression, expression_unlimited, expression_within, expression_once, Refusal, State, Reads, RefusedBy, Settles, Closes, InLevel, InAny, ReadsParts, ReadsSeparated, RefusesSeparated}
use Rattle.sig_parse.proofs.CoveredParts.{covered}
use Rattle.sig_parse.proofs.PassedLanguages.{settled_once}
use Rattle.sig_parse.proofs.RefusedLevels.{fewer}
use Rattle.sig_parse.proofs.RefusedEquations.{Expression_of}
use Rattle.sig_parse.proofs.RepeatedParts.{behind_parts}
use Rattle.sig_parse.proofs.Rows.{Row, alike_once}
use Rattle.sig_parse.proofs.ReadRows.{SoFar, so_far, rows_refused}
use Rattle.sig_parse.proofs.ClosedRows.{Closed, closed_refused, closed_ends}

module _ {B : Type 0} (expression_of : B → Expression) (depth : ℕ) where
  -- an expression was read, or is refused
  abbrev pub ExpressionRead : B → State → State → Type 0
  ExpressionRead e s t = Reads (IsExpression both_limits depth (expression_of e)) (operators (expression_of e)) s t × StopsBefore (ContinuesExpression default_level) t.leaves

  abbrev pub ExpressionRefused : Refusal → State → State → Type 0
  ExpressionRefused why s t = s.operators ≤ 512 → RefusedBy (InLevel default_level depth s.operators) (ContinuesExpression default_level) s t why

  pub expression_settled : (e : B) (s t : State) → ExpressionRead e s t → Settles (InAny (Expression_of depth)) (ContinuesExpression default_level) s.leaves t.leaves
  expression_settled e s t (r, stops) = settled_once (Expression_of depth) (ContinuesExpression default_level) (expression_once no_limits default_level depth) (λ limits x leaves is. expression_unlimited limits default_level depth depth x leaves is) (expression_of e) (covered r) stops

  module _ (separator : Terminal) (apart : ContinuesExpression default_level separator → ⊥) where
    abbrev pub Expressions : ℕ → Limits → List Leaf → Type 0
    Expressions used limits leaves = Row (Expression_of depth) operators MayHave (ContinuesExpression default_level) separator used limits leaves

    pub expressions_so_far : (s : State) (es : List B) (t : State) → ReadsParts ExpressionRead separator es s t
        → SoFar expression_of (Expression_of depth) operators MayHave (ContinuesExpression default_level) separator apart fewer
        (λ limits x leaves is. expression_within limits default_level depth x leaves is) (λ limits x leaves is. expression_unlimited limits default_level depth depth x leaves is)
        (alike_once (Expression_of depth) operators (ContinuesExpression default_level) (expression_once no_limits default_level depth)) ExpressionRead (λ e s t p. p.0) expression_settled s es t
    expressions_so_far s es t h = so_far expression_of (Expression_of depth) operators MayHave (ContinuesExpression default_level) separator apart fewer
        (λ limits x leaves is. expression_within limits default_level depth x leaves is) (λ limits x leaves is. expression_unlimited limits default_level depth depth x leaves is)
        (alike_once (Expression_of depth) operators (ContinuesExpression default_level) (expression_once no_limits default_level depth)) ExpressionRead (λ e s t p. p.0) expression_settled s es t h

    pub expressions_refused : (why : Refusal) (s t : State) → s.operators ≤ 512 → RefusesSeparated ExpressionRead ExpressionRefused separator s t why
        → RefusedBy (Expressions s.operators) (ContinuesList separator (ContinuesExpression default_level)) s t why
    expressions_refused why s t few h = rows_refused expression_of (Expression_of depth) operators MayHave (ContinuesExpression default_level) separator apart fewer
        (λ limits x leaves is. expression_within limits default_level depth x leaves is) (λ limits x leaves is. expression_unlimited limits default_level depth depth x leaves is)
        (alike_once (Expression_of depth) operators (ContinuesExpression default_level) (expression_once no_limits default_level depth)) ExpressionRead (λ e s t p. p.0) expression_settled
        (λ s. s.operators ≤ 512) (λ L n s t r ready. r.few ready) ExpressionRefused (λ why s t ready r text. r ready text) why s t few h

    -- nothing continues the last of them
    pub last_stops : (s : State) (es : List B) (t : State) → ReadsParts ExpressionRead separator es s t → StopsBefore (ContinuesExpression default_level) t.leaves
    last_stops s es t h = behind_parts ExpressionRead separator (λ es t. StopsBefore (ContinuesExpression default_level) t.leaves) (λ xs x at t u v before q p. p.1) s (λ x t p. p.1) es t h

    -- up to what closes them
    module _ (closing : Terminal) (differ : separator ≡ closing → ⊥) (ends : ContinuesExpression default_level closing → ⊥) where
      abbrev pub Enclosed : ℕ → Limits → List Leaf → Type 0
      Enclosed used limits leaves = Closed (Expression_of depth) operators MayHave (ContinuesExpression default_level) separator closing used limits leaves

      pub enclosed_refused : (why : Refusal) (s t : State) → s.operators ≤ 512 → StopsBefore (λ u. u ≡ closing) s.leaves → RefusesSeparated ExpressionRead ExpressionRefused separator s t why
          → RefusedBy (Enclosed s.operators) ContinuesNothing s t why
      enclosed_refused why s t few open_here h text = closed_refused (Expression_of depth) operators MayHave (ContinuesExpression default_level) separator closing differ ends s.operators open_here (expressions_refused why s t few h text)

      pub enclosed_closes : (s : State) (es : List B) (t : State) → s.operators ≤ 512 → StopsBefore (λ u. u ≡ closing) s.leaves → ReadsSeparated ExpressionRead separator es s t → Closes (Enclosed s.operators) closing s.leaves t.leaves
      enclosed_closes s es t few open_here (h, stops) cause stopped r =
          let before = expressions_so_far s es t h in
          let fits : t.operators ≤ 512 = before.0.few few in
          closed_ends (Expression_of depth) operators MayHave (ContinuesExpression default_level) separator closing differ ends s.operators t.operators open_here before.1 (λ limits kept. omega arith) stops cause stopped r
