-- One more item that was sent.
use Rattle.std.proofs.Common.{◌≡◌, ◌≢◌, ◌∙◌, ◌++◌, ◌∷◌, [], ℕ, ℤ, Bool, cond, List, append_assoc, append-nil, ap, refl, sym}
use Rattle.std.proofs.lemmas.Bool.{eq-eqb, ne_eqb}
use Rattle.sig_step.specs.LinkEnds.{LinkPast, PastGoesOn, Pushed}
use Rattle.sig_tests_actors.specs.Kept.{item_on, past_of, sent_on}

sent_then : (link : ℕ) (items : List (ℕ × ℤ)) (item : ℕ × ℤ) → sent_on link (items ++ item ∷ []) ≡ sent_on link items ++ item_on link item
sent_then link [] item = append-nil (item_on link item)
sent_then link (x ∷ items) item =
    ap (λ rest. item_on link x ++ rest) (sent_then link items item) ∙ sym (append_assoc (item_on link x) (sent_on link items) (item_on link item))

pub pushed : (items later : List (ℕ × ℤ)) (link : ℕ) (item : ℤ) → later ≡ items ++ (link, item) ∷ [] → PastGoesOn (Pushed link item) (past_of items) (past_of later)
pushed items later link item is = (ap past here, λ other apart. ap past (there other apart)) where
  past : List ℤ → LinkPast
  past sent = record { sent = sent; taken = [] }

  then : (other : ℕ) (is_on : List ℤ) → item_on other (link, item) ≡ is_on → sent_on other later ≡ sent_on other items ++ is_on
  then other is_on given = ap (sent_on other) is ∙ sent_then other items (link, item) ∙ ap (λ more. sent_on other items ++ more) given

  on : Bool → List ℤ
  on is_same = cond is_same (item ∷ []) []

  here : sent_on link later ≡ sent_on link items ++ item ∷ []
  here = then link (item ∷ []) (ap on (eq-eqb link link refl))

  there : (other : ℕ) → other ≢ link → sent_on other later ≡ sent_on other items
  there other apart = then other [] (ap on (ne_eqb link other (λ e. apart (sym e)))) ∙ append-nil (sent_on other items)
