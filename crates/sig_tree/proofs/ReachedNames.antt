-- Whether calls lead from a process to another one is decided. A way through the names of a list goes past
-- its first name, or twice through the rest: to that name and from it.
use Rattle.sig_tree.proofs.Common.{◌≡◌, ◌⊎◌, ℕ, List, [], ◌∷◌, Bool, true, false, cond, Some, map, inl, inr, refl, subst, none-some, bytes_eq, same_bytes, Contains, contains_none, contains_cons, contains_head, contains_later, dec_both, dec_contains, dec_either, dec_some, dec_text, map_dec, ProcessModel}
use Rattle.sig_tree.specs.Declarations.{called_by, name_of, process_of, texts}
use Rattle.sig_tree.specs.Rules.{ByCall, CallsByName, Itself, Reaches}

-- who calls is among the processes
named_among : (all : List ProcessModel) (text : List ℕ) (p : ProcessModel) → process_of all text ≡ Some p → Contains (texts (map name_of all)) text
named_among [] text p is = absurd (none-some p is)
named_among (first ∷ all) text p is = by (bytes_eq (name_of first).text text) refl is (λ later. named_among all text p later) where
  by : (b : Bool) → bytes_eq (name_of first).text text ≡ b → cond b (Some first) (process_of all text) ≡ Some p
      → (process_of all text ≡ Some p → Contains (texts (map name_of all)) text) → Contains (texts (map name_of (first ∷ all))) text
  by true same is rest = subst (Contains (texts (map name_of (first ∷ all)))) (same_bytes (name_of first).text text same) (contains_head (name_of first).text (texts (map name_of all)))
  by false other is rest = contains_later (name_of first).text text (texts (map name_of all)) (rest is)

module _ (all : List ProcessModel) where
  abbrev Text : Type 0
  Text = List ℕ

  dec_calls : (caller called : Text) → Dec (CallsByName all caller called)
  dec_calls caller called =
      dec_some (λ (p : ProcessModel). Contains (texts (called_by p)) called) (process_of all caller)
      (λ p. dec_contains dec_text (texts (called_by p)) called)

  -- from a name to another one by no call, by one, or by calls through names of a list
  abbrev Through : List Text → Text → Text → Type 0
  Through [] from to = (from ≡ to) ⊎ CallsByName all from to
  Through (name ∷ names) from to = Through names from to ⊎ (Through names from name × Through names name to)

  dec_through : (names : List Text) (from to : Text) → Dec (Through names from to)
  dec_through [] from to = dec_either (dec_text from to) (dec_calls from to)
  dec_through (name ∷ names) from to = dec_either (dec_through names from to) (dec_both (dec_through names from name) (dec_through names name to))

  -- one way behind another
  joined : {from next to : Text} → Reaches all from next → Reaches all next to → Reaches all from to
  joined Itself way = way
  joined (ByCall first rest) way = ByCall first (joined rest way)

  reaches : (names : List Text) (from to : Text) → Through names from to → Reaches all from to
  reaches [] from to (inl same) = subst (Reaches all from) same Itself
  reaches [] from to (inr calls) = ByCall calls Itself
  reaches (name ∷ names) from to (inl way) = reaches names from to way
  reaches (name ∷ names) from to (inr ways) = joined (reaches names from name ways.0) (reaches names name to ways.1)

  direct : (names : List Text) (from to : Text) → (from ≡ to) ⊎ CallsByName all from to → Through names from to
  direct [] from to step = step
  direct (name ∷ names) from to step = inl (direct names from to step)

  to_head : (names : List Text) (name from : Text) → Through (name ∷ names) from name → Through names from name
  to_head names name from (inl way) = way
  to_head names name from (inr ways) = ways.0

  from_head : (names : List Text) (name to : Text) → Through (name ∷ names) name to → Through names name to
  from_head names name to (inl way) = way
  from_head names name to (inr ways) = ways.1

  -- ways that meet at a name of the list
  through : (names : List Text) (from next to : Text) → Contains names next → Through names from next → Through names next to → Through names from to
  through [] from next to there first rest = absurd (contains_none next there)
  through (name ∷ names) from next to there first rest = elim (contains_cons name next names there) [
    | inl same ↦ inr (
      to_head names name from (subst (Through (name ∷ names) from) same first),
      from_head names name to (subst (λ n. Through (name ∷ names) n to) same rest),
    )
    | inr later ↦ meet (λ a b. through names a next b later) first rest
  ] where
    meet : ((a b : Text) → Through names a next → Through names next b → Through names a b)
        → Through (name ∷ names) from next → Through (name ∷ names) next to → Through (name ∷ names) from to
    meet join (inl first) (inl rest) = inl (join from to first rest)
    meet join (inl first) (inr rest) = inr (join from name first rest.0, rest.1)
    meet join (inr first) (inl rest) = inr (first.0, join name to first.1 rest)
    meet join (inr first) (inr rest) = inr (first.0, rest.1)

  abbrev Names : List Text
  Names = texts (map name_of all)

  -- one call before a way
  led : (from next to : Text) → CallsByName all from next → Reaches all next to → Through Names next to → Through Names from to
  led from _ _ first (Itself {name}) way = direct Names from name (inr first)
  led from _ to first (ByCall {from = next} second others) way = through Names from next to (named_among all next second.0 second.1) (direct Names from next (inr first)) way

  goes_through : (from to : Text) → Reaches all from to → Through Names from to
  goes_through _ _ (Itself {name}) = direct Names name name (inl refl)
  goes_through from to (ByCall {next = next} first rest) = led from next to first rest (goes_through next to rest)

  pub dec_reaches : (from to : Text) → Dec (Reaches all from to)
  dec_reaches from to = map_dec (reaches Names from to) (goes_through from to) (dec_through Names from to)
