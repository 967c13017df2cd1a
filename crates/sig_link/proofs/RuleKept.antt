-- Each step of an end keeps the rule of the link.
use Rattle.std.proofs.Common.{◌≡◌, ◌≢◌, ℕ, zero, suc, true, false, true≢false, List, [], ◌∷◌, ◌++◌, length, set, sym, refl, ap, ◌∙◌, subst, ⊎_elim, append_assoc}
use mathlib.Core.Option.{some, some-ne-none}
use lib.ListN.{get_elem?}
use Rattle.crossbeam_queue.specs.Fifo.{Pushes, Pops, Forks, Merges, Learns}
use Rattle.crossbeam_queue.proofs.Lists.{at_set, at_snoc}
use Rattle.sig_link.specs.declared.rule.Hand.{Hand}
use Rattle.sig_link.specs.Rule.{hand, KnowsSent, KnowsTaken, InOrder, TakenIsPrefix}

module _ {T : Type 0} where
  at_end : (l : List (Hand T)) (a b : Hand T) (j : ℕ) → get_elem? l j ≢ some b → get_elem? (l ++ a ∷ []) j ≡ some b → j ≡ length l
  at_end [] a b zero n e = refl
  at_end [] a b (suc j) n e = absurd (some-ne-none b (sym e))
  at_end (x ∷ xs) a b zero n e = absurd (n e)
  at_end (x ∷ xs) a b (suc j) n e = ap suc (at_end xs a b j n e)

  -- each hand, with its number
  abbrev Each : (ℕ → Hand T → Type 0) → List (Hand T) → Type 0
  Each F hands = (number : ℕ) (h : Hand T) → get_elem? hands number ≡ some h → F number h

  abbrev Knows : ℕ → ℕ → List T → List T → ℕ → Hand T → Type 0
  Knows putter taker sent taken number h = KnowsSent putter sent number h × KnowsTaken taker taken number h

  each_set : (F : ℕ → Hand T → Type 0) (hands : List (Hand T)) (number : ℕ) (w : Hand T) → F number w → ((j : ℕ) (u : Hand T) → j ≢ number → get_elem? hands j ≡ some u → F j u) → Each F (set hands number w)
  each_set F hands number w mine others j u e = ⊎_elim (λ (x : (j ≡ number) × (w ≡ u)). subst (λ (y : ℕ × Hand T). F y.0 y.1) (λ i. (sym x.0 i, x.1 i)) mine)
      (λ (x : (j ≢ number) × (get_elem? hands j ≡ some u)). others j u x.0 x.1) (at_set hands number j w u e)

  -- the making of the queue and the first hand
  pub begins : InOrder {T = T} [] (hand true true [] [] ∷ [])
  begins = (0, 0, [], [], refl, each_set (Knows 0 0 [] []) (hand true true [] [] ∷ []) 0 (hand true true [] []) ((λ _. (refl, refl)), λ _. (refl, refl)) (λ j u other e. absurd (other (at_end [] _ u j (λ x. some-ne-none u (sym x)) e))))

  -- a push that finds room
  pub pushes : (n number : ℕ) (h : Hand T) (x : T) → h.puts ≡ true → Pushes InOrder n number h x (λ w. w ≡ hand h.puts h.takes (h.sent ++ x ∷ []) h.taken)
  pushes n number v x may items views _ h at = let w : Hand T = hand v.puts v.takes (v.sent ++ x ∷ []) v.taken in let mine = h.5 number v at in let sent = h.2 ++ x ∷ [] in (
    w,
    (
      h.0,
      h.1,
      sent,
      h.3,
      ap (λ l. l ++ x ∷ []) h.4 ∙ append_assoc h.3 items (x ∷ []),
      each_set (Knows h.0 h.1 sent h.3) views number w ((λ _. ((mine.0 may).0, ap (λ l. l ++ x ∷ []) (mine.0 may).1)), mine.1)
          (λ j u other e. ((λ p. absurd (other (((h.5 j u e).0 p).0 ∙ sym (mine.0 may).0))), (h.5 j u e).1)),
    ),
    refl,
  )

  -- a push that finds no room: what it learns of the queue
  pub full : (number : ℕ) (h : Hand T) → h.puts ≡ true → Learns InOrder number h (λ queue. (taken : List T) × (h.sent ≡ taken ++ queue))
  full number v may items views h at = (h.3, ((h.5 number v at).0 may).1 ∙ h.4)

  -- a pop that finds an item
  pub pops : (number : ℕ) (h : Hand T) → h.takes ≡ true → Pops InOrder number h (λ x w. w ≡ hand h.puts h.takes h.sent (h.taken ++ x ∷ []))
  pops number v may x items views h at = let w : Hand T = hand v.puts v.takes v.sent (v.taken ++ x ∷ []) in let mine = h.5 number v at in let taken = h.3 ++ x ∷ [] in (
    w,
    (
      h.0,
      h.1,
      h.2,
      taken,
      h.4 ∙ sym (append_assoc h.3 (x ∷ []) items),
      each_set (Knows h.0 h.1 h.2 taken) views number w (mine.0, λ _. ((mine.1 may).0, ap (λ l. l ++ x ∷ []) (mine.1 may).1))
          (λ j u other e. ((h.5 j u e).0, λ p. absurd (other (((h.5 j u e).1 p).0 ∙ sym (mine.1 may).0)))),
    ),
    refl,
  )

  -- a pop that finds no item: what it learns of the queue
  pub empty : (number : ℕ) (h : Hand T) → h.takes ≡ true → Learns InOrder number h (λ queue. (sent : List T) × (sent ≡ h.taken ++ queue))
  empty number v may items views h at = (h.2, h.4 ∙ ap (λ l. l ++ items) (sym ((h.5 number v at).1 may).1))

  -- the making of the second end
  pub forks : (number : ℕ) (h : Hand T) → h.puts ≡ true → h.takes ≡ true → Forks InOrder number h (hand true false h.sent []) (hand false true [] h.taken)
  forks number v a b items views h at = let l : Hand T = hand true false v.sent [] in let r : Hand T = hand false true [] v.taken in let mine = h.5 number v at in let vs : List (Hand T) = set views number l in
      let Old : ℕ → Hand T → Type 0 = λ j u. (u.puts ≡ true → (j ≡ h.0) × (u.sent ≡ h.2)) × (u.takes ≢ true) in
      let old : Each Old vs = each_set Old views number l ((λ _. mine.0 a), λ p. true≢false (sym p)) (λ j u other e. ((h.5 j u e).0, λ p. other (((h.5 j u e).1 p).0 ∙ sym (mine.1 b).0))) in (
        h.0,
        length vs,
        h.2,
        h.3,
        h.4,
        λ j u e. ⊎_elim (λ x. ((old j u x).0, λ p. absurd ((old j u x).1 p)))
            (λ (is : r ≡ u). ((λ p. absurd (true≢false (sym (ap (λ (y : Hand T). y.puts) is ∙ p)))), λ p. (at_end vs r u j (λ x. (old j u x).1 p) e, ap (λ (y : Hand T). y.taken) (sym is) ∙ (mine.1 b).1))) (at_snoc vs r u j e),
      )

  -- the settling
  pub merges : (number : ℕ) (h : Hand T) (other : ℕ) (u : Hand T) → h.puts ≡ true → u.takes ≡ true → Merges InOrder number h other u (hand true true h.sent u.taken) (hand false false [] [])
  merges number v other u a b items views h at two at' = let both : Hand T = hand true true v.sent u.taken in let mine = h.5 number v at in let vs : List (Hand T) = set views number both in
      let was : get_elem? views other ≡ some u = ⊎_elim (λ x. absurd (two x.0)) (λ x. x.1) (at_set views number other both u at') in let theirs = (h.5 other u was).1 b in
      let Now : ℕ → Hand T → Type 0 = λ j y. j ≢ other → Knows h.0 number h.2 h.3 j y in
      let now : Each Now vs = each_set Now views number both (λ _. ((λ _. mine.0 a), λ _. (refl, theirs.1))) (λ j y _ e apart. ((h.5 j y e).0, λ p. absurd (apart (((h.5 j y e).1 p).0 ∙ sym theirs.0)))) in
      (h.0, number, h.2, h.3, h.4, each_set (Knows h.0 number h.2 h.3) vs other (hand false false [] []) ((λ p. absurd (true≢false (sym p))), λ p. absurd (true≢false (sym p))) (λ j y apart e. now j y e apart))

  -- the count of a settled link: what the hand of both ends learns
  pub settles : (number : ℕ) (h : Hand T) → h.puts ≡ true → h.takes ≡ true → Learns InOrder number h (λ queue. h.sent ≡ h.taken ++ queue)
  settles number v a b items views h at = let mine = h.5 number v at in (mine.0 a).1 ∙ h.4 ∙ ap (λ l. l ++ items) (sym (mine.1 b).1)

  -- what was taken is a prefix of what was sent
  pub prefix : (queue : List T) (hands : List (Hand T)) → InOrder queue hands → TakenIsPrefix hands
  prefix queue hands h i j p t at at' puts takes = (queue, ((h.5 i p at).0 puts).1 ∙ h.4 ∙ ap (λ l. l ++ queue) (sym ((h.5 j t at').1 takes).1))
