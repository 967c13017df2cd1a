-- Links of marked signals.
use Rattle.sig_part.proofs.Common.{◌≡◌, ◌<◌, ◌+◌, ◌⊎◌, inl, inr, ℕ, Bool, false, List, [], ◌∷◌, ◌++◌, length, get_or, refl, sym, ap, ◌∙◌, subst, arith, Some, cases_order, false≢true, Contains-append_left, Contains-push, SigId, Signal, cluster_at, cluster_of, AreSignalLinks, IsEarlierLink, LinkInfo, AreLinksBefore, IsBefore, IsMarkedFor, IsMarkedLink, AreMarkedIn, mark_at, signal_same, at_contained, get_pushed}
use Rattle.sig_part.proofs.Lists.{pairwise_push}

pub links_none : (signals : List Signal) (marks : List (List Bool)) → AreLinksBefore signals marks 0 0 []
links_none signals marks = record {
  each = λ number link is. cc;
  all = λ reader x within is before. absurd (none reader x before);
  order = λ i j a b less is_a is_b. cc;
} where
  none : (reader : ℕ) (x : SigId) → IsBefore 0 0 reader x → ⊥
  none reader x (inl less) = omega (arith, less)
  none reader x (inr here) = omega (arith, here.1)

module _ (n r other : ℕ) (y : SigId) where
  before_later : IsBefore n r other y → IsBefore n (r + 1) other y
  before_later (inl less) = inl less
  before_later (inr here) = let lt : other < r = here.1 in inr (here.0, omega (arith, lt))

  -- before the next reader: before this one, or this one
  before_or_here : IsBefore n (r + 1) other y → IsBefore n r other y ⊎ ((y.0 ≡ n) × (other ≡ r))
  before_or_here (inl less) = inl (inl less)
  before_or_here (inr here) = at (cases_order other r) where
    at : ((other ≡ r) ⊎ ((other < r) ⊎ (r < other))) → IsBefore n r other y ⊎ ((y.0 ≡ n) × (other ≡ r))
    at (inl e) = inr (here.0, e)
    at (inr (inl less)) = inl (inr (here.0, less))
    at (inr (inr more)) = absurd (omega (arith, more, here.1))

module _ (signals : List Signal) (marks : List (List Bool)) where
  module _ (x : SigId) (r : ℕ) (links : List LinkInfo) (before : AreLinksBefore signals marks x.0 r links) where
    pub links_not : mark_at (get_or marks r []) x.0 ≡ false → AreLinksBefore signals marks x.0 (r + 1) links
    links_not left = record {
      each = λ number link is. let from = before.each number link is in (from.0, from.1, before_later x.0 r link.reader from.0 from.2);
      all = λ other y within marked earlier. elim (before_or_here x.0 r other y earlier) [
        | inl old ↦ before.all other y within marked old
        | inr here ↦ absurd (false≢true (sym left ∙ (λ j. mark_at (get_or marks (sym here.1 j) []) (sym here.0 j)) ∙ marked))
      ];
      order = before.order;
    }

    module _ (writer : ℕ) (owner : cluster_at signals x ≡ writer) (within_actors : r < length marks) (is_marked : IsMarkedFor marks r x) where
      abbrev here_link : LinkInfo
      here_link = record { signal = Some x; writer = writer; reader = r }

      last_is : (y : SigId) (other : ℕ) → IsBefore x.0 r other y → (link : LinkInfo) → link.signal ≡ Some y → link.reader ≡ other → IsEarlierLink link here_link
      last_is y other earlier link signal reader = record { x = y; y = x; is = signal; other = refl; before = at earlier } where
        at : IsBefore x.0 r other y → (y.0 < x.0) ⊎ ((y ≡ x) × (link.reader < r))
        at (inl less) = inl less
        at (inr here) = let lt : other < r = here.1 in inr (signal_same y x here.0, omega (arith, lt, reader))

      pub links_more : AreLinksBefore signals marks x.0 (r + 1) (links ++ here_link ∷ [])
      links_more = record {
        each = λ number link is. elim (get_pushed links here_link number link is) [
          | inl old ↦ (let from = before.each number link old in (from.0, from.1, before_later x.0 r link.reader from.0 from.2))
          | inr here ↦ subst (λ (l : LinkInfo). (y : SigId) × IsMarkedLink signals marks l y × IsBefore x.0 (r + 1) l.reader y) here.1
              (x, record { signal = refl; writer = sym owner; reader = within_actors; marked = is_marked }, inr (refl, omega arith))
        ];
        all = λ other y within marked earlier. elim (before_or_here x.0 r other y earlier) [
          | inl old ↦ (let from = before.all other y within marked old in (from.0, Contains-append_left links (here_link ∷ []) from.0 from.1, from.2, from.3))
          | inr here ↦ (here_link, Contains-push links here_link, ap Some (signal_same x y (sym here.0)), sym here.1)
        ];
        order = pairwise_push IsEarlierLink links here_link before.order (λ link there.
            let from = before.each there.0 link (at_contained links link there) in last_is from.0 link.reader from.2 link from.1.signal refl);
      }

  -- all readers are done
  pub links_next : (n : ℕ) (links : List LinkInfo) → AreLinksBefore signals marks n (length marks) links → AreLinksBefore signals marks (n + 1) 0 links
  links_next n links before = record {
    each = λ number link is. let from = before.each number link is in (from.0, from.1, inl (below link.reader from.0 from.2));
    all = λ other y within marked earlier. before.all other y within marked (back other y within earlier);
    order = before.order;
  } where
    below : (other : ℕ) (y : SigId) → IsBefore n (length marks) other y → y.0 < n + 1
    below other y (inl less) = omega (arith, less)
    below other y (inr here) = omega (arith, here.0)

    back : (other : ℕ) (y : SigId) → other < length marks → IsBefore (n + 1) 0 other y → IsBefore n (length marks) other y
    back other y within (inr here) = absurd (omega (arith, here.1))
    back other y within (inl less) = at (cases_order y.0 n) where
      at : ((y.0 ≡ n) ⊎ ((y.0 < n) ⊎ (n < y.0))) → IsBefore n (length marks) other y
      at (inl e) = inr (e, within)
      at (inr (inl lt)) = inl lt
      at (inr (inr more)) = absurd (omega (arith, more, less))

  -- the links of marked signals are those of the lists of these
  pub signal_links : (imports : List (List SigId)) (links : List LinkInfo) → AreMarkedIn (length signals) marks imports → AreLinksBefore signals marks (length signals) 0 links → AreSignalLinks signals imports links
  signal_links imports links lists are =
      let count = lists.count in
      record {
        each = λ number link is.
            let from = are.each number link is in
            let within : link.reader < length marks = from.1.reader in (
              from.0,
              record {
                signal = from.1.signal;
                writer = λ owner get. from.1.writer ∙ ap cluster_of get;
                reader = omega (arith, within, count);
                imported = ((lists.each link.reader within).all from.0).1 (inside link.reader from.0 from.2, from.1.marked);
              },
            );
        all = λ reader x within there.
            let actor : reader < length marks = omega (arith, within, count) in
            let is = ((lists.each reader actor).all x).0 there in
            are.all reader x actor is.1 (inl is.0);
        order = are.order;
      } where
        inside : (other : ℕ) (y : SigId) → IsBefore (length signals) 0 other y → y.0 < length signals
        inside other y (inl less) = less
        inside other y (inr here) = absurd (omega (arith, here.1))
